-- Tests that are joined.
use Rattle.std.proofs.Common.{◌≡◌, Bool, true, false}

pub true_not_false : (b : Bool) → b ≡ true → b ≡ false → ⊥
true_not_false true h k = absurd (cc)
true_not_false false h k = absurd (cc)
