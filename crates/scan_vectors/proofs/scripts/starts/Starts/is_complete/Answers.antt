use Rattle.std.proofs.Common.{◌≡◌, ℕ, Bool, true, false, nat_eq, List, arith, refl}
use Rattle.std.specs.Prelude.{count_by, MatchBool}
use Rattle.scan_vectors.specs.Starts.{IsComplete, IsWaiting}
use Rattle.scan_vectors.proofs.Flags.{none_flagged, some_flagged}
use Rattle.scan_vectors.proofs.scripts.starts.Starts.is_complete.Goals as goal

counted : (flags : List Bool) (count : ℕ) → count ≡ count_by (λ w. w) flags → MatchBool (nat_eq count 0) (IsComplete flags) (IsWaiting flags)
counted flags count is = go (nat_eq count 0) refl
  where
    go : (b : Bool) → nat_eq count 0 ≡ b → MatchBool b (IsComplete flags) (IsWaiting flags)
    go true e = none_flagged flags (grind (arith, is, e))
    go false e = let some = some_flagged flags (grind (arith, is, e)) in record { net = some.place; wants = some.there }

pub returns : goal.returns
returns c = rw (← c.self.view_is) (counted c.self.inside.wanted.items c.self.inside.missing c.self.invariant)
