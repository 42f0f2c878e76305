-- A list that grows by what a function gives for each number.
use Rattle.std.proofs.Common.{◌≡◌, ℕ, ◌+◌, List, [], ◌∷◌, ◌++◌, map, refl, arith}
use Rattle.std.specs.List.{range_with_len}
use Rattle.std.proofs.lemmas.List.{append_assoc}
use Rattle.std.proofs.lemmas.List.FromFn.{map-range_with_len_more}

pub pushed_more : {X : Type 0} (f : ℕ → X) (old now new : List X) (n : ℕ) → now ≡ old ++ map f (range_with_len 0 n) → new ≡ now ++ f n ∷ []
    → new ≡ old ++ map f (range_with_len 0 (n + 1))
pushed_more f old now new n is more = rw (more, is, append_assoc old (map f (range_with_len 0 n)) (f n ∷ []), map-range_with_len_more f 0 n n (omega arith)) refl

-- so it is where the last number is reached
pub pushed_all : {X : Type 0} (f : ℕ → X) (old now : List X) (n count : ℕ) → n ≡ count → now ≡ old ++ map f (range_with_len 0 n)
    → now ≡ old ++ map f (range_with_len 0 count)
pushed_all f old now n count last is = rw last at is

-- three lists behind one another
pub joined : {X : Type 0} (none a b c x y z : List X) → none ≡ [] → a ≡ none ++ x → b ≡ a ++ y → c ≡ b ++ z → c ≡ x ++ (y ++ z)
joined none a b c x y z empty first second third = rw (third, second, first, empty, append_assoc x y z) refl
