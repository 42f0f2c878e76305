-- Numbers in a row, and lists that agree place by place.
use Rattle.std.specs.Prelude.{ℕ, List, [], ◌∷◌, zero, suc}

-- so many numbers from this one on
abbrev pub counted_from : ℕ → ℕ → List ℕ
counted_from first zero = []
counted_from first (suc n) = first ∷ counted_from (suc first) n

-- as many, each of which is the one at its place
abbrev pub AreAll : {X Y : Type 0} → (X → Y → Type 0) → List X → List Y → Type 0
AreAll Is [] [] = Unit {0}
AreAll Is [] (y ∷ ys) = ⊥
AreAll Is (x ∷ xs) [] = ⊥
AreAll Is (x ∷ xs) (y ∷ ys) = Is x y × AreAll Is xs ys
