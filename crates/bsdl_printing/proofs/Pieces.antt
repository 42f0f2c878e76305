use Rattle.std.proofs.Common.{◌≡◌, ℕ, List, [], ◌∷◌, ◌++◌, map, refl, ap}
use Rattle.std.specs.List.{flat_map}
use Rattle.bsdl_device.specs.Canonical.{pieces}

pub flat_map_is_pieces : {A : Type 0} (text : A → List ℕ) (xs : List A) → flat_map text xs ≡ pieces (map text xs)
unfolding pieces
flat_map_is_pieces text [] = refl
flat_map_is_pieces text (x ∷ xs) = ap (λ (l : List ℕ). text x ++ l) (flat_map_is_pieces text xs)
