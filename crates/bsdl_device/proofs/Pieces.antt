-- Pieces of a text before another text.
use Rattle.std.proofs.Common.{◌≡◌, ℕ, List, [], ◌∷◌, ◌++◌, refl, ap, ◌∙◌, append_assoc}
use Rattle.bsdl_device.specs.Canonical.{pieces}

abbrev pub then_all : List (List ℕ) → List ℕ → List ℕ
then_all [] rest = rest
then_all (piece ∷ more) rest = piece ++ then_all more rest

pub pieces_then : (list : List (List ℕ)) (rest : List ℕ) → pieces list ++ rest ≡ then_all list rest
unfolding pieces
pieces_then [] rest = refl
pieces_then (piece ∷ more) rest = append_assoc piece (pieces more) rest ∙ ap (λ (t : List ℕ). piece ++ t) (pieces_then more rest)
