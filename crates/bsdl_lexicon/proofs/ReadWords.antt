use Rattle.std.proofs.Common.{◌≡◌, List, [], ◌∷◌, length, drop, refl}
use Rattle.std.proofs.lemmas.List.{length-map}
use Rattle.bsdl_lexicon.specs.declared.token.BsdlSpanned.{BsdlSpanned}
use Rattle.bsdl_lexicon.specs.Words.{plain, rest}

pub length_plain : (list : List BsdlSpanned) → length (plain list) ≡ length list
length_plain list = length-map list (λ (s : BsdlSpanned). s.word)

-- the words after the first
pub plain_rest : (list : List BsdlSpanned) → plain (drop 1 list) ≡ rest (plain list)
plain_rest [] = refl
plain_rest (s ∷ list) = refl
