-- Bytes are one list of words at most.
use Rattle.std.proofs.Common.{◌≡◌, ℕ, List, [], Some, sym, ap, ◌∙◌}
use Rattle.bsdl_lexicon.specs.declared.token.BsdlSpanned.{BsdlSpanned}
use Rattle.bsdl_lexicon.specs.Pieces.{words_of}
use Rattle.bsdl_words.specs.Machine.{between}
use Rattle.bsdl_words.specs.Laws.{AreOneList}
use Rattle.bsdl_words.proofs.Outcome.{outcome}
use Rattle.bsdl_words.proofs.Complete.{complete}

as_outcome : (bytes : List ℕ) (words : List BsdlSpanned) → words_of bytes words → outcome 0 (between []) bytes ≡ Some words
as_outcome bytes words cut = ap (outcome 0 (between [])) cut.text ∙ complete cut.pieces 0 [] cut.are ∙ ap (λ (ws : List BsdlSpanned). Some ws) (sym cut.words_are)

pub one_list : AreOneList
one_list bytes words others cut other =
    let same : Some others ≡ Some words = sym (as_outcome bytes others other) ∙ as_outcome bytes words cut in cc
