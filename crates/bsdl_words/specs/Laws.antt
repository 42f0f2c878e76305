-- What ties words to the texts that they are cut from.
use Rattle.std.specs.Prelude.{◌≡◌, ℕ, List}
use Rattle.bsdl_lexicon.specs.declared.token.BsdlSpanned.{BsdlSpanned}
use Rattle.bsdl_lexicon.specs.Pieces.{words_of}

-- Bytes are one list of words at most.
abbrev pub AreOneList : Type 0
AreOneList = (bytes : List ℕ) (words others : List BsdlSpanned) → words_of bytes words → words_of bytes others → others ≡ words
