-- What ties bytes to words.
use Rattle.std.specs.Prelude.{◌≡◌, ℕ, List}
use Rattle.verilog_lexicon.specs.declared.word.Spanned.{Spanned}
use Rattle.verilog_lexicon.specs.Pieces.{words_of}

-- bytes have at most one list of words
abbrev pub BytesHaveOneList : Type 0
BytesHaveOneList = (bytes : List ℕ) (one other : List Spanned) → words_of bytes one → words_of bytes other → one ≡ other
