-- The words that a reader of contents has before it, and where they end.
use Rattle.std.specs.Prelude.{ℕ, suc, ◌==◌, List, [], ◌∷◌, Option, Some, None, if◌then◌else◌}
use Rattle.bsdl_lexicon.specs.Bytes.{is_name_byte}
use Rattle.bsdl_device.specs.Runs.{ContentWord, Run, Other, content_words}
use Rattle.bsdl_contents.specs.declared.piece.Piece.{Piece}
use Rattle.bsdl_contents.specs.declared.piece.Piece.TheVariants as piece

-- own: a word as the code has it
abbrev pub word_of : Piece → ContentWord
word_of (piece.Run bytes) = Run bytes.now
word_of (piece.Other b) = Other b

-- own: a word that was cut, and those of the bytes behind it
abbrev pub words_left : Option Piece → List ℕ → List ContentWord
words_left None behind = []
words_left (Some p) behind = word_of p ∷ content_words behind

-- own: how many of the first bytes go on in one run
abbrev pub run_len : List ℕ → ℕ
run_len [] = 0
run_len (b ∷ bytes) = if is_name_byte b then suc (run_len bytes) else 0

-- own: the bytes behind the blanks that they begin with
abbrev pub unspaced : List ℕ → List ℕ
unspaced [] = []
unspaced (b ∷ bytes) = if b == 32 then unspaced bytes else b ∷ bytes
