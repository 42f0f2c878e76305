-- own: rows of words, and the text that is written of them.
use Rattle.std.specs.Prelude.{◌≡◌, ◌≢◌, ℕ, true, false, List, [], ◌∷◌, ◌++◌, All, map, codes}
use Rattle.std.specs.Borrow.{Bor}
use Rattle.std.specs.List.{flat_map}
use Rattle.word_cutter.specs.LinesWords.{is_line_end, is_blank_byte, is_kept}

-- the bytes of borrowed words
abbrev pub bytes_of_words : List (Bor (List ℕ)) → List (List ℕ)
bytes_of_words words = map (λ (word : Bor (List ℕ)). word.now) words

-- the bytes of a word
pub record IsWordByte (b : ℕ) : Type 0 where
  pub no_blank : is_blank_byte b ≡ false
  pub no_end : is_line_end b ≡ false

pub record IsWord (bytes : List ℕ) : Type 0 where
  pub some : bytes ≢ []
  pub each : All IsWordByte bytes

-- the words of a kept line
pub record IsRow (words : List (List ℕ)) : Type 0 where
  pub kept : is_kept words ≡ true
  pub each : All IsWord words

-- a word with a blank before it
abbrev pub behind_blank : List ℕ → List ℕ
behind_blank word = codes " " ++ word

-- the words with one blank between two of them
abbrev pub joined : List (List ℕ) → List ℕ
joined [] = []
joined (word ∷ words) = word ++ flat_map behind_blank words

-- a line of these words, and its LF
abbrev pub row_text : List (List ℕ) → List ℕ
row_text words = joined words ++ codes "\n"

-- a line for each row
abbrev pub rows_text : List (List (List ℕ)) → List ℕ
rows_text rows = flat_map row_text rows
