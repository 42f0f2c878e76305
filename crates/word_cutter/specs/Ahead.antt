-- own: what a reader of kept lines has before it.
use Rattle.std.specs.Prelude.{◌≡◌, ℕ, ◌+◌, ◌<◌, ◌^◌, true, List, [], ◌∷◌, length}
use Rattle.word_cutter.specs.LinesWords.{lines_of, words_of, is_kept, kept_from}

-- the kept lines that weren't passed, and the number of the line after the text's last
pub record Ahead : Type 0 where
  pub rows : List (ℕ × List (List ℕ))
  pub end : ℕ

-- the number of the first row, or else of the line after the last
abbrev pub first_number : ℕ → List (ℕ × List (List ℕ)) → ℕ
first_number end [] = end
first_number end (row ∷ rows) = row.0

-- the rows behind the first
abbrev pub rest_of : List (ℕ × List (List ℕ)) → List (ℕ × List (List ℕ))
rest_of [] = []
rest_of (row ∷ rows) = rows

-- the first of these lines is kept, if there is one
abbrev pub BeginsKept : List (List ℕ) → Type 0
BeginsKept [] = Unit {0}
BeginsKept (line ∷ lines) = is_kept (words_of line) ≡ true

-- this text from a line with this number on
abbrev pub ahead_of : ℕ → List ℕ → Ahead
ahead_of number text = record { rows = kept_from number (lines_of text); end = number + length (lines_of text) }

pub record StandsAt (number : ℕ) (text : List ℕ) : Type 0 where
  pub kept : BeginsKept (lines_of text)
  pub room : number + length text < 2 ^ 64
