-- own: the lines of a text, and the words of a line.
use Rattle.std.specs.Prelude.{ℕ, ◌==◌, ◌||◌, Bool, true, false, not, List, [], ◌∷◌, map, filter, if◌then◌else◌}
use Rattle.std.specs.List.{slice_split, enumerate_from}

-- LF ends a line
abbrev pub is_line_end : ℕ → Bool
is_line_end b = b == 10

-- blanks, tabs and CR stand between words; all other bytes are of words
abbrev pub is_blank_byte : ℕ → Bool
is_blank_byte b = (b == 32) || ((b == 9) || (b == 13))

abbrev pub is_empty : List ℕ → Bool
is_empty [] = true
is_empty (b ∷ bytes) = false

-- what stands behind the last LF is a line if it has a byte
abbrev pub without_empty_last : List (List ℕ) → List (List ℕ)
without_empty_last [] = []
without_empty_last (part ∷ []) = if is_empty part then [] else part ∷ []
without_empty_last (part ∷ next ∷ parts) = part ∷ without_empty_last (next ∷ parts)

-- the lines of a text, each without its LF
abbrev pub lines_of : List ℕ → List (List ℕ)
lines_of bytes = without_empty_last (slice_split is_line_end bytes)

-- the words of a line
abbrev pub words_of : List ℕ → List (List ℕ)
words_of line = filter (λ part. not (is_empty part)) (slice_split is_blank_byte line)

-- the first byte is `#`
abbrev pub is_remark : List ℕ → Bool
is_remark [] = false
is_remark (b ∷ bytes) = b == 35

-- a line is kept if it has a first word, and that is no remark
abbrev pub is_kept : List (List ℕ) → Bool
is_kept [] = false
is_kept (first ∷ more) = not (is_remark first)

-- the lines that are kept, each with its number, where the first of these has number n
abbrev pub kept_from : ℕ → List (List ℕ) → List (ℕ × List (List ℕ))
kept_from n lines = filter (λ row. is_kept row.1) (enumerate_from n (map words_of lines))

-- the kept lines of a text, as numbers and words
abbrev pub kept_lines : List ℕ → List (ℕ × List (List ℕ))
kept_lines bytes = kept_from 1 (lines_of bytes)
