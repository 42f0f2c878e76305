-- own: rows of words, and the texts that have them.
use Rattle.std.specs.Prelude.{◌≡◌, ℕ, List, All, length}
use Rattle.std.specs.List.{enumerate_from}
use Rattle.word_cutter.specs.LinesWords.{lines_of, kept_lines}
use Rattle.word_cutter.specs.Rows.{IsRow, rows_text}

-- the kept lines of any text have words, which have no blank in them, and the first of them is no remark
abbrev pub KeptAreRows : Type 0
KeptAreRows = (bytes : List ℕ) → All (λ (row : ℕ × List (List ℕ)). IsRow row.1) (kept_lines bytes)

-- where such rows are written, no line is skipped, and each has its words
pub record ReadsBack (rows : List (List (List ℕ))) : Type 0 where
  pub kept : kept_lines (rows_text rows) ≡ enumerate_from 1 rows
  pub count : length (lines_of (rows_text rows)) ≡ length rows

abbrev pub RowsReadBack : Type 0
RowsReadBack = (rows : List (List (List ℕ))) → All IsRow rows → ReadsBack rows
