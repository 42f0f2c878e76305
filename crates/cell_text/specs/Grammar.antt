-- The lines of a library, and the library that bytes spell. Own.
use Rattle.std.specs.Prelude.{◌≡◌, ℕ, List, [], ◌∷◌, ◌++◌, map, codes}
use Rattle.cell_library.specs.declared.listed.Body.{Body}
use Rattle.cell_library.specs.declared.listed.Body.TheVariants as body
use Rattle.cell_library.specs.declared.listed.ListedCell.{ListedCell}
use Rattle.cell_library.specs.Library.{flop_name}
use Rattle.cell_library.specs.Sound.{IsLibrary}
use Rattle.word_cutter.specs.Rows.{rows_text}
use Rattle.word_cutter.specs.LinesWords.{kept_lines}
use Rattle.cell_text.specs.Words.{Words, step_word}
use Rattle.cell_text.specs.Faults.{words_in}

abbrev pub body_words : List ℕ → List ℕ → Words → Body → Words
body_words name output inputs (body.Gate steps) = codes "gate" ∷ name ∷ output ∷ inputs ++ codes ":" ∷ map (step_word inputs) steps
body_words name output inputs (body.Flop kind) = codes "flop" ∷ name ∷ flop_name kind.edge kind.reset ∷ output ∷ inputs

-- the words of a cell's line
abbrev pub cell_words : ListedCell → Words
cell_words cell = body_words cell.name cell.output cell.inputs cell.body

-- `cells 1`
abbrev pub version_words : Words
version_words = codes "cells" ∷ codes "1" ∷ []

-- all lines in their order
abbrev pub library_rows : List ListedCell → List Words
library_rows library = version_words ∷ map cell_words library

-- the bytes spell the library: its lines are those that are kept
pub record SpellsLibrary (bytes : List ℕ) (library : List ListedCell) : Type 0 where
  pub lines_are : map words_in (kept_lines bytes) ≡ library_rows library
  pub can_be : IsLibrary library

-- one blank between words, and LF behind each line
abbrev pub canonical_library : List ListedCell → List ℕ
canonical_library library = rows_text (library_rows library)
