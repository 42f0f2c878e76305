-- own: how a library with boxes is read from the kept lines of a text.
use Rattle.std.specs.Prelude.{◌≡◌, ◌+◌, ◌≤◌, ℕ, true, List, [], ◌∷◌, ◌++◌, All, length, map, Option, Some, None}
use Rattle.texts.specs.Repeated.{texts}
use Rattle.cell_library.specs.declared.listed.ListedCell.{ListedCell}
use Rattle.cell_text.specs.declared.fault.LibFault.{LibFault}
use Rattle.cell_text.specs.Words.{Words}
use Rattle.cell_text.specs.Lines.{is_cell_line}
use Rattle.cell_text.specs.Cells.{cell_in}
use Rattle.cell_text.specs.Rules.{name_in, barred_after}
use Rattle.cell_text.specs.Faults.{words_in}
use Rattle.cell_text.specs.Reader.{rows_of}
use Rattle.box_model.specs.declared.boxes.BoxLibrary.{BoxLibrary}
use Rattle.box_texts.specs.declared.forms.LineForm.{LineForm}
use Rattle.box_texts.specs.declared.forms.LineForm.TheVariants.{Cell}
use Rattle.box_texts.specs.declared.reader.Kept.{Kept}
use Rattle.box_texts.specs.Forms.{is_box_line, form_of}
use Rattle.box_texts.specs.Boxes.{box_in, bare_of}
use Rattle.box_texts.specs.Rules.{cells_of, boxes_of, cuts_of, bodies_fault}
use Rattle.box_texts.specs.Faults.{misplaced}

-- the lines of each form are kept
pub record AreParts (rows : List Words) (kept : Kept) : Type 0 where
  pub cells : rows_of kept.cells.items ≡ cells_of rows
  pub boxes : rows_of kept.boxes.items ≡ boxes_of rows
  pub cuts : texts kept.cuts.items ≡ map name_in (cuts_of rows)

-- what is kept of these rows: all up to 4,096, and the count
pub record Keeps (rows : List Words) (kept : Kept) : Type 0 where
  pub parts : length rows ≤ 4096 → AreParts rows kept
  pub count : kept.count ≡ length rows

-- one line more is kept
abbrev pub IsAdded : LineForm → Words → Kept → Kept → Type 0
IsAdded form words old new = form_of words ≡ Some form → (rows : List Words) → AreParts rows old → AreParts (rows ++ words ∷ []) new

-- one line more is kept or counted
abbrev pub IsNoted : LineForm → Words → Kept → Kept → Type 0
IsNoted form words old new = form_of words ≡ Some form → (rows : List Words) → Keeps rows old → Keeps (rows ++ words ∷ []) new

-- the rows that were passed are kept; those that are left stand behind one of this form
pub record Going (all left : List (ℕ × Words)) (before : LineForm) (kept : Kept) : Type 0 where
  pub passed : List (ℕ × Words)
  pub split : all ≡ passed ++ left
  pub order : misplaced Cell all ≡ misplaced before left
  pub keeps : Keeps (map words_in passed) kept

-- each line may stand where it does, and is kept or counted
pub record IsKept (rows : List (ℕ × Words)) (kept : Kept) : Type 0 where
  pub order : misplaced Cell rows ≡ None
  pub keeps : Keeps (map words_in rows) kept

-- lines that have libraries where what stands behind their names can be
pub record CanBeBoxes (kept : Kept) : Type 0 where
  pub few : length (rows_of kept.cells.items) + length (rows_of kept.boxes.items) ≤ 4096
  pub cell_forms : All (λ words. is_cell_line words ≡ true) (rows_of kept.cells.items)
  pub box_forms : All (λ words. is_box_line words ≡ true) (rows_of kept.boxes.items)
  pub names : barred_after [] (map name_in (rows_of kept.cells.items ++ rows_of kept.boxes.items)) ≡ None

abbrev pub body_fault : Kept → Option LibFault
body_fault kept = bodies_fault (rows_of kept.cells.items) (rows_of kept.boxes.items)

-- the library is read from these lines
pub record IsReadFrom (cells boxes : List Words) (cuts : Words) (library : BoxLibrary) : Type 0 where
  pub own : List ListedCell
  pub cells_are : map cell_in cells ≡ map Some own
  pub boxes_are : map box_in boxes ≡ map Some library.boxes
  pub library_is : library.cells ≡ own ++ map bare_of library.boxes
  pub cuts_are : library.cuts ≡ cuts

abbrev pub IsReadOf : Kept → BoxLibrary → Type 0
IsReadOf kept library = IsReadFrom (rows_of kept.cells.items) (rows_of kept.boxes.items) (texts kept.cuts.items) library
