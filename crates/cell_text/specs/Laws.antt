-- own: how spelling and faults belong together.
use Rattle.std.specs.Prelude.{◌≡◌, ◌↔◌, ◌⊎◌, ◌≤◌, ℕ, true, List, [], ◌∷◌, ◌++◌, length, codes, None}
use Rattle.cell_library.specs.declared.FlopKind.{FlopKind}
use Rattle.cell_library.specs.declared.listed.ListedCell.{ListedCell}
use Rattle.cell_library.specs.Gates.{flop_operand_count}
use Rattle.cell_library.specs.Library.{flop_name}
use Rattle.cell_text.specs.Words.{Words}
use Rattle.cell_text.specs.Lines.{is_cell_line}
use Rattle.cell_text.specs.Faults.{first_fault}
use Rattle.cell_text.specs.Grammar.{SpellsLibrary}

-- bytes spell one library at most
abbrev pub SpelledOnce : Type 0
SpelledOnce = (bytes : List ℕ) (one other : List ListedCell) → SpellsLibrary bytes one → SpellsLibrary bytes other → one ≡ other

-- where bytes spell a library, they have no fault
abbrev pub SpelledIsFaultless : Type 0
SpelledIsFaultless = (bytes : List ℕ) (library : List ListedCell) → SpellsLibrary bytes library → first_fault bytes ≡ None

-- where they have none, they spell a library
abbrev pub FaultlessIsSpelled : Type 0
FaultlessIsSpelled = (bytes : List ℕ) → first_fault bytes ≡ None → (library : List ListedCell) × SpellsLibrary bytes library

-- `gate NAME OUT {IN} : STEP {STEP}`, with 0 to 16 inputs and 1 to 64 steps
pub record GateForm (words : Words) : Type 0 where
  pub name : List ℕ
  pub output : List ℕ
  pub inputs : Words
  pub steps : Words
  pub words_are : words ≡ codes "gate" ∷ name ∷ output ∷ inputs ++ codes ":" ∷ steps
  pub few : length inputs ≤ 16
  pub some : 1 ≤ length steps
  pub short : length steps ≤ 64

-- `flop NAME KIND Q D CK` or `flop NAME KIND Q D CK R`
pub record FlopForm (words : Words) : Type 0 where
  pub name : List ℕ
  pub kind : FlopKind
  pub output : List ℕ
  pub inputs : Words
  pub words_are : words ≡ codes "flop" ∷ name ∷ flop_name kind.edge kind.reset ∷ output ∷ inputs
  pub count : length inputs ≡ flop_operand_count kind.reset

-- a line has the form of a cell's exactly where it is written so
abbrev pub LinesHaveForms : Type 0
LinesHaveForms = (words : Words) → (is_cell_line words ≡ true) ↔ (GateForm words ⊎ FlopForm words)
