-- own: how a library is read from the kept lines of a text.
use Rattle.std.specs.Prelude.{◌≡◌, ◌≤◌, ℕ, suc, Bool, true, false, List, [], ◌∷◌, ◌++◌, All, length, map, take, Option, Some, None, Result, OnOk, if◌then◌else◌}
use Rattle.std.specs.Borrow.{Bor}
use Rattle.word_cutter.specs.LinesWords.{words_of, kept_lines}
use Rattle.texts.specs.First.{first_in}
use Rattle.cell_library.specs.declared.listed.Step.{Step}
use Rattle.texts.specs.declared.text.OutOfMemory.{OutOfMemory}
use Rattle.cell_text.specs.declared.fault.LibFault.{LibFault}
use Rattle.cell_text.specs.declared.fault.LibFault.TheVariants as fault
use Rattle.cell_text.specs.declared.reader.Kept.{Kept}
use Rattle.cell_text.specs.Words.{Words}
use Rattle.cell_text.specs.Lines.{is_version, is_cell_line}
use Rattle.cell_text.specs.Rules.{is_unfit, barred_after, name_in}
use Rattle.cell_text.specs.Faults.{words_in, other_form, line_fault, end_of, cell_rows}

-- the words of borrowed lines
abbrev pub rows_of : List (Bor (List ℕ)) → List Words
rows_of lines = map (λ (line : Bor (List ℕ)). words_of line.now) lines

-- the first line is `cells 1`
abbrev pub is_begun : List (ℕ × Words) → Bool
is_begun [] = false
is_begun (row ∷ rows) = is_version row.1

-- steps that were read before those behind them
abbrev pub behind_those : List Step → Option (List Step) → Option (List Step)
behind_those done None = None
behind_those done (Some steps) = Some (done ++ steps)

-- how many names stand before the first that is unfit
abbrev pub fit_count : Words → ℕ
fit_count [] = 0
fit_count (name ∷ names) = if is_unfit name then 0 else suc (fit_count names)

-- what is kept of these rows: the first 4,096, and the count of all
pub record Keeps (rows : List Words) (kept : Kept) : Type 0 where
  pub lines : rows_of kept.lines.items ≡ take 4096 rows
  pub count : kept.count ≡ length rows

-- one line more is kept or counted
abbrev pub IsNoted : Kept → Kept → List ℕ → Result (Unit {0}) OutOfMemory → Type 0
IsNoted old new line result = OnOk result ((rows : List Words) → Keeps rows old → Keeps (rows ++ words_of line ∷ []) new)

-- the rows that were passed are of the form of cells, and are kept
pub record Going (all left : List (ℕ × Words)) (kept : Kept) : Type 0 where
  pub passed : List (ℕ × Words)
  pub split : all ≡ passed ++ left
  pub forms : first_in other_form passed ≡ None
  pub keeps : Keeps (map words_in passed) kept

-- every line has the form of a cell's, and is kept or counted
pub record IsKept (rows : List (ℕ × Words)) (kept : Kept) : Type 0 where
  pub forms : first_in other_form rows ≡ None
  pub keeps : Keeps (map words_in rows) kept

-- the first line of another form; want of memory says nothing
abbrev pub IsBadLine : List (ℕ × Words) → LibFault → Type 0
IsBadLine rows (fault.LibLine line) = first_in other_form rows ≡ Some line
IsBadLine rows (fault.TooMany count) = ⊥
IsBadLine rows (fault.LibName name) = ⊥
IsBadLine rows (fault.LibBody name) = ⊥
IsBadLine rows fault.OutOfMemory = Unit {0}

-- the text's lines
pub record AreLines (bytes : List ℕ) (kept : Kept) : Type 0 where
  pub forms : line_fault (end_of bytes) (kept_lines bytes) ≡ None
  pub keeps : Keeps (cell_rows bytes) kept

-- rows that have cells where their ports and steps are those of one
pub record CanBeCells (rows : List Words) : Type 0 where
  pub few : length rows ≤ 4096
  pub forms : All (λ words. is_cell_line words ≡ true) rows
  pub names : barred_after [] (map name_in rows) ≡ None

-- the fault is the first; want of memory says nothing
abbrev pub IsFirst : LibFault → Option LibFault → Type 0
IsFirst (fault.LibLine line) found = found ≡ Some (fault.LibLine line)
IsFirst (fault.TooMany count) found = found ≡ Some (fault.TooMany count)
IsFirst (fault.LibName name) found = found ≡ Some (fault.LibName name)
IsFirst (fault.LibBody name) found = found ≡ Some (fault.LibBody name)
IsFirst fault.OutOfMemory found = Unit {0}
