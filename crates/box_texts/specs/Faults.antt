-- own: the first fault of a library's text, where it may have boxes.
use Rattle.std.specs.Prelude.{ℕ, Bool, false, List, [], ◌∷◌, map, Option, Some, None, if◌then◌else◌}
use Rattle.std.specs.Option.{option_map}
use Rattle.word_cutter.specs.LinesWords.{kept_lines}
use Rattle.word_cutter.specs.Ahead.{rest_of}
use Rattle.texts.specs.First.{or_else}
use Rattle.cell_text.specs.declared.fault.LibFault.{LibFault}
use Rattle.cell_text.specs.declared.fault.LibFault.TheVariants as fault
use Rattle.cell_text.specs.Words.{Words}
use Rattle.cell_text.specs.Faults.{words_in}
use Rattle.cell_text.specs.Faults as cells
use Rattle.cell_text.specs.Reader.{IsFirst}
use Rattle.box_texts.specs.declared.forms.LineForm.{LineForm}
use Rattle.box_texts.specs.declared.forms.LineForm.TheVariants.{Cell}
use Rattle.box_texts.specs.Forms.{is_version, form_behind}
use Rattle.box_texts.specs.Rules.{rule_fault}

-- the first line is `boxes 1`
abbrev pub is_begun : List (ℕ × Words) → Bool
is_begun [] = false
is_begun (row ∷ rows) = is_version row.1

-- the lines behind the first
abbrev pub later_lines : List ℕ → List (ℕ × Words)
later_lines bytes = rest_of (kept_lines bytes)

abbrev pub later_rows : List ℕ → List Words
later_rows bytes = map words_in (later_lines bytes)

-- a line's number where it has no form that may stand there; or else what its form makes of the lines behind it
abbrev pub misplaced_by : ℕ → (LineForm → Option ℕ) → Option LineForm → Option ℕ
misplaced_by number more None = Some number
misplaced_by number more (Some form) = more form

-- the number of the first line that can't stand there, behind one of this form
abbrev pub misplaced : LineForm → List (ℕ × Words) → Option ℕ
misplaced before [] = None
misplaced before (row ∷ rows) = misplaced_by row.0 (λ (form : LineForm). misplaced form rows) (form_behind before row.1)

abbrev pub line_fault : List (ℕ × Words) → Option LibFault
line_fault rows = option_map fault.LibLine (misplaced Cell rows)

-- the first line that can't stand there, or else the first rule that is broken; a text that begins otherwise has the
-- fault that it has as a library without boxes
abbrev pub first_fault : List ℕ → Option LibFault
first_fault bytes = if is_begun (kept_lines bytes) then or_else (line_fault (later_lines bytes)) (rule_fault (later_rows bytes)) else cells.first_fault bytes

-- what a fault says of the bytes; want of memory says nothing
abbrev pub IsFault : List ℕ → LibFault → Type 0
IsFault bytes f = IsFirst f (first_fault bytes)
