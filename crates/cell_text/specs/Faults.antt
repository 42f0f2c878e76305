-- own: the first fault of a library's text.
use Rattle.std.specs.Prelude.{◌≡◌, ℕ, ◌+◌, List, [], ◌∷◌, length, map, Option, Some, None, if◌then◌else◌}
use Rattle.std.specs.Option.{option_map}
use Rattle.word_cutter.specs.LinesWords.{lines_of, kept_lines}
use Rattle.word_cutter.specs.Ahead.{rest_of}
use Rattle.texts.specs.First.{or_else, first_in}
use Rattle.cell_text.specs.declared.fault.LibFault.{LibFault}
use Rattle.cell_text.specs.declared.fault.LibFault.TheVariants as fault
use Rattle.cell_text.specs.Words.{Words}
use Rattle.cell_text.specs.Lines.{is_version, is_cell_line}
use Rattle.cell_text.specs.Rules.{rule_fault}

-- the number of the line after the last
abbrev pub end_of : List ℕ → ℕ
end_of bytes = length (lines_of bytes) + 1

abbrev pub words_in : ℕ × Words → Words
words_in row = row.1

-- the number of a line that has another form
abbrev pub other_form : ℕ × Words → Option ℕ
other_form row = if is_cell_line row.1 then None else Some row.0

-- the first of the kept lines that can't stand there, or the line after the last where there is none
abbrev pub line_fault : ℕ → List (ℕ × Words) → Option ℕ
line_fault end [] = Some end
line_fault end (row ∷ rows) = if is_version row.1 then first_in other_form rows else Some row.0

-- the lines behind the first
abbrev pub cell_rows : List ℕ → List Words
cell_rows bytes = map words_in (rest_of (kept_lines bytes))

-- the first line that can't stand there, or else the first rule that is broken
abbrev pub first_fault : List ℕ → Option LibFault
first_fault bytes = or_else (option_map fault.LibLine (line_fault (end_of bytes) (kept_lines bytes))) (rule_fault (cell_rows bytes))

-- what a fault says of the bytes; want of memory says nothing
abbrev pub IsFault : List ℕ → LibFault → Type 0
IsFault bytes (fault.LibLine line) = first_fault bytes ≡ Some (fault.LibLine line)
IsFault bytes (fault.TooMany count) = first_fault bytes ≡ Some (fault.TooMany count)
IsFault bytes (fault.LibName name) = first_fault bytes ≡ Some (fault.LibName name)
IsFault bytes (fault.LibBody name) = first_fault bytes ≡ Some (fault.LibBody name)
IsFault bytes fault.OutOfMemory = Unit {0}
