-- own: the first fault of a text of events.
use Rattle.std.specs.Prelude.{◌≡◌, ℕ, ◌+◌, Bool, false, ◌&&◌, nat_lt, is_some, List, [], ◌∷◌, length, Option, Some, None, codes, if◌then◌else◌}
use Rattle.std.specs.List.{enumerate_from}
use Rattle.std.specs.Str.{bytes_eq}
use Rattle.texts.specs.First.{first_in}
use Rattle.signal_values.specs.declared.PinSig.{PinSig}
use Rattle.signal_values.specs.Values.{pin_sig_of}
use Rattle.netlist_model.specs.declared.What.TheVariants as what
use Rattle.scan_vectors.specs.declared.fault.EventFault.{EventFault}
use Rattle.scan_vectors.specs.declared.fault.EventFault.TheVariants as fault
use Rattle.scan_vectors.specs.declared.lines.Act.{Act}
use Rattle.scan_vectors.specs.declared.lines.Act.TheVariants as act
use Rattle.scan_vectors.specs.declared.lines.Line.{Line}
use Rattle.scan_vectors.specs.declared.lines.Line.TheVariants as line
use Rattle.word_cutter.specs.LinesWords.{lines_of, kept_lines}

abbrev pub act_named : List ℕ → Option Act
act_named word =
    if bytes_eq word (codes "start") then Some act.Start
    else if bytes_eq word (codes "set") then Some act.Set
    else if bytes_eq word (codes "expect") then Some act.Expect
    else None

-- a value is one letter
abbrev pub value_named : List ℕ → Option PinSig
value_named [] = None
value_named (letter ∷ []) = pin_sig_of letter
value_named (letter ∷ next ∷ more) = None

abbrev pub line_of : Act → List ℕ → PinSig → Line
line_of act.Start pin value = line.Start pin value
line_of act.Set pin value = line.Set pin value
line_of act.Expect pin value = line.Expect pin value

abbrev pub line_if : Option Act → List ℕ → Option PinSig → Option Line
line_if None pin value = None
line_if (Some a) pin None = None
line_if (Some a) pin (Some value) = Some (line_of a pin value)

-- the event line of these words, if they are of one
abbrev pub event_of : List (List ℕ) → Option Line
event_of [] = None
event_of (a ∷ []) = None
event_of (a ∷ pin ∷ []) = None
event_of (a ∷ pin ∷ value ∷ []) = line_if (act_named a) pin (value_named value)
event_of (a ∷ pin ∷ value ∷ next ∷ more) = None

-- these are the words of the header
abbrev pub is_header : List (List ℕ) → Bool
is_header [] = false
is_header (a ∷ []) = false
is_header (a ∷ b ∷ []) = bytes_eq a (codes "events") && bytes_eq b (codes "1")
is_header (a ∷ b ∷ c ∷ more) = false

-- the fault of a kept line behind the header, which is the k-th of these
abbrev pub line_fault : ℕ × (ℕ × List (List ℕ)) → Option EventFault
line_fault (k, (number, words)) =
    if is_some (event_of words)
    then (if nat_lt 1000000 k then Some (fault.TooMany what.Lines 1000001 1000000) else None)
    else Some (fault.EventLine number)

-- the first fault of these kept lines: no header, or one of a line behind it
abbrev pub fault_in : ℕ → List (ℕ × List (List ℕ)) → Option EventFault
fault_in end [] = Some (fault.EventLine end)
fault_in end (first ∷ more) =
    if is_header first.1 then first_in line_fault (enumerate_from 1 more) else Some (fault.EventLine first.0)

-- the first fault of a text; where no line is kept, it names the line after the last
abbrev pub first_fault : List ℕ → Option EventFault
first_fault bytes = fault_in (length (lines_of bytes) + 1) (kept_lines bytes)

-- what a fault says of the bytes; want of memory says nothing
abbrev pub IsFault : List ℕ → EventFault → Type 0
IsFault bytes (fault.EventLine number) = first_fault bytes ≡ Some (fault.EventLine number)
IsFault bytes (fault.TooMany w count limit) = first_fault bytes ≡ Some (fault.TooMany w count limit)
IsFault bytes fault.OutOfMemory = Unit {0}
