-- own: how spelling and faults belong together.
use Rattle.std.specs.Prelude.{◌≡◌, ◌↔◌, ℕ, List, None}
use Rattle.scan_vectors.specs.declared.lines.Line.{Line}
use Rattle.scan_vectors.specs.declared.lines.Lines.{Lines}
use Rattle.scan_vectors.specs.Grammar.{SpellsLines}
use Rattle.scan_vectors.specs.Faults.{first_fault}
use Rattle.scan_vectors.specs.Canonical.{canonical_text, canonical_lines, IsLines}

-- bytes spell one list of event lines at most, with one number for each
abbrev pub SpelledOnce : Type 0
SpelledOnce = (bytes : List ℕ) (one other : Lines) → SpellsLines bytes one → SpellsLines bytes other → one ≡ other

-- where bytes spell event lines, no fault stands
abbrev pub SpelledIsFaultless : Type 0
SpelledIsFaultless = (bytes : List ℕ) (lines : Lines) → SpellsLines bytes lines → first_fault bytes ≡ None

-- where no fault stands, bytes spell event lines
abbrev pub FaultlessIsSpelled : Type 0
FaultlessIsSpelled = (bytes : List ℕ) → first_fault bytes ≡ None → (lines : Lines) × SpellsLines bytes lines

-- the lines that some bytes spell are those whose pins are words, up to the limit
abbrev pub SpelledIsPrintable : Type 0
SpelledIsPrintable = (list : List Line) → IsLines list ↔ ((bytes : List ℕ) × ((lines : Lines) × (SpellsLines bytes lines × (lines.list ≡ list))))

-- the canonical text of such lines spells them, numbered from 2
abbrev pub CanonicalIsSpelled : Type 0
CanonicalIsSpelled = (list : List Line) → IsLines list → SpellsLines (canonical_text list) (canonical_lines list)
