-- own: what stands while the lines of a text are read.
use Rattle.std.specs.Prelude.{◌≡◌, ℕ, ◌+◌, ◌≤◌, Bool, true, false, List, [], ◌∷◌, ◌++◌, All, map, length, Result, Ok, Err}
use Rattle.std.specs.List.{enumerate_from}
use Rattle.scan_vectors.specs.declared.fault.EventFault.{EventFault}
use Rattle.scan_vectors.specs.declared.fault.EventFault.TheVariants as fault
use Rattle.netlist_model.specs.declared.What.TheVariants as what
use Rattle.scan_vectors.specs.declared.lines.Line.{Line}
use Rattle.scan_vectors.specs.declared.lines.Lines.{Lines}
use Rattle.scan_vectors.specs.declared.reader.Reader.{Reader}
use Rattle.word_cutter.specs.LinesWords.{lines_of, kept_from, kept_lines}
use Rattle.scan_vectors.specs.Grammar.{Written, written_words, HasLetter, header_words}
use Rattle.texts.specs.First.{first_in}
use Rattle.scan_vectors.specs.Faults.{line_fault, first_fault, IsFault}

-- no line was kept so far; n is the number of the next line, and the rest are the lines from it on
pub record IsBefore (bytes : List ℕ) (lines : Lines) (n : ℕ) (rest : List (List ℕ)) : Type 0 where
  pub kept_are : kept_lines bytes ≡ kept_from n rest
  pub list_is : lines.list ≡ []
  pub numbers_are : lines.numbers ≡ []
  pub count : n + length rest ≡ length (lines_of bytes) + 1

-- the header and these event lines were read
pub record IsBehind (bytes : List ℕ) (lines : Lines) (n : ℕ) (rest : List (List ℕ)) : Type 0 where
  pub header : ℕ
  pub written : List Written
  pub kept_are : kept_lines bytes ≡ (header, header_words) ∷ (map written_words written ++ kept_from n rest)
  pub letters : All HasLetter written
  pub few : length written ≤ 1000000
  pub list_is : lines.list ≡ map (λ w. w.line) written
  pub numbers_are : lines.numbers ≡ map (λ w. w.number) written
  pub count : n + length rest ≡ length (lines_of bytes) + 1
  pub fault_is : first_fault bytes ≡ first_in line_fault (enumerate_from (length lines.list + 1) (kept_from n rest))

abbrev pub IsReading : List ℕ → Bool → Lines → ℕ → List (List ℕ) → Type 0
IsReading bytes false lines n rest = IsBefore bytes lines n rest
IsReading bytes true lines n rest = IsBehind bytes lines n rest

-- a line was read: the next has the next number, or the fault is the first
abbrev pub HasRead : List ℕ → Reader → List (List ℕ) → Result (Unit {0}) EventFault → Type 0
HasRead bytes now rest (Ok x) = IsReading bytes now.begun now.lines (now.lines.end + 1) rest
HasRead bytes now rest (Err e) = IsFault bytes e

-- one more event line, with its number
pub record AddsLine (old now : Reader) (line : Line) : Type 0 where
  pub few : length old.lines.list + 1 ≤ 1000000
  pub begun_stays : now.begun ≡ old.begun
  pub list_is : now.lines.list ≡ old.lines.list ++ line ∷ []
  pub numbers_are : now.lines.numbers ≡ old.lines.numbers ++ old.lines.end ∷ []
  pub end_stays : now.lines.end ≡ old.lines.end

-- the limit was reached before
abbrev pub CannotAdd : Reader → EventFault → Type 0
CannotAdd old (fault.EventLine number) = ⊥
CannotAdd old (fault.TooMany w count limit) = (1000000 ≤ length old.lines.list) × (fault.TooMany w count limit ≡ fault.TooMany what.Lines 1000001 1000000)
CannotAdd old fault.OutOfMemory = Unit {0}
