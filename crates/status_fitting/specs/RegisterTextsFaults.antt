-- own: the fault of a text of registers.
use Rattle.std.specs.Prelude.{◌≡◌, ℕ, ◌+◌, ◌<◌, ◌≤◌, List, ◌++◌, length, take, drop}
use Rattle.word_cutter.specs.LinesWords.{lines_of, kept_lines}
use Rattle.word_cutter.specs.Ahead.{first_number}
use Rattle.status_fitting.specs.declared.register_texts.fault.StatusFault.{StatusFault}
use Rattle.status_fitting.specs.declared.register_texts.fault.StatusFault.TheVariants as fault
use Rattle.status_fitting.specs.Grammar.{RegisterWords, status_rows, AreRegisters, kept_words}

-- the number of the line after the last
abbrev pub end_of : List ℕ → ℕ
end_of bytes = length (lines_of bytes) + 1

-- a text's lines that begin with these
pub record Begun (rows : List (List (List ℕ))) : Type 0 where
  pub source : List RegisterWords
  pub forms : AreRegisters source
  pub more : List (List (List ℕ))
  pub begins : status_rows source ≡ rows ++ more

-- The first line that can't stand there: some text begins with the kept lines before it, and none with it too. Where
-- the text ends too early, it is the line after the last.
pub record IsLineFault (bytes : List ℕ) (line : ℕ) : Type 0 where
  pub unwritten : (s : List RegisterWords) → AreRegisters s → kept_words bytes ≡ status_rows s → ⊥
  pub count : ℕ
  pub within : count ≤ length (kept_words bytes)
  pub begun : Begun (take count (kept_words bytes))
  pub greatest : (v : ℕ) → count < v → v ≤ length (kept_words bytes) → Begun (take v (kept_words bytes)) → ⊥
  pub line_is : line ≡ first_number (end_of bytes) (drop count (kept_lines bytes))

-- the bytes have this fault
pub data HasFault (bytes : List ℕ) : StatusFault → Type 0 where
  in_line : {line : ℕ} → IsLineFault bytes line → HasFault bytes (fault.StatusLine line)

-- what a fault says of the bytes; want of memory says nothing, and the others are told where the registers are fitted
abbrev pub IsFault : List ℕ → StatusFault → Type 0
IsFault bytes (fault.StatusLine line) = HasFault bytes (fault.StatusLine line)
IsFault bytes (fault.StatusName word) = ⊥
IsFault bytes (fault.StatusNet word) = ⊥
IsFault bytes (fault.StatusOpcode word) = ⊥
IsFault bytes fault.OutOfMemory = Unit {0}

abbrev pub HasNoFault : List ℕ → Type 0
HasNoFault bytes = (f : StatusFault) → HasFault bytes f → ⊥
