-- own: the faults of a plan's text. A line that can't stand there comes before any rule that is broken.
use Rattle.std.specs.Prelude.{◌≡◌, ℕ, ◌+◌, ◌<◌, ◌≤◌, List, ◌++◌, length, map, take, drop, Some}
use Rattle.word_cutter.specs.LinesWords.{lines_of, kept_lines}
use Rattle.word_cutter.specs.Ahead.{first_number}
use Rattle.plan_texts.specs.declared.fault.PlanFault.{PlanFault}
use Rattle.plan_texts.specs.declared.fault.PlanFault.TheVariants as fault
use Rattle.plan_texts.specs.Rules.{rule_fault}
use Rattle.plan_texts.specs.Grammar.{PlanSource, plan_rows, IsSource, written_of}

-- the words of the kept lines
abbrev pub kept_words : List ℕ → List (List (List ℕ))
kept_words bytes = map (λ (row : ℕ × List (List ℕ)). row.1) (kept_lines bytes)

-- the number of the line after the last
abbrev pub end_of : List ℕ → ℕ
end_of bytes = length (lines_of bytes) + 1

-- a plan's lines that begin with these; rules may be broken in it
pub record Begun (rows : List (List (List ℕ))) : Type 0 where
  pub source : PlanSource
  pub forms : IsSource source
  pub more : List (List (List ℕ))
  pub begins : plan_rows source ≡ rows ++ more

-- The first line that can't stand there: some plan begins with the kept lines before it, and none with it too. Where
-- the plan ends too early, it is the line after the last.
pub record IsLineFault (bytes : List ℕ) (line : ℕ) : Type 0 where
  pub unwritten : (s : PlanSource) → IsSource s → kept_words bytes ≡ plan_rows s → ⊥
  pub count : ℕ
  pub within : count ≤ length (kept_words bytes)
  pub begun : Begun (take count (kept_words bytes))
  pub greatest : (v : ℕ) → count < v → v ≤ length (kept_words bytes) → Begun (take v (kept_words bytes)) → ⊥
  pub line_is : line ≡ first_number (end_of bytes) (drop count (kept_lines bytes))

-- The lines are a plan's, and this is the first rule that is broken in it.
pub record IsRuleFault (bytes : List ℕ) (f : PlanFault) : Type 0 where
  pub source : PlanSource
  pub lines_are : kept_words bytes ≡ plan_rows source
  pub forms : IsSource source
  pub first : rule_fault (written_of source) ≡ Some f

-- the bytes have this fault
pub data HasFault (bytes : List ℕ) : PlanFault → Type 0 where
  in_line : {line : ℕ} → IsLineFault bytes line → HasFault bytes (fault.PlanLine line)
  in_rules : {f : PlanFault} → IsRuleFault bytes f → HasFault bytes f

-- what a fault says of the bytes; want of memory says nothing
abbrev pub IsFault : List ℕ → PlanFault → Type 0
IsFault bytes (fault.PlanLine line) = HasFault bytes (fault.PlanLine line)
IsFault bytes (fault.PlanTwice word) = HasFault bytes (fault.PlanTwice word)
IsFault bytes (fault.PlanOpcode word) = HasFault bytes (fault.PlanOpcode word)
IsFault bytes fault.PlanIdcode = HasFault bytes fault.PlanIdcode
IsFault bytes fault.PlanUsercode = HasFault bytes fault.PlanUsercode
IsFault bytes (fault.PlanInstruction word) = HasFault bytes (fault.PlanInstruction word)
IsFault bytes fault.OutOfMemory = Unit {0}

abbrev pub HasNoFault : List ℕ → Type 0
HasNoFault bytes = (f : PlanFault) → HasFault bytes f → ⊥
