-- The text of a check: the expectations that aren't met, and the last line. Own.
use Rattle.std.specs.Prelude.{◌≡◌, ℕ, ◌==◌, List, [], ◌∷◌, ◌++◌, length, if◌then◌else◌}
use Rattle.std.specs.List.{flat_map}
use Rattle.netlist_link.specs.Linked.{LinkedView}
use Rattle.bsdl_device.specs.declared.values.Device.{Device}
use Rattle.scan_vectors.specs.declared.lines.Line.{Line}
use Rattle.scan_vectors.specs.declared.lines.Lines.{Lines}
use Rattle.scan_vectors.specs.Grammar.{pin_of}
use Rattle.scan_vectors.specs.declared.scripts.script.ScriptLine.{ScriptLine}
use Rattle.scan_vectors.specs.Scripts.{IsResolved}
use Rattle.sim_runs.specs.Outputs.{missed_line, done_line}
use Rattle.conformance_report.specs.declared.verdict.Missed.{Missed}
use Rattle.conformance_report.specs.declared.verdict.Verdict.{Verdict}
use Rattle.conformance_report.specs.Verdicts.{IsVerdict}
use Rattle.conformance_report.specs.Rules.{KeepsTapRule}

-- the word of the line with this number, where the numbers are those of the lines
abbrev pub word_in : List ℕ → List Line → ℕ → List ℕ
word_in [] lines number = []
word_in (n ∷ numbers) [] number = []
word_in (n ∷ numbers) (line ∷ lines) number = if n == number then pin_of line else word_in numbers lines number

-- the line of an expectation that isn't met
abbrev pub miss_text : Lines → Missed → List ℕ
miss_text lines miss = missed_line miss.line (word_in lines.numbers lines.list miss.line) miss.want miss.got

-- a line for each expectation that isn't met, in order, and the last line
abbrev pub check_text : Lines → Verdict → List ℕ
check_text lines verdict = flat_map (miss_text lines) verdict.missed ++ done_line verdict.sets (length verdict.missed)

-- The lines are legal for the netlist, and none breaks the rule of the device's test access port; the text is that of
-- the verdict on their run, in which so many expectations aren't met.
pub record IsChecked (L : LinkedView) (d : Device) (lines : Lines) (text : List ℕ) (missed : ℕ) : Type 0 where
  pub script : List ScriptLine
  pub resolved : IsResolved L lines script
  pub kept : KeepsTapRule d lines.list
  pub verdict : Verdict
  pub judged : IsVerdict L.arena.lists script verdict
  pub text_is : text ≡ check_text lines verdict
  pub missed_is : missed ≡ length verdict.missed
