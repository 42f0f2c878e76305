-- What a run of a script shows: its expectations and what is read, and which of them are met. Own.
use Rattle.std.specs.Prelude.{◌≡◌, ℕ, ◌+◌, ◌==◌, Bool, not, List, [], ◌∷◌, ◌++◌, length, filter}
use Rattle.signal_values.specs.declared.PinSig.{PinSig}
use Rattle.signal_values.specs.Values.{show_byte}
use Rattle.netlist_model.specs.Lists.{NetlistView}
use Rattle.netlist_model.specs.Runs.{Moment, reading_at}
use Rattle.scan_vectors.specs.declared.lines.Act.{Act}
use Rattle.scan_vectors.specs.declared.lines.Act.TheVariants.{Start, Set, Expect}
use Rattle.scan_vectors.specs.declared.scripts.script.ScriptLine.{ScriptLine}
use Rattle.sim_runs.specs.Runs.{net_number, events_of, IsRunOf}
use Rattle.sim_runs.specs.Outputs.{sets_with}
use Rattle.conformance_report.specs.declared.verdict.Missed.{Missed}
use Rattle.conformance_report.specs.declared.verdict.Verdict.{Verdict}

-- an expectation: the number of its line, what it wants, and what its pin reads
abbrev pub expectation : ScriptLine → PinSig → Missed
expectation line got = record { line = line.number; want = line.value; got = got }

abbrev pub expected_by : Act → NetlistView → ScriptLine → Moment → List Missed
expected_by Start N line m = []
expected_by Set N line m = []
expected_by Expect N line m = expectation line (reading_at N m (net_number N line.pin)) ∷ []

-- the expectations of these lines in order, where so many sets came before
abbrev pub expected : NetlistView → (ℕ → Moment) → ℕ → List ScriptLine → List Missed
expected N moment sets [] = []
expected N moment sets (line ∷ script) = expected_by line.act N line (moment sets) ++ expected N moment (sets_with line.act sets) script

-- an expectation is met where its pin reads what it wants
abbrev pub is_met : Missed → Bool
is_met e = show_byte e.want == show_byte e.got

abbrev pub is_missed : Missed → Bool
is_missed e = not (is_met e)

-- the expectations of the script that aren't met in a run
abbrev pub missed_of : NetlistView → List ScriptLine → (ℕ → Moment) → List Missed
missed_of N script moment = filter is_missed (expected N moment 0 script)

-- these expectations more were judged
pub record Judges (more : List Missed) (old new : Verdict) : Type 0 where
  pub met : new.met ≡ old.met + length (filter is_met more)
  pub missed : new.missed ≡ old.missed ++ filter is_missed more

-- The verdict is that of the script's run: how many sets it has, how many expectations are met, and the
-- others in order.
pub record IsVerdict (N : NetlistView) (script : List ScriptLine) (verdict : Verdict) : Type 0 where
  pub moment : ℕ → Moment
  pub run : IsRunOf N script moment
  pub sets_are : verdict.sets ≡ length (events_of N script)
  pub met_are : verdict.met ≡ length (filter is_met (expected N moment 0 script))
  pub missed_are : verdict.missed ≡ missed_of N script moment
