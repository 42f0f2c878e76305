-- What playing comes to, of texts that were read and of a netlist that was linked. Own.
use Rattle.std.specs.Prelude.{◌≡◌, ℕ, ◌⊎◌, List, [], Option, true}
use Rattle.edge_io.specs.Shelf.{appended}
use Rattle.command_faults.specs.declared.fault.Fault.{Fault}
use Rattle.command_faults.specs.declared.fault.Fault.TheVariants as fault
use Rattle.command_faults.specs.declared.status.Status.{Status}
use Rattle.netlist_link.specs.Linked.{LinkedView}
use Rattle.scan_vectors.specs.declared.lines.Lines.{Lines}
use Rattle.scan_vectors.specs.Grammar.{SpellsLines}
use Rattle.scan_vectors.specs.Faults.{IsFault}
use Rattle.scan_vectors.specs.declared.scripts.script.ScriptLine.{ScriptLine}
use Rattle.scan_vectors.specs.declared.scripts.fault.ScriptFault.{ScriptFault}
use Rattle.scan_vectors.specs.Scripts.{IsResolved, IsScriptFault}
use Rattle.default_starts.specs.Starts.{IsWithStarts}
use Rattle.sim_runs.specs.Outputs.{IsOutput}
use Rattle.command_edges.specs.Ends.{run_status}
use Rattle.command_edges.specs.Seen.{SinkSeen}
use Rattle.command_edges.specs.Tasks.{StandsInPut}
use Rattle.play_command.specs.SimTasks.{ArePlayed, HaveFault}

-- Of texts.

-- the text of the run of these texts was given
pub record IsPlayed (texts : List (List ℕ)) (sink : SinkSeen) (end : Status) : Type 0 where
  pub text : List ℕ
  pub played : ArePlayed texts [] text end
  pub gives : sink.given_after ≡ appended text sink.given

-- it couldn't be given whole
pub record IsCutShort (texts : List (List ℕ)) (sink : SinkSeen) (f : Fault) (given : Option (List ℕ)) : Type 0 where
  pub text : List ℕ
  pub end : Status
  pub played : ArePlayed texts [] text end
  pub put : StandsInPut true text sink f given

-- the fault stands in the texts, and nothing was given; or in giving
abbrev pub FailsToPlay : List (List ℕ) → SinkSeen → Fault → Option (List ℕ) → Type 0
FailsToPlay texts sink f given = (HaveFault texts f × (given ≡ sink.given)) ⊎ IsCutShort texts sink f given

-- Of a netlist and the text of events.

-- the text is that of the run of the lines that the bytes spell, with the starts that hidden bits have by default
pub record IsRunOn (linked : LinkedView) (events text : List ℕ) (missed : ℕ) : Type 0 where
  pub lines : Lines
  pub spells_lines : SpellsLines events lines
  pub started : Lines
  pub are_started : IsWithStarts linked lines started
  pub script : List ScriptLine
  pub resolved : IsResolved linked started script
  pub output : IsOutput linked started.list script text missed

-- it was given
pub record IsPlayedOn (linked : LinkedView) (events : List ℕ) (sink : SinkSeen) (end : Status) : Type 0 where
  pub text : List ℕ
  pub missed : ℕ
  pub run : IsRunOn linked events text missed
  pub gives : sink.given_after ≡ appended text sink.given
  pub status_is : end ≡ run_status missed

-- it couldn't be given whole
pub record IsCutShortOn (linked : LinkedView) (events : List ℕ) (sink : SinkSeen) (f : Fault) (given : Option (List ℕ)) : Type 0 where
  pub text : List ℕ
  pub missed : ℕ
  pub run : IsRunOn linked events text missed
  pub put : StandsInPut true text sink f given

-- the lines that the bytes spell, with the starts that hidden bits have by default, have this fault
pub record HaveScriptFault (linked : LinkedView) (events : List ℕ) (f : ScriptFault) : Type 0 where
  pub lines : Lines
  pub spells_lines : SpellsLines events lines
  pub started : Lines
  pub are_started : IsWithStarts linked lines started
  pub fault : IsScriptFault linked started f

-- the fault stands in the lines of events at this netlist
abbrev pub StandsInEvents : LinkedView → List ℕ → Fault → Type 0
StandsInEvents linked events (fault.Events f) = IsFault events f
StandsInEvents linked events (fault.Script f) = HaveScriptFault linked events f
StandsInEvents linked events fault.OutOfMemory = Unit {0}
StandsInEvents linked events f = ⊥

abbrev pub FailsToPlayOn : LinkedView → List ℕ → SinkSeen → Fault → Option (List ℕ) → Type 0
FailsToPlayOn linked events sink f given = (StandsInEvents linked events f × (given ≡ sink.given)) ⊎ IsCutShortOn linked events sink f given
