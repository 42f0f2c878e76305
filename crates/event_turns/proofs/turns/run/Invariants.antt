use Rattle.std.proofs.Common.{◌≡◌, ◌≤◌, ◌-◌, length}
use Rattle.event_turns.specs.Circuits.{IsUnderWay, event_from}
use Rattle.event_turns.specs.Logs.{Logs}
use Rattle.event_turns.proofs.turns.run.Given as goal

abbrev pub invariant-loop-passed : goal.invariant-loop-passed
invariant-loop-passed g l = record {
  under : IsUnderWay l.circuit (event_from l.pins l.before l.fn.state) l.values l.state l.drives l.queue l.from (l.steps - l.fn.steps);
  passed : l.passed ≤ l.from;
  state : length l.state ≡ length l.fn.state;
  logs : Logs (length l.circuit.lists.nets) l.fn.values l.values l.fn.drives l.drives l.fn.log l.log;
}
