use Rattle.std.proofs.Common.{◌≤◌}
use Rattle.event_sim.proofs.EmptiedLog.{IsEmptied}
use Rattle.event_sim.proofs.changes.empty_log.Given as goal

abbrev pub invariant-loop-passed : goal.invariant-loop-passed
invariant-loop-passed l = record {
  emptied : IsEmptied l.values l.places l.fn.log l.log l.fn.changed l.changed l.before l.from;
  passed : l.passed ≤ l.from;
}
