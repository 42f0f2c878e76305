use Rattle.std.proofs.Common.{◌≡◌, ◌≤◌, true, length}
use Rattle.netlist_model.specs.Runs.{Moment}
use Rattle.netlist_meaning.specs.Sims.{moment_of}
use Rattle.sim_runs.specs.Bits.{IsToldBefore}
use Rattle.sim_runs.proofs.Changes.{IsToldUpTo}
use Rattle.sim_runs.proofs.readings.put_changes.Given as goal

abbrev pub invariant-loop-passed : goal.invariant-loop-passed
invariant-loop-passed g l = record {
  linked : l.sim.linked ≡ l.linked;
  started : l.sim.started ≡ true;
  moment : l.sim.moment ≡ l.fn.sim.moment;
  long : length l.told ≡ length l.bits;
  changes : (before : Moment) → IsToldBefore l.linked.arena.lists before (moment_of l.fn.sim.moment) l.bits l.fn.told l.fn.sim.changed
      → IsToldUpTo l.linked before (moment_of l.fn.sim.moment) l.bits l.fn.told l.fn.sim.changed l.sim.changed l.told (g.O.Sink.given l.fn.out) (g.O.Sink.given l.out) l._passed;
  later : g.O.Sink.faults l.fn.out ≤ g.O.Sink.faults l.out;
}
