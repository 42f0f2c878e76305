use Rattle.std.proofs.Common.{◌≡◌, true}
use Rattle.trials.proofs.netlists.toggled.readings.Given as goal

abbrev pub invariant-loop-number : goal.invariant-loop-number
invariant-loop-number l = record {
  linked : l.sim.linked ≡ l.fn.linked;
  started : l.sim.started ≡ true;
}
