use Rattle.std.proofs.Common.{◌≡◌}
use Rattle.trials.proofs.calls.devices.play.Given as goal

abbrev pub invariant-loop-tms : goal.invariant-loop-tms
invariant-loop-tms l = l.machine.logic ≡ l.fn.machine.logic
