use Rattle.std.proofs.Common.{◌≡◌, take}
use Rattle.cell_library.proofs.copies.copy_of_steps.Given as goal

abbrev pub invariant-loop-step : goal.invariant-loop-step
invariant-loop-step l = l.copy ≡ take l.step-index l.steps
