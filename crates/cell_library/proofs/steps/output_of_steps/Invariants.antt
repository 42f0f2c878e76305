use Rattle.cell_library.proofs.StepRuns.{Goes}
use Rattle.cell_library.proofs.steps.output_of_steps.Given as goal

abbrev pub invariant-loop-step : goal.invariant-loop-step
invariant-loop-step l = Goes l.count l.inputs l.stack l.step-index l.steps
