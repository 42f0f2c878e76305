use Rattle.std.proofs.Common.{◌≡◌, ◌≤◌, drop}
use Rattle.cell_library.specs.Sound.{leaves_one}
use Rattle.cell_text.proofs.cells.leave_one.Given as goal

abbrev pub invariant-loop-step : goal.invariant-loop-step
invariant-loop-step l = record {
  same : leaves_one l.count l.depth (drop l.step-index l.steps) ≡ leaves_one l.count 0 l.steps;
  low : l.depth ≤ 16;
}
