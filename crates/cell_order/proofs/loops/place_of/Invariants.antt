use Rattle.std.proofs.Common.{◌<◌, ℕ}
use Rattle.netlist_model.specs.Orders.{StandsAt}
use Rattle.cell_order.proofs.loops.place_of.Given as goal

abbrev pub invariant-loop-place : goal.invariant-loop-place
invariant-loop-place l = (k : ℕ) → k < l.place → StandsAt l.path k l.cell.0 → ⊥
