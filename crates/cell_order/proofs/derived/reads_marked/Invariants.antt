use Rattle.std.proofs.Common.{◌<◌, ℕ}
use Rattle.cell_order.specs.Marks.{IsMarked}
use Rattle.netlist_model.specs.Lists.{CellView, Reads}
use Rattle.cell_order.proofs.derived.reads_marked.Given as goal

abbrev pub invariant-loop-place : goal.invariant-loop-place
invariant-loop-place l = (cell : CellView) (place net : ℕ) → place < l.place → Reads l.netlist.lists l.cell.0 cell place net → IsMarked l.marks net → ⊥
