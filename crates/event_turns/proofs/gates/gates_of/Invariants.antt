use Rattle.std.proofs.Common.{◌≤◌, length}
use Rattle.event_turns.specs.Tables.{AreGates}
use Rattle.event_turns.proofs.gates.gates_of.Given as goal

abbrev pub invariant-loop-cell : goal.invariant-loop-cell
invariant-loop-cell l = record {
  placed : AreGates l.netlist.lists l.order l.cell-index l.gates.items l.feeds.items;
  upto : l.cell-index ≤ length l.order;
}
