use Rattle.std.proofs.Common.{◌≡◌, ◌+◌, drop}
use Rattle.core_sides.specs.stitched_netlist.Sites.{sides_of}
use Rattle.core_sides.specs.Pins.{between}
use Rattle.test_logic_parts.proofs.RowsAdded.{RowsAdded}
use Rattle.test_logic_parts.proofs.rows.add_rows.Given as goal

abbrev pub invariant-loop-place : goal.invariant-loop-place
invariant-loop-place l = record {
  added : RowsAdded l.fn.netlist l.netlist (between l.fn.netlist.lists.ports l.rows l.first) l.scan l.fn.tdi l.last l.side (drop l.place l.rows);
  left : l.side + sides_of l.fn.netlist.lists.ports (drop l.place l.rows) ≡ l.fn.end.0;
}
