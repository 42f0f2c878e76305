use Rattle.std.proofs.Common.{◌≡◌, ◌+◌, ◌*◌, ◌≤◌, drop}
use Rattle.stitched_netlist.specs.Sides.{side_from}
use Rattle.core_sides.proofs.sides.sides.core_side.Given as goal

abbrev pub invariant-loop-row : goal.invariant-loop-row
invariant-loop-row l =
    (side_from l.netlist.lists.ports l.fn.net.0 l.side (drop l.row-index l.rows) ≡ side_from l.netlist.lists.ports l.fn.net.0 l.fn.first.0 l.rows) × (l.side ≤ l.fn.first.0 + 2 * l.row-index)
