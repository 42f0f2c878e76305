use Rattle.std.proofs.Common.{◌≡◌, ◌*◌, ◌≤◌, take}
use Rattle.stitched_netlist.specs.Sites.{sides_of}
use Rattle.core_sides.proofs.sides.sides.sides_of.Given as goal

abbrev pub invariant-loop-row : goal.invariant-loop-row
invariant-loop-row l = (l.count ≡ sides_of l.netlist.lists.ports (take l.row-index l.rows)) × (l.count ≤ 2 * l.row-index)
