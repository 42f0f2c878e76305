use Rattle.std.proofs.Common.{◌≡◌, ◌+◌, take}
use Rattle.stitched_netlist.specs.Sites.{sides_of}
use Rattle.core_sides.specs.Pins.{between}
use Rattle.core_sides.proofs.Behind.{behind_rows}
use Rattle.core_sides.proofs.moves.row_moves.stand_behind.Given as goal

abbrev pub invariant-loop-row : goal.invariant-loop-row
invariant-loop-row l =
    (l.netlist.lists ≡ behind_rows (between l.fn.netlist.lists.ports l.rows l.fn.first) (take l.row-index l.rows) l.fn.netlist.lists) × (l.netlist.spare ≡ l.fn.netlist.spare)
    × (l.side ≡ l.fn.first.0 + sides_of l.fn.netlist.lists.ports (take l.row-index l.rows))
