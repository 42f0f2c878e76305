use Rattle.std.proofs.Common.{◌≡◌, length}
use Rattle.linked_cells.specs.Links.{IsMoving, walk_from}
use Rattle.linked_cells.specs.Cells.{slot_at, slot_count, SameShapes}
use Rattle.linked_cells.proofs.links.turn_all.Given as goal

abbrev pub invariant-loop-reader : goal.invariant-loop-reader
invariant-loop-reader l = record {
  walk : IsMoving (slot_at l.fn.cells.items) (slot_at l.cells.items) l.fn.from.0 l.to.0 l.fn.start l.at l.last (slot_count l.fn.cells.items);
  shapes : SameShapes l.fn.cells.items l.cells.items;
  spare : l.cells.spare ≡ l.fn.cells.spare;
}

abbrev pub decreases-loop-reader : goal.decreases-loop-reader
decreases-loop-reader l = length (walk_from (slot_at l.cells.items) (slot_count l.fn.cells.items) l.at)
