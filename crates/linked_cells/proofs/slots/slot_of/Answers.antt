use Rattle.std.proofs.Common.{◌≡◌, sym, ◌∙◌, Some}
use Rattle.linked_cells.specs.PlacesLaws.{place_at}
use Rattle.linked_cells.proofs.Writes.{slot_in, place_within, none_there}
use Rattle.linked_cells.proofs.slots.slot_of.Goals as goal

pub slot-requires : goal.slot-requires
slot-requires c = place_within c.args.cells.now.items c.args.reader c.in-Some.cell.now c.requires (sym (c.in-Some.ensures))

pub unreachable-requires : goal.unreachable-requires
unreachable-requires c = none_there c.args.cells.now.items c.args.reader c.requires (sym c.in-None.ensures)

pub returns : goal.returns
returns c =
    let at : place_at c.args.cells.now.items c.args.reader.cell.0 ≡ Some c.in-Some.cell.now = sym (c.in-Some.ensures) in
    slot_in c.args.cells.now.items c.args.reader c.in-Some.cell.now at ∙ c.slot.ensures
