use Rattle.std.proofs.Common.{◌≡◌, sym, Some}
use Rattle.linked_cells.specs.PlacesLaws.{place_at}
use Rattle.linked_cells.specs.Cells.{cell_view, cells_of}
use Rattle.netlist_arena.proofs.Growth.{place_at as found_below, count_at}
use Rattle.netlist_arena.proofs.CellPlaces.{place_view}
use Rattle.netlist_arena.proofs.Looks.{no_cell}
use Rattle.netlist_arena.proofs.Netlist.cell.Goals as goal

pub unreachable-requires : goal.unreachable-requires
unreachable-requires c = no_cell c.self.inside.cells.items c.args.id.0 (rw (← c.self.view_is) at c.requires) (sym c.in-None.ensures)

pub returns-clause-found : goal.returns-clause-found
returns-clause-found c =
    let at : place_at c.self.inside.cells.items c.args.id.0 ≡ Some c.in-Some.cell.now = sym (c.in-Some.ensures) in
    rw (← c.self.view_is) (place_view c.self.inside.cells.items c.args.id.0 c.in-Some.cell.now at)

pub returns-clause-below : goal.returns-clause-below
returns-clause-below c =
    let at : place_at c.self.inside.cells.items c.args.id.0 ≡ Some c.in-Some.cell.now = sym (c.in-Some.ensures) in
    let live = place_view c.self.inside.cells.items c.args.id.0 c.in-Some.cell.now at in
    rw (← c.self.view_is) (found_below _ (cells_of c.self.inside.cells.items) c.args.id.0 (cell_view c.in-Some.cell.now) c.self.invariant.cells_below live)

pub returns-clause-count : goal.returns-clause-count
returns-clause-count c =
    let at : place_at c.self.inside.cells.items c.args.id.0 ≡ Some c.in-Some.cell.now = sym (c.in-Some.ensures) in
    let live = place_view c.self.inside.cells.items c.args.id.0 c.in-Some.cell.now at in
    rw (← c.self.view_is) (count_at c.self.inside.library (cells_of c.self.inside.cells.items) c.args.id.0 (cell_view c.in-Some.cell.now) c.self.invariant.counts live)
