use Rattle.std.proofs.Common.{◌≡◌, sym, Some, refl}
use Rattle.linked_cells.specs.PlacesLaws.{place_at}
use Rattle.netlist_arena.proofs.CellPlaces.{place_view}
use Rattle.netlist_arena.proofs.Looks.{no_cell}
use Rattle.netlist_arena.proofs.Netlist.is_live.Goals as goal

pub returns-in-Some : goal.returns-in-Some
returns-in-Some c =
    let at : place_at c.self.inside.cells.items c.args.cell.0 ≡ Some _ = sym (c.in-Some.ensures) in
    let live = place_view c.self.inside.cells.items c.args.cell.0 _ at in
    rw (← c.self.view_is, live) (λ _. refl, λ _. refl)

pub returns-in-None : goal.returns-in-None
returns-in-None c = (λ no. absurd (cc), λ live. absurd (no_cell c.self.inside.cells.items c.args.cell.0 (rw (← c.self.view_is) at live) (sym c.in-None.ensures)))
