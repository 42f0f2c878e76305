use Rattle.linked_cells.specs.netlist_model.Lists.{NetlistView}
use Rattle.linked_cells.specs.Cells.{cells_of, nets_of, driver_at}
use Rattle.netlist_arena.proofs.Laid.{laid_out}
use Rattle.netlist_arena.proofs.Single.{once_driven}
use Rattle.netlist_arena.proofs.NetDrivers.{drivers_single}
use Rattle.netlist_arena.proofs.Netlist.is_laid_out.Goals as goal

pub returns-clause-laid_out : goal.returns-clause-laid_out
returns-clause-laid_out c =
    let inside : NetlistView = record { library = c.self.inside.library; ports = c.self.inside.ports.items; nets = nets_of c.self.inside.nets.items; cells = cells_of c.self.inside.cells.items } in
    rw (← c.self.view_is) (laid_out inside c.self.invariant.ports_below c.self.invariant.cells_below)

pub returns-clause-driven_once : goal.returns-clause-driven_once
returns-clause-driven_once c =
    let inside : NetlistView = record { library = c.self.inside.library; ports = c.self.inside.ports.items; nets = nets_of c.self.inside.nets.items; cells = cells_of c.self.inside.cells.items } in
    rw (← c.self.view_is) (once_driven inside (drivers_single (driver_at c.self.inside.nets.items) inside.cells c.self.invariant.drivers))
