use Rattle.std.proofs.Common.{arith, refl, [], None}
use Rattle.std.proofs.lemmas.List.Elements.{All-set}
use Rattle.linked_cells.specs.netlist_model.Lists.{NetlistView}
use Rattle.netlist_arena.specs.Arena.{HasItsOperands, IsPlaceBelow}
use Rattle.netlist_arena.proofs.Puts.{emptied}
use Rattle.netlist_arena.proofs.Single.{undriven_removed}
use Rattle.linked_cells.proofs.Threads.{threaded_loosely}
use Rattle.linked_cells.specs.Cells.{cells_of, nets_of, slot_at, first_at, driver_at}
use Rattle.linked_cells.proofs.Writes.{nets_same, kept_there, length_kept, driver_kept}
use Rattle.netlist_arena.proofs.Lists.{operand_there, output_place, views_same, views_there}
use Rattle.netlist_arena.proofs.NetDrivers.{drivers_same, drivers_single, drivers_removed}
use Rattle.netlist_arena.proofs.CellPlaces.{remove_threaded}
use Rattle.netlist_arena.proofs.Removals.{removing, output_of_live}
use Rattle.netlist_arena.proofs.Netlist.remove_cell.Goals as goal

pub clear_all-requires-clause-nets : goal.clear_all-requires-clause-nets
clear_all-requires-clause-nets c = λ place net at.
    operand_there c.self.inside.nets.items (cells_of c.self.inside.cells.items) c.args.cell.0 place net c.self.invariant.nets_there c.self.invariant.cells_below at

pub remove-requires : goal.remove-requires
remove-requires c =
    let live = rw (← c.self.view_is) at c.requires in
    (removing c.self.inside.cells.items c.clear_all.new.cells.items [] c.args.cell.0 _ _ live c.count_of-count.ensures c.output_of-output.ensures c.clear_all.ensures.cells).there

pub drop_driver-requires : goal.drop_driver-requires
drop_driver-requires c =
    let live = rw (← c.self.view_is) at c.requires in
    let r = removing c.self.inside.cells.items c.clear_all.new.cells.items [] c.args.cell.0 _ _ live c.count_of-count.ensures c.output_of-output.ensures c.clear_all.ensures.cells in
    let output = r.output_is in
    rw output (output_place c.self.inside.nets.items c.clear_all.new.nets.items r.cell.output c.self.invariant.nets_there c.clear_all.ensures.nets
    (output_of_live _ (cells_of c.self.inside.cells.items) c.args.cell.0 r.cell c.self.invariant.cells_below r.live))

pub invariant_of-self : goal.invariant_of-self
invariant_of-self c =
    let live = rw (← c.self.view_is) at c.requires in
    let r = removing c.self.inside.cells.items c.clear_all.new.cells.items c.remove.new.self.items c.args.cell.0 _ _ live c.count_of-count.ensures c.output_of-output.ensures c.clear_all.ensures.cells in
    let cells = r.cells c.remove.ensures.items in
    let nets = nets_same c.self.inside.nets.items c.clear_all.new.nets.items c.clear_all.ensures.nets in
    let nets2 = views_same c.clear_all.new.nets.items c.drop_driver.new.nets.items c.drop_driver.ensures.views in
    let dropped = rw r.output_is at c.drop_driver.ensures.driver in
    let before = drivers_same (driver_at c.self.inside.nets.items) (driver_at c.clear_all.new.nets.items) (cells_of c.self.inside.cells.items) (cells_of c.self.inside.cells.items)
    (λ n. driver_kept c.self.inside.nets.items c.clear_all.new.nets.items n c.clear_all.ensures.nets) refl c.self.invariant.drivers in
    record {
      port_room = c.self.invariant.port_room;
      pin_room = c.self.invariant.pin_room;
      pins_are = c.self.invariant.pins_are;
      ports_below = rw (nets2, nets) c.self.invariant.ports_below;
      counts = rw cells (All-set (HasItsOperands c.self.inside.library) (cells_of c.self.inside.cells.items) c.args.cell.0 None tt c.self.invariant.counts);
      cells_below = rw (nets2, nets, cells) (All-set (IsPlaceBelow _) (cells_of c.self.inside.cells.items) c.args.cell.0 None tt c.self.invariant.cells_below);
      nets_there = λ k low. views_there c.clear_all.new.nets.items c.drop_driver.new.nets.items k c.drop_driver.ensures.views
          (λ low1. kept_there c.self.inside.nets.items c.clear_all.new.nets.items k c.clear_all.ensures.nets
          (c.self.invariant.nets_there k (rw (length_kept c.self.inside.nets.items c.clear_all.new.nets.items c.clear_all.ensures.nets) at low1))) low;
      threaded = rw c.remove.ensures.items (remove_threaded c.clear_all.new.cells.items (first_at c.drop_driver.new.nets.items) c.args.cell.0 r.mid_below r.blank
          (threaded_loosely (slot_at c.clear_all.new.cells.items) (slot_at c.clear_all.new.cells.items) (first_at c.clear_all.new.nets.items) (first_at c.drop_driver.new.nets.items) c.clear_all.ensures.threaded
          c.drop_driver.ensures.firsts (λ q slot n at on. refl) (λ q slot n at on. refl)));
      net_room = omega arith;
      cell_room = omega arith;
      drivers = rw cells (drivers_removed (cells_of c.self.inside.cells.items) (driver_at c.clear_all.new.nets.items) (driver_at c.drop_driver.new.nets.items) c.args.cell.0 r.cell r.below r.live dropped before);
    }

pub returns-clause-removed : goal.returns-clause-removed
returns-clause-removed c =
    let inside : NetlistView = record { library = c.self.inside.library; ports = c.self.inside.ports.items; nets = nets_of c.self.inside.nets.items; cells = cells_of c.self.inside.cells.items } in
    let live = rw (← c.self.view_is) at c.requires in
    let r = removing c.self.inside.cells.items c.clear_all.new.cells.items c.remove.new.self.items c.args.cell.0 _ _ live c.count_of-count.ensures c.output_of-output.ensures c.clear_all.ensures.cells in
    let cells = r.cells c.remove.ensures.items in
    let nets = nets_same c.self.inside.nets.items c.clear_all.new.nets.items c.clear_all.ensures.nets in
    let nets2 = views_same c.clear_all.new.nets.items c.drop_driver.new.nets.items c.drop_driver.ensures.views in
    rw (← c.self.view_is, cells, nets2, nets) (emptied inside c.args.cell.0 live r.below)

pub returns-clause-undriven : goal.returns-clause-undriven
returns-clause-undriven c = λ found net at output.
    let inside : NetlistView = record { library = c.self.inside.library; ports = c.self.inside.ports.items; nets = nets_of c.self.inside.nets.items; cells = cells_of c.self.inside.cells.items } in
    let live = rw (← c.self.view_is) at c.requires in
    let here = rw (← c.self.view_is) at at in
    let r = removing c.self.inside.cells.items c.clear_all.new.cells.items c.remove.new.self.items c.args.cell.0 _ _ live c.count_of-count.ensures c.output_of-output.ensures c.clear_all.ensures.cells in
    let cells = r.cells c.remove.ensures.items in
    rw cells (undriven_removed inside c.args.cell.0 net.0 found (drivers_single (driver_at c.self.inside.nets.items) (cells_of c.self.inside.cells.items) c.self.invariant.drivers) r.below here output)
