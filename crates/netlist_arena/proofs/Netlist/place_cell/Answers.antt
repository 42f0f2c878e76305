use Rattle.std.proofs.Common.{length, refl, arith}
use Rattle.linked_cells.specs.netlist_model.Lists.{CellView, NetlistView}
use Rattle.netlist_arena.proofs.Puts.{puts_adds, puts_below, puts_counts}
use Rattle.linked_cells.proofs.Threads.{threaded_loosely}
use Rattle.linked_cells.specs.Cells.{cells_of, nets_of, slot_at, first_at, driver_at}
use Rattle.linked_cells.proofs.Writes.{nets_same, kept_there, length_kept, driver_kept}
use Rattle.netlist_arena.proofs.Lists.{feed_there, output_there, output_in_range, views_same, views_there}
use Rattle.netlist_arena.proofs.NetDrivers.{drivers_same, drivers_added}
use Rattle.netlist_arena.proofs.Netlist.place_cell.Goals as goal

pub add_loose-id-requires-clause-feeds : goal.add_loose-id-requires-clause-feeds
add_loose-id-requires-clause-feeds c = λ place low.
    let below = rw (← c.self.view_is) at c.requires.feeds in
    feed_there c.self.inside.nets.items _ c.self.invariant.nets_there (below place _ low)

pub add_loose-id-requires-clause-few : goal.add_loose-id-requires-clause-few
add_loose-id-requires-clause-few c = let few = c.requires.few in omega (arith, few)

pub note_driver-requires : goal.note_driver-requires
note_driver-requires c =
    let can = rw (← c.self.view_is) at c.requires.output in
    output_there c.self.inside.nets.items c.add_loose-id.new.nets.items _ c.args.output refl c.self.invariant.nets_there c.add_loose-id.ensures.nets can

pub invariant_of-self : goal.invariant_of-self
invariant_of-self c =
    let inside : NetlistView = record { library = c.self.inside.library; ports = c.self.inside.ports.items; nets = nets_of c.self.inside.nets.items; cells = cells_of c.self.inside.cells.items } in
    let cell : CellView = record { kind = c.args.cell.kind; name = c.args.cell.name; feeds = c.args.feeds.now; output = c.args.cell.output } in
    let can = rw (← c.self.view_is, ← c.requires.is) at c.requires.output in
    let feeds = rw (← c.self.view_is) at c.requires.feeds in
    let count = rw (← c.self.view_is) at c.requires.count in
    let nets = nets_same c.self.inside.nets.items c.add_loose-id.new.nets.items c.add_loose-id.ensures.nets in
    let nets2 = views_same c.add_loose-id.new.nets.items c.note_driver.new.nets.items c.note_driver.ensures.views in
    let adds = puts_adds inside (cells_of c.add_loose-id.new.cells.items) _ c.add_loose-id.result.0 cell refl c.add_loose-id.ensures.puts in
    let added = rw (← c.requires.is) at c.note_driver.ensures.driver in
    let before = drivers_same (driver_at c.self.inside.nets.items) (driver_at c.add_loose-id.new.nets.items) inside.cells inside.cells (λ n. driver_kept c.self.inside.nets.items c.add_loose-id.new.nets.items n c.add_loose-id.ensures.nets) refl
    c.self.invariant.drivers in
    record {
      port_room = c.self.invariant.port_room;
      pin_room = c.self.invariant.pin_room;
      pins_are = c.self.invariant.pins_are;
      ports_below = rw (nets2, nets) c.self.invariant.ports_below;
      counts = puts_counts c.self.inside.library inside.cells (cells_of c.add_loose-id.new.cells.items) _ c.add_loose-id.result.0 cell c.add_loose-id.ensures.puts count c.self.invariant.counts;
      cells_below = rw (nets2, nets) (puts_below (length (nets_of c.self.inside.nets.items)) inside.cells (cells_of c.add_loose-id.new.cells.items) _ c.add_loose-id.result.0 cell c.add_loose-id.ensures.puts
          (feeds, output_in_range _ inside cell.output refl can) c.self.invariant.cells_below);
      nets_there = λ k low. views_there c.add_loose-id.new.nets.items c.note_driver.new.nets.items k c.note_driver.ensures.views
          (λ low1. kept_there c.self.inside.nets.items c.add_loose-id.new.nets.items k c.add_loose-id.ensures.nets
          (c.self.invariant.nets_there k (rw (length_kept c.self.inside.nets.items c.add_loose-id.new.nets.items c.add_loose-id.ensures.nets) at low1))) low;
      threaded = threaded_loosely (slot_at c.add_loose-id.new.cells.items) (slot_at c.add_loose-id.new.cells.items) (first_at c.add_loose-id.new.nets.items) (first_at c.note_driver.new.nets.items) c.add_loose-id.ensures.threaded
          c.note_driver.ensures.firsts (λ r slot n at on. refl) (λ r slot n at on. refl);
      net_room = omega arith;
      cell_room = omega arith;
      drivers = drivers_added inside (record inside { cells = cells_of c.add_loose-id.new.cells.items }) (driver_at c.add_loose-id.new.nets.items) (driver_at c.note_driver.new.nets.items) c.add_loose-id.result.0 cell adds can added before;
    }

pub returns-clause-added : goal.returns-clause-added
returns-clause-added c =
    let inside : NetlistView = record { library = c.self.inside.library; ports = c.self.inside.ports.items; nets = nets_of c.self.inside.nets.items; cells = cells_of c.self.inside.cells.items } in
    let cell : CellView = record { kind = c.args.cell.kind; name = c.args.cell.name; feeds = c.args.feeds.now; output = c.args.cell.output } in
    let nets = nets_same c.self.inside.nets.items c.add_loose-id.new.nets.items c.add_loose-id.ensures.nets in
    let nets2 = views_same c.add_loose-id.new.nets.items c.note_driver.new.nets.items c.note_driver.ensures.views in
    let adds = puts_adds inside (cells_of c.add_loose-id.new.cells.items) _ c.add_loose-id.result.0 cell refl c.add_loose-id.ensures.puts in
    rw (← c.self.view_is, nets2, nets) (rw c.requires.is at adds)
