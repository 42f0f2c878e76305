use Rattle.std.proofs.Common.{arith, refl}
use Rattle.linked_cells.proofs.list_laws.Options.{some_there}
use Rattle.linked_cells.specs.Cells.{cells_of, feed_in, driver_at}
use Rattle.netlist_arena.proofs.NetDrivers.{drivers_same, outputs_connected}
use Rattle.linked_cells.proofs.Operands.{slot_there}
use Rattle.linked_cells.proofs.Writes.{nets_same, kept_there, length_kept, driver_kept}
use Rattle.netlist_arena.proofs.Lists.{feed_there, operand_there, connected_below, connected_counts}
use Rattle.netlist_arena.proofs.Netlist.connect.Goals as goal

pub connect-requires-clause-there : goal.connect-requires-clause-there
connect-requires-clause-there c =
    let operand = rw (← c.self.view_is) at c.requires.operand in
    let found = some_there (feed_in (cells_of c.self.inside.cells.items) c.args.cell.0 c.args.place) operand in
    slot_there c.self.inside.cells.items (record { cell = c.args.cell; place = c.args.place }) found.0 found.1

pub connect-requires-clause-net : goal.connect-requires-clause-net
connect-requires-clause-net c = λ net at.
    operand_there c.self.inside.nets.items (cells_of c.self.inside.cells.items) c.args.cell.0 c.args.place net c.self.invariant.nets_there c.self.invariant.cells_below at

pub connect-requires-clause-feed : goal.connect-requires-clause-feed
connect-requires-clause-feed c =
    let below = rw (← c.self.view_is) at c.requires.feed in
    feed_there c.self.inside.nets.items c.args.feed c.self.invariant.nets_there below

pub invariant_of-self : goal.invariant_of-self
invariant_of-self c =
    let below = rw (← c.self.view_is) at c.requires.feed in
    let nets = nets_same c.self.inside.nets.items c.connect.new.nets.items c.connect.ensures.nets in
    let len = length_kept c.self.inside.nets.items c.connect.new.nets.items c.connect.ensures.nets in
    record {
      port_room = c.self.invariant.port_room;
      pin_room = c.self.invariant.pin_room;
      pins_are = c.self.invariant.pins_are;
      ports_below = rw nets c.self.invariant.ports_below;
      counts = rw c.connect.ensures.cells (connected_counts c.self.inside.library c.args.cell.0 c.args.place c.args.feed (cells_of c.self.inside.cells.items) c.self.invariant.counts);
      cells_below = rw (nets, c.connect.ensures.cells) (connected_below _ c.args.cell.0 c.args.place c.args.feed (cells_of c.self.inside.cells.items) below c.self.invariant.cells_below);
      nets_there = λ k low. kept_there c.self.inside.nets.items c.connect.new.nets.items k c.connect.ensures.nets (c.self.invariant.nets_there k (rw len at low));
      threaded = c.connect.ensures.threaded;
      net_room = omega arith;
      cell_room = omega arith;
      drivers = drivers_same (driver_at c.self.inside.nets.items) (driver_at c.connect.new.nets.items) (cells_of c.self.inside.cells.items) (cells_of c.connect.new.cells.items)
          (λ n. driver_kept c.self.inside.nets.items c.connect.new.nets.items n c.connect.ensures.nets)
          (rw c.connect.ensures.cells (outputs_connected c.args.cell.0 c.args.place c.args.feed (cells_of c.self.inside.cells.items))) c.self.invariant.drivers;
    }

pub returns-clause-lists : goal.returns-clause-lists
returns-clause-lists c =
    let nets = nets_same c.self.inside.nets.items c.connect.new.nets.items c.connect.ensures.nets in
    rw (← c.self.view_is, nets, c.connect.ensures.cells) refl
