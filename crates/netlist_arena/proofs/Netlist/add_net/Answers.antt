use Rattle.std.proofs.Common.{◌∙◌, sym, ap, ℕ, length, refl, arith, length-append, ◌∷◌, ◌++◌, [], Some, None, subst, count_by}
use Rattle.std.specs.Option.{is_some}
use Rattle.linked_cells.specs.PlacesLaws.{Puts}
use Rattle.linked_cells.specs.declared.Net.{Net}
use Rattle.linked_cells.specs.netlist_model.declared.NetId.{NetId}
use Rattle.linked_cells.specs.netlist_model.Lists.{NetlistView}
use Rattle.linked_cells.proofs.Threads.{threaded_loosely}
use Rattle.linked_cells.specs.Cells.{cells_of, nets_of, net_view, slot_at, first_at, driver_at}
use Rattle.netlist_arena.proofs.Growth.{undriven_past, direction_past}
use Rattle.netlist_arena.proofs.NetDrivers.{drivers_same}
use Rattle.netlist_arena.proofs.Lists.{net_added, nets_added, first_pushed, driver_pushed, there_pushed, below_more, ports_more, length_nets}
use Rattle.netlist_arena.proofs.Netlist.add_net.Goals as goal

pub invariant_of-self : goal.invariant_of-self
invariant_of-self c =
    let net : Net = record { name = c.args.name; index = c.args.index; driver = None; first = None } in
    let puts = subst (λ (n : Net). Puts c.self.inside.nets.items c.put-number.new.self.items (count_by is_some c.self.inside.nets.items) c.put-number.result n) c.new.ensures c.put-number.ensures.puts in
    let added = net_added c.self.inside.nets.items c.put-number.new.self.items c.put-number.result net c.self.invariant.nets_there puts in
    let items = added.items in
    let lists = nets_added c.self.inside.nets.items net in
    let longer = length-append (nets_of c.self.inside.nets.items) (net_view net ∷ []) in
    record {
      port_room = c.self.invariant.port_room;
      pin_room = c.self.invariant.pin_room;
      pins_are = c.self.invariant.pins_are;
      ports_below = rw (items, lists) (ports_more (length (nets_of c.self.inside.nets.items)) c.self.inside.ports.items _ (omega (arith, longer)) c.self.invariant.ports_below);
      counts = c.self.invariant.counts;
      cells_below = rw (items, lists) (below_more (length (nets_of c.self.inside.nets.items)) (cells_of c.self.inside.cells.items) _ (omega (arith, longer)) c.self.invariant.cells_below);
      nets_there = rw items (there_pushed c.self.inside.nets.items net c.self.invariant.nets_there);
      threaded = rw items (threaded_loosely (slot_at c.self.inside.cells.items) (slot_at c.self.inside.cells.items) (first_at c.self.inside.nets.items) (first_at (c.self.inside.nets.items ++ Some net ∷ [])) c.self.invariant.threaded
          (λ n. first_pushed c.self.inside.nets.items net n refl) (λ r slot n at on. refl) (λ r slot n at on. refl));
      net_room = omega arith;
      cell_room = omega arith;
      drivers = rw items (drivers_same (driver_at c.self.inside.nets.items) (driver_at (c.self.inside.nets.items ++ Some net ∷ [])) (cells_of c.self.inside.cells.items) (cells_of c.self.inside.cells.items)
          (λ n. driver_pushed c.self.inside.nets.items net n refl) refl c.self.invariant.drivers);
    }

pub returns-clause-id : goal.returns-clause-id
returns-clause-id c =
    let net : Net = record { name = c.args.name; index = c.args.index; driver = None; first = None } in
    let puts = subst (λ (n : Net). Puts c.self.inside.nets.items c.put-number.new.self.items (count_by is_some c.self.inside.nets.items) c.put-number.result n) c.new.ensures c.put-number.ensures.puts in
    let added = net_added c.self.inside.nets.items c.put-number.new.self.items c.put-number.result net c.self.invariant.nets_there puts in
    let len = length_nets c.self.inside.nets.items c.self.invariant.nets_there in
    let wrap : ℕ → NetId = λ n. record { 0 = n } in
    rw (← c.self.view_is) (ap wrap (added.is ∙ sym len))

pub returns-clause-lists : goal.returns-clause-lists
returns-clause-lists c =
    let net : Net = record { name = c.args.name; index = c.args.index; driver = None; first = None } in
    let puts = subst (λ (n : Net). Puts c.self.inside.nets.items c.put-number.new.self.items (count_by is_some c.self.inside.nets.items) c.put-number.result n) c.new.ensures c.put-number.ensures.puts in
    let added = net_added c.self.inside.nets.items c.put-number.new.self.items c.put-number.result net c.self.invariant.nets_there puts in
    let items = added.items in
    let lists = nets_added c.self.inside.nets.items net in
    rw (← c.self.view_is, items, lists) refl

pub returns-clause-undriven : goal.returns-clause-undriven
returns-clause-undriven c =
    let net : Net = record { name = c.args.name; index = c.args.index; driver = None; first = None } in
    let puts = subst (λ (n : Net). Puts c.self.inside.nets.items c.put-number.new.self.items (count_by is_some c.self.inside.nets.items) c.put-number.result n) c.new.ensures c.put-number.ensures.puts in
    let added = net_added c.self.inside.nets.items c.put-number.new.self.items c.put-number.result net c.self.invariant.nets_there puts in
    let len = length_nets c.self.inside.nets.items c.self.invariant.nets_there in
    let is = added.is in
    let inside : NetlistView = record { library = c.self.inside.library; ports = c.self.inside.ports.items; nets = nets_of c.self.inside.nets.items; cells = cells_of c.self.inside.cells.items } in
    undriven_past inside (length (nets_of c.self.inside.nets.items)) c.put-number.result c.self.invariant.cells_below (omega (arith, len, is))

pub returns-clause-inside : goal.returns-clause-inside
returns-clause-inside c =
    let net : Net = record { name = c.args.name; index = c.args.index; driver = None; first = None } in
    let puts = subst (λ (n : Net). Puts c.self.inside.nets.items c.put-number.new.self.items (count_by is_some c.self.inside.nets.items) c.put-number.result n) c.new.ensures c.put-number.ensures.puts in
    let added = net_added c.self.inside.nets.items c.put-number.new.self.items c.put-number.result net c.self.invariant.nets_there puts in
    let len = length_nets c.self.inside.nets.items c.self.invariant.nets_there in
    let is = added.is in
    direction_past c.self.inside.ports.items (length (nets_of c.self.inside.nets.items)) c.put-number.result c.self.invariant.ports_below (omega (arith, len, is))
