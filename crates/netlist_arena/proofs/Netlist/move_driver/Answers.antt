use Rattle.std.proofs.Common.{arith, ◌≡◌, ◌≢◌, ◌∙◌, sym, ap, ℕ, ◌<◌, length, refl, Option, Some, None}
use Rattle.std.specs.List.{All}
use Rattle.linked_cells.specs.netlist_model.declared.CellId.{CellId}
use Rattle.linked_cells.specs.netlist_model.Lists.{NetlistView, IsUndriven}
use Rattle.linked_cells.specs.netlist_model.Formed.{IsDriven}
use Rattle.netlist_arena.specs.Arena.{IsPlaceBelow}
use Rattle.netlist_arena.proofs.Growth.{place_at as found_below, output_below}
use Rattle.netlist_arena.proofs.Changes.{moved_driver_below, moved_driver_counts}
use Rattle.linked_cells.proofs.Threads.{threaded_loosely}
use Rattle.linked_cells.specs.Cells.{cells_of, nets_of, slot_at, first_at, driver_at}
use Rattle.netlist_arena.specs.Drivers.{AreDrivers}
use Rattle.netlist_arena.proofs.Lists.{net_there, views_same, views_there, still_there}
use Rattle.netlist_arena.proofs.NetDrivers.{drivers_single}
use Rattle.netlist_arena.proofs.DrivenNets.{driver_moves, drivers_moved}
use Rattle.netlist_arena.proofs.CellPlaces.{live_place}
use Rattle.netlist_arena.proofs.Netlist.move_driver.Goals as goal

driven_below : (N : NetlistView) (net : ℕ) → IsDriven N net → All (IsPlaceBelow (length N.nets)) N.cells → net < length N.nets
driven_below N net driven below = output_below (length N.nets) net driven.cell.output (found_below (length N.nets) N.cells driven.number driven.cell below driven.drives.live).1 driven.drives.output

not_same : (N : NetlistView) (from to : ℕ) → IsDriven N from → IsUndriven N to → from ≢ to
not_same N from to driven free e = free driven.number driven.cell driven.drives.live (driven.drives.output ∙ ap (λ (n : ℕ). Some (record { 0 = n })) e)

never_none : (N : NetlistView) (d : ℕ → Option CellId) (net : ℕ) → AreDrivers d N.cells → IsDriven N net → d net ≡ None → ⊥
never_none N d net are driven none =
    let known = are.each driven.number net (record { cell = driven.cell; live = driven.drives.live; output = driven.drives.output }) in absurd (cc)

pub driver-requires : goal.driver-requires
driver-requires c =
    let inside : NetlistView = record { library = c.self.inside.library; ports = c.self.inside.ports.items; nets = nets_of c.self.inside.nets.items; cells = cells_of c.self.inside.cells.items } in
    net_there c.self.inside.nets.items c.args.from.0 c.self.invariant.nets_there (driven_below inside c.args.from.0 (rw (← c.self.view_is) at c.requires.driven) c.self.invariant.cells_below)

pub set_driver-requires : goal.set_driver-requires
set_driver-requires c =
    let inside : NetlistView = record { library = c.self.inside.library; ports = c.self.inside.ports.items; nets = nets_of c.self.inside.nets.items; cells = cells_of c.self.inside.cells.items } in
    net_there c.self.inside.nets.items c.args.from.0 c.self.invariant.nets_there (driven_below inside c.args.from.0 (rw (← c.self.view_is) at c.requires.driven) c.self.invariant.cells_below)

pub set_driver-requires-in-Some : goal.set_driver-requires-in-Some
set_driver-requires-in-Some c =
    let to = rw (← c.self.view_is) at c.requires.to in
    let there = net_there c.self.inside.nets.items c.args.to.0 c.self.invariant.nets_there to in
    still_there c.self.inside.nets.items c.set_driver.new.nets.items c.args.to.0 c.set_driver.ensures.writes.views there

pub unreachable-requires : goal.unreachable-requires
unreachable-requires c =
    let inside : NetlistView = record { library = c.self.inside.library; ports = c.self.inside.ports.items; nets = nets_of c.self.inside.nets.items; cells = cells_of c.self.inside.cells.items } in
    never_none inside (driver_at c.self.inside.nets.items) c.args.from.0 c.self.invariant.drivers (rw (← c.self.view_is) at c.requires.driven) (sym c.driver.ensures ∙ c.in-None.is)

pub drive-requires : goal.drive-requires
drive-requires c =
    let drives = c.self.invariant.drivers.named c.args.from.0 c.in-Some.id (sym c.driver.ensures ∙ c.in-Some.is) in
    live_place c.self.inside.cells.items c.in-Some.id.0 drives.cell drives.live

pub invariant_of-self : goal.invariant_of-self
invariant_of-self c =
    let inside : NetlistView = record { library = c.self.inside.library; ports = c.self.inside.ports.items; nets = nets_of c.self.inside.nets.items; cells = cells_of c.self.inside.cells.items } in
    let at = sym c.driver.ensures ∙ c.in-Some.is in
    let drives = c.self.invariant.drivers.named c.args.from.0 c.in-Some.id at in
    let single = drivers_single (driver_at c.self.inside.nets.items) inside.cells c.self.invariant.drivers in
    let cells = c.drive.ensures.cells ∙ driver_moves inside.cells c.args.from c.args.to c.in-Some.id.0 drives (λ i d. single.one i c.in-Some.id.0 c.args.from.0 d drives) in
    let to = rw (← c.self.view_is) at c.requires.to in
    let driven = rw (← c.self.view_is) at c.requires.driven in
    let free = rw (← c.self.view_is) at c.requires.free.undriven in
    let differ = not_same inside c.args.from.0 c.args.to.0 driven free in
    let nets1 = views_same c.self.inside.nets.items c.set_driver.new.nets.items c.set_driver.ensures.writes.views in
    let nets2 = views_same c.set_driver.new.nets.items c.set_driver-in-Some.new.nets.items c.set_driver-in-Some.ensures.writes.views in
    record {
      port_room = c.self.invariant.port_room;
      pin_room = c.self.invariant.pin_room;
      pins_are = c.self.invariant.pins_are;
      ports_below = rw (nets2, nets1) c.self.invariant.ports_below;
      counts = rw cells (moved_driver_counts c.self.inside.library c.args.from c.args.to inside.cells c.self.invariant.counts);
      cells_below = rw (nets2, nets1, cells) (moved_driver_below _ c.args.from c.args.to inside.cells to c.self.invariant.cells_below);
      nets_there = λ k low. views_there c.set_driver.new.nets.items c.set_driver-in-Some.new.nets.items k c.set_driver-in-Some.ensures.writes.views
          (λ low1. views_there c.self.inside.nets.items c.set_driver.new.nets.items k c.set_driver.ensures.writes.views (c.self.invariant.nets_there k) low1) low;
      threaded = threaded_loosely (slot_at c.self.inside.cells.items) (slot_at c.drive.new.cells.items) (first_at c.self.inside.nets.items) (first_at c.set_driver-in-Some.new.nets.items) c.self.invariant.threaded
          (λ n. c.set_driver-in-Some.ensures.writes.firsts n ∙ c.set_driver.ensures.writes.firsts n) (λ r slot n there on. c.drive.ensures.slots r) (λ r slot n there on. c.drive.ensures.slots r);
      net_room = omega arith;
      cell_room = omega arith;
      drivers = rw cells (drivers_moved inside (driver_at c.self.inside.nets.items) (driver_at c.set_driver-in-Some.new.nets.items) c.args.from c.args.to c.in-Some.id c.self.invariant.drivers at free differ
          (c.set_driver-in-Some.ensures.writes.others c.args.from.0 differ ∙ c.set_driver.ensures.writes.here) c.set_driver-in-Some.ensures.writes.here
          (λ n not_from not_to. c.set_driver-in-Some.ensures.writes.others n not_to ∙ c.set_driver.ensures.writes.others n not_from));
    }

pub returns-clause-lists : goal.returns-clause-lists
returns-clause-lists c =
    let inside : NetlistView = record { library = c.self.inside.library; ports = c.self.inside.ports.items; nets = nets_of c.self.inside.nets.items; cells = cells_of c.self.inside.cells.items } in
    let at = sym c.driver.ensures ∙ c.in-Some.is in
    let drives = c.self.invariant.drivers.named c.args.from.0 c.in-Some.id at in
    let single = drivers_single (driver_at c.self.inside.nets.items) inside.cells c.self.invariant.drivers in
    let cells = c.drive.ensures.cells ∙ driver_moves inside.cells c.args.from c.args.to c.in-Some.id.0 drives (λ i d. single.one i c.in-Some.id.0 c.args.from.0 d drives) in
    let nets1 = views_same c.self.inside.nets.items c.set_driver.new.nets.items c.set_driver.ensures.writes.views in
    let nets2 = views_same c.set_driver.new.nets.items c.set_driver-in-Some.new.nets.items c.set_driver-in-Some.ensures.writes.views in
    rw (← c.self.view_is, nets2, nets1, cells) refl
