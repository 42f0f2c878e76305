-- Each net of a demonstration netlist has the drivers that it may have.
use Rattle.std.proofs.Common.{◌≡◌, ℕ, ◌+◌, ◌-◌, ◌<◌, ◌≤◌, true, false, List, length, ap, sym, ◌∙◌, Some, None, arith}
use Rattle.std.specs.Prelude.{slice_get}
use Rattle.std.proofs.lemmas.Option.{same_Some}
use Rattle.list_laws.proofs.Lists.{slice_get_there}
use Rattle.cell_library.specs.declared.listed.ListedCell.{ListedCell}
use Rattle.netlist_model.specs.declared.NetId.{NetId}
use Rattle.link_model.specs.Nets.{NamedNet, declared_nets, nets_in}
use Rattle.link_model.specs.Cells.{NamedCell}
use Rattle.link_model.specs.Denoted.{net_id}
use Rattle.link_model.specs.Faults.{cells_in, driver_fault}
use Rattle.link_rules.specs.DriversLaws.{HasDriver, HasItsDrivers, dir_at}
use Rattle.netlist_link.proofs.Drivers.{no_driver_fault}
use Rattle.demo_chips.specs.Netlists.{demo_module, gate_count}
use Rattle.demo_chips.proofs.Directions.{HasDirection, direction_at}
use Rattle.demo_chips.proofs.NetlistsCells.{IsDemoCell, cells_count, demo_cells, read_at}

-- the net that a cell drives
pub net_driven : (count number net : ℕ) (cell : NamedCell) → IsDemoCell count number cell → cell.output ≡ Some (record { 0 = net }) → net + number ≡ 65 + count
net_driven count number net cell is drives =
    let same : is.output ≡ net = ap (λ (x : NetId). x.0) (same_Some (record { 0 = is.output }) (record { 0 = net }) (sym is.drives ∙ drives)) in
    let place = is.place in
    omega arith

-- what is known of the cells and of the nets' directions
pub record IsLaid (count : ℕ) (nets : List NamedNet) (cells : List NamedCell) : Type 0 where
  pub each : (number : ℕ) (cell : NamedCell) → slice_get cells number ≡ Some cell → IsDemoCell count number cell
  pub all : length cells ≡ count + 48
  pub directions : (net : ℕ) → HasDirection net (dir_at nets net)

-- each net from the outputs on is driven
driver : (count net : ℕ) (nets : List NamedNet) (cells : List NamedCell) → IsLaid count nets cells → 18 ≤ net → net < 66 + count → HasDriver cells net
driver count net nets cells w from below =
    let all = w.all in
    let there = slice_get_there cells (65 + count - net) (omega arith) in
    let is = w.each (65 + count - net) there.0 there.1 in
    let place = is.place in
    let same : is.output ≡ net = omega arith in
    record { number = 65 + count - net; cell = there.0; drives = record { there = there.1; output = is.drives ∙ ap (λ (k : ℕ). Some (net_id k)) same } }

has_drivers : (count : ℕ) (nets : List NamedNet) (cells : List NamedCell) → IsLaid count nets cells → HasItsDrivers nets cells
has_drivers count nets cells w = record {
  inputs_free = λ i cell net d e.
      let is = w.each i cell d.there in
      let place = net_driven count i net cell is d.output in
      let last = is.last in
      let less = (w.directions net).input e in
      omega arith;
  one_driver = λ i j cell other net d f.
      let one = net_driven count i net cell (w.each i cell d.there) d.output in
      let two = net_driven count j net other (w.each j other f.there) f.output in
      omega arith;
  outputs_driven = λ net e. let at = (w.directions net).output e in let low = at.0 in let high = at.1 in driver count net nets cells w low (omega arith);
  inouts_driven = λ net e. absurd ((w.directions net).inout e);
  read_driven = λ i cell place net r e.
      let read = read_at count i cell place net (w.each i cell r.there) r.operand in
      let from = (w.directions net).wire e in
      driver count net nets cells w (omega arith) read.below;
  bufif_outside = λ i cell net d three. absurd (let bad : true ≡ false = sym three ∙ (w.each i cell d.there).steady in cc);
  inout_bufif = λ i cell net d e. absurd ((w.directions net).inout e);
  bufif_unread = λ i j cell other place net d three r e. let bad : true ≡ false = sym three ∙ (w.each i cell d.there).steady in cc;
}

pub laid : (library : List ListedCell) (n : ℕ) → n < 10000 → IsLaid (gate_count n) (nets_in (declared_nets (demo_module n))) (cells_in library (demo_module n))
laid library n low = record { each = demo_cells library n low; all = cells_count library n; directions = direction_at n }

pub drivers_clear : (library : List ListedCell) (n : ℕ) → n < 10000 → driver_fault (nets_in (declared_nets (demo_module n))) (cells_in library (demo_module n)) ≡ None
drivers_clear library n low =
    no_driver_fault (nets_in (declared_nets (demo_module n))) (cells_in library (demo_module n)) (has_drivers (gate_count n) (nets_in (declared_nets (demo_module n))) (cells_in library (demo_module n)) (laid library n low))
