-- What drives the nets of the bits of a plan that fits.
use Rattle.std.proofs.Common.{◌≡◌, ◌≢◌, ℕ, Bool, true, false, List, [], length, Option, Some, None, refl, sym, ap, ◌∙◌, eq-eqb}
use Rattle.cell_library.specs.declared.Kind.{Kind}
use Rattle.cell_library.specs.declared.Kind.TheVariants.{Bufif0, Bufif1}
use Rattle.cell_library.specs.declared.listed.ListedCell.{ListedCell}
use Rattle.cell_library.specs.Gates.{is_three_state, Takes}
use Rattle.cell_library.specs.declared.codes.BoundaryKind.{BoundaryKind}
use Rattle.cell_library.specs.declared.codes.BoundaryKind.TheVariants as cell
use Rattle.netlist_model.specs.declared.Dir.{Dir}
use Rattle.netlist_model.specs.declared.Dir.TheVariants as dir
use Rattle.netlist_model.specs.declared.NetId.{NetId}
use Rattle.netlist_model.specs.declared.Feed.{Feed}
use Rattle.netlist_model.specs.declared.Feed.TheVariants.{Net}
use Rattle.netlist_model.specs.Lists.{CellView, NetView, NetlistView, direction, Drives}
use Rattle.netlist_model.specs.Formed.{IsDriven, IsWellFormed}
use Rattle.texts.specs.First.{or_else}
use Rattle.core_sides.specs.plan_fitting.Pins.{PinSeen}
use Rattle.core_sides.specs.plan_fitting.Rows.{Driver, gate_driver, three_state, added_driver, output_driver}
use Rattle.core_sides.proofs.plan_fitting.Drivers.{gate_is}
use Rattle.core_sides.proofs.plan_fitting.Rows.{side_driver, data_function, data_core}
use Rattle.core_sides.specs.stitched_netlist.Sites.{is_own_net, output_site, site_by}
use Rattle.core_sides.specs.stitched_netlist.Stitched.{with_nets}
use Rattle.core_sides.specs.Ready.{HasDriver, IsDrivenAt}

-- A three-state gate has two operands.

three_takes : (library : List ListedCell) (kind : Kind) (count : ℕ) → is_three_state kind ≡ true → Takes library kind count → count ≡ 2
three_takes library Bufif1 count three takes = takes
three_takes library Bufif0 count three takes = takes
three_takes library _ count three takes = absurd (cc)

-- More nets change nothing.

driven_still : (N : NetlistView) (more : List NetView) (net : ℕ) → IsDriven N net → IsDriven (with_nets more N) net
driven_still N more net d = record { number = d.number; cell = d.cell; drives = record { live = d.drives.live; output = d.drives.output } }

other_side : (side : Dir) (found : Option Dir) → found ≡ Some side → (side ≡ dir.Input → ⊥) → found ≢ Some dir.Input
other_side side found is other e = other (inside side dir.Input (sym is ∙ e))
  where
    inside : (a b : Dir) → ◌≡◌ {A = Option Dir} (Some a) (Some b) → a ≡ b
    inside a b h = cc

driver_still : (N : NetlistView) (more : List NetView) (net : ℕ) (side : Dir) (d : IsDriven N net) → length d.cell.feeds ≡ 2 → direction N.ports net ≡ Some side → (side ≡ dir.Input → ⊥) → HasDriver (with_nets more N) net
driver_still N more net side d two is other = record {
  number = d.number;
  cell = d.cell;
  drives = record { live = d.drives.live; output = d.drives.output };
  operands = two;
  inside = other_side side (direction N.ports net) is other;
}

-- An input.

input_driven : (N : NetlistView) (more : List NetView) (net : ℕ) → IsWellFormed N → direction N.ports net ≡ Some dir.Input → (clock : Bool) (kind : BoundaryKind) (own : Bool)
    → IsDrivenAt (with_nets more N) (site_by (data_function dir.Input clock None) kind own) net
input_driven N more net formed is true cell.Bc1 own = λ i found here drives. formed.inputs_free i found net (record { live = here; output = drives }) is
input_driven N more net formed is true cell.Bc2 own = tt
input_driven N more net formed is true cell.Bc4 own = tt
input_driven N more net formed is true cell.Bc7 own = tt
input_driven N more net formed is false cell.Bc1 own = λ i found here drives. formed.inputs_free i found net (record { live = here; output = drives }) is
input_driven N more net formed is false cell.Bc2 own = tt
input_driven N more net formed is false cell.Bc4 own = tt
input_driven N more net formed is false cell.Bc7 own = tt

-- An output.

-- what isn't the output's own net is a three-state gate's data
own_or_gate : (highz : Bool) (net : NetId) (gate : Option Driver) (d : Driver) → or_else gate (added_driver highz (Net net)) ≡ Some d → is_own_net (Some net) (Some d.core) ≡ false
    → (x : Driver) × (gate ≡ Some x)
own_or_gate highz net (Some x) d is apart = (x, refl)
own_or_gate true net None d is apart =
    let core : Net net ≡ d.core = cc in
    let own : is_own_net (Some net) (Some d.core) ≡ true = rw (← core) (eq-eqb net.0 net.0 refl) in absurd (cc)
own_or_gate false net None d is apart = absurd (cc)

output_driven : (N : NetlistView) (more : List NetView) (highz : Bool) (one : PinSeen) → (driven : IsDriven N one.net.0) → one.driver ≡ Some driven.cell → direction N.ports one.net.0 ≡ Some dir.Output
    → (kind : BoundaryKind) (d : Option Driver) → output_driver highz one ≡ d
    → IsDrivenAt (with_nets more N) (site_by (data_function dir.Output one.clock d) kind (is_own_net (Some one.net) (data_core one dir.Output d))) one.net.0
output_driven N more highz one driven seen is kind None e = driven_still N more one.net.0 driven
output_driven N more highz one driven seen is kind (Some d) e = by (is_own_net (Some one.net) (Some d.core)) refl
  where
    by : (own : Bool) → is_own_net (Some one.net) (Some d.core) ≡ own → IsDrivenAt (with_nets more N) (output_site own) one.net.0
    by true own = driven_still N more one.net.0 driven
    by false own =
        let gate = own_or_gate highz one.net (three_state one.driver) d e own in
        let found : gate_driver driven.cell.kind driven.cell.feeds ≡ Some gate.0 = ap three_state (sym seen) ∙ gate.1 in
        driver_still N more one.net.0 dir.Output driven (ap (λ (feeds : List Feed). length feeds) (gate_is driven.cell.kind driven.cell.feeds gate.0 found).are) is (λ h. absurd (cc))

-- Each side.

pub side_driven : (N : NetlistView) (more : List NetView) → IsWellFormed N → (highz : Bool) (one : PinSeen)
    → ((i : ℕ) (found : CellView) → Drives N i found one.net.0 → one.driver ≡ Some found) → (side : Dir) → direction N.ports one.net.0 ≡ Some side → (kind : BoundaryKind)
    → IsDrivenAt (with_nets more N) (site_by (data_function side one.clock (side_driver highz one side)) kind (is_own_net (Some one.net) (data_core one side (side_driver highz one side)))) one.net.0
side_driven N more formed highz one seen dir.Input is kind = input_driven N more one.net.0 formed is one.clock kind false
side_driven N more formed highz one seen dir.Output is kind =
    let driven = formed.outputs_driven one.net.0 is in
    output_driven N more highz one driven (seen driven.number driven.cell driven.drives) is kind (output_driver highz one) refl
side_driven N more formed highz one seen dir.Inout is kind =
    let driven = formed.inouts_driven one.net.0 is in
    let three = formed.inout_bufif driven.number driven.cell one.net.0 driven.drives is in
    let two = three_takes N.library driven.cell.kind (length driven.cell.feeds) three (formed.counts driven.number driven.cell driven.drives.live) in
    driver_still N more one.net.0 dir.Inout driven two is (λ h. absurd (cc))
