-- Each row of a plan that fits stands at its site.
use Rattle.std.proofs.Common.{◌≡◌, ℕ, ◌<◌, inl, inr, ◌&&◌, ◌==◌, Bool, true, false, not, List, length, refl, sym, ap, ◌∙◌, subst, Option, Some, None, option_map, slice_get}
use Rattle.std.specs.Prelude.{option_and_then, unwrap_or, is_some}
use Rattle.std.specs.Option.{option_map_or}
use Rattle.std.proofs.lemmas.Option.{slice_get-map}
use Rattle.list_laws.proofs.Tests.{and_right}
use Rattle.list_laws.proofs.Numbers.{eqb_same}
use Rattle.list_laws.proofs.Lists.{all_from_list_all, all_at}
use Rattle.list_laws.proofs.Options.{some_same}
use Rattle.cell_library.specs.declared.codes.BoundaryKind.{BoundaryKind}
use Rattle.cell_library.specs.declared.codes.BoundaryKind.TheVariants.{Bc1, Bc2, Bc4, Bc7}
use Rattle.cell_library.specs.declared.codes.Function.{Function}
use Rattle.cell_library.specs.declared.codes.Function.TheVariants as function
use Rattle.netlist_model.specs.declared.NetId.{NetId}
use Rattle.netlist_model.specs.declared.Dir.{Dir}
use Rattle.netlist_model.specs.declared.Dir.TheVariants as dir
use Rattle.netlist_model.specs.declared.Feed.{Feed}
use Rattle.netlist_model.specs.declared.Feed.TheVariants.{Net}
use Rattle.netlist_model.specs.Lists.{NetlistView, direction}
use Rattle.netlist_model.specs.Settled.{is_output}
use Rattle.netlist_model.specs.Formed.{IsLaidOut, IsNumbered}
use Rattle.netlist_model.specs.Ports.{BitHasDirection}
use Rattle.netlist_model.specs.Drivers.{DriverIsFound, IsDriverOf, DriverDrives}
use Rattle.plan_fitting.specs.netlist_link.Linked.{LinkedView}
use Rattle.bsdl_device.specs.declared.values.Disable.{Disable}
use Rattle.bsdl_device.specs.declared.values.CellRow.{CellRow}
use Rattle.bsdl_device.specs.RowRules.{is_function}
use Rattle.bsdl_device.specs.IsDevice.{is_disabled, is_control_at, disable_right}
use Rattle.texts.specs.First.{or_else}
use Rattle.plan_texts.specs.declared.plan.Plan.{Plan}
use Rattle.plan_fitting.specs.declared.fitted.FitRow.{FitRow}
use Rattle.plan_fitting.specs.Pins.{PinSeen}
use Rattle.plan_fitting.specs.Rows.{Driver, three_state, added_driver, same_bool, same_feed, rows, has_highz}
use Rattle.plan_fitting.specs.Devices.{fitted_of, disable_by, cell_row, device_of}
use Rattle.plan_fitting.specs.Laws.{ControlCellsAreThere}
use Rattle.plan_fitting.specs.FittingPlan.{IsFitting}
use Rattle.plan_fitting.proofs.Rows.{side_driver, data_function, data_core, Controlled, IsDataRow}
use Rattle.plan_fitting.proofs.Lined.{IsLined}
use Rattle.plan_fitting.proofs.DevicesDrivers.{seen_direction, makes_rows}
use Rattle.plan_fitting.proofs.RowCounts.{makes_row}
use Rattle.plan_fitting.proofs.RowPlaces.{net_of_line}
use Rattle.plan_fitting.proofs.DevicesFacts.{facts_of}
use Rattle.stitched_netlist.specs.Sites.{Boundary, pin_net, row_net, is_own_net, input_site, output_site, site_by, site_of}
use Rattle.stitched_netlist.specs.ModelRows.{net_at}
use Rattle.stitched_netlist.specs.Stitched.{boundary_at}
use Rattle.stitched_netlist.proofs.CoreRanks.{IsCoreFeed}
use Rattle.stitched_netlist.proofs.Placed.{IsUnder, IsPin, IsDriverRow, Placed, IsDriverAt, IsThreeState, three_is, output_is, same_is, control_site, row_controls}

-- The driver of a data cell's bit.

abbrev DriverHere : (ℕ → ℕ) → ℕ → NetId → Dir → Option Driver → Type 0
DriverHere alone count net dir.Input None = Unit {0}
DriverHere alone count net dir.Input (Some d) = ⊥
DriverHere alone count net dir.Output None = Unit {0}
DriverHere alone count net dir.Output (Some d) = IsDriverAt alone count net d
DriverHere alone count net dir.Inout None = ⊥
DriverHere alone count net dir.Inout (Some d) = IsThreeState alone count net d

driver_here : (N : NetlistView) (alone : ℕ → ℕ) → IsLaidOut N → IsNumbered N alone → (highz : Bool) (one : PinSeen) → IsDriverOf N one.net.0 one.driver → one.net.0 < length N.nets
    → (side : Dir) → makes_row one side ≡ true → DriverHere alone (length N.nets) one.net side (side_driver highz one side)
driver_here N alone laid numbered highz one drives inside dir.Input makes = tt
driver_here N alone laid numbered highz one drives inside dir.Output makes = by (or_else (three_state one.driver) (added_driver highz (Net one.net))) refl
  where
    by : (o : Option Driver) → or_else (three_state one.driver) (added_driver highz (Net one.net)) ≡ o → DriverHere alone (length N.nets) one.net dir.Output o
    by None e = tt
    by (Some d) e = output_is N alone laid numbered one.net one.driver drives highz d inside e
driver_here N alone laid numbered highz one drives inside dir.Inout makes = by (three_state one.driver) refl makes
  where
    by : (o : Option Driver) → three_state one.driver ≡ o → is_some o ≡ true → DriverHere alone (length N.nets) one.net dir.Inout o
    by None e some = absurd (cc)
    by (Some d) e some = three_is N alone laid numbered one.net one.driver drives d e

-- Data cells.

input_placed : (alone : ℕ → ℕ) (B : Boundary) (count : ℕ) (row : FitRow) (cell : BoundaryKind) → IsPin B count row dir.Input → Placed alone B count row (input_site cell)
input_placed alone B count row Bc1 pin = pin
input_placed alone B count row Bc2 pin = pin
input_placed alone B count row Bc4 pin = pin
input_placed alone B count row Bc7 pin = pin

driver_row : (alone : ℕ → ℕ) (B : Boundary) (count : ℕ) (row : FitRow) (side : Dir) (d : Driver) → IsPin B count row side → row.core ≡ Some d.core → IsDriverAt alone count (net_at B row) d
    → IsUnder alone (Some d.core) (alone (net_at B row).0) → Controlled B.rows (Some d) row.control → IsDriverRow alone B count row side
driver_row alone B count row side d pin core at below c = record {
  pin = pin;
  control = row_controls alone B count (net_at B row) row d at c;
  inside = subst (IsCoreFeed count) (sym core) at.core_inside;
  below = subst (λ (o : Option Feed). IsUnder alone o (alone (net_at B row).0)) (sym core) below;
}

own_net : (net : NetId) (o : Option NetId) (core : Option Feed) → o ≡ Some net → core ≡ Some (Net net) → is_own_net o core ≡ true
own_net net o core e f = ap (λ (x : Option NetId). is_own_net x core) e ∙ ap (is_own_net (Some net)) f ∙ eqb_same net.0

output_placed : (alone : ℕ → ℕ) (B : Boundary) (count : ℕ) (row : FitRow) (d : Driver) → IsPin B count row dir.Output → row_net B.ports row ≡ Some (net_at B row) → row.core ≡ Some d.core
    → IsDriverAt alone count (net_at B row) d → Controlled B.rows (Some d) row.control → (own : Bool) → is_own_net (row_net B.ports row) row.core ≡ own
    → Placed alone B count row (output_site own)
output_placed alone B count row d pin net core at c true e = (pin, row_controls alone B count (net_at B row) row d at c)
output_placed alone B count row d pin net core at c false e = elim at.core_below [
  | inl below ↦ driver_row alone B count row dir.Output d pin core at below c
  | inr own ↦ absurd (let t = own_net (net_at B row) (row_net B.ports row) row.core net (core ∙ ap (λ (f : Feed). Some f) own) in cc)
]

abbrev PlacedBy : (ℕ → ℕ) → Boundary → ℕ → FitRow → Function → Type 0
PlacedBy alone B count row f = Placed alone B count row (site_by f row.cell (is_own_net (row_net B.ports row) row.core))

data_placed : (alone : ℕ → ℕ) (B : Boundary) (count : ℕ) (row : FitRow) (one : PinSeen) (clock : Bool) (side : Dir) (o : Option Driver) → IsPin B count row side
    → row_net B.ports row ≡ Some (net_at B row) → row.function ≡ data_function side clock o → row.core ≡ data_core one side o → DriverHere alone count (net_at B row) side o
    → Controlled B.rows o row.control → Placed alone B count row (site_of B.ports row)
data_placed alone B count row one true dir.Input None pin net does core here c = subst (PlacedBy alone B count row) (sym does) (input_placed alone B count row row.cell pin)
data_placed alone B count row one false dir.Input None pin net does core here c = subst (PlacedBy alone B count row) (sym does) (input_placed alone B count row row.cell pin)
data_placed alone B count row one clock dir.Input (Some d) pin net does core here c = absurd here
data_placed alone B count row one clock dir.Output None pin net does core here c = subst (PlacedBy alone B count row) (sym does) pin
data_placed alone B count row one clock dir.Output (Some d) pin net does core here c =
    subst (PlacedBy alone B count row) (sym does) (output_placed alone B count row d pin net core here c (is_own_net (row_net B.ports row) row.core) refl)
data_placed alone B count row one clock dir.Inout None pin net does core here c = absurd here
data_placed alone B count row one clock dir.Inout (Some d) pin net does core here c =
    subst (PlacedBy alone B count row) (sym does) (driver_row alone B count row dir.Inout d pin core here.at here.below c)

-- what is known of a data cell
record IsDataAt (alone : ℕ → ℕ) (B : Boundary) (count : ℕ) (highz : Bool) (row : FitRow) (one : PinSeen) : Type 0 where
  net : row_net B.ports row ≡ Some one.net
  here : DriverHere alone count one.net one.side (side_driver highz one one.side)
  side_is : direction B.ports one.net.0 ≡ Some one.side
  inside : one.net.0 < count

data_at : BitHasDirection → DriverIsFound → DriverDrives → (L : LinkedView) (p : Plan) (seen : List PinSeen) → IsFitting L p seen → IsLaidOut L.arena.lists → (alone : ℕ → ℕ)
    → IsNumbered L.arena.lists alone → (row : FitRow) (d : IsDataRow (IsLined L) (has_highz p.opcodes) (rows p seen) row)
    → IsDataAt alone (boundary_at L.arena.lists (fitted_of L p seen)) (length L.arena.lists.nets) (has_highz p.opcodes) row d.one
data_at has found drives L p seen fits laid alone numbered row d =
    let N = L.arena.lists in
    let bit = net_of_line L d.line d.one d.on in
    let inside : d.one.net.0 < length N.nets = laid.port_nets d.one.pin.port.0 d.one.pin.bit d.one.net bit in
    record {
      net = ap (option_and_then (pin_net N.ports)) d.pin ∙ bit;
      here = driver_here N alone laid numbered (has_highz p.opcodes) d.one
          (subst (IsDriverOf N d.one.net.0) (sym d.on.seen.driver) (drives N d.one.net.0)) inside d.one.side (makes_rows has found L fits.formed d.line.port d.one d.on.seen);
      side_is = seen_direction has L fits.formed d.line.port d.one d.on.seen;
      inside = inside;
    }

data_is : (alone : ℕ → ℕ) (B : Boundary) (count : ℕ) (highz : Bool) (row : FitRow) (one : PinSeen) → IsDataAt alone B count highz row one
    → row.function ≡ data_function one.side one.clock (side_driver highz one one.side) → row.core ≡ data_core one one.side (side_driver highz one one.side)
    → Controlled B.rows (side_driver highz one one.side) row.control → Placed alone B count row (site_of B.ports row)
data_is alone B count highz row one at does core c =
    let net : net_at B row ≡ one.net = ap (λ (o : Option NetId). unwrap_or o (let zeroth : NetId = record { 0 = 0 } in zeroth)) at.net in
    let own : is_output (row_net B.ports row) (net_at B row).0 ≡ true =
    ap (λ (o : Option NetId). is_output o (net_at B row).0) at.net ∙ ap (λ (n : NetId). one.net.0 == n.0) net ∙ eqb_same one.net.0 in
    data_placed alone B count row one one.clock one.side (side_driver highz one one.side)
    (record {
      own = own;
      side_is = ap (λ (n : NetId). direction B.ports n.0) net ∙ at.side_is;
      inside = subst (λ (n : NetId). n.0 < count) (sym net) at.inside;
    })
    (at.net ∙ ap (λ (n : NetId). Some n) (sym net)) does core
    (subst (λ (n : NetId). DriverHere alone count n one.side (side_driver highz one one.side)) (sym net) at.here) c

-- Control cells.

-- a control cell names none
names_none : (cells : List CellRow) (f : Function) (o : Option Disable) (d : Disable) → f ≡ function.Control → o ≡ Some d
    → option_map_or (λ (x : Disable). is_disabled f && is_control_at cells x.control) o (not (is_disabled f)) ≡ true → ⊥
names_none cells f o d e some h =
    let one : option_map_or (λ (x : Disable). is_disabled function.Control && is_control_at cells x.control) (Some d) (not (is_disabled function.Control)) ≡ true =
    ap (λ (x : Option Disable). option_map_or (λ (y : Disable). is_disabled function.Control && is_control_at cells y.control) x (not (is_disabled function.Control))) (sym some)
    ∙ ap (λ (g : Function). option_map_or (λ (y : Disable). is_disabled g && is_control_at cells y.control) o (not (is_disabled g))) (sym e) ∙ h in
    cc

named_inside : (alone : ℕ → ℕ) (count number : ℕ) (net : NetId) (rs : List FitRow) (d : Driver) (named : Option ℕ) (row : FitRow) → IsDriverAt alone count net d
    → Controlled rs (Some d) named → named ≡ Some number → slice_get rs number ≡ Some row → IsCoreFeed count row.core
named_inside alone count number net rs d named row at c names there =
    let same : c.number ≡ number = some_same c.number number named c.is names in
    let one : c.row ≡ row = some_same c.row row (slice_get rs number) (ap (slice_get rs) (sym same) ∙ c.there) there in
    let does : Bool = is_function function.Control c.row.function in
    let level : Bool = same_bool c.row.active_high d.active_high in
    let fed : Bool = option_map_or (same_feed d.operand) c.row.core false in
    subst (λ (r : FitRow). IsCoreFeed count r.core) one
    (same_is alone count (alone net.0) d.operand c.row.core (and_right (does && level) fed c.right) at.operand_inside at.operand_below).0

control_inside : (alone : ℕ → ℕ) (count number : ℕ) (net : NetId) (rs : List FitRow) (side : Dir) (o : Option Driver) (named : Option ℕ) (row : FitRow) → DriverHere alone count net side o
    → Controlled rs o named → named ≡ Some number → slice_get rs number ≡ Some row → IsCoreFeed count row.core
control_inside alone count number net rs side None named row here c names there = absurd (let none : None ≡ Some number = sym c ∙ names in cc)
control_inside alone count number net rs dir.Input (Some d) named row here c names there = absurd here
control_inside alone count number net rs dir.Output (Some d) named row here c names there = named_inside alone count number net rs d named row here c names there
control_inside alone count number net rs dir.Inout (Some d) named row here c names there = named_inside alone count number net rs d named row here.at c names there

user_is : ControlCellsAreThere → (L : LinkedView) (p : Plan) (seen : List PinSeen) (user number : ℕ) (row : FitRow) → slice_get (rows p seen) user ≡ Some row → row.control ≡ Some number
    → row.function ≡ function.Control → ⊥
user_is law L p seen user number row there names does =
    let f = fitted_of L p seen in
    let cells : List CellRow = (device_of L p seen).cells in
    let at : slice_get cells user ≡ Some (cell_row f row) = slice_get-map (cell_row f) (rows p seen) user ∙ ap (option_map (cell_row f)) there in
    let right : disable_right cells (cell_row f row) ≡ true =
    all_at (λ (r : CellRow). disable_right cells r ≡ true) cells user (cell_row f row) (all_from_list_all (disable_right cells) cells (law L p seen)) at in
    names_none cells row.function (option_map (disable_by f.rows) row.control) (disable_by f.rows number) does (ap (option_map (disable_by f.rows)) names) right

-- All rows.

pub row_placed : BitHasDirection → DriverIsFound → DriverDrives → ControlCellsAreThere → (L : LinkedView) (p : Plan) (seen : List PinSeen) → IsFitting L p seen → IsLaidOut L.arena.lists
    → (alone : ℕ → ℕ) → IsNumbered L.arena.lists alone → (number : ℕ) (row : FitRow) → slice_get (rows p seen) number ≡ Some row
    → Placed alone (boundary_at L.arena.lists (fitted_of L p seen)) (length L.arena.lists.nets) row (site_of L.arena.lists.ports row)
row_placed has found drives law L p seen fits laid alone numbered number row there =
    let B : Boundary = boundary_at L.arena.lists (fitted_of L p seen) in
    let count : ℕ = length L.arena.lists.nets in
    let facts = facts_of has found L p seen fits in
    let highz : Bool = has_highz p.opcodes in
    elim (facts.each number row there) [
      | inl d ↦ data_is alone B count highz row d.one (data_at has found drives L p seen fits laid alone numbered row d) d.does d.core d.controlled
      | inr c ↦ (let inside : IsCoreFeed count row.core = elim (facts.each c.user c.user_row c.user_there) [
        | inl d ↦ control_inside alone count number d.one.net (rows p seen) d.one.side (side_driver highz d.one d.one.side) c.user_row.control row
            (data_at has found drives L p seen fits laid alone numbered c.user_row d).here d.controlled c.names there
        | inr other ↦ absurd (user_is law L p seen c.user number c.user_row c.user_there c.names other.does)
      ] in
          subst (Placed alone B count row) (sym (control_site B row c.does)) inside)
    ]
