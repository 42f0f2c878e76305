-- What stands at a driver's row is a three-state gate, and no input's cell but a BC_4 stands at a control port.
use Rattle.std.proofs.Common.{◌≡◌, ℕ, ◌==◌, Bool, true, false, List, refl, sym, ap, ◌∙◌, subst, Option, Some, None, if◌then◌else◌, eqb-true, slice_get}
use Rattle.std.specs.Prelude.{option_and_then}
use Rattle.list_laws.proofs.Numbers.{eqb_same}
use Rattle.list_laws.proofs.Options.{some_same}
use Rattle.signal_values.specs.declared.Sig.{Sig}
use Rattle.signal_values.specs.declared.Sig.TheVariants.{Zero, One, Unknown}
use Rattle.cell_library.specs.Gates.{is_three_state, operand}
use Rattle.cell_library.specs.declared.codes.BoundaryKind.{BoundaryKind}
use Rattle.cell_library.specs.declared.codes.BoundaryKind.TheVariants.{Bc1, Bc2, Bc4, Bc7}
use Rattle.cell_library.specs.declared.codes.Function.{Function}
use Rattle.cell_library.specs.declared.codes.Function.TheVariants as function
use Rattle.netlist_model.specs.declared.NetId.{NetId}
use Rattle.netlist_model.specs.declared.PinBit.{PinBit}
use Rattle.netlist_model.specs.declared.Feed.{Feed}
use Rattle.netlist_model.specs.declared.Feed.TheVariants.{Net, Const}
use Rattle.netlist_model.specs.Lists.{PortView, CellView, NetlistView, bit_net, Drives}
use Rattle.netlist_model.specs.Cones.{IsControlPort}
use Rattle.netlist_model.specs.Settled.{feed_values, is_output, driver_of}
use Rattle.netlist_model.specs.Drivers.{DriverIsFound}
use Rattle.plan_fitting.specs.netlist_link.Linked.{LinkedView}
use Rattle.wrapped_chip.specs.Cells.{core_datum, row_of, Numbered}
use Rattle.plan_texts.specs.declared.plan.Plan.{Plan}
use Rattle.plan_fitting.specs.declared.fitted.FitRow.{FitRow}
use Rattle.plan_fitting.specs.Pins.{PinSeen}
use Rattle.plan_fitting.specs.Rows.{rows}
use Rattle.plan_fitting.specs.Devices.{fitted_of, cell_row, device_of}
use Rattle.plan_fitting.specs.FittingPlan.{IsFitting}
use Rattle.plan_fitting.specs.DevicesLaws.{fed, PlansSuitNetlists, RowsStandAtBits, RowsTakeTheCore}
use Rattle.stitched_netlist.specs.declared.model.Site.TheVariants as site
use Rattle.stitched_netlist.specs.Sites.{pin_net, row_net, is_own_net, input_site, output_site, site_by, site_of}
use Rattle.stitched_netlist.proofs.ModelMoves.{output_is}

-- The bit of a row.

record HasBit (ports : List PortView) (row : FitRow) (net : ℕ) : Type 0 where
  pin : PinBit
  is : row.pin ≡ Some pin
  at : pin_net ports pin ≡ Some (record { 0 = net })

has_bit : (ports : List PortView) (row : FitRow) (net : ℕ) → is_output (row_net ports row) net ≡ true → HasBit ports row net
has_bit ports row net h = by row.pin refl h
  where
    by : (o : Option PinBit) → row.pin ≡ o → is_output (option_and_then (pin_net ports) o) net ≡ true → HasBit ports row net
    by None e k = absurd (cc)
    by (Some pin) e k = record { pin = pin; is = e; at = output_is (pin_net ports pin) net k }

-- An operand that gives what its net gives is that net.

if_true : (a b : ℕ) → (if a == b then One else Zero) ≡ One → a ≡ b
if_true a b h = by (a == b) refl h
  where
    by : (c : Bool) → a == b ≡ c → (if c then One else Zero) ≡ One → a ≡ b
    by true e k = eqb-true a b e
    by false e k = absurd (let clash : Zero ≡ One = k in cc)

core_is : (core : Option Feed) (net : ℕ) → ((value : ℕ → Sig) → fed value core ≡ value net) → core ≡ Some (Net (record { 0 = net }))
core_is None net same = absurd (let clash : Unknown ≡ One = same (λ n. One) in cc)
core_is (Some (Const true)) net same = absurd (let clash : One ≡ Unknown = same (λ n. Unknown) in cc)
core_is (Some (Const false)) net same = absurd (let clash : Zero ≡ Unknown = same (λ n. Unknown) in cc)
core_is (Some (Net id)) net same =
    let here : (if id.0 == net then One else Zero) ≡ One =
    same (λ (n : ℕ). if n == net then One else Zero) ∙ ap (λ (b : Bool). if b then One else Zero) (eqb_same net) in
    ap (λ (n : ℕ). let one : NetId = record { 0 = n } in Some (Net one)) (if_true id.0 net here)

own_is : (net : ℕ) (o : Option NetId) (core : Option Feed) → o ≡ Some (record { 0 = net }) → core ≡ Some (Net (record { 0 = net })) → is_own_net o core ≡ true
own_is net o core e f =
    ap (λ (x : Option NetId). is_own_net x core) e ∙ ap (is_own_net (Some (let one : NetId = record { 0 = net } in one))) f ∙ eqb_same net

-- at such a row no driver of the core stands
input_no_driver : (cell : BoundaryKind) → input_site cell ≡ site.Driver → ⊥
input_no_driver Bc1 h = cc
input_no_driver Bc2 h = cc
input_no_driver Bc4 h = cc
input_no_driver Bc7 h = cc

own_no_driver : (f : Function) (cell : BoundaryKind) → site_by f cell true ≡ site.Driver → ⊥
own_no_driver function.Input cell h = input_no_driver cell h
own_no_driver function.Clock cell h = input_no_driver cell h
own_no_driver function.Output2 cell h = cc
own_no_driver function.Output3 cell h = cc
own_no_driver function.Bidir cell h = cc
own_no_driver function.Control cell h = cc

-- A driver's row.

pub driver_three : DriverIsFound → RowsTakeTheCore → (L : LinkedView) (p : Plan) (seen : List PinSeen) → IsFitting L p seen → (number : ℕ) (row : FitRow) → slice_get (rows p seen) number ≡ Some row
    → site_of L.arena.lists.ports row ≡ site.Driver → (net : ℕ) → is_output (row_net L.arena.lists.ports row) net ≡ true → (i : ℕ) (cell : CellView) → Drives L.arena.lists i cell net
    → is_three_state cell.kind ≡ true
driver_three found law L p seen fits number row there at net is i cell drives = by (is_three_state cell.kind) refl
  where
    by : (b : Bool) → is_three_state cell.kind ≡ b → b ≡ true
    by true e = refl
    by false e =
        let N : NetlistView = L.arena.lists in
        let bit = has_bit N.ports row net is in
        let driver : driver_of N.cells net ≡ Some cell = found N fits.formed.one_driver i cell net drives in
        let core : row.core ≡ Some (Net (record { 0 = net })) = core_is row.core net
        (λ value. law L p seen fits number row bit.pin (record { 0 = net }) there bit.is bit.at value
        ∙ ap (λ (o : Option CellView). core_datum o value net) driver ∙ ap (λ (b : Bool). if b then operand (feed_values value cell.feeds) 0 else value net) e) in
        let own : is_own_net (row_net N.ports row) row.core ≡ true = own_is net (row_net N.ports row) row.core (output_is (row_net N.ports row) net is) core in
        absurd (own_no_driver row.function row.cell (ap (λ (b : Bool). site_by row.function row.cell b) (sym own) ∙ at))

-- An input's row.

output_no_input : (b : Bool) → output_site b ≡ site.Input → ⊥
output_no_input true h = cc
output_no_input false h = cc

observed_no_input : (f : Function) (own : Bool) → site_by f Bc4 own ≡ site.Input → ⊥
observed_no_input function.Input own h = cc
observed_no_input function.Clock own h = cc
observed_no_input function.Output2 own h = cc
observed_no_input function.Output3 own h = output_no_input own h
observed_no_input function.Bidir own h = cc
observed_no_input function.Control own h = cc

net_once : (net : ℕ) (id : NetId) (o : Option NetId) → o ≡ Some (record { 0 = net }) → o ≡ Some id → id.0 ≡ net
net_once net id o e f = ap (λ (n : NetId). n.0) (some_same id (let one : NetId = record { 0 = net } in one) o f e)

pub input_no_control : PlansSuitNetlists → RowsStandAtBits → (L : LinkedView) (p : Plan) (seen : List PinSeen) → IsFitting L p seen → (number : ℕ) (row : FitRow) → slice_get (rows p seen) number ≡ Some row
    → site_of L.arena.lists.ports row ≡ site.Input → (net : ℕ) → is_output (row_net L.arena.lists.ports row) net ≡ true → IsControlPort L.arena.lists net → ⊥
input_no_control suits stands L p seen fits number row there at net is control =
    let N : NetlistView = L.arena.lists in
    let f = fitted_of L p seen in
    let bit = has_bit N.ports row net is in
    let of_bit = stands L p seen fits number row bit.pin there bit.is in
    let same : of_bit.net.0 ≡ net = net_once net of_bit.net (bit_net N bit.pin.port.0 bit.pin.bit) bit.at of_bit.at in
    let found : row_of (device_of L p seen) N net ≡ Some (record { number = number; row = cell_row f row }) =
    subst (λ (n : ℕ). row_of (device_of L p seen) N n ≡ Some (let r : Numbered = record { number = number; row = cell_row f row } in r)) same of_bit.found in
    let cell : row.cell ≡ Bc4 = (suits L p seen fits).controls net (record { number = number; row = cell_row f row }) control found in
    observed_no_input row.function (is_own_net (row_net N.ports row) row.core)
    (ap (λ (c : BoundaryKind). site_by row.function c (is_own_net (row_net N.ports row) row.core)) (sym cell) ∙ at)
