-- What rows make of a net: none but the row at its own bit moves it or is of its driver.
use Rattle.std.proofs.Common.{◌≡◌, ℕ, ◌&&◌, Bool, true, false, List, refl, ap, sym, ◌∙◌, subst, Option, Some, None, arith, eq-eqb}
use Rattle.std.specs.Prelude.{slice_get, option_and_then}
use Rattle.list_laws.proofs.Tests.{both_true, never_true}
use Rattle.list_laws.proofs.Options.{some_same}
use Rattle.netlist_model.specs.declared.NetId.{NetId}
use Rattle.netlist_model.specs.declared.PinBit.{PinBit}
use Rattle.netlist_model.specs.Lists.{PortView}
use Rattle.netlist_model.specs.Settled.{is_output}
use Rattle.plan_fitting.specs.netlist_link.Linked.{LinkedView}
use Rattle.wrapped_chip.specs.Cells.{Numbered, row_of}
use Rattle.plan_texts.specs.declared.plan.Plan.{Plan}
use Rattle.plan_fitting.specs.declared.fitted.FitRow.{FitRow}
use Rattle.plan_fitting.specs.Pins.{PinSeen}
use Rattle.plan_fitting.specs.Rows.{rows}
use Rattle.plan_fitting.specs.Devices.{fitted_of, cell_row, device_of}
use Rattle.plan_fitting.specs.FittingPlan.{IsFitting}
use Rattle.plan_fitting.specs.DevicesLaws.{RowsStandAtBits}
use Rattle.stitched_netlist.specs.Sites.{Boundary, pin_net, row_net, site_of, side_at}
use Rattle.stitched_netlist.specs.Sides.{is_moved, moves, core_side, is_driven, drives, driver_feeds, feeds_behind}
use Rattle.stitched_netlist.specs.Stitched.{boundary_at}
use Rattle.stitched_netlist.proofs.ModelMoves.{feeds_none, output_is}
use Rattle.stitched_netlist.proofs.Firsts.{side_is, feeds_are}

pub is_output_of : (o : Option NetId) (net : NetId) → o ≡ Some net → is_output o net.0 ≡ true
is_output_of o net e = ap (λ (x : Option NetId). is_output x net.0) e ∙ eq-eqb net.0 net.0 refl

-- a row with a bit has its pin
pin_of_net : (ports : List PortView) (pin : Option PinBit) (net : NetId) → option_and_then (pin_net ports) pin ≡ Some net → (bit : PinBit) × (pin ≡ Some bit) × (pin_net ports bit ≡ Some net)
pin_of_net ports None net e = absurd (cc)
pin_of_net ports (Some bit) net e = (bit, refl, e)

-- the number of the row at a net
row_found : RowsStandAtBits → (L : LinkedView) (p : Plan) (seen : List PinSeen) → IsFitting L p seen → (k : ℕ) (row : FitRow) (net : NetId) → slice_get (rows p seen) k ≡ Some row
    → row_net L.arena.lists.ports row ≡ Some net → row_of (device_of L p seen) L.arena.lists net.0 ≡ Some (record { number = k; row = cell_row (fitted_of L p seen) row })
row_found stand L p seen fits k row net at here =
    let bit = pin_of_net L.arena.lists.ports row.pin net here in
    let is = stand L p seen fits k row bit.0 at bit.1 in
    let same : is.net ≡ net = some_same is.net net (pin_net L.arena.lists.ports bit.0) is.at bit.2 in
    subst (λ (n : NetId). row_of (device_of L p seen) L.arena.lists n.0 ≡ Some (record { number = k; row = cell_row (fitted_of L p seen) row })) same is.found

-- no two rows stand at one net
pub row_once : RowsStandAtBits → (L : LinkedView) (p : Plan) (seen : List PinSeen) → IsFitting L p seen → (j k : ℕ) (other row : FitRow) (net : NetId) → slice_get (rows p seen) j ≡ Some other
    → slice_get (rows p seen) k ≡ Some row → row_net L.arena.lists.ports other ≡ Some net → row_net L.arena.lists.ports row ≡ Some net → j ≡ k
row_once stand L p seen fits j k other row net a b e f =
    let one : Numbered = record { number = j; row = cell_row (fitted_of L p seen) other } in
    let two : Numbered = record { number = k; row = cell_row (fitted_of L p seen) row } in
    let same : one ≡ two = some_same one two (row_of (device_of L p seen) L.arena.lists net.0) (row_found stand L p seen fits j other net a e) (row_found stand L p seen fits k row net b f) in
    ap (λ (x : Numbered). x.number) same

-- so a row that does something with a net is the one at its bit
pub same_row : RowsStandAtBits → (L : LinkedView) (p : Plan) (seen : List PinSeen) → IsFitting L p seen → (j k : ℕ) (other row : FitRow) (net : NetId) → slice_get (rows p seen) j ≡ Some other
    → slice_get (rows p seen) k ≡ Some row → row_net L.arena.lists.ports row ≡ Some net → is_output (row_net L.arena.lists.ports other) net.0 ≡ true → (j ≡ k) × (other ≡ row)
same_row stand L p seen fits j k other row net a b here is =
    let there : row_net L.arena.lists.ports other ≡ Some net = output_is (row_net L.arena.lists.ports other) net.0 is in
    let place : j ≡ k = row_once stand L p seen fits j k other row net a b there here in
    (place, some_same other row (slice_get (rows p seen) k) (ap (slice_get (rows p seen)) (sym place) ∙ a) b)

-- The core's side.

-- a row that moves its net gives it the net between the core and itself
pub moved_to : RowsStandAtBits → (L : LinkedView) (p : Plan) (seen : List PinSeen) → IsFitting L p seen → (k : ℕ) (row : FitRow) (net : NetId) → slice_get (rows p seen) k ≡ Some row
    → row_net L.arena.lists.ports row ≡ Some net → is_moved (site_of L.arena.lists.ports row) ≡ true
    → core_side (boundary_at L.arena.lists (fitted_of L p seen)) net.0 ≡ side_at (boundary_at L.arena.lists (fitted_of L p seen)) k
moved_to stand L p seen fits k row net at here is =
    let N = L.arena.lists in
    let B : Boundary = boundary_at N (fitted_of L p seen) in
    let moves_it : moves N.ports net.0 row ≡ true
    = ap (λ (b : Bool). b && is_output (row_net N.ports row) net.0) is ∙ is_output_of (row_net N.ports row) net here in
    side_is N.ports net.0 B.first (rows p seen) k row at moves_it (λ j other less there. never_true (moves N.ports net.0 other) (λ e.
    let both = both_true (is_moved (site_of N.ports other)) (is_output (row_net N.ports other) net.0) e in
    let place : j ≡ k = (same_row stand L p seen fits j k other row net there at here both.1).0 in absurd (omega arith)))

-- a net at whose bit a row stands that doesn't move it stays
pub stays_at : RowsStandAtBits → (L : LinkedView) (p : Plan) (seen : List PinSeen) → IsFitting L p seen → (k : ℕ) (row : FitRow) (net : NetId) → slice_get (rows p seen) k ≡ Some row
    → row_net L.arena.lists.ports row ≡ Some net → is_moved (site_of L.arena.lists.ports row) ≡ false
    → (j : ℕ) (other : FitRow) → slice_get (rows p seen) j ≡ Some other → moves L.arena.lists.ports net.0 other ≡ false
stays_at stand L p seen fits k row net at here is j other there =
    let N = L.arena.lists in
    never_true (moves N.ports net.0 other) (λ e.
    let both = both_true (is_moved (site_of N.ports other)) (is_output (row_net N.ports other) net.0) e in
    let same : other ≡ row = (same_row stand L p seen fits j k other row net there at here both.1).1 in
    let bad : true ≡ false = sym both.0 ∙ ap (λ (r : FitRow). is_moved (site_of N.ports r)) same ∙ is in cc)

-- The drivers.

-- the driver of the row's net takes the row's data and its control cell's level
pub feeds_at : RowsStandAtBits → (L : LinkedView) (p : Plan) (seen : List PinSeen) → IsFitting L p seen → (k : ℕ) (row : FitRow) (net : NetId) → slice_get (rows p seen) k ≡ Some row
    → row_net L.arena.lists.ports row ≡ Some net → is_driven (site_of L.arena.lists.ports row) ≡ true
    → feeds_behind (boundary_at L.arena.lists (fitted_of L p seen)) net
    ≡ Some (driver_feeds (boundary_at L.arena.lists (fitted_of L p seen)) (side_at (boundary_at L.arena.lists (fitted_of L p seen)) k) row)
feeds_at stand L p seen fits k row net at here is =
    let N = L.arena.lists in
    let B : Boundary = boundary_at N (fitted_of L p seen) in
    let drives_it : drives N.ports net.0 row ≡ true
    = ap (λ (b : Bool). b && is_output (row_net N.ports row) net.0) is ∙ is_output_of (row_net N.ports row) net here in
    feeds_are B net.0 B.first (rows p seen) k row at drives_it (λ j other less there. never_true (drives N.ports net.0 other) (λ e.
    let both = both_true (is_driven (site_of N.ports other)) (is_output (row_net N.ports other) net.0) e in
    let place : j ≡ k = (same_row stand L p seen fits j k other row net there at here both.1).0 in absurd (omega arith)))

-- another driver keeps its operands
pub feeds_kept : (L : LinkedView) (p : Plan) (seen : List PinSeen) (net : NetId)
    → ((k : ℕ) (row : FitRow) → slice_get (rows p seen) k ≡ Some row → row_net L.arena.lists.ports row ≡ Some net → is_driven (site_of L.arena.lists.ports row) ≡ true → ⊥)
    → feeds_behind (boundary_at L.arena.lists (fitted_of L p seen)) net ≡ None
feeds_kept L p seen net none =
    let N = L.arena.lists in
    let B : Boundary = boundary_at N (fitted_of L p seen) in
    feeds_none B net.0 B.first (rows p seen) (λ j other there. never_true (drives N.ports net.0 other) (λ e.
    let both = both_true (is_driven (site_of N.ports other)) (is_output (row_net N.ports other) net.0) e in
    none j other there (output_is (row_net N.ports other) net.0 both.1) both.0))
