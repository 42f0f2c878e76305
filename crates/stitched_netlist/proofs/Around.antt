-- The rows of the boundary register stand around the core.
use Rattle.std.proofs.Common.{◌≡◌, ℕ, true, false, not, List, ap, sym, ◌∙◌, subst, Option, Some}
use Rattle.std.specs.Prelude.{slice_get, option_and_then, unwrap_or}
use Rattle.std.specs.Option.{option_map, option_map_or}
use Rattle.netlist_model.specs.Lists.{NetlistView}
use Rattle.netlist_model.specs.declared.NetId.{NetId}
use Rattle.netlist_model.specs.declared.Feed.TheVariants.{Const}
use Rattle.netlist_model.specs.declared.Dir.TheVariants as dir
use Rattle.netlist_model.specs.declared.PinBit.{PinBit}
use Rattle.netlist_model.specs.Settled.{feed_value}
use Rattle.plan_fitting.specs.netlist_link.Linked.{LinkedView}
use Rattle.surrounded_core.specs.Rows.{BoundaryRow, observe_row, input_row, bidir_row, row_kind}
use Rattle.wrapped_chip.specs.Cells.{net_of_bit}
use Rattle.wrapped_chip.specs.Suits.{is_input, is_output}
use Rattle.surrounded_core.specs.Sites.{StandsAround}
use Rattle.plan_texts.specs.declared.plan.Plan.{Plan}
use Rattle.plan_fitting.specs.declared.fitted.FitRow.{FitRow}
use Rattle.plan_fitting.specs.Pins.{PinSeen}
use Rattle.plan_fitting.specs.Rows.{rows}
use Rattle.plan_fitting.specs.Devices.{fitted_of, dev_bit, disable_value, disable_by, cell_row, device_of}
use Rattle.plan_fitting.specs.FittingPlan.{IsFitting}
use Rattle.stitched_netlist.specs.declared.model.Site.{Site}
use Rattle.stitched_netlist.specs.declared.model.Site.TheVariants as site
use Rattle.stitched_netlist.specs.Sites.{Boundary, row_net, site_of}
use Rattle.stitched_netlist.specs.Sides.{is_moved, core_feed}
use Rattle.stitched_netlist.specs.ModelRows.{net_at, control_row as row_control, enable_of, is_active_high}
use Rattle.stitched_netlist.specs.Stitched.{boundary_at}
use Rattle.stitched_netlist.specs.PlacesLaws.{row_side, handed_at}
use Rattle.stitched_netlist.specs.InsidePlaces.{gates_of, places_in}
use Rattle.stitched_netlist.proofs.InsideCases.{AtBit, Names, RowCase, observed_case, input_case, plain_case, added_case, driver_case, inout_case, control_case, cases_of}
use Rattle.stitched_netlist.proofs.Cores.{FitLaws, datum_given, own_given, control_is, level_given, shared_given}

-- A row as gates, by where its cell stands.

pub gates_are : (L : LinkedView) (p : Plan) (seen : List PinSeen) (M : NetlistView) (k : ℕ) (row : FitRow) (at : Site) → slice_get (rows p seen) k ≡ Some row
    → site_of L.arena.lists.ports row ≡ at
    → (places_in M L.arena.lists (fitted_of L p seen)).gates k
    ≡ handed_at (boundary_at L.arena.lists (fitted_of L p seen)) (row_side L.arena.lists (fitted_of L p seen) k) row at
gates_are L p seen M k row at there is =
    let B : Boundary = boundary_at L.arena.lists (fitted_of L p seen) in
    let side : ℕ = row_side L.arena.lists (fitted_of L p seen) k in
    ap (gates_of B side) there ∙ ap (handed_at B side row) is

pub net_at_is : (B : Boundary) (row : FitRow) (net : NetId) → row_net B.ports row ≡ Some net → net_at B row ≡ net
net_at_is B row net here = ap (λ (o : Option NetId). unwrap_or o (record { 0 = 0 })) here

-- the control cell that a row names
row_control_is : (B : Boundary) (row : FitRow) (n : Names B.rows row) → row_control B row ≡ Some n.control
row_control_is B row n = ap (option_and_then (slice_get B.rows)) n.named ∙ n.there

-- the disable value of a row's driver
pub disable_is : (rs : List FitRow) (row : FitRow) (n : Names rs row) → (disable_by rs n.number).value ≡ not n.control.active_high
disable_is rs row n = ap (λ (o : Option FitRow). option_map_or disable_value o false) n.there

-- What a row is and stands for.

pub record RowIs (L : LinkedView) (p : Plan) (seen : List PinSeen) (M : NetlistView) (k : ℕ) (row : FitRow) (b : BoundaryRow) : Type 0 where
  pub kind : row.cell ≡ row_kind b
  pub stands : StandsAround (device_of L p seen) L.arena.lists (places_in M L.arena.lists (fitted_of L p seen)) k (cell_row (fitted_of L p seen) row) b

is_observed : (L : LinkedView) (p : Plan) (seen : List PinSeen) (M : NetlistView) (k : ℕ) (row : FitRow) (net : NetId) → AtBit L p seen row net dir.Input → is_input row.function ≡ true
    → row.cell ≡ row_kind (observe_row net) → RowIs L p seen M k row (observe_row (net_at (boundary_at L.arena.lists (fitted_of L p seen)) row))
is_observed L p seen M k row net at does cell =
    subst (λ (n : NetId). RowIs L p seen M k row (observe_row n)) (sym (net_at_is (boundary_at L.arena.lists (fitted_of L p seen)) row net at.here))
    (record { kind = cell; stands = record { at = at.at; side = at.side; does = does } })

is_input_row : (L : LinkedView) (p : Plan) (seen : List PinSeen) (M : NetlistView) (k : ℕ) (row : FitRow) (net into : NetId) → AtBit L p seen row net dir.Input → is_input row.function ≡ true
    → row.cell ≡ row_kind (input_row net into) → RowIs L p seen M k row (input_row (net_at (boundary_at L.arena.lists (fitted_of L p seen)) row) into)
is_input_row L p seen M k row net into at does cell =
    subst (λ (n : NetId). RowIs L p seen M k row (input_row n into)) (sym (net_at_is (boundary_at L.arena.lists (fitted_of L p seen)) row net at.here))
    (record { kind = cell; stands = record { at = at.at; side = at.side; does = does } })

row_case : FitLaws → (L : LinkedView) (p : Plan) (seen : List PinSeen) (M : NetlistView) → IsFitting L p seen → (k : ℕ) (row : FitRow) → slice_get (rows p seen) k ≡ Some row
    → RowCase L p seen row → RowIs L p seen M k row ((places_in M L.arena.lists (fitted_of L p seen)).gates k)
row_case by L p seen M fits k row there (observed_case net at does cell none s) =
    subst (RowIs L p seen M k row) (sym (gates_are L p seen M k row site.Observed there s)) (is_observed L p seen M k row net at does cell)
row_case by L p seen M fits k row there (input_case net at does cell none s) =
    subst (RowIs L p seen M k row) (sym (gates_are L p seen M k row site.Input there s))
    (is_input_row L p seen M k row net (record { 0 = row_side L.arena.lists (fitted_of L p seen) k }) at does cell)
row_case by L p seen M fits k row there (plain_case net at does cell core none driven s) =
    subst (RowIs L p seen M k row) (sym (gates_are L p seen M k row site.Output there s)) (record {
      kind = cell;
      stands = record { net = net; at = at.at; side = at.side; does = ap is_output does; core_is = own_given by L p seen M fits k row net dir.Output false there at core (ap is_moved s) driven };
    })
row_case by L p seen M fits k row there (added_case net at does cell core n driven s) =
    subst (RowIs L p seen M k row) (sym (gates_are L p seen M k row site.AddedDriver there s)) (record {
      kind = cell;
      stands = record { net = net; at = at.at; side = at.side; does = ap is_output does; core_is = own_given by L p seen M fits k row net dir.Output false there at core (ap is_moved s) driven };
    })
row_case by L p seen M fits k row there (driver_case net core at does cell core_is n driven s) =
    subst (RowIs L p seen M k row) (sym (gates_are L p seen M k row site.Driver there s)) (record {
      kind = cell;
      stands = record { net = net; at = at.at; side = at.side; does = ap is_output does; core_is = datum_given by L p seen M fits k row net core dir.Output true there at core_is driven };
    })
row_case by L p seen M fits k row there (inout_case net core at does cell core_is n driven s) =
    let N = L.arena.lists in
    let f = fitted_of L p seen in
    let B : Boundary = boundary_at N f in
    let control = row_control_is B row n in
    let high : is_active_high B row ≡ n.control.active_high = ap (λ (o : Option FitRow). option_map_or (λ (c : FitRow). c.active_high) o false) control in
    let enable : enable_of B row ≡ core_feed B n.control = ap (λ (o : Option FitRow). option_map_or (core_feed B) o (Const false)) control in
    let as_control = control_is L p seen n.control (cases_of by.has by.found by.there L p seen fits n.number n.control n.there) n.does in
    let P : NetId → Type 0 = λ pin. RowIs L p seen M k row (bidir_row (core_feed B row) (enable_of B row) (is_active_high B row) pin (record { 0 = row_side N f k })) in
    subst (RowIs L p seen M k row) (sym (gates_are L p seen M k row site.Inout there s)) (subst P (sym (net_at_is B row net at.here)) (record {
      kind = cell;
      stands = record {
        at = at.at;
        side = at.side;
        does = does;
        core_is = datum_given by L p seen M fits k row net core dir.Inout true there at core_is driven;
        disable = disable_by (rows p seen) n.number;
        named = ap (option_map (disable_by (rows p seen))) n.named;
        level = disable_is (rows p seen) row n ∙ ap not (sym high);
        enable_is = λ value. ap (feed_value value) enable
            ∙ level_given by L p seen M fits k row net dir.Inout true n.number n.control as_control.core there at driven n.named n.there as_control.core_is value;
      };
    }))
row_case by L p seen M fits k row there (control_case core pin does cell core_is none s) =
    let N = L.arena.lists in
    subst (RowIs L p seen M k row) (sym (gates_are L p seen M k row site.Control there s)) (record {
      kind = cell;
      stands = record {
        at = ap (λ (o : Option PinBit). option_and_then (net_of_bit N) (option_map (dev_bit (fitted_of L p seen)) o)) pin;
        does = does;
        core_is = shared_given by L p seen M fits k row core there pin core_is;
      };
    })

pub row_is : FitLaws → (L : LinkedView) (p : Plan) (seen : List PinSeen) (M : NetlistView) → IsFitting L p seen → (k : ℕ) (row : FitRow) → slice_get (rows p seen) k ≡ Some row
    → RowIs L p seen M k row ((places_in M L.arena.lists (fitted_of L p seen)).gates k)
row_is by L p seen M fits k row there = row_case by L p seen M fits k row there (cases_of by.has by.found by.there L p seen fits k row there)
