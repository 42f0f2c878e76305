-- The core nests in the stitched netlist, but for its drivers behind boundary cells.
use Rattle.std.proofs.Common.{◌≡◌, inl, inr, ℕ, suc, ◌+◌, ◌==◌, ◌<◌, ◌≤◌, Bool, true, false, List, [], ◌∷◌, ◌++◌, map, length, refl, ap, sym, ◌∙◌, subst, Option, Some, None, arith}
use Rattle.std.specs.Prelude.{slice_get, option_and_then, is_some}
use Rattle.std.specs.Option.{option_map}
use Rattle.list_laws.proofs.Tests.{neither, or_more}
use Rattle.list_laws.proofs.Options.{some_same}
use Rattle.list_laws.proofs.Numbers.{eqb_less, eqb_more}
use Rattle.cell_library.specs.Gates.{is_three_state}
use Rattle.netlist_model.specs.declared.NetId.{NetId}
use Rattle.netlist_model.specs.declared.Feed.{Feed}
use Rattle.netlist_model.specs.declared.Feed.TheVariants.{Net, Const}
use Rattle.netlist_model.specs.declared.Dir.{Dir}
use Rattle.netlist_model.specs.declared.Dir.TheVariants.{Input, Output, Inout}
use Rattle.netlist_model.specs.Lists.{PortView, CellView, NetlistView, cell_at, direction, IsUndriven}
use Rattle.netlist_model.specs.Settled.{follows_pin, driver_of}
use Rattle.netlist_model.specs.Formed.{IsLaidOut, IsWellFormed, IsDriven}
use Rattle.netlist_model.specs.Drivers.{IsDriverOf, DriverDrives, DriverIsFound}
use Rattle.netlist_model.specs.Ports.{BitHasDirection, DirectionHasBit}
use Rattle.netlist_model.specs.Nested.{renamed_net, renamed_feed, IsNested}
use Rattle.gate_parts.proofs.Ports.{dir_stays, dir_of_more}
use Rattle.plan_fitting.specs.netlist_link.Linked.{LinkedView}
use Rattle.plan_texts.specs.declared.plan.Plan.{Plan}
use Rattle.plan_fitting.specs.declared.fitted.FitRow.{FitRow}
use Rattle.plan_fitting.specs.declared.fitted.Fitted.{Fitted}
use Rattle.plan_fitting.specs.Pins.{PinSeen}
use Rattle.plan_fitting.specs.Laws.{ControlCellsAreThere}
use Rattle.plan_fitting.specs.Devices.{fitted_of}
use Rattle.plan_fitting.specs.FittingPlan.{IsFitting}
use Rattle.stitched_netlist.specs.declared.model.TapNames.{TapNames}
use Rattle.stitched_netlist.specs.Sites.{Boundary, row_net, site_of}
use Rattle.stitched_netlist.specs.Sides.{side_from, core_side, is_driven, feeds_behind}
use Rattle.stitched_netlist.specs.ModelLogic.{bypass_at}
use Rattle.stitched_netlist.specs.Stitched.{tap_port, tap_ports, boundary_at, first_net, stitched}
use Rattle.stitched_netlist.specs.Places.{StitchedIsBuiltIn}
use Rattle.stitched_netlist.proofs.Core.{side_past}
use Rattle.stitched_netlist.specs.Inner.{past_nets, is_given, inner_net}
use Rattle.stitched_netlist.specs.InsideLaws.{BuiltInNests, StitchedNests}
use Rattle.stitched_netlist.proofs.Past.{past_undriven, past_inside}
use Rattle.stitched_netlist.proofs.InsideCases.{DrivenAs, RowCase, observed_case, input_case, plain_case, added_case, driver_case, inout_case, control_case, cases_of}
use Rattle.stitched_netlist.proofs.InsideMoves.{feeds_kept}

-- Nets to which something is given.

pub inner_given : (N M : NetlistView) (B : Boundary) (net : ℕ) → is_given N net ≡ true → inner_net N M B net ≡ core_side B net
inner_given N M B net e = rw e refl

inner_past : (N M : NetlistView) (B : Boundary) (net : ℕ) → is_given N net ≡ false → inner_net N M B net ≡ past_nets M + net
inner_past N M B net e = rw e refl

pub given_by_pin : (N : NetlistView) (net : ℕ) → follows_pin (direction N.ports net) ≡ true → is_given N net ≡ true
given_by_pin N net e = rw e refl

pub given_by_driver : (N : NetlistView) (net : ℕ) (cell : CellView) → driver_of N.cells net ≡ Some cell → is_given N net ≡ true
given_by_driver N net cell e = or_more (follows_pin (direction N.ports net)) (is_some (driver_of N.cells net)) (ap (λ (o : Option CellView). is_some o) e)

pub given_driven : DriverIsFound → (N : NetlistView) → IsWellFormed N → (net : ℕ) → IsDriven N net → is_given N net ≡ true
given_driven found N formed net d = given_by_driver N net d.cell (found N formed.one_driver d.number d.cell net d.drives)

-- as to each net that a cell reads
pub given_read : DriverIsFound → (N : NetlistView) → IsWellFormed N → (i : ℕ) (cell : CellView) (place net : ℕ) → cell_at N i ≡ Some cell
    → slice_get cell.feeds place ≡ Some (Net (record { 0 = net })) → is_given N net ≡ true
given_read found N formed i cell place net live at = by (direction N.ports net) refl
  where
    by : (o : Option Dir) → direction N.ports net ≡ o → is_given N net ≡ true
    by None e = given_driven found N formed net (formed.read_driven i cell place net (record { live = live; operand = at }) e)
    by (Some Input) e = given_by_pin N net (ap follows_pin e)
    by (Some Inout) e = given_by_pin N net (ap follows_pin e)
    by (Some Output) e = given_driven found N formed net (formed.outputs_driven net e)

-- Cells by the same nets.

feeds_same : (to side : ℕ → ℕ) (feeds : List Feed) → ((place net : ℕ) → slice_get feeds place ≡ Some (Net (record { 0 = net })) → to net ≡ side net)
    → map (renamed_feed side) feeds ≡ map (renamed_feed to) feeds
feeds_same to side [] same = refl
feeds_same to side (Net net ∷ feeds) same =
    ap (λ (n : ℕ). Net (record { 0 = n }) ∷ map (renamed_feed side) feeds) (sym (same 0 net.0 refl))
    ∙ ap (λ (xs : List Feed). renamed_feed to (Net net) ∷ xs) (feeds_same to side feeds (λ place n at. same (suc place) n at))
feeds_same to side (Const b ∷ feeds) same = ap (λ (xs : List Feed). Const b ∷ xs) (feeds_same to side feeds (λ place n at. same (suc place) n at))

output_same : (to side : ℕ → ℕ) (o : Option NetId) → ((net : NetId) → o ≡ Some net → to net.0 ≡ side net.0) → option_map (renamed_net side) o ≡ option_map (renamed_net to) o
output_same to side None same = refl
output_same to side (Some net) same = ap (λ (n : ℕ). Some (let id : NetId = record { 0 = n } in id)) (sym (same net refl))

pub nested_same : (M : NetlistView) (to side : ℕ → ℕ) (i : ℕ) (cell : CellView) → ((place net : ℕ) → slice_get cell.feeds place ≡ Some (Net (record { 0 = net })) → to net ≡ side net)
    → ((net : NetId) → cell.output ≡ Some net → to net.0 ≡ side net.0) → IsNested M side i cell → IsNested M to i cell
nested_same M to side i cell feeds output nested = record {
  name = nested.name;
  live = nested.live
      ∙ ap (λ (fs : List Feed). Some (let c : CellView = record { kind = cell.kind; name = nested.name; feeds = fs; output = option_map (renamed_net side) cell.output } in c)) (feeds_same to side cell.feeds feeds)
      ∙ ap (λ (o : Option NetId). Some (let c : CellView = record { kind = cell.kind; name = nested.name; feeds = map (renamed_feed to) cell.feeds; output = o } in c)) (output_same to side cell.output output);
}

-- Directions.

-- the test access port is on five nets
no_tap : (names : TapNames) (count net : ℕ) → (count == net) ≡ false → (count + 1 == net) ≡ false → (count + 2 == net) ≡ false → (count + 3 == net) ≡ false → (count + 4 == net) ≡ false
    → direction (tap_ports names (tap_port count)) net ≡ None
no_tap names count net a b c d e = rw (a, b, c, d, e) refl

no_tap_below : (names : TapNames) (count net : ℕ) → net < count → direction (tap_ports names (tap_port count)) net ≡ None
no_tap_below names count net less =
    no_tap names count net (eqb_more count net less) (eqb_more (count + 1) net (omega arith)) (eqb_more (count + 2) net (omega arith)) (eqb_more (count + 3) net (omega arith))
    (eqb_more (count + 4) net (omega arith))

no_tap_above : (names : TapNames) (count net : ℕ) → count + 5 ≤ net → direction (tap_ports names (tap_port count)) net ≡ None
no_tap_above names count net past =
    no_tap names count net (eqb_less count net (omega arith)) (eqb_less (count + 1) net (omega arith)) (eqb_less (count + 2) net (omega arith))
    (eqb_less (count + 3) net (omega arith)) (eqb_less (count + 4) net (omega arith))

-- a net past those of the core is no port's
no_port : DirectionHasBit → (N : NetlistView) → IsLaidOut N → (net : ℕ) → length N.nets ≤ net → direction N.ports net ≡ None
no_port back N laid net past = by (direction N.ports net) refl
  where
    by : (o : Option Dir) → direction N.ports net ≡ o → o ≡ None
    by None e = refl
    by (Some d) e =
        let bit = back N d (record { 0 = net }) e in
        let low : net < length N.nets
        = laid.port_nets bit.number bit.bit (record { 0 = net }) (ap (option_and_then (λ (q : PortView). slice_get q.nets bit.bit)) bit.stands ∙ bit.has) in
        absurd (omega arith)

not_followed : (o : Option Dir) → o ≡ None → follows_pin o ≡ false
not_followed o e = ap follows_pin e

-- a net on the core's side follows no pin, unless it did
inner_inside : DirectionHasBit → (N : NetlistView) (names : TapNames) (rs : List FitRow) → IsLaidOut N → (net : ℕ) → net < length N.nets → follows_pin (direction N.ports net) ≡ false
    → follows_pin (direction (N.ports ++ tap_ports names (tap_port (length N.nets))) (side_from N.ports net (length N.nets + 5) rs)) ≡ false
inner_inside back N names rs laid net low e = elim (side_past N.ports net (length N.nets + 5) rs) [
  | inl stays ↦ ap (λ (n : ℕ). follows_pin (direction (N.ports ++ taps) n)) stays ∙ by_side (direction N.ports net) refl
  | inr past ↦ (
      let far : ℕ = side_from N.ports net (length N.nets + 5) rs in
      let none : direction N.ports far ≡ None = no_port back N laid far (omega arith) in
      not_followed (direction (N.ports ++ taps) far) (dir_of_more N.ports taps far none ∙ no_tap_above names (length N.nets) far past))
]
  where
    taps : List PortView
    taps = tap_ports names (tap_port (length N.nets))

    by_side : (o : Option Dir) → direction N.ports net ≡ o → follows_pin (direction (N.ports ++ taps) net) ≡ false
    by_side None f = not_followed (direction (N.ports ++ taps) net) (dir_of_more N.ports taps net f ∙ no_tap_below names (length N.nets) net low)
    by_side (Some d) f = ap follows_pin (dir_stays N.ports taps net d f ∙ sym f) ∙ e

-- Drivers.

-- a row that stands before a driver has a three-state one
driven_three : (L : LinkedView) (p : Plan) (seen : List PinSeen) (row : FitRow) (net : NetId)
    → RowCase L p seen row → row_net L.arena.lists.ports row ≡ Some net → is_driven (site_of L.arena.lists.ports row) ≡ true → DrivenAs L.arena.lists net true
driven_three L p seen row net (observed_case n at does cell none s) here is = absurd (let bad : false ≡ true = sym (ap is_driven s) ∙ is in cc)
driven_three L p seen row net (input_case n at does cell none s) here is = absurd (let bad : false ≡ true = sym (ap is_driven s) ∙ is in cc)
driven_three L p seen row net (plain_case n at does cell core none by s) here is = absurd (let bad : false ≡ true = sym (ap is_driven s) ∙ is in cc)
driven_three L p seen row net (added_case n at does cell core names by s) here is = absurd (let bad : false ≡ true = sym (ap is_driven s) ∙ is in cc)
driven_three L p seen row net (driver_case n core at does cell core_is names by s) here is =
    subst (λ (x : NetId). DrivenAs L.arena.lists x true) (some_same n net (row_net L.arena.lists.ports row) at.here here) by
driven_three L p seen row net (inout_case n core at does cell core_is names by s) here is =
    subst (λ (x : NetId). DrivenAs L.arena.lists x true) (some_same n net (row_net L.arena.lists.ports row) at.here here) by
driven_three L p seen row net (control_case core pin does cell core_is none s) here is = absurd (let bad : false ≡ true = sym (ap is_driven s) ∙ is in cc)

-- another cell keeps its operands
keeps_feeds : BitHasDirection → DriverIsFound → ControlCellsAreThere → (L : LinkedView) (p : Plan) (seen : List PinSeen) → IsFitting L p seen → (i : ℕ) (cell : CellView)
    → cell_at L.arena.lists i ≡ Some cell → is_three_state cell.kind ≡ false → option_and_then (feeds_behind (boundary_at L.arena.lists (fitted_of L p seen))) cell.output ≡ None
keeps_feeds has found there L p seen fits i cell live plain = by cell.output refl
  where
    N : NetlistView
    N = L.arena.lists

    by : (o : Option NetId) → cell.output ≡ o → option_and_then (feeds_behind (boundary_at N (fitted_of L p seen))) o ≡ None
    by None e = refl
    by (Some net) e = feeds_kept L p seen net (λ k row at here is.
        let as_three = driven_three L p seen row net (cases_of has found there L p seen fits k row at) here is in
        let mine : driver_of N.cells net.0 ≡ Some cell = found N fits.formed.one_driver i cell net.0 (record { live = live; output = e }) in
        let same : as_three.cell ≡ cell = some_same as_three.cell cell (driver_of N.cells net.0) as_three.found mine in
        let bad : true ≡ false = sym as_three.kind ∙ ap (λ (c : CellView). is_three_state c.kind) same ∙ plain in cc)

-- The whole.

pub record NestLaws : Type 0 where
  pub has : BitHasDirection
  pub back : DirectionHasBit
  pub found : DriverIsFound
  pub drives : DriverDrives
  pub there : ControlCellsAreThere

pub nests : NestLaws → BuiltInNests
nests by L p seen names M shown fits laid built =
    let inside = built.core in record {
      library = built.library;
      cells = λ i cell live plain.
          nested_same M to (core_side B) i cell
          (λ place net at. inner_given N M B net (given_read by.found N fits.formed i cell place net live at))
          (λ net out. inner_given N M B net.0 (given_by_driver N net.0 cell (by.found N fits.formed.one_driver i cell net.0 (record { live = live; output = out }))))
          (inside.nested i cell live (keeps_feeds by.has by.found by.there L p seen fits i cell live plain));
      inside = λ net e. by_given net e (is_given N net) refl;
      undriven = λ net e none.
          let no_driver : driver_of N.cells net ≡ None = none_found net (driver_of N.cells net) (by.drives N net) none in
          let past : to net ≡ past_nets M + net = inner_past N M B net (neither (follows_pin (direction N.ports net)) (is_some (driver_of N.cells net)) e (ap (λ (o : Option CellView). is_some o) no_driver)) in
          subst (IsUndriven M) (sym past) (past_undriven M (past_nets M + net) (omega arith));
    }
  where
    N : NetlistView
    N = L.arena.lists

    f : Fitted
    f = fitted_of L p seen

    B : Boundary
    B = boundary_at N f

    to : ℕ → ℕ
    to = inner_net N M B

    none_found : (net : ℕ) (o : Option CellView) → IsDriverOf N net o → IsUndriven N net → o ≡ None
    none_found net None d none = refl
    none_found net (Some cell) d none = absurd (none d.0 cell d.1.live d.1.output)

    -- a net that something is given, and which follows no pin, is driven, so it is one of the core's
    low : (net : ℕ) (o : Option CellView) → IsDriverOf N net o → follows_pin (direction N.ports net) ≡ false → driver_of N.cells net ≡ o → is_given N net ≡ true → net < length N.nets
    low net None d e is g = absurd (let bad : false ≡ true = sym (neither (follows_pin (direction N.ports net)) (is_some (driver_of N.cells net)) e (ap (λ (x : Option CellView). is_some x) is)) ∙ g in cc)
    low net (Some cell) d e is g = laid.outputs d.0 cell net d.1

    by_given : (net : ℕ) → follows_pin (direction N.ports net) ≡ false → (b : Bool) → is_given N net ≡ b → follows_pin (direction M.ports (to net)) ≡ false
    by_given net e true g =
        ap (λ (n : ℕ). follows_pin (direction M.ports n)) (inner_given N M B net g)
        ∙ ap (λ (ports : List PortView). follows_pin (direction ports (core_side B net))) built.ports
        ∙ inner_inside by.back N names f.rows laid net (low net (driver_of N.cells net) (by.drives N net) e refl g) e
    by_given net e false g =
        ap (λ (n : ℕ). follows_pin (direction M.ports n)) (inner_past N M B net g) ∙ not_followed (direction M.ports (past_nets M + net)) (past_inside M.ports (past_nets M + net) (omega arith))

-- so it is in the stitched netlist
pub stitched_nests : BuiltInNests → StitchedIsBuiltIn → StitchedNests
stitched_nests nested built L p seen names fits laid dense =
    nested L p seen names (stitched L.arena.lists names (fitted_of L p seen)) (bypass_at (first_net L.arena.lists (fitted_of L p seen)) (fitted_of L p seen)) fits laid
    (built L.arena.lists names (fitted_of L p seen) dense)
