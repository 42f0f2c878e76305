-- What each row of a plan that fits is, by where its cell stands.
use Rattle.std.proofs.Common.{◌≡◌, ◌⊎◌, inl, inr, ℕ, ◌==◌, ◌&&◌, Bool, true, false, not, List, [], refl, ap, sym, ◌∙◌, subst, Option, Some, None, eqb-true, eq-eqb}
use Rattle.std.specs.Prelude.{slice_get, is_some, option_and_then}
use Rattle.std.specs.Option.{option_map, option_map_or}
use Rattle.std.proofs.lemmas.Option.{slice_get-map}
use Rattle.list_laws.proofs.Tests.{and_left, and_right}
use Rattle.list_laws.proofs.Options.{some_same}
use Rattle.cell_library.specs.Gates.{is_three_state}
use Rattle.cell_library.specs.declared.codes.BoundaryKind.{BoundaryKind}
use Rattle.cell_library.specs.declared.codes.BoundaryKind.TheVariants as kind
use Rattle.cell_library.specs.declared.codes.Function.{Function}
use Rattle.cell_library.specs.declared.codes.Function.TheVariants as function
use Rattle.bsdl_device.specs.RowRules.{is_function}
use Rattle.bsdl_device.specs.IsDevice.{suits, is_disabled, disable_right, is_control_at, IsDeviceRow}
use Rattle.bsdl_device.specs.declared.values.CellRow.{CellRow}
use Rattle.bsdl_device.specs.declared.values.Disable.{Disable}
use Rattle.netlist_model.specs.declared.NetId.{NetId}
use Rattle.netlist_model.specs.declared.Feed.{Feed}
use Rattle.netlist_model.specs.declared.Feed.TheVariants.{Net, Const}
use Rattle.netlist_model.specs.declared.Dir.{Dir}
use Rattle.netlist_model.specs.declared.Dir.TheVariants as dir
use Rattle.netlist_model.specs.declared.PinBit.{PinBit}
use Rattle.netlist_model.specs.Lists.{CellView, NetlistView, direction, Drives}
use Rattle.netlist_model.specs.Settled.{driver_of}
use Rattle.netlist_model.specs.Formed.{IsWellFormed, IsDriven}
use Rattle.netlist_model.specs.Ports.{BitHasDirection}
use Rattle.netlist_model.specs.Drivers.{DriverIsFound}
use Rattle.plan_fitting.specs.netlist_link.Linked.{LinkedView}
use Rattle.wrapped_chip.specs.Cells.{net_of_row}
use Rattle.wrapped_chip.specs.Suits.{is_input}
use Rattle.surrounded_core.specs.Rows.{output_kind}
use Rattle.texts.specs.First.{or_else}
use Rattle.plan_texts.specs.declared.plan.Plan.{Plan}
use Rattle.plan_fitting.specs.declared.fitted.FitRow.{FitRow}
use Rattle.plan_fitting.specs.Pins.{PinSeen}
use Rattle.plan_fitting.specs.Rows.{Driver, gate_driver, three_state, added_driver, same_feed, same_bool, rows, has_highz}
use Rattle.plan_fitting.specs.Devices.{fitted_of, disable_by, cell_row, device_of}
use Rattle.plan_fitting.specs.Laws.{ControlCellsAreThere}
use Rattle.plan_fitting.proofs.Drivers.{not_three, gate_is}
use Rattle.plan_fitting.proofs.Controls.{control_is}
use Rattle.plan_fitting.specs.FittingPlan.{IsFitting}
use Rattle.plan_fitting.proofs.Lined.{IsLined}
use Rattle.plan_fitting.proofs.Rows.{side_driver, data_function, data_core, Controlled, IsDataRow}
use Rattle.plan_fitting.proofs.DevicesDrivers.{seen_direction, gate_has_driver}
use Rattle.plan_fitting.proofs.RowPlaces.{net_of_line}
use Rattle.plan_fitting.proofs.NetRows.{net_of_data}
use Rattle.plan_fitting.proofs.DeviceRows.{right_row}
use Rattle.plan_fitting.proofs.PlanPrefix.{plans_have_controls}
use Rattle.plan_fitting.proofs.DevicesFacts.{facts_of}
use Rattle.plan_fitting.proofs.SuitsIs.{does_input}
use Rattle.stitched_netlist.specs.declared.model.Site.TheVariants as site
use Rattle.stitched_netlist.specs.Sites.{pin_net, row_net, is_own_net, input_site, output_site, site_by, site_of}

-- the row stands at a bit with this net, on this side
pub record AtBit (L : LinkedView) (p : Plan) (seen : List PinSeen) (row : FitRow) (net : NetId) (of : Dir) : Type 0 where
  pub bit : PinBit
  pub pin : row.pin ≡ Some bit
  pub here : row_net L.arena.lists.ports row ≡ Some net
  pub at : net_of_row L.arena.lists (cell_row (fitted_of L p seen) row) ≡ Some net
  pub side : direction L.arena.lists.ports net.0 ≡ Some of

-- a cell drives the net, and is three-state or isn't
pub record DrivenAs (N : NetlistView) (net : NetId) (three : Bool) : Type 0 where
  pub cell : CellView
  pub number : ℕ
  pub drives : Drives N number cell net.0
  pub found : driver_of N.cells net.0 ≡ Some cell
  pub kind : is_three_state cell.kind ≡ three

-- the row names a control cell
pub record Names (rs : List FitRow) (row : FitRow) : Type 0 where
  pub number : ℕ
  pub named : row.control ≡ Some number
  pub control : FitRow
  pub there : slice_get rs number ≡ Some control
  pub does : control.function ≡ function.Control

pub data RowCase (L : LinkedView) (p : Plan) (seen : List PinSeen) (row : FitRow) : Type 0 where
  observed_case : (net : NetId) → AtBit L p seen row net dir.Input → is_input row.function ≡ true → row.cell ≡ kind.Bc4 → row.control ≡ None → site_of L.arena.lists.ports row ≡ site.Observed
      → RowCase L p seen row
  input_case : (net : NetId) → AtBit L p seen row net dir.Input → is_input row.function ≡ true → row.cell ≡ kind.Bc1 → row.control ≡ None → site_of L.arena.lists.ports row ≡ site.Input
      → RowCase L p seen row
  plain_case : (net : NetId) → AtBit L p seen row net dir.Output → row.function ≡ function.Output2 → row.cell ≡ output_kind row.cell → row.core ≡ Some (Net net) → row.control ≡ None
      → DrivenAs L.arena.lists net false → site_of L.arena.lists.ports row ≡ site.Output → RowCase L p seen row
  added_case : (net : NetId) → AtBit L p seen row net dir.Output → row.function ≡ function.Output3 → row.cell ≡ output_kind row.cell → row.core ≡ Some (Net net) → Names (rows p seen) row
      → DrivenAs L.arena.lists net false → site_of L.arena.lists.ports row ≡ site.AddedDriver → RowCase L p seen row
  driver_case : (net : NetId) (core : Feed) → AtBit L p seen row net dir.Output → row.function ≡ function.Output3 → row.cell ≡ output_kind row.cell → row.core ≡ Some core
      → Names (rows p seen) row → DrivenAs L.arena.lists net true → site_of L.arena.lists.ports row ≡ site.Driver → RowCase L p seen row
  inout_case : (net : NetId) (core : Feed) → AtBit L p seen row net dir.Inout → row.function ≡ function.Bidir → row.cell ≡ kind.Bc7 → row.core ≡ Some core → Names (rows p seen) row
      → DrivenAs L.arena.lists net true → site_of L.arena.lists.ports row ≡ site.Inout → RowCase L p seen row
  control_case : (core : Feed) → row.pin ≡ None → row.function ≡ function.Control → row.cell ≡ output_kind row.cell → row.core ≡ Some core → row.control ≡ None
      → site_of L.arena.lists.ports row ≡ site.Control → RowCase L p seen row

-- Kinds of cells by functions.

output_cell : (f : Function) (cell : BoundaryKind) → (f ≡ function.Output2) ⊎ ((f ≡ function.Output3) ⊎ (f ≡ function.Control)) → suits f cell ≡ true → cell ≡ output_kind cell
output_cell f kind.Bc1 is suit = refl
output_cell f kind.Bc2 is suit = refl
output_cell f kind.Bc4 (inl e) suit = absurd (let bad : false ≡ true = sym (ap (λ (x : Function). suits x kind.Bc4) e) ∙ suit in cc)
output_cell f kind.Bc4 (inr (inl e)) suit = absurd (let bad : false ≡ true = sym (ap (λ (x : Function). suits x kind.Bc4) e) ∙ suit in cc)
output_cell f kind.Bc4 (inr (inr e)) suit = absurd (let bad : false ≡ true = sym (ap (λ (x : Function). suits x kind.Bc4) e) ∙ suit in cc)
output_cell f kind.Bc7 (inl e) suit = absurd (let bad : false ≡ true = sym (ap (λ (x : Function). suits x kind.Bc7) e) ∙ suit in cc)
output_cell f kind.Bc7 (inr (inl e)) suit = absurd (let bad : false ≡ true = sym (ap (λ (x : Function). suits x kind.Bc7) e) ∙ suit in cc)
output_cell f kind.Bc7 (inr (inr e)) suit = absurd (let bad : false ≡ true = sym (ap (λ (x : Function). suits x kind.Bc7) e) ∙ suit in cc)

bidir_cell : (cell : BoundaryKind) → suits function.Bidir cell ≡ true → cell ≡ kind.Bc7
bidir_cell kind.Bc7 suit = refl
bidir_cell kind.Bc1 suit = absurd (cc)
bidir_cell kind.Bc2 suit = absurd (cc)
bidir_cell kind.Bc4 suit = absurd (cc)

input_cell : (f : Function) (cell : BoundaryKind) → is_input f ≡ true → suits f cell ≡ true → (cell ≡ kind.Bc1) ⊎ (cell ≡ kind.Bc4)
input_cell f kind.Bc1 is suit = inl refl
input_cell f kind.Bc4 is suit = inr refl
input_cell function.Input kind.Bc2 is suit = absurd (cc)
input_cell function.Input kind.Bc7 is suit = absurd (cc)
input_cell function.Clock kind.Bc2 is suit = absurd (cc)
input_cell function.Clock kind.Bc7 is suit = absurd (cc)
input_cell function.Output2 cell is suit = absurd (cc)
input_cell function.Output3 cell is suit = absurd (cc)
input_cell function.Bidir cell is suit = absurd (cc)
input_cell function.Control cell is suit = absurd (cc)

-- Sites.

site_at_input : (f : Function) (cell : BoundaryKind) (own : Bool) → is_input f ≡ true → site_by f cell own ≡ input_site cell
site_at_input function.Input cell own is = refl
site_at_input function.Clock cell own is = refl
site_at_input function.Output2 cell own is = absurd (cc)
site_at_input function.Output3 cell own is = absurd (cc)
site_at_input function.Bidir cell own is = absurd (cc)
site_at_input function.Control cell own is = absurd (cc)

-- Drivers.

-- the control cell of a driver
names_of : (rs : List FitRow) (row : FitRow) (d : Driver) → Controlled rs (Some d) row.control → Names rs row
names_of rs row d c = record {
  number = c.number;
  named = c.is;
  control = c.row;
  there = c.there;
  does = control_is c.row.function (and_left (is_function function.Control c.row.function) (same_bool c.row.active_high d.active_high)
      (and_left (is_function function.Control c.row.function && same_bool c.row.active_high d.active_high) (option_map_or (same_feed d.operand) c.row.core false) c.right));
}

-- the data operand of an output's three-state gate isn't the output
not_own : (N : NetlistView) → IsWellFormed N → (net : NetId) (i : ℕ) (cell : CellView) → Drives N i cell net.0 → direction N.ports net.0 ≡ Some dir.Output → (d : Driver)
    → gate_driver cell.kind cell.feeds ≡ Some d → is_own_net (Some net) (Some d.core) ≡ false
not_own N formed net i cell drives side d gate = by d.core refl
  where
    by : (core : Feed) → d.core ≡ core → is_own_net (Some net) (Some core) ≡ false
    by (Const b) e = refl
    by (Net other) e = by_test (net.0 == other.0) refl
      where
        by_test : (t : Bool) → (net.0 == other.0) ≡ t → t ≡ false
        by_test false same = refl
        by_test true same =
            let is = gate_is cell.kind cell.feeds d gate in
            let number : net.0 ≡ other.0 = eqb-true net.0 other.0 same in
            let reads : slice_get cell.feeds 0 ≡ Some (Net (record { 0 = net.0 }))
            = ap (λ (fs : List Feed). slice_get fs 0) is.are ∙ ap (λ (f : Feed). Some f) e ∙ ap (λ (n : ℕ). Some (Net (record { 0 = n }))) (sym number) in
            absurd (formed.bufif_unread i i cell cell 0 net.0 drives is.three (record { live = drives.live; operand = reads }) side)

-- Data cells.

record DataFacts (rs : List FitRow) (row : FitRow) (one : PinSeen) (side : Dir) (o : Option Driver) : Type 0 where
  does : row.function ≡ data_function side one.clock o
  core : row.core ≡ data_core one side o
  controlled : Controlled rs o row.control

data_facts : (L : LinkedView) (p : Plan) (seen : List PinSeen) (row : FitRow) (d : IsDataRow (IsLined L) (has_highz p.opcodes) (rows p seen) row) (side : Dir) (o : Option Driver)
    → d.one.side ≡ side → side_driver (has_highz p.opcodes) d.one side ≡ o → DataFacts (rows p seen) row d.one side o
data_facts L p seen row d side o e f =
    let highz = has_highz p.opcodes in record {
      does = d.does ∙ ap (λ (s : Dir). data_function s d.one.clock (side_driver highz d.one s)) e ∙ ap (data_function side d.one.clock) f;
      core = d.core ∙ ap (λ (s : Dir). data_core d.one s (side_driver highz d.one s)) e ∙ ap (data_core d.one side) f;
      controlled = subst (λ (x : Option Driver). Controlled (rows p seen) x row.control) (ap (side_driver highz d.one) e ∙ f) d.controlled;
    }

at_bit : BitHasDirection → (L : LinkedView) (p : Plan) (seen : List PinSeen) → IsFitting L p seen → (row : FitRow) (d : IsDataRow (IsLined L) (has_highz p.opcodes) (rows p seen) row) (side : Dir)
    → d.one.side ≡ side → AtBit L p seen row d.one.net side
at_bit has L p seen fits row d side e = record {
  bit = d.one.pin;
  pin = d.pin;
  here = ap (option_and_then (pin_net L.arena.lists.ports)) d.pin ∙ net_of_line L d.line d.one d.on;
  at = net_of_data L p seen fits.wide row d;
  side = seen_direction has L fits.formed d.line.port d.one d.on.seen ∙ ap (λ (s : Dir). Some s) e;
}

-- what drives a bit's net
driven_as : DriverIsFound → (N : NetlistView) → IsWellFormed N → (net : NetId) → IsDriven N net.0 → (three : Bool) → ((i : ℕ) (cell : CellView) → Drives N i cell net.0 → is_three_state cell.kind ≡ three)
    → DrivenAs N net three
driven_as found N formed net driven three kind = record {
  cell = driven.cell;
  number = driven.number;
  drives = driven.drives;
  found = found N formed.one_driver driven.number driven.cell net.0 driven.drives;
  kind = kind driven.number driven.cell driven.drives;
}

input_data : BitHasDirection → (L : LinkedView) (p : Plan) (seen : List PinSeen) → IsFitting L p seen → (row : FitRow) (d : IsDataRow (IsLined L) (has_highz p.opcodes) (rows p seen) row)
    → suits row.function row.cell ≡ true → d.one.side ≡ dir.Input → RowCase L p seen row
input_data has L p seen fits row d suit e =
    let facts = data_facts L p seen row d dir.Input None e refl in
    let is : is_input row.function ≡ true = ap is_input facts.does ∙ does_input d.one.clock None in
    let at = at_bit has L p seen fits row d dir.Input e in
    let stands : site_of L.arena.lists.ports row ≡ input_site row.cell
    = site_at_input row.function row.cell (is_own_net (row_net L.arena.lists.ports row) row.core) is in
    elim (input_cell row.function row.cell is suit) [
      | inl bc1 ↦ input_case d.one.net at is bc1 facts.controlled (stands ∙ ap input_site bc1)
      | inr bc4 ↦ observed_case d.one.net at is bc4 facts.controlled (stands ∙ ap input_site bc4)
    ]

output_data : BitHasDirection → DriverIsFound → (L : LinkedView) (p : Plan) (seen : List PinSeen) → IsFitting L p seen → (row : FitRow)
    (d : IsDataRow (IsLined L) (has_highz p.opcodes) (rows p seen) row) → suits row.function row.cell ≡ true → d.one.side ≡ dir.Output → RowCase L p seen row
output_data has found L p seen fits row d suit e = by_gate (gate_driver driven.cell.kind driven.cell.feeds) refl
  where
    N : NetlistView
    N = L.arena.lists

    net : NetId
    net = d.one.net

    at : AtBit L p seen row d.one.net dir.Output
    at = at_bit has L p seen fits row d dir.Output e

    driven : IsDriven L.arena.lists d.one.net.0
    driven = fits.formed.outputs_driven d.one.net.0 at.side

    seen_gate : three_state d.one.driver ≡ gate_driver driven.cell.kind driven.cell.feeds
    seen_gate = ap three_state (d.on.seen.driver ∙ found N fits.formed.one_driver driven.number driven.cell net.0 driven.drives)

    same_kind : (three : Bool) → is_three_state driven.cell.kind ≡ three → DrivenAs L.arena.lists d.one.net three
    same_kind three k = record {
      cell = driven.cell;
      number = driven.number;
      drives = driven.drives;
      found = found N fits.formed.one_driver driven.number driven.cell net.0 driven.drives;
      kind = k;
    }

    site_is : (own : Bool) → row.function ≡ function.Output3 → is_own_net (row_net N.ports row) row.core ≡ own → site_of N.ports row ≡ output_site own
    site_is own f g = ap (λ (x : Function). site_by x row.cell (is_own_net (row_net N.ports row) row.core)) f ∙ ap output_site g

    own_is : (core : Feed) → row.core ≡ Some core → is_own_net (row_net N.ports row) row.core ≡ is_own_net (Some net) (Some core)
    own_is core g = ap (λ (o : Option NetId). is_own_net o row.core) at.here ∙ ap (is_own_net (Some net)) g

    by_highz : (highz : Bool) → side_driver (has_highz p.opcodes) d.one dir.Output ≡ added_driver highz (Net d.one.net) → is_three_state driven.cell.kind ≡ false → RowCase L p seen row
    by_highz true f plain =
        let added : Driver = record { core = Net net; operand = Const true; active_high = true } in
        let facts = data_facts L p seen row d dir.Output (Some added) e f in
        added_case net at facts.does (output_cell row.function row.cell (inr (inl facts.does)) suit) facts.core (names_of (rows p seen) row added facts.controlled) (same_kind false plain)
        (site_is true facts.does (own_is (Net net) facts.core ∙ eq-eqb net.0 net.0 refl))
    by_highz false f plain =
        let facts = data_facts L p seen row d dir.Output None e f in
        plain_case net at facts.does (output_cell row.function row.cell (inl facts.does) suit) facts.core facts.controlled (same_kind false plain)
        (ap (λ (x : Function). site_by x row.cell (is_own_net (row_net N.ports row) row.core)) facts.does)

    by_gate : (o : Option Driver) → gate_driver driven.cell.kind driven.cell.feeds ≡ o → RowCase L p seen row
    by_gate (Some g) f =
        let o_is : side_driver (has_highz p.opcodes) d.one dir.Output ≡ Some g = ap (λ (o : Option Driver). or_else o (added_driver (has_highz p.opcodes) (Net net))) (seen_gate ∙ f) in
        let facts = data_facts L p seen row d dir.Output (Some g) e o_is in
        driver_case net g.core at facts.does (output_cell row.function row.cell (inr (inl facts.does)) suit) facts.core (names_of (rows p seen) row g facts.controlled)
        (same_kind true (gate_is driven.cell.kind driven.cell.feeds g f).three)
        (site_is false facts.does (own_is g.core facts.core ∙ not_own N fits.formed net driven.number driven.cell driven.drives at.side g f))
    by_gate None f =
        by_highz (has_highz p.opcodes) (ap (λ (o : Option Driver). or_else o (added_driver (has_highz p.opcodes) (Net net))) (seen_gate ∙ f))
        (not_three driven.cell.kind (gate_driver driven.cell.kind driven.cell.feeds) f (λ three. gate_has_driver N fits.formed driven.number driven.cell net.0 driven.drives three))

inout_data : BitHasDirection → DriverIsFound → (L : LinkedView) (p : Plan) (seen : List PinSeen) → IsFitting L p seen → (row : FitRow)
    (d : IsDataRow (IsLined L) (has_highz p.opcodes) (rows p seen) row) → suits row.function row.cell ≡ true → d.one.side ≡ dir.Inout → RowCase L p seen row
inout_data has found L p seen fits row d suit e = by_gate (gate_driver driven.cell.kind driven.cell.feeds) refl
  where
    N : NetlistView
    N = L.arena.lists

    net : NetId
    net = d.one.net

    at : AtBit L p seen row d.one.net dir.Inout
    at = at_bit has L p seen fits row d dir.Inout e

    driven : IsDriven L.arena.lists d.one.net.0
    driven = fits.formed.inouts_driven d.one.net.0 at.side

    three : is_three_state driven.cell.kind ≡ true
    three = fits.formed.inout_bufif driven.number driven.cell d.one.net.0 driven.drives at.side

    seen_gate : three_state d.one.driver ≡ gate_driver driven.cell.kind driven.cell.feeds
    seen_gate = ap three_state (d.on.seen.driver ∙ found N fits.formed.one_driver driven.number driven.cell net.0 driven.drives)

    by_gate : (o : Option Driver) → gate_driver driven.cell.kind driven.cell.feeds ≡ o → RowCase L p seen row
    by_gate None f =
        absurd (let some = gate_has_driver N fits.formed driven.number driven.cell net.0 driven.drives three in
        let none : is_some (gate_driver driven.cell.kind driven.cell.feeds) ≡ false = ap (λ (o : Option Driver). is_some o) f in cc)
    by_gate (Some g) f =
        let facts = data_facts L p seen row d dir.Inout (Some g) e (seen_gate ∙ f) in
        inout_case net g.core at facts.does (bidir_cell row.cell (sym (ap (λ (x : Function). suits x row.cell) facts.does) ∙ suit)) facts.core
        (names_of (rows p seen) row g facts.controlled) (driven_as found N fits.formed net driven true (λ i cell drives. fits.formed.inout_bufif i cell net.0 drives at.side))
        (ap (λ (x : Function). site_by x row.cell (is_own_net (row_net N.ports row) row.core)) facts.does)

data_case : BitHasDirection → DriverIsFound → (L : LinkedView) (p : Plan) (seen : List PinSeen) → IsFitting L p seen → (row : FitRow)
    (d : IsDataRow (IsLined L) (has_highz p.opcodes) (rows p seen) row) → suits row.function row.cell ≡ true → (side : Dir) → d.one.side ≡ side → RowCase L p seen row
data_case has found L p seen fits row d suit dir.Input e = input_data has L p seen fits row d suit e
data_case has found L p seen fits row d suit dir.Output e = output_data has found L p seen fits row d suit e
data_case has found L p seen fits row d suit dir.Inout e = inout_data has found L p seen fits row d suit e

-- Control cells.

-- a control cell names none
pub names_none : (L : LinkedView) (p : Plan) (seen : List PinSeen) (row : FitRow) → row.function ≡ function.Control
    → disable_right (device_of L p seen).cells (cell_row (fitted_of L p seen) row) ≡ true → row.control ≡ None
names_none L p seen row does right = by row.control refl
  where
    by : (o : Option ℕ) → row.control ≡ o → o ≡ None
    by None e = refl
    by (Some n) e =
        let f = fitted_of L p seen in
        let cells : List CellRow = (device_of L p seen).cells in
        let at : Function → Option ℕ → Bool = λ x c. option_map_or (λ (d : Disable). is_disabled x && is_control_at cells d.control) (option_map (disable_by f.rows) c) (not (is_disabled x)) in
        absurd (let bad : false ≡ true = sym (ap (λ (c : Option ℕ). at row.function c) e ∙ ap (λ (x : Function). at x (Some n)) does) ∙ right in cc)

some_core : (operand : Feed) (core : Option Feed) → option_map_or (same_feed operand) core false ≡ true → (feed : Feed) × (core ≡ Some feed)
some_core operand None h = absurd (cc)
some_core operand (Some feed) h = (feed, refl)

-- the control operand of a control cell that a data cell names
core_named : (rs : List FitRow) (o : Option Driver) (named : Option ℕ) (number : ℕ) (row : FitRow) → Controlled rs o named → named ≡ Some number → slice_get rs number ≡ Some row
    → (feed : Feed) × (row.core ≡ Some feed)
core_named rs None named number row none is at = absurd (let bad : None ≡ Some number = sym none ∙ is in cc)
core_named rs (Some d) named number row c is at =
    let same : c.number ≡ number = some_same c.number number named c.is is in
    let row_is : c.row ≡ row = some_same c.row row (slice_get rs number) (ap (slice_get rs) (sym same) ∙ c.there) at in
    let found = some_core d.operand c.row.core
    (and_right (is_function function.Control c.row.function && same_bool c.row.active_high d.active_high) (option_map_or (same_feed d.operand) c.row.core false) c.right) in
    (found.0, sym (ap (λ (r : FitRow). r.core) row_is) ∙ found.1)

-- The whole.

pub device_row : BitHasDirection → DriverIsFound → ControlCellsAreThere → (L : LinkedView) (p : Plan) (seen : List PinSeen) → IsFitting L p seen → (number : ℕ) (row : FitRow)
    → slice_get (rows p seen) number ≡ Some row → IsDeviceRow (device_of L p seen) number (cell_row (fitted_of L p seen) row)
device_row has found there L p seen fits number row at =
    let facts = facts_of has found L p seen fits in
    let f = fitted_of L p seen in
    let mapped : slice_get (device_of L p seen).cells number ≡ Some (cell_row f row) = slice_get-map (cell_row f) (rows p seen) number ∙ ap (option_map (cell_row f)) at in
    right_row L p seen fits.wide (plans_have_controls p fits.spelled) (there L p seen) facts.each number (cell_row f row) mapped

pub cases_of : BitHasDirection → DriverIsFound → ControlCellsAreThere → (L : LinkedView) (p : Plan) (seen : List PinSeen) → IsFitting L p seen → (number : ℕ) (row : FitRow)
    → slice_get (rows p seen) number ≡ Some row → RowCase L p seen row
cases_of has found there L p seen fits number row at =
    let facts = facts_of has found L p seen fits in
    let right = device_row has found there L p seen fits number row at in
    elim (facts.each number row at) [
      | inl d ↦ data_case has found L p seen fits row d right.cell d.one.side refl
      | inr c ↦ (
          let none = names_none L p seen row c.does right.disable in
          let core : (feed : Feed) × (row.core ≡ Some feed) = elim (facts.each c.user c.user_row c.user_there) [
            | inl d ↦ core_named (rows p seen) (side_driver (has_highz p.opcodes) d.one d.one.side) c.user_row.control number row d.controlled c.names at
            | inr e ↦ (
                let user_right = device_row has found there L p seen fits c.user c.user_row c.user_there in
                absurd (let bad : None ≡ Some number = sym (names_none L p seen c.user_row e.does user_right.disable) ∙ c.names in cc))
          ] in
          control_case core.0 c.pin c.does (output_cell row.function row.cell (inr (inr c.does)) right.cell) core.1 none
          (ap (λ (x : Function). site_by x row.cell (is_own_net (row_net L.arena.lists.ports row) row.core)) c.does))
    ]
