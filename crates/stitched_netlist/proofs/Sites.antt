-- Each row by its site.
use Rattle.std.proofs.Common.{◌≡◌, ℕ, ◌&&◌, Bool, true, false, List, [], slice_get, if◌then◌else◌, Option, Some, None, refl, sym, ap, ◌∙◌, subst, inl, inr, eqb-true, eq-eqb}
use Rattle.std.specs.Prelude.{is_some, option_and_then}
use Rattle.std.specs.Option.{option_map_or}
use Rattle.std.proofs.lemmas.Bool.Decides.{eqb_tells}
use Rattle.list_laws.proofs.Tests.{and_left, and_right}
use Rattle.list_laws.proofs.Options.{some_same}
use Rattle.cell_library.specs.Gates.{is_three_state}
use Rattle.cell_library.specs.declared.codes.BoundaryKind.{BoundaryKind}
use Rattle.cell_library.specs.declared.codes.Function.{Function}
use Rattle.netlist_model.specs.declared.Dir.{Dir}
use Rattle.netlist_model.specs.declared.Feed.{Feed}
use Rattle.netlist_model.specs.declared.Feed.TheVariants.{Net, Const}
use Rattle.netlist_model.specs.declared.NetId.{NetId}
use Rattle.netlist_model.specs.Lists.{CellView, NetlistView, direction, Drives, cell_at}
use Rattle.netlist_model.specs.Settled.{driver_of}
use Rattle.netlist_model.specs.Formed.{IsDriven, IsWellFormed}
use Rattle.netlist_model.specs.Ports.{BitHasDirection}
use Rattle.netlist_model.specs.Drivers.{DriverIsFound}
use Rattle.plan_fitting.specs.netlist_link.Linked.{LinkedView}
use Rattle.bsdl_device.specs.RowRules.{is_function}
use Rattle.texts.specs.First.{or_else}
use Rattle.plan_texts.specs.declared.plan.Plan.{Plan}
use Rattle.plan_fitting.specs.declared.fitted.FitRow.{FitRow}
use Rattle.plan_fitting.specs.declared.fitted.Fitted.{Fitted}
use Rattle.plan_fitting.specs.Pins.{PinSeen}
use Rattle.plan_fitting.specs.Rows.{Driver, gate_driver, three_state, added_driver, same_bool, same_feed, controls, rows, has_highz}
use Rattle.plan_fitting.specs.Devices.{fitted_of}
use Rattle.plan_fitting.proofs.Drivers.{not_three, same_bool_is, gate_is}
use Rattle.plan_fitting.proofs.Controls.{control_is}
use Rattle.plan_fitting.specs.FittingPlan.{IsFitting}
use Rattle.plan_fitting.proofs.Rows.{side_driver, data_function, data_core, Controlled, IsDataRow, IsControlRow}
use Rattle.plan_fitting.proofs.DevicesDrivers.{seen_direction, gate_has_driver}
use Rattle.plan_fitting.proofs.Lined.{IsLined}
use Rattle.plan_fitting.proofs.DevicesFacts.{Facts, facts_of}
use Rattle.plan_fitting.proofs.RowPlaces.{net_of_line}
use Rattle.stitched_netlist.specs.Sites.{pin_net, row_net, is_own_net, input_site, site_by, site_of}
use Rattle.stitched_netlist.specs.RowsLaws.{IsTwoState, HasGate, HasControl, IsOperand, is_constant, is_read, StandsAt, at_observed, at_input, at_output, at_added, at_driver, at_inout, at_control, RowsStandSomewhere}
use Rattle.stitched_netlist.proofs.Alone.{names_none}
use Rattle.cell_library.specs.declared.codes.BoundaryKind.TheVariants as kind
use Rattle.cell_library.specs.declared.codes.Function.TheVariants as function
use Rattle.netlist_model.specs.declared.Dir.TheVariants as dir
use Rattle.stitched_netlist.specs.declared.model.Site.TheVariants as site

-- Drivers.

-- what drives a bit
record DrivenAt (N : NetlistView) (one : PinSeen) : Type 0 where
  number : ℕ
  cell : CellView
  drives : Drives N number cell one.net.0
  is : one.driver ≡ Some cell
  gate : is_three_state cell.kind ≡ true → is_some (gate_driver cell.kind cell.feeds) ≡ true

driven_at : DriverIsFound → (N : NetlistView) → IsWellFormed N → (one : PinSeen) → one.driver ≡ driver_of N.cells one.net.0 → IsDriven N one.net.0 → DrivenAt N one
driven_at found N formed one seen d = record {
  number = d.number;
  cell = d.cell;
  drives = d.drives;
  is = seen ∙ found N formed.one_driver d.number d.cell one.net.0 d.drives;
  gate = λ three. gate_has_driver N formed d.number d.cell one.net.0 d.drives three;
}

two_state : (N : NetlistView) → IsWellFormed N → (i : ℕ) (cell : CellView) (net : ℕ) → Drives N i cell net → is_three_state cell.kind ≡ false → IsTwoState N net
two_state N formed i cell net drives plain j other here =
    let same : i ≡ j = formed.one_driver i j cell other net drives here in
    let there : cell_at N j ≡ Some cell = ap (cell_at N) (sym same) ∙ drives.live in
    let one : cell ≡ other = some_same cell other (cell_at N j) there here.live in
    ap (λ (c : CellView). is_three_state c.kind) (sym one) ∙ plain

gate_at : (N : NetlistView) (one : PinSeen) (by : DrivenAt N one) (d : Driver) (core : Option Feed) → gate_driver by.cell.kind by.cell.feeds ≡ Some d → core ≡ Some d.core
    → HasGate N one.net.0 core d.operand
gate_at N one by d core h is =
    let g = gate_is by.cell.kind by.cell.feeds d h in
    record { number = by.number; cell = by.cell; drives = by.drives; three = g.three; datum = d.core; feeds = g.are; core_is = is }

-- the operand is a net of a cell or a constant
pub operand_at : (N : NetlistView) (i : ℕ) (cell : CellView) (place : ℕ) (feed : Feed) → cell_at N i ≡ Some cell → slice_get cell.feeds place ≡ Some feed → IsOperand N feed
operand_at N i cell place (Net net) live at = is_read i cell place net.0 (record { live = live; operand = at }) refl
operand_at N i cell place (Const b) live at = is_constant b refl

-- Control cells.

same_feed_is : (a b : Feed) → same_feed a b ≡ true → b ≡ a
same_feed_is (Net a) (Net b) h = let wrap : ℕ → Feed = λ n. Net (record { 0 = n }) in ap wrap (sym (eqb-true a.0 b.0 h))
same_feed_is (Const a) (Const b) h = ap (λ (c : Bool). Const c) (sym (same_bool_is a b h))
same_feed_is (Net a) (Const b) h = absurd (cc)
same_feed_is (Const a) (Net b) h = absurd (cc)

control_core : (d : Driver) (core : Option Feed) → option_map_or (same_feed d.operand) core false ≡ true → core ≡ Some d.operand
control_core d None h = absurd (cc)
control_core d (Some f) h = ap (λ (x : Feed). Some x) (same_feed_is d.operand f h)

record ControlFacts (d : Driver) (row : FitRow) : Type 0 where
  does : row.function ≡ function.Control
  core : row.core ≡ Some d.operand

control_facts : (d : Driver) (row : FitRow) → controls d row ≡ true → ControlFacts d row
control_facts d row right =
    let front : Bool = is_function function.Control row.function && same_bool row.active_high d.active_high in
    record {
      does = control_is row.function (and_left (is_function function.Control row.function) (same_bool row.active_high d.active_high) (and_left front (option_map_or (same_feed d.operand) row.core false) right));
      core = control_core d row.core (and_right front (option_map_or (same_feed d.operand) row.core false) right);
    }

control_site : (N : NetlistView) (row : FitRow) → row.function ≡ function.Control → site_of N.ports row ≡ site.Control
control_site N row does = ap (λ (f : Function). site_by f row.cell (is_own_net (row_net N.ports row) row.core)) does

-- a data cell does something else
no_control : (side : Dir) (clock : Bool) (d : Option Driver) → data_function side clock d ≡ function.Control → ⊥
no_control dir.Input true d h = cc
no_control dir.Input false d h = cc
no_control dir.Output clock None h = cc
no_control dir.Output clock (Some d) h = cc
no_control dir.Inout clock d h = cc

no_pin : (N : NetlistView) (row : FitRow) → row.pin ≡ None → row_net N.ports row ≡ None
no_pin N row none = ap (option_and_then (pin_net N.ports)) none

control_of : (L : LinkedView) (p : Plan) (seen : List PinSeen) → Facts L p seen → (row : FitRow) (d : Driver) (named : Option ℕ) → row.control ≡ named
    → Controlled (rows p seen) (Some d) named → HasControl L.arena.lists (fitted_of L p seen) row d.operand
control_of L p seen facts row d named is c =
    let known = control_facts d c.row c.right in
    let alone : c.row.pin ≡ None = elim (facts.each c.number c.row c.there) [
      | inl data_row ↦ absurd (no_control data_row.one.side data_row.one.clock (side_driver (has_highz p.opcodes) data_row.one data_row.one.side) (sym data_row.does ∙ known.does))
      | inr control ↦ control.pin
    ] in
    record {
      number = c.number;
      control = c.row;
      names = is ∙ c.is;
      there = c.there;
      site = control_site L.arena.lists c.row known.does;
      pin = no_pin L.arena.lists c.row alone;
      core = known.core;
    }

-- Data cells.

-- the row at a bit, with what is known of it
record AtBit (L : LinkedView) (p : Plan) (seen : List PinSeen) (row : FitRow) : Type 0 where
  is : IsDataRow (IsLined L) (has_highz p.opcodes) (rows p seen) row
  net : row_net L.arena.lists.ports row ≡ Some is.one.net
  side : direction L.arena.lists.ports is.one.net.0 ≡ Some is.one.side

at_bit : BitHasDirection → (L : LinkedView) (p : Plan) (seen : List PinSeen) → IsFitting L p seen → (row : FitRow) → IsDataRow (IsLined L) (has_highz p.opcodes) (rows p seen) row → AtBit L p seen row
at_bit has L p seen fits row d = record {
  is = d;
  net = ap (option_and_then (pin_net L.arena.lists.ports)) d.pin ∙ net_of_line L d.line d.one d.on;
  side = seen_direction has L fits.formed d.line.port d.one d.on.seen;
}

-- a site by what the row does, and by whether the core's side is the net itself
site_is : (N : NetlistView) (row : FitRow) (does : Function) (net : NetId) (core : Option Feed) (own : Bool) → row.function ≡ does → row_net N.ports row ≡ Some net → row.core ≡ core
    → is_own_net (Some net) core ≡ own → site_of N.ports row ≡ site_by does row.cell own
site_is N row does net core own a b c e =
    ap (λ (f : Function). site_by f row.cell (is_own_net (row_net N.ports row) row.core)) a
    ∙ ap (λ (n : Option NetId). site_by does row.cell (is_own_net n row.core)) b
    ∙ ap (λ (o : Option Feed). site_by does row.cell (is_own_net (Some net) o)) c
    ∙ ap (site_by does row.cell) e

input_at : (N : NetlistView) (f : Fitted) (row : FitRow) (net : NetId) (cell : BoundaryKind) → row.cell ≡ cell → row_net N.ports row ≡ Some net → direction N.ports net.0 ≡ Some dir.Input
    → site_of N.ports row ≡ input_site cell → StandsAt N f row
input_at N f row net kind.Bc1 is at side here = at_input net at side here
input_at N f row net kind.Bc2 is at side here = at_observed net at side here
input_at N f row net kind.Bc4 is at side here = at_observed net at side here
input_at N f row net kind.Bc7 is at side here = at_observed net at side here

clock_site : (N : NetlistView) (row : FitRow) (clock : Bool) (d : Option Driver) → row.function ≡ data_function dir.Input clock d → site_of N.ports row ≡ input_site row.cell
clock_site N row true d h = ap (λ (f : Function). site_by f row.cell (is_own_net (row_net N.ports row) row.core)) h
clock_site N row false d h = ap (λ (f : Function). site_by f row.cell (is_own_net (row_net N.ports row) row.core)) h

-- an output's three-state gate doesn't read the output
other_net : (L : LinkedView) → IsWellFormed L.arena.lists → (one : PinSeen) (by : DrivenAt L.arena.lists one) (d : Driver) → gate_driver by.cell.kind by.cell.feeds ≡ Some d
    → direction L.arena.lists.ports one.net.0 ≡ Some dir.Output → is_own_net (Some one.net) (Some d.core) ≡ false
other_net L formed one by d h side = apart d.core refl
  where
    apart : (core : Feed) → d.core ≡ core → is_own_net (Some one.net) (Some core) ≡ false
    apart (Const b) e = refl
    apart (Net other) e = elim (eqb_tells one.net.0 other.0) [
      | inl same ↦ absurd (
          let g = gate_is by.cell.kind by.cell.feeds d h in
          let wrap : ℕ → Feed = λ n. Net (record { 0 = n }) in
          let first : slice_get by.cell.feeds 0 ≡ Some (Net (record { 0 = one.net.0 })) =
          ap (λ (xs : List Feed). slice_get xs 0) g.are ∙ ap (λ (x : Feed). Some x) (e ∙ ap wrap (sym same.1)) in
          formed.bufif_unread by.number by.number by.cell by.cell 0 one.net.0 by.drives g.three (record { live = by.drives.live; operand = first }) side)
      | inr unlike ↦ unlike.0
    ]

own_net : (net : NetId) → is_own_net (Some net) (Some (Net net)) ≡ true
own_net net = eq-eqb net.0 net.0 refl

abbrev driver_by : (L : LinkedView) (p : Plan) (seen : List PinSeen) (row : FitRow) → AtBit L p seen row → Option Driver
driver_by L p seen row b = side_driver (has_highz p.opcodes) b.is.one b.is.one.side

output_at : (L : LinkedView) (p : Plan) (seen : List PinSeen) → IsFitting L p seen → Facts L p seen → (row : FitRow) (b : AtBit L p seen row) → b.is.one.side ≡ dir.Output
    → (by : DrivenAt L.arena.lists b.is.one) (highz : Bool) (gate : Option Driver) → gate_driver by.cell.kind by.cell.feeds ≡ gate
    → driver_by L p seen row b ≡ or_else gate (added_driver highz (Net b.is.one.net)) → StandsAt L.arena.lists (fitted_of L p seen) row
output_at L p seen fits facts row b is by highz (Some d) h driver =
    let N = L.arena.lists in
    let one = b.is.one in
    let side : direction N.ports one.net.0 ≡ Some dir.Output = b.side ∙ ap (λ (s : Dir). Some s) is in
    let does : row.function ≡ function.Output3 = b.is.does ∙ ap (λ (s : Dir). data_function s one.clock (driver_by L p seen row b)) is ∙ ap (data_function dir.Output one.clock) driver in
    let core : row.core ≡ Some d.core = b.is.core ∙ ap (λ (s : Dir). data_core one s (driver_by L p seen row b)) is ∙ ap (data_core one dir.Output) driver in
    let here = site_is N row function.Output3 one.net (Some d.core) false does b.net core (other_net L fits.formed one by d h side) in
    let controlled : Controlled (rows p seen) (Some d) row.control = subst (λ (o : Option Driver). Controlled (rows p seen) o row.control) driver b.is.controlled in
    at_driver one.net b.net side here d.operand (gate_at N one by d row.core h core) (control_of L p seen facts row d row.control refl controlled)
output_at L p seen fits facts row b is by true None h driver =
    let N = L.arena.lists in
    let one = b.is.one in
    let d : Driver = record { core = Net one.net; operand = Const true; active_high = true } in
    let side : direction N.ports one.net.0 ≡ Some dir.Output = b.side ∙ ap (λ (s : Dir). Some s) is in
    let does : row.function ≡ function.Output3 = b.is.does ∙ ap (λ (s : Dir). data_function s one.clock (driver_by L p seen row b)) is ∙ ap (data_function dir.Output one.clock) driver in
    let core : row.core ≡ Some (Net one.net) = b.is.core ∙ ap (λ (s : Dir). data_core one s (driver_by L p seen row b)) is ∙ ap (data_core one dir.Output) driver in
    let here = site_is N row function.Output3 one.net (Some (Net one.net)) true does b.net core (own_net one.net) in
    let controlled : Controlled (rows p seen) (Some d) row.control = subst (λ (o : Option Driver). Controlled (rows p seen) o row.control) driver b.is.controlled in
    at_added one.net b.net side here core
    (two_state N fits.formed by.number by.cell one.net.0 by.drives (not_three by.cell.kind (gate_driver by.cell.kind by.cell.feeds) h by.gate))
    (control_of L p seen facts row d row.control refl controlled)
output_at L p seen fits facts row b is by false None h driver =
    let N = L.arena.lists in
    let one = b.is.one in
    let side : direction N.ports one.net.0 ≡ Some dir.Output = b.side ∙ ap (λ (s : Dir). Some s) is in
    let does : row.function ≡ function.Output2 = b.is.does ∙ ap (λ (s : Dir). data_function s one.clock (driver_by L p seen row b)) is ∙ ap (data_function dir.Output one.clock) driver in
    let core : row.core ≡ Some (Net one.net) = b.is.core ∙ ap (λ (s : Dir). data_core one s (driver_by L p seen row b)) is ∙ ap (data_core one dir.Output) driver in
    let here = site_is N row function.Output2 one.net (Some (Net one.net)) true does b.net core (own_net one.net) in
    at_output one.net b.net side here core
    (two_state N fits.formed by.number by.cell one.net.0 by.drives (not_three by.cell.kind (gate_driver by.cell.kind by.cell.feeds) h by.gate))

inout_at : (L : LinkedView) (p : Plan) (seen : List PinSeen) → IsFitting L p seen → Facts L p seen → (row : FitRow) (b : AtBit L p seen row) → b.is.one.side ≡ dir.Inout
    → (by : DrivenAt L.arena.lists b.is.one) (gate : Option Driver) → gate_driver by.cell.kind by.cell.feeds ≡ gate → is_some gate ≡ true
    → driver_by L p seen row b ≡ gate → StandsAt L.arena.lists (fitted_of L p seen) row
inout_at L p seen fits facts row b is by None h some driver = absurd (cc)
inout_at L p seen fits facts row b is by (Some d) h some driver =
    let N = L.arena.lists in
    let one = b.is.one in
    let side : direction N.ports one.net.0 ≡ Some dir.Inout = b.side ∙ ap (λ (s : Dir). Some s) is in
    let does : row.function ≡ function.Bidir = b.is.does ∙ ap (λ (s : Dir). data_function s one.clock (driver_by L p seen row b)) is in
    let core : row.core ≡ Some d.core = b.is.core ∙ ap (λ (s : Dir). data_core one s (driver_by L p seen row b)) is ∙ ap (data_core one dir.Inout) driver in
    let here = site_is N row function.Bidir one.net (Some d.core) (is_own_net (Some one.net) (Some d.core)) does b.net core refl in
    let controlled : Controlled (rows p seen) (Some d) row.control = subst (λ (o : Option Driver). Controlled (rows p seen) o row.control) driver b.is.controlled in
    at_inout one.net b.net side here d.operand (gate_at N one by d row.core h core) (control_of L p seen facts row d row.control refl controlled)

bit_at : DriverIsFound → (L : LinkedView) (p : Plan) (seen : List PinSeen) → IsFitting L p seen → Facts L p seen → (row : FitRow) (b : AtBit L p seen row) (side : Dir) → b.is.one.side ≡ side
    → StandsAt L.arena.lists (fitted_of L p seen) row
bit_at found L p seen fits facts row b dir.Input is =
    let one = b.is.one in
    let does : row.function ≡ data_function dir.Input one.clock (driver_by L p seen row b) = b.is.does ∙ ap (λ (s : Dir). data_function s one.clock (driver_by L p seen row b)) is in
    input_at L.arena.lists (fitted_of L p seen) row one.net row.cell refl b.net (b.side ∙ ap (λ (s : Dir). Some s) is)
    (clock_site L.arena.lists row one.clock (driver_by L p seen row b) does)
bit_at found L p seen fits facts row b dir.Output is =
    let N = L.arena.lists in
    let one = b.is.one in
    let by = driven_at found N fits.formed one b.is.on.seen.driver (fits.formed.outputs_driven one.net.0 (b.side ∙ ap (λ (s : Dir). Some s) is)) in
    let driver : driver_by L p seen row b ≡ or_else (gate_driver by.cell.kind by.cell.feeds) (added_driver (has_highz p.opcodes) (Net one.net)) =
    ap (side_driver (has_highz p.opcodes) one) is ∙ ap (λ (o : Option CellView). or_else (three_state o) (added_driver (has_highz p.opcodes) (Net one.net))) by.is in
    output_at L p seen fits facts row b is by (has_highz p.opcodes) (gate_driver by.cell.kind by.cell.feeds) refl driver
bit_at found L p seen fits facts row b dir.Inout is =
    let N = L.arena.lists in
    let one = b.is.one in
    let side : direction N.ports one.net.0 ≡ Some dir.Inout = b.side ∙ ap (λ (s : Dir). Some s) is in
    let by = driven_at found N fits.formed one b.is.on.seen.driver (fits.formed.inouts_driven one.net.0 side) in
    let driver : driver_by L p seen row b ≡ gate_driver by.cell.kind by.cell.feeds = ap (side_driver (has_highz p.opcodes) one) is ∙ ap three_state by.is in
    inout_at L p seen fits facts row b is by (gate_driver by.cell.kind by.cell.feeds) refl (by.gate (fits.formed.inout_bufif by.number by.cell one.net.0 by.drives side)) driver

-- What a control cell takes from the core.

added_operand : (N : NetlistView) (highz : Bool) (core : Feed) (d : Driver) → added_driver highz core ≡ Some d → IsOperand N d.operand
added_operand N true core d h =
    let one : Driver = record { core = core; operand = Const true; active_high = true } in
    let same : one ≡ d = some_same one d (added_driver true core) refl h in
    is_constant true (ap (λ (x : Driver). x.operand) (sym same))
added_operand N false core d h = absurd (cc)

gate_operand : (N : NetlistView) (i : ℕ) (cell : CellView) (d : Driver) → cell_at N i ≡ Some cell → gate_driver cell.kind cell.feeds ≡ Some d → IsOperand N d.operand
gate_operand N i cell d live h =
    let g = gate_is cell.kind cell.feeds d h in
    operand_at N i cell 1 d.operand live (ap (λ (xs : List Feed). slice_get xs 1) g.are)

output_operand : (N : NetlistView) (i : ℕ) (cell : CellView) (highz : Bool) (core : Feed) (gate : Option Driver) (d : Driver) → cell_at N i ≡ Some cell
    → gate_driver cell.kind cell.feeds ≡ gate → or_else gate (added_driver highz core) ≡ Some d → IsOperand N d.operand
output_operand N i cell highz core (Some x) d live h is = gate_operand N i cell d live (h ∙ is)
output_operand N i cell highz core None d live h is = added_operand N highz core d is

side_operand : DriverIsFound → (L : LinkedView) → IsWellFormed L.arena.lists → (highz : Bool) (one : PinSeen) (side : Dir) (d : Driver) → one.driver ≡ driver_of L.arena.lists.cells one.net.0
    → direction L.arena.lists.ports one.net.0 ≡ Some side → side_driver highz one side ≡ Some d → IsOperand L.arena.lists d.operand
side_operand found L formed highz one dir.Input d seen at is = absurd (cc)
side_operand found L formed highz one dir.Output d seen at is =
    let N = L.arena.lists in
    let by = driven_at found N formed one seen (formed.outputs_driven one.net.0 at) in
    output_operand N by.number by.cell highz (Net one.net) (gate_driver by.cell.kind by.cell.feeds) d by.drives.live refl
    (sym (ap (λ (o : Option CellView). or_else (three_state o) (added_driver highz (Net one.net))) by.is) ∙ is)
side_operand found L formed highz one dir.Inout d seen at is =
    let N = L.arena.lists in
    let by = driven_at found N formed one seen (formed.inouts_driven one.net.0 at) in
    gate_operand N by.number by.cell d by.drives.live (sym (ap three_state by.is) ∙ is)

-- the control cell of a driver
record Controls (L : LinkedView) (p : Plan) (seen : List PinSeen) (row : FitRow) : Type 0 where
  operand : Feed
  core : row.core ≡ Some operand
  is : IsOperand L.arena.lists operand

controls_by : DriverIsFound → BitHasDirection → (L : LinkedView) (p : Plan) (seen : List PinSeen) → IsFitting L p seen → Facts L p seen → (k : ℕ) (row user : FitRow)
    → slice_get (rows p seen) k ≡ Some row → user.control ≡ Some k → (u : IsDataRow (IsLined L) (has_highz p.opcodes) (rows p seen) user) (o : Option Driver)
    → side_driver (has_highz p.opcodes) u.one u.one.side ≡ o → Controlled (rows p seen) o user.control → Controls L p seen row
controls_by found has L p seen fits facts k row user there names u None is none = absurd (let no : None ≡ Some k = sym none ∙ names in cc)
controls_by found has L p seen fits facts k row user there names u (Some d) is c =
    let same : c.number ≡ k = some_same c.number k user.control c.is names in
    let one : c.row ≡ row = some_same c.row row (slice_get (rows p seen) k) (ap (slice_get (rows p seen)) (sym same) ∙ c.there) there in
    let known = control_facts d c.row c.right in
    record {
      operand = d.operand;
      core = ap (λ (r : FitRow). r.core) (sym one) ∙ known.core;
      is = side_operand found L fits.formed (has_highz p.opcodes) u.one u.one.side d u.on.seen.driver (seen_direction has L fits.formed u.line.port u.one u.on.seen) is;
    }

control_at_row : DriverIsFound → BitHasDirection → (L : LinkedView) (p : Plan) (seen : List PinSeen) → IsFitting L p seen → Facts L p seen → (k : ℕ) (row : FitRow)
    → slice_get (rows p seen) k ≡ Some row → IsControlRow p.control (rows p seen) k row → Controls L p seen row
control_at_row found has L p seen fits facts k row there c = elim (facts.each c.user c.user_row c.user_there) [
  | inl u ↦ controls_by found has L p seen fits facts k row c.user_row there c.names u (side_driver (has_highz p.opcodes) u.one u.one.side) refl u.controlled
  | inr other ↦ absurd (let none = names_none p seen c.user c.user_row c.user_there other.pin in let no : None ≡ Some k = sym none ∙ c.names in cc)
]

pub stand : BitHasDirection → DriverIsFound → RowsStandSomewhere
stand has found L p seen fits k row there =
    let facts = facts_of has found L p seen fits in
    elim (facts.each k row there) [
      | inl d ↦ (let b = at_bit has L p seen fits row d in bit_at found L p seen fits facts row b b.is.one.side refl)
      | inr c ↦ (let known = control_at_row found has L p seen fits facts k row there c in
          at_control (no_pin L.arena.lists row c.pin) (control_site L.arena.lists row c.does) known.operand known.core known.is)
    ]
