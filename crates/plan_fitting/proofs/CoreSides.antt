-- What the core gives the cells of a plan that fits: the data and control operands of the drivers of their bits.
use Rattle.std.proofs.Common.{◌≡◌, ℕ, ◌&&◌, Bool, true, false, List, [], slice_get, if◌then◌else◌, Option, Some, None, refl, sym, ap, ◌∙◌, inl, inr, eqb-true}
use Rattle.std.specs.Prelude.{is_some}
use Rattle.std.specs.Option.{option_map_or}
use Rattle.list_laws.proofs.Tests.{and_right}
use Rattle.list_laws.proofs.Options.{some_same}
use Rattle.signal_values.specs.declared.Sig.{Sig}
use Rattle.signal_values.specs.declared.Sig.TheVariants.{One}
use Rattle.signal_values.specs.Values.{bit}
use Rattle.cell_library.specs.Gates.{is_three_state, operand}
use Rattle.bsdl_device.specs.RowRules.{is_function}
use Rattle.netlist_model.specs.declared.Dir.{Dir}
use Rattle.netlist_model.specs.declared.Feed.{Feed}
use Rattle.netlist_model.specs.declared.Feed.TheVariants.{Net, Const}
use Rattle.netlist_model.specs.declared.NetId.{NetId}
use Rattle.netlist_model.specs.declared.PinBit.{PinBit}
use Rattle.netlist_model.specs.Lists.{CellView, NetlistView, direction, Drives, bit_net}
use Rattle.netlist_model.specs.Settled.{feed_value, feed_values, driver_of}
use Rattle.netlist_model.specs.Formed.{IsDriven, IsWellFormed}
use Rattle.netlist_model.specs.Ports.{BitHasDirection}
use Rattle.netlist_model.specs.Drivers.{DriverIsFound, DriverDrives, IsDriverOf}
use Rattle.netlist_unlink.specs.netlist_link.Linked.{LinkedView}
use Rattle.wrapped_chip.specs.Cells.{core_datum, core_control}
use Rattle.texts.specs.First.{or_else}
use Rattle.plan_texts.specs.declared.plan.Plan.{Plan}
use Rattle.plan_fitting.specs.declared.fitted.FitRow.{FitRow}
use Rattle.plan_fitting.specs.Pins.{PinSeen}
use Rattle.plan_fitting.specs.Rows.{Driver, gate_driver, three_state, added_driver, same_bool, same_feed, controls, rows, has_highz}
use Rattle.plan_fitting.proofs.Drivers.{not_three, same_bool_is, gate_is}
use Rattle.plan_fitting.specs.DevicesLaws.{fed, RowsTakeTheCore, ControlsTakeTheCore, ControlsFollowTheirRows}
use Rattle.plan_fitting.proofs.Rows.{side_driver, data_core, Controlled, IsDataRow}
use Rattle.plan_fitting.proofs.DevicesDrivers.{seen_direction, gate_has_driver}
use Rattle.plan_fitting.proofs.Lined.{IsLined}
use Rattle.plan_fitting.proofs.DevicesFacts.{Facts, facts_of}
use Rattle.plan_fitting.proofs.RowPlaces.{net_of_line}
use Rattle.cell_library.specs.declared.codes.Function.TheVariants as function
use Rattle.netlist_model.specs.declared.Dir.TheVariants as dir

-- A three-state gate as a driver.

-- Data.

gate_datum : (value : ℕ → Sig) (cell : CellView) (net : ℕ) (d : Driver) → gate_driver cell.kind cell.feeds ≡ Some d → feed_value value d.core ≡ core_datum (Some cell) value net
gate_datum value cell net d h =
    let is = gate_is cell.kind cell.feeds d h in
    sym (ap (λ (feeds : List Feed). operand (feed_values value feeds) 0) is.are) ∙ sym (ap (λ (b : Bool). if b then operand (feed_values value cell.feeds) 0 else value net) is.three)

plain_datum : (value : ℕ → Sig) (cell : CellView) (net : ℕ) → is_three_state cell.kind ≡ false → value net ≡ core_datum (Some cell) value net
plain_datum value cell net h = sym (ap (λ (b : Bool). if b then operand (feed_values value cell.feeds) 0 else value net) h)

output_datum : (value : ℕ → Sig) (highz : Bool) (one : PinSeen) (cell : CellView) (gate : Option Driver) → gate_driver cell.kind cell.feeds ≡ gate → (is_three_state cell.kind ≡ true → is_some gate ≡ true)
    → fed value (data_core one dir.Output (or_else gate (added_driver highz (Net one.net)))) ≡ core_datum (Some cell) value one.net.0
output_datum value highz one cell (Some d) h some = gate_datum value cell one.net.0 d h
output_datum value true one cell None h some = plain_datum value cell one.net.0 (not_three cell.kind None refl some)
output_datum value false one cell None h some = plain_datum value cell one.net.0 (not_three cell.kind None refl some)

inout_datum : (value : ℕ → Sig) (one : PinSeen) (cell : CellView) (gate : Option Driver) → gate_driver cell.kind cell.feeds ≡ gate → is_some gate ≡ true
    → fed value (data_core one dir.Inout gate) ≡ core_datum (Some cell) value one.net.0
inout_datum value one cell (Some d) h some = gate_datum value cell one.net.0 d h
inout_datum value one cell None h some = absurd (cc)

-- the driver of a bit's net, if there is one, is a cell that drives it
record IsDrivenBy (N : NetlistView) (net : ℕ) (o : Option CellView) : Type 0 where
  cell : CellView
  is : o ≡ Some cell
  number : ℕ
  drives : Drives N number cell net

driven_by : DriverIsFound → (N : NetlistView) → IsWellFormed N → (net : ℕ) → IsDriven N net → IsDrivenBy N net (driver_of N.cells net)
driven_by found N formed net d = record { cell = d.cell; is = found N formed.one_driver d.number d.cell net d.drives; number = d.number; drives = d.drives }

no_driver : DriverDrives → (N : NetlistView) → IsWellFormed N → (net : ℕ) → direction N.ports net ≡ Some dir.Input → driver_of N.cells net ≡ None
no_driver drives N formed net h = by (driver_of N.cells net) (drives N net)
  where
    by : (o : Option CellView) → IsDriverOf N net o → o ≡ None
    by None d = refl
    by (Some cell) d = absurd (formed.inputs_free d.0 cell net d.1 h)

datum_at : DriverIsFound → DriverDrives → (L : LinkedView) → IsWellFormed L.arena.lists → (value : ℕ → Sig) (highz : Bool) (one : PinSeen) (side : Dir) → one.driver ≡ driver_of L.arena.lists.cells one.net.0
    → direction L.arena.lists.ports one.net.0 ≡ Some side → fed value (data_core one side (side_driver highz one side)) ≡ core_datum (driver_of L.arena.lists.cells one.net.0) value one.net.0
datum_at found drives L formed value highz one dir.Input seen at = sym (ap (λ (o : Option CellView). core_datum o value one.net.0) (no_driver drives L.arena.lists formed one.net.0 at))
datum_at found drives L formed value highz one dir.Output seen at =
    let N = L.arena.lists in
    let by = driven_by found N formed one.net.0 (formed.outputs_driven one.net.0 at) in
    ap (λ (o : Option CellView). fed value (data_core one dir.Output (or_else (three_state o) (added_driver highz (Net one.net))))) (seen ∙ by.is)
    ∙ output_datum value highz one by.cell (gate_driver by.cell.kind by.cell.feeds) refl (λ three. gate_has_driver N formed by.number by.cell one.net.0 by.drives three)
    ∙ sym (ap (λ (o : Option CellView). core_datum o value one.net.0) by.is)
datum_at found drives L formed value highz one dir.Inout seen at =
    let N = L.arena.lists in
    let by = driven_by found N formed one.net.0 (formed.inouts_driven one.net.0 at) in
    ap (λ (o : Option CellView). fed value (data_core one dir.Inout (three_state o))) (seen ∙ by.is)
    ∙ inout_datum value one by.cell (gate_driver by.cell.kind by.cell.feeds) refl (gate_has_driver N formed by.number by.cell one.net.0 by.drives (formed.inout_bufif by.number by.cell one.net.0 by.drives at))
    ∙ sym (ap (λ (o : Option CellView). core_datum o value one.net.0) by.is)

-- Levels.

gate_level : (value : ℕ → Sig) (cell : CellView) (d : Driver) → gate_driver cell.kind cell.feeds ≡ Some d → feed_value value d.operand ≡ core_control (Some cell) value
gate_level value cell d h =
    let is = gate_is cell.kind cell.feeds d h in
    sym (ap (λ (feeds : List Feed). operand (feed_values value feeds) 1) is.are) ∙ sym (ap (λ (b : Bool). if b then operand (feed_values value cell.feeds) 1 else One) is.three)

added_level : (value : ℕ → Sig) (highz : Bool) (core : Feed) (cell : CellView) (d : Driver) → is_three_state cell.kind ≡ false → added_driver highz core ≡ Some d → feed_value value d.operand ≡ core_control (Some cell) value
added_level value true core cell d three h =
    let one : Driver = record { core = core; operand = Const true; active_high = true } in
    let same : one ≡ d = some_same one d (added_driver true core) refl h in
    ap (λ (x : Driver). feed_value value x.operand) (sym same) ∙ sym (ap (λ (b : Bool). if b then operand (feed_values value cell.feeds) 1 else One) three)
added_level value false core cell d three h = absurd (cc)

output_level : (value : ℕ → Sig) (highz : Bool) (core : Feed) (cell : CellView) (gate : Option Driver) (d : Driver) → gate_driver cell.kind cell.feeds ≡ gate → (is_three_state cell.kind ≡ true → is_some gate ≡ true)
    → or_else gate (added_driver highz core) ≡ Some d → feed_value value d.operand ≡ core_control (Some cell) value
output_level value highz core cell (Some x) d h some is = gate_level value cell d (h ∙ is)
output_level value highz core cell None d h some is = added_level value highz core cell d (not_three cell.kind None refl some) is

level_at : DriverIsFound → (L : LinkedView) → IsWellFormed L.arena.lists → (value : ℕ → Sig) (highz : Bool) (one : PinSeen) (side : Dir) (d : Driver) → one.driver ≡ driver_of L.arena.lists.cells one.net.0
    → direction L.arena.lists.ports one.net.0 ≡ Some side → side_driver highz one side ≡ Some d → feed_value value d.operand ≡ core_control (driver_of L.arena.lists.cells one.net.0) value
level_at found L formed value highz one dir.Input d seen at is = absurd (cc)
level_at found L formed value highz one dir.Output d seen at is =
    let N = L.arena.lists in
    let by = driven_by found N formed one.net.0 (formed.outputs_driven one.net.0 at) in
    output_level value highz (Net one.net) by.cell (gate_driver by.cell.kind by.cell.feeds) d refl (λ three. gate_has_driver N formed by.number by.cell one.net.0 by.drives three)
    (sym (ap (λ (o : Option CellView). or_else (three_state o) (added_driver highz (Net one.net))) (seen ∙ by.is)) ∙ is)
    ∙ sym (ap (λ (o : Option CellView). core_control o value) by.is)
level_at found L formed value highz one dir.Inout d seen at is =
    let N = L.arena.lists in
    let by = driven_by found N formed one.net.0 (formed.inouts_driven one.net.0 at) in
    gate_level value by.cell d (sym (ap three_state (seen ∙ by.is)) ∙ is)
    ∙ sym (ap (λ (o : Option CellView). core_control o value) by.is)

-- The same operand has the same value.

same_feed_value : (value : ℕ → Sig) (a b : Feed) → same_feed a b ≡ true → feed_value value a ≡ feed_value value b
same_feed_value value (Net a) (Net b) h = ap value (eqb-true a.0 b.0 h)
same_feed_value value (Const a) (Const b) h = ap bit (same_bool_is a b h)
same_feed_value value (Net a) (Const b) h = absurd (cc)
same_feed_value value (Const a) (Net b) h = absurd (cc)

control_value : (value : ℕ → Sig) (d : Driver) (core : Option Feed) → option_map_or (same_feed d.operand) core false ≡ true → fed value core ≡ feed_value value d.operand
control_value value d None h = absurd (cc)
control_value value d (Some f) h = sym (same_feed_value value d.operand f h)

-- The rows.

-- the line of a row at a bit with this net
record IsLine (L : LinkedView) (p : Plan) (seen : List PinSeen) (row : FitRow) (net : NetId) : Type 0 where
  data_row : IsDataRow (IsLined L) (has_highz p.opcodes) (rows p seen) row
  same : data_row.one.net ≡ net

line_at : (L : LinkedView) (p : Plan) (seen : List PinSeen) → Facts L p seen → (number : ℕ) (row : FitRow) (pin : PinBit) (net : NetId) → slice_get (rows p seen) number ≡ Some row → row.pin ≡ Some pin
    → bit_net L.arena.lists pin.port.0 pin.bit ≡ Some net → IsLine L p seen row net
line_at L p seen facts number row pin net at is there = elim (facts.each number row at) [
  | inl d ↦ (
      let mine : d.one.pin ≡ pin = some_same d.one.pin pin row.pin d.pin is in
      record {
        data_row = d;
        same = some_same d.one.net net (bit_net L.arena.lists pin.port.0 pin.bit) (ap (λ (q : PinBit). bit_net L.arena.lists q.port.0 q.bit) (sym mine) ∙ net_of_line L d.line d.one d.on) there;
      })
  | inr c ↦ absurd (let none : None ≡ Some pin = sym c.pin ∙ is in cc)
]

pub rows_take_the_core : BitHasDirection → DriverIsFound → DriverDrives → RowsTakeTheCore
rows_take_the_core has found drives L p seen fits number row pin net at is there value =
    let line = line_at L p seen (facts_of has found L p seen fits) number row pin net at is there in
    let d = line.data_row in
    ap (fed value) d.core
    ∙ datum_at found drives L fits.formed value (has_highz p.opcodes) d.one d.one.side d.on.seen.driver (seen_direction has L fits.formed d.line.port d.one d.on.seen)
    ∙ ap (λ (n : NetId). core_datum (driver_of L.arena.lists.cells n.0) value n.0) line.same

controlled_level : DriverIsFound → (L : LinkedView) → IsWellFormed L.arena.lists → (value : ℕ → Sig) (highz : Bool) (rs : List FitRow) (one : PinSeen) (o : Option Driver) (named : Option ℕ) (number : ℕ) (control : FitRow)
    → one.driver ≡ driver_of L.arena.lists.cells one.net.0 → direction L.arena.lists.ports one.net.0 ≡ Some one.side → side_driver highz one one.side ≡ o → Controlled rs o named
    → named ≡ Some number → slice_get rs number ≡ Some control → fed value control.core ≡ core_control (driver_of L.arena.lists.cells one.net.0) value
controlled_level found L formed value highz rs one None named number control seen at is none names there = absurd (let no : None ≡ Some number = sym none ∙ names in cc)
controlled_level found L formed value highz rs one (Some d) named number control seen at is c names there =
    let same : c.number ≡ number = some_same c.number number named c.is names in
    let row : c.row ≡ control = some_same c.row control (slice_get rs number) (ap (slice_get rs) (sym same) ∙ c.there) there in
    let right : controls d control ≡ true = ap (controls d) (sym row) ∙ c.right in
    let fits : option_map_or (same_feed d.operand) control.core false ≡ true =
    and_right (is_function function.Control control.function && same_bool control.active_high d.active_high) (option_map_or (same_feed d.operand) control.core false) right in
    control_value value d control.core fits ∙ level_at found L formed value highz one one.side d seen at is

pub controls_take_the_core : BitHasDirection → DriverIsFound → ControlsTakeTheCore
controls_take_the_core has found L p seen fits number row pin net named control at is there names control_at value =
    let line = line_at L p seen (facts_of has found L p seen fits) number row pin net at is there in
    let d = line.data_row in
    controlled_level found L fits.formed value (has_highz p.opcodes) (rows p seen) d.one (side_driver (has_highz p.opcodes) d.one d.one.side) row.control named control
    d.on.seen.driver (seen_direction has L fits.formed d.line.port d.one d.on.seen) refl d.controlled names control_at
    ∙ ap (λ (n : NetId). core_control (driver_of L.arena.lists.cells n.0) value) line.same

-- Control cells behind their rows.

pub controls_follow_their_rows : BitHasDirection → DriverIsFound → ControlsFollowTheirRows
controls_follow_their_rows has found L p seen fits number row at none =
    elim ((facts_of has found L p seen fits).each number row at) [
      | inl d ↦ absurd (let no : None ≡ Some d.one.pin = sym none ∙ d.pin in cc)
      | inr c ↦ record { before = c.user; next = c.next; data_row = c.user_row; there = c.user_there; names = c.names; does = c.does; kind = c.cell }
    ]
