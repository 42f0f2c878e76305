-- Each row of the device of a plan that fits stands right.
use Rattle.std.proofs.Common.{◌≡◌, ℕ, ◌<◌, ◌==◌, ◌&&◌, Bool, true, false, not, List, map, length, slice_get, Option, Some, None, option_map, refl, sym, ap, ◌∙◌, subst, inl, inr, arith}
use Rattle.std.specs.Prelude.{◌||◌, is_none}
use Rattle.std.specs.List.{list_any, list_all}
use Rattle.std.specs.Option.{option_map_or}
use Rattle.std.proofs.lemmas.Option.{slice_get-map, slice_get_within}
use Rattle.list_laws.proofs.Tests.{and_true}
use Rattle.list_laws.proofs.Numbers.{eqb_same}
use Rattle.list_laws.proofs.Lists.{any_at, test_at}
use Rattle.cell_library.specs.declared.codes.Function.{Function}
use Rattle.cell_library.specs.declared.codes.Function.TheVariants as function
use Rattle.bsdl_device.specs.declared.values.PortMode.{PortMode}
use Rattle.bsdl_device.specs.declared.values.DevPort.{DevPort}
use Rattle.bsdl_device.specs.declared.values.DevBit.{DevBit}
use Rattle.bsdl_device.specs.declared.values.Disable.{Disable}
use Rattle.bsdl_device.specs.declared.values.CellRow.{CellRow}
use Rattle.bsdl_device.specs.declared.values.Device.{Device}
use Rattle.bsdl_device.specs.Ports.{has_bit, is_mode}
use Rattle.bsdl_device.specs.RowRules.{is_function}
use Rattle.bsdl_device.specs.IsDevice.{suits, wanted_mode, is_tap_place, tap_places, is_bit_of, disable_right, names_control, IsDeviceRow}
use Rattle.netlist_model.specs.declared.Dir.{Dir}
use Rattle.netlist_model.specs.declared.Dir.TheVariants as dir
use Rattle.netlist_model.specs.declared.PinBit.{PinBit}
use Rattle.netlist_model.specs.declared.Range.{Range}
use Rattle.netlist_model.specs.Formed.{width_of}
use Rattle.netlist_unlink.specs.netlist_link.Linked.{LinkedView, own_ports}
use Rattle.netlist_unlink.specs.netlist_link.WellNamed.{index_from}
use Rattle.plan_texts.specs.declared.plan.Plan.{Plan}
use Rattle.plan_texts.specs.declared.plan.PinLine.{PinLine}
use Rattle.plan_texts.specs.Grammar.{IsControl}
use Rattle.plan_fitting.specs.declared.fitted.FitRow.{FitRow}
use Rattle.plan_fitting.specs.Pins.{PinSeen}
use Rattle.plan_fitting.specs.Rows.{Driver, rows, has_highz}
use Rattle.plan_fitting.specs.Devices.{mode_of_side, fit_port, fitted_of, dev_port, dev_bit, disable_by, cell_row, device_of}
use Rattle.plan_fitting.specs.FittingPlan.{HasWidths}
use Rattle.plan_fitting.proofs.Rows.{side_driver, data_function, IsDataRow, IsControlRow, Each}
use Rattle.plan_fitting.proofs.Lined.{IsLined, clocks_control, suits_data, suits_control}
use Rattle.plan_fitting.proofs.Indices.{IsBit, bit_there, range_there, dev_port_at, count_of_own, has_index}
use Rattle.plan_fitting.proofs.DeviceTap.{none_same}

pub mapped_at : {X Y : Type 0} (g : X → Y) (xs : List X) (k : ℕ) (y : Y) → slice_get (map g xs) k ≡ Some y → (x : X) × (slice_get xs k ≡ Some x) × (g x ≡ y)
mapped_at {X = X} {Y = Y} g xs k y h = by (slice_get xs k) refl (sym (slice_get-map g xs k) ∙ h)
  where
    by : (o : Option X) → slice_get xs k ≡ o → option_map g o ≡ Some y → (x : X) × (slice_get xs k ≡ Some x) × (g x ≡ y)
    by None e f = absurd (cc)
    by (Some x) e f = (x, e, cc)

-- Bits.

unfoldable pub lined_bit : (L : LinkedView) → HasWidths L.arena.lists → (line : PinLine) (one : PinSeen) → IsLined L line one → IsBit L one.pin
lined_bit L wide line one is =
    let inside : one.pin.bit < length is.seen.port.nets = slice_get_within is.seen.port.nets one.pin.bit one.net is.seen.net in
    let many : length is.seen.port.nets ≡ width_of is.seen.port.range = wide one.pin.port.0 is.seen.port is.seen.there in
    record { port = is.seen.port; there = is.seen.there; own = is.seen.named.1; within = omega arith }

same_mode : (side : Dir) → is_mode (mode_of_side side) (mode_of_side side) ≡ true
same_mode dir.Input = refl
same_mode dir.Output = refl
same_mode dir.Inout = refl

-- a place of the netlist's own ports
pub no_tap : (L : LinkedView) (p : Plan) (seen : List PinSeen) (k : ℕ) → k < length (own_ports L) → is_tap_place (device_of L p seen) k ≡ false
no_tap L p seen k low =
    let many : length (fitted_of L p seen).ports ≡ length (own_ports L) = count_of_own L p seen in
    none_same k (tap_places (device_of L p seen)) (omega arith, (omega arith, (omega arith, (omega arith, (omega arith, tt)))))

bit_stands : (L : LinkedView) (p : Plan) (seen : List PinSeen) (pin : PinBit) (b : IsBit L pin) (side : Dir) → side ≡ b.port.dir → is_bit_of (device_of L p seen) (mode_of_side side) (dev_bit (fitted_of L p seen) pin) ≡ true
bit_stands L p seen pin b side is =
    let d = device_of L p seen in
    let f = fitted_of L p seen in
    let q = dev_port (fit_port L p seen (pin.port.0, b.port)) in
    let there = bit_there L pin b in
    let inside : pin.port.0 < length (own_ports L) = slice_get_within (own_ports L) pin.port.0 b.port there in
    ap (λ (o : Option DevPort). option_map_or (λ (x : DevPort). has_bit x.range (dev_bit f pin).index && not (is_tap_place d pin.port.0) && is_mode (mode_of_side side) x.mode) o false) (dev_port_at L p seen pin.port.0 b.port there)
    ∙ and_true (has_bit q.range (dev_bit f pin).index && not (is_tap_place d pin.port.0)) (is_mode (mode_of_side side) q.mode)
    (and_true (has_bit q.range (dev_bit f pin).index) (not (is_tap_place d pin.port.0))
    (ap (λ (r : Option Range). has_bit q.range (index_from r pin.bit)) (range_there L p seen pin b) ∙ has_index b.port.range pin.bit b.within)
    (ap not (no_tap L p seen pin.port.0 inside)))
    (ap (λ (s : Dir). is_mode (mode_of_side side) (mode_of_side s)) (sym is) ∙ same_mode side)

-- Data cells.

data_mode : (side : Dir) (clock : Bool) (d : Option Driver) → wanted_mode (data_function side clock d) ≡ Some (mode_of_side side)
data_mode dir.Input true d = refl
data_mode dir.Input false d = refl
data_mode dir.Output clock None = refl
data_mode dir.Output clock (Some d) = refl
data_mode dir.Inout clock d = refl

no_control : (side : Dir) (clock : Bool) (d : Option Driver) → is_function function.Control (data_function side clock d) ≡ false
no_control dir.Input true d = refl
no_control dir.Input false d = refl
no_control dir.Output clock None = refl
no_control dir.Output clock (Some d) = refl
no_control dir.Inout clock d = refl

abbrev stands_by : Device → Option PortMode → Option DevBit → Bool
stands_by d wanted pin = option_map_or (λ w. option_map_or (is_bit_of d w) pin false) wanted (is_none pin)

right_data : (L : LinkedView) (p : Plan) (seen : List PinSeen) (k : ℕ) (r : FitRow) → HasWidths L.arena.lists → disable_right (device_of L p seen).cells (cell_row (fitted_of L p seen) r) ≡ true
    → IsDataRow (IsLined L) (has_highz p.opcodes) (rows p seen) r → IsDeviceRow (device_of L p seen) k (cell_row (fitted_of L p seen) r)
unfolding lined_bit
right_data L p seen k r wide disabled is =
    let d = device_of L p seen in
    let f = fitted_of L p seen in
    let does = data_function is.one.side is.one.clock (side_driver (has_highz p.opcodes) is.one is.one.side) in
    let b = lined_bit L wide is.line is.one is.on in
    record {
      cell = ap (λ (x : Function). suits x r.cell) is.does ∙ ap (suits does) is.cell
          ∙ suits_data is.line.cell is.one.side is.one.clock is.one.control (side_driver (has_highz p.opcodes) is.one is.one.side) (clocks_control L is.line.port is.one is.on.seen) is.on.fit;
      pin = ap (λ (x : Function). stands_by d (wanted_mode x) (option_map (dev_bit f) r.pin)) is.does
          ∙ ap (λ (m : Option PortMode). stands_by d m (option_map (dev_bit f) r.pin)) (data_mode is.one.side is.one.clock (side_driver (has_highz p.opcodes) is.one is.one.side))
          ∙ ap (λ (x : Option PinBit). stands_by d (Some (mode_of_side is.one.side)) (option_map (dev_bit f) x)) is.pin
          ∙ bit_stands L p seen is.one.pin b is.one.side is.on.seen.side;
      disable = disabled;
      used = ap (λ (x : Function). not (is_function function.Control x) || list_any (names_control k) d.cells) is.does
          ∙ ap (λ (c : Bool). not c || list_any (names_control k) d.cells) (no_control is.one.side is.one.clock (side_driver (has_highz p.opcodes) is.one is.one.side));
    }

-- Control cells.

right_control : (L : LinkedView) (p : Plan) (seen : List PinSeen) (k : ℕ) (r : FitRow) → IsControl p.control → disable_right (device_of L p seen).cells (cell_row (fitted_of L p seen) r) ≡ true
    → IsControlRow p.control (rows p seen) k r → IsDeviceRow (device_of L p seen) k (cell_row (fitted_of L p seen) r)
right_control L p seen k r kind disabled is =
    let d = device_of L p seen in
    let f = fitted_of L p seen in
    let user : slice_get d.cells is.user ≡ Some (cell_row f is.user_row) = slice_get-map (cell_row f) (rows p seen) is.user ∙ ap (option_map (cell_row f)) is.user_there in
    let names : names_control k (cell_row f is.user_row) ≡ true = ap (λ (n : Option ℕ). option_map_or (λ (x : Disable). x.control == k) (option_map (disable_by (rows p seen)) n) false) is.names ∙ eqb_same k in
    record {
      cell = ap (λ (x : Function). suits x r.cell) is.does ∙ ap (suits function.Control) is.cell ∙ suits_control p.control kind;
      pin = ap (λ (x : Function). stands_by d (wanted_mode x) (option_map (dev_bit f) r.pin)) is.does ∙ ap (λ (x : Option PinBit). is_none (option_map (dev_bit f) x)) is.pin;
      disable = disabled;
      used = ap (λ (x : Function). not (is_function function.Control x) || list_any (names_control k) d.cells) is.does ∙ any_at (names_control k) d.cells is.user (cell_row f is.user_row) user names;
    }

pub right_row : (L : LinkedView) (p : Plan) (seen : List PinSeen) → HasWidths L.arena.lists → IsControl p.control → list_all (disable_right (device_of L p seen).cells) (device_of L p seen).cells ≡ true
    → Each (IsLined L) p.control (has_highz p.opcodes) (rows p seen) → (k : ℕ) (row : CellRow) → slice_get (device_of L p seen).cells k ≡ Some row → IsDeviceRow (device_of L p seen) k row
right_row L p seen wide kind disabled each k row there =
    let d = device_of L p seen in
    let f = fitted_of L p seen in
    let at = mapped_at (cell_row f) (rows p seen) k row there in
    let right : disable_right d.cells (cell_row f at.0) ≡ true = ap (disable_right d.cells) at.2 ∙ test_at (disable_right d.cells) d.cells k row disabled there in
    subst (λ (x : CellRow). IsDeviceRow d k x) at.2 (elim (each k at.0 at.1) [
      | inl data_row ↦ right_data L p seen k at.0 wide right data_row
      | inr control_row ↦ right_control L p seen k at.0 kind right control_row
    ])
