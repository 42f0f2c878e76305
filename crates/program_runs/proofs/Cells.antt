-- What a device's cells capture and read by themselves, with the core's values of a moment of the chip, is what they do around the netlist.
use Rattle.std.proofs.Common.{◌≡◌, ℕ, suc, ◌+◌, Bool, true, false, List, [], ◌∷◌, map, slice_get, Option, Some, None, option_map, refl, sym, ap, ◌∙◌, arith}
use Rattle.std.specs.Prelude.{option_and_then}
use Rattle.std.specs.List.{enumerate_from}
use Rattle.std.specs.Option.{option_map_or}
use Rattle.signal_values.specs.declared.Sig.{Sig}
use Rattle.signal_values.specs.declared.Sig.TheVariants.{Unknown}
use Rattle.signal_values.specs.declared.PinSig.{PinSig}
use Rattle.signal_values.specs.declared.PinSig.TheVariants as pin
use Rattle.signal_values.specs.Values.{see}
use Rattle.cell_library.specs.declared.codes.BoundaryKind.{BoundaryKind}
use Rattle.cell_library.specs.declared.codes.BoundaryKind.TheVariants.{Bc1, Bc2, Bc4, Bc7}
use Rattle.cell_library.specs.declared.codes.Function.{Function}
use Rattle.cell_library.specs.declared.codes.Function.TheVariants as function
use Rattle.cell_library.specs.declared.codes.Instr.{Instr}
use Rattle.netlist_model.specs.declared.NetId.{NetId}
use Rattle.netlist_model.specs.Lists.{NetlistView}
use Rattle.test_logic.specs.declared.Mode.{Mode}
use Rattle.test_logic.specs.Instructions.{mode_of, is_extest}
use Rattle.test_logic.specs.Machine.{in_effect, test_logic_of, update_of}
use Rattle.test_logic.specs.Rows.{ControlAt, CellAt, row_reading, output_captured, row_captured}
use Rattle.bsdl_device.specs.declared.values.Disable.{Disable}
use Rattle.bsdl_device.specs.declared.values.CellRow.{CellRow}
use Rattle.bsdl_device.specs.declared.values.Device.{Device}
use Rattle.wrapped_chip.specs.Cells.{net_of_bit, net_of_row, shared_control, bit_cell_at, cell_at_net, captured_from, captured, reading_by, chip_reading}
use Rattle.wrapped_chip.specs.ChipRuns.{ChipMoment}
use Rattle.scan_programs.specs.Cells.{Core, outside_at, cell_at, captured_at, reading}
use Rattle.scan_programs.specs.Cells as alone
use Rattle.scan_programs.proofs.Opened.{captured_is}
use Rattle.program_runs.specs.Around.{StandsAtNet, StandsAtNone}

-- What the core gives.

abbrev datum_at : Device → NetlistView → ChipMoment → ℕ → Option CellRow → Sig
datum_at B N w number row = option_map_or (λ (r : CellRow). (cell_at_net N w.machine w.pins w.value B.cells number r (net_of_row N r)).core) row Unknown

abbrev control_at : NetlistView → (ℕ → Sig) → Option CellRow → Sig
control_at N value row = option_map_or (λ (r : CellRow). shared_control N value (net_of_row N r)) row Unknown

-- the core of the chip at a moment, as the cells see it
abbrev pub core_of : Device → NetlistView → ChipMoment → Core
core_of B N w = record { datum = λ number. datum_at B N w number (slice_get B.cells number); control = λ number. control_at N w.value (slice_get B.cells number) }

-- Where something else is outside.

abbrev with_outside : CellAt → PinSig → CellAt
with_outside c outside = record { upd = c.upd; core = c.core; control = c.control; outside = outside }

abbrev pub takes_outside : Function → Bool
takes_outside function.Input = true
takes_outside function.Clock = true
takes_outside function.Bidir = true
takes_outside _ = false

output_same : (cell : BoundaryKind) (extest : Bool) (c d : CellAt) → c.upd ≡ d.upd → c.core ≡ d.core → output_captured cell extest c ≡ output_captured cell extest d
output_same Bc1 extest c d upd core = core
output_same Bc2 true c d upd core = upd
output_same Bc2 false c d upd core = core
output_same Bc4 extest c d upd core = core
output_same Bc7 extest c d upd core = core

captured_outside : (cell : BoundaryKind) (does : Function) (instruction : Instr) (c : CellAt) (outside : PinSig) → (takes_outside does ≡ true → outside ≡ c.outside)
    → row_captured cell does instruction (with_outside c outside) ≡ row_captured cell does instruction c
captured_outside cell function.Input instruction c outside h = ap see (h refl)
captured_outside cell function.Clock instruction c outside h = ap see (h refl)
captured_outside cell function.Bidir instruction c outside h = ap (λ (o : PinSig). row_captured cell function.Bidir instruction (with_outside c o)) (h refl)
captured_outside cell function.Output2 instruction c outside h = output_same cell (is_extest instruction) (with_outside c outside) c refl refl
captured_outside cell function.Output3 instruction c outside h = output_same cell (is_extest instruction) (with_outside c outside) c refl refl
captured_outside cell function.Control instruction c outside h = output_same cell (is_extest instruction) (with_outside c outside) c refl refl

reading_outside : (does : Function) (mode : Mode) (c : CellAt) (outside : PinSig) → (takes_outside does ≡ true → outside ≡ c.outside)
    → row_reading does mode (with_outside c outside) ≡ row_reading does mode c
reading_outside function.Input mode c outside h = h refl
reading_outside function.Clock mode c outside h = h refl
reading_outside function.Bidir mode c outside h = ap (λ (o : PinSig). row_reading function.Bidir mode (with_outside c o)) (h refl)
reading_outside function.Output2 mode c outside h = refl
reading_outside function.Output3 mode c outside h = refl
reading_outside function.Control mode c outside h = refl

-- A cell at a bit.

-- what stands at the cell by itself, by the core's value and the core's control
abbrev made : Device → ChipMoment → ℕ → CellRow → Sig → Sig → CellAt
made B w number row datum control = record {
  upd = update_of w.machine number;
  core = datum;
  control = option_map (λ (d : Disable). let c : ControlAt = record { disable = d.value; upd = update_of w.machine d.control; core = control } in c) row.disable;
  outside = outside_at row.function;
}

-- what is outside the cell's bit is what a program leaves there
abbrev pub IsOutside : ChipMoment → ℕ → CellRow → Type 0
IsOutside w net row = takes_outside row.function ≡ true → outside_at row.function ≡ w.pins net

at_bit : (B : Device) (N : NetlistView) (w : ChipMoment) (number : ℕ) (row : CellRow) (net : NetId) → slice_get B.cells number ≡ Some row → net_of_row N row ≡ Some net
    → cell_at w.machine (core_of B N w) number row ≡ with_outside (bit_cell_at N w.machine w.pins w.value net.0 number row) (outside_at row.function)
at_bit B N w number row net there at =
    ap (λ (o : Option CellRow). made B w number row (datum_at B N w number o) (control_at N w.value o)) there
    ∙ ap (λ (n : Option NetId). made B w number row (cell_at_net N w.machine w.pins w.value B.cells number row n).core (shared_control N w.value n)) at

abbrev effect : Device → ChipMoment → Instr
effect B w = in_effect (test_logic_of B) w.machine

-- what the cell captures around the netlist
abbrev around_captured : Device → NetlistView → ChipMoment → ℕ → CellRow → Option NetId → Sig
around_captured B N w number row net = row_captured row.cell row.function (effect B w) (cell_at_net N w.machine w.pins w.value B.cells number row net)

pub captured_at_bit : (B : Device) (N : NetlistView) (w : ChipMoment) (number : ℕ) (row : CellRow) (stands : StandsAtNet B N number row) → slice_get B.cells number ≡ Some row
    → IsOutside w stands.net.0 row → captured_at B w.machine (core_of B N w) (number, row) ≡ around_captured B N w number row (net_of_row N row)
captured_at_bit B N w number row stands there outside =
    ap (row_captured row.cell row.function (effect B w)) (at_bit B N w number row stands.net there stands.at)
    ∙ captured_outside row.cell row.function (effect B w) (bit_cell_at N w.machine w.pins w.value stands.net.0 number row) (outside_at row.function) outside
    ∙ sym (ap (around_captured B N w number row) stands.at)

-- a control cell's
control_captured : (B : Device) (w : ChipMoment) (cell : BoundaryKind) (does : Function) (c d : CellAt) → does ≡ function.Control → c.upd ≡ d.upd → c.core ≡ d.core
    → row_captured cell does (effect B w) c ≡ row_captured cell does (effect B w) d
control_captured B w cell does c d is upd core = rw is (output_same cell (is_extest (effect B w)) c d upd core)

pub captured_at_none : (B : Device) (N : NetlistView) (w : ChipMoment) (number : ℕ) (row : CellRow) → StandsAtNone row → slice_get B.cells number ≡ Some row
    → captured_at B w.machine (core_of B N w) (number, row) ≡ around_captured B N w number row (net_of_row N row)
captured_at_none B N w number row stands there =
    let none : net_of_row N row ≡ None = ap (option_and_then (net_of_bit N)) stands.pin in
    control_captured B w row.cell row.function (cell_at w.machine (core_of B N w) number row) (cell_at_net N w.machine w.pins w.value B.cells number row (net_of_row N row)) stands.does
    (sym (ap (λ (n : Option NetId). (cell_at_net N w.machine w.pins w.value B.cells number row n).upd) none))
    (ap (datum_at B N w number) there)

-- All cells.

-- each cell captures by itself what it captures around the netlist
abbrev pub CapturesSame : Device → NetlistView → ChipMoment → Type 0
CapturesSame B N w = (number : ℕ) (row : CellRow) → slice_get B.cells number ≡ Some row
    → captured_at B w.machine (core_of B N w) (number, row) ≡ around_captured B N w number row (net_of_row N row)

two_same : (x y : Sig) (xs ys : List Sig) → x ≡ y → xs ≡ ys → x ∷ xs ≡ y ∷ ys
two_same x y xs ys e f = cc

captured_from_same : (B : Device) (N : NetlistView) (w : ChipMoment) (number : ℕ) (rows : List CellRow) → CapturesSame B N w
    → ((k : ℕ) (row : CellRow) → slice_get rows k ≡ Some row → slice_get B.cells (number + k) ≡ Some row)
    → map (captured_at B w.machine (core_of B N w)) (enumerate_from number rows) ≡ captured_from B N w.machine w.pins w.value number rows
captured_from_same B N w number [] same there = refl
captured_from_same B N w number (row ∷ rows) same there =
    let here : slice_get B.cells number ≡ Some row = ap (slice_get B.cells) (let e : number ≡ number + 0 = omega arith in e) ∙ there 0 row refl in
    let next : number + 1 ≡ suc number = omega arith in
    two_same _ _ _ _ (same number row here)
    (captured_from_same B N w (number + 1) rows same (λ k r at. ap (slice_get B.cells) (let e : number + 1 + k ≡ number + suc k = omega arith in e) ∙ there (suc k) r at)
    ∙ ap (λ (n : ℕ). captured_from B N w.machine w.pins w.value n rows) next)

-- what the cells capture by themselves is what they capture around the netlist
pub captured_same : (B : Device) (N : NetlistView) (w : ChipMoment) → CapturesSame B N w → alone.captured B w.machine (core_of B N w) ≡ captured B N w.machine w.pins w.value
unfolding captured
captured_same B N w same =
    captured_is B w.machine (core_of B N w)
    ∙ captured_from_same B N w 0 B.cells same (λ k row at. ap (slice_get B.cells) (let e : 0 + k ≡ k = omega arith in e) ∙ at)

-- what the pin of a cell reads by itself is what its bit reads on the chip
pub reading_same : (B : Device) (N : NetlistView) (w : ChipMoment) (number : ℕ) (row : CellRow) (stands : StandsAtNet B N number row) → slice_get B.cells number ≡ Some row
    → IsOutside w stands.net.0 row → chip_reading B N w.machine w.pins w.value stands.net.0 ≡ reading B w.machine (core_of B N w) number
reading_same B N w number row stands there outside =
    let mode = mode_of (effect B w) in
    ap (reading_by B N w.machine w.pins w.value stands.net.0) stands.found
    ∙ sym (reading_outside row.function mode (bit_cell_at N w.machine w.pins w.value stands.net.0 number row) (outside_at row.function) outside)
    ∙ sym (ap (row_reading row.function mode) (at_bit B N w number row stands.net there stands.at))
    ∙ sym (ap (λ (o : Option CellRow). option_map_or (λ (r : CellRow). row_reading r.function mode (cell_at w.machine (core_of B N w) number r)) o pin.Unknown) there)
