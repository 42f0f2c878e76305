-- The rows of a plan that fits: their bits, and the control cells that they name.
use Rattle.std.proofs.Common.{◌≡◌, ℕ, zero, suc, ◌&&◌, Bool, true, not, List, [], ◌∷◌, map, slice_get, Option, Some, None, option_map, refl, sym, ap, ◌∙◌, subst, inl, inr}
use Rattle.std.specs.Prelude.{option_and_then}
use Rattle.std.specs.Option.{IsSome, MatchOption, option_map_or}
use Rattle.std.specs.List.{list_all}
use Rattle.list_laws.proofs.Tests.{and_left, and_right}
use Rattle.list_laws.proofs.Options.{some_same}
use Rattle.cell_library.specs.declared.codes.Function.TheVariants as function
use Rattle.bsdl_device.specs.declared.values.CellRow.{CellRow}
use Rattle.bsdl_device.specs.declared.values.Disable.{Disable}
use Rattle.bsdl_device.specs.IsDevice.{is_disabled, is_control_at, disable_right}
use Rattle.netlist_model.specs.declared.NetId.{NetId}
use Rattle.netlist_model.specs.declared.PinBit.{PinBit}
use Rattle.netlist_model.specs.Lists.{NetlistView, bit_net}
use Rattle.netlist_model.proofs.Ports.{bit_has_direction}
use Rattle.netlist_model.proofs.Inside.{driver_found}
use Rattle.netlist_link.specs.Linked.{LinkedView}
use Rattle.wrapped_chip.specs.Cells.{Numbered, row_of}
use Rattle.plan_texts.specs.declared.plan.Plan.{Plan}
use Rattle.core_sides.specs.plan_fitting.declared.fitted.FitRow.{FitRow}
use Rattle.core_sides.specs.plan_fitting.declared.fitted.Fitted.{Fitted}
use Rattle.core_sides.specs.plan_fitting.Pins.{PinSeen}
use Rattle.core_sides.specs.plan_fitting.Rows.{rows, has_highz}
use Rattle.core_sides.specs.plan_fitting.Devices.{fitted_of, cell_row, disable_by, device_of}
use Rattle.core_sides.proofs.plan_fitting.Controls.{control_cells_are_there, control_is}
use Rattle.core_sides.specs.plan_fitting.FittingPlan.{IsFitting}
use Rattle.core_sides.proofs.plan_fitting.Lined.{IsLined}
use Rattle.core_sides.proofs.plan_fitting.Rows.{IsDataRow}
use Rattle.core_sides.proofs.plan_fitting.RowPlaces.{rows_stand_at_bits, net_of_line}
use Rattle.core_sides.proofs.plan_fitting.DevicesFacts.{Facts}
use Rattle.core_sides.specs.stitched_netlist.Sites.{pin_net, row_net}
use Rattle.core_sides.specs.Pins.{IsPinThere}
use Rattle.core_sides.specs.Ready.{IsControlAt, HasControl}

-- The bit of a row.

-- what has the row's net
pub row_bit : (N : NetlistView) (row : FitRow) (net : NetId) → row_net N.ports row ≡ Some net → (pin : PinBit) × (row.pin ≡ Some pin) × (bit_net N pin.port.0 pin.bit ≡ Some net)
row_bit N row net e = by row.pin refl e
  where
    by : (found : Option PinBit) → row.pin ≡ found → option_and_then (pin_net N.ports) found ≡ Some net → (pin : PinBit) × (row.pin ≡ Some pin) × (bit_net N pin.port.0 pin.bit ≡ Some net)
    by None is at = absurd (cc)
    by (Some pin) is at = (pin, is, at)

-- two rows at one net are one
pub one_row_a_net : (L : LinkedView) (p : Plan) (seen : List PinSeen) → IsFitting L p seen → (j k : ℕ) (one other : FitRow) (net : NetId) → slice_get (rows p seen) j ≡ Some one
    → slice_get (rows p seen) k ≡ Some other → row_net L.arena.lists.ports one ≡ Some net → row_net L.arena.lists.ports other ≡ Some net → j ≡ k
one_row_a_net L p seen fits j k one other net at there has too =
    let a = row_bit L.arena.lists one net has in
    let b = row_bit L.arena.lists other net too in
    let first = rows_stand_at_bits bit_has_direction driver_found L p seen fits j one a.0 at a.1 in
    let second = rows_stand_at_bits bit_has_direction driver_found L p seen fits k other b.0 there b.1 in
    let mine = some_same first.net net (bit_net L.arena.lists a.0.port.0 a.0.bit) first.at a.2 in
    let yours = some_same second.net net (bit_net L.arena.lists b.0.port.0 b.0.bit) second.at b.2 in
    let same : first.net ≡ second.net = mine ∙ sym yours in
    let found = sym first.found ∙ (ap (λ (n : NetId). row_of (device_of L p seen) L.arena.lists n.0) same ∙ second.found) in
    ap number found
  where
    number : Option Numbered → ℕ
    number None = 0
    number (Some found) = found.number

-- the net of the bit that a data row's line names
pub net_of_data_row : (L : LinkedView) (p : Plan) (seen : List PinSeen) (row : FitRow) (d : IsDataRow (IsLined L) (has_highz p.opcodes) (rows p seen) row)
    → row_net L.arena.lists.ports row ≡ Some d.one.net
net_of_data_row L p seen row d = ap (option_and_then (pin_net L.arena.lists.ports)) d.pin ∙ net_of_line L d.line d.one d.on

pub pin_is_there : (L : LinkedView) (p : Plan) (seen : List PinSeen) → Facts L p seen → (k : ℕ) (row : FitRow) → slice_get (rows p seen) k ≡ Some row → IsPinThere L.arena.lists.ports row
pin_is_there L p seen facts k row at = elim (facts.each k row at) [
  | inl d ↦ there d.one.pin d.pin (rw (net_of_line L d.line d.one d.on) refl)
  | inr c ↦ subst (λ (pin : Option PinBit). MatchOption pin (Unit {0}) (λ found. IsSome (pin_net L.arena.lists.ports found))) (sym c.pin) tt
]
  where
    there : (pin : PinBit) → row.pin ≡ Some pin → IsSome (pin_net L.arena.lists.ports pin) → IsPinThere L.arena.lists.ports row
    there pin is some = subst (λ (found : Option PinBit). MatchOption found (Unit {0}) (λ bit. IsSome (pin_net L.arena.lists.ports bit))) (sym is) some

-- Control cells.

pub all_at : (test : CellRow → Bool) (f : Fitted) (rs : List FitRow) (k : ℕ) (row : FitRow) → list_all test (map (cell_row f) rs) ≡ true → slice_get rs k ≡ Some row → test (cell_row f row) ≡ true
all_at test f [] k row all at = absurd (cc)
all_at test f (r ∷ rs) zero row all at =
    let same : r ≡ row = cc in
    ap (λ (x : FitRow). test (cell_row f x)) (sym same) ∙ and_left (test (cell_row f r)) (list_all test (map (cell_row f) rs)) all
all_at test f (r ∷ rs) (suc k) row all at = all_at test f rs k row (and_right (test (cell_row f r)) (list_all test (map (cell_row f) rs)) all) at

control_among : (f : Fitted) (rs : List FitRow) (number : ℕ) → is_control_at (map (cell_row f) rs) number ≡ true → IsControlAt rs number
control_among f [] number e = absurd (cc)
control_among f (r ∷ rs) zero e = record { row = r; there = refl; does = control_is r.function e }
control_among f (r ∷ rs) (suc number) e =
    let more = control_among f rs number e in record { row = more.row; there = more.there; does = more.does }

pub control_is_there : (L : LinkedView) (p : Plan) (seen : List PinSeen) (k : ℕ) (row : FitRow) → slice_get (rows p seen) k ≡ Some row → HasControl (rows p seen) row
control_is_there L p seen k row at =
    by row.control (all_at (disable_right (device_of L p seen).cells) (fitted_of L p seen) (rows p seen) k row (control_cells_are_there L p seen) at)
  where
    by : (control : Option ℕ) → option_map_or (λ (d : Disable). is_disabled row.function && is_control_at (device_of L p seen).cells d.control) (option_map (disable_by (rows p seen)) control)
        (not (is_disabled row.function)) ≡ true
        → MatchOption control (Unit {0}) (IsControlAt (rows p seen))
    by None right = tt
    by (Some number) right =
        control_among (fitted_of L p seen) (rows p seen) number (and_right (is_disabled row.function) (is_control_at (device_of L p seen).cells number) right)
