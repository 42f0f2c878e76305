-- The device of a plan that fits stands around the netlist.
use Rattle.std.proofs.Common.{◌≡◌, ◌⊎◌, ℕ, suc, ◌<◌, ◌≤◌, Bool, true, false, List, [], ◌∷◌, slice_get, if◌then◌else◌, Option, Some, None, option_map, refl, sym, ap, ◌∙◌, subst, inl, inr, eqb-true}
use Rattle.std.specs.Option.{option_map_or}
use Rattle.std.proofs.lemmas.Bool.{cases_lt}
use Rattle.std.proofs.lemmas.Option.{slice_get-map}
use Rattle.list_laws.proofs.Options.{some_same}
use Rattle.netlist_model.specs.declared.NetId.{NetId}
use Rattle.netlist_model.specs.declared.PinBit.{PinBit}
use Rattle.netlist_model.specs.Lists.{PortView, NetlistView}
use Rattle.netlist_link.specs.Linked.{LinkedView}
use Rattle.bsdl_device.specs.declared.values.DevBit.{DevBit}
use Rattle.bsdl_device.specs.declared.values.DevPort.{DevPort}
use Rattle.bsdl_device.specs.declared.values.CellRow.{CellRow}
use Rattle.bsdl_device.specs.declared.values.Device.{Device}
use Rattle.test_logic.specs.declared.TapInput.{TapInput}
use Rattle.test_logic.specs.declared.TapInput.TheVariants.{Tck, Tms, Tdi, Trst}
use Rattle.wrapped_chip.specs.Cells.{is_net, net_of_row, Numbered, row_from, row_of}
use Rattle.wrapped_chip.specs.Realises.{tap_place}
use Rattle.plan_texts.specs.declared.plan.Plan.{Plan}
use Rattle.plan_texts.specs.declared.plan.TapLine.{TapLine}
use Rattle.plan_fitting.specs.declared.fitted.FitRow.{FitRow}
use Rattle.plan_fitting.specs.Pins.{PinSeen}
use Rattle.plan_fitting.specs.Rows.{rows}
use Rattle.plan_fitting.specs.Fits.{tap_lines}
use Rattle.plan_fitting.specs.Devices.{mode_of_side, fitted_of, dev_bit, cell_row, device_of}
use Rattle.plan_fitting.specs.FittingPlan.{IsFitting}
use Rattle.plan_fitting.specs.DevicesLaws.{HasPorts, HasTapPlaces, DevicesHavePorts, RowsStandAtBits, HiddenBitsHaveNone, IsBehindItsRow, ControlsFollowTheirRows, TapNamesAreNew}
use Rattle.scan_programs.specs.Pins.{port_word}
use Rattle.scan_programs.specs.Met.{input_place}
use Rattle.program_runs.specs.Around.{StandsAtNet, StandsAtNone}
use Rattle.program_runs.specs.Laws.{PlansStandAround}

-- Cells.

found_by : (N : NetlistView) (net number : ℕ) (row : CellRow) (rows : List CellRow) (r : Numbered) (b : Bool) → is_net net (net_of_row N row) ≡ b
    → (row_from N net (suc number) rows ≡ Some r → is_net net (net_of_row N r.row) ≡ true)
    → (if b then Some (let one : Numbered = record { number = number; row = row } in one) else row_from N net (suc number) rows) ≡ Some r → is_net net (net_of_row N r.row) ≡ true
found_by N net number row rows r false e more h = more h
found_by N net number row rows r true e more h =
    let same : (let one : Numbered = record { number = number; row = row } in one) ≡ r = cc in
    ap (λ (n : Numbered). is_net net (net_of_row N n.row)) (sym same) ∙ e

found_from : (N : NetlistView) (net number : ℕ) (rows : List CellRow) (r : Numbered) → row_from N net number rows ≡ Some r → is_net net (net_of_row N r.row) ≡ true
found_from N net number [] r h = absurd (cc)
found_from N net number (row ∷ rows) r h = found_by N net number row rows r (is_net net (net_of_row N row)) refl (found_from N net (suc number) rows r) h

found_stands : (B : Device) (N : NetlistView) (net : ℕ) (r : Numbered) → row_of B N net ≡ Some r → is_net net (net_of_row N r.row) ≡ true
unfolding row_of
found_stands B N net r h = found_from N net 0 B.cells r h

net_is : (net : NetId) (o : Option NetId) → is_net net.0 o ≡ true → o ≡ Some net
net_is net None h = absurd (cc)
net_is net (Some n) h = ap (λ (k : ℕ). let one : NetId = record { 0 = k } in Some one) (eqb-true n.0 net.0 h)

at_net : (B : Device) (N : NetlistView) (number : ℕ) (row : CellRow) (net : NetId) → row_of B N net.0 ≡ Some (record { number = number; row = row }) → StandsAtNet B N number row
at_net B N number row net found = record { net = net; at = net_is net (net_of_row N row) (found_stands B N net.0 (record { number = number; row = row }) found); found = found }

at_none : (L : LinkedView) (p : Plan) (seen : List PinSeen) (number : ℕ) (r : FitRow) → r.pin ≡ None → IsBehindItsRow p seen number r → StandsAtNone (cell_row (fitted_of L p seen) r)
at_none L p seen number r pin behind = record { does = behind.does; pin = ap (option_map (dev_bit (fitted_of L p seen))) pin }

fit_stands : RowsStandAtBits → ControlsFollowTheirRows → (L : LinkedView) (p : Plan) (seen : List PinSeen) → IsFitting L p seen → (number : ℕ) (r : FitRow) → slice_get (rows p seen) number ≡ Some r
    → StandsAtNet (device_of L p seen) L.arena.lists number (cell_row (fitted_of L p seen) r) ⊎ StandsAtNone (cell_row (fitted_of L p seen) r)
fit_stands stand follow L p seen fits number r there = by r.pin refl
  where
    by : (o : Option PinBit) → r.pin ≡ o
        → StandsAtNet (device_of L p seen) L.arena.lists number (cell_row (fitted_of L p seen) r) ⊎ StandsAtNone (cell_row (fitted_of L p seen) r)
    by None e = inr (at_none L p seen number r e (follow L p seen fits number r there e))
    by (Some pin) e =
        let row = stand L p seen fits number r pin there e in
        inl (at_net (device_of L p seen) L.arena.lists number (cell_row (fitted_of L p seen) r) row.net row.found)

record IsFitRow (L : LinkedView) (p : Plan) (seen : List PinSeen) (number : ℕ) (row : CellRow) : Type 0 where
  fit : FitRow
  there : slice_get (rows p seen) number ≡ Some fit
  is : cell_row (fitted_of L p seen) fit ≡ row

fit_row : (L : LinkedView) (p : Plan) (seen : List PinSeen) (number : ℕ) (row : CellRow) (o : Option FitRow) → slice_get (rows p seen) number ≡ o
    → option_map (cell_row (fitted_of L p seen)) o ≡ Some row → IsFitRow L p seen number row
fit_row L p seen number row None e h = absurd (cc)
fit_row L p seen number row (Some r) e h = record { fit = r; there = e; is = cc }

row_there : (L : LinkedView) (p : Plan) (seen : List PinSeen) (number : ℕ) (row : CellRow) → slice_get (device_of L p seen).cells number ≡ Some row → IsFitRow L p seen number row
row_there L p seen number row there =
    fit_row L p seen number row (slice_get (rows p seen) number) refl (sym (slice_get-map (cell_row (fitted_of L p seen)) (rows p seen) number) ∙ there)

cells_stand : RowsStandAtBits → ControlsFollowTheirRows → (L : LinkedView) (p : Plan) (seen : List PinSeen) → IsFitting L p seen → (number : ℕ) (row : CellRow)
    → slice_get (device_of L p seen).cells number ≡ Some row → StandsAtNet (device_of L p seen) L.arena.lists number row ⊎ StandsAtNone row
cells_stand stand follow L p seen fits number row there =
    let fit = row_there L p seen number row there in
    subst (λ (c : CellRow). StandsAtNet (device_of L p seen) L.arena.lists number c ⊎ StandsAtNone c) fit.is (fit_stands stand follow L p seen fits number fit.fit fit.there)

-- Ports.

-- a row's bit is none of a hidden port
below_by : RowsStandAtBits → HiddenBitsHaveNone → (L : LinkedView) (p : Plan) (seen : List PinSeen) → IsFitting L p seen → (number : ℕ) (r : FitRow) → slice_get (rows p seen) number ≡ Some r
    → (bit : DevBit) (o : Option PinBit) → r.pin ≡ o → option_map (dev_bit (fitted_of L p seen)) o ≡ Some bit → bit.port < L.straight.first
below_by stand hidden L p seen fits number r there bit None e h = absurd (cc)
below_by stand hidden L p seen fits number r there bit (Some pin) e h = subst (λ (n : ℕ). n < L.straight.first) port (by (cases_lt pin.port.0 L.straight.first))
  where
    port : pin.port.0 ≡ bit.port
    port = ap (λ (b : DevBit). b.port) (some_same (dev_bit (fitted_of L p seen) pin) bit (Some (dev_bit (fitted_of L p seen) pin)) refl h)

    by : (pin.port.0 < L.straight.first) ⊎ (L.straight.first ≤ pin.port.0) → pin.port.0 < L.straight.first
    by (inl low) = low
    by (inr high) =
        let row = stand L p seen fits number r pin there e in
        let at : Numbered = record { number = number; row = cell_row (fitted_of L p seen) r } in
        absurd (let no : None ≡ Some at = sym (hidden L p seen fits pin.port.0 pin.bit row.net high row.at) ∙ row.found in cc)

sides_agree : RowsStandAtBits → HiddenBitsHaveNone → (L : LinkedView) (p : Plan) (seen : List PinSeen) → IsFitting L p seen → HasPorts L p (device_of L p seen) → (number : ℕ) (row : CellRow)
    (bit : DevBit) (port : PortView) (q : DevPort) → slice_get (device_of L p seen).cells number ≡ Some row → row.pin ≡ Some bit → slice_get L.arena.lists.ports bit.port ≡ Some port
    → slice_get (device_of L p seen).ports bit.port ≡ Some q → q.mode ≡ mode_of_side port.dir
sides_agree stand hidden L p seen fits ports number row bit port q there pin here has =
    let fit = row_there L p seen number row there in
    let low = below_by stand hidden L p seen fits number fit.fit fit.there bit fit.fit.pin refl (ap (λ (r : CellRow). r.pin) fit.is ∙ pin) in
    let own = ports.own bit.port port low here in
    ap (λ (r : DevPort). r.mode) (some_same q own.q (slice_get (device_of L p seen).ports bit.port) has own.there) ∙ own.side

-- The names of the test access port.

abbrev line_of : Plan → TapInput → TapLine
line_of p Tck = p.tck
line_of p Tms = p.tms
line_of p Tdi = p.tdi
line_of p Trst = p.trst

name_at : (d : Device) (place at : ℕ) (q : DevPort) → place ≡ at → slice_get d.ports at ≡ Some q → port_word d place ≡ q.name
name_at d place at q e h = ap (port_word d) e ∙ ap (λ (o : Option DevPort). option_map_or (λ (r : DevPort). r.name) o []) h

word_is : (L : LinkedView) (p : Plan) (d : Device) → HasPorts L p d → HasTapPlaces L d → (input : TapInput) → port_word d (input_place d input) ≡ (line_of p input).name
word_is L p d ports places Tck = name_at d d.tck _ _ places.tck ports.tck
word_is L p d ports places Tms = name_at d d.tms _ _ places.tms ports.tms
word_is L p d ports places Tdi = name_at d d.tdi _ _ places.tdi ports.tdi
word_is L p d ports places Trst = name_at d d.trst _ _ places.trst ports.trst

line_there : (p : Plan) (input : TapInput) → slice_get (tap_lines p) (tap_place input) ≡ Some (line_of p input)
line_there p Tck = refl
line_there p Tms = refl
line_there p Tdi = refl
line_there p Trst = refl

same_input : (input other : TapInput) → tap_place input ≡ tap_place other → input ≡ other
same_input Tck Tck e = refl
same_input Tck Tms e = absurd (cc)
same_input Tck Tdi e = absurd (cc)
same_input Tck Trst e = absurd (cc)
same_input Tms Tck e = absurd (cc)
same_input Tms Tms e = refl
same_input Tms Tdi e = absurd (cc)
same_input Tms Trst e = absurd (cc)
same_input Tdi Tck e = absurd (cc)
same_input Tdi Tms e = absurd (cc)
same_input Tdi Tdi e = refl
same_input Tdi Trst e = absurd (cc)
same_input Trst Tck e = absurd (cc)
same_input Trst Tms e = absurd (cc)
same_input Trst Tdi e = absurd (cc)
same_input Trst Trst e = refl

pub plans_stand_around : DevicesHavePorts → RowsStandAtBits → HiddenBitsHaveNone → ControlsFollowTheirRows → TapNamesAreNew → PlansStandAround
plans_stand_around have stand hidden follow named L p seen fits =
    let d = device_of L p seen in
    let ports = (have L p seen fits).0 in
    let places = (have L p seen fits).1 in
    record {
      cells = cells_stand stand follow L p seen fits;
      sides = sides_agree stand hidden L p seen fits ports;
      names = λ input other same.
          same_input input other
          ((named L p seen fits).distinct (tap_place input) (tap_place other) (line_of p input) (line_of p other) (line_there p input) (line_there p other)
          (sym (word_is L p d ports places input) ∙ same ∙ word_is L p d ports places other));
    }
