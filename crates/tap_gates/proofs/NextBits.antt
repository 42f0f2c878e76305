-- What goes to the flip-flop of each state, whatever the flip-flops hold: a bit of their bits and of TMS.
use Rattle.std.proofs.Common.{◌≡◌, ℕ, ◌+◌, Bool, not, ◌&&◌, ◌||◌, refl, arith, List}
use Rattle.cell_library.specs.declared.listed.ListedCell.{ListedCell}
use Rattle.signal_values.specs.Values.{bit, sig_and, sig_or, sig_not}
use Rattle.signal_values.proofs.Laws.{not-bit}
use Rattle.netlist_model.specs.declared.NetId.{NetId}
use Rattle.netlist_model.specs.Runs.{Moment}
use Rattle.gate_parts.specs.PartLaws.{PartMeets}
use Rattle.test_logic.specs.declared.TapState.{TapState}
use Rattle.test_logic.specs.declared.TapState.TheVariants.{TestLogicReset, RunTestIdle, SelectDrScan, CaptureDr, ShiftDr, Exit1Dr, PauseDr, Exit2Dr, UpdateDr, SelectIrScan, CaptureIr, ShiftIr, Exit1Ir, PauseIr, Exit2Ir, UpdateIr}
use Rattle.test_logic.specs.declared.Levels.{Levels}
use Rattle.test_logic.specs.Controller.{state_after}
use Rattle.tap_gates.specs.declared.table.TheConstants.{CONTROLLER}
use Rattle.tap_gates.specs.Controller.{tap_given, place, same_state, state_net}
use Rattle.tap_gates.specs.Laws.{Carries}

-- what each state's flip-flop holds
pub record HoldsBits (first : ℕ) (f : TapState → Bool) (m : Moment) : Type 0 where
  pub each : (s : TapState) → m.value (state_net first s).0 ≡ bit (f s)

-- none of four holds 1, and none of all
abbrev pub none_of : Bool → Bool → Bool → Bool → Bool
none_of a b c d = not (((a || b) || c) || d)

abbrev pub is_none : (TapState → Bool) → Bool
is_none f =
    ((none_of (f TestLogicReset) (f RunTestIdle) (f SelectDrScan) (f CaptureDr) && none_of (f ShiftDr) (f Exit1Dr) (f PauseDr) (f Exit2Dr))
    && none_of (f UpdateDr) (f SelectIrScan) (f CaptureIr) (f ShiftIr)) && none_of (f Exit1Ir) (f PauseIr) (f Exit2Ir) (f UpdateIr)

-- what they hold after a rising edge, by TMS
abbrev pub next_bits : (TapState → Bool) → Bool → TapState → Bool
next_bits f t TestLogicReset = ((f TestLogicReset || f SelectIrScan) || is_none f) && t
next_bits f t RunTestIdle = (((f TestLogicReset || f RunTestIdle) || f UpdateDr) || f UpdateIr) && not t
next_bits f t SelectDrScan = ((f RunTestIdle || f UpdateDr) || f UpdateIr) && t
next_bits f t CaptureDr = f SelectDrScan && not t
next_bits f t ShiftDr = ((f CaptureDr || f ShiftDr) || f Exit2Dr) && not t
next_bits f t Exit1Dr = (f CaptureDr || f ShiftDr) && t
next_bits f t PauseDr = (f Exit1Dr || f PauseDr) && not t
next_bits f t Exit2Dr = f PauseDr && t
next_bits f t UpdateDr = (f Exit1Dr || f Exit2Dr) && t
next_bits f t SelectIrScan = f SelectDrScan && t
next_bits f t CaptureIr = f SelectIrScan && not t
next_bits f t ShiftIr = ((f CaptureIr || f ShiftIr) || f Exit2Ir) && not t
next_bits f t Exit1Ir = (f CaptureIr || f ShiftIr) && t
next_bits f t PauseIr = (f Exit1Ir || f PauseIr) && not t
next_bits f t Exit2Ir = f PauseIr && t
next_bits f t UpdateIr = (f Exit1Ir || f Exit2Ir) && t

-- The gates of bits.

and_one : (a t : Bool) → sig_and (bit a) (bit t) ≡ bit (a && t)
and_one a t = grind arith

and_two : (a b t : Bool) → sig_and (sig_or (bit a) (bit b)) (bit t) ≡ bit ((a || b) && t)
and_two a b t = grind arith

and_three : (a b c t : Bool) → sig_and (sig_or (sig_or (bit a) (bit b)) (bit c)) (bit t) ≡ bit (((a || b) || c) && t)
and_three a b c t = grind arith

and_four : (a b c d t : Bool) → sig_and (sig_or (sig_or (sig_or (bit a) (bit b)) (bit c)) (bit d)) (bit t) ≡ bit ((((a || b) || c) || d) && t)
and_four a b c d t = grind arith

nor_four : (a b c d : Bool) → sig_not (sig_or (sig_or (sig_or (bit a) (bit b)) (bit c)) (bit d)) ≡ bit (none_of a b c d)
nor_four a b c d = grind arith

all_four : (a b c d : Bool) → sig_and (sig_and (sig_and (bit a) (bit b)) (bit c)) (bit d) ≡ bit (((a && b) && c) && d)
all_four a b c d = grind arith

-- The gate of no state.

no_state : (library : List ListedCell) (n : ℕ) (tck tms trst : NetId) (f : TapState → Bool) (m : Moment) → PartMeets library CONTROLLER (tap_given tck tms trst) n m.value → HoldsBits n f m → m.value (n + 48) ≡ bit (is_none f)
no_state library n tck tms trst f m eqs held =
    let o0 : m.value (n + 44) ≡ sig_not (sig_or (sig_or (sig_or (m.value (n + 0)) (m.value (n + 1))) (m.value (n + 2))) (m.value (n + 3))) = (eqs 44 _ refl refl).1 in
    let o1 : m.value (n + 45) ≡ sig_not (sig_or (sig_or (sig_or (m.value (n + 4)) (m.value (n + 5))) (m.value (n + 6))) (m.value (n + 7))) = (eqs 45 _ refl refl).1 in
    let o2 : m.value (n + 46) ≡ sig_not (sig_or (sig_or (sig_or (m.value (n + 8)) (m.value (n + 9))) (m.value (n + 10))) (m.value (n + 11))) = (eqs 46 _ refl refl).1 in
    let o3 : m.value (n + 47) ≡ sig_not (sig_or (sig_or (sig_or (m.value (n + 12)) (m.value (n + 13))) (m.value (n + 14))) (m.value (n + 15))) = (eqs 47 _ refl refl).1 in
    let a : m.value (n + 48) ≡ sig_and (sig_and (sig_and (m.value (n + 44)) (m.value (n + 45))) (m.value (n + 46))) (m.value (n + 47)) = (eqs 48 _ refl refl).1 in
    let h0 : m.value (n + 0) ≡ bit (f TestLogicReset) = held.each TestLogicReset in
    let h1 : m.value (n + 1) ≡ bit (f RunTestIdle) = held.each RunTestIdle in
    let h2 : m.value (n + 2) ≡ bit (f SelectDrScan) = held.each SelectDrScan in
    let h3 : m.value (n + 3) ≡ bit (f CaptureDr) = held.each CaptureDr in
    let h4 : m.value (n + 4) ≡ bit (f ShiftDr) = held.each ShiftDr in
    let h5 : m.value (n + 5) ≡ bit (f Exit1Dr) = held.each Exit1Dr in
    let h6 : m.value (n + 6) ≡ bit (f PauseDr) = held.each PauseDr in
    let h7 : m.value (n + 7) ≡ bit (f Exit2Dr) = held.each Exit2Dr in
    let h8 : m.value (n + 8) ≡ bit (f UpdateDr) = held.each UpdateDr in
    let h9 : m.value (n + 9) ≡ bit (f SelectIrScan) = held.each SelectIrScan in
    let h10 : m.value (n + 10) ≡ bit (f CaptureIr) = held.each CaptureIr in
    let h11 : m.value (n + 11) ≡ bit (f ShiftIr) = held.each ShiftIr in
    let h12 : m.value (n + 12) ≡ bit (f Exit1Ir) = held.each Exit1Ir in
    let h13 : m.value (n + 13) ≡ bit (f PauseIr) = held.each PauseIr in
    let h14 : m.value (n + 14) ≡ bit (f Exit2Ir) = held.each Exit2Ir in
    let h15 : m.value (n + 15) ≡ bit (f UpdateIr) = held.each UpdateIr in
    let q0 : m.value (n + 44) ≡ bit (none_of (f TestLogicReset) (f RunTestIdle) (f SelectDrScan) (f CaptureDr)) = rw (o0, h0, h1, h2, h3) (nor_four (f TestLogicReset) (f RunTestIdle) (f SelectDrScan) (f CaptureDr)) in
    let q1 : m.value (n + 45) ≡ bit (none_of (f ShiftDr) (f Exit1Dr) (f PauseDr) (f Exit2Dr)) = rw (o1, h4, h5, h6, h7) (nor_four (f ShiftDr) (f Exit1Dr) (f PauseDr) (f Exit2Dr)) in
    let q2 : m.value (n + 46) ≡ bit (none_of (f UpdateDr) (f SelectIrScan) (f CaptureIr) (f ShiftIr)) = rw (o2, h8, h9, h10, h11) (nor_four (f UpdateDr) (f SelectIrScan) (f CaptureIr) (f ShiftIr)) in
    let q3 : m.value (n + 47) ≡ bit (none_of (f Exit1Ir) (f PauseIr) (f Exit2Ir) (f UpdateIr)) = rw (o3, h12, h13, h14, h15) (nor_four (f Exit1Ir) (f PauseIr) (f Exit2Ir) (f UpdateIr)) in
    rw (a, q0, q1, q2, q3) (all_four (none_of (f TestLogicReset) (f RunTestIdle) (f SelectDrScan) (f CaptureDr)) (none_of (f ShiftDr) (f Exit1Dr) (f PauseDr) (f Exit2Dr)) (none_of (f UpdateDr) (f SelectIrScan) (f CaptureIr) (f ShiftIr)) (none_of (f Exit1Ir) (f PauseIr) (f Exit2Ir) (f UpdateIr)))

pub next_bit : (library : List ListedCell) (n : ℕ) (tck tms trst : NetId) (f : TapState → Bool) (levels : Levels) (m : Moment) → PartMeets library CONTROLLER (tap_given tck tms trst) n m.value
    → Carries tck tms trst levels m → HoldsBits n f m → (s : TapState) → m.value (n + (17 + place s)) ≡ bit (next_bits f levels.tms s)
next_bit library n tck tms trst f levels m eqs pins held TestLogicReset =
    let a : m.value (n + 17) ≡ sig_and (m.value (n + 33)) (m.value tms.0) = (eqs 17 _ refl refl).1 in
    let o : m.value (n + 33) ≡ sig_or (sig_or (m.value (n + 0)) (m.value (n + 9))) (m.value (n + 48)) = (eqs 33 _ refl refl).1 in
    let h0 : m.value (n + 0) ≡ bit (f TestLogicReset) = held.each TestLogicReset in
    let h1 : m.value (n + 9) ≡ bit (f SelectIrScan) = held.each SelectIrScan in
    let none = no_state library n tck tms trst f m eqs held in
    rw (a, o, h0, h1, none, pins.mode) (and_three (f TestLogicReset) (f SelectIrScan) (is_none f) levels.tms)
next_bit library n tck tms trst f levels m eqs pins held RunTestIdle =
    let a : m.value (n + 18) ≡ sig_and (m.value (n + 34)) (m.value (n + 16)) = (eqs 18 _ refl refl).1 in
    let o : m.value (n + 34) ≡ sig_or (sig_or (sig_or (m.value (n + 0)) (m.value (n + 1))) (m.value (n + 8))) (m.value (n + 15)) = (eqs 34 _ refl refl).1 in
    let i : m.value (n + 16) ≡ sig_not (m.value tms.0) = (eqs 16 _ refl refl).1 in
    let h0 : m.value (n + 0) ≡ bit (f TestLogicReset) = held.each TestLogicReset in
    let h1 : m.value (n + 1) ≡ bit (f RunTestIdle) = held.each RunTestIdle in
    let h2 : m.value (n + 8) ≡ bit (f UpdateDr) = held.each UpdateDr in
    let h3 : m.value (n + 15) ≡ bit (f UpdateIr) = held.each UpdateIr in
    rw (a, o, i, h0, h1, h2, h3, pins.mode, not-bit levels.tms) (and_four (f TestLogicReset) (f RunTestIdle) (f UpdateDr) (f UpdateIr) (not levels.tms))
next_bit library n tck tms trst f levels m eqs pins held SelectDrScan =
    let a : m.value (n + 19) ≡ sig_and (m.value (n + 35)) (m.value tms.0) = (eqs 19 _ refl refl).1 in
    let o : m.value (n + 35) ≡ sig_or (sig_or (m.value (n + 1)) (m.value (n + 8))) (m.value (n + 15)) = (eqs 35 _ refl refl).1 in
    let h0 : m.value (n + 1) ≡ bit (f RunTestIdle) = held.each RunTestIdle in
    let h1 : m.value (n + 8) ≡ bit (f UpdateDr) = held.each UpdateDr in
    let h2 : m.value (n + 15) ≡ bit (f UpdateIr) = held.each UpdateIr in
    rw (a, o, h0, h1, h2, pins.mode) (and_three (f RunTestIdle) (f UpdateDr) (f UpdateIr) levels.tms)
next_bit library n tck tms trst f levels m eqs pins held CaptureDr =
    let a : m.value (n + 20) ≡ sig_and (m.value (n + 2)) (m.value (n + 16)) = (eqs 20 _ refl refl).1 in
    let i : m.value (n + 16) ≡ sig_not (m.value tms.0) = (eqs 16 _ refl refl).1 in
    let h0 : m.value (n + 2) ≡ bit (f SelectDrScan) = held.each SelectDrScan in
    rw (a, i, h0, pins.mode, not-bit levels.tms) (and_one (f SelectDrScan) (not levels.tms))
next_bit library n tck tms trst f levels m eqs pins held ShiftDr =
    let a : m.value (n + 21) ≡ sig_and (m.value (n + 36)) (m.value (n + 16)) = (eqs 21 _ refl refl).1 in
    let o : m.value (n + 36) ≡ sig_or (sig_or (m.value (n + 3)) (m.value (n + 4))) (m.value (n + 7)) = (eqs 36 _ refl refl).1 in
    let i : m.value (n + 16) ≡ sig_not (m.value tms.0) = (eqs 16 _ refl refl).1 in
    let h0 : m.value (n + 3) ≡ bit (f CaptureDr) = held.each CaptureDr in
    let h1 : m.value (n + 4) ≡ bit (f ShiftDr) = held.each ShiftDr in
    let h2 : m.value (n + 7) ≡ bit (f Exit2Dr) = held.each Exit2Dr in
    rw (a, o, i, h0, h1, h2, pins.mode, not-bit levels.tms) (and_three (f CaptureDr) (f ShiftDr) (f Exit2Dr) (not levels.tms))
next_bit library n tck tms trst f levels m eqs pins held Exit1Dr =
    let a : m.value (n + 22) ≡ sig_and (m.value (n + 37)) (m.value tms.0) = (eqs 22 _ refl refl).1 in
    let o : m.value (n + 37) ≡ sig_or (m.value (n + 3)) (m.value (n + 4)) = (eqs 37 _ refl refl).1 in
    let h0 : m.value (n + 3) ≡ bit (f CaptureDr) = held.each CaptureDr in
    let h1 : m.value (n + 4) ≡ bit (f ShiftDr) = held.each ShiftDr in
    rw (a, o, h0, h1, pins.mode) (and_two (f CaptureDr) (f ShiftDr) levels.tms)
next_bit library n tck tms trst f levels m eqs pins held PauseDr =
    let a : m.value (n + 23) ≡ sig_and (m.value (n + 38)) (m.value (n + 16)) = (eqs 23 _ refl refl).1 in
    let o : m.value (n + 38) ≡ sig_or (m.value (n + 5)) (m.value (n + 6)) = (eqs 38 _ refl refl).1 in
    let i : m.value (n + 16) ≡ sig_not (m.value tms.0) = (eqs 16 _ refl refl).1 in
    let h0 : m.value (n + 5) ≡ bit (f Exit1Dr) = held.each Exit1Dr in
    let h1 : m.value (n + 6) ≡ bit (f PauseDr) = held.each PauseDr in
    rw (a, o, i, h0, h1, pins.mode, not-bit levels.tms) (and_two (f Exit1Dr) (f PauseDr) (not levels.tms))
next_bit library n tck tms trst f levels m eqs pins held Exit2Dr =
    let a : m.value (n + 24) ≡ sig_and (m.value (n + 6)) (m.value tms.0) = (eqs 24 _ refl refl).1 in
    let h0 : m.value (n + 6) ≡ bit (f PauseDr) = held.each PauseDr in
    rw (a, h0, pins.mode) (and_one (f PauseDr) levels.tms)
next_bit library n tck tms trst f levels m eqs pins held UpdateDr =
    let a : m.value (n + 25) ≡ sig_and (m.value (n + 39)) (m.value tms.0) = (eqs 25 _ refl refl).1 in
    let o : m.value (n + 39) ≡ sig_or (m.value (n + 5)) (m.value (n + 7)) = (eqs 39 _ refl refl).1 in
    let h0 : m.value (n + 5) ≡ bit (f Exit1Dr) = held.each Exit1Dr in
    let h1 : m.value (n + 7) ≡ bit (f Exit2Dr) = held.each Exit2Dr in
    rw (a, o, h0, h1, pins.mode) (and_two (f Exit1Dr) (f Exit2Dr) levels.tms)
next_bit library n tck tms trst f levels m eqs pins held SelectIrScan =
    let a : m.value (n + 26) ≡ sig_and (m.value (n + 2)) (m.value tms.0) = (eqs 26 _ refl refl).1 in
    let h0 : m.value (n + 2) ≡ bit (f SelectDrScan) = held.each SelectDrScan in
    rw (a, h0, pins.mode) (and_one (f SelectDrScan) levels.tms)
next_bit library n tck tms trst f levels m eqs pins held CaptureIr =
    let a : m.value (n + 27) ≡ sig_and (m.value (n + 9)) (m.value (n + 16)) = (eqs 27 _ refl refl).1 in
    let i : m.value (n + 16) ≡ sig_not (m.value tms.0) = (eqs 16 _ refl refl).1 in
    let h0 : m.value (n + 9) ≡ bit (f SelectIrScan) = held.each SelectIrScan in
    rw (a, i, h0, pins.mode, not-bit levels.tms) (and_one (f SelectIrScan) (not levels.tms))
next_bit library n tck tms trst f levels m eqs pins held ShiftIr =
    let a : m.value (n + 28) ≡ sig_and (m.value (n + 40)) (m.value (n + 16)) = (eqs 28 _ refl refl).1 in
    let o : m.value (n + 40) ≡ sig_or (sig_or (m.value (n + 10)) (m.value (n + 11))) (m.value (n + 14)) = (eqs 40 _ refl refl).1 in
    let i : m.value (n + 16) ≡ sig_not (m.value tms.0) = (eqs 16 _ refl refl).1 in
    let h0 : m.value (n + 10) ≡ bit (f CaptureIr) = held.each CaptureIr in
    let h1 : m.value (n + 11) ≡ bit (f ShiftIr) = held.each ShiftIr in
    let h2 : m.value (n + 14) ≡ bit (f Exit2Ir) = held.each Exit2Ir in
    rw (a, o, i, h0, h1, h2, pins.mode, not-bit levels.tms) (and_three (f CaptureIr) (f ShiftIr) (f Exit2Ir) (not levels.tms))
next_bit library n tck tms trst f levels m eqs pins held Exit1Ir =
    let a : m.value (n + 29) ≡ sig_and (m.value (n + 41)) (m.value tms.0) = (eqs 29 _ refl refl).1 in
    let o : m.value (n + 41) ≡ sig_or (m.value (n + 10)) (m.value (n + 11)) = (eqs 41 _ refl refl).1 in
    let h0 : m.value (n + 10) ≡ bit (f CaptureIr) = held.each CaptureIr in
    let h1 : m.value (n + 11) ≡ bit (f ShiftIr) = held.each ShiftIr in
    rw (a, o, h0, h1, pins.mode) (and_two (f CaptureIr) (f ShiftIr) levels.tms)
next_bit library n tck tms trst f levels m eqs pins held PauseIr =
    let a : m.value (n + 30) ≡ sig_and (m.value (n + 42)) (m.value (n + 16)) = (eqs 30 _ refl refl).1 in
    let o : m.value (n + 42) ≡ sig_or (m.value (n + 12)) (m.value (n + 13)) = (eqs 42 _ refl refl).1 in
    let i : m.value (n + 16) ≡ sig_not (m.value tms.0) = (eqs 16 _ refl refl).1 in
    let h0 : m.value (n + 12) ≡ bit (f Exit1Ir) = held.each Exit1Ir in
    let h1 : m.value (n + 13) ≡ bit (f PauseIr) = held.each PauseIr in
    rw (a, o, i, h0, h1, pins.mode, not-bit levels.tms) (and_two (f Exit1Ir) (f PauseIr) (not levels.tms))
next_bit library n tck tms trst f levels m eqs pins held Exit2Ir =
    let a : m.value (n + 31) ≡ sig_and (m.value (n + 13)) (m.value tms.0) = (eqs 31 _ refl refl).1 in
    let h0 : m.value (n + 13) ≡ bit (f PauseIr) = held.each PauseIr in
    rw (a, h0, pins.mode) (and_one (f PauseIr) levels.tms)
next_bit library n tck tms trst f levels m eqs pins held UpdateIr =
    let a : m.value (n + 32) ≡ sig_and (m.value (n + 43)) (m.value tms.0) = (eqs 32 _ refl refl).1 in
    let o : m.value (n + 43) ≡ sig_or (m.value (n + 12)) (m.value (n + 14)) = (eqs 43 _ refl refl).1 in
    let h0 : m.value (n + 12) ≡ bit (f Exit1Ir) = held.each Exit1Ir in
    let h1 : m.value (n + 14) ≡ bit (f Exit2Ir) = held.each Exit2Ir in
    rw (a, o, h0, h1, pins.mode) (and_two (f Exit1Ir) (f Exit2Ir) levels.tms)

-- Where one flip-flop alone holds 1, the next state's does so next.
pub one_hot : (w : TapState) (t : Bool) (s : TapState) → next_bits (λ x. same_state x w) t s ≡ same_state s (state_after w t)
one_hot w t TestLogicReset = grind arith
one_hot w t RunTestIdle = grind arith
one_hot w t SelectDrScan = grind arith
one_hot w t CaptureDr = grind arith
one_hot w t ShiftDr = grind arith
one_hot w t Exit1Dr = grind arith
one_hot w t PauseDr = grind arith
one_hot w t Exit2Dr = grind arith
one_hot w t UpdateDr = grind arith
one_hot w t SelectIrScan = grind arith
one_hot w t CaptureIr = grind arith
one_hot w t ShiftIr = grind arith
one_hot w t Exit1Ir = grind arith
one_hot w t PauseIr = grind arith
one_hot w t Exit2Ir = grind arith
one_hot w t UpdateIr = grind arith
