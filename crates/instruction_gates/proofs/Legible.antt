-- The latched bits stay known from whatever the registers held in Test-Logic-Reset, since the shift stage captures before it is latched.
use Rattle.std.proofs.Common.{◌≡◌, Bool, true, false, if◌then◌else◌, ◌⊎◌, inl, inr, List, refl, sym, ap, ◌∙◌, subst}
use Rattle.signal_values.specs.declared.Sig.{Sig}
use Rattle.signal_values.specs.Values.{bit}
use Rattle.test_logic.specs.declared.Codes.{Codes}
use Rattle.test_logic.specs.declared.Levels.{Levels}
use Rattle.test_logic.specs.declared.TapState.{TapState}
use Rattle.test_logic.specs.declared.TapState.TheVariants.{TestLogicReset, RunTestIdle, SelectDrScan, CaptureDr, ShiftDr, Exit1Dr, PauseDr, Exit2Dr, UpdateDr, SelectIrScan, CaptureIr, ShiftIr, Exit1Ir, PauseIr, Exit2Ir, UpdateIr}
use Rattle.test_logic.specs.Controller.{state_after}
use Rattle.test_logic.specs.Instructions.{reset_opcode}
use Rattle.test_logic.specs.Registers.{shifted, shifted_after, latched_after}
use Rattle.test_logic.specs.Machine.{TestLogic, Machine, AreCodes, zeros, edge_of, machine_step}
use Rattle.register_gates.specs.tap_gates.Laws.{StepIsTheMachines}
use Rattle.register_gates.specs.BitsLaws.{on_edge}
use Rattle.register_gates.specs.Steps.{StepsByRegister}
use Rattle.instruction_gates.specs.Matches.{AreKnown}
use Rattle.instruction_gates.specs.Steps.{is_captured, IsLegible, InstructionsStayLegible}
use Rattle.instruction_gates.proofs.Known.{known_bit, known_bits, known_zeros, known_shifted, known_after}

-- a falling edge
latched_known : (w : TapState) (reset shift kept : List Sig) → AreKnown reset → (is_captured w ≡ true → AreKnown shift) → AreKnown kept → AreKnown (latched_after reset w shift kept)
latched_known TestLogicReset reset shift kept a b c = a
latched_known RunTestIdle reset shift kept a b c = c
latched_known SelectDrScan reset shift kept a b c = c
latched_known CaptureDr reset shift kept a b c = c
latched_known ShiftDr reset shift kept a b c = c
latched_known Exit1Dr reset shift kept a b c = c
latched_known PauseDr reset shift kept a b c = c
latched_known Exit2Dr reset shift kept a b c = c
latched_known UpdateDr reset shift kept a b c = c
latched_known SelectIrScan reset shift kept a b c = c
latched_known CaptureIr reset shift kept a b c = c
latched_known ShiftIr reset shift kept a b c = c
latched_known Exit1Ir reset shift kept a b c = c
latched_known PauseIr reset shift kept a b c = c
latched_known Exit2Ir reset shift kept a b c = c
latched_known UpdateIr reset shift kept a b c = b refl

-- a rising edge
risen_known : (w : TapState) (t : Bool) (capture : List Sig) (tdi : Sig) (shift : List Sig) → AreKnown capture → AreKnown (shifted tdi shift) ⊎ (is_captured w ≡ false)
    → (is_captured w ≡ true → AreKnown shift) → is_captured (state_after w t) ≡ true → AreKnown (shifted_after capture w tdi shift)
risen_known TestLogicReset true capture tdi shift a b c e = absurd (cc)
risen_known TestLogicReset false capture tdi shift a b c e = absurd (cc)
risen_known RunTestIdle true capture tdi shift a b c e = absurd (cc)
risen_known RunTestIdle false capture tdi shift a b c e = absurd (cc)
risen_known SelectDrScan true capture tdi shift a b c e = absurd (cc)
risen_known SelectDrScan false capture tdi shift a b c e = absurd (cc)
risen_known CaptureDr true capture tdi shift a b c e = absurd (cc)
risen_known CaptureDr false capture tdi shift a b c e = absurd (cc)
risen_known ShiftDr true capture tdi shift a b c e = absurd (cc)
risen_known ShiftDr false capture tdi shift a b c e = absurd (cc)
risen_known Exit1Dr true capture tdi shift a b c e = absurd (cc)
risen_known Exit1Dr false capture tdi shift a b c e = absurd (cc)
risen_known PauseDr true capture tdi shift a b c e = absurd (cc)
risen_known PauseDr false capture tdi shift a b c e = absurd (cc)
risen_known Exit2Dr true capture tdi shift a b c e = absurd (cc)
risen_known Exit2Dr false capture tdi shift a b c e = absurd (cc)
risen_known UpdateDr true capture tdi shift a b c e = absurd (cc)
risen_known UpdateDr false capture tdi shift a b c e = absurd (cc)
risen_known SelectIrScan true capture tdi shift a b c e = absurd (cc)
risen_known SelectIrScan false capture tdi shift a b c e = absurd (cc)
risen_known CaptureIr t capture tdi shift a b c e = a
risen_known ShiftIr t capture tdi shift a (inl b) c e = b
risen_known ShiftIr t capture tdi shift a (inr b) c e = absurd (cc)
risen_known Exit1Ir t capture tdi shift a b c e = c refl
risen_known PauseIr t capture tdi shift a b c e = c refl
risen_known Exit2Ir t capture tdi shift a b c e = c refl
risen_known UpdateIr true capture tdi shift a b c e = absurd (cc)
risen_known UpdateIr false capture tdi shift a b c e = absurd (cc)

shifted_or : (w : TapState) (tdi : Sig) (shift : List Sig) → ((xs : List Sig) → AreKnown xs → AreKnown (shifted tdi xs)) → (is_captured w ≡ true → AreKnown shift)
    → AreKnown (shifted tdi shift) ⊎ (is_captured w ≡ false)
shifted_or w tdi shift more known = by_test (is_captured w) refl
  where
    by_test : (b : Bool) → is_captured w ≡ b → AreKnown (shifted tdi shift) ⊎ (is_captured w ≡ false)
    by_test true e = inl (more shift (known e))
    by_test false e = inr e

-- an event, by the levels
shift_known : (a b c t : Bool) (w : TapState) (capture : List Sig) (tdi : Sig) (shift : List Sig) → AreKnown capture → AreKnown (shifted tdi shift) ⊎ (is_captured w ≡ false)
    → (is_captured w ≡ true → AreKnown shift) → is_captured (if c then (if a then w else (if b then state_after w t else w)) else TestLogicReset) ≡ true
    → AreKnown (if c then on_edge (edge_of a b) (shifted_after capture w tdi shift) shift shift else zeros capture)
shift_known a b false t w capture tdi shift known more held e = known_zeros capture
shift_known true true true t w capture tdi shift known more held e = held e
shift_known true false true t w capture tdi shift known more held e = held e
shift_known false true true t w capture tdi shift known more held e = risen_known w t capture tdi shift known more held e
shift_known false false true t w capture tdi shift known more held e = held e

step_legible : StepsByRegister → StepIsTheMachines → (codes : Codes) (L : TestLogic) → AreCodes codes L → (before after : Levels) (caught : List Sig) (machine : Machine) → IsLegible machine
    → IsLegible (machine_step L before after caught machine)
step_legible steps states codes L are before after caught machine legible =
    let next = steps L before after caught machine in
    let w : TapState = machine.state in
    let capture : AreKnown L.capture = subst AreKnown (sym are.capture) (known_bits codes.capture.len codes.capture.value) in
    let opcode : AreKnown (reset_opcode L.opcodes) = subst AreKnown (sym are.reset) (known_bits codes.reset.len codes.reset.value) in
    let more = shifted_or w (bit before.tdi) machine.shift (λ xs known. known_shifted (bit before.tdi) xs (known_bit before.tdi) known) legible.shift in
    record {
      latched = subst AreKnown (sym next.latched) (known_after before after (reset_opcode L.opcodes) machine.latched (latched_after (reset_opcode L.opcodes) w machine.shift machine.latched) machine.latched
          opcode legible.latched (latched_known w (reset_opcode L.opcodes) machine.shift machine.latched opcode legible.shift legible.latched) legible.latched);
      shift = λ e. subst AreKnown (sym next.shift) (shift_known before.tck after.tck after.trst before.tms w L.capture (bit before.tdi) machine.shift capture more legible.shift
          (ap is_captured (sym (states L before after caught machine)) ∙ e));
    }

reset_legible : (codes : Codes) (L : TestLogic) → AreCodes codes L → (machine : Machine) → machine.state ≡ TestLogicReset → machine.latched ≡ reset_opcode L.opcodes → IsLegible machine
reset_legible codes L are machine state latched = record {
  latched = subst AreKnown (sym (latched ∙ are.reset)) (known_bits codes.reset.len codes.reset.value);
  shift = λ e. absurd (let bad : false ≡ true = sym (ap is_captured state) ∙ e in cc);
}

pub stay_legible : StepsByRegister → StepIsTheMachines → InstructionsStayLegible
stay_legible steps states = λ codes L are. record {
  reset = λ machine state latched. reset_legible codes L are machine state latched;
  step = λ before after caught machine legible. step_legible steps states codes L are before after caught machine legible;
}
