-- The latched opcode of the chip is known at each moment of a run from Test-Logic-Reset with reset's opcode.
use Rattle.std.proofs.Common.{◌≡◌, ℕ, zero, suc, ◌≤◌, List, length, sym, subst, arith}
use Rattle.signal_values.specs.declared.Sig.{Sig}
use Rattle.netlist_model.specs.Lists.{NetlistView}
use Rattle.bsdl_device.specs.declared.values.Device.{Device}
use Rattle.test_logic.specs.declared.Codes.{Codes}
use Rattle.test_logic.specs.declared.TapState.TheVariants.{TestLogicReset}
use Rattle.test_logic.specs.Instructions.{reset_opcode}
use Rattle.test_logic.specs.Machine.{Machine, AreCodes, test_logic_of}
use Rattle.instruction_gates.specs.Matches.{AreKnown}
use Rattle.instruction_gates.specs.Steps.{IsLegible, StaysLegible, InstructionsStayLegible}
use Rattle.wrapped_chip.specs.Cells.{captured}
use Rattle.wrapped_chip.specs.ChipRuns.{ChipEvent, ChipMoment}
use Rattle.wrapped_chip.specs.Home.{IsChipRunFrom}
use Rattle.wrapped_chip.proofs.Chips.{event_at}

pub latched_known : InstructionsStayLegible → (begun : Machine) (B : Device) (N : NetlistView) (codes : Codes) (given : ℕ → Sig) (events : List ChipEvent) (chip : ℕ → ChipMoment)
    → IsChipRunFrom begun B N given events chip → begun.state ≡ TestLogicReset → begun.latched ≡ reset_opcode (test_logic_of B).opcodes → AreCodes codes (test_logic_of B)
    → (t : ℕ) → t ≤ length events → AreKnown (chip t).machine.latched
latched_known legible begun B N codes given events chip run state latched are = λ t below. (stays t below).latched
  where
    laws : StaysLegible codes (test_logic_of B)
    laws = legible codes (test_logic_of B) are

    stays : (t : ℕ) → t ≤ length events → IsLegible (chip t).machine
    stays zero below = subst IsLegible (sym run.machine) (laws.reset begun state latched)
    stays (suc t) below =
        let e = event_at events t (omega arith) in
        let w : ChipMoment = chip t in
        subst IsLegible (sym (run.steps t e.0 e.1).machine)
        (laws.step w.levels (chip (suc t)).levels (captured B N w.machine w.pins w.value) w.machine (stays t (omega arith)))
