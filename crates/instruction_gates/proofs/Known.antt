-- The bits of the instruction register are known at each moment.
use Rattle.std.proofs.Common.{ℕ, zero, suc, ◌≤◌, Bool, true, false, List, [], ◌∷◌, ◌++◌, sym, ◌∙◌, ap, subst, Some, None, arith}
use Rattle.std.specs.Prelude.{Option, if◌then◌else◌}
use Rattle.signal_values.specs.declared.Sig.{Sig}
use Rattle.signal_values.specs.Values.{bit}
use Rattle.cell_library.specs.declared.Edge.{Edge}
use Rattle.cell_library.specs.declared.Edge.TheVariants.{Rise, Fall}
use Rattle.test_logic.specs.declared.Action.{Action}
use Rattle.test_logic.specs.declared.Action.TheVariants.{Captures, Shifts, Keeps}
use Rattle.test_logic.specs.declared.Levels.{Levels}
use Rattle.test_logic.specs.declared.TapState.{TapState}
use Rattle.test_logic.specs.declared.TapState.TheVariants.{TestLogicReset, RunTestIdle, SelectDrScan, CaptureDr, ShiftDr, Exit1Dr, PauseDr, Exit2Dr, UpdateDr, SelectIrScan, CaptureIr, ShiftIr, Exit1Ir, PauseIr, Exit2Ir, UpdateIr}
use Rattle.test_logic.specs.Controller.{ir_action, act}
use Rattle.test_logic.specs.Instructions.{bits_of, reset_opcode}
use Rattle.test_logic.specs.Registers.{shifted, shifted_after, latched_after}
use Rattle.test_logic.specs.Machine.{TestLogic, Machine, IsHistory, zeros, edge_of}
use Rattle.register_gates.specs.BitsLaws.{on_edge, bit_after}
use Rattle.register_gates.specs.Steps.{StepsByRegister}
use Rattle.instruction_gates.specs.Matches.{IsKnown, AreKnown}

pub known_bit : (b : Bool) → IsKnown (bit b)
known_bit true = tt
known_bit false = tt

pub known_bits : (count value : ℕ) → AreKnown (bits_of count value)
unfolding bits_of
known_bits zero value = tt
known_bits (suc count) value = (known_bit _, known_bits count _)

pub known_zeros : (xs : List Sig) → AreKnown (zeros xs)
known_zeros [] = tt
known_zeros (x ∷ xs) = (tt, known_zeros xs)

known_more : (xs : List Sig) (x : Sig) → AreKnown xs → IsKnown x → AreKnown (xs ++ x ∷ [])
known_more [] x known one = (one, tt)
known_more (y ∷ ys) x known one = (known.0, known_more ys x known.1 one)

pub known_shifted : (tdi : Sig) (xs : List Sig) → IsKnown tdi → AreKnown xs → AreKnown (shifted tdi xs)
known_shifted tdi [] one known = tt
known_shifted tdi (x ∷ xs) one known = known_more xs tdi known.1 one

known_act : (action : Action) (xs ys zs : List Sig) → AreKnown xs → AreKnown ys → AreKnown zs → AreKnown (act action xs ys zs)
known_act Captures xs ys zs a b c = a
known_act Shifts xs ys zs a b c = b
known_act Keeps xs ys zs a b c = c

known_latched : (w : TapState) (reset shift kept : List Sig) → AreKnown reset → AreKnown shift → AreKnown kept → AreKnown (latched_after reset w shift kept)
known_latched TestLogicReset reset shift kept a b c = a
known_latched RunTestIdle reset shift kept a b c = c
known_latched SelectDrScan reset shift kept a b c = c
known_latched CaptureDr reset shift kept a b c = c
known_latched ShiftDr reset shift kept a b c = c
known_latched Exit1Dr reset shift kept a b c = c
known_latched PauseDr reset shift kept a b c = c
known_latched Exit2Dr reset shift kept a b c = c
known_latched UpdateDr reset shift kept a b c = c
known_latched SelectIrScan reset shift kept a b c = c
known_latched CaptureIr reset shift kept a b c = c
known_latched ShiftIr reset shift kept a b c = c
known_latched Exit1Ir reset shift kept a b c = c
known_latched PauseIr reset shift kept a b c = c
known_latched Exit2Ir reset shift kept a b c = c
known_latched UpdateIr reset shift kept a b c = b

known_edge : (edge : Option Edge) (risen fallen kept : List Sig) → AreKnown risen → AreKnown fallen → AreKnown kept → AreKnown (on_edge edge risen fallen kept)
known_edge None risen fallen kept a b c = c
known_edge (Some Rise) risen fallen kept a b c = a
known_edge (Some Fall) risen fallen kept a b c = b

known_either : (high : Bool) (xs ys : List Sig) → AreKnown xs → AreKnown ys → AreKnown (if high then xs else ys)
known_either true xs ys a b = a
known_either false xs ys a b = b

pub known_after : (before after : Levels) (reset risen fallen kept : List Sig) → AreKnown reset → AreKnown risen → AreKnown fallen → AreKnown kept
    → AreKnown (bit_after before after reset risen fallen kept)
known_after before after reset risen fallen kept r a b c =
    known_either after.trst (on_edge (edge_of before.tck after.tck) risen fallen kept) reset (known_edge (edge_of before.tck after.tck) risen fallen kept a b c) r

-- both stages, where TDI is always 0 or 1
pub known_stages : StepsByRegister → (L : TestLogic) (levels : ℕ → Levels) (caught : ℕ → List Sig) (count : ℕ) (machine : ℕ → Machine) → IsHistory L levels caught count machine
    → AreKnown L.capture → AreKnown (reset_opcode L.opcodes) → (t : ℕ) → t ≤ count → AreKnown (machine t).shift × AreKnown (machine t).latched
known_stages steps L levels caught count machine history capture opcode zero below = (
  subst AreKnown (sym (ap (λ (x : Machine). x.shift) history.start)) (known_zeros L.capture),
  subst AreKnown (sym (ap (λ (x : Machine). x.latched) history.start)) opcode,
)
known_stages steps L levels caught count machine history capture opcode (suc t) below =
    let held = known_stages steps L levels caught count machine history capture opcode t (omega arith) in
    let m : Machine = machine t in
    let before : Levels = levels t in
    let after : Levels = levels (suc t) in
    let next = steps L before after (caught t) m in
    let moved : AreKnown (shifted_after L.capture m.state (bit before.tdi) m.shift)
    = known_act (ir_action m.state) L.capture (shifted (bit before.tdi) m.shift) m.shift capture (known_shifted (bit before.tdi) m.shift (known_bit before.tdi) held.0) held.0 in (
      subst AreKnown (sym (ap (λ (x : Machine). x.shift) (history.steps t below) ∙ next.shift))
          (known_after before after (zeros L.capture) (shifted_after L.capture m.state (bit before.tdi) m.shift) m.shift m.shift (known_zeros L.capture) moved held.0 held.0),
      subst AreKnown (sym (ap (λ (x : Machine). x.latched) (history.steps t below) ∙ next.latched))
          (known_after before after (reset_opcode L.opcodes) m.latched (latched_after (reset_opcode L.opcodes) m.state m.shift m.latched) m.latched opcode held.1
          (known_latched m.state (reset_opcode L.opcodes) m.shift m.latched opcode held.0 held.1) held.1),
    )
