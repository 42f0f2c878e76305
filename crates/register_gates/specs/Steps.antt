-- What each register of the test logic holds after a step; and parts that are added one after the other.
-- IEEE Std 1149.1-2001: test logic architecture.
use Rattle.std.specs.Prelude.{◌≡◌, ℕ, ◌+◌, List, ◌++◌, length}
use Rattle.signal_values.specs.declared.Sig.{Sig}
use Rattle.signal_values.specs.declared.Sig.TheVariants.{Zero}
use Rattle.signal_values.specs.declared.PinSig.TheVariants.{HighZ}
use Rattle.signal_values.specs.Values.{bit}
use Rattle.netlist_model.specs.Lists.{CellView, cell_count}
use Rattle.netlist_arena.specs.Arena.{ArenaView}
use Rattle.gate_parts.specs.Appended.{Appended}
use Rattle.tap_gates.specs.bsdl_device.declared.entries.Register.TheVariants as register
use Rattle.tap_gates.specs.bsdl_device.Instructions.{selected_register}
use Rattle.tap_gates.specs.test_logic.declared.Levels.{Levels}
use Rattle.tap_gates.specs.test_logic.Instructions.{reset_opcode}
use Rattle.tap_gates.specs.test_logic.Registers.{first_bit, shifted_after, bypass_after, ident_after, latched_after, tdo_after}
use Rattle.tap_gates.specs.test_logic.Machine.{TestLogic, Machine, zeros, in_effect, selects, bit_of, captured_code, machine_step}
use Rattle.register_gates.specs.BitsLaws.{bit_after}

pub record RegistersStep (L : TestLogic) (before after : Levels) (captured : List Sig) (m : Machine) : Type 0 where
  pub shift : (machine_step L before after captured m).shift
      ≡ bit_after before after (zeros L.capture) (shifted_after L.capture m.state (bit before.tdi) m.shift) m.shift m.shift
  pub latched : (machine_step L before after captured m).latched
      ≡ bit_after before after (reset_opcode L.opcodes) m.latched (latched_after (reset_opcode L.opcodes) m.state m.shift m.latched) m.latched
  pub bypass : (machine_step L before after captured m).bypass
      ≡ bit_after before after Zero (bypass_after (selects L m register.Bypass) m.state (bit before.tdi) m.bypass) m.bypass m.bypass
  pub ident : (machine_step L before after captured m).ident
      ≡ bit_after before after (zeros L.code) (ident_after (selects L m register.DeviceId) (captured_code (in_effect L m) L) m.state (bit before.tdi) m.ident) m.ident m.ident
  pub tdo : (machine_step L before after captured m).tdo
      ≡ bit_after before after HighZ m.tdo (tdo_after m.state (bit_of (selected_register (in_effect L m)) m) (first_bit m.shift)) m.tdo

abbrev pub StepsByRegister : Type 0
StepsByRegister = (L : TestLogic) (before after : Levels) (captured : List Sig) (m : Machine) → RegistersStep L before after captured m

-- own: a part, and one behind it that is known by the nets and the cells before it, are added as one
abbrev pub AddedInTurn : Type 0
AddedInTurn = (old middle new : ArenaView) (count more sum : ℕ) (part : List CellView) (rest : ℕ → ℕ → List CellView)
    → Appended old middle count part → length part ≡ count → Appended middle new more (rest (length middle.lists.nets) (cell_count middle.lists)) → count + more ≡ sum
    → Appended old new sum (part ++ rest (length old.lists.nets + count) (cell_count old.lists + count))
