-- The test logic of a device with read-only data registers of the design's own: besides the base device's test logic a
-- list for each register, and TDO, from whatever the lists hold at first. In a list place 0 is nearest TDO.
-- IEEE Std 1149.1-2001: test data registers (design-specific), TAP controller; that the opcodes name nothing in the
-- base device is own.
use Rattle.std.specs.Prelude.{ℕ, zero, suc, Bool, List, [], ◌∷◌, map, Option, Some, None, if◌then◌else◌}
use Rattle.signal_values.specs.declared.Sig.{Sig}
use Rattle.signal_values.specs.declared.PinSig.{PinSig}
use Rattle.signal_values.specs.declared.PinSig.TheVariants.{HighZ}
use Rattle.signal_values.specs.Values.{bit}
use Rattle.cell_library.specs.declared.codes.Bits.{Bits}
use Rattle.netlist_model.specs.declared.NetId.{NetId}
use Rattle.bsdl_device.specs.Instructions.{selected_register}
use Rattle.bsdl_device.specs.declared.values.Device.{Device}
use Rattle.test_logic.specs.declared.Levels.{Levels}
use Rattle.test_logic.specs.Instructions.{pattern, is_pattern}
use Rattle.test_logic.specs.Registers.{first_bit, ident_after, tdo_after}
use Rattle.test_logic.specs.Machine.{TestLogic, Machine, zeros, in_effect, bit_of, test_logic_of}
use Rattle.register_gates.specs.BitsLaws.{bit_after}
use Rattle.wrapped_chip.specs.ChipRuns.{ChipMoment}

-- a register: the opcode that selects it, and the nets of the core's wires that it captures, the one nearest TDO first
pub record StatusRegister : Type 0 where
  pub opcode : Bits
  pub wires : List NetId

-- its opcode is latched
abbrev pub is_latched : StatusRegister → Machine → Bool
is_latched r m = is_pattern m.latched (pattern r.opcode)

-- the core's values of its wires
abbrev pub wire_values : StatusRegister → (ℕ → Sig) → List Sig
wire_values r value = map (λ (net : NetId). value net.0) r.wires

-- its list after an event, by the test logic and the core's values from before the event: while its opcode is latched
-- it captures and shifts as other data registers do; TRST at 0 clears it
abbrev pub list_after : StatusRegister → Levels → Levels → (ℕ → Sig) → Machine → List Sig → List Sig
list_after r before after value m kept =
    bit_after before after (zeros r.wires) (ident_after (is_latched r m) (wire_values r value) m.state (bit before.tdi) kept) kept kept

-- a register, and what its list holds at the first moment of a run
pub record HeldRegister : Type 0 where
  pub register : StatusRegister
  pub held : List Sig

-- its list at each moment of a run of the chip
unfoldable pub list_from : HeldRegister → (ℕ → ChipMoment) → ℕ → List Sig
list_from h chip zero = h.held
list_from h chip (suc t) = list_after h.register (chip t).levels (chip (suc t)).levels (chip t).value (chip t).machine (list_from h chip t)

-- the first of the registers whose opcode is latched, by the bit of its list nearest TDO
abbrev pub nearest_of : List HeldRegister → (ℕ → ChipMoment) → ℕ → Option Sig
nearest_of [] chip t = None
nearest_of (h ∷ hs) chip t = if is_latched h.register (chip t).machine then Some (first_bit (list_from h chip t)) else nearest_of hs chip t

-- the bit that a falling edge gives TDO in Shift-DR: that of the register whose opcode is latched, else that of the
-- base device
abbrev pub data_of : Option Sig → TestLogic → Machine → Sig
data_of (Some near) L m = near
data_of None L m = bit_of (selected_register (in_effect L m)) m

-- TDO after an event
abbrev pub tdo_with : TestLogic → Levels → Levels → Machine → Option Sig → PinSig → PinSig
tdo_with L before after m near tdo = bit_after before after HighZ tdo (tdo_after m.state (data_of near L m) (first_bit m.shift)) tdo

-- TDO at each moment of a run of the chip that begins with TDO let go
unfoldable pub tdo_from : List HeldRegister → Device → (ℕ → ChipMoment) → ℕ → PinSig
tdo_from hs B chip zero = HighZ
tdo_from hs B chip (suc t) = tdo_with (test_logic_of B) (chip t).levels (chip (suc t)).levels (chip t).machine (nearest_of hs chip t) (tdo_from hs B chip t)

-- in reset each bit of its list is 0
abbrev pub in_reset : StatusRegister → HeldRegister
in_reset r = record { register = r; held = zeros r.wires }

-- and TDO at each moment of a run from reset
abbrev pub tdo_at : List StatusRegister → Device → (ℕ → ChipMoment) → ℕ → PinSig
tdo_at rs B chip t = tdo_from (map in_reset rs) B chip t
