-- What a machine's fields stand for: the test logic of a device, and what it holds.
use Rattle.std.specs.Prelude.{◌≡◌, length}
use Rattle.signal_values.specs.declared.Sig.{Sig}
use Rattle.bsdl_device.specs.Instructions.{is_register}
use Rattle.bsdl_device.specs.declared.entries.Register.{Register}
use Rattle.bsdl_device.specs.declared.entries.Register.TheVariants as register
use Rattle.bsdl_device.specs.declared.values.Device.{Device}
use Rattle.test_logic.specs.Instructions.{pattern, reset_opcode}
use Rattle.test_logic.specs.Registers.{first_bit, latched_after, updated_after}
use Rattle.test_logic.specs.Machine as definition
use Rattle.tap_machine.specs.declared.data_registers.DataRegisters.{DataRegisters}
use Rattle.tap_machine.specs.declared.logic.Logic.{Logic}
use Rattle.tap_machine.specs.declared.held.Held.{Held}

-- the opcode that reset latches is as long as the instruction register
pub record LatchesWhole (B : Device) : Type 0 where
  pub length_of_reset : length (reset_opcode B.opcodes) ≡ length (pattern B.capture)

-- a machine: the test logic, and what it holds
pub record MachineView : Type 0 where
  pub logic : definition.TestLogic
  pub holds : definition.Machine

-- the bit nearest TDO of a test data register
abbrev pub nearest : Register → DataRegisters → Sig
nearest register.Boundary d = first_bit d.boundary.items
nearest register.Bypass d = d.bypass
nearest register.DeviceId d = first_bit d.ident.items

abbrev pub logic_of : Logic → definition.TestLogic
logic_of l = record { opcodes = l.opcodes.items; capture = l.capture.items; code = l.code.items; user = l.user.items; kinds = l.kinds.items }

abbrev pub holds_of : Held → definition.Machine
holds_of h = record {
  state = h.state;
  shift = h.shift.items;
  latched = h.latched.items;
  bypass = h.data.bypass;
  ident = h.data.ident.items;
  boundary = h.data.boundary.items;
  update = h.update.items;
  tdo = h.tdo;
}

-- what a falling edge makes of the latched opcode and of the update stage, where this register is selected
abbrev pub latched_and_updated : definition.TestLogic → Register → definition.Machine → definition.Machine
latched_and_updated L selected m = record m {
  latched = latched_after (reset_opcode L.opcodes) m.state m.shift m.latched;
  update = updated_after (is_register register.Boundary selected) L.kinds m.state m.boundary m.update;
}

-- the opcode kept for reset is the right one, and as long as the instruction register; the usercode is as
-- long as the code
pub record IsLogic (l : Logic) : Type 0 where
  pub reset_is : l.reset_opcode.items ≡ reset_opcode l.opcodes.items
  pub reset_fits : length l.reset_opcode.items ≡ length l.capture.items
  pub user_fits : length l.user.items ≡ length l.code.items

-- the registers have their lengths, and the instruction kept is the one in effect
pub record IsHeld (l : Logic) (h : Held) : Type 0 where
  pub instruction : h.instruction ≡ definition.in_effect (logic_of l) (holds_of h)
  pub shift : length h.shift.items ≡ length l.capture.items
  pub latched : length h.latched.items ≡ length l.capture.items
  pub ident : length h.data.ident.items ≡ length l.code.items
  pub boundary : length h.data.boundary.items ≡ length l.kinds.items
  pub update : length h.update.items ≡ length l.kinds.items
