-- The devices with registers of their own that some text spells, by conditions on the device and the registers alone.
-- IEEE Std 1149.1-2001: the annex on BSDL; instruction register; test data registers. The limits are own.
use Rattle.std.specs.Prelude.{◌≡◌, ℕ, ◌≤◌, length, IsFalse}
use Rattle.std.specs.List.{list_any, AllByRecursion}
use Rattle.cell_library.specs.declared.codes.Opcode.{Opcode}
use Rattle.bsdl_lexicon.specs.Names.{is_same_name}
use Rattle.bsdl_lexicon.specs.Pieces.{IsIdentifier}
use Rattle.bsdl_device.specs.declared.values.Device.{Device}
use Rattle.bsdl_device.specs.Instructions.{same_bits}
use Rattle.bsdl_device.specs.Checks.{any_pair}
use Rattle.bsdl_device.specs.IsDevice.{IsDevice, IsDeviceName, IsBits}
use Rattle.bsdl_device.specs.declared.registers.values.TestRegister.{TestRegister}
use Rattle.bsdl_device.specs.declared.registers.values.Extended.{Extended}
use Rattle.bsdl_device.specs.Rules.{names_register, names_some_instruction}

-- names that aren't the profile's, an opcode of the device's length that the device has for no instruction,
-- and 1 to 256 bits
pub record IsTestRegister (d : Device) (r : TestRegister) : Type 0 where
  pub name : IsDeviceName r.name
  pub apart : IsFalse (names_register r.name)
  pub instr : IsIdentifier r.instr
  pub own : IsFalse (names_some_instruction r.instr)
  pub bits : IsBits r.bits
  pub fits : r.bits.len ≡ d.length
  pub free : IsFalse (list_any (λ (o : Opcode). same_bits r.bits o.bits) d.opcodes)
  pub some : 1 ≤ r.length
  pub few : r.length ≤ 256

-- a device, and at most 16 registers, no two with one name, one instruction or one opcode
pub record IsExtended (e : Extended) : Type 0 where
  pub device : IsDevice e.device
  pub few : length e.registers ≤ 16
  pub each : AllByRecursion (IsTestRegister e.device) e.registers
  pub names : IsFalse (any_pair (λ (r : TestRegister) (s : TestRegister). is_same_name r.name s.name) e.registers)
  pub instructions : IsFalse (any_pair (λ (r : TestRegister) (s : TestRegister). is_same_name r.instr s.instr) e.registers)
  pub opcodes : IsFalse (any_pair (λ (r : TestRegister) (s : TestRegister). same_bits r.bits s.bits) e.registers)
