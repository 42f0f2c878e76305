-- A device with the registers that were fitted.
-- IEEE Std 1149.1-2001: design-specific test data registers, the annex on BSDL.
use Rattle.std.specs.Prelude.{map}
use Rattle.bsdl_device.specs.declared.values.Device.{Device}
use Rattle.bsdl_device.specs.declared.registers.values.TestRegister.{TestRegister}
use Rattle.bsdl_device.specs.declared.registers.values.Extended.{Extended}
use Rattle.status_fitting.specs.declared.fitted.FittedRegister.{FittedRegister}
use Rattle.status_fitting.specs.declared.fitted.FittedStatus.{FittedStatus}

-- own: what a text says of a register: all but which wires it captures
abbrev pub register_of : FittedRegister → TestRegister
register_of r = r.register

-- the registers stand in the order of their lines
abbrev pub extended_of : Device → FittedStatus → Extended
extended_of d s = record { device = d; registers = map register_of s.registers }
