use Rattle.status_register.proofs.Devices.{registers_make}
use Rattle.status_register.proofs.laws.registers_make_devices.Goals as goal

pub returns : goal.returns
returns c = registers_make c.plans_make_devices.ensures c.fitted_registers_are_own.ensures
