use Rattle.std.proofs.Common.{◌≡◌, map, take}
use Rattle.status_register.specs.Devices.{register_of}
use Rattle.status_register.proofs.device.register_copies.Given as goal

abbrev pub invariant-loop-fitted : goal.invariant-loop-fitted
invariant-loop-fitted l = l.copies ≡ map register_of (take l.fitted-index l.registers)
