-- own: where memory is refused.
use Rattle.bsdl_device.specs.declared.registers.fault.ExtendedFault.{ExtendedFault}
use Rattle.bsdl_device.specs.declared.registers.fault.ExtendedFault.TheVariants as fault

abbrev pub memory_fault : ExtendedFault
memory_fault = fault.OutOfMemory
