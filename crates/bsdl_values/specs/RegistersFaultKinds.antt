-- own: a fault of a file's words as one of the device.
use Rattle.bsdl_files.specs.declared.fault.FileFault.{FileFault}
use Rattle.bsdl_files.specs.declared.fault.FileFault.TheVariants as file
use Rattle.bsdl_device.specs.declared.registers.fault.ExtendedFault.{ExtendedFault}
use Rattle.bsdl_device.specs.declared.registers.fault.ExtendedFault.TheVariants as fault

abbrev pub file_fault : FileFault → ExtendedFault
file_fault (file.BsdlSyntax place number) = fault.BsdlSyntax place number
file_fault file.OutOfMemory = fault.OutOfMemory
