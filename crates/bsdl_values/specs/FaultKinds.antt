-- own: a fault of a file's words, or of a text's bytes, as one of the whole.
use Rattle.bsdl_files.specs.declared.fault.FileFault.{FileFault}
use Rattle.bsdl_files.specs.declared.fault.FileFault.TheVariants as file
use Rattle.bsdl_words.specs.declared.fault.BsdlWordFault.{BsdlWordFault}
use Rattle.bsdl_words.specs.declared.fault.BsdlWordFault.TheVariants as word
use Rattle.bsdl_device.specs.declared.fault.DeviceFault.{DeviceFault}
use Rattle.bsdl_device.specs.declared.fault.DeviceFault.TheVariants as device
use Rattle.bsdl_device.specs.declared.fault.DeviceTextFault.{DeviceTextFault}
use Rattle.bsdl_device.specs.declared.fault.DeviceTextFault.TheVariants as text

abbrev pub file_fault : FileFault → DeviceFault
file_fault (file.BsdlSyntax place number) = device.BsdlSyntax place number
file_fault file.OutOfMemory = device.OutOfMemory

abbrev pub word_fault : BsdlWordFault → DeviceTextFault
word_fault (word.BsdlWord place) = text.BsdlWord place
word_fault word.OutOfMemory = text.OutOfMemory
