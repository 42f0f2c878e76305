-- own: a fault of words, or of a text's bytes, as one of the text.
use Rattle.bsdl_words.specs.declared.fault.BsdlWordFault.{BsdlWordFault}
use Rattle.bsdl_words.specs.declared.fault.BsdlWordFault.TheVariants as word
use Rattle.bsdl_device.specs.declared.registers.fault.ExtendedFault.{ExtendedFault}
use Rattle.bsdl_device.specs.declared.registers.fault.ExtendedFault.TheVariants as fault
use Rattle.bsdl_values.specs.declared.register_texts.fault.ExtendedTextFault.{ExtendedTextFault}
use Rattle.bsdl_values.specs.declared.register_texts.fault.ExtendedTextFault.TheVariants as text

abbrev pub extended_fault : ExtendedFault → ExtendedTextFault
extended_fault (fault.BsdlSyntax place number) = text.BsdlSyntax place number
extended_fault (fault.BsdlMeaning kind place) = text.BsdlMeaning kind place
extended_fault (fault.BsdlExtra place) = text.BsdlExtra place
extended_fault fault.OutOfMemory = text.OutOfMemory

abbrev pub word_fault : BsdlWordFault → ExtendedTextFault
word_fault (word.BsdlWord place) = text.BsdlWord place
word_fault word.OutOfMemory = text.OutOfMemory

abbrev pub memory_fault : ExtendedTextFault
memory_fault = text.OutOfMemory
