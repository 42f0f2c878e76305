use Rattle.word_cutter.specs.declared.fault.CutFault.{CutFault}
use Rattle.word_cutter.specs.declared.fault.CutFault.TheVariants as cut
use Rattle.bsdl_words.specs.declared.fault.BsdlWordFault.{BsdlWordFault}
use Rattle.bsdl_words.specs.declared.fault.BsdlWordFault.TheVariants.{BsdlWord, OutOfMemory}

-- a fault by its name in this language (own)
abbrev pub word_fault : CutFault → BsdlWordFault
word_fault (cut.BadByte place) = BsdlWord place
word_fault cut.OutOfMemory = OutOfMemory
