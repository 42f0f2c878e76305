use Rattle.word_cutter.specs.declared.fault.CutFault.{CutFault}
use Rattle.word_cutter.specs.declared.fault.CutFault.TheVariants as cut
use Rattle.verilog_words.specs.declared.fault.WordFault.{WordFault}
use Rattle.verilog_words.specs.declared.fault.WordFault.TheVariants.{BadWord, OutOfMemory}

-- a fault by its name in this language (own)
abbrev pub word_fault : CutFault → WordFault
word_fault (cut.BadByte place) = BadWord place
word_fault cut.OutOfMemory = OutOfMemory
