-- When a text spells no device, where that may have registers of its own. Own.
use Rattle.std.specs.Prelude.{ℕ, List}
use Rattle.bsdl_lexicon.specs.declared.words.BsdlWords.{BsdlWords}
use Rattle.bsdl_values.specs.TextOutcome.{IsBsdlWord}
use Rattle.bsdl_device.specs.declared.registers.fault.ExtendedFault.TheVariants as fault
use Rattle.bsdl_device.specs.RegistersFaults.{IsExtendedFault}
use Rattle.bsdl_values.specs.declared.register_texts.fault.ExtendedTextFault.{ExtendedTextFault}
use Rattle.bsdl_values.specs.declared.register_texts.fault.ExtendedTextFault.TheVariants as text
use Rattle.bsdl_values.specs.RegisterTextsTextOutcome.{HasWordsFault}

-- the fault stands in a text
abbrev pub IsExtendedTextFault : List ℕ → ExtendedTextFault → Type 0
IsExtendedTextFault bytes (text.BsdlWord place) = IsBsdlWord bytes place
IsExtendedTextFault bytes (text.BsdlSyntax place number) = HasWordsFault bytes (fault.BsdlSyntax place number)
IsExtendedTextFault bytes (text.BsdlMeaning kind place) = HasWordsFault bytes (fault.BsdlMeaning kind place)
IsExtendedTextFault bytes (text.BsdlExtra place) = HasWordsFault bytes (fault.BsdlExtra place)
IsExtendedTextFault bytes text.OutOfMemory = Unit {0}

-- the fault stands in a list of words
abbrev pub IsWordsFault : BsdlWords → ExtendedTextFault → Type 0
IsWordsFault words (text.BsdlWord place) = ⊥
IsWordsFault words (text.BsdlSyntax place number) = IsExtendedFault words (fault.BsdlSyntax place number)
IsWordsFault words (text.BsdlMeaning kind place) = IsExtendedFault words (fault.BsdlMeaning kind place)
IsWordsFault words (text.BsdlExtra place) = IsExtendedFault words (fault.BsdlExtra place)
IsWordsFault words text.OutOfMemory = Unit {0}
