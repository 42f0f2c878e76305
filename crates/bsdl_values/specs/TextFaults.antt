-- When a text spells no device. Own.
use Rattle.std.specs.Prelude.{ℕ, List}
use Rattle.bsdl_lexicon.specs.declared.words.BsdlWords.{BsdlWords}
use Rattle.bsdl_device.specs.declared.fault.DeviceTextFault.{DeviceTextFault}
use Rattle.bsdl_device.specs.declared.fault.DeviceTextFault.TheVariants.{BsdlWord, BsdlSyntax, BsdlMeaning, OutOfMemory}
use Rattle.bsdl_values.specs.DeviceFaults.{IsBsdlSyntax, IsBsdlMeaning}
use Rattle.bsdl_values.specs.TextOutcome.{IsBsdlWord, HasBsdlSyntax, HasBsdlMeaning}

-- the fault stands in a text
abbrev pub IsDeviceTextFault : List ℕ → DeviceTextFault → Type 0
IsDeviceTextFault bytes (BsdlWord place) = IsBsdlWord bytes place
IsDeviceTextFault bytes (BsdlSyntax place number) = HasBsdlSyntax bytes place number
IsDeviceTextFault bytes (BsdlMeaning kind place) = HasBsdlMeaning bytes kind place
IsDeviceTextFault bytes OutOfMemory = Unit {0}

-- the fault stands in a list of words
abbrev pub IsWordsFault : BsdlWords → DeviceTextFault → Type 0
IsWordsFault words (BsdlWord place) = ⊥
IsWordsFault words (BsdlSyntax place number) = IsBsdlSyntax words place number
IsWordsFault words (BsdlMeaning kind place) = IsBsdlMeaning words kind place
IsWordsFault words OutOfMemory = Unit {0}
