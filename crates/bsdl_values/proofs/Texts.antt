-- From the words of a text to the device that it spells, and from the faults of parts to those of a text.
use Rattle.std.proofs.Common.{◌≡◌, ℕ, List, [], subst, ◌∙◌}
use Rattle.bsdl_lexicon.specs.declared.token.BsdlSpanned.{BsdlSpanned}
use Rattle.bsdl_lexicon.specs.declared.words.BsdlWords.{BsdlWords}
use Rattle.bsdl_device.specs.declared.values.Device.{Device}
use Rattle.bsdl_device.specs.Canonical.{canonical_device}
use Rattle.bsdl_device.specs.Spelled.{SpellsDevice, SpellsText}
use Rattle.bsdl_words.specs.declared.fault.BsdlWordFault.{BsdlWordFault}
use Rattle.bsdl_words.specs.declared.fault.BsdlWordFault.TheVariants as word
use Rattle.bsdl_words.specs.Fed.{IsEndFault}
use Rattle.bsdl_words.specs.Laws.{AreOneList}
use Rattle.bsdl_device.specs.declared.fault.DeviceFault.{DeviceFault}
use Rattle.bsdl_device.specs.declared.fault.DeviceFault.TheVariants as device
use Rattle.bsdl_device.specs.declared.fault.DeviceTextFault.{DeviceTextFault}
use Rattle.bsdl_device.specs.declared.fault.DeviceTextFault.TheVariants.{BsdlWord, BsdlSyntax, BsdlMeaning, OutOfMemory}
use Rattle.bsdl_values.specs.DeviceFaults.{IsDeviceFault}
use Rattle.bsdl_device.specs.FaultKinds.{device_fault}
use Rattle.bsdl_values.specs.FaultKinds.{word_fault}
use Rattle.bsdl_values.specs.TextOutcome.{HasBsdlWords, SpelledDevice, IsDeviceReadAs}
use Rattle.bsdl_values.specs.TextFaults.{IsDeviceTextFault, IsWordsFault}
use Rattle.bsdl_values.proofs.Faults.{AreOne, one_device}

pub end_fault : (e : BsdlWordFault) (bytes : List ℕ) → IsEndFault e bytes → IsDeviceTextFault bytes (word_fault e)
end_fault word.OutOfMemory bytes fault = tt
end_fault (word.BsdlWord place) bytes fault = record { none = fault.1; place_is = fault.0 }

pub words_fault : (e : DeviceFault) (words : BsdlWords) → IsDeviceFault words e → IsWordsFault words (device_fault e)
words_fault device.OutOfMemory words fault = tt
words_fault (device.BsdlSyntax place number) words fault = fault
words_fault (device.BsdlMeaning kind place) words fault = fault

-- a fault of the words is one of the text
pub text_fault : (e : DeviceTextFault) (bytes : List ℕ) (words : BsdlWords) → HasBsdlWords bytes words → IsWordsFault words e → IsDeviceTextFault bytes e
text_fault OutOfMemory bytes words has fault = tt
text_fault (BsdlWord place) bytes words has fault = absurd fault
text_fault (BsdlSyntax place number) bytes words has fault = record { words = words; has = has; syntax = fault }
text_fault (BsdlMeaning kind place) bytes words has fault = record { words = words; has = has; meaning = fault }

-- bytes spell one device at most
pub spells_once : AreOne → AreOneList → (bytes : List ℕ) (made other : Device) → SpellsText bytes made → SpellsText bytes other → other ≡ made
spells_once one cut bytes made other a b =
    one_device one a.words made other a.spells (subst (λ (ws : List BsdlSpanned). SpellsDevice ws other) (cut bytes a.words b.words a.cut b.cut) b.spells)

-- a device that bytes spell, where its canonical text spells it too
pub read_as : AreOne → AreOneList → (bytes : List ℕ) (made : Device) → SpellsText bytes made → SpellsText (canonical_device made) made → IsDeviceReadAs bytes made
read_as one cut bytes made here back = record {
  spells = here;
  only = λ other s. spells_once one cut bytes made other here s;
  again = back;
  again_only = λ other s. spells_once one cut (canonical_device made) made other back s;
}

-- the text whose words spell the device
pub text_spelled : (bytes : List ℕ) (words : BsdlWords) (made : Device) → HasBsdlWords bytes words → SpelledDevice words made → SpellsText bytes made
text_spelled bytes words made has spelled = record { words = words.list; cut = has.cut; spells = spelled.spells }
