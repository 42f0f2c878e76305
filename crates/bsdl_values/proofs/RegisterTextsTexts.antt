-- From the words of a text to the device that it spells, and from the faults of parts to those of a text.
use Rattle.std.proofs.Common.{◌≡◌, ℕ, List}
use Rattle.bsdl_lexicon.specs.declared.words.BsdlWords.{BsdlWords}
use Rattle.bsdl_words.specs.declared.fault.BsdlWordFault.{BsdlWordFault}
use Rattle.bsdl_words.specs.declared.fault.BsdlWordFault.TheVariants as word
use Rattle.bsdl_words.specs.Fed.{IsEndFault}
use Rattle.bsdl_values.specs.TextOutcome.{HasBsdlWords}
use Rattle.bsdl_device.specs.declared.registers.fault.ExtendedFault.{ExtendedFault}
use Rattle.bsdl_device.specs.declared.registers.fault.ExtendedFault.TheVariants as fault
use Rattle.bsdl_device.specs.declared.registers.values.Extended.{Extended}
use Rattle.bsdl_device.specs.RegistersCanonical.{canonical_extended}
use Rattle.bsdl_device.specs.RegistersFaults.{IsExtendedFault}
use Rattle.bsdl_device.specs.RegistersSpelled.{SpellsExtendedText}
use Rattle.bsdl_values.specs.declared.register_texts.fault.ExtendedTextFault.{ExtendedTextFault}
use Rattle.bsdl_values.specs.declared.register_texts.fault.ExtendedTextFault.TheVariants as text
use Rattle.bsdl_values.specs.RegisterTextsFaultKinds.{extended_fault, word_fault}
use Rattle.bsdl_values.specs.RegisterTextsLaws.{SpellsOneExtended}
use Rattle.bsdl_values.specs.RegisterTextsTextOutcome.{SpelledExtended, IsExtendedReadAs}
use Rattle.bsdl_values.specs.RegisterTextsTextFaults.{IsExtendedTextFault, IsWordsFault}

pub end_fault : (e : BsdlWordFault) (bytes : List ℕ) → IsEndFault e bytes → IsExtendedTextFault bytes (word_fault e)
end_fault word.OutOfMemory bytes stands = tt
end_fault (word.BsdlWord place) bytes stands = record { none = stands.1; place_is = stands.0 }

pub words_fault : (e : ExtendedFault) (words : BsdlWords) → IsExtendedFault words e → IsWordsFault words (extended_fault e)
words_fault fault.OutOfMemory words stands = tt
words_fault (fault.BsdlSyntax place number) words stands = stands
words_fault (fault.BsdlMeaning kind place) words stands = stands
words_fault (fault.BsdlExtra place) words stands = stands

-- a fault of the words is one of the text
pub text_fault : (e : ExtendedTextFault) (bytes : List ℕ) (words : BsdlWords) → HasBsdlWords bytes words → IsWordsFault words e → IsExtendedTextFault bytes e
text_fault text.OutOfMemory bytes words has stands = tt
text_fault (text.BsdlWord place) bytes words has stands = absurd stands
text_fault (text.BsdlSyntax place number) bytes words has stands = record { words = words; has = has; stands = stands }
text_fault (text.BsdlMeaning kind place) bytes words has stands = record { words = words; has = has; stands = stands }
text_fault (text.BsdlExtra place) bytes words has stands = record { words = words; has = has; stands = stands }

-- the text whose words spell the device
pub text_spelled : (bytes : List ℕ) (words : BsdlWords) (made : Extended) → HasBsdlWords bytes words → SpelledExtended words made → SpellsExtendedText bytes made
text_spelled bytes words made has spelled = record { words = words.list; cut = has.cut; spells = spelled.spells }

pub read_as : SpellsOneExtended → (bytes : List ℕ) (made : Extended) → SpellsExtendedText bytes made → SpellsExtendedText (canonical_extended made) made → IsExtendedReadAs bytes made
read_as once bytes made here back = record {
  spells = here;
  only = λ other s. once bytes made other here s;
  again = back;
  again_only = λ other s. once (canonical_extended made) made other back s;
}
