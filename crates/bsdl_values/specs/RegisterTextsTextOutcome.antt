-- What is read from the bytes of a text, where the device may have registers of its own.
-- IEEE Std 1149.1-2001: the annex on BSDL.
use Rattle.std.specs.Prelude.{◌≡◌, ℕ, List}
use Rattle.bsdl_lexicon.specs.declared.words.BsdlWords.{BsdlWords}
use Rattle.bsdl_values.specs.TextOutcome.{HasBsdlWords}
use Rattle.bsdl_device.specs.declared.registers.fault.ExtendedFault.{ExtendedFault}
use Rattle.bsdl_device.specs.declared.registers.values.Extended.{Extended}
use Rattle.bsdl_device.specs.RegistersCanonical.{canonical_extended}
use Rattle.bsdl_device.specs.RegistersFaults.{IsExtendedFault}
use Rattle.bsdl_device.specs.RegistersSpelled.{SpellsExtended, SpellsExtendedText}

-- The words spell this device, and no other.
pub record SpelledExtended (words : BsdlWords) (extended : Extended) : Type 0 where
  pub spells : SpellsExtended words.list extended
  pub only : (other : Extended) → SpellsExtended words.list other → other ≡ extended

-- The bytes spell this device, and no other; so does the device's canonical text.
pub record IsExtendedReadAs (bytes : List ℕ) (extended : Extended) : Type 0 where
  pub spells : SpellsExtendedText bytes extended
  pub only : (other : Extended) → SpellsExtendedText bytes other → other ≡ extended
  pub again : SpellsExtendedText (canonical_extended extended) extended
  pub again_only : (other : Extended) → SpellsExtendedText (canonical_extended extended) other → other ≡ extended

-- The bytes have words, and this is why they spell no device.
pub record HasWordsFault (bytes : List ℕ) (fault : ExtendedFault) : Type 0 where
  pub words : BsdlWords
  pub has : HasBsdlWords bytes words
  pub stands : IsExtendedFault words fault
