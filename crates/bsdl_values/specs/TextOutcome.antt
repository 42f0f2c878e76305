-- What is read from the bytes of a text.
-- IEEE Std 1149.1-2001: the annex on BSDL.
use Rattle.std.specs.Prelude.{◌≡◌, ℕ, List, length}
use Rattle.bsdl_lexicon.specs.declared.token.BsdlSpanned.{BsdlSpanned}
use Rattle.bsdl_lexicon.specs.declared.words.BsdlWords.{BsdlWords}
use Rattle.bsdl_lexicon.specs.Pieces.{words_of, IsPlace}
use Rattle.bsdl_device.specs.declared.meaning.MeaningKind.{MeaningKind}
use Rattle.bsdl_device.specs.declared.values.Device.{Device}
use Rattle.bsdl_device.specs.Spelled.{SpellsDevice, SpellsText}
use Rattle.bsdl_device.specs.Canonical.{canonical_device}
use Rattle.bsdl_values.specs.DeviceFaults.{IsBsdlSyntax, IsBsdlMeaning}

-- The words of the bytes are these, and no others.
pub record HasBsdlWords (bytes : List ℕ) (words : BsdlWords) : Type 0 where
  pub cut : words_of bytes words.list
  pub only : (others : List BsdlSpanned) → words_of bytes others → others ≡ words.list
  pub end_is : words.end ≡ length bytes

-- The words spell this device, and no other.
pub record SpelledDevice (words : BsdlWords) (device : Device) : Type 0 where
  pub spells : SpellsDevice words.list device
  pub only : (other : Device) → SpellsDevice words.list other → other ≡ device

-- The bytes spell this device, and no other; so does the device's canonical text.
pub record IsDeviceReadAs (bytes : List ℕ) (device : Device) : Type 0 where
  pub spells : SpellsText bytes device
  pub only : (other : Device) → SpellsText bytes other → other ≡ device
  pub again : SpellsText (canonical_device device) device
  pub again_only : (other : Device) → SpellsText (canonical_device device) other → other ≡ device

-- The bytes have no words, and this is the place.
pub record IsBsdlWord (bytes : List ℕ) (place : ℕ) : Type 0 where
  pub none : (words : List BsdlSpanned) → words_of bytes words → ⊥
  pub place_is : IsPlace bytes place

-- The bytes have words, which are no file's or hold what they can't, and this is the word, with its place.
pub record HasBsdlSyntax (bytes : List ℕ) (place word : ℕ) : Type 0 where
  pub words : BsdlWords
  pub has : HasBsdlWords bytes words
  pub syntax : IsBsdlSyntax words place word

-- The bytes have words, whose file breaks a rule of this kind first, and this is the place of the section.
pub record HasBsdlMeaning (bytes : List ℕ) (kind : MeaningKind) (place : ℕ) : Type 0 where
  pub words : BsdlWords
  pub has : HasBsdlWords bytes words
  pub meaning : IsBsdlMeaning words kind place
