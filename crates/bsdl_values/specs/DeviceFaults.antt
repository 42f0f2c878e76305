-- Why words spell no device.
-- IEEE Std 1149.1-2001: the annex on BSDL. Which fault comes first is own.
use Rattle.std.specs.Prelude.{◌≡◌, ℕ}
use Rattle.bsdl_lexicon.specs.declared.words.BsdlWords.{BsdlWords}
use Rattle.bsdl_lexicon.specs.Words.{plain, place_in}
use Rattle.bsdl_device.specs.declared.meaning.MeaningKind.{MeaningKind}
use Rattle.bsdl_device.specs.declared.values.Device.{Device}
use Rattle.bsdl_device.specs.Spelled.{SpellsDevice}
use Rattle.bsdl_device.specs.Faults.{IsSyntaxFault, IsMeaningFault}
use Rattle.bsdl_device.specs.declared.fault.DeviceFault.{DeviceFault}
use Rattle.bsdl_device.specs.declared.fault.DeviceFault.TheVariants.{BsdlSyntax, BsdlMeaning, OutOfMemory}

-- The words spell no device: they are no file's, or strings hold what they can't, and this is the word, at its
-- place in the text.
pub record IsBsdlSyntax (words : BsdlWords) (place word : ℕ) : Type 0 where
  pub unspelled : (device : Device) → SpellsDevice words.list device → ⊥
  pub fault : IsSyntaxFault (plain words.list) word
  pub there : place ≡ place_in words.list words.end word

-- The words spell no device: their file breaks a rule of this kind first, which is told at the word at this place.
pub record IsBsdlMeaning (words : BsdlWords) (kind : MeaningKind) (place : ℕ) : Type 0 where
  pub unspelled : (device : Device) → SpellsDevice words.list device → ⊥
  pub word : ℕ
  pub fault : IsMeaningFault (plain words.list) kind word
  pub there : place ≡ place_in words.list words.end word

-- own: the fault stands in the words; nothing is said where memory was refused
abbrev pub IsDeviceFault : BsdlWords → DeviceFault → Type 0
IsDeviceFault words (BsdlSyntax place word) = IsBsdlSyntax words place word
IsDeviceFault words (BsdlMeaning kind place) = IsBsdlMeaning words kind place
IsDeviceFault words OutOfMemory = Unit {0}
