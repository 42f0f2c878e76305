-- The places of faults, where the design may have registers of its own.
-- IEEE Std 1149.1-2001: the annex on BSDL. Which fault comes first is own.
use Rattle.std.specs.Prelude.{◌≡◌, ℕ, List, ◌∷◌, ◌++◌, Some, None, IsTrue}
use Rattle.std.specs.List.{AllByRecursion}
use Rattle.bsdl_lexicon.specs.declared.token.BsdlToken.{BsdlToken}
use Rattle.bsdl_lexicon.specs.declared.words.BsdlWords.{BsdlWords}
use Rattle.bsdl_lexicon.specs.Words.{plain, place_in}
use Rattle.bsdl_device.specs.declared.meaning.MeaningKind.{MeaningKind}
use Rattle.bsdl_device.specs.declared.written.File.{File}
use Rattle.bsdl_device.specs.declared.entries.AccessEntry.{AccessEntry}
use Rattle.bsdl_device.specs.declared.entries.Contents.{Contents}
use Rattle.bsdl_device.specs.Shape.{section_word}
use Rattle.bsdl_device.specs.Spelled.{SpellsFile}
use Rattle.bsdl_device.specs.Meanings.{first_meaning_fault}
use Rattle.bsdl_device.specs.Faults as faults
use Rattle.bsdl_device.specs.declared.registers.fault.ExtendedFault.{ExtendedFault}
use Rattle.bsdl_device.specs.declared.registers.fault.ExtendedFault.TheVariants as fault
use Rattle.bsdl_device.specs.declared.registers.values.RegisterEntry.{RegisterEntry}
use Rattle.bsdl_device.specs.declared.registers.values.Extended.{Extended}
use Rattle.bsdl_device.specs.Entries.{HoldExtended, HasExtendedContents}
use Rattle.bsdl_device.specs.Rules.{base_contents, own_registers_fail}
use Rattle.bsdl_device.specs.RegistersSpelled.{SpellsExtended}

-- a section's strings hold what they may hold: those of REGISTER_ACCESS entries of the design's own too
abbrev pub IsExtendedRight : File → faults.StringSection → Type 0
IsExtendedRight f faults.PinMap = faults.IsRight f faults.PinMap
IsExtendedRight f faults.Opcodes = faults.IsRight f faults.Opcodes
IsExtendedRight f faults.Capture = faults.IsRight f faults.Capture
IsExtendedRight f faults.Idcode = faults.IsRight f faults.Idcode
IsExtendedRight f faults.Usercode = faults.IsRight f faults.Usercode
IsExtendedRight f faults.Access = (list : List AccessEntry) × ((entries : List RegisterEntry) × HoldExtended f.access.strings list entries)
IsExtendedRight f faults.Rows = faults.IsRight f faults.Rows

-- The first section that holds what it can't, by its first string word.
pub record IsExtendedContentsFault (f : File) (number : ℕ) : Type 0 where
  pub before : List faults.StringSection
  pub section : faults.StringSection
  pub behind : List faults.StringSection
  pub order : faults.string_sections ≡ before ++ section ∷ behind
  pub right : AllByRecursion (IsExtendedRight f) before
  pub wrong : IsExtendedRight f section → ⊥
  pub there : number ≡ faults.string_word f section

-- The words are no file's, or a section of their file holds what it can't.
pub data IsExtendedSyntax : List BsdlToken → ℕ → Type 0 where
  in_shape : {words : List BsdlToken} {number : ℕ} → faults.IsShapeFault words number → IsExtendedSyntax words number
  in_contents : {words : List BsdlToken} {number : ℕ} (f : File) → SpellsFile words f → IsExtendedContentsFault f number → IsExtendedSyntax words number

-- The words are a file's that holds what it may, and this is the first rule that its base breaks.
pub record IsBaseFault (words : List BsdlToken) (kind : MeaningKind) (number : ℕ) : Type 0 where
  pub file : File
  pub spells : SpellsFile words file
  pub contents : Contents
  pub entries : List RegisterEntry
  pub holds : HasExtendedContents file contents entries
  pub first : first_meaning_fault file (base_contents contents entries) ≡ Some (record { kind = kind; word = number })

-- The words are a file's whose base breaks no rule, but the registers of its own do; it is told at REGISTER_ACCESS.
pub record IsRegistersFault (words : List BsdlToken) (number : ℕ) : Type 0 where
  pub file : File
  pub spells : SpellsFile words file
  pub contents : Contents
  pub entries : List RegisterEntry
  pub holds : HasExtendedContents file contents entries
  pub means : first_meaning_fault file (base_contents contents entries) ≡ None
  pub wrong : IsTrue (own_registers_fail file contents entries)
  pub there : number ≡ section_word file 14

-- With places: the words spell no device, and the fault is told at the word of this number, at its place in the text.
pub record IsToldAt (words : BsdlWords) (Fault : List BsdlToken → ℕ → Type 0) (place word : ℕ) : Type 0 where
  pub unspelled : (extended : Extended) → SpellsExtended words.list extended → ⊥
  pub fault : Fault (plain words.list) word
  pub there : place ≡ place_in words.list words.end word

-- why words spell no device; nothing is said where memory was refused
abbrev pub IsExtendedFault : BsdlWords → ExtendedFault → Type 0
IsExtendedFault words (fault.BsdlSyntax place word) = IsToldAt words IsExtendedSyntax place word
IsExtendedFault words (fault.BsdlMeaning kind place) = (word : ℕ) × IsToldAt words (λ ws n. IsBaseFault ws kind n) place word
IsExtendedFault words (fault.BsdlExtra place) = (word : ℕ) × IsToldAt words IsRegistersFault place word
IsExtendedFault words fault.OutOfMemory = Unit {0}
