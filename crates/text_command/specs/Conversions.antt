-- What `canon` and `showbsdl` make of the bytes that they read.
use Rattle.std.specs.Prelude.{◌≡◌, ℕ, List}
use Rattle.verilog_tree.specs.declared.tree.Module.{Module}
use Rattle.verilog_tree.specs.Texts.{SpellsText as SpellsModuleText}
use Rattle.verilog_tree.specs.Canonical.{canonical}
use Rattle.bsdl_device.specs.declared.values.Device.{Device}
use Rattle.bsdl_device.specs.Spelled.{SpellsText as SpellsDeviceText}
use Rattle.bsdl_device.specs.Canonical.{canonical_device}
use Rattle.text_command.specs.declared.convert.conversion.Conversion.{Conversion}
use Rattle.text_command.specs.declared.convert.conversion.Conversion.TheVariants.{Canon, ShowBsdl}

-- The bytes spell one tree; the text is its canonical text, which spells that tree and no other.
pub record IsCanonicalModule (bytes text : List ℕ) : Type 0 where
  pub tree : Module
  pub spells : SpellsModuleText bytes tree
  pub only : (other : Module) → SpellsModuleText bytes other → other ≡ tree
  pub text_is : text ≡ canonical tree
  pub again : SpellsModuleText text tree
  pub again_only : (other : Module) → SpellsModuleText text other → other ≡ tree

-- The bytes spell one device; the text is its canonical text, which spells that device and no other.
pub record IsCanonicalDevice (bytes text : List ℕ) : Type 0 where
  pub device : Device
  pub spells : SpellsDeviceText bytes device
  pub only : (other : Device) → SpellsDeviceText bytes other → other ≡ device
  pub text_is : text ≡ canonical_device device
  pub again : SpellsDeviceText text device
  pub again_only : (other : Device) → SpellsDeviceText text other → other ≡ device

-- The text is what the conversion makes of the bytes.
abbrev pub IsConverted : Conversion → List ℕ → List ℕ → Type 0
IsConverted Canon bytes text = IsCanonicalModule bytes text
IsConverted ShowBsdl bytes text = IsCanonicalDevice bytes text

-- own: the bytes spell what the conversion reads
abbrev pub IsSpelled : Conversion → List ℕ → Type 0
IsSpelled Canon bytes = (tree : Module) × SpellsModuleText bytes tree
IsSpelled ShowBsdl bytes = (device : Device) × SpellsDeviceText bytes device
