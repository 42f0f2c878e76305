-- The text of the program of the device that bytes spell.
-- IEEE Std 1149.1-2001: the annex on BSDL, and test access port. The texts of events are own.
use Rattle.std.specs.Prelude.{◌≡◌, ℕ, List}
use Rattle.bsdl_device.specs.declared.values.Device.{Device}
use Rattle.bsdl_device.specs.Spelled.{SpellsText}
use Rattle.scan_vectors.specs.declared.lines.Lines.{Lines}
use Rattle.scan_vectors.specs.Grammar.{SpellsLines}
use Rattle.scan_vectors.specs.Canonical.{canonical_lines, canonical_text}
use Rattle.scan_programs.specs.Program.{program_of}

-- The bytes spell one device; the text is the canonical text of its program, which spells the lines of this
-- program and no others.
pub record IsProgramText (bytes text : List ℕ) : Type 0 where
  pub device : Device
  pub spells : SpellsText bytes device
  pub only : (other : Device) → SpellsText bytes other → other ≡ device
  pub text_is : text ≡ canonical_text (program_of device)
  pub again : SpellsLines text (canonical_lines (program_of device))
  pub again_only : (other : Lines) → SpellsLines text other → other ≡ canonical_lines (program_of device)
