-- What ties canonical texts to devices with registers of their own.
use Rattle.std.specs.Prelude.{ℕ, List}
use Rattle.bsdl_device.specs.declared.registers.values.Extended.{Extended}
use Rattle.bsdl_device.specs.RegistersCanonical.{canonical_extended}
use Rattle.bsdl_device.specs.IsExtended.{IsExtended}
use Rattle.bsdl_device.specs.RegistersSpelled.{SpellsExtendedText}

-- A device that some bytes spell keeps the conditions.
abbrev pub SpelledExtendedKeep : Type 0
SpelledExtendedKeep = (bytes : List ℕ) (extended : Extended) → SpellsExtendedText bytes extended → IsExtended extended

-- A device that keeps the conditions is spelled by its canonical text.
abbrev pub CanonicalExtendedSpells : Type 0
CanonicalExtendedSpells = (extended : Extended) → IsExtended extended → SpellsExtendedText (canonical_extended extended) extended
