-- What ties texts to devices with registers of their own.
use Rattle.std.specs.Prelude.{◌≡◌, ℕ, List}
use Rattle.bsdl_device.specs.declared.registers.values.Extended.{Extended}
use Rattle.bsdl_device.specs.RegistersSpelled.{SpellsExtendedText}

-- A byte list spells one device at most.
abbrev pub SpellsOneExtended : Type 0
SpellsOneExtended = (bytes : List ℕ) (made other : Extended) → SpellsExtendedText bytes made → SpellsExtendedText bytes other → other ≡ made
