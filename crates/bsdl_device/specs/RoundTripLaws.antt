-- What ties canonical texts to devices.
use Rattle.std.specs.Prelude.{ℕ, List}
use Rattle.bsdl_device.specs.declared.values.Device.{Device}
use Rattle.bsdl_device.specs.Spelled.{SpellsText}
use Rattle.bsdl_device.specs.Canonical.{canonical_device}
use Rattle.bsdl_device.specs.IsDevice.{IsDevice}

-- The canonical text of a device that some bytes spell spells that device.
abbrev pub CanonicalReadsBack : Type 0
CanonicalReadsBack = (bytes : List ℕ) (device : Device) → SpellsText bytes device → SpellsText (canonical_device device) device

-- A device that some bytes spell keeps the conditions.
abbrev pub SpelledDevicesKeep : Type 0
SpelledDevicesKeep = (bytes : List ℕ) (device : Device) → SpellsText bytes device → IsDevice device

-- A device that keeps the conditions is spelled by its canonical text.
abbrev pub CanonicalSpells : Type 0
CanonicalSpells = (device : Device) → IsDevice device → SpellsText (canonical_device device) device
