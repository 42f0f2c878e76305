-- What ties texts to devices.
use Rattle.std.specs.Prelude.{◌≡◌, ℕ, List}
use Rattle.bsdl_device.specs.declared.values.Device.{Device}
use Rattle.bsdl_device.specs.Spelled.{SpellsText}
use Rattle.bsdl_device.specs.Canonical.{canonical_device}
use Rattle.bsdl_device.specs.IsDevice.{IsDevice}
use Rattle.bsdl_values.specs.TextOutcome.{IsDeviceReadAs}

-- A byte list spells one device at most.
abbrev pub SpellsOneDevice : Type 0
SpellsOneDevice = (bytes : List ℕ) (d e : Device) → SpellsText bytes d → SpellsText bytes e → d ≡ e

-- The canonical text of a device that keeps the conditions spells that device, and no other.
abbrev pub DevicesAreReadBack : Type 0
DevicesAreReadBack = (d : Device) → IsDevice d → IsDeviceReadAs (canonical_device d) d
