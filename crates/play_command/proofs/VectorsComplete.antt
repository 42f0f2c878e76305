-- A text that spells a device has no fault but want of memory.
use Rattle.std.proofs.Common.{◌≡◌, ℕ, List, refl, subst}
use Rattle.bsdl_lexicon.specs.declared.token.BsdlSpanned.{BsdlSpanned}
use Rattle.bsdl_device.specs.Spelled.{SpellsDevice}
use Rattle.bsdl_device.specs.declared.fault.DeviceTextFault.{DeviceTextFault}
use Rattle.bsdl_device.specs.declared.fault.DeviceTextFault.TheVariants as device
use Rattle.bsdl_values.specs.TextFaults.{IsDeviceTextFault}
use Rattle.command_faults.specs.declared.fault.Fault.{Fault}
use Rattle.command_faults.specs.declared.fault.Fault.TheVariants as fault
use Rattle.command_faults.specs.declared.status.Status.TheVariants as status
use Rattle.command_faults.specs.Statuses.{status_of, device_status}
use Rattle.command_edges.specs.Spelled.{SpellsSomeDevice}
use Rattle.play_command.specs.VectorsTasks.{StandsInText}

-- a text that spells a device has no fault but want of memory
device_memory : (bytes : List ℕ) (f : DeviceTextFault) → SpellsSomeDevice bytes → IsDeviceTextFault bytes f → device_status f ≡ status.Memory
device_memory bytes (device.BsdlWord place) (d, spells) bad = absurd (bad.none spells.words spells.cut)
device_memory bytes (device.BsdlSyntax place word) (d, spells) bad =
    absurd (bad.syntax.unspelled d (subst (λ (ws : List BsdlSpanned). SpellsDevice ws d) (bad.has.only spells.words spells.cut) spells.spells))
device_memory bytes (device.BsdlMeaning kind place) (d, spells) bad =
    absurd (bad.meaning.unspelled d (subst (λ (ws : List BsdlSpanned). SpellsDevice ws d) (bad.has.only spells.words spells.cut) spells.spells))
device_memory bytes device.OutOfMemory spelled bad = refl

pub spelled_memory : (bytes : List ℕ) (f : Fault) → SpellsSomeDevice bytes → StandsInText bytes f → status_of f ≡ status.Memory
spelled_memory bytes (fault.Device f) spelled stands = device_memory bytes f spelled stands
spelled_memory bytes fault.OutOfMemory spelled stands = refl
spelled_memory bytes f spelled stands = absurd stands
