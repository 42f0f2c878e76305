-- A text that is spelled has no fault but want of memory.
use Rattle.std.proofs.Common.{◌≡◌, ℕ, List, refl, subst}
use Rattle.verilog_lexicon.specs.declared.word.Spanned.{Spanned}
use Rattle.verilog_tree.specs.Texts.{SpellsModule}
use Rattle.command_faults.specs.declared.fault.Fault.{Fault}
use Rattle.command_faults.specs.declared.fault.Fault.TheVariants as fault
use Rattle.command_faults.specs.declared.status.Status.TheVariants as status
use Rattle.command_faults.specs.Statuses.{status_of, text_status, device_status}
use Rattle.verilog_texts.specs.declared.fault.TextFault.{TextFault}
use Rattle.verilog_texts.specs.declared.fault.TextFault.TheVariants as text
use Rattle.bsdl_device.specs.declared.fault.DeviceTextFault.{DeviceTextFault}
use Rattle.bsdl_device.specs.declared.fault.DeviceTextFault.TheVariants as device
use Rattle.bsdl_lexicon.specs.declared.token.BsdlSpanned.{BsdlSpanned}
use Rattle.bsdl_device.specs.Spelled.{SpellsDevice}
use Rattle.text_command.specs.declared.convert.conversion.Conversion.{Conversion}
use Rattle.text_command.specs.declared.convert.conversion.Conversion.TheVariants.{Canon, ShowBsdl}
use Rattle.text_command.specs.Conversions.{IsSpelled}
use Rattle.text_command.specs.ConvertTasks.{StandsInText}

-- a text that spells a tree has no fault but want of memory
module_memory : (c : Conversion) (bytes : List ℕ) (f : TextFault) → IsSpelled c bytes → StandsInText c bytes (fault.Netlist f) → text_status f ≡ status.Memory
module_memory Canon bytes (text.BadWord place) (tree, spells) bad = absurd (bad.none spells.words spells.cut)
module_memory Canon bytes (text.BadSyntax place word) (tree, spells) bad =
    absurd (bad.syntax.unspelled tree (subst (λ (ws : List Spanned). SpellsModule ws tree) (bad.has.only spells.words spells.cut) spells.spells))
module_memory Canon bytes text.OutOfMemory spelled bad = refl
module_memory ShowBsdl bytes f spelled bad = absurd bad

-- nor has one that spells a device
device_memory : (c : Conversion) (bytes : List ℕ) (f : DeviceTextFault) → IsSpelled c bytes → StandsInText c bytes (fault.Device f) → device_status f ≡ status.Memory
device_memory Canon bytes f spelled bad = absurd bad
device_memory ShowBsdl bytes (device.BsdlWord place) (d, spells) bad = absurd (bad.none spells.words spells.cut)
device_memory ShowBsdl bytes (device.BsdlSyntax place word) (d, spells) bad =
    absurd (bad.syntax.unspelled d (subst (λ (ws : List BsdlSpanned). SpellsDevice ws d) (bad.has.only spells.words spells.cut) spells.spells))
device_memory ShowBsdl bytes (device.BsdlMeaning kind place) (d, spells) bad =
    absurd (bad.meaning.unspelled d (subst (λ (ws : List BsdlSpanned). SpellsDevice ws d) (bad.has.only spells.words spells.cut) spells.spells))
device_memory ShowBsdl bytes device.OutOfMemory spelled bad = refl

pub spelled_memory : (c : Conversion) (bytes : List ℕ) (f : Fault) → IsSpelled c bytes → StandsInText c bytes f → status_of f ≡ status.Memory
spelled_memory Canon bytes (fault.Netlist f) spelled stands = module_memory Canon bytes f spelled stands
spelled_memory ShowBsdl bytes (fault.Device f) spelled stands = device_memory ShowBsdl bytes f spelled stands
spelled_memory c bytes fault.OutOfMemory spelled stands = refl
spelled_memory c bytes f spelled stands = absurd stands
