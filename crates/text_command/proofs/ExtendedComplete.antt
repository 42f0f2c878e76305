-- A text that spells a device has no fault but want of memory.
use Rattle.std.proofs.Common.{◌≡◌, ℕ, List, refl, subst}
use Rattle.command_faults.specs.declared.fault.Fault.{Fault}
use Rattle.command_faults.specs.declared.fault.Fault.TheVariants as fault
use Rattle.command_faults.specs.declared.status.Status.TheVariants as status
use Rattle.command_faults.specs.Statuses.{status_of, extended_status}
use Rattle.bsdl_lexicon.specs.declared.token.BsdlSpanned.{BsdlSpanned}
use Rattle.bsdl_device.specs.declared.registers.values.Extended.{Extended}
use Rattle.bsdl_device.specs.RegistersSpelled.{SpellsExtended, SpellsExtendedText}
use Rattle.bsdl_values.specs.declared.register_texts.fault.ExtendedTextFault.{ExtendedTextFault}
use Rattle.bsdl_values.specs.declared.register_texts.fault.ExtendedTextFault.TheVariants as text
use Rattle.bsdl_values.specs.RegisterTextsTextFaults.{IsExtendedTextFault}
use Rattle.text_command.specs.ExtendedTasks.{StandsInText}

text_memory : (bytes : List ℕ) (e : Extended) (f : ExtendedTextFault) → SpellsExtendedText bytes e → IsExtendedTextFault bytes f → extended_status f ≡ status.Memory
text_memory bytes e (text.BsdlWord place) spells bad = absurd (bad.none spells.words spells.cut)
text_memory bytes e (text.BsdlSyntax place word) spells bad =
    absurd (bad.stands.unspelled e (subst (λ (ws : List BsdlSpanned). SpellsExtended ws e) (bad.has.only spells.words spells.cut) spells.spells))
text_memory bytes e (text.BsdlMeaning kind place) spells bad =
    absurd (bad.stands.1.unspelled e (subst (λ (ws : List BsdlSpanned). SpellsExtended ws e) (bad.has.only spells.words spells.cut) spells.spells))
text_memory bytes e (text.BsdlExtra place) spells bad =
    absurd (bad.stands.1.unspelled e (subst (λ (ws : List BsdlSpanned). SpellsExtended ws e) (bad.has.only spells.words spells.cut) spells.spells))
text_memory bytes e text.OutOfMemory spells bad = refl

pub spelled_memory : (bytes : List ℕ) (f : Fault) → (extended : Extended) × SpellsExtendedText bytes extended → StandsInText bytes f → status_of f ≡ status.Memory
spelled_memory bytes (fault.Extended f) (e, spells) stands = text_memory bytes e f spells stands
spelled_memory bytes fault.OutOfMemory spelled stands = refl
spelled_memory bytes f spelled stands = absurd stands
