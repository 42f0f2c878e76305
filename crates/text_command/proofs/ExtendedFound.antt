-- The canonical text of the device that a text spells.
use Rattle.std.proofs.Common.{◌≡◌, ℕ, List, sym, subst}
use Rattle.bsdl_device.specs.declared.registers.values.Extended.{Extended}
use Rattle.bsdl_device.specs.RegistersCanonical.{canonical_extended}
use Rattle.bsdl_device.specs.RegistersSpelled.{SpellsExtendedText}
use Rattle.bsdl_values.specs.RegisterTextsTextOutcome.{IsExtendedReadAs}
use Rattle.text_command.specs.ExtendedTasks.{IsCanonicalExtended}

pub extended_found : (bytes printed : List ℕ) (extended : Extended) → IsExtendedReadAs bytes extended → printed ≡ canonical_extended extended → IsCanonicalExtended bytes printed
extended_found bytes printed extended read is = record {
  extended = extended;
  spells = read.spells;
  only = read.only;
  text_is = is;
  again = subst (λ (t : List ℕ). SpellsExtendedText t extended) (sym is) read.again;
  again_only = λ other s. read.again_only other (subst (λ (t : List ℕ). SpellsExtendedText t other) is s);
}
