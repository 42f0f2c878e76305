-- What `statusbsdl` is to do, and when each fault stands in the text that it reads. Own.
use Rattle.std.specs.Prelude.{◌≡◌, ℕ, List, [], ◌∷◌, false}
use Rattle.command_faults.specs.declared.fault.Fault.{Fault}
use Rattle.command_faults.specs.declared.fault.Fault.TheVariants as fault
use Rattle.command_faults.specs.declared.status.Status.{Status}
use Rattle.command_faults.specs.declared.status.Status.TheVariants as status
use Rattle.command_edges.specs.Tasks.{Task}
use Rattle.bsdl_device.specs.declared.registers.values.Extended.{Extended}
use Rattle.bsdl_device.specs.RegistersCanonical.{canonical_extended}
use Rattle.bsdl_device.specs.RegistersSpelled.{SpellsExtendedText}
use Rattle.bsdl_values.specs.RegisterTextsTextFaults.{IsExtendedTextFault}

-- The bytes spell one device; the text is its canonical text, which spells that device and no other.
pub record IsCanonicalExtended (bytes text : List ℕ) : Type 0 where
  pub extended : Extended
  pub spells : SpellsExtendedText bytes extended
  pub only : (other : Extended) → SpellsExtendedText bytes other → other ≡ extended
  pub text_is : text ≡ canonical_extended extended
  pub again : SpellsExtendedText text extended
  pub again_only : (other : Extended) → SpellsExtendedText text other → other ≡ extended

-- the text is the canonical text of what the bytes spell
abbrev pub AreShown : List (List ℕ) → List (List ℕ) → List ℕ → Status → Type 0
AreShown (bytes ∷ []) (text ∷ []) put end = IsCanonicalExtended bytes text × (end ≡ status.Done)
AreShown _ _ put end = ⊥

-- the fault stands in the text; want of memory says nothing
abbrev pub StandsInText : List ℕ → Fault → Type 0
StandsInText bytes (fault.Extended f) = IsExtendedTextFault bytes f
StandsInText bytes fault.OutOfMemory = Unit {0}
StandsInText bytes f = ⊥

abbrev pub HaveFault : List (List ℕ) → Fault → Type 0
HaveFault (bytes ∷ []) f = StandsInText bytes f
HaveFault _ f = ⊥

-- the text is spelled
abbrev pub AreSpelled : List (List ℕ) → Type 0
AreSpelled (bytes ∷ []) = (extended : Extended) × SpellsExtendedText bytes extended
AreSpelled _ = ⊥

-- The canonical text of the device that the text spells is written.
abbrev pub statusbsdl_task : List ℕ → List ℕ → Task
statusbsdl_task input output = record {
  reads = input ∷ [];
  writes = output ∷ [];
  puts = false;
  Makes = AreShown;
  HaveFault = HaveFault;
  AreFree = AreSpelled;
}
