-- A fault that stands where both texts are free of faults, and some netlist and plan give them, is want of memory.
use Rattle.std.proofs.Common.{◌≡◌, ℕ, List, [], ◌∷◌, Result, Ok, Err, IfOk, inl, inr, subst, refl}
use Rattle.command_edges.proofs.Memory.{text_memory, has_link_memory, library_memory, one_library}
use Rattle.cell_text.specs.Laws as libraries
use Rattle.cell_library.specs.declared.listed.ListedCell.{ListedCell}
use Rattle.netlist_link.specs.Laws.{FaultsForbidLinks}
use Rattle.bsdl_lexicon.specs.declared.token.BsdlSpanned.{BsdlSpanned}
use Rattle.bsdl_device.specs.declared.values.Device.{Device}
use Rattle.bsdl_device.specs.declared.fault.DeviceTextFault.{DeviceTextFault}
use Rattle.bsdl_device.specs.declared.fault.DeviceTextFault.TheVariants as device
use Rattle.bsdl_device.specs.Spelled.{SpellsDevice, SpellsText}
use Rattle.bsdl_values.specs.TextFaults.{IsDeviceTextFault}
use Rattle.verilog_tree.specs.declared.tree.Module.{Module}
use Rattle.command_faults.specs.declared.fault.Fault.{Fault}
use Rattle.command_faults.specs.declared.fault.Fault.TheVariants as fault
use Rattle.command_faults.specs.declared.status.Status.TheVariants as status
use Rattle.command_faults.specs.Statuses.{status_of, device_status}
use Rattle.scan_strip.specs.strip_model.Answer.{IsNotInserted}
use Rattle.strip_command.specs.Strippings.{IsOther, IsStrippable}
use Rattle.strip_command.specs.Faults.{StandsInInputs}
use Rattle.strip_command.specs.Tasks.{HaveFault, AreStrippable}

-- the laws that keep faults apart from what is free of them
pub record Laws : Type 0 where
  pub links : FaultsForbidLinks
  pub one_library : libraries.SpelledOnce
  pub no_library_fault : libraries.SpelledIsFaultless

device_memory : (text : List ℕ) (d : Device) (f : DeviceTextFault) → SpellsText text d → IsDeviceTextFault text f → device_status f ≡ status.Memory
device_memory text d (device.BsdlWord place) spells bad = absurd (bad.none spells.words spells.cut)
device_memory text d (device.BsdlSyntax place word) spells bad =
    absurd (bad.syntax.unspelled d (subst (λ (ws : List BsdlSpanned). SpellsDevice ws d) (bad.has.only spells.words spells.cut) spells.spells))
device_memory text d (device.BsdlMeaning kind place) spells bad =
    absurd (bad.meaning.unspelled d (subst (λ (ws : List BsdlSpanned). SpellsDevice ws d) (bad.has.only spells.words spells.cut) spells.spells))
device_memory text d device.OutOfMemory spells bad = refl

-- the two are the same in any reading
not_other : (library : List ListedCell) (net text : List ℕ) → IsStrippable library net text → IsOther library net text → ⊥
not_other library net text ok bad =
    let tree : bad.tells.tree ≡ ok.tells.tree = ok.tells.only bad.tells.tree bad.tells.spells in
    let same : bad.tells.device ≡ ok.tells.device = ok.tells.only_device bad.tells.device bad.tells.spells_device in
    ok.given (subst (IsNotInserted library ok.tells.tree) same (subst (λ (m : Module). IsNotInserted library m bad.tells.device) tree bad.none))

inputs_memory : Laws → (library : List ListedCell) (net text : List ℕ) (f : Fault) → IsStrippable library net text → StandsInInputs library net text f → status_of f ≡ status.Memory
inputs_memory laws library net text (fault.Netlist f) ok bad = text_memory net ok.tells.tree f ok.tells.spells bad
inputs_memory laws library net text (fault.Link f) ok bad = has_link_memory laws.links library net ok.tells.tree f ok.tells.spells ok.tells.linkable bad
inputs_memory laws library net text (fault.Device f) ok bad = device_memory text ok.tells.device f ok.tells.spells_device bad.fault
inputs_memory laws library net text fault.NotInserted ok bad = absurd (not_other library net text ok bad)
inputs_memory laws library net text fault.OutOfMemory ok bad = refl
inputs_memory laws library net text f ok bad = absurd bad

-- with the library behind both
pub all_memory : Laws → (f : Fault) (texts : List (List ℕ)) → AreStrippable texts → HaveFault texts f → status_of f ≡ status.Memory
all_memory laws f (net ∷ text ∷ more) ok (inl bad) = library_memory laws.no_library_fault more ok.0 f ok.1.0 bad
all_memory laws f (net ∷ text ∷ more) ok (inr (library, (is, stands))) =
    let same : library ≡ ok.0 = one_library laws.one_library more library ok.0 is ok.1.0 in
    inputs_memory laws ok.0 net text f ok.1.1 (subst (λ (l : List ListedCell). StandsInInputs l net text f) same stands)
all_memory laws f [] ok stands = absurd stands
all_memory laws f (net ∷ []) ok stands = absurd stands

pub ok_with : {T E : Type 0} (r : Result T E) (P Q : T → Type 0) → ((x : T) → P x → Q x) → IfOk r P → IfOk r Q
ok_with (Ok x) P Q law is = law x is
ok_with (Err e) P Q law is = tt
