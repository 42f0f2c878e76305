-- A fault that stands where the texts are free of faults is want of memory.
use Rattle.std.proofs.Common.{◌≡◌, ℕ, List, [], ◌∷◌, Some, None, inl, inr, refl, sym, subst, ◌∙◌}
use Rattle.command_edges.proofs.Memory.{text_memory, has_link_memory, library_memory, one_library}
use Rattle.cell_text.specs.Laws as libraries
use Rattle.play_command.specs.CheckTasks.{HaveFault, AreCheckableTexts}
use Rattle.verilog_tree.specs.declared.tree.Module.{Module}
use Rattle.cell_library.specs.declared.listed.ListedCell.{ListedCell}
use Rattle.netlist_link.specs.Linked.{LinkedView}
use Rattle.netlist_link.specs.Links.{IsLinkOf}
use Rattle.netlist_link.specs.Laws.{FaultsForbidLinks}
use Rattle.bsdl_lexicon.specs.declared.token.BsdlSpanned.{BsdlSpanned}
use Rattle.bsdl_device.specs.declared.meaning.MeaningKind.{MeaningKind}
use Rattle.bsdl_device.specs.declared.meaning.MeaningKind.TheVariants.{Ports}
use Rattle.bsdl_device.specs.declared.values.Device.{Device}
use Rattle.bsdl_device.specs.declared.fault.DeviceTextFault.{DeviceTextFault}
use Rattle.bsdl_device.specs.declared.fault.DeviceTextFault.TheVariants as device
use Rattle.bsdl_device.specs.Spelled.{SpellsDevice}
use Rattle.bsdl_values.specs.TextOutcome.{HasBsdlMeaning}
use Rattle.scan_vectors.specs.declared.fault.EventFault.{EventFault}
use Rattle.scan_vectors.specs.declared.fault.EventFault.TheVariants as event
use Rattle.scan_vectors.specs.declared.lines.Lines.{Lines}
use Rattle.scan_vectors.specs.Faults.{IsFault}
use Rattle.scan_vectors.specs.Exactly.{SpelledOnce, SpelledIsFaultless}
use Rattle.scan_vectors.specs.declared.scripts.fault.ScriptFault.{ScriptFault}
use Rattle.scan_vectors.specs.declared.scripts.fault.ScriptFault.TheVariants as script
use Rattle.scan_vectors.specs.Rules.{AreLegal}
use Rattle.conformance_report.specs.Agreement.{PortsAgree}
use Rattle.conformance_report.specs.Rules.{KeepsTapRule, IsIllegalAt}
use Rattle.conformance_report.specs.Rules.IsIllegalAt.{wrong, unstarted}
use Rattle.command_faults.specs.declared.fault.Fault.{Fault}
use Rattle.command_faults.specs.declared.fault.Fault.TheVariants as fault
use Rattle.command_faults.specs.declared.status.Status.TheVariants as status
use Rattle.command_faults.specs.Statuses.{status_of, device_status, event_status, script_status}
use Rattle.play_command.specs.Checks.{SpellsLinked, IsCheckable, AreCheckable}
use Rattle.play_command.specs.CheckFaults.{IsDeviceApart, StandsInDeviceFor, HasFaultAt, StandsInAll}

-- the laws that keep faults apart from what is free of them
pub record Laws : Type 0 where
  pub links : FaultsForbidLinks
  pub once : SpelledOnce
  pub faultless : SpelledIsFaultless
  pub one_library : libraries.SpelledOnce
  pub no_library_fault : libraries.SpelledIsFaultless

-- The device.

-- the linked netlist and the device of other readings are the same
ports_agree : (library : List ListedCell) (net text events : List ℕ) (linked : LinkedView) → IsCheckable library net text events → SpellsLinked library net linked → IsDeviceApart linked text → ⊥
ports_agree library net text events linked ok netlist bad =
    let tree : ok.tree ≡ netlist.tree = netlist.only ok.tree ok.spells in
    let free : AreCheckable linked ok.device ok.lines = ok.free linked netlist.library_is (subst (λ (m : Module). IsLinkOf m linked) (sym tree) netlist.links) in
    bad.differ (subst (λ (d : Device). PortsAgree linked d) (bad.spells.only ok.device ok.spells_device) free.agree)

meaning_memory : (library : List ListedCell) (net text events : List ℕ) (linked : LinkedView) (kind : MeaningKind) (place : ℕ) → IsCheckable library net text events → SpellsLinked library net linked
    → StandsInDeviceFor linked text (device.BsdlMeaning kind place) → ⊥
meaning_memory library net text events linked kind place ok netlist bad = of_kind kind bad
  where
    unmeant : (k : MeaningKind) → HasBsdlMeaning text k place → ⊥
    unmeant k bad = bad.meaning.unspelled ok.device
        (subst (λ (ws : List BsdlSpanned). SpellsDevice ws ok.device) (bad.has.only ok.spells_device.words ok.spells_device.cut) ok.spells_device.spells)

    of_kind : (k : MeaningKind) → StandsInDeviceFor linked text (device.BsdlMeaning k place) → ⊥
    of_kind Ports bad = ports_agree library net text events linked ok netlist bad.1
    of_kind k bad = unmeant k bad

device_memory : (library : List ListedCell) (net text events : List ℕ) (linked : LinkedView) (f : DeviceTextFault) → IsCheckable library net text events → SpellsLinked library net linked → StandsInDeviceFor linked text f
    → device_status f ≡ status.Memory
device_memory library net text events linked (device.BsdlWord place) ok netlist bad = absurd (bad.none ok.spells_device.words ok.spells_device.cut)
device_memory library net text events linked (device.BsdlSyntax place word) ok netlist bad = absurd (bad.syntax.unspelled ok.device
    (subst (λ (ws : List BsdlSpanned). SpellsDevice ws ok.device) (bad.has.only ok.spells_device.words ok.spells_device.cut) ok.spells_device.spells))
device_memory library net text events linked (device.BsdlMeaning kind place) ok netlist bad = absurd (meaning_memory library net text events linked kind place ok netlist bad)
device_memory library net text events linked device.OutOfMemory ok netlist bad = refl

-- The events.

no_some : {A : Type 0} (a : A) → None ≡ Some a → ⊥
no_some a e = cc

event_memory : Laws → (library : List ListedCell) (net text events : List ℕ) (f : EventFault) → IsCheckable library net text events → IsFault events f → event_status f ≡ status.Memory
event_memory laws library net text events (event.EventLine number) ok bad = absurd (no_some (event.EventLine number) (sym (laws.faultless events ok.lines ok.spells_lines) ∙ bad))
event_memory laws library net text events (event.TooMany what count limit) ok bad =
    absurd (no_some (event.TooMany what count limit) (sym (laws.faultless events ok.lines ok.spells_lines) ∙ bad))
event_memory laws library net text events event.OutOfMemory ok bad = refl

-- legal lines are illegal at no line
legal_apart : (L : LinkedView) (d : Device) (lines : Lines) (number : ℕ) → AreLegal L lines → KeepsTapRule d lines.list → IsIllegalAt L d lines number → ⊥
legal_apart L d lines number legal kept (wrong {place} first numbered) = elim first.here [ inl is ↦ legal.unbroken place is | inr is ↦ kept place is ]
legal_apart L d lines number legal kept (unstarted none lacks) = lacks.none (legal.started lacks.pin lacks.takes)

script_memory : Laws → (library : List ListedCell) (net text events : List ℕ) (linked : LinkedView) (f : ScriptFault) → IsCheckable library net text events → SpellsLinked library net linked → HasFaultAt linked text events f
    → script_status f ≡ status.Memory
script_memory laws library net text events linked (script.EventIllegal number) ok netlist bad =
    let tree : ok.tree ≡ netlist.tree = netlist.only ok.tree ok.spells in
    let d : ok.device ≡ bad.device = bad.is.spells.only ok.device ok.spells_device in
    let same : ok.lines ≡ bad.lines = laws.once events ok.lines bad.lines ok.spells_lines bad.spells_lines in
    let free : AreCheckable linked ok.device ok.lines = ok.free linked netlist.library_is (subst (λ (m : Module). IsLinkOf m linked) (sym tree) netlist.links) in
    absurd (legal_apart linked bad.device bad.lines number (subst (λ (l : Lines). AreLegal linked l) same free.legal)
    (subst (λ (l : Lines). KeepsTapRule bad.device l.list) same (subst (λ (v : Device). KeepsTapRule v ok.lines.list) d free.kept)) bad.fault)
script_memory laws library net text events linked script.OutOfMemory ok netlist bad = refl

-- The whole.

pub texts_memory : Laws → (library : List ListedCell) (net text events : List ℕ) (f : Fault) → IsCheckable library net text events → StandsInAll library net text events f → status_of f ≡ status.Memory
texts_memory laws library net text events (fault.Netlist f) ok bad = text_memory net ok.tree f ok.spells bad
texts_memory laws library net text events (fault.Link f) ok bad = has_link_memory laws.links library net ok.tree f ok.spells ok.linkable bad
texts_memory laws library net text events (fault.Device f) ok bad = device_memory library net text events bad.linked f ok bad.netlist bad.stands
texts_memory laws library net text events (fault.Events f) ok bad = event_memory laws library net text events f ok bad.stands.1
texts_memory laws library net text events (fault.Script f) ok bad = script_memory laws library net text events bad.linked f ok bad.netlist bad.stands
texts_memory laws library net text events f ok bad = absurd bad.stands

-- with the library behind the others
pub all_memory : Laws → (f : Fault) (texts : List (List ℕ)) → AreCheckableTexts texts → HaveFault texts f → status_of f ≡ status.Memory
all_memory laws f (net ∷ text ∷ events ∷ more) ok (inl bad) = library_memory laws.no_library_fault more ok.0 f ok.1.0 bad
all_memory laws f (net ∷ text ∷ events ∷ more) ok (inr (library, (is, stands))) =
    let same : library ≡ ok.0 = one_library laws.one_library more library ok.0 is ok.1.0 in
    texts_memory laws ok.0 net text events f ok.1.1 (subst (λ (l : List ListedCell). StandsInAll l net text events f) same stands)
all_memory laws f [] ok stands = absurd stands
all_memory laws f (net ∷ []) ok stands = absurd stands
all_memory laws f (net ∷ text ∷ []) ok stands = absurd stands
