-- A fault that stands where both texts are free of faults is want of memory.
use Rattle.std.proofs.Common.{◌≡◌, ℕ, List, [], ◌∷◌, inl, inr, None, sym, subst, ◌∙◌, refl}
use Rattle.list_laws.proofs.Options.{none_some}
use Rattle.command_edges.proofs.Memory.{box_library_memory, one_box_library}
use Rattle.box_model.specs.declared.boxes.BoxLibrary.{BoxLibrary}
use Rattle.box_links.specs.BoxLinks.{IsBoxLinkOf}
use Rattle.box_links.specs.Laws.{FaultsForbidBoxLinks}
use Rattle.box_texts.specs.Laws as libraries
use Rattle.verilog_tree.specs.declared.tree.Module.{Module}
use Rattle.netlist_link.specs.Laws.{FaultsForbidLinks}
use Rattle.scan_vectors.specs.declared.fault.EventFault.{EventFault}
use Rattle.scan_vectors.specs.declared.fault.EventFault.TheVariants as event
use Rattle.scan_vectors.specs.declared.lines.Lines.{Lines}
use Rattle.scan_vectors.specs.Faults.{IsFault, first_fault}
use Rattle.scan_vectors.specs.Exactly.{SpelledOnce, SpelledIsFaultless}
use Rattle.scan_vectors.specs.declared.scripts.fault.ScriptFault.{ScriptFault}
use Rattle.scan_vectors.specs.declared.scripts.fault.ScriptFault.TheVariants as script
use Rattle.scan_vectors.specs.Rules.{AreLegal}
use Rattle.scan_vectors.specs.ScriptsLaws.{LegalIsNotIllegal}
use Rattle.default_starts.specs.Starts.{IsWithStarts}
use Rattle.command_faults.specs.declared.fault.Fault.{Fault}
use Rattle.command_faults.specs.declared.fault.Fault.TheVariants as fault
use Rattle.command_faults.specs.declared.status.Status.TheVariants as status
use Rattle.command_faults.specs.Statuses.{status_of, event_status, script_status}
use Rattle.play_command.specs.BoxNetlists.{at_end}
use Rattle.play_command.specs.Simulations.{IsSimulable, HasScriptFault}
use Rattle.play_command.specs.SimFaults.{StandsInBoth}
use Rattle.play_command.specs.SimTasks.{HaveFault, AreSimulable}
use Rattle.play_command.proofs.BoxNetlists.{netlist_memory}

-- the laws that keep faults apart from what is free of them
pub record Laws : Type 0 where
  pub links : FaultsForbidLinks
  pub box_links : FaultsForbidBoxLinks
  pub once : SpelledOnce
  pub faultless : SpelledIsFaultless
  pub legal : LegalIsNotIllegal
  pub one_library : libraries.SpelledOnce
  pub no_library_fault : libraries.SpelledIsFaultless

event_memory : SpelledIsFaultless → (bytes : List ℕ) (lines : Lines) (f : EventFault) → first_fault bytes ≡ None → IsFault bytes f → event_status f ≡ status.Memory
event_memory law bytes lines (event.EventLine number) none bad = none_some (sym none ∙ bad)
event_memory law bytes lines (event.TooMany what count limit) none bad = none_some (sym none ∙ bad)
event_memory law bytes lines event.OutOfMemory none bad = refl

-- legal lines have no fault for the netlist
script_memory : Laws → (library : BoxLibrary) (f : ScriptFault) (net events : List ℕ) → IsSimulable library net events → HasScriptFault library f net events → script_status f ≡ status.Memory
script_memory laws library (script.EventIllegal number) net events ok bad =
    let same : ok.tree ≡ bad.netlist.tree = bad.netlist.only ok.tree ok.spells in
    let lines : ok.lines ≡ bad.lines = laws.once events ok.lines bad.lines ok.spells_lines bad.spells_lines in
    let legal : AreLegal bad.linked bad.started = ok.legal bad.linked bad.started (subst (λ (m : Module). IsBoxLinkOf library (at_end m) m bad.linked) (sym same) bad.netlist.is)
    (subst (λ (l : Lines). IsWithStarts bad.linked l bad.started) (sym lines) bad.are_started) in
    absurd (laws.legal bad.linked bad.started number legal bad.fault)
script_memory laws library script.OutOfMemory net events ok bad = refl

-- faults of both texts
both_memory : Laws → (library : BoxLibrary) (f : Fault) (net text : List ℕ) → IsSimulable library net text → StandsInBoth library net text f → status_of f ≡ status.Memory
both_memory laws library (fault.Events f) net text ok stands = event_memory laws.faultless text ok.lines f (laws.faultless text ok.lines ok.spells_lines) stands.1
both_memory laws library (fault.Script f) net text ok stands = script_memory laws library f net text ok stands
both_memory laws library f net text ok stands = netlist_memory laws.links at_end library net ok.tree f ok.spells ok.linkable stands

pub texts_memory : Laws → (f : Fault) (texts : List (List ℕ)) → AreSimulable texts → HaveFault texts f → status_of f ≡ status.Memory
texts_memory laws f (net ∷ events ∷ more) ok (inl bad) = box_library_memory laws.no_library_fault more ok.0 f ok.1.0 bad
texts_memory laws f (net ∷ events ∷ more) ok (inr (library, (is, stands))) =
    let same : library ≡ ok.0 = one_box_library laws.one_library more library ok.0 is ok.1.0 in
    both_memory laws ok.0 f net events ok.1.1 (subst (λ (l : BoxLibrary). StandsInBoth l net events f) same stands)
texts_memory laws f [] ok stands = absurd stands
texts_memory laws f (net ∷ []) ok stands = absurd stands
