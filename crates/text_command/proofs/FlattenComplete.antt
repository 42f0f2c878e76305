-- A fault that stands where modules can be made flat is want of memory.
use Rattle.std.proofs.Common.{◌≡◌, ℕ, List, [], ◌∷◌, None, inl, inr, refl, sym, subst, ◌∙◌}
use Rattle.list_laws.proofs.Options.{none_some}
use Rattle.cell_library.specs.declared.listed.ListedCell.{ListedCell}
use Rattle.box_model.specs.declared.boxes.BoxLibrary.{BoxLibrary}
use Rattle.box_texts.specs.Laws as libraries
use Rattle.verilog_lexicon.specs.declared.word.Spanned.{Spanned}
use Rattle.verilog_tree.specs.declared.tree.Module.{Module}
use Rattle.verilog_modules.specs.Texts.{SpellsModules}
use Rattle.verilog_texts.specs.declared.fault.TextFault.{TextFault}
use Rattle.verilog_texts.specs.declared.fault.TextFault.TheVariants as text
use Rattle.verilog_texts.specs.TextOutcome.{SpellsTrees}
use Rattle.verilog_texts.specs.TextFaults.{IsModulesTextFault}
use Rattle.hier_model.specs.declared.fault.HierFault.{HierFault}
use Rattle.hier_model.specs.Faults.{hier_fault}
use Rattle.hier_flatten.specs.Flattened.{IsHierFault}
use Rattle.command_faults.specs.declared.fault.Fault.{Fault}
use Rattle.command_faults.specs.declared.fault.Fault.TheVariants as fault
use Rattle.command_faults.specs.declared.status.Status.TheVariants as status
use Rattle.command_faults.specs.Statuses.{status_of, text_status, hier_status}
use Rattle.command_edges.proofs.Memory.{box_library_memory, one_box_library}
use Rattle.text_command.specs.FlatTexts.{CanBeFlat, StandsInModules}
use Rattle.text_command.specs.FlattenTasks.{HaveFault, AreFlattenable}

-- the laws that keep faults of a library's text apart from what is free of them
pub record Laws : Type 0 where
  pub one_library : libraries.SpelledOnce
  pub no_library_fault : libraries.SpelledIsFaultless

trees_memory : (bytes : List ℕ) (modules : List Module) (f : TextFault) → SpellsTrees bytes modules → IsModulesTextFault bytes f → text_status f ≡ status.Memory
trees_memory bytes modules (text.BadWord place) spells bad = absurd (bad.none spells.words spells.cut)
trees_memory bytes modules (text.BadSyntax place word) spells bad =
    absurd (bad.syntax.unspelled modules (subst (λ (ws : List Spanned). SpellsModules ws modules) (bad.has.only spells.words spells.cut) spells.spells))
trees_memory bytes modules text.OutOfMemory spells bad = refl

hier_memory : (library : List ListedCell) (modules : List Module) (top : List ℕ) (f : HierFault) → hier_fault library modules top ≡ None → IsHierFault library modules top f → hier_status f ≡ status.Memory
hier_memory library modules top f clear (IsHierFault.stands s) = none_some (sym clear ∙ s)
hier_memory library modules top f clear IsHierFault.memory = refl

flat_memory : (library : List ListedCell) (top bytes : List ℕ) (f : Fault) → CanBeFlat library top bytes → StandsInModules library top bytes f → status_of f ≡ status.Memory
flat_memory library top bytes (fault.Netlist f) ok bad = trees_memory bytes ok.modules f ok.spells bad
flat_memory library top bytes (fault.Hier f) ok bad =
    hier_memory library bad.modules top f (subst (λ (ms : List Module). hier_fault library ms top ≡ None) (bad.only ok.modules ok.spells) ok.clear) bad.fault
flat_memory library top bytes fault.OutOfMemory ok bad = refl
flat_memory library top bytes f ok bad = absurd bad

-- with the library behind the modules
pub all_memory : Laws → (top : List ℕ) (f : Fault) (texts : List (List ℕ)) → AreFlattenable top texts → HaveFault top texts f → status_of f ≡ status.Memory
all_memory laws top f (bytes ∷ more) ok (inl bad) = box_library_memory laws.no_library_fault more ok.0 f ok.1.0 bad
all_memory laws top f (bytes ∷ more) ok (inr (library, (is, stands))) =
    let same : library ≡ ok.0 = one_box_library laws.one_library more library ok.0 is ok.1.0 in
    flat_memory ok.0.cells top bytes f ok.1.1 (subst (λ (l : BoxLibrary). StandsInModules l.cells top bytes f) same stands)
all_memory laws top f [] ok stands = absurd stands
