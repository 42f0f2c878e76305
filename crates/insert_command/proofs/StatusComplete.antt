-- A fault that stands where all three texts are free of faults is want of memory.
use Rattle.std.proofs.Common.{◌≡◌, ℕ, List, [], ◌∷◌, inl, inr, sym, subst, ◌∙◌, refl}
use Rattle.list_laws.proofs.Options.{none_some}
use Rattle.command_edges.proofs.Memory.{text_memory, has_link_memory, library_memory, one_library}
use Rattle.cell_text.specs.Laws as libraries
use Rattle.cell_library.specs.declared.listed.ListedCell.{ListedCell}
use Rattle.verilog_tree.specs.declared.tree.Module.{Module}
use Rattle.netlist_link.specs.Linked.{LinkedView, HidesNone}
use Rattle.netlist_link.specs.Links.{IsLinkOf}
use Rattle.netlist_link.specs.Laws.{FaultsForbidLinks}
use Rattle.plan_texts.specs.declared.plan.Plan.{Plan}
use Rattle.plan_texts.specs.Grammar.{SpellsPlan}
use Rattle.plan_texts.specs.Exactly.{SpelledOnce, SpelledIsFaultless}
use Rattle.plan_fitting.specs.declared.fault.FitFault.{FitFault}
use Rattle.plan_fitting.specs.declared.fault.FitFault.TheVariants as fit
use Rattle.plan_fitting.specs.Fits as fits
use Rattle.status_fitting.specs.declared.register_texts.fault.StatusFault.{StatusFault}
use Rattle.status_fitting.specs.declared.register_texts.fault.StatusFault.TheVariants as line
use Rattle.status_fitting.specs.declared.register_texts.plan.StatusPlan.{StatusPlan}
use Rattle.status_fitting.specs.Exactly as registers
use Rattle.status_fitting.specs.Grammar.{SpellsStatus}
use Rattle.command_faults.specs.declared.fault.Fault.{Fault}
use Rattle.command_faults.specs.declared.status.Status.TheVariants as status
use Rattle.command_faults.specs.Statuses.{status_of, fit_status, registers_status}
use Rattle.insert_command.proofs.Complete.{plan_memory}
use Rattle.status_insertions.specs.insertion_inputs.declared.fault.InsertFault.TheVariants as insert
use Rattle.status_insertions.specs.status_inputs.declared.fault.StatusInsertFault.{StatusInsertFault}
use Rattle.status_insertions.specs.status_inputs.declared.fault.StatusInsertFault.TheVariants as fault
use Rattle.status_insertions.specs.status_inputs.Faults.{StandsInRegisters, StandsInStatusTexts}
use Rattle.insert_command.specs.StatusFaults.{fault_of, StandsInInputs}
use Rattle.insert_command.specs.StatusFree.{HasNoFault, IsInsertable, FreeStatusTextsWantMemory}
use Rattle.insert_command.specs.StatusTasks.{HaveFault, AreInsertable}

-- the laws that keep faults apart from what is free of them
pub record Laws : Type 0 where
  pub links : FaultsForbidLinks
  pub once : SpelledOnce
  pub faultless : SpelledIsFaultless
  pub registers_once : registers.SpelledOnce
  pub registers_faultless : registers.SpelledIsFaultless
  pub one_library : libraries.SpelledOnce
  pub no_library_fault : libraries.SpelledIsFaultless

-- The plan.

has_fault : (linked : LinkedView) (p : Plan) (asked : StatusPlan) (f : FitFault) → HasNoFault linked p asked → fits.HasFault linked p f → ⊥
has_fault linked p asked f free bad = none_some (sym (free.faultless bad.seen bad.are_seen) ∙ bad.first)

fit_memory : (linked : LinkedView) (p : Plan) (asked : StatusPlan) (f : FitFault) → HasNoFault linked p asked → fits.IsFault linked p f → fit_status f ≡ status.Memory
fit_memory linked p asked (fit.PlanPort word) free bad = let n = free.named bad.place bad.line bad.there in absurd (bad.unnamed n.0 n.1)
fit_memory linked p asked (fit.PlanPortMissing word) free bad = absurd (has_fault linked p asked (fit.PlanPortMissing word) free bad)
fit_memory linked p asked (fit.PlanTwice word) free bad = absurd (has_fault linked p asked (fit.PlanTwice word) free bad)
fit_memory linked p asked (fit.PlanCell word) free bad = absurd (has_fault linked p asked (fit.PlanCell word) free bad)
fit_memory linked p asked (fit.PlanName word) free bad = absurd (has_fault linked p asked (fit.PlanName word) free bad)
fit_memory linked p asked (fit.PrefixTaken word) free bad = absurd (has_fault linked p asked (fit.PrefixTaken word) free bad)
fit_memory linked p asked fit.OutOfMemory free bad = refl

-- The registers.

registers_memory : Laws → (linked : LinkedView) (p : Plan) (lines : List ℕ) (asked : StatusPlan) (f : StatusFault) → SpellsStatus lines asked → HasNoFault linked p asked → StandsInRegisters linked p lines f
    → registers_status f ≡ status.Memory
registers_memory laws linked p lines asked (line.StatusLine number) spells free bad = absurd (laws.registers_faultless lines asked spells (line.StatusLine number) bad)
registers_memory laws linked p lines asked (line.StatusName word) spells free bad =
    absurd ((subst (λ (a : StatusPlan). HasNoFault linked p a) (laws.registers_once lines asked bad.asked spells bad.spells) free).registers_faultless (line.StatusName word) bad.stands)
registers_memory laws linked p lines asked (line.StatusNet word) spells free bad =
    absurd ((subst (λ (a : StatusPlan). HasNoFault linked p a) (laws.registers_once lines asked bad.asked spells bad.spells) free).registers_faultless (line.StatusNet word) bad.stands)
registers_memory laws linked p lines asked (line.StatusOpcode word) spells free bad =
    absurd ((subst (λ (a : StatusPlan). HasNoFault linked p a) (laws.registers_once lines asked bad.asked spells bad.spells) free).registers_faultless (line.StatusOpcode word) bad.stands)
registers_memory laws linked p lines asked line.OutOfMemory spells free bad = refl

-- a plan that is spelled beside the free one is that
same_free : SpelledOnce → (library : List ListedCell) (net text lines : List ℕ) (linked : LinkedView) (m : Module) (p : Plan) → (ok : IsInsertable library net text lines) → ok.tree ≡ m
    → linked.arena.lists.library ≡ library → IsLinkOf m linked → HidesNone linked → SpellsPlan text p → HasNoFault linked p ok.asked
same_free once library net text lines linked m p ok same is links hides spells =
    subst (λ (q : Plan). HasNoFault linked q ok.asked) (once text ok.plan p ok.spells_plan spells) (ok.free linked is (subst (λ (t : Module). IsLinkOf t linked) (sym same) links) hides)

-- All texts.

inputs_memory : Laws → (library : List ListedCell) (net text lines : List ℕ) (f : StatusInsertFault) → IsInsertable library net text lines → StandsInStatusTexts library net text lines f
    → status_of (fault_of f) ≡ status.Memory
inputs_memory laws library net text lines (fault.Insert (insert.Netlist f)) ok stands = text_memory net ok.tree f ok.spells stands
inputs_memory laws library net text lines (fault.Insert (insert.Link f)) ok stands = has_link_memory laws.links library net ok.tree f ok.spells ok.linkable stands
inputs_memory laws library net text lines (fault.Insert (insert.Plan f)) ok h = plan_memory laws.faultless text ok.plan f ok.spells_plan h.stands
inputs_memory laws library net text lines (fault.Insert (insert.Fit f)) ok h =
    let free = same_free laws.once library net text lines h.linked h.netlist.tree h.stands.plan ok (h.netlist.only ok.tree ok.spells) h.netlist.library_is h.netlist.links h.netlist.hides h.stands.spells in
    fit_memory h.linked h.stands.plan ok.asked f free h.stands.stands
inputs_memory laws library net text lines (fault.Insert (insert.TooMany what count limit)) ok h =
    let free = same_free laws.once library net text lines h.linked h.netlist.tree h.stands.plan ok (h.netlist.only ok.tree ok.spells) h.netlist.library_is h.netlist.links h.netlist.hides h.stands.spells in
    let mine = subst (λ (a : StatusPlan). HasNoFault h.linked h.stands.plan a) (laws.registers_once lines ok.asked h.stands.registers_are.asked ok.spells_registers h.stands.registers_are.spells) free in
    none_some (sym (mine.room h.stands.fitted h.stands.status h.stands.is h.stands.registers_are.fitted) ∙ h.stands.passes)
inputs_memory laws library net text lines (fault.Insert insert.OutOfMemory) ok stands = refl
inputs_memory laws library net text lines (fault.Registers f) ok h =
    let free = same_free laws.once library net text lines h.linked h.netlist.tree h.stands.plan ok (h.netlist.only ok.tree ok.spells) h.netlist.library_is h.netlist.links h.netlist.hides h.stands.spells in
    registers_memory laws h.linked h.stands.plan lines ok.asked f ok.spells_registers free h.stands.stands

pub free_memory : Laws → FreeStatusTextsWantMemory
free_memory laws library net text lines f ok stands = inputs_memory laws library net text lines f ok stands

refused_memory : Laws → (library : List ListedCell) (net text lines : List ℕ) (f : Fault) → IsInsertable library net text lines → StandsInInputs library net text lines f → status_of f ≡ status.Memory
refused_memory laws library net text lines f ok bad = subst (λ (g : Fault). status_of g ≡ status.Memory) (sym bad.fault_is) (inputs_memory laws library net text lines bad.one ok bad.stands)

-- with the library behind the three
pub all_memory : Laws → (f : Fault) (texts : List (List ℕ)) → AreInsertable texts → HaveFault texts f → status_of f ≡ status.Memory
all_memory laws f (net ∷ text ∷ lines ∷ more) ok (inl bad) = library_memory laws.no_library_fault more ok.0 f ok.1.0 bad
all_memory laws f (net ∷ text ∷ lines ∷ more) ok (inr (library, (is, stands))) =
    let same : library ≡ ok.0 = one_library laws.one_library more library ok.0 is ok.1.0 in
    refused_memory laws ok.0 net text lines f ok.1.1 (subst (λ (l : List ListedCell). StandsInInputs l net text lines f) same stands)
all_memory laws f [] ok stands = absurd stands
all_memory laws f (net ∷ []) ok stands = absurd stands
all_memory laws f (net ∷ text ∷ []) ok stands = absurd stands
