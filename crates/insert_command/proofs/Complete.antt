-- A fault that stands where both texts are free of faults is want of memory.
use Rattle.std.proofs.Common.{◌≡◌, ℕ, List, [], ◌∷◌, Result, Ok, Err, IfOk, inl, inr, sym, subst, ◌∙◌, refl}
use Rattle.list_laws.proofs.Options.{none_some}
use Rattle.command_edges.proofs.Memory.{text_memory, has_link_memory, library_memory, one_library}
use Rattle.cell_text.specs.Laws as libraries
use Rattle.insert_command.specs.Tasks.{HaveFault, AreInsertable}
use Rattle.verilog_tree.specs.declared.tree.Module.{Module}
use Rattle.cell_library.specs.declared.listed.ListedCell.{ListedCell}
use Rattle.netlist_link.specs.Linked.{LinkedView, HidesNone}
use Rattle.netlist_link.specs.Links.{IsLinkOf}
use Rattle.netlist_link.specs.Laws.{FaultsForbidLinks}
use Rattle.plan_texts.specs.declared.plan.Plan.{Plan}
use Rattle.plan_texts.specs.declared.fault.PlanFault.{PlanFault}
use Rattle.plan_texts.specs.declared.fault.PlanFault.TheVariants as plan
use Rattle.plan_texts.specs.Grammar.{SpellsPlan}
use Rattle.plan_texts.specs.Faults as plans
use Rattle.plan_texts.specs.Exactly.{SpelledOnce, SpelledIsFaultless}
use Rattle.plan_fitting.specs.declared.fault.FitFault.{FitFault}
use Rattle.plan_fitting.specs.declared.fault.FitFault.TheVariants as fit
use Rattle.plan_fitting.specs.Fits as fits
use Rattle.command_faults.specs.declared.fault.Fault.{Fault}
use Rattle.command_faults.specs.declared.status.Status.TheVariants as status
use Rattle.command_faults.specs.Statuses.{status_of, plan_status, fit_status}
use Rattle.status_insertions.specs.insertion_inputs.declared.fault.InsertFault.{InsertFault}
use Rattle.status_insertions.specs.insertion_inputs.declared.fault.InsertFault.TheVariants as insert
use Rattle.status_insertions.specs.insertion_inputs.Faults.{StandsInTexts}
use Rattle.insert_command.specs.Faults.{fault_of, StandsInInputs}
use Rattle.insert_command.specs.Free.{HasNoFault, IsInsertable, FreeTextsWantMemory}

-- the laws that keep faults apart from what is free of them
pub record Laws : Type 0 where
  pub links : FaultsForbidLinks
  pub once : SpelledOnce
  pub faultless : SpelledIsFaultless
  pub one_library : libraries.SpelledOnce
  pub no_library_fault : libraries.SpelledIsFaultless

-- The plan.

pub plan_memory : SpelledIsFaultless → (bytes : List ℕ) (p : Plan) (f : PlanFault) → SpellsPlan bytes p → plans.IsFault bytes f → plan_status f ≡ status.Memory
plan_memory law bytes p (plan.PlanLine line) spells bad = absurd (law bytes p spells (plan.PlanLine line) bad)
plan_memory law bytes p (plan.PlanTwice word) spells bad = absurd (law bytes p spells (plan.PlanTwice word) bad)
plan_memory law bytes p (plan.PlanOpcode word) spells bad = absurd (law bytes p spells (plan.PlanOpcode word) bad)
plan_memory law bytes p plan.PlanIdcode spells bad = absurd (law bytes p spells plan.PlanIdcode bad)
plan_memory law bytes p plan.PlanUsercode spells bad = absurd (law bytes p spells plan.PlanUsercode bad)
plan_memory law bytes p (plan.PlanInstruction word) spells bad = absurd (law bytes p spells (plan.PlanInstruction word) bad)
plan_memory law bytes p plan.OutOfMemory spells bad = refl

has_fault : (linked : LinkedView) (p : Plan) (f : FitFault) → HasNoFault linked p → fits.HasFault linked p f → ⊥
has_fault linked p f free bad = none_some (sym (free.faultless bad.seen bad.are_seen) ∙ bad.first)

fit_memory : (linked : LinkedView) (p : Plan) (f : FitFault) → HasNoFault linked p → fits.IsFault linked p f → fit_status f ≡ status.Memory
fit_memory linked p (fit.PlanPort word) free bad = let n = free.named bad.place bad.line bad.there in absurd (bad.unnamed n.0 n.1)
fit_memory linked p (fit.PlanPortMissing word) free bad = absurd (has_fault linked p (fit.PlanPortMissing word) free bad)
fit_memory linked p (fit.PlanTwice word) free bad = absurd (has_fault linked p (fit.PlanTwice word) free bad)
fit_memory linked p (fit.PlanCell word) free bad = absurd (has_fault linked p (fit.PlanCell word) free bad)
fit_memory linked p (fit.PlanName word) free bad = absurd (has_fault linked p (fit.PlanName word) free bad)
fit_memory linked p (fit.PrefixTaken word) free bad = absurd (has_fault linked p (fit.PrefixTaken word) free bad)
fit_memory linked p fit.OutOfMemory free bad = refl

-- a plan that is spelled beside the free one is that
same_free : SpelledOnce → (library : List ListedCell) (net text : List ℕ) (linked : LinkedView) (m : Module) (p : Plan) → (ok : IsInsertable library net text) → ok.tree ≡ m → linked.arena.lists.library ≡ library → IsLinkOf m linked → HidesNone linked → SpellsPlan text p → HasNoFault linked p
same_free once library net text linked m p ok same is links hides spells =
    subst (λ (q : Plan). HasNoFault linked q) (once text ok.plan p ok.spells_plan spells) (ok.free linked is (subst (λ (t : Module). IsLinkOf t linked) (sym same) links) hides)

-- Both texts.

inputs_memory : Laws → (library : List ListedCell) (net text : List ℕ) (f : InsertFault) → IsInsertable library net text → StandsInTexts library net text f → status_of (fault_of f) ≡ status.Memory
inputs_memory laws library net text (insert.Netlist f) ok stands = text_memory net ok.tree f ok.spells stands
inputs_memory laws library net text (insert.Link f) ok stands = has_link_memory laws.links library net ok.tree f ok.spells ok.linkable stands
inputs_memory laws library net text (insert.Plan f) ok stands = plan_memory laws.faultless text ok.plan f ok.spells_plan stands.stands
inputs_memory laws library net text (insert.Fit f) ok h =
    let free = same_free laws.once library net text h.linked h.netlist.tree h.stands.plan ok (h.netlist.only ok.tree ok.spells) h.netlist.library_is h.netlist.links h.netlist.hides h.stands.spells in
    fit_memory h.linked h.stands.plan f free h.stands.stands
inputs_memory laws library net text (insert.TooMany what count limit) ok h =
    let free = same_free laws.once library net text h.linked h.netlist.tree h.stands.plan ok (h.netlist.only ok.tree ok.spells) h.netlist.library_is h.netlist.links h.netlist.hides h.stands.spells in
    let bad = h.stands.stands in
    none_some (sym (free.room bad.fitted bad.is) ∙ bad.passes)
inputs_memory laws library net text insert.OutOfMemory ok stands = refl

pub free_memory : Laws → FreeTextsWantMemory
free_memory laws library net text f ok stands = inputs_memory laws library net text f ok stands

pub refused_memory : Laws → (library : List ListedCell) (net text : List ℕ) (f : Fault) → IsInsertable library net text → StandsInInputs library net text f → status_of f ≡ status.Memory
refused_memory laws library net text f ok bad = subst (λ (g : Fault). status_of g ≡ status.Memory) (sym bad.fault_is) (inputs_memory laws library net text bad.one ok bad.stands)

-- with the library behind both
pub all_memory : Laws → (f : Fault) (texts : List (List ℕ)) → AreInsertable texts → HaveFault texts f → status_of f ≡ status.Memory
all_memory laws f (net ∷ text ∷ more) ok (inl bad) = library_memory laws.no_library_fault more ok.0 f ok.1.0 bad
all_memory laws f (net ∷ text ∷ more) ok (inr (library, (is, stands))) =
    let same : library ≡ ok.0 = one_library laws.one_library more library ok.0 is ok.1.0 in
    refused_memory laws ok.0 net text f ok.1.1 (subst (λ (l : List ListedCell). StandsInInputs l net text f) same stands)
all_memory laws f [] ok stands = absurd stands
all_memory laws f (net ∷ []) ok stands = absurd stands

pub ok_with : {T E : Type 0} (r : Result T E) (P Q : T → Type 0) → ((x : T) → P x → Q x) → IfOk r P → IfOk r Q
ok_with (Ok x) P Q law is = law x is
ok_with (Err e) P Q law is = tt
