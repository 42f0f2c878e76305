-- What refuses to be linked or fitted gives nothing.
use Rattle.std.proofs.Common.{◌≡◌, ℕ, List, sym, ◌∙◌, ap, subst, arith}
use Rattle.std.proofs.lemmas.Option.{slice_get_within}
use Rattle.list_laws.proofs.Options.{none_some}
use Rattle.list_laws.proofs.Lists.{slice_get_there}
use Rattle.cell_library.specs.declared.listed.ListedCell.{ListedCell}
use Rattle.verilog_tree.specs.declared.tree.Module.{Module}
use Rattle.link_model.specs.declared.fault.LinkFault.{LinkFault}
use Rattle.link_model.specs.Late.{IsLinkable}
use Rattle.netlist_link.specs.Linked.{LinkedView}
use Rattle.netlist_link.specs.Links.{IsLinkFault}
use Rattle.netlist_link.specs.Laws.{FaultsForbidLinks}
use Rattle.netlist_link.specs.ViewLaws.{LinkViewIsNamed}
use Rattle.netlist_link.specs.WellNamed.{IsWellNamed}
use Rattle.plan_texts.specs.declared.plan.Plan.{Plan}
use Rattle.plan_texts.specs.declared.plan.PinLine.{PinLine}
use Rattle.plan_texts.specs.declared.fault.PlanFault.{PlanFault}
use Rattle.plan_texts.specs.declared.fault.PlanFault.TheVariants as plan
use Rattle.plan_texts.specs.Canonical.{canonical_plan, IsPlan}
use Rattle.plan_texts.specs.Exactly.{SpelledOnce, SpelledIsFaultless}
use Rattle.plan_texts.specs.Faults as plans
use Rattle.plan_texts.specs.Grammar.{SpellsPlan}
use Rattle.plan_texts.specs.Spells.{CanonicalPlansSpell}
use Rattle.plan_fitting.specs.declared.fault.FitFault.{FitFault}
use Rattle.plan_fitting.specs.declared.fault.FitFault.TheVariants as fit
use Rattle.plan_fitting.specs.Pins.{PinSeen, AreSeen}
use Rattle.plan_fitting.specs.Devices.{fitted_of}
use Rattle.plan_fitting.specs.Fits as fits
use Rattle.insertion_inputs.specs.declared.fault.InsertFault.{InsertFault}
use Rattle.insertion_inputs.specs.declared.fault.InsertFault.TheVariants as insert
use Rattle.insertion_inputs.specs.Inputs.{HasRoomFor, IsLinkedTree}
use Rattle.insertion_inputs.specs.Faults.{HasTooMany, StandsInPlan}
use Rattle.strip_model.specs.Once.{PinsAreSeenOnce}
use Rattle.scan_strip.specs.declared.fault.StripFault.TheVariants.{NotInserted, OutOfMemory}
use Rattle.scan_strip.specs.Refusals.{of_link, of_insert, CanBeFitted}

pub memory_apart : OutOfMemory ≡ NotInserted → ⊥
memory_apart e = cc

pub link_refused : FaultsForbidLinks → (library : List ListedCell) (core : Module) (f : LinkFault) → IsLinkFault library core f → of_link f ≡ NotInserted → IsLinkable library core → ⊥
link_refused law library core f (IsLinkFault.stands s) told can = law library core f s can
link_refused law library core f IsLinkFault.memory told can = memory_apart told

-- The plan's text.

plan_refused : SpelledIsFaultless → (bytes : List ℕ) (p : Plan) (f : PlanFault) → SpellsPlan bytes p → plans.IsFault bytes f → of_insert (insert.Plan f) ≡ NotInserted → ⊥
plan_refused law bytes p (plan.PlanLine line) spells bad told = law bytes p spells (plan.PlanLine line) bad
plan_refused law bytes p (plan.PlanTwice word) spells bad told = law bytes p spells (plan.PlanTwice word) bad
plan_refused law bytes p (plan.PlanOpcode word) spells bad told = law bytes p spells (plan.PlanOpcode word) bad
plan_refused law bytes p plan.PlanIdcode spells bad told = law bytes p spells plan.PlanIdcode bad
plan_refused law bytes p plan.PlanUsercode spells bad told = law bytes p spells plan.PlanUsercode bad
plan_refused law bytes p (plan.PlanInstruction word) spells bad told = law bytes p spells (plan.PlanInstruction word) bad
plan_refused law bytes p plan.OutOfMemory spells bad told = memory_apart told

-- Fitting.

-- each pin line names a bit
named : (L : LinkedView) (lines : List PinLine) (seen : List PinSeen) → AreSeen L lines seen → (word : List ℕ) → fits.IsUnnamed L lines word → ⊥
named L lines seen are word bad =
    let within = slice_get_within lines bad.place bad.line bad.there in
    let count = are.count in
    let one = slice_get_there seen bad.place (omega (arith, within, count)) in
    bad.unnamed one.0.pin (are.each bad.place bad.line one.0 bad.there one.1).named

faultless : PinsAreSeenOnce → (L : LinkedView) (p : Plan) (f : FitFault) → IsWellNamed L.names L.arena.lists → fits.Fits L p → fits.HasFault L p f → ⊥
faultless once L p f well ok bad =
    let seen : bad.seen ≡ ok.seen = once L p.pins bad.seen ok.seen well bad.are_seen ok.are_seen in
    none_some (sym ok.faultless ∙ ap (fits.fault_with L p) (sym seen) ∙ bad.first)

fit_refused : PinsAreSeenOnce → (L : LinkedView) (p : Plan) (f : FitFault) → IsWellNamed L.names L.arena.lists → fits.Fits L p → fits.IsFault L p f → of_insert (insert.Fit f) ≡ NotInserted → ⊥
fit_refused once L p (fit.PlanPort word) well ok bad told = named L p.pins ok.seen ok.are_seen word bad
fit_refused once L p (fit.PlanPortMissing word) well ok bad told = faultless once L p (fit.PlanPortMissing word) well ok bad
fit_refused once L p (fit.PlanTwice word) well ok bad told = faultless once L p (fit.PlanTwice word) well ok bad
fit_refused once L p (fit.PlanCell word) well ok bad told = faultless once L p (fit.PlanCell word) well ok bad
fit_refused once L p (fit.PlanName word) well ok bad told = faultless once L p (fit.PlanName word) well ok bad
fit_refused once L p (fit.PrefixTaken word) well ok bad told = faultless once L p (fit.PrefixTaken word) well ok bad
fit_refused once L p fit.OutOfMemory well ok bad told = memory_apart told

-- The whole.

-- own: the laws by which no fault stands in what fits
pub record Laws : Type 0 where
  pub once : SpelledOnce
  pub faultless : SpelledIsFaultless
  pub canonical : CanonicalPlansSpell
  pub seen : PinsAreSeenOnce

same : Laws → (q p : Plan) → IsPlan q → SpellsPlan (canonical_plan q) p → p ≡ q
same laws q p is spells = laws.once (canonical_plan q) p q spells (laws.canonical q is)

pub insert_refused : Laws → (L : LinkedView) (q : Plan) (f : InsertFault) → IsWellNamed L.names L.arena.lists → StandsInPlan L (canonical_plan q) f → of_insert f ≡ NotInserted → CanBeFitted L q → ⊥
insert_refused laws L q (insert.Netlist f) well bad told ok = bad
insert_refused laws L q (insert.Link f) well bad told ok = bad
insert_refused laws L q (insert.Plan f) well bad told ok = plan_refused laws.faultless (canonical_plan q) q f (laws.canonical q ok.plan) bad told
insert_refused laws L q (insert.Fit f) well bad told ok =
    let stands : fits.IsFault L q f = subst (λ (p : Plan). fits.IsFault L p f) (same laws q bad.plan ok.plan bad.spells) bad.stands in
    fit_refused laws.seen L q f well ok.fits stands told
insert_refused laws L q (insert.TooMany what count limit) well bad told ok =
    let many : HasTooMany L q what count limit = subst (λ (p : Plan). HasTooMany L p what count limit) (same laws q bad.plan ok.plan bad.spells) bad.stands in
    let seen : many.is.seen ≡ ok.fits.seen = laws.seen L q.pins many.is.seen ok.fits.seen well many.is.are_seen ok.fits.are_seen in
    let fitted : many.fitted ≡ fitted_of L q ok.fits.seen = many.is.is ∙ ap (fitted_of L q) seen in
    let room : HasRoomFor L many.fitted = subst (HasRoomFor L) (sym fitted) ok.room in
    none_some (sym room ∙ many.passes)
insert_refused laws L q insert.OutOfMemory well bad told ok = memory_apart told

-- with each law by itself
pub fit_text_refused : SpelledOnce → SpelledIsFaultless → CanonicalPlansSpell → PinsAreSeenOnce → LinkViewIsNamed → (L : LinkedView) (q : Plan) (f : InsertFault) → IsLinkedTree L
    → StandsInPlan L (canonical_plan q) f → of_insert f ≡ NotInserted → CanBeFitted L q → ⊥
fit_text_refused once faultless canonical seen named L q f t bad told ok =
    insert_refused (record { once = once; faultless = faultless; canonical = canonical; seen = seen }) L q f (named t.tree L t.is t.listed t.links) bad told ok
