use Rattle.std.proofs.Common.{◌≡◌, ℕ, List, ◌∙◌, subst}
use Rattle.list_laws.proofs.Options.{err_is}
use Rattle.insertion_inputs.specs.Faults.{StandsInPlan}
use Rattle.scan_strip.specs.declared.fault.StripFault.TheVariants.{NotInserted}
use Rattle.scan_strip.specs.Refusals.{of_insert, CanBeFitted}
use Rattle.scan_strip.proofs.Refused.{fit_text_refused}
use Rattle.scan_strip.proofs.again.fit_plan.Goals as goal

pub returns-in_err-fit_text-clause-fault : goal.returns-in_err-fit_text-clause-fault
returns-in_err-fit_text-clause-fault c =
    let f = c.in_err-fit_text.field-0.0 in
    err_is c.from_residual-in_err-fit_text.result (of_insert f) (λ told. told ≡ NotInserted → CanBeFitted c.args.linked.now c.args.plan.now → ⊥) c.from_residual-in_err-fit_text.ensures.1
    (fit_text_refused c.texts_of_plans_are_spelled_or_at_fault.ensures.once c.texts_of_plans_are_spelled_or_at_fault.ensures.faultless c.canonical_plans_spell_themselves.ensures c.pins_are_seen_once.ensures
    c.link_view_is_named.ensures c.args.linked.now c.args.plan.now f c.requires
    (subst (λ (text : List ℕ). StandsInPlan c.args.linked.now text f) (c.as_bytes.ensures ∙ c.in_ok-text.ensures) c.in_err-fit_text.ensures.fault))
