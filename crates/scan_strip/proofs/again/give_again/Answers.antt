use Rattle.std.proofs.Common.{◌≡◌, true, false, sym, ◌∙◌}
use Rattle.list_laws.proofs.Options.{err_is}
use Rattle.plan_texts.specs.Canonical.{canonical_plan}
use Rattle.scan_strip.specs.declared.fault.StripFault.TheVariants.{NotInserted, OutOfMemory}
use Rattle.scan_strip.specs.Stripped.{GivesBy}
use Rattle.scan_strip.proofs.MadeAgain.{Laws, found_gives, same_device, same_module}
use Rattle.scan_strip.proofs.Refused.{memory_apart}
use Rattle.scan_strip.proofs.again.give_again.Goals as goal

pub insert_again-requires : goal.insert_again-requires
insert_again-requires c = record { text = canonical_plan c.args.plan.now; before = c.args.linked.now; tree = c.requires.tree; fitting = c.in_ok-fitting.ensures.fitting }

pub returns-in_err-fitting-clause-fault : goal.returns-in_err-fitting-clause-fault
returns-in_err-fitting-clause-fault c =
    err_is c.from_residual.result c.in_err-fitting.field-0.0 (λ f. f ≡ NotInserted → GivesBy c.args.linked.now c.args.plan.now c.args.inserted.now c.args.device.now → ⊥) c.from_residual.ensures.1
    (λ told g. c.in_err-fitting.ensures.fault told (record { plan = g.plan; fits = g.at.fits; room = g.at.room }))

pub returns-in_err-again-clause-fault : goal.returns-in_err-again-clause-fault
returns-in_err-again-clause-fault c =
    err_is c.from_residual-in_err-again.result OutOfMemory (λ f. f ≡ NotInserted → GivesBy c.args.linked.now c.args.plan.now c.args.inserted.now c.args.device.now → ⊥) c.from_residual-in_err-again.ensures.1
    (λ told g. memory_apart told)

pub returns-then-not-is_same-clause-fault : goal.returns-then-not-is_same-clause-fault
returns-then-not-is_same-clause-fault c = λ told g.
    let laws : Laws = record {
      once = c.texts_of_plans_are_spelled_or_at_fault.ensures.once;
      canonical = c.canonical_plans_spell_themselves.ensures;
      seen = c.pins_are_seen_once.ensures;
      entered = c.tap_names_are_entered.ensures;
      named = c.link_view_is_named.ensures;
    } in
    let made = c.in_ok-fitting.fitting in
    let yes = c.is_same.ensures.1 (same_device laws c.args.linked.now c.fit_plan.new.linked c.args.plan.now made.plan made.fitted made.device c.args.device.now c.args.inserted.now c.requires.tree c.in_ok-fitting.ensures.fitting g) in
    let bad : true ≡ false = sym yes ∙ c.if-not-is_same.true in cc

pub returns-then-not-is_same-2-clause-fault : goal.returns-then-not-is_same-2-clause-fault
returns-then-not-is_same-2-clause-fault c = λ told g.
    let laws : Laws = record {
      once = c.texts_of_plans_are_spelled_or_at_fault.ensures.once;
      canonical = c.canonical_plans_spell_themselves.ensures;
      seen = c.pins_are_seen_once.ensures;
      entered = c.tap_names_are_entered.ensures;
      named = c.link_view_is_named.ensures;
    } in
    let made = c.in_ok-fitting.fitting in
    let again = c.in_ok-again.ensures (canonical_plan c.args.plan.now) c.args.linked.now c.requires.tree c.in_ok-fitting.ensures.fitting in
    let yes = c.is_same-2.ensures.1 (same_module laws c.args.linked.now c.fit_plan.new.linked c.args.plan.now made.plan made.fitted made.device c.args.device.now c.in_ok-again.again c.args.inserted.now c.requires.tree
    c.in_ok-fitting.ensures.fitting again g) in
    let bad : true ≡ false = sym yes ∙ c.if-not-is_same-2.true in cc

pub returns-clause-gives : goal.returns-clause-gives
returns-clause-gives c =
    let made = c.in_ok-fitting.fitting in
    let again = c.in_ok-again.ensures (canonical_plan c.args.plan.now) c.args.linked.now c.requires.tree c.in_ok-fitting.ensures.fitting in
    found_gives c.law_of_stripping.ensures (canonical_plan c.args.plan.now) c.args.linked.now c.fit_plan.new.linked c.args.plan.now made.plan made.fitted made.device c.args.device.now c.in_ok-again.again c.args.inserted.now
    c.requires c.in_ok-fitting.ensures.fitting again (c.is_same.ensures.0 c.if-not-is_same.false) (c.is_same-2.ensures.0 c.if-not-is_same-2.false)
