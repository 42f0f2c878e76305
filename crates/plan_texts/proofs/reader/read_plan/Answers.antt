use Rattle.std.proofs.Common.{sym, ◌∙◌, subst}
use Rattle.plan_texts.specs.declared.plan.Plan.{Plan}
use Rattle.plan_texts.specs.Grammar.{SpellsPlan}
use Rattle.plan_texts.proofs.Exact.{told_is_spelled}
use Rattle.plan_texts.proofs.reader.read_plan.Goals as goal

pub returns-clause-spelled : goal.returns-clause-spelled
returns-clause-spelled c =
    subst (λ (p : Plan). SpellsPlan c.args.bytes.now p) (sym c.in_ok-plan_of.ensures)
    (told_is_spelled c.args.bytes.now c.in_ok-written.written c.in_ok-written.ensures.written (sym c.in_ok-fault.ensures ∙ c.in-None.is))
