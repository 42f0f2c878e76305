use Rattle.std.proofs.Common.{◌≡◌, IfOk, subst}
use Rattle.plan_texts.specs.declared.plan.Plan.{Plan}
use Rattle.plan_texts.specs.Canonical.{canonical_plan}
use Rattle.insert_command.proofs.demo.demo_texts.plan_text.Goals as goal

pub returns : goal.returns
returns c = subst (λ (p : Plan). IfOk c.print_plan.result (λ text. text ≡ canonical_plan p)) c.in_ok-plan.ensures c.print_plan.ensures.canonical
