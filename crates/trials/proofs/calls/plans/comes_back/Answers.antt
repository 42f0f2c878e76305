-- The plan was read, so some bytes spell it.
use Rattle.trials.proofs.calls.plans.comes_back.Goals as goal

pub print_plan-requires : goal.print_plan-requires
print_plan-requires g c = (c.args.bytes.now, c.in_ok-plan.ensures.spelled)
