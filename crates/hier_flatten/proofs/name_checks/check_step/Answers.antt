use Rattle.std.proofs.Common.{take, refl, ap}
use Rattle.hier_model.specs.Walks.{texts, turn_of}
use Rattle.hier_model.specs.Faults.{turn_checks}
use Rattle.hier_flatten.proofs.EnterLaws.{of_declared}
use Rattle.hier_flatten.proofs.StepChecks.{opens_checks}
use Rattle.hier_flatten.proofs.name_checks.check_step.Goals as goal

pub returns-in-Opens : goal.returns-in-Opens
returns-in-Opens c =
    let turn = turn_of c.args.step.turn in
    of_declared (take c.args.declared c.args.seen.now) c.args.seen.now c.enter.new.seen _ (turn_checks (take c.args.step.depth (texts c.args.path.now)) c.args.step.within.now turn) c.enter.result
    (opens_checks c.args.path.now _ c.args.step.depth c.args.step.within.now turn c.in-Opens.instance.now c.in-Opens.field-1.now c.as_bytes.result.now refl c.as_bytes.ensures (ap turn_of c.in-Opens.is)) c.enter.ensures
