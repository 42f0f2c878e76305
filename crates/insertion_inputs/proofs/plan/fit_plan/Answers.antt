use Rattle.std.proofs.Common.{subst, arith}
use Rattle.netlist_arena.specs.Arena.{ArenaView}
use Rattle.netlist_model.specs.Formed.{IsLaidOut}
use Rattle.plan_fitting.proofs.NoneHidden.{none_straight}
use Rattle.insertion_inputs.proofs.Ready.{ready}
use Rattle.insertion_inputs.proofs.plan.fit_plan.Goals as goal

pub fit-requires-clause-straight : goal.fit-requires-clause-straight
fit-requires-clause-straight c = none_straight c.args.linked.now c.requires.linked.hides

pub returns-clause-ready : goal.returns-clause-ready
returns-clause-ready c =
    let few = c.if-len-gt-MOST_LINES.false in
    let count = c.len.ensures in
    ready (record {
      fitting = c.fitted_is_fitting.ensures;
      has = c.direction_of_a_bit.ensures;
      found = c.driver_is_found.ensures;
      new = c.tap_names_are_new.ensures;
      there = c.fitted_bits_are_there.ensures;
    }) c.args.linked.now c.args.plan.now c.in_ok-fitted.fitted c.requires.linked c.requires.plan (subst (λ (a : ArenaView). IsLaidOut a.lists) c.netlist.ensures.netlist c.is_laid_out.ensures.laid_out)
    c.in_ok-fitted.ensures.fitted (omega (arith, few, count))
