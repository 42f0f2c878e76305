use Rattle.std.proofs.Common.{subst}
use Rattle.list_laws.proofs.Options.{err_is}
use Rattle.netlist_model.specs.Formed.{IsLaidOut}
use Rattle.netlist_arena.specs.Arena.{ArenaView}
use Rattle.status_inputs.specs.Reserves.{memory_fault}
use Rattle.status_inputs.specs.Faults.{StandsInStatusTexts}
use Rattle.status_insertions.proofs.Stand.{behind_stands, linked_tree}
use Rattle.status_insertions.proofs.insertion.insert_into.Goals as goal

pub fit_texts-requires : goal.fit_texts-requires
fit_texts-requires c = linked_tree c.requires.0 c.requires.1 c.args.linked.now c.requires.2

pub write_stitched-requires : goal.write_stitched-requires
write_stitched-requires c = record {
  library = c.requires.0;
  net = c.requires.1;
  text = c.args.plan.now;
  lines = c.args.registers.now;
  before = c.args.linked.now;
  netlist = c.requires.2;
  laid = subst (λ (a : ArenaView). IsLaidOut a.lists) c.netlist.ensures.netlist c.is_laid_out.ensures.laid_out;
  fitting = c.in_ok-fitting.ensures.fitting;
}

pub returns-in_err-fitting-clause-fault : goal.returns-in_err-fitting-clause-fault
returns-in_err-fitting-clause-fault c = λ library net is.
    err_is c.from_residual.result c.in_err-fitting.field-0.0 (StandsInStatusTexts library net c.args.plan.now c.args.registers.now) c.from_residual.ensures.1
    (behind_stands library net c.args.plan.now c.args.registers.now c.args.linked.now c.in_err-fitting.field-0.0 is c.in_err-fitting.ensures.fault)

pub returns-clause-inserted : goal.returns-clause-inserted
returns-clause-inserted c = λ library net is.
    let laid = subst (λ (a : ArenaView). IsLaidOut a.lists) c.netlist.ensures.netlist c.is_laid_out.ensures.laid_out in
    c.in_ok-write_stitched.ensures library net c.args.plan.now c.args.registers.now c.args.linked.now is laid c.in_ok-fitting.ensures.fitting

pub returns-in_err-write_stitched-clause-fault : goal.returns-in_err-write_stitched-clause-fault
returns-in_err-write_stitched-clause-fault c = λ library net is.
    err_is c.from_residual-in_err-write_stitched.result memory_fault (StandsInStatusTexts library net c.args.plan.now c.args.registers.now) c.from_residual-in_err-write_stitched.ensures.1 tt
