use Rattle.list_laws.proofs.Options.{err_is}
use Rattle.status_inputs.specs.Faults.{StandsInStatusTexts}
use Rattle.status_inputs.specs.declared.fault.StatusInsertFault.TheVariants as fault
use Rattle.status_insertions.proofs.Stand.{netlist_stands}
use Rattle.status_insertions.proofs.insertion.insert_status.Goals as goal

pub insert_into-requires : goal.insert_into-requires
insert_into-requires c = (c.args.library, c.args.net, c.in_ok-linked.ensures.linked)

pub returns-in_err-linked-clause-fault : goal.returns-in_err-linked-clause-fault
returns-in_err-linked-clause-fault c =
    err_is c.from_residual.result (fault.Insert c.in_err-linked.field-0.0) (StandsInStatusTexts c.args.library c.args.net c.args.plan.now c.args.registers.now) c.from_residual.ensures.1
    (netlist_stands c.args.library c.args.net c.args.plan.now c.args.registers.now c.in_err-linked.field-0.0 c.in_err-linked.ensures.fault)

pub returns-clause-inserted : goal.returns-clause-inserted
returns-clause-inserted c = c.insert_into.ensures.inserted c.args.library c.args.net c.in_ok-linked.ensures.linked

pub returns-clause-fault : goal.returns-clause-fault
returns-clause-fault c = c.insert_into.ensures.fault c.args.library c.args.net c.in_ok-linked.ensures.linked
