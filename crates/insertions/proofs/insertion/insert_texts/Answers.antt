use Rattle.list_laws.proofs.Options.{err_is}
use Rattle.insertion_inputs.specs.Faults.{StandsInTexts}
use Rattle.insertions.proofs.Made.{netlist_stands}
use Rattle.insertions.proofs.insertion.insert_texts.Goals as goal

pub insert_into-requires : goal.insert_into-requires
insert_into-requires c = (c.args.library, c.args.net, c.in_ok-linked.ensures.linked)

pub returns-in_err-linked-clause-fault : goal.returns-in_err-linked-clause-fault
returns-in_err-linked-clause-fault c =
    err_is c.from_residual.result c.in_err-linked.field-0.0 (StandsInTexts c.args.library c.args.net c.args.plan.now) c.from_residual.ensures.1
    (netlist_stands c.args.library c.args.net c.args.plan.now c.in_err-linked.field-0.0 c.in_err-linked.ensures.fault)

pub returns-clause-inserted : goal.returns-clause-inserted
returns-clause-inserted c = c.insert_into.ensures.inserted c.args.library c.args.net c.in_ok-linked.ensures.linked

pub returns-clause-fault : goal.returns-clause-fault
returns-clause-fault c = c.insert_into.ensures.fault c.args.library c.args.net c.in_ok-linked.ensures.linked
