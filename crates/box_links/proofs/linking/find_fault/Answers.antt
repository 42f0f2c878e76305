use Rattle.std.proofs.Common.{sym, ◌∙◌}
use Rattle.list_laws.proofs.Options.{err_is}
use Rattle.box_links.specs.declared.fault.BoxLinkFault.TheVariants.{OutOfMemory}
use Rattle.box_links.specs.BoxFaults.{IsBoxLinkFault}
use Rattle.box_links.specs.BoxFaults.IsBoxLinkFault.{stands, memory}
use Rattle.box_links.specs.BoxFaults.StandsInBoxes.{boxes, excess}
use Rattle.box_links.proofs.linking.find_fault.Goals as goal

pub returns-in_err-fault-clause-fault : goal.returns-in_err-fault-clause-fault
returns-in_err-fault-clause-fault c = λ first. err_is c.from_residual.result OutOfMemory (IsBoxLinkFault c.args.table.now first c.args.tree.now) c.from_residual.ensures.1 memory

pub returns-in-Some-clause-fault : goal.returns-in-Some-clause-fault
returns-in-Some-clause-fault c = λ first. stands (boxes (sym c.in_ok-fault.ensures ∙ c.in-Some.is))

pub returns-in_err-fault-2-clause-fault : goal.returns-in_err-fault-2-clause-fault
returns-in_err-fault-2-clause-fault c = λ first. err_is c.from_residual-in_err-fault-2.result OutOfMemory (IsBoxLinkFault c.args.table.now first c.args.tree.now) c.from_residual-in_err-fault-2.ensures.1 memory

pub returns-in-Some-2-clause-fault : goal.returns-in-Some-2-clause-fault
returns-in-Some-2-clause-fault c = λ first. stands (excess (sym c.in_ok-fault.ensures ∙ c.in-None.is) (sym c.in_ok-fault-2.ensures ∙ c.in-Some-2.is))
