use Rattle.std.proofs.Common.{subst}
use Rattle.list_laws.proofs.Options.{err_is}
use Rattle.box_model.specs.declared.boxes.BoxLibrary.{BoxLibrary}
use Rattle.box_links.specs.declared.fault.BoxLinkFault.TheVariants.{OutOfMemory}
use Rattle.box_links.specs.BoxFaults.{CanBeOpened, IsBoxLinkFault}
use Rattle.box_links.specs.BoxFaults.IsBoxLinkFault.{memory}
use Rattle.box_links.proofs.Marked.{opened_is}
use Rattle.box_links.proofs.linking.open_boxes.Goals as goal

pub returns-in_err-table-clause-fault : goal.returns-in_err-table-clause-fault
returns-in_err-table-clause-fault c = err_is c.from_residual.result OutOfMemory (IsBoxLinkFault c.args.library.now c.args.first c.args.tree) c.from_residual.ensures.1 memory

pub returns-in_err-find_fault-clause-fault : goal.returns-in_err-find_fault-clause-fault
returns-in_err-find_fault-clause-fault c =
    err_is c.from_residual-in_err-find_fault.result c.in_err-find_fault.field-0.0 (IsBoxLinkFault c.args.library.now c.args.first c.args.tree) c.from_residual-in_err-find_fault.ensures.1
    (subst (λ (B : BoxLibrary). IsBoxLinkFault B c.args.first c.args.tree c.in_err-find_fault.field-0.0) c.in_ok-table.ensures (c.in_err-find_fault.ensures.fault c.args.first))

pub returns-in_err-open-clause-fault : goal.returns-in_err-open-clause-fault
returns-in_err-open-clause-fault c = err_is c.from_residual-in_err-open.result OutOfMemory (IsBoxLinkFault c.args.library.now c.args.first c.args.tree) c.from_residual-in_err-open.ensures.1 memory

pub returns-clause-clear : goal.returns-clause-clear
returns-clause-clear c = subst (λ (B : BoxLibrary). CanBeOpened B c.args.tree) c.in_ok-table.ensures c.in_ok-find_fault.ensures.clear

pub returns-clause-opened : goal.returns-clause-opened
returns-clause-opened c =
    opened_is c.in_ok-table.table c.args.library.now c.args.first c.args.tree c.in_ok-open.field-0 c.in_ok-table.ensures c.requires c.in_ok-open.ensures.tree c.in_ok-open.ensures.first c.in_ok-open.ensures.hidden
    c.in_ok-open.ensures.origins
