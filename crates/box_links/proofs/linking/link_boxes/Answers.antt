use Rattle.std.proofs.Common.{arith}
use Rattle.list_laws.proofs.Options.{err_is}
use Rattle.box_links.specs.BoxFaults.{IsBoxLinkFault}
use Rattle.box_links.proofs.Counts.{few_items}
use Rattle.box_links.proofs.Faults.{driven_fault, linking_fault}
use Rattle.box_links.proofs.Marked.{box_linked, can_be_linked, ports_there}
use Rattle.box_links.proofs.linking.link_boxes.Goals as goal

pub link_opened-requires : goal.link_opened-requires
link_opened-requires c =
    can_be_linked c.trees_stay_trees.ensures.opened c.args.library.now c.args.first c.args.tree c.in_ok-opened.opened c.requires.sound c.requires.tree c.requires.first c.in_ok-opened.ensures.clear c.in_ok-opened.ensures.opened

pub without_three_state-requires : goal.without_three_state-requires
without_three_state-requires c =
    ports_there c.args.library.now c.args.first c.args.tree c.in_ok-opened.opened c.in_ok-linked.linked c.requires.first c.in_ok-opened.ensures.opened c.in_ok-linked.ensures.linked

pub returns-in_err-linked-clause-fault : goal.returns-in_err-linked-clause-fault
returns-in_err-linked-clause-fault c =
    err_is c.from_residual-in_err-linked.result c.in_err-linked.field-0.0 (IsBoxLinkFault c.args.library.now c.args.first c.args.tree) c.from_residual-in_err-linked.ensures.1
    (linking_fault c.args.library.now c.args.first c.args.tree c.in_ok-opened.opened c.in_err-linked.field-0.0 c.in_ok-opened.ensures.clear c.in_ok-opened.ensures.opened c.in_err-linked.ensures.fault)

pub returns-in_err-without_three_state-clause-fault : goal.returns-in_err-without_three_state-clause-fault
returns-in_err-without_three_state-clause-fault c =
    err_is c.from_residual-in_err-without_three_state.result c.in_err-without_three_state.field-0.0 (IsBoxLinkFault c.args.library.now c.args.first c.args.tree) c.from_residual-in_err-without_three_state.ensures.1
    (driven_fault c.args.library.now c.args.first c.args.tree c.in_ok-opened.opened c.in_ok-linked.linked c.in_err-without_three_state.field-0.0 c.in_ok-opened.ensures.clear c.in_ok-opened.ensures.opened
    c.in_ok-linked.ensures.linked c.in_err-without_three_state.ensures.fault)

pub overflow_cast-result : goal.overflow_cast-result
overflow_cast-result c =
    let few = few_items c.args.library.now c.args.tree c.in_ok-opened.ensures.clear.small in
    let count = c.len-items.ensures in
    omega (arith, few, count)

pub returns-clause-linked : goal.returns-clause-linked
returns-clause-linked c =
    box_linked c.found_driver_drives.ensures c.direction_of_a_bit.ensures c.args.library.now c.args.first c.args.tree c.in_ok-opened.opened c.in_ok-linked.linked c.in_ok-without_three_state.field-0 c.requires.first
    c.in_ok-opened.ensures.clear c.in_ok-opened.ensures.opened c.in_ok-linked.ensures.linked c.in_ok-without_three_state.ensures.linked
