use Rattle.std.proofs.Common.{ℕ, List, length, ap, ◌∙◌, subst, arith}
use Rattle.list_laws.proofs.Options.{err_is}
use Rattle.cell_library.specs.declared.listed.ListedCell.{ListedCell}
use Rattle.netlist_arena.specs.Arena.{ArenaView}
use Rattle.netlist_link.specs.Links.{IsLinkFault}
use Rattle.box_links.specs.declared.fault.BoxLinkFault.TheVariants.{OutOfMemory}
use Rattle.box_links.specs.Steps.{IsFaultOf, IsToldAs}
use Rattle.box_links.specs.Steps.IsFaultOf.{linking, short}
use Rattle.box_links.proofs.HiddenPorts.{linked_long}
use Rattle.box_links.proofs.Marked.{marked}
use Rattle.box_links.proofs.linking.link_opened.Goals as goal

pub returns-in_err-cells-clause-fault : goal.returns-in_err-cells-clause-fault
returns-in_err-cells-clause-fault c = err_is c.from_residual.result OutOfMemory (IsFaultOf c.args.library.now c.args.opened.now) c.from_residual.ensures.1 short

pub returns-in-Err-clause-fault : goal.returns-in-Err-clause-fault
returns-in-Err-clause-fault c =
    linking
    (subst (λ (l : List ListedCell). IsLinkFault l c.args.opened.now.tree c.in-Err.fault) c.in_ok-cells.ensures c.in-Err.ensures.fault)
    (subst (λ (l : List ℕ). IsToldAs l c.in-Err.fault c.own_fault.result) c.as_slice.ensures.value c.own_fault.ensures)

pub overflow_cast-opened : goal.overflow_cast-opened
overflow_cast-opened c =
    let long = linked_long c.args.opened.now.tree c.in-Ok.linked c.in-Ok.ensures.ok in
    let count = c.port_count-ports.ensures ∙ ap (λ (a : ArenaView). length a.lists.ports) c.netlist.ensures.netlist in
    omega (arith, long, count)

pub overflow_cast-opened-2 : goal.overflow_cast-opened-2
overflow_cast-opened-2 c =
    let long = linked_long c.args.opened.now.tree c.in-Ok.linked c.in-Ok.ensures.ok in
    let count = c.port_count-ports.ensures ∙ ap (λ (a : ArenaView). length a.lists.ports) c.netlist.ensures.netlist in
    omega (arith, long, count)

pub returns-clause-linked : goal.returns-clause-linked
returns-clause-linked c =
    marked c.args.library.now c.args.opened.now c.in-Ok.linked c.mark_straight.new.self c.mark_straight.ensures c.in-Ok.ensures.ok (c.in-Ok.ensures.library ∙ c.in_ok-cells.ensures) c.in-Ok.ensures.marks
    c.netlist.ensures.linked.formed
