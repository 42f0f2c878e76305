use Rattle.netlist_link.specs.Links.IsLinkFault.{memory}
use Rattle.netlist_link.proofs.LinkFaults.{driver_first}
use Rattle.netlist_link.proofs.linker.link_resolved.Goals as goal

pub returns-in-Ok-Some-clause-fault : goal.returns-in-Ok-Some-clause-fault
returns-in-Ok-Some-clause-fault c =
    driver_first c.args.library c.args.tree.now c.args.resolved.nets.items c.args.resolved.cells.items c.in-Ok-Some.fault c.requires
    (rw (c.in-Ok-Some.field-0-is, c.deref.ensures.value, c.deref-2.ensures.value) at c.in-Ok-Some.ensures)

pub returns-in-Err-clause-fault : goal.returns-in-Err-clause-fault
returns-in-Err-clause-fault c = memory
