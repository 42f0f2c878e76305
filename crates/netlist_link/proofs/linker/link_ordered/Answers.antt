use Rattle.netlist_link.specs.Links.IsLinkFault.{memory}
use Rattle.link_names.specs.link_model.Faults.{cells_in}
use Rattle.netlist_link.proofs.Assembled.{tree_drivers_of, nets_count}
use Rattle.netlist_link.proofs.LinkFaults.{derived_fault_first}
use Rattle.netlist_link.proofs.linker.link_ordered.Goals as goal

pub find_derived-requires-clause-count : goal.find_derived-requires-clause-count
find_derived-requires-clause-count c =
    rw c.deref.ensures.value (nets_count c.args.built.names c.args.built.netlist.lists c.args.tree.now c.args.nets.items (cells_in c.args.built.netlist.lists.library c.args.tree.now) c.requires.these c.requires.built)

pub find_derived-requires-clause-live : goal.find_derived-requires-clause-live
find_derived-requires-clause-live c = (c.args.built.names, c.requires.built.named.cells)

pub returns-in-Ok-Some-clause-fault : goal.returns-in-Ok-Some-clause-fault
returns-in-Ok-Some-clause-fault c =
    derived_fault_first c.args.built.names c.args.built.netlist.lists c.args.tree.now c.args.nets.items (cells_in c.args.built.netlist.lists.library c.args.tree.now) c.args.area.order c.in-Ok-Some.fault c.requires.these c.requires.drivers c.requires.built
    (tree_drivers_of c.nets_have_their_drivers.ensures c.args.built.netlist.lists.library c.args.tree.now c.args.nets.items (cells_in c.args.built.netlist.lists.library c.args.tree.now) c.requires.these c.requires.drivers)
    c.requires.order (rw c.in-Ok-Some.field-0-is at c.in-Ok-Some.ensures)

pub returns-in-Err-link_sound-clause-fault : goal.returns-in-Err-link_sound-clause-fault
returns-in-Err-link_sound-clause-fault c = memory

pub returns-in-Err-clause-fault : goal.returns-in-Err-clause-fault
returns-in-Err-clause-fault c = memory
