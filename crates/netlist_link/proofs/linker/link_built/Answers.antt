use Rattle.std.proofs.Common.{subst, sym}
use Rattle.link_names.specs.link_model.declared.fault.LinkFault.{LinkFault}
use Rattle.netlist_link.specs.Links.{IsLinkFault}
use Rattle.netlist_link.proofs.Assembled.{of_tree, tree_driven}
use Rattle.netlist_link.proofs.LinkFaults.{order_first}
use Rattle.netlist_link.proofs.linker.link_built.Goals as goal

pub link_ordered-requires-clause-these : goal.link_ordered-requires-clause-these
link_ordered-requires-clause-these c = of_tree c.args.built.netlist.lists.library c.args.tree.now c.args.resolved.nets.items c.args.resolved.cells.items c.requires.these

pub link_ordered-requires-clause-drivers : goal.link_ordered-requires-clause-drivers
link_ordered-requires-clause-drivers c = tree_driven c.args.built.netlist.lists.library c.args.tree.now c.args.resolved.nets.items c.args.resolved.cells.items c.requires.these c.requires.drivers

pub returns-in-Err-clause-fault : goal.returns-in-Err-clause-fault
returns-in-Err-clause-fault c =
    subst (λ (f : LinkFault). IsLinkFault c.args.built.netlist.lists.library c.args.tree.now f) (sym c.link_fault.ensures)
    (order_first c.args.built.names c.args.built.netlist.lists c.args.tree.now c.args.resolved.nets.items c.args.resolved.cells.items c.in-Err.fault c.requires.these c.requires.drivers c.requires.built c.in-Err.ensures.fault)
