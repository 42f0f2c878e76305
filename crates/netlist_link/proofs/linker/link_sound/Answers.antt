use Rattle.link_names.specs.link_model.Faults.{cells_in}
use Rattle.netlist_link.proofs.Assembled.{sound, tree_drivers_of}
use Rattle.netlist_link.proofs.linker.link_sound.Goals as goal

pub assemble-requires-clause-sound : goal.assemble-requires-clause-sound
assemble-requires-clause-sound c =
    sound c.args.built.names c.args.built.netlist.lists c.args.tree.now c.args.nets.items (cells_in c.args.built.netlist.lists.library c.args.tree.now) c.args.area.order c.requires.these c.requires.drivers c.requires.built
    (tree_drivers_of c.nets_have_their_drivers.ensures c.args.built.netlist.lists.library c.args.tree.now c.args.nets.items (cells_in c.args.built.netlist.lists.library c.args.tree.now) c.requires.these c.requires.drivers)
    c.requires.order c.requires.derived
