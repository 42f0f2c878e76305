use Rattle.std.proofs.Common.{length}
use Rattle.link_names.specs.link_model.Faults.{cells_in}
use Rattle.link_names.specs.link_model.Nets.{declared_nets, nets_in}
use Rattle.link_arena.proofs.Parts.{are_below}
use Rattle.netlist_link.proofs.Assembled.{is_formed}
use Rattle.netlist_link.proofs.assemble.is_well_formed.Goals as goal

pub returns : goal.returns
returns c =
    let m = c.args.tree.now in
    let library = c.args.netlist.now.lists.library in
    let sound = c.requires.sound in
    is_formed c.args.names.now c.args.netlist.now.lists m c.args.order.now sound c.requires.built.named
    (c.nets_have_their_drivers.ensures (nets_in (declared_nets m)) (cells_in library m)
    (are_below library (length (nets_in (declared_nets m))) (cells_in library m) sound.fits) sound.drivers) c.requires.order (c.controls_are_links.ensures library m sound.listed sound.derived)
