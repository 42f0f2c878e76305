use Rattle.std.proofs.Common.{ap, map}
use Rattle.link_model.specs.Nets.{port_nets, wire_nets}
use Rattle.link_names.specs.Views.{net_views}
use Rattle.link_names.proofs.Gathered.{two_gathered}
use Rattle.link_names.proofs.nets.gather_nets.Goals as goal

pub returns : goal.returns
returns c =
    let tree = c.args.tree.now in
    two_gathered (map port_nets) (map wire_nets) tree.ports c.as_slice.result.now tree.wires c.as_slice-2.result.now
    (net_views c.in_ok-nets.nets.items) (net_views c.add_ports.new.nets.items) (net_views c.add_wires.new.nets.items)
    (ap net_views c.in_ok-nets.ensures.items) c.as_slice.ensures c.as_slice-2.ensures c.in_ok-add_ports.ensures c.in_ok-add_wires.ensures
