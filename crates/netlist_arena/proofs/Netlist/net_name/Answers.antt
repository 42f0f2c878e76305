use Rattle.std.proofs.Common.{◌≡◌, sym, refl, Some}
use Rattle.linked_cells.specs.PlacesLaws.{place_at}
use Rattle.netlist_arena.proofs.Lists.{net_there}
use Rattle.netlist_arena.proofs.Looks.{no_net, net_found}
use Rattle.netlist_arena.proofs.Netlist.net_name.Goals as goal

pub unreachable-requires : goal.unreachable-requires
unreachable-requires c =
    no_net c.self.inside.nets.items c.args.net.0 (net_there c.self.inside.nets.items c.args.net.0 c.self.invariant.nets_there (rw (← c.self.view_is) at c.requires)) (sym c.in-None.ensures)

pub returns : goal.returns
returns c =
    let at : place_at c.self.inside.nets.items c.args.net.0 ≡ Some c.in-Some.found.now = sym (c.in-Some.ensures) in
    let there = net_found c.self.inside.nets.items c.args.net.0 c.in-Some.found.now c.self.invariant.nets_there at in
    rw (← c.self.view_is, there) refl
