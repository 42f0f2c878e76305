use Rattle.std.proofs.Common.{◌≡◌, ◌∙◌}
use Rattle.netlist_meaning.proofs.Sides.{sides_are}
use Rattle.netlist_meaning.proofs.ports.directions_of.Goals as goal

pub sides_of-requires : goal.sides_of-requires
sides_of-requires c = rw (c.as_slice.ensures.value, c.net_count-count.ensures) c.in_ok-ports.ensures.below

pub returns : goal.returns
returns c = sides_are c.args.netlist.now.lists c.as_slice.result.now c.net_count-count.result c.in_ok-sides.sides.items (c.as_slice.ensures.value ∙ c.in_ok-ports.ensures.ports) c.net_count-count.ensures c.in_ok-sides.ensures
