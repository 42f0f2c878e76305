use Rattle.std.proofs.Common.{sym, ◌∙◌}
use Rattle.netlist_arena.proofs.Lists.{length_nets}
use Rattle.netlist_arena.proofs.Netlist.net_count.Goals as goal

pub returns : goal.returns
returns c = rw (← c.self.view_is) (c.bound.ensures ∙ sym (length_nets c.self.inside.nets.items c.self.invariant.nets_there))
