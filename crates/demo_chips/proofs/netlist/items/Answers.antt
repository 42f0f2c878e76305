use Rattle.demo_chips.proofs.Pushed.{joined}
use Rattle.demo_chips.proofs.netlist.items.Goals as goal

pub returns : goal.returns
returns c = joined _ _ _ _ _ _ _ c.new-items.ensures c.in_ok-push_gates.ensures.items c.in_ok-push_flops.ensures.items c.in_ok-push_outputs.ensures.items
