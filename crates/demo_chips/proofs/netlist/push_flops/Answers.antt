use Rattle.std.proofs.Common.{arith}
use Rattle.demo_chips.specs.Netlists as model
use Rattle.demo_chips.proofs.Pushed.{pushed_all}
use Rattle.demo_chips.proofs.netlist.push_flops.Goals as goal

pub returns-clause-items : goal.returns-clause-items
returns-clause-items c = pushed_all (model.flop_item c.args.number) _ _ c.loop-place.place 32 (omega arith) c.loop-place.invariant.items
