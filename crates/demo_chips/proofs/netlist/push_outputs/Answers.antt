use Rattle.std.proofs.Common.{arith}
use Rattle.demo_chips.specs.Netlists as model
use Rattle.demo_chips.proofs.Pushed.{pushed_all}
use Rattle.demo_chips.proofs.netlist.push_outputs.Goals as goal

pub returns : goal.returns
returns c = record { items = pushed_all (model.output_item c.args.number) _ _ c.loop-place.place 16 (omega arith) c.loop-place.invariant.items }
