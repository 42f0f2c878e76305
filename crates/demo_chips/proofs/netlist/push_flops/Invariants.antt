use Rattle.std.proofs.Common.{◌≡◌, ◌++◌, ◌+◌, ◌*◌, map}
use Rattle.demo_chips.specs.Draws.{state}
use Rattle.demo_chips.specs.Netlists as model
use Rattle.demo_chips.proofs.netlist.push_flops.Given as goal

abbrev pub invariant-loop-place : goal.invariant-loop-place
invariant-loop-place l = record {
  items : l.items ≡ l.fn.items ++ map (model.flop_item l.number) (model.from_zero l.place);
  state : l.draws.state ≡ state l.number (3 * model.gate_count l.number + l.place);
}
