use Rattle.std.proofs.Common.{◌≡◌, ◌++◌, map}
use Rattle.demo_chips.specs.Netlists.{from_zero}
use Rattle.demo_chips.specs.Plans as model
use Rattle.demo_chips.proofs.plan.push_vector.Given as goal

abbrev pub invariant-loop-place : goal.invariant-loop-place
invariant-loop-place l = l.lines ≡ l.fn.lines ++ map (model.vector_line l.name l.first) (from_zero l.place)
