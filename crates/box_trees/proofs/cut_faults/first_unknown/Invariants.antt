use Rattle.std.proofs.Common.{◌≡◌, drop}
use Rattle.link_model.specs.Lists.{first_in}
use Rattle.box_trees.specs.Cuts.{unknown_in}
use Rattle.box_trees.proofs.cut_faults.first_unknown.Given as goal

abbrev pub invariant-loop-cut : goal.invariant-loop-cut
invariant-loop-cut l = first_in (unknown_in l.flops) (drop l.cut-index l.cuts) ≡ first_in (unknown_in l.flops) l.cuts
