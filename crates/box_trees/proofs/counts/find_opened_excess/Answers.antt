use Rattle.std.proofs.Common.{◌∙◌}
use Rattle.box_trees.proofs.Excess.{excess_is}
use Rattle.box_trees.proofs.counts.find_opened_excess.Goals as goal

pub returns : goal.returns
returns c = c.find_excess-fault.ensures ∙ excess_is c.args.table.now c.args.tree.now c.in_ok-nets.nets c.as_slice.result.now c.in_ok-added.added c.in_ok-nets.ensures c.as_slice.ensures c.in_ok-added.ensures
