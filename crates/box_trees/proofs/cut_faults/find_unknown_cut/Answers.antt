use Rattle.std.proofs.Common.{◌∙◌}
use Rattle.box_trees.proofs.CutFlops.{cuts_told}
use Rattle.box_trees.proofs.cut_faults.find_unknown_cut.Goals as goal

pub returns : goal.returns
returns c =
    c.in_ok-fault.ensures ∙ cuts_told c.args.table.now c.args.tree.now c.in_ok-flops.flops c.as_slice.result.now c.cuts.result.now c.in_ok-flops.ensures c.as_slice.ensures c.cuts.ensures
