use Rattle.std.proofs.Common.{ap, ◌∙◌}
use Rattle.verilog_tree.specs.declared.tree.Module.{Module}
use Rattle.link_model.specs.Lists.{first_in}
use Rattle.box_model.specs.Faults.{link_fault}
use Rattle.box_trees.proofs.link_faults.find_link_fault.Goals as goal

pub returns : goal.returns
returns c =
    c.in_ok-fault.ensures
    ∙ ap (λ (m : Module). first_in (link_fault c.args.table.now m) c.as_slice.result.now) c.in_ok-nets.ensures
    ∙ ap (first_in (link_fault c.args.table.now c.args.tree.now)) c.as_slice.ensures
