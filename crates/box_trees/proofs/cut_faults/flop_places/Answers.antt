use Rattle.std.proofs.Common.{[], ◌∷◌, refl, ◌∙◌}
use Rattle.std.specs.List.{filter_map}
use Rattle.texts.specs.Repeated.{texts}
use Rattle.verilog_tree.specs.declared.tree.Item.{Item}
use Rattle.box_trees.specs.Cuts.{flop_name}
use Rattle.box_tables.proofs.Steps.{gathered_next, gathered_end, filter_map_step}
use Rattle.box_trees.proofs.cut_faults.flop_places.Goals as goal

pub loop-item-preserved : goal.loop-item-preserved
loop-item-preserved c =
    let f = flop_name c.args.table.now in
    gathered_next (filter_map f) (λ (i : Item). filter_map f (i ∷ [])) (filter_map_step f) c.args.items.now c.loop-item.item-index c.item-item.result (texts c.loop-item.names.items) (texts c.add_flop.new.names.items) (filter_map f c.args.items.now)
    c.loop-item-test.true c.item-item.is c.loop-item.invariant c.in_ok-add_flop.ensures

pub returns : goal.returns
returns c =
    let f = flop_name c.args.table.now in
    c.in_ok-flops.ensures
    ∙ gathered_end (filter_map f) (λ (i : Item). filter_map f (i ∷ [])) (filter_map_step f) refl c.args.items.now c.loop-item.item-index (texts c.loop-item.names.items) (filter_map f c.args.items.now) c.loop-item-test.false c.loop-item.invariant
