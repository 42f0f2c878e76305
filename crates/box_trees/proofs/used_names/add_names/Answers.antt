use Rattle.std.proofs.Common.{[], ◌∷◌, ◌++◌, refl}
use Rattle.std.specs.List.{filter_map}
use Rattle.texts.specs.Repeated.{texts}
use Rattle.verilog_tree.specs.declared.tree.Item.{Item}
use Rattle.link_model.specs.Faults.{item_name}
use Rattle.box_tables.proofs.Steps.{gathered_next, gathered_end, filter_map_step}
use Rattle.box_trees.proofs.used_names.add_names.Goals as goal

pub loop-item-preserved : goal.loop-item-preserved
loop-item-preserved c =
    gathered_next (filter_map item_name) (λ (i : Item). filter_map item_name (i ∷ [])) (filter_map_step item_name) c.args.items.now c.loop-item.item-index c.item-item.result (texts c.loop-item.names.items) (texts c.add_name.new.names.items)
    (texts c.args.names.now.items ++ filter_map item_name c.args.items.now) c.loop-item-test.true c.item-item.is c.loop-item.invariant c.in_ok-add_name.ensures

pub returns : goal.returns
returns c =
    gathered_end (filter_map item_name) (λ (i : Item). filter_map item_name (i ∷ [])) (filter_map_step item_name) refl c.args.items.now c.loop-item.item-index (texts c.loop-item.names.items)
    (texts c.args.names.now.items ++ filter_map item_name c.args.items.now) c.loop-item-test.false c.loop-item.invariant
