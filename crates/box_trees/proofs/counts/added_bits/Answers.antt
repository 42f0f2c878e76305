use Rattle.box_model.specs.Counts.{parted_bits}
use Rattle.box_trees.proofs.Excess.{saturated_more}
use Rattle.box_trees.proofs.counts.added_bits.Goals as goal

pub loop-item-preserved : goal.loop-item-preserved
loop-item-preserved c =
    saturated_more (parted_bits c.args.table.now c.args.nets.now) c.args.items.now c.loop-item.item-index c.item-item.result c.loop-item.bits c.in_ok-item_bits.field-0 c.saturating_add-bits.result c.loop-item-test.true c.item-item.is c.loop-item.invariant
    c.in_ok-item_bits.ensures c.saturating_add-bits.ensures
