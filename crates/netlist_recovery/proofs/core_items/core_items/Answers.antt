use Rattle.std.proofs.Common.{◌∙◌, sym, arith}
use Rattle.netlist_recovery.proofs.Items.{no_more, one_more, all_taken}
use Rattle.netlist_recovery.proofs.core_items.core_items.Goals as goal

pub returns-then-is_added : goal.returns-then-is_added
returns-then-is_added c =
    no_more c.args.prefix.now c.args.table.now c.args.items.now c.loop-item.core c.loop-item.item-index c.item-item.result c.loop-item-test.true c.item-item.is
    (sym c.is_added.ensures ∙ c.if-is_added.true) c.loop-item.invariant

pub loop-item-preserved : goal.loop-item-preserved
loop-item-preserved c =
    one_more c.args.prefix.now c.args.table.now c.args.items.now c.loop-item.core c.push.new.self c.loop-item.item-index c.item-item.result c.in_ok-made.made c.loop-item-test.true c.item-item.is
    (sym c.is_added.ensures ∙ c.if-is_added.false) c.in_ok-made.ensures c.in_ok-push.ensures.ok c.loop-item.invariant

pub returns : goal.returns
returns c = all_taken c.args.prefix.now c.args.table.now c.args.items.now c.loop-item.core c.loop-item.item-index (omega arith) c.loop-item.invariant
