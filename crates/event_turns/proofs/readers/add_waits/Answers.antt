use Rattle.std.proofs.Common.{◌∙◌, ap, arith}
use Rattle.std.proofs.lemmas.Option.{slice_get-get_or}
use Rattle.list_laws.proofs.Options.{some_there}
use Rattle.netlist_model.specs.Lists.{cell_at}
use Rattle.event_turns.specs.Tables.{waited}
use Rattle.event_turns.proofs.Waits.{waits_more, cell_waits, feed_looked, flop_looked, long_looked}
use Rattle.event_turns.proofs.readers.add_waits.Goals as goal

pub loop-operand-preserved : goal.loop-operand-preserved
loop-operand-preserved c =
    let N = c.args.netlist.now.lists in
    let stands = slice_get-get_or c.args.order.now c.args.place _ c.requires.place in
    let live = some_there (cell_at N _) (c.requires.order.only c.args.place _ stands) in
    let feed = feed_looked N _ c.loop-operand.operand live.0 c.feed.result live.1 c.feed.ensures.value in
    let key = c.waited.ensures ∙ ap (λ flop. waited flop c.loop-operand.operand c.feed.result) (c.is_some-flop.ensures ∙ flop_looked N _ live.0 _ live.1 c.flop.ensures) in
    waits_more N c.args.order.now c.args.turns.now c.loop-operand.keys.items _ c.loop-operand.owners.items _ c.args.place c.loop-operand.operand _ c.args.turn live.0 c.feed.result _ stands live.1 feed key
    (c.requires.turn _ stands) c.in_ok-push.ensures.items c.in_ok-push-2.ensures.items c.loop-operand.invariant

pub returns : goal.returns
returns c =
    let N = c.args.netlist.now.lists in
    let stands = slice_get-get_or c.args.order.now c.args.place _ c.requires.place in
    let live = some_there (cell_at N _) (c.requires.order.only c.args.place _ stands) in
    let long = long_looked N _ live.0 _ live.1 c.feed_count-operand-end.ensures.count in
    cell_waits N c.args.order.now c.args.turns.now _ _ c.args.place c.loop-operand.operand _ live.0 stands live.1 (omega (arith, c.loop-operand-test.false)) c.loop-operand.invariant
