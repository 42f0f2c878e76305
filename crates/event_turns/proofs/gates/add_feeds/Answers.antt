use Rattle.std.proofs.Common.{arith}
use Rattle.netlist_model.specs.Lists.{cell_at}
use Rattle.netlist_settling.specs.Values.{feeds_of}
use Rattle.netlist_settling.proofs.Looked.{feed_there}
use Rattle.event_turns.proofs.CellPlaces.{feeds_pushed, feeds_whole}
use Rattle.event_turns.proofs.gates.add_feeds.Goals as goal

pub loop-place-preserved : goal.loop-place-preserved
loop-place-preserved c =
    feeds_pushed (feeds_of (cell_at c.args.netlist.now.lists c.args.cell.0)) c.args.feeds.now.items c.loop-place.feeds.items c.push.new.self.items c.loop-place.place c.feed.result
    (feed_there (cell_at c.args.netlist.now.lists c.args.cell.0) c.loop-place.place c.feed.result c.feed.ensures.value) c.loop-place.invariant c.in_ok-push.ensures.items

pub returns : goal.returns
returns c =
    feeds_whole (cell_at c.args.netlist.now.lists c.args.cell.0) c.feed_count-place-end.result c.loop-place.place c.args.feeds.now.items c.loop-place.feeds.items c.feed_count-place-end.ensures.count
    (omega (arith, c.loop-place-test.false)) c.loop-place.invariant
