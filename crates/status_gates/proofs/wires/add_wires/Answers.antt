use Rattle.std.proofs.Common.{List, length, sym, subst}
use Rattle.netlist_model.specs.declared.Feed.{Feed}
use Rattle.netlist_model.specs.Below.{AreFeedsBelow}
use Rattle.status_gates.proofs.Feeds.{net_feeds_below}
use Rattle.status_gates.proofs.wires.add_wires.Goals as goal

pub add_data-requires-clause-captured : goal.add_data-requires-clause-captured
add_data-requires-clause-captured c =
    subst (λ (feeds : List Feed). AreFeedsBelow (length c.args.netlist.now.lists.nets) feeds) (sym c.feeds_of-feeds.ensures) (net_feeds_below (length c.args.netlist.now.lists.nets) c.args.nets.now c.requires.nets)
