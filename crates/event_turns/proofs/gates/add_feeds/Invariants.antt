use Rattle.std.proofs.Common.{◌≡◌, ◌++◌, take}
use Rattle.netlist_model.specs.Lists.{cell_at}
use Rattle.netlist_settling.specs.Values.{feeds_of}
use Rattle.event_turns.proofs.gates.add_feeds.Given as goal

abbrev pub invariant-loop-place : goal.invariant-loop-place
invariant-loop-place l = l.feeds.items ≡ l.fn.feeds.items ++ take l.place (feeds_of (cell_at l.netlist.lists l.cell.0))
