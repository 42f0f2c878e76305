use Rattle.std.proofs.Common.{◌≡◌, ◌≤◌, length, ◌-◌, take}
use Rattle.edge_io.specs.Shelf.{appended}
use Rattle.edge_io.proofs.whole.put_whole.Given as goal

abbrev pub invariant-loop-at : goal.invariant-loop-at
invariant-loop-at g l = record {
  within : l.at ≤ length l.text;
  given : g.O.Sink.given l.out ≡ appended (take l.at l.text) (g.O.Sink.given l.fn.out);
  later : g.O.Sink.faults l.fn.out ≤ g.O.Sink.faults l.out;
}

abbrev pub decreases-loop-at : goal.decreases-loop-at
decreases-loop-at g l = length l.text - l.at
