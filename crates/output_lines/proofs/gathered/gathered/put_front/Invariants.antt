use Rattle.std.proofs.Common.{◌≡◌, ◌≤◌, length, ◌-◌, take}
use Rattle.edge_io.specs.Shelf.{appended}
use Rattle.output_lines.proofs.gathered.gathered.put_front.Given as goal

abbrev pub invariant-loop-at : goal.invariant-loop-at
invariant-loop-at g l = record {
  same : g.S.Named.name l.out ≡ g.S.Named.name l.fn.out;
  within : l.at ≤ length l.bytes;
  given : g.S.Named.given l.out ≡ appended (take l.at l.bytes) (g.S.Named.given l.fn.out);
  later : g.S.Named.faults l.fn.out ≤ g.S.Named.faults l.out;
}

abbrev pub decreases-loop-at : goal.decreases-loop-at
decreases-loop-at g l = length l.bytes - l.at
