use Rattle.std.proofs.Common.{◌≡◌, ◌≤◌, map, take}
use Rattle.std.specs.List.{flat_map}
use Rattle.edge_io.specs.Shelf.{appended}
use Rattle.output_lines.specs.Lines.{blank_word}
use Rattle.std.specs.Fmt.{decimal}
use Rattle.output_lines.proofs.put.put_each.Given as goal

abbrev pub invariant-loop-number : goal.invariant-loop-number
invariant-loop-number g l = record {
  given : g.O.Sink.given l.out ≡ appended (flat_map blank_word (map decimal (take l.number-index l.numbers))) (g.O.Sink.given l.fn.out);
  later : g.O.Sink.faults l.fn.out ≤ g.O.Sink.faults l.out;
}
