use Rattle.std.proofs.Common.{◌≡◌, ◌≤◌, take}
use Rattle.std.specs.List.{flat_map}
use Rattle.edge_io.specs.Shelf.{appended}
use Rattle.output_lines.proofs.put.put_pieces.Given as goal

abbrev pub invariant-loop-piece : goal.invariant-loop-piece
invariant-loop-piece g l = record {
  given : g.O.Sink.given l.out ≡ appended (flat_map (λ p. p.now) (take l.piece-index l.pieces)) (g.O.Sink.given l.fn.out);
  later : g.O.Sink.faults l.fn.out ≤ g.O.Sink.faults l.out;
}
