use Rattle.std.proofs.Common.{List, ℕ, Bor}
use Rattle.output_lines.proofs.Pieces.{front-of_parts}
use Rattle.output_lines.proofs.Given.{Puts-refused}
use Rattle.output_lines.proofs.put.put_pieces.Goals as goal

pub returns-in_default : goal.returns-in_default
returns-in_default g c =
    let fault = c.in_default.ensures.fault in
    let text : Bor (List ℕ) → List ℕ = λ p. p.now in
    Puts-refused g.O.Sink.given g.O.Sink.faults c.args.out.now c.loop-piece.out c.put_whole.new.out _ _
    (front-of_parts text c.args.pieces.now c.loop-piece.piece-index _ (g.O.Sink.given c.args.out.now) (g.O.Sink.given c.loop-piece.out) (g.O.Sink.given c.put_whole.new.out) fault.0 c.loop-piece-test.true c.loop-piece.invariant.given fault.1)
    c.loop-piece.invariant.later c.in_default.ensures.cause c.put_whole.ensures.later
