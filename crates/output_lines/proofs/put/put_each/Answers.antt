use Rattle.std.proofs.Common.{ℕ, List, Option, ◌∙◌, sym, ap, take, subst}
use Rattle.std.specs.Fmt.{decimal}
use Rattle.edge_io.specs.Shelf.{appended}
use Rattle.output_lines.specs.Lines.{blank_word}
use Rattle.output_lines.proofs.Pieces.{front-of_parts}
use Rattle.output_lines.proofs.Fronts.{numbers_are, IsFront}
use Rattle.output_lines.proofs.Given.{Puts-refused}
use Rattle.output_lines.proofs.put.put_each.Goals as goal

pub returns-in_default : goal.returns-in_default
returns-in_default g c =
    let fault = c.in_default.ensures.fault in
    let text : ℕ → List ℕ = λ n. blank_word (decimal n) in
    let told : Option (List ℕ) = g.O.Sink.given c.args.out.now in
    Puts-refused g.O.Sink.given g.O.Sink.faults c.args.out.now c.loop-number.out c.put_blank_number.new.out _ _
    (subst (λ (w : List ℕ). IsFront w told (g.O.Sink.given c.put_blank_number.new.out)) (numbers_are c.args.numbers.now)
    (front-of_parts text c.args.numbers.now c.loop-number.number-index _ told (g.O.Sink.given c.loop-number.out) (g.O.Sink.given c.put_blank_number.new.out) fault.0 c.loop-number-test.true
    (c.loop-number.invariant.given ∙ ap (λ (l : List ℕ). appended l told) (sym (numbers_are (take c.loop-number.number-index c.args.numbers.now)))) fault.1))
    c.loop-number.invariant.later c.in_default.ensures.cause c.put_blank_number.ensures.later
