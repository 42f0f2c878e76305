use Rattle.output_lines.specs.Lines.{blank_field}
use Rattle.output_lines.proofs.Pieces.{front-of_parts}
use Rattle.output_lines.proofs.Given.{Puts-refused}
use Rattle.output_lines.proofs.put.put_fields.Goals as goal

pub returns-in_default : goal.returns-in_default
returns-in_default g c =
    let fault = c.in_default.ensures.fault in
    Puts-refused g.O.Sink.given g.O.Sink.faults c.args.out.now c.loop-field.out c.put_field.new.out _ _
    (front-of_parts blank_field c.args.fields.now c.loop-field.field-index _ (g.O.Sink.given c.args.out.now) (g.O.Sink.given c.loop-field.out) (g.O.Sink.given c.put_field.new.out) fault.0 c.loop-field-test.true c.loop-field.invariant.given fault.1)
    c.loop-field.invariant.later c.in_default.ensures.cause c.put_field.ensures.later
