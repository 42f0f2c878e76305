use Rattle.std.proofs.Common.{arith}
use Rattle.output_lines.proofs.Fronts.{line_first, line_second, line_third, line_whole}
use Rattle.output_lines.proofs.Given.{Puts-refused, Puts-whole}
use Rattle.output_lines.proofs.put.put_line.Goals as goal

pub returns-in_default : goal.returns-in_default
returns-in_default g c =
    let fault = c.in_default.ensures.fault in
    Puts-refused g.O.Sink.given g.O.Sink.faults c.args.out.now c.args.out.now c.put_field.new.out _ _
    (line_first c.args.first.now c.args.others.now _ _ fault.0 fault.1) (omega arith) c.in_default.ensures.cause c.put_field.ensures.later

pub returns-in_default-put_fields : goal.returns-in_default-put_fields
returns-in_default-put_fields g c =
    let fault = c.in_default-put_fields.ensures.fault in
    Puts-refused g.O.Sink.given g.O.Sink.faults c.args.out.now c.put_field.new.out c.put_fields.new.out _ _
    (line_second c.args.first.now c.args.others.now _ _ _ fault.0 c.in-Ok.ensures.ok fault.1)
    c.put_field.ensures.later c.in_default-put_fields.ensures.cause c.put_fields.ensures.later

pub returns-in_default-put_whole : goal.returns-in_default-put_whole
returns-in_default-put_whole g c =
    let fault = c.in_default-put_whole.ensures.fault in
    let first = c.put_field.ensures.later in
    let second = c.put_fields.ensures.later in
    Puts-refused g.O.Sink.given g.O.Sink.faults c.args.out.now c.put_fields.new.out c.put_whole.new.out _ _
    (line_third c.args.first.now c.args.others.now _ _ _ _ fault.0 c.in-Ok.ensures.ok c.in-Ok-put_fields.ensures.ok fault.1)
    (omega (arith, first, second)) c.in_default-put_whole.ensures.cause c.put_whole.ensures.later

pub returns : goal.returns
returns g c =
    let first = c.put_field.ensures.later in
    let second = c.put_fields.ensures.later in
    Puts-whole g.O.Sink.given g.O.Sink.faults c.args.out.now c.put_fields.new.out c.put_whole.new.out _ _
    (line_whole c.args.first.now c.args.others.now _ _ _ _ c.in-Ok.ensures.ok c.in-Ok-put_fields.ensures.ok c.in-Ok-put_whole.ensures.ok)
    (omega (arith, first, second)) c.put_whole.ensures.later
