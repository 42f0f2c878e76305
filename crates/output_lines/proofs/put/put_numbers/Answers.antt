use Rattle.std.proofs.Common.{map, arith}
use Rattle.std.specs.Fmt.{decimal}
use Rattle.output_lines.proofs.Fronts.{words_first, words_second, words_third, words_whole}
use Rattle.output_lines.proofs.Given.{Puts-refused, Puts-whole}
use Rattle.output_lines.proofs.put.put_numbers.Goals as goal

pub returns-in_default : goal.returns-in_default
returns-in_default g c =
    let fault = c.in_default.ensures.fault in
    Puts-refused g.O.Sink.given g.O.Sink.faults c.args.out.now c.args.out.now c.put_whole.new.out _ _
    (words_first c.args.first.now (map decimal c.args.numbers.now) _ _ fault.0 fault.1) (omega arith) c.in_default.ensures.cause c.put_whole.ensures.later

pub returns-in_default-put_each : goal.returns-in_default-put_each
returns-in_default-put_each g c =
    let fault = c.in_default-put_each.ensures.fault in
    Puts-refused g.O.Sink.given g.O.Sink.faults c.args.out.now c.put_whole.new.out c.put_each.new.out _ _
    (words_second c.args.first.now (map decimal c.args.numbers.now) _ _ _ fault.0 c.in-Ok.ensures.ok fault.1)
    c.put_whole.ensures.later c.in_default-put_each.ensures.cause c.put_each.ensures.later

pub returns-in_default-put_whole : goal.returns-in_default-put_whole
returns-in_default-put_whole g c =
    let fault = c.in_default-put_whole.ensures.fault in
    let first = c.put_whole.ensures.later in
    let second = c.put_each.ensures.later in
    Puts-refused g.O.Sink.given g.O.Sink.faults c.args.out.now c.put_each.new.out c.put_whole-2.new.out _ _
    (words_third c.args.first.now (map decimal c.args.numbers.now) _ _ _ _ fault.0 c.in-Ok.ensures.ok c.in-Ok-put_each.ensures.ok fault.1)
    (omega (arith, first, second)) c.in_default-put_whole.ensures.cause c.put_whole-2.ensures.later

pub returns : goal.returns
returns g c =
    let first = c.put_whole.ensures.later in
    let second = c.put_each.ensures.later in
    Puts-whole g.O.Sink.given g.O.Sink.faults c.args.out.now c.put_each.new.out c.put_whole-2.new.out _ _
    (words_whole c.args.first.now (map decimal c.args.numbers.now) _ _ _ _ c.in-Ok.ensures.ok c.in-Ok-put_each.ensures.ok c.in-Ok-put_whole.ensures.ok)
    (omega (arith, first, second)) c.put_whole-2.ensures.later
