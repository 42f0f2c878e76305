use Rattle.std.proofs.Common.{Option, sym, ap, refl, ◌∙◌, arith}
use Rattle.status_fitting.specs.declared.register_texts.plan.StatusRow.{StatusRow}
use Rattle.status_fitting.specs.Reader.{Rows, rest_if}
use Rattle.status_fitting.proofs.Few.{few_begins, few_goes_on, few_stops, few_fill}
use Rattle.status_fitting.proofs.register_texts.reader.take_registers.Goals as goal

pub loop-alloc-init : goal.loop-alloc-init
loop-alloc-init c = record { few = few_begins c.new-list.result c.args.reader.now.rows c.new-list.ensures; end = refl }

pub loop-alloc-preserved : goal.loop-alloc-preserved
loop-alloc-preserved c =
    let test = c.loop-alloc-test.true in
    let count = c.len.ensures in
    record {
      few = few_goes_on c.loop-alloc.list c.push.new.self c.in-Some.register c.loop-alloc.reader.rows c.take_register.new.reader.rows c.args.reader.now.rows (omega arith)
          c.in_ok-push.ensures.ok (sym c.in-Some.is ∙ c.in_ok-register.ensures.found)
          (c.in_ok-register.ensures.rows ∙ ap (λ (o : Option StatusRow). rest_if o c.loop-alloc.reader.rows) c.in-Some.is) c.loop-alloc.invariant.few;
      end = c.in_ok-register.ensures.end ∙ c.loop-alloc.invariant.end;
    }

pub returns-clause-few : goal.returns-clause-few
returns-clause-few c =
    let test = c.loop-alloc-test.false in
    let count = c.len.ensures in
    few_fill c.loop-alloc.list c.loop-alloc.reader.rows c.args.reader.now.rows (omega arith) c.loop-alloc.invariant.few

pub returns-in_default-clause-few : goal.returns-in_default-clause-few
returns-in_default-clause-few c =
    let test = c.loop-alloc-test.true in
    let count = c.len.ensures in
    few_stops c.loop-alloc.list c.loop-alloc.reader.rows c.args.reader.now.rows (omega arith) (sym c.in_default.is ∙ c.in_ok-register.ensures.found) c.loop-alloc.invariant.few
    ∙ ap (λ (l : Rows). (c.loop-alloc.list, l)) (sym (c.in_ok-register.ensures.rows ∙ ap (λ (o : Option StatusRow). rest_if o c.loop-alloc.reader.rows) c.in_default.is))
