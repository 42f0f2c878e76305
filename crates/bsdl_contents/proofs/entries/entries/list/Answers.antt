use Rattle.std.proofs.Common.{◌∙◌, sym, ap, arith, [], ◌∷◌, ◌++◌}
use Rattle.bsdl_contents.specs.Reader.{list_at}
use Rattle.bsdl_contents.specs.EntriesReader.{entry_at}
use Rattle.bsdl_contents.proofs.ListLoops.{starts, goes_on, faults, ends}
use Rattle.bsdl_contents.proofs.entries.entries.list.Goals as goal

pub loop-alloc-init : goal.loop-alloc-init
loop-alloc-init c = record {
  read = starts entry_at c.push.new.self c.args.reader.now c.entry.new.reader c.in_ok-entry.field-0 c.in_ok-entry.ensures.gives (c.in_ok-push.ensures.ok ∙ ap (λ l. l ++ c.in_ok-entry.field-0 ∷ []) c.new-list.ensures);
  within = c.in_ok-entry.ensures.within;
}

pub loop-alloc-preserved : goal.loop-alloc-preserved
loop-alloc-preserved c =
    let there = sym c.take_mark.ensures.taken ∙ c.loop-alloc-test.true in
    let less = c.take_mark.ensures.shorter c.loop-alloc-test.true in record {
      read = goes_on entry_at c.loop-alloc.list c.push-in-loop-alloc.new.self c.loop-alloc.reader c.take_mark.new.self c.entry-in-loop-alloc.new.reader (list_at entry_at c.args.reader.now) c.in_ok-entry-2.field-0 c.loop-alloc.invariant.read there c.take_mark.ensures.rest less c.in_ok-entry-2.ensures.within c.in_ok-entry-2.ensures.gives c.in_ok-push-2.ensures.ok;
      within = omega (arith, c.in_ok-entry-2.ensures.within, less, c.loop-alloc.invariant.within);
    }

pub returns-in_err-entry-2-clause-gives : goal.returns-in_err-entry-2-clause-gives
returns-in_err-entry-2-clause-gives c =
    let there = sym c.take_mark.ensures.taken ∙ c.loop-alloc-test.true in
    let less = c.take_mark.ensures.shorter c.loop-alloc-test.true in
    faults entry_at c.loop-alloc.list c.loop-alloc.reader c.take_mark.new.self c.entry-in-loop-alloc.new.reader (list_at entry_at c.args.reader.now) _ _ c.loop-alloc.invariant.read there c.take_mark.ensures.rest less c.from_residual-in_err-entry-2.ensures.1 c.in_err-entry-2.ensures.gives

pub returns-clause-gives : goal.returns-clause-gives
returns-clause-gives c = ends entry_at c.loop-alloc.list c.loop-alloc.reader c.take_mark.new.self (list_at entry_at c.args.reader.now) c.loop-alloc.invariant.read (sym c.take_mark.ensures.taken ∙ c.loop-alloc-test.false) c.take_mark.ensures.rest
