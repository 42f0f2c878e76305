use Rattle.std.proofs.Common.{◌≡◌, ◌+◌, ◌++◌, List, length, ap, ◌∙◌, sym, arith}
use Rattle.signal_values.specs.declared.Sig.{Sig}
use Rattle.event_parts.specs.Pairs.{table_of, tables_upto}
use Rattle.event_parts.proofs.Tables.{table_next}
use Rattle.event_parts.proofs.counted_cells.pairs.PairTables.new.Goals as goal

pub overflow_add-number-end : goal.overflow_add-number-end
overflow_add-number-end c = omega (arith, c.count-count.ensures.count, c.count-count.ensures.library.few)

pub loop-number-init : goal.loop-number-init
loop-number-init c = record { are = c.new-values.ensures.items; upto = omega arith }

pub loop-number-preserved : goal.loop-number-preserved
loop-number-preserved c =
    record {
      are = c.in_ok-extend_from_slice.ensures.items
          ∙ ap (λ (values : List Sig). values ++ c.table_of-table.result) c.loop-number.invariant.are
          ∙ ap (λ (table : List Sig). tables_upto c.args.library.now c.loop-number.number ++ table) (c.table_of-table.ensures ∙ ap (table_of c.args.library.now) c.kind_at.ensures)
          ∙ sym (table_next c.args.library.now c.loop-number.number);
      upto = omega (arith, c.loop-number-test.true, c.count-count.ensures.count);
    }

pub returns : goal.returns
returns c =
    let i = c.loop-number.invariant in
    let whole : c.loop-number.number ≡ 6 + length c.args.library.now = (let upto = i.upto in omega (arith, c.loop-number-test.false, c.count-count.ensures.count)) in
    i.are ∙ ap (tables_upto c.args.library.now) whole
