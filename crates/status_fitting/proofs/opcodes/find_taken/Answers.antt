use Rattle.std.proofs.Common.{◌≡◌, true, false, ◌∙◌, ap, sym, Some, arith}
use Rattle.std.specs.Prelude.{slice_get}
use Rattle.std.proofs.lemmas.Option.{slice_get-get_or}
use Rattle.status_fitting.specs.declared.register_texts.fault.StatusFault.{StatusFault}
use Rattle.status_fitting.specs.declared.register_texts.plan.StatusRow.{StatusRow}
use Rattle.status_fitting.specs.Keys.{patterns_in}
use Rattle.status_fitting.specs.Opcodes.{is_taken}
use Rattle.status_fitting.specs.Steps.{opcode_fault}
use Rattle.status_fitting.proofs.Firsts.{walked_all, walked_on, walked_to}
use Rattle.status_fitting.proofs.Rows.{opcodes_more, taken_is}
use Rattle.status_fitting.proofs.opcodes.find_taken.Goals as goal

pub returns-then-taken : goal.returns-then-taken
returns-then-taken c =
    let rows = c.args.rows.now in
    let base = c.args.base.now in
    let at : slice_get rows c.loop-row.row-index ≡ Some c.row-item.result =
    slice_get-get_or rows c.loop-row.row-index c.row-item.result c.loop-row-test.true ∙ ap (λ (r : StatusRow). Some r) (sym c.row-item.is) in
    ap (λ (f : StatusFault). Some f) c.in_ok-refusal.ensures
    ∙ walked_to (is_taken base) opcode_fault rows c.loop-row.row-index c.row-item.result _ at
    (taken_is base rows c.loop-row.row-index c.row-item.result (patterns_in c.loop-row.before.keys) c.in_ok-taken.taken true c.loop-row.invariant.before c.in_ok-taken.ensures.taken c.if-taken.true)
    c.loop-row.invariant.walked

pub loop-row-preserved : goal.loop-row-preserved
loop-row-preserved c =
    let rows = c.args.rows.now in
    let base = c.args.base.now in
    let at : slice_get rows c.loop-row.row-index ≡ Some c.row-item.result =
    slice_get-get_or rows c.loop-row.row-index c.row-item.result c.loop-row-test.true ∙ ap (λ (r : StatusRow). Some r) (sym c.row-item.is) in
    record {
      before = opcodes_more rows c.loop-row.row-index c.row-item.result (patterns_in c.loop-row.before.keys) (patterns_in c.is_taken.new.before.keys) at c.loop-row.invariant.before
          (c.in_ok-taken.ensures.added c.if-taken.false);
      walked = walked_on (is_taken base) opcode_fault rows c.loop-row.row-index c.row-item.result _ at
          (taken_is base rows c.loop-row.row-index c.row-item.result (patterns_in c.loop-row.before.keys) c.in_ok-taken.taken false c.loop-row.invariant.before c.in_ok-taken.ensures.taken c.if-taken.false)
          c.loop-row.invariant.walked;
    }

pub returns : goal.returns
returns c = walked_all (is_taken c.args.base.now) opcode_fault c.args.rows.now c.loop-row.row-index _ (omega arith) c.loop-row.invariant.walked
