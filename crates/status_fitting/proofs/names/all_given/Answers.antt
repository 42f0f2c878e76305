use Rattle.std.proofs.Common.{◌≡◌, ◌∙◌, ap, sym, Some}
use Rattle.std.specs.Prelude.{slice_get}
use Rattle.std.proofs.lemmas.Option.{slice_get-get_or}
use Rattle.status_fitting.specs.declared.register_texts.plan.StatusRow.{StatusRow}
use Rattle.status_fitting.specs.Keys.{given_in}
use Rattle.status_fitting.proofs.Rows.{given_more}
use Rattle.status_fitting.proofs.names.all_given.Goals as goal

pub loop-row-preserved : goal.loop-row-preserved
loop-row-preserved c =
    let at : slice_get c.args.rows.now c.loop-row.row-index ≡ Some c.row-item.result =
    slice_get-get_or c.args.rows.now c.loop-row.row-index c.row-item.result c.loop-row-test.true ∙ ap (λ (r : StatusRow). Some r) (sym c.row-item.is) in
    given_more c.args.rows.now c.loop-row.row-index c.row-item.result (given_in c.loop-row.keys.items) (given_in c.push_given.new.keys.items) at c.loop-row.invariant c.in_ok-push_given.ensures
