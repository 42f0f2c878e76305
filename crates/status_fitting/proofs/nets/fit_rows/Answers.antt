use Rattle.std.proofs.Common.{◌≡◌, ◌∙◌, ap, sym, Some}
use Rattle.std.specs.Prelude.{slice_get}
use Rattle.std.proofs.lemmas.Option.{slice_get-get_or}
use Rattle.list_laws.proofs.Lists.{all_at}
use Rattle.status_fitting.specs.declared.register_texts.plan.StatusRow.{StatusRow}
use Rattle.status_fitting.specs.Fitted.{IsRegister}
use Rattle.status_fitting.specs.Steps.{HasFewWords}
use Rattle.status_fitting.proofs.Rows.{all_more, rows_unnamed}
use Rattle.status_fitting.proofs.nets.fit_rows.Goals as goal

pub returns-in-Err-clause-fault : goal.returns-in-Err-clause-fault
returns-in-Err-clause-fault c =
    let at : slice_get c.args.rows.now c.loop-row.row-index ≡ Some c.row-item.result =
    slice_get-get_or c.args.rows.now c.loop-row.row-index c.row-item.result c.loop-row-test.true ∙ ap (λ (r : StatusRow). Some r) (sym c.row-item.is) in
    rows_unnamed c.args.wires.now c.args.rows.now c.loop-row.row-index c.row-item.result c.loop-row.registers c.in-Err.fault at c.loop-row.invariant c.in-Err.ensures.fault

pub fit_row-requires : goal.fit_row-requires
fit_row-requires c =
    let at : slice_get c.args.rows.now c.loop-row.row-index ≡ Some c.row-item.result =
    slice_get-get_or c.args.rows.now c.loop-row.row-index c.row-item.result c.loop-row-test.true ∙ ap (λ (r : StatusRow). Some r) (sym c.row-item.is) in
    all_at HasFewWords c.args.rows.now c.loop-row.row-index c.row-item.result c.requires at

pub loop-row-preserved : goal.loop-row-preserved
loop-row-preserved c =
    let at : slice_get c.args.rows.now c.loop-row.row-index ≡ Some c.row-item.result =
    slice_get-get_or c.args.rows.now c.loop-row.row-index c.row-item.result c.loop-row-test.true ∙ ap (λ (r : StatusRow). Some r) (sym c.row-item.is) in
    all_more (IsRegister c.args.wires.now) c.args.rows.now c.loop-row.row-index c.row-item.result c.in-Ok.register c.loop-row.registers c.push.new.self at c.loop-row.invariant c.in-Ok.ensures.register
    c.in_ok-push-in-Ok.ensures.ok
