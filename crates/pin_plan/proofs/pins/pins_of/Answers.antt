use Rattle.std.proofs.Common.{◌≡◌, ◌∙◌, ap, sym, Some}
use Rattle.std.specs.Prelude.{slice_get}
use Rattle.std.proofs.lemmas.Option.{slice_get-get_or}
use Rattle.plan_texts.specs.declared.plan.PinLine.{PinLine}
use Rattle.pin_plan.proofs.Kept.{kept_more, first_unnamed}
use Rattle.pin_plan.proofs.pins.pins_of.Goals as goal

pub returns-in-Err-clause-fault : goal.returns-in-Err-clause-fault
returns-in-Err-clause-fault c =
    let at : slice_get c.args.lines.now c.loop-line.line-index ≡ Some c.line-item.result =
    slice_get-get_or c.args.lines.now c.loop-line.line-index c.line-item.result c.loop-line-test.true ∙ ap (λ (l : PinLine). Some l) (sym c.line-item.is) in
    first_unnamed c.args.linked.now c.args.lines.now c.loop-line.line-index c.line-item.result c.loop-line.pins.items c.in-Err.fault at c.loop-line.invariant c.in-Err.ensures.fault

pub loop-line-preserved : goal.loop-line-preserved
loop-line-preserved c =
    let at : slice_get c.args.lines.now c.loop-line.line-index ≡ Some c.line-item.result =
    slice_get-get_or c.args.lines.now c.loop-line.line-index c.line-item.result c.loop-line-test.true ∙ ap (λ (l : PinLine). Some l) (sym c.line-item.is) in
    kept_more c.args.linked.now c.args.lines.now c.loop-line.line-index c.line-item.result c.in-Ok.one c.loop-line.pins.items c.add_pin.new.pins.items
    at c.loop-line.invariant c.in-Ok.ensures.pin c.in_ok-add_pin-in-Ok.ensures
