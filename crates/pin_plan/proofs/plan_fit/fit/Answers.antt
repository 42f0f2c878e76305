use Rattle.std.proofs.Common.{◌∙◌, sym, ap}
use Rattle.plan_fitting.specs.Fits.{fault_with}
use Rattle.plan_fitting.specs.Devices.{fitted_of}
use Rattle.pin_plan.specs.Seen.{ArePinsOf}
use Rattle.pin_plan.proofs.Whole.{is_fault, is_fitted}
use Rattle.pin_plan.proofs.plan_fit.fit.Goals as goal

pub returns-in-Some-clause-fault : goal.returns-in-Some-clause-fault
returns-in-Some-clause-fault c =
    let are : ArePinsOf c.args.linked.now c.args.plan.now.pins c.in_ok-pins.pins.items = rw c.as_slice.ensures at c.in_ok-pins.ensures.pins in
    is_fault c.args.linked.now c.args.plan.now c.in_ok-pins.pins.items c.in-Some.fault are
    (sym c.in-Some.is ∙ c.in_ok-fault.ensures ∙ ap (fault_with c.args.linked.now c.args.plan.now) c.deref-2.ensures.value)

pub returns-clause-fitted : goal.returns-clause-fitted
returns-clause-fitted c =
    let are : ArePinsOf c.args.linked.now c.args.plan.now.pins c.in_ok-pins.pins.items = rw c.as_slice.ensures at c.in_ok-pins.ensures.pins in
    is_fitted c.args.linked.now c.args.plan.now c.in_ok-pins.pins.items c.in_ok-fitted.field-0 c.requires.straight c.requires.last are
    (sym c.in-None.is ∙ c.in_ok-fault.ensures ∙ ap (fault_with c.args.linked.now c.args.plan.now) c.deref-2.ensures.value)
    (c.in_ok-fitted.ensures.fitted ∙ ap (fitted_of c.args.linked.now c.args.plan.now) c.deref-3.ensures.value)
