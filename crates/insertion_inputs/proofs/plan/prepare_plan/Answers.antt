use Rattle.std.proofs.Common.{refl}
use Rattle.list_laws.proofs.Options.{err_is}
use Rattle.insertion_inputs.specs.Reserves.{reserve_fault}
use Rattle.insertion_inputs.specs.Faults.{StandsInFit}
use Rattle.insertion_inputs.proofs.Ready.{prepared_is, room_there, room_fault}
use Rattle.insertion_inputs.proofs.plan.prepare_plan.Goals as goal

pub returns-in_err-prepare-clause-fault : goal.returns-in_err-prepare-clause-fault
returns-in_err-prepare-clause-fault c =
    err_is c.from_residual-in_err-prepare.result (reserve_fault c.in_err-prepare.field-0.0) (StandsInFit c.args.linked.now c.args.plan.now) c.from_residual-in_err-prepare.ensures.1
    (room_fault _ c.args.linked.now c.args.plan.now c.in_ok-fitted.fitted c.in_err-prepare.field-0.0 _ c.in_ok-fitted.ensures.ready.fits refl c.in_err-prepare.ensures.answer)

pub returns-clause-prepared : goal.returns-clause-prepared
returns-clause-prepared c =
    prepared_is c.fitted_is_fitting.ensures c.plans_make_devices.ensures c.args.linked.now c.args.plan.now c.in_ok-fitted.fitted c.prepare.new.linked c.requires.linked c.requires.plan c.in_ok-fitted.ensures.ready
    (room_there _ _ _ c.in_ok-prepare.ensures.answer) c.in_ok-prepare.ensures.ok
