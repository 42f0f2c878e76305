use Rattle.list_laws.proofs.Options.{err_is}
use Rattle.insertion_inputs.specs.declared.fault.InsertFault.TheVariants as insert
use Rattle.status_inputs.specs.Faults.{StandsInPlanText}
use Rattle.status_inputs.proofs.plan.plan_text.Goals as goal

pub returns-in_err-fitted-clause-fault : goal.returns-in_err-fitted-clause-fault
returns-in_err-fitted-clause-fault c =
    err_is c.from_residual-in_err-fitted.result (insert.Fit c.in_err-fitted.field-0.0) (StandsInPlanText c.args.linked.now c.args.text.now) c.from_residual-in_err-fitted.ensures.1
    (record { plan = c.in_ok-plan.plan; spells = c.in_ok-plan.ensures.spelled; stands = c.in_err-fitted.ensures.fault })
