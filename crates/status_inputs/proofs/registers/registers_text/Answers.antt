use Rattle.list_laws.proofs.Options.{err_is}
use Rattle.status_fitting.specs.Faults as fits
use Rattle.status_inputs.specs.Faults.{StandsInRegisters}
use Rattle.status_inputs.proofs.Stand.{lines_stand, fits_stand, registers_told, err_weaker}
use Rattle.status_inputs.proofs.registers.registers_text.Goals as goal

pub returns-in_err-asked-clause-fault : goal.returns-in_err-asked-clause-fault
returns-in_err-asked-clause-fault c =
    err_is c.from_residual.result c.in_err-asked.field-0.0 (StandsInRegisters c.args.linked.now c.args.base.now c.args.text.now) c.from_residual.ensures.1
    (lines_stand c.args.linked.now c.args.base.now c.args.text.now c.in_err-asked.field-0.0 c.in_err-asked.ensures.fault)

pub returns-clause-fitted : goal.returns-clause-fitted
returns-clause-fitted c =
    registers_told c.fit_status.result c.args.linked.now c.args.base.now c.args.text.now c.in_ok-asked.asked c.in_ok-asked.ensures.spelled c.fit_status.ensures.fitted c.fit_status.ensures.faultless

pub returns-clause-fault : goal.returns-clause-fault
returns-clause-fault c =
    err_weaker c.fit_status.result (fits.IsFault c.args.linked.now c.args.base.now c.in_ok-asked.asked) (StandsInRegisters c.args.linked.now c.args.base.now c.args.text.now)
    (λ f bad. fits_stand c.args.linked.now c.args.base.now c.args.text.now c.in_ok-asked.asked f c.in_ok-asked.ensures.spelled bad) c.fit_status.ensures.fault
