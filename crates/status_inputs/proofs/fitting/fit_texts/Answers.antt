use Rattle.list_laws.proofs.Options.{err_is}
use Rattle.status_inputs.specs.Faults.{StandsBehindPlan}
use Rattle.status_inputs.specs.Reserves.{reserve_fault}
use Rattle.status_inputs.specs.declared.fault.StatusInsertFault.TheVariants as fault
use Rattle.status_inputs.proofs.Stand.{plan_stands, registers_stand, room_stands, registers_of, fits_of}
use Rattle.status_inputs.proofs.fitting.fit_texts.Goals as goal

pub prepare_fitted-requires-clause-registers : goal.prepare_fitted-requires-clause-registers
prepare_fitted-requires-clause-registers c =
    registers_of c.args.linked.now c.in_ok-planned.planned.plan c.args.registers.now c.in_ok-registers.registers c.in_ok-registers.ensures.fitted

pub returns-in_err-planned-clause-fault : goal.returns-in_err-planned-clause-fault
returns-in_err-planned-clause-fault c =
    err_is c.from_residual.result (fault.Insert c.in_err-planned.field-0.0) (StandsBehindPlan c.args.linked.now c.args.plan.now c.args.registers.now) c.from_residual.ensures.1
    (plan_stands c.args.linked.now c.args.plan.now c.args.registers.now c.in_err-planned.field-0.0 c.in_err-planned.ensures.fault)

pub returns-in_err-registers-clause-fault : goal.returns-in_err-registers-clause-fault
returns-in_err-registers-clause-fault c =
    let made = c.in_ok-planned.planned in
    let is = c.in_ok-planned.ensures.planned in
    err_is c.from_residual-in_err-registers.result (fault.Registers c.in_err-registers.field-0.0) (StandsBehindPlan c.args.linked.now c.args.plan.now c.args.registers.now)
    c.from_residual-in_err-registers.ensures.1
    (registers_stand c.args.linked.now c.args.plan.now c.args.registers.now made.plan c.in_err-registers.field-0.0 is.spells (fits_of c.args.linked.now made.plan made.fitted is.ready.fits)
    c.in_err-registers.ensures.fault)

pub returns-in_err-prepare_fitted-clause-fault : goal.returns-in_err-prepare_fitted-clause-fault
returns-in_err-prepare_fitted-clause-fault c =
    let made = c.in_ok-planned.planned in
    let is = c.in_ok-planned.ensures.planned in
    err_is c.from_residual-in_err-prepare_fitted.result (reserve_fault c.in_err-prepare_fitted.field-0.0) (StandsBehindPlan c.args.linked.now c.args.plan.now c.args.registers.now)
    c.from_residual-in_err-prepare_fitted.ensures.1
    (room_stands c.args.linked.now c.args.plan.now c.args.registers.now made.plan made.fitted c.in_ok-registers.registers c.in_err-prepare_fitted.field-0.0 is.spells is.ready.fits
    c.in_ok-registers.ensures.fitted c.in_err-prepare_fitted.ensures.fault)

pub returns-clause-fitting : goal.returns-clause-fitting
returns-clause-fitting c = record {
  spells = c.in_ok-planned.ensures.planned.spells;
  registers = c.in_ok-registers.ensures.fitted;
  prepares = c.in_ok-prepare_fitted.ensures.prepared;
  extended_is = c.in_ok-extended.ensures;
}
