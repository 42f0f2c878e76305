use Rattle.list_laws.proofs.Options.{err_is}
use Rattle.status_fitting.specs.Faults.{IsFault}
use Rattle.status_fitting.proofs.Fits.{few_told, names_told, nets_told, opcodes_told, none_told}
use Rattle.status_fitting.proofs.status_fit.fit_status.Goals as goal

pub returns-in-Some-clause-fault : goal.returns-in-Some-clause-fault
returns-in-Some-clause-fault c = names_told c.args.linked.now c.args.base.now c.args.plan.now c.in-Some.fault c.in_ok-barred.barred c.in_ok-barred.ensures c.in-Some.is

pub fit_rows-requires : goal.fit_rows-requires
fit_rows-requires c = few_told c.args.plan.now c.as_slice-rows.result.now c.as_slice-rows.ensures c.requires

pub returns-in_err-registers-clause-fault : goal.returns-in_err-registers-clause-fault
returns-in_err-registers-clause-fault c =
    err_is c.from_residual-in_err-registers.result c.in_err-registers.field-0.0 (IsFault c.args.linked.now c.args.base.now c.args.plan.now) c.from_residual-in_err-registers.ensures.1
    (nets_told c.args.linked.now c.in_ok-wires.wires c.args.base.now c.args.plan.now c.as_slice-rows.result.now c.in_err-registers.field-0.0 c.in_ok-barred.barred
    c.in_ok-wires.ensures c.as_slice-rows.ensures c.in_ok-barred.ensures c.in-None.is c.in_err-registers.ensures.fault)

pub returns-in-Some-taken-clause-fault : goal.returns-in-Some-taken-clause-fault
returns-in-Some-taken-clause-fault c =
    opcodes_told c.args.linked.now c.in_ok-wires.wires c.args.base.now c.args.plan.now c.as_slice-rows.result.now c.in_ok-registers.registers c.in-Some-taken.fault c.in_ok-barred.barred c.in_ok-taken.taken
    c.in_ok-wires.ensures c.as_slice-rows.ensures c.in_ok-barred.ensures c.in-None.is c.in_ok-registers.ensures.registers c.in_ok-taken.ensures c.in-Some-taken.is

pub returns-clause-faultless : goal.returns-clause-faultless
returns-clause-faultless c =
    none_told c.args.linked.now c.in_ok-wires.wires c.args.base.now c.args.plan.now c.as_slice-rows.result.now c.in_ok-registers.registers c.in_ok-barred.barred c.in_ok-taken.taken
    c.in_ok-wires.ensures c.as_slice-rows.ensures c.in_ok-barred.ensures c.in-None.is c.in_ok-registers.ensures.registers c.in_ok-taken.ensures c.in-None-taken.is
