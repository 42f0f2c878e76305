use Rattle.status_inputs.proofs.Few.{few_registers}
use Rattle.status_inputs.proofs.Ready.{prepared_told}
use Rattle.status_inputs.proofs.Stand.{room_told}
use Rattle.status_inputs.proofs.fitting.prepare_fitted.Goals as goal

pub prepare_status-requires-clause-many : goal.prepare_status-requires-clause-many
prepare_status-requires-clause-many c =
    let are = c.requires.registers in
    (few_registers c.args.linked.now are.asked c.args.registers.now are.spelled are.fitted).0

pub prepare_status-requires-clause-few : goal.prepare_status-requires-clause-few
prepare_status-requires-clause-few c =
    let are = c.requires.registers in
    (few_registers c.args.linked.now are.asked c.args.registers.now are.spelled are.fitted).1

pub returns-clause-prepared : goal.returns-clause-prepared
returns-clause-prepared c =
    prepared_told c.fitted_is_fitting.ensures c.registers_make_devices.ensures c.prepare_status.result c.args.linked.now c.args.plan.now c.args.fitted.now c.args.registers.now c.prepare_status.new.linked
    c.requires.linked c.requires.plan c.requires.ready c.requires.registers c.prepare_status.ensures.answer c.prepare_status.ensures.ok

pub returns-clause-fault : goal.returns-clause-fault
returns-clause-fault c = room_told c.prepare_status.result c.args.linked.now c.args.fitted.now c.args.registers.now c.prepare_status.ensures.answer
