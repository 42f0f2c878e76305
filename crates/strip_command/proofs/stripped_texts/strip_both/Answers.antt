use Rattle.list_laws.proofs.Options.{err_is}
use Rattle.command_faults.specs.declared.fault.Fault.TheVariants as fault
use Rattle.strip_command.specs.Faults.{StandsInBoth}
use Rattle.strip_command.proofs.Made.{texts_made}
use Rattle.strip_command.proofs.stripped_texts.strip_both.Goals as goal

pub write_answer-requires : goal.write_answer-requires
write_answer-requires c = c.in-Ok.ensures.stripped.gives.plan

pub returns-in_ok-write_answer-in-Ok-clause-made : goal.returns-in_ok-write_answer-in-Ok-clause-made
returns-in_ok-write_answer-in-Ok-clause-made c = λ net text read can device.
    texts_made c.args.library.now net text c.args.tree.now c.args.device.now c.in-Ok.answer.module c.in-Ok.answer.plan
    c.in_ok-write_answer-in-Ok.field-0.outputs c.in_ok-write_answer-in-Ok.field-0.put c.in_ok-write_answer-in-Ok.field-0.status read can device
    c.in-Ok.ensures.stripped c.in_ok-write_answer-in-Ok.ensures.outputs c.in_ok-write_answer-in-Ok.ensures.done

pub returns-in_err-write_answer-in-Ok-clause-fault : goal.returns-in_err-write_answer-in-Ok-clause-fault
returns-in_err-write_answer-in-Ok-clause-fault c =
    err_is c.from_residual.result fault.OutOfMemory (StandsInBoth c.args.library.now c.args.tree.now c.args.device.now) c.from_residual.ensures.1 tt

pub returns-in-Err-NotInserted-clause-fault : goal.returns-in-Err-NotInserted-clause-fault
returns-in-Err-NotInserted-clause-fault c = c.in-Err-NotInserted.ensures.refused c.in-Err-NotInserted.field-0-is
