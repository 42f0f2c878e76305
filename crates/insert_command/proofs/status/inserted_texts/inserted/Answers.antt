use Rattle.std.proofs.Common.{refl}
use Rattle.list_laws.proofs.Options.{err_is}
use Rattle.command_faults.specs.declared.fault.Fault.TheVariants as fault
use Rattle.status_insertions.specs.insertion_inputs.declared.fault.InsertFault.TheVariants as insert
use Rattle.status_insertions.specs.status_inputs.declared.fault.StatusInsertFault.TheVariants as status
use Rattle.insert_command.specs.StatusFaults.{StandsInInputs}
use Rattle.insert_command.proofs.status.inserted_texts.inserted.Goals as goal

-- of the texts that are put together
pub returns-in_err-written_and_put-in-Ok-clause-fault : goal.returns-in_err-written_and_put-in-Ok-clause-fault
returns-in_err-written_and_put-in-Ok-clause-fault c =
    err_is c.from_residual.result fault.OutOfMemory (StandsInInputs c.args.library c.args.net c.args.plan c.args.registers) c.from_residual.ensures.1
    (record { one = status.Insert insert.OutOfMemory; stands = tt; fault_is = refl })
