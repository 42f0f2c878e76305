-- What a refusal of room, or of memory, is told as. Own.
use Rattle.netlist_arena.specs.declared.room.ReserveFault.{ReserveFault}
use Rattle.insertion_inputs.specs.declared.fault.InsertFault.TheVariants as insert
use Rattle.insertion_inputs.specs.Reserves as inserting
use Rattle.status_inputs.specs.declared.fault.StatusInsertFault.{StatusInsertFault}
use Rattle.status_inputs.specs.declared.fault.StatusInsertFault.TheVariants as fault

abbrev pub reserve_fault : ReserveFault → StatusInsertFault
reserve_fault f = fault.Insert (inserting.reserve_fault f)

abbrev pub memory_fault : StatusInsertFault
memory_fault = fault.Insert insert.OutOfMemory
