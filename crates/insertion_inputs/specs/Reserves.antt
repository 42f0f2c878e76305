-- What a refusal of room is told as. Own.
use Rattle.netlist_arena.specs.declared.room.ReserveFault.{ReserveFault}
use Rattle.netlist_arena.specs.declared.room.ReserveFault.TheVariants as reserve
use Rattle.insertion_inputs.specs.declared.fault.InsertFault.{InsertFault}
use Rattle.insertion_inputs.specs.declared.fault.InsertFault.TheVariants as fault

abbrev pub reserve_fault : ReserveFault → InsertFault
reserve_fault (reserve.TooMany what count limit) = fault.TooMany what count limit
reserve_fault reserve.OutOfMemory = fault.OutOfMemory
