-- When each fault of the texts of a netlist and of a plan stands. Own.
use Rattle.std.specs.Prelude.{◌≡◌, ℕ, List}
use Rattle.cell_library.specs.declared.listed.ListedCell.{ListedCell}
use Rattle.command_faults.specs.declared.fault.Fault.{Fault}
use Rattle.command_faults.specs.declared.fault.Fault.TheVariants as fault
use Rattle.status_insertions.specs.insertion_inputs.declared.fault.InsertFault.{InsertFault}
use Rattle.status_insertions.specs.insertion_inputs.declared.fault.InsertFault.TheVariants as insert
use Rattle.status_insertions.specs.insertion_inputs.Faults.{StandsInTexts}

-- the fault of a command, for one of inserting
abbrev pub fault_of : InsertFault → Fault
fault_of (insert.Netlist f) = fault.Netlist f
fault_of (insert.Link f) = fault.Link f
fault_of (insert.Plan f) = fault.Plan f
fault_of (insert.Fit f) = fault.Fit f
fault_of (insert.TooMany what count limit) = fault.TooMany what count limit
fault_of insert.OutOfMemory = fault.OutOfMemory

-- the fault stands in the texts of a netlist, with this library, and of a plan, of which the netlist is looked at first
pub record StandsInInputs (library : List ListedCell) (net plan : List ℕ) (f : Fault) : Type 0 where
  pub one : InsertFault
  pub stands : StandsInTexts library net plan one
  pub fault_is : f ≡ fault_of one
