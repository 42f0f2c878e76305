-- When each fault of the texts of a netlist, of a plan and of registers stands. Own.
use Rattle.std.specs.Prelude.{◌≡◌, ℕ, List}
use Rattle.cell_library.specs.declared.listed.ListedCell.{ListedCell}
use Rattle.command_faults.specs.declared.fault.Fault.{Fault}
use Rattle.command_faults.specs.declared.fault.Fault.TheVariants as fault
use Rattle.insert_command.specs.Faults as inserting
use Rattle.status_insertions.specs.status_inputs.declared.fault.StatusInsertFault.{StatusInsertFault}
use Rattle.status_insertions.specs.status_inputs.declared.fault.StatusInsertFault.TheVariants as insert
use Rattle.status_insertions.specs.status_inputs.Faults.{StandsInStatusTexts}

-- the fault of a command, for one of inserting with registers
abbrev pub fault_of : StatusInsertFault → Fault
fault_of (insert.Insert f) = inserting.fault_of f
fault_of (insert.Registers f) = fault.Registers f

-- the fault stands in the texts of a netlist, with this library, of a plan and of registers
pub record StandsInInputs (library : List ListedCell) (net plan lines : List ℕ) (f : Fault) : Type 0 where
  pub one : StatusInsertFault
  pub stands : StandsInStatusTexts library net plan lines one
  pub fault_is : f ≡ fault_of one
