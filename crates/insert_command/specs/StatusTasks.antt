-- What `status` is to do. Own.
use Rattle.std.specs.Prelude.{◌≡◌, ℕ, ◌⊎◌, List, [], ◌∷◌, Option, true}
use Rattle.cell_library.specs.declared.listed.ListedCell.{ListedCell}
use Rattle.command_faults.specs.declared.fault.Fault.{Fault}
use Rattle.command_faults.specs.declared.status.Status.{Status}
use Rattle.command_faults.specs.declared.status.Status.TheVariants as status
use Rattle.status_insertions.specs.Insertions.{IsStatusInsertion}
use Rattle.command_edges.specs.Libraries.{names_if, IsLibraryOf, StandsInLibrary}
use Rattle.command_edges.specs.Tasks.{Task}
use Rattle.insert_command.specs.StatusFaults.{StandsInInputs}
use Rattle.insert_command.specs.StatusFree.{IsInsertable}

-- these are the texts of the netlist with the test logic of the plan and the registers, of its device, and of the
-- report on both
abbrev pub IsInserted : List ListedCell → List ℕ → List ℕ → List ℕ → List (List ℕ) → List ℕ → Status → Type 0
IsInserted library net plan lines (verilog ∷ bsdl ∷ []) report end = IsStatusInsertion library net plan lines verilog bsdl report × (end ≡ status.Done)
IsInserted library net plan lines _ report end = ⊥

-- the texts behind the netlist's, the plan's and the registers' come to the library
abbrev pub AreInserted : List (List ℕ) → List (List ℕ) → List ℕ → Status → Type 0
AreInserted (net ∷ plan ∷ lines ∷ more) outputs report end = (library : List ListedCell) × (IsLibraryOf more library × IsInserted library net plan lines outputs report end)
AreInserted _ outputs report end = ⊥

abbrev pub HaveFault : List (List ℕ) → Fault → Type 0
HaveFault (net ∷ plan ∷ lines ∷ more) f = StandsInLibrary more f ⊎ ((library : List ListedCell) × (IsLibraryOf more library × StandsInInputs library net plan lines f))
HaveFault _ f = ⊥

abbrev pub AreInsertable : List (List ℕ) → Type 0
AreInsertable (net ∷ plan ∷ lines ∷ more) = (library : List ListedCell) × (IsLibraryOf more library × IsInsertable library net plan lines)
AreInsertable _ = ⊥

-- The netlist with the test logic and the registers and the BSDL text of its device are written, and the report is put;
-- a library of cells may stand behind the netlist, the plan and the registers.
abbrev pub status_task : List ℕ → List ℕ → List ℕ → List ℕ → List ℕ → Option (List ℕ) → Task
status_task netlist plan registers outnet outbsdl library = record {
  reads = netlist ∷ plan ∷ registers ∷ names_if library;
  writes = outnet ∷ outbsdl ∷ [];
  puts = true;
  Makes = AreInserted;
  HaveFault = HaveFault;
  AreFree = AreInsertable;
}
