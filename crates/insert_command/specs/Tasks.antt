-- What `insert` is to do. Own.
use Rattle.std.specs.Prelude.{◌≡◌, ℕ, ◌⊎◌, List, [], ◌∷◌, Option, true}
use Rattle.cell_library.specs.declared.listed.ListedCell.{ListedCell}
use Rattle.command_faults.specs.declared.fault.Fault.{Fault}
use Rattle.command_faults.specs.declared.status.Status.{Status}
use Rattle.command_faults.specs.declared.status.Status.TheVariants as status
use Rattle.status_insertions.specs.insertions.Insertions.{IsInsertionText}
use Rattle.command_edges.specs.Libraries.{names_if, IsLibraryOf, StandsInLibrary}
use Rattle.command_edges.specs.Tasks.{Task}
use Rattle.insert_command.specs.Faults.{StandsInInputs}
use Rattle.insert_command.specs.Free.{IsInsertable}

-- these are the texts of the netlist with the test logic of the plan, of its device, and of the report on both
abbrev pub IsInserted : List ListedCell → List ℕ → List ℕ → List (List ℕ) → List ℕ → Status → Type 0
IsInserted library net plan (verilog ∷ bsdl ∷ []) report end = IsInsertionText library net plan verilog bsdl report × (end ≡ status.Done)
IsInserted library net plan _ report end = ⊥

-- the texts behind the netlist's and the plan's come to the library
abbrev pub AreInserted : List (List ℕ) → List (List ℕ) → List ℕ → Status → Type 0
AreInserted (net ∷ plan ∷ more) outputs report end = (library : List ListedCell) × (IsLibraryOf more library × IsInserted library net plan outputs report end)
AreInserted _ outputs report end = ⊥

abbrev pub HaveFault : List (List ℕ) → Fault → Type 0
HaveFault (net ∷ plan ∷ more) f = StandsInLibrary more f ⊎ ((library : List ListedCell) × (IsLibraryOf more library × StandsInInputs library net plan f))
HaveFault _ f = ⊥

abbrev pub AreInsertable : List (List ℕ) → Type 0
AreInsertable (net ∷ plan ∷ more) = (library : List ListedCell) × (IsLibraryOf more library × IsInsertable library net plan)
AreInsertable _ = ⊥

-- The netlist with the test logic and the BSDL text of its device are written, and the report is put; a library of
-- cells may stand behind the netlist and the plan.
abbrev pub insert_task : List ℕ → List ℕ → List ℕ → List ℕ → Option (List ℕ) → Task
insert_task netlist plan outnet outbsdl library = record {
  reads = netlist ∷ plan ∷ names_if library;
  writes = outnet ∷ outbsdl ∷ [];
  puts = true;
  Makes = AreInserted;
  HaveFault = HaveFault;
  AreFree = AreInsertable;
}
