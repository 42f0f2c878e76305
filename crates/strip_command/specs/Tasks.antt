-- What `strip` is to do. Own.
use Rattle.std.specs.Prelude.{◌≡◌, ℕ, ◌⊎◌, List, [], ◌∷◌, Option, false}
use Rattle.cell_library.specs.declared.listed.ListedCell.{ListedCell}
use Rattle.command_faults.specs.declared.fault.Fault.{Fault}
use Rattle.command_faults.specs.declared.status.Status.{Status}
use Rattle.command_faults.specs.declared.status.Status.TheVariants as status
use Rattle.command_edges.specs.Libraries.{names_if, IsLibraryOf, StandsInLibrary}
use Rattle.command_edges.specs.Tasks.{Task}
use Rattle.strip_command.specs.Strippings.{IsStripping, IsStrippable}
use Rattle.strip_command.specs.Faults.{StandsInInputs}

-- these are the texts of the netlist and of the plan that the two come from
abbrev pub IsStrippedTexts : List ListedCell → List ℕ → List ℕ → List (List ℕ) → List ℕ → Status → Type 0
IsStrippedTexts library net text (outnet ∷ outplan ∷ []) put end = IsStripping library net text outnet outplan × (end ≡ status.Done)
IsStrippedTexts library net text _ put end = ⊥

-- the texts behind the netlist's and the device's come to the library
abbrev pub AreStripped : List (List ℕ) → List (List ℕ) → List ℕ → Status → Type 0
AreStripped (net ∷ text ∷ more) outputs put end = (library : List ListedCell) × (IsLibraryOf more library × IsStrippedTexts library net text outputs put end)
AreStripped _ outputs put end = ⊥

abbrev pub HaveFault : List (List ℕ) → Fault → Type 0
HaveFault (net ∷ text ∷ more) f = StandsInLibrary more f ⊎ ((library : List ListedCell) × (IsLibraryOf more library × StandsInInputs library net text f))
HaveFault _ f = ⊥

abbrev pub AreStrippable : List (List ℕ) → Type 0
AreStrippable (net ∷ text ∷ more) = (library : List ListedCell) × (IsLibraryOf more library × IsStrippable library net text)
AreStrippable _ = ⊥

-- The texts of the netlist and of the plan are written, the netlist's first; a library of cells may stand behind the
-- netlist and the BSDL text.
abbrev pub strip_task : List ℕ → List ℕ → List ℕ → List ℕ → Option (List ℕ) → Task
strip_task netlist bsdl outnet outplan library = record {
  reads = netlist ∷ bsdl ∷ names_if library;
  writes = outnet ∷ outplan ∷ [];
  puts = false;
  Makes = AreStripped;
  HaveFault = HaveFault;
  AreFree = AreStrippable;
}
