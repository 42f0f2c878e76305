-- What `check` is to do. Own.
use Rattle.std.specs.Prelude.{◌≡◌, ℕ, ◌⊎◌, List, [], ◌∷◌, Option, true}
use Rattle.command_faults.specs.declared.fault.Fault.{Fault}
use Rattle.command_faults.specs.declared.status.Status.{Status}
use Rattle.cell_library.specs.declared.listed.ListedCell.{ListedCell}
use Rattle.command_edges.specs.Ends.{run_status}
use Rattle.command_edges.specs.Libraries.{names_if, IsLibraryOf, StandsInLibrary}
use Rattle.command_edges.specs.Tasks.{Task}
use Rattle.play_command.specs.Checks.{IsCheck, IsCheckable}
use Rattle.play_command.specs.CheckFaults.{StandsInAll}

-- the text is that of the check, and the status tells whether an expectation isn't met
abbrev pub IsChecked : List ListedCell → List ℕ → List ℕ → List ℕ → List ℕ → Status → Type 0
IsChecked library net text lines put end = (missed : ℕ) × (IsCheck library net text lines put missed × (end ≡ run_status missed))

-- the texts behind the other three come to the library
abbrev pub AreChecked : List (List ℕ) → List (List ℕ) → List ℕ → Status → Type 0
AreChecked (net ∷ text ∷ lines ∷ more) outputs put end = (library : List ListedCell) × (IsLibraryOf more library × IsChecked library net text lines put end)
AreChecked _ outputs put end = ⊥

abbrev pub HaveFault : List (List ℕ) → Fault → Type 0
HaveFault (net ∷ text ∷ lines ∷ more) f = StandsInLibrary more f ⊎ ((library : List ListedCell) × (IsLibraryOf more library × StandsInAll library net text lines f))
HaveFault _ f = ⊥

abbrev pub AreCheckableTexts : List (List ℕ) → Type 0
AreCheckableTexts (net ∷ text ∷ lines ∷ more) = (library : List ListedCell) × (IsLibraryOf more library × IsCheckable library net text lines)
AreCheckableTexts _ = ⊥

-- The text of the check of the netlist by the device and the events is put; a library of cells may stand behind them.
abbrev pub check_task : List ℕ → List ℕ → List ℕ → Option (List ℕ) → Task
check_task netlist bsdl events library = record {
  reads = netlist ∷ bsdl ∷ events ∷ names_if library;
  writes = [];
  puts = true;
  Makes = AreChecked;
  HaveFault = HaveFault;
  AreFree = AreCheckableTexts;
}
