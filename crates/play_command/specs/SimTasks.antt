-- What `sim` is to do. Own.
use Rattle.std.specs.Prelude.{◌≡◌, ℕ, ◌⊎◌, List, [], ◌∷◌, Option, true}
use Rattle.command_faults.specs.declared.fault.Fault.{Fault}
use Rattle.command_faults.specs.declared.status.Status.{Status}
use Rattle.box_model.specs.declared.boxes.BoxLibrary.{BoxLibrary}
use Rattle.command_edges.specs.Ends.{run_status}
use Rattle.command_edges.specs.Libraries.{names_if, IsBoxLibraryOf, StandsInBoxLibrary}
use Rattle.command_edges.specs.Tasks.{Task}
use Rattle.play_command.specs.Simulations.{IsSimulation, IsSimulable}
use Rattle.play_command.specs.SimFaults.{StandsInBoth}

-- the text is that of the run, and the status tells whether an expectation isn't met
abbrev pub IsRun : BoxLibrary → List ℕ → List ℕ → List ℕ → Status → Type 0
IsRun library net events put end = (missed : ℕ) × (IsSimulation library net events put missed × (end ≡ run_status missed))

-- the texts behind the netlist's and the events' come to the library
abbrev pub ArePlayed : List (List ℕ) → List (List ℕ) → List ℕ → Status → Type 0
ArePlayed (net ∷ events ∷ more) outputs put end = (library : BoxLibrary) × (IsBoxLibraryOf more library × IsRun library net events put end)
ArePlayed _ outputs put end = ⊥

abbrev pub HaveFault : List (List ℕ) → Fault → Type 0
HaveFault (net ∷ events ∷ more) f = StandsInBoxLibrary more f ⊎ ((library : BoxLibrary) × (IsBoxLibraryOf more library × StandsInBoth library net events f))
HaveFault _ f = ⊥

abbrev pub AreSimulable : List (List ℕ) → Type 0
AreSimulable (net ∷ events ∷ more) = (library : BoxLibrary) × (IsBoxLibraryOf more library × IsSimulable library net events)
AreSimulable _ = ⊥

-- What the run of the events on the netlist puts is put.
abbrev pub sim_of : List (List ℕ) → Task
sim_of names = record {
  reads = names;
  writes = [];
  puts = true;
  Makes = ArePlayed;
  HaveFault = HaveFault;
  AreFree = AreSimulable;
}

-- a library may stand behind the netlist and the events
abbrev pub sim_task : List ℕ → List ℕ → Option (List ℕ) → Task
sim_task netlist events library = sim_of (netlist ∷ events ∷ names_if library)
