-- What `vectors` is to do, and when each fault stands in the text that it reads. Own.
use Rattle.std.specs.Prelude.{◌≡◌, ℕ, List, [], ◌∷◌, false}
use Rattle.command_faults.specs.declared.fault.Fault.{Fault}
use Rattle.command_faults.specs.declared.fault.Fault.TheVariants as fault
use Rattle.command_faults.specs.declared.status.Status.{Status}
use Rattle.command_faults.specs.declared.status.Status.TheVariants as status
use Rattle.bsdl_values.specs.TextFaults.{IsDeviceTextFault}
use Rattle.command_edges.specs.Spelled.{SpellsSomeDevice}
use Rattle.command_edges.specs.Tasks.{Task}
use Rattle.play_command.specs.Programs.{IsProgramText}

-- the text is that of the device's program
abbrev pub AreProgrammed : List (List ℕ) → List (List ℕ) → List ℕ → Status → Type 0
AreProgrammed (bytes ∷ []) (text ∷ []) put end = IsProgramText bytes text × (end ≡ status.Done)
AreProgrammed _ _ put end = ⊥

-- the fault stands in the text of a device; want of memory says nothing
abbrev pub StandsInText : List ℕ → Fault → Type 0
StandsInText bytes (fault.Device f) = IsDeviceTextFault bytes f
StandsInText bytes fault.OutOfMemory = Unit {0}
StandsInText bytes f = ⊥

abbrev pub HaveFault : List (List ℕ) → Fault → Type 0
HaveFault (bytes ∷ []) f = StandsInText bytes f
HaveFault _ f = ⊥

-- the text is that of a device
abbrev pub AreSpelled : List (List ℕ) → Type 0
AreSpelled (bytes ∷ []) = SpellsSomeDevice bytes
AreSpelled _ = ⊥

-- The text of the program of the device is written.
abbrev pub vectors_task : List ℕ → List ℕ → Task
vectors_task bsdl output = record {
  reads = bsdl ∷ [];
  writes = output ∷ [];
  puts = false;
  Makes = AreProgrammed;
  HaveFault = HaveFault;
  AreFree = AreSpelled;
}
