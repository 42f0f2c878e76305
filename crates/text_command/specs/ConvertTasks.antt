-- What `canon` and `showbsdl` are to do, and when each fault stands in the text that they read. Own.
use Rattle.std.specs.Prelude.{◌≡◌, ℕ, List, [], ◌∷◌, false}
use Rattle.command_faults.specs.declared.fault.Fault.{Fault}
use Rattle.command_faults.specs.declared.fault.Fault.TheVariants as fault
use Rattle.command_faults.specs.declared.status.Status.{Status}
use Rattle.command_faults.specs.declared.status.Status.TheVariants as status
use Rattle.verilog_texts.specs.TextFaults.{IsTextFault}
use Rattle.bsdl_values.specs.TextFaults.{IsDeviceTextFault}
use Rattle.command_edges.specs.Tasks.{Task}
use Rattle.text_command.specs.declared.convert.conversion.Conversion.{Conversion}
use Rattle.text_command.specs.declared.convert.conversion.Conversion.TheVariants.{Canon, ShowBsdl}
use Rattle.text_command.specs.Conversions.{IsConverted, IsSpelled}

-- the text is what the conversion makes of the bytes
abbrev pub AreConverted : Conversion → List (List ℕ) → List (List ℕ) → List ℕ → Status → Type 0
AreConverted c (bytes ∷ []) (text ∷ []) put end = IsConverted c bytes text × (end ≡ status.Done)
AreConverted c _ _ put end = ⊥

-- the fault stands in a text that is converted; want of memory says nothing
abbrev pub StandsInText : Conversion → List ℕ → Fault → Type 0
StandsInText Canon bytes (fault.Netlist f) = IsTextFault bytes f
StandsInText ShowBsdl bytes (fault.Device f) = IsDeviceTextFault bytes f
StandsInText c bytes fault.OutOfMemory = Unit {0}
StandsInText c bytes f = ⊥

abbrev pub HaveFault : Conversion → List (List ℕ) → Fault → Type 0
HaveFault c (bytes ∷ []) f = StandsInText c bytes f
HaveFault c _ f = ⊥

-- the text is spelled
abbrev pub AreSpelled : Conversion → List (List ℕ) → Type 0
AreSpelled c (bytes ∷ []) = IsSpelled c bytes
AreSpelled c _ = ⊥

-- What the conversion makes of the text is written.
abbrev pub convert_task : Conversion → List ℕ → List ℕ → Task
convert_task c input output = record {
  reads = input ∷ [];
  writes = output ∷ [];
  puts = false;
  Makes = AreConverted c;
  HaveFault = HaveFault c;
  AreFree = AreSpelled c;
}
