-- The levels that the program of a device gives the inputs of its test access port.
-- IEEE Std 1149.1-2001: test access port, test logic reset. The lines are own.
use Rattle.std.specs.Prelude.{◌≡◌, ◌≢◌, ℕ, slice_get, Some}
use Rattle.signal_values.specs.declared.PinSig.TheVariants.{Zero}
use Rattle.netlist_model.specs.Runs.{IsKnownPin}
use Rattle.bsdl_device.specs.declared.values.Device.{Device}
use Rattle.bsdl_device.specs.IsDevice.{IsDevice}
use Rattle.test_logic.specs.declared.TapInput.{TapInput}
use Rattle.scan_vectors.specs.declared.lines.Act.TheVariants.{Start, Expect}
use Rattle.scan_vectors.specs.declared.lines.Line.{Line}
use Rattle.scan_vectors.specs.Grammar.{act_of, pin_of, value_of}
use Rattle.scan_programs.specs.Pins.{port_word}
use Rattle.scan_programs.specs.Program.{program_of}
use Rattle.scan_programs.specs.Met.{input_place}

-- a start or set with the word of an input of the test access port gives it 0 or 1, and TRST starts at 0
pub record KeepsLevels (B : Device) (line : Line) : Type 0 where
  pub known : (input : TapInput) → pin_of line ≡ port_word B (input_place B input) → act_of line ≢ Expect → IsKnownPin (value_of line)
  pub reset : pin_of line ≡ port_word B B.trst → act_of line ≡ Start → value_of line ≡ Zero

-- so does each line of the program
abbrev pub ProgramsKeepLevels : Type 0
ProgramsKeepLevels = (B : Device) → IsDevice B → (place : ℕ) (line : Line) → slice_get (program_of B) place ≡ Some line → KeepsLevels B line
