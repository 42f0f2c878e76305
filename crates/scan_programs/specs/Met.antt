-- When a device meets lines of events: its test logic runs by their sets, and reads what they expect.
-- IEEE Std 1149.1-2001: test access port, test logic architecture, boundary-scan register. The lines are own.
use Rattle.std.specs.Prelude.{◌≡◌, ◌⊎◌, ℕ, suc, Bool, true, false, List, [], ◌∷◌, slice_get, Option, Some, ⊤}
use Rattle.signal_values.specs.declared.PinSig.{PinSig}
use Rattle.signal_values.specs.Values.{bit, pin_of}
use Rattle.bsdl_device.specs.declared.values.DevPort.{DevPort}
use Rattle.bsdl_device.specs.declared.values.Device.{Device}
use Rattle.test_logic.specs.declared.Levels.{Levels}
use Rattle.test_logic.specs.declared.TapInput.{TapInput}
use Rattle.test_logic.specs.declared.TapInput.TheVariants.{Tck, Tms, Tdi, Trst}
use Rattle.test_logic.specs.Machine.{Machine, reset, machine_step, test_logic_of}
use Rattle.scan_vectors.specs.declared.lines.Line.{Line}
use Rattle.scan_vectors.specs.declared.lines.Line.TheVariants.{Start, Set, Expect}
use Rattle.scan_programs.specs.Cells.{Core, captured, reading}
use Rattle.scan_programs.specs.Pins.{bit_word, port_word, cell_of, is_read_port}
use Rattle.scan_programs.specs.Program.{program_of}

-- what holds at one moment: at the test access port, in the test logic, and before the boundary cells
pub record Moment : Type 0 where
  pub levels : Levels
  pub machine : Machine
  pub core : Core

-- the place of an input of the test access port
abbrev pub input_place : Device → TapInput → ℕ
input_place B Tck = B.tck
input_place B Tms = B.tms
input_place B Tdi = B.tdi
input_place B Trst = B.trst

abbrev pub with_level : Levels → TapInput → Bool → Levels
with_level levels Tck level = record levels { tck = level }
with_level levels Tms level = record levels { tms = level }
with_level levels Tdi level = record levels { tdi = level }
with_level levels Trst level = record levels { trst = level }

-- where the starts of a program leave the test access port: TRST at 0, so the test logic is in reset
abbrev pub first_levels : Levels
first_levels = record { tck = false; tms = true; tdi = false; trst = false }

pub record IsStart (B : Device) (w : Moment) : Type 0 where
  pub levels : w.levels ≡ first_levels
  pub machine : w.machine ≡ reset (test_logic_of B)

-- an input gets a level; what the cells capture is of before, and of the core nothing is asked
pub record IsStep (B : Device) (input : TapInput) (level : Bool) (w w' : Moment) : Type 0 where
  pub levels : w'.levels ≡ with_level w.levels input level
  pub machine : w'.machine ≡ machine_step (test_logic_of B) w.levels w'.levels (captured B w.machine w.core) w.machine

-- a set of the input that has this word
abbrev pub IsSet : Device → List ℕ → PinSig → Moment → Moment → Type 0
IsSet B word value w w' = (input : TapInput) (level : Bool) → word ≡ port_word B (input_place B input) → value ≡ pin_of (bit level) → IsStep B input level w w'

-- from this moment on each set of the lines leads to the next moment
abbrev pub IsRunFrom : Device → (ℕ → Moment) → ℕ → List Line → Type 0
IsRunFrom B moment t [] = ⊤
IsRunFrom B moment t (Start word value ∷ lines) = IsRunFrom B moment t lines
IsRunFrom B moment t (Set word value ∷ lines) = IsSet B word value (moment t) (moment (suc t)) × IsRunFrom B moment (suc t) lines
IsRunFrom B moment t (Expect word value ∷ lines) = IsRunFrom B moment t lines

-- a bit of an output or inout with this word reads this value, by the cell that stands at it
pub record BitReads (B : Device) (w : Moment) (word : List ℕ) (value : PinSig) : Type 0 where
  pub place : ℕ
  pub port : DevPort
  pub index : Option ℕ
  pub number : ℕ
  pub there : slice_get B.ports place ≡ Some port
  pub read : is_read_port B (place, port) ≡ true
  pub named : word ≡ bit_word port.name index
  pub cell : cell_of B.cells (record { port = place; index = index }) ≡ Some number
  pub reads : reading B w.machine w.core number ≡ value

pub record TdoReads (B : Device) (w : Moment) (word : List ℕ) (value : PinSig) : Type 0 where
  pub named : word ≡ port_word B B.tdo
  pub reads : w.machine.tdo ≡ value

abbrev pub Reads : Device → Moment → List ℕ → PinSig → Type 0
Reads B w word value = TdoReads B w word value ⊎ BitReads B w word value

-- from this moment on each expectation of the lines is met at its moment
abbrev pub AreMetFrom : Device → (ℕ → Moment) → ℕ → List Line → Type 0
AreMetFrom B moment t [] = ⊤
AreMetFrom B moment t (Start word value ∷ lines) = AreMetFrom B moment t lines
AreMetFrom B moment t (Set word value ∷ lines) = AreMetFrom B moment (suc t) lines
AreMetFrom B moment t (Expect word value ∷ lines) = Reads B (moment t) word value × AreMetFrom B moment t lines

-- the device meets its program, whatever its core gives the cells at each moment
abbrev pub ProgramsAreMet : Type 0
ProgramsAreMet = (B : Device) (moment : ℕ → Moment) → IsStart B (moment 0) → IsRunFrom B moment 0 (program_of B) → AreMetFrom B moment 0 (program_of B)
