-- A program played on the wrapped chip: where its starts leave the pins, and the events that its sets are.
-- IEEE Std 1149.1-2001: test access port. The lines are own.
use Rattle.std.specs.Prelude.{◌≡◌, ℕ, Bool, List, [], ◌∷◌, Some, ⊤}
use Rattle.signal_values.specs.declared.Sig.{Sig}
use Rattle.signal_values.specs.declared.PinSig.{PinSig}
use Rattle.signal_values.specs.declared.PinSig.TheVariants as pin
use Rattle.signal_values.specs.Values.{bit, pin_of}
use Rattle.netlist_model.specs.declared.Dir.TheVariants.{Input, Inout}
use Rattle.netlist_model.specs.Lists.{NetlistView, direction}
use Rattle.bsdl_device.specs.declared.values.Device.{Device}
use Rattle.test_logic.specs.declared.TapInput.{TapInput}
use Rattle.wrapped_chip.specs.Cells.{Numbered, row_of}
use Rattle.wrapped_chip.specs.ChipRuns.{ChipMoment, ChipEvent, at_pin, at_tap, IsChipRun}
use Rattle.scan_vectors.specs.declared.lines.Line.{Line}
use Rattle.scan_vectors.specs.declared.lines.Line.TheVariants.{Start, Set, Expect}
use Rattle.scan_programs.specs.Pins.{port_word}
use Rattle.scan_programs.specs.Program.{program_of}
use Rattle.scan_programs.specs.Met.{input_place, first_levels}

-- inputs that have a cell are at 0 and inouts are left alone, TMS is 1, and TCK, TDI and TRST are 0
pub record IsProgramStart (B : Device) (N : NetlistView) (w : ChipMoment) : Type 0 where
  pub levels : w.levels ≡ first_levels
  pub inputs : (net : ℕ) (r : Numbered) → direction N.ports net ≡ Some Input → row_of B N net ≡ Some r → w.pins net ≡ pin.Zero
  pub inouts : (net : ℕ) → direction N.ports net ≡ Some Inout → w.pins net ≡ pin.HighZ

-- the word and the value of a set are this input's and this level's
pub record IsTapSet (B : Device) (word : List ℕ) (value : PinSig) (input : TapInput) (level : Bool) : Type 0 where
  pub word_is : word ≡ port_word B (input_place B input)
  pub value_is : value ≡ pin_of (bit level)

-- the events are the sets of the lines, in order
abbrev pub AreSets : Device → List Line → List ChipEvent → Type 0
AreSets B (Start word value ∷ lines) events = AreSets B lines events
AreSets B (Expect word value ∷ lines) events = AreSets B lines events
AreSets B (Set word value ∷ lines) (at_tap input level ∷ events) = IsTapSet B word value input level × AreSets B lines events
AreSets B (Set word value ∷ lines) (at_pin event ∷ events) = ⊥
AreSets B (Set word value ∷ lines) [] = ⊥
AreSets B [] [] = ⊤
AreSets B [] (event ∷ events) = ⊥

-- a run of the chip by the device's program
pub record IsProgramRun (B : Device) (N : NetlistView) (given : ℕ → Sig) (events : List ChipEvent) (chip : ℕ → ChipMoment) : Type 0 where
  pub run : IsChipRun B N given events chip
  pub start : IsProgramStart B N (chip 0)
  pub sets : AreSets B (program_of B) events
