-- A program played on a netlist M with the bits of N and a test access port.
-- IEEE Std 1149.1-2001: test access port. The lines are own.
use Rattle.std.specs.Prelude.{◌≡◌, ℕ, Bool, List, [], ◌∷◌, Some, ⊤}
use Rattle.signal_values.specs.declared.Sig.{Sig}
use Rattle.signal_values.specs.declared.PinSig.{PinSig}
use Rattle.signal_values.specs.declared.PinSig.TheVariants as pin
use Rattle.signal_values.specs.Values.{bit, pin_of}
use Rattle.netlist_model.specs.declared.Dir.TheVariants.{Input, Inout}
use Rattle.netlist_model.specs.Lists.{NetlistView, direction}
use Rattle.netlist_model.specs.Cones.{IsControlPort}
use Rattle.netlist_model.specs.Runs.{Moment, PinEvent, IsKnownPin, IsRun}
use Rattle.bsdl_device.specs.declared.values.Device.{Device}
use Rattle.test_logic.specs.declared.TapInput.{TapInput}
use Rattle.wrapped_chip.specs.Cells.{Numbered, row_of}
use Rattle.wrapped_chip.specs.ChipRuns.{level_of}
use Rattle.wrapped_chip.specs.Realises.{SameBit, IsTapNet, tap_place}
use Rattle.scan_vectors.specs.declared.lines.Line.{Line}
use Rattle.scan_vectors.specs.declared.lines.Line.TheVariants.{Start, Set, Expect}
use Rattle.scan_programs.specs.Program.{program_of}
use Rattle.scan_programs.specs.Met.{first_levels}
use Rattle.program_runs.specs.Played.{IsTapSet}

-- inputs that have a cell are at 0 and inouts are left alone, TMS is 1, and TCK, TDI and TRST are 0; an input without
-- a cell may be at anything, and where it controls flip-flops at 0 or 1
pub record IsStartThere (M : NetlistView) (B : Device) (N : NetlistView) (m : Moment) : Type 0 where
  pub inputs : (net there : ℕ) (r : Numbered) → SameBit M N net there → direction N.ports net ≡ Some Input → row_of B N net ≡ Some r → m.pins there ≡ pin.Zero
  pub controls : (net there : ℕ) → SameBit M N net there → IsControlPort N net → IsKnownPin (m.pins there)
  pub inouts : (net there : ℕ) → SameBit M N net there → direction N.ports net ≡ Some Inout → m.pins there ≡ pin.HighZ
  pub tap : (input : TapInput) (there : ℕ) → IsTapNet M N (tap_place input) there → m.pins there ≡ pin_of (bit (level_of first_levels input))

-- the event gives an input of the test access port what a set with this word and value gives it
pub record IsSetThere (M : NetlistView) (B : Device) (N : NetlistView) (word : List ℕ) (value : PinSig) (event : PinEvent) : Type 0 where
  pub input : TapInput
  pub level : Bool
  pub set : IsTapSet B word value input level
  pub tap : IsTapNet M N (tap_place input) event.net
  pub value_is : event.value ≡ value

-- the events are the sets of the lines, in order
abbrev pub AreSetsThere : NetlistView → Device → NetlistView → List Line → List PinEvent → Type 0
AreSetsThere M B N (Start word value ∷ lines) events = AreSetsThere M B N lines events
AreSetsThere M B N (Expect word value ∷ lines) events = AreSetsThere M B N lines events
AreSetsThere M B N (Set word value ∷ lines) (event ∷ events) = IsSetThere M B N word value event × AreSetsThere M B N lines events
AreSetsThere M B N (Set word value ∷ lines) [] = ⊥
AreSetsThere M B N [] [] = ⊤
AreSetsThere M B N [] (event ∷ events) = ⊥

-- a run of M by the program, from any flip-flops
pub record IsProgramRunThere (M : NetlistView) (B : Device) (N : NetlistView) (start : ℕ → Sig) (events : List PinEvent) (moment : ℕ → Moment) : Type 0 where
  pub run : IsRun M start events moment
  pub starts : IsStartThere M B N (moment 0)
  pub sets : AreSetsThere M B N (program_of B) events
