-- What the starts and sets of a program name.
-- IEEE Std 1149.1-2001: test access port; the annex on BSDL (logical port description). The lines are own.
use Rattle.std.specs.Prelude.{◌≡◌, ℕ, Bool, true, List, [], ◌∷◌, slice_get, Option, Some, ⊤}
use Rattle.signal_values.specs.declared.PinSig.{PinSig}
use Rattle.bsdl_device.specs.declared.values.DevPort.{DevPort}
use Rattle.bsdl_device.specs.declared.values.Device.{Device}
use Rattle.bsdl_device.specs.Ports.{indices}
use Rattle.test_logic.specs.declared.TapInput.{TapInput}
use Rattle.scan_vectors.specs.declared.lines.Line.{Line}
use Rattle.scan_vectors.specs.declared.lines.Line.TheVariants.{Start, Set, Expect}
use Rattle.scan_programs.specs.Pins.{bit_word, start_value, takes_start}
use Rattle.program_runs.specs.Played.{IsTapSet}

-- the word is that of a bit of an input or inout, and the value the one that this port starts with
pub record IsStartOf (B : Device) (word : List ℕ) (value : PinSig) : Type 0 where
  pub place : ℕ
  pub port : DevPort
  pub bit : ℕ
  pub index : Option ℕ
  pub there : slice_get B.ports place ≡ Some port
  pub takes : takes_start port ≡ true
  pub at : slice_get (indices port.range) bit ≡ Some index
  pub named : word ≡ bit_word port.name index
  pub value_is : value ≡ start_value B place port

-- the word is that of an input of the test access port, and the value a level's
pub record IsSetOf (B : Device) (word : List ℕ) (value : PinSig) : Type 0 where
  pub input : TapInput
  pub level : Bool
  pub set : IsTapSet B word value input level

abbrev pub NamePins : Device → List Line → Type 0
NamePins B [] = ⊤
NamePins B (Start word value ∷ lines) = IsStartOf B word value × NamePins B lines
NamePins B (Set word value ∷ lines) = IsSetOf B word value × NamePins B lines
NamePins B (Expect word value ∷ lines) = NamePins B lines
