-- The first line that breaks the rule of the test access port, as the program finds it. Own.
use Rattle.std.specs.Prelude.{◌≡◌, ℕ, ◌<◌, min, slice_get, Option, Some, None}
use Rattle.bsdl_device.specs.declared.values.Device.{Device}
use Rattle.scan_vectors.specs.declared.lines.Lines.{Lines}
use Rattle.conformance_report.specs.Rules.{IsTapBroken}

-- the line with this number breaks the rule, and none before it
pub record IsFirstTapBroken (d : Device) (lines : Lines) (number : ℕ) : Type 0 where
  pub place : ℕ
  pub here : IsTapBroken d lines.list place
  pub first : (earlier : ℕ) → earlier < place → IsTapBroken d lines.list earlier → ⊥
  pub number_is : slice_get lines.numbers place ≡ Some number

-- the lesser of two numbers, where there is a first
abbrev pub lesser : Option ℕ → ℕ → ℕ
lesser None number = number
lesser (Some line) number = min line number
