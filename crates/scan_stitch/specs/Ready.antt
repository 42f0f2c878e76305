-- What stitching needs of a netlist and of what was fitted to it; fitting gives all of it.
-- Own.
use Rattle.std.specs.Prelude.{ℕ, ◌+◌, ◌^◌, ◌<◌, ◌≤◌, All, length, ⊤, Option, Some, None, MatchOption}
use Rattle.verilog_tree.specs.IsTree.{IsTreeName}
use Rattle.netlist_model.specs.declared.Range.{Range}
use Rattle.netlist_model.specs.Formed.{width_of}
use Rattle.plan_fitting.specs.declared.fitted.FitRow.{FitRow}
use Rattle.plan_fitting.specs.declared.fitted.Fitted.{Fitted}
use Rattle.plan_fitting.specs.Devices.{range_at}
use Rattle.written_netlists.specs.core_sides.Pins.{AreFew}

-- Bits of ports.

-- the bit, counted from the left, is one of the range
abbrev pub IsBitInRange : Option Range → ℕ → Type 0
IsBitInRange None bit = ⊤
IsBitInRange (Some range) bit = bit < width_of (Some range)

abbrev pub IsRowInRange : Fitted → FitRow → Type 0
IsRowInRange f row = MatchOption row.pin ⊤ (λ pin. IsBitInRange (range_at f pin) pin.bit)

-- each row's bit is one of its port
abbrev pub AreBitsInRange : Fitted → Type 0
AreBitsInRange f = All (IsRowInRange f) f.rows

-- Limits.

pub record IsSmall (f : Fitted) : Type 0 where
  pub rows : AreFew f.rows
  pub bits : f.codes.length ≤ 32
  pub linkage : length f.linkage + 5 < 2 ^ 32

-- Names.

-- the names of the test access port can be written
pub record HasTapNames (f : Fitted) : Type 0 where
  pub tck : IsTreeName f.tck.name
  pub tms : IsTreeName f.tms.name
  pub tdi : IsTreeName f.tdi.name
  pub tdo : IsTreeName f.tdo.name
  pub trst : IsTreeName f.trst.name
