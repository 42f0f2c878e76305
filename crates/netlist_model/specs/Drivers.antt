-- The driver of a net is found, and what a gate or a flip-flop drives is no pin's.
use Rattle.std.specs.Prelude.{◌≡◌, ℕ, false, Option, Some, None}
use Rattle.cell_library.specs.Gates.{is_three_state}
use Rattle.netlist_model.specs.Lists.{CellView, NetlistView, direction, Drives, IsUndriven}
use Rattle.netlist_model.specs.Settled.{follows_pin, driver_of}
use Rattle.netlist_model.specs.Formed.{IsWellFormed}
use Rattle.netlist_model.specs.Settle.{IsDrivenOnce}

-- own: where no net has two drivers, the one that a net has is the one that is found
abbrev pub DriverIsFound : Type 0
DriverIsFound = (N : NetlistView) → IsDrivenOnce N → (i : ℕ) (cell : CellView) (net : ℕ) → Drives N i cell net → driver_of N.cells net ≡ Some cell

-- own: the cell drives the net; or none does
abbrev pub IsDriverOf : NetlistView → ℕ → Option CellView → Type 0
IsDriverOf N net None = IsUndriven N net
IsDriverOf N net (Some cell) = (i : ℕ) × Drives N i cell net

-- own: what is found drives the net, and where nothing is found none does
abbrev pub DriverDrives : Type 0
DriverDrives = (N : NetlistView) (net : ℕ) → IsDriverOf N net (driver_of N.cells net)

-- own: in a well-formed netlist a net that a cell drives follows no pin, unless the cell is a three-state gate
abbrev pub DrivenIsInside : Type 0
DrivenIsInside = (N : NetlistView) → IsWellFormed N → (i : ℕ) (cell : CellView) (net : ℕ) → Drives N i cell net → is_three_state cell.kind ≡ false
    → follows_pin (direction N.ports net) ≡ false
