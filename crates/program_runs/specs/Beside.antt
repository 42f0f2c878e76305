-- When a linked netlist has the ports of a chip that a device describes.
-- IEEE Std 1149.1-2001: test access port; the annex on BSDL (logical port description). That both have them in
-- one order, and hidden ports, are own.
use Rattle.std.specs.Prelude.{◌≡◌, ◌≢◌, ℕ, ◌+◌, ◌<◌, nat_lt, true, false, length, slice_get, Some, None, if◌then◌else◌}
use Rattle.netlist_model.specs.declared.Dir.TheVariants.{Inout}
use Rattle.netlist_model.specs.Lists.{PortView, NetlistView, direction}
use Rattle.netlist_model.specs.Cones.{IsControlPort}
use Rattle.netlist_model.specs.Formed.{IsWellFormed}
use Rattle.netlist_link.specs.Linked.{LinkedView, is_straight}
use Rattle.netlist_link.specs.WellNamed.{IsWellNamed}
use Rattle.bsdl_device.specs.declared.values.PortMode.{PortMode}
use Rattle.bsdl_device.specs.declared.values.PortMode.TheVariants as mode
use Rattle.bsdl_device.specs.declared.values.DevPort.{DevPort}
use Rattle.bsdl_device.specs.declared.values.Device.{Device}
use Rattle.test_logic.specs.declared.TapInput.{TapInput}
use Rattle.wrapped_chip.specs.Cells.{row_of}
use Rattle.wrapped_chip.specs.Realises.{SameBit, tap_place}
use Rattle.plan_fitting.specs.Names.{HasOpenNames}
use Rattle.plan_fitting.specs.FittingPlan.{HasWidths}
use Rattle.scan_programs.specs.Met.{input_place}
use Rattle.conformance_report.specs.Agreement.{IsSamePort}
use Rattle.program_runs.specs.ScriptsWords.{ArePlain}

-- own: the number in the netlist of the port at this place of a device that has no hidden ports
abbrev pub place_there : LinkedView → ℕ → ℕ
place_there L place = if nat_lt place L.straight.first then place else place + L.straight.count

-- the netlist has a port with this direction and range there
pub record HasPortAs (M : NetlistView) (place : ℕ) (port : PortView) : Type 0 where
  pub image : PortView
  pub there : slice_get M.ports place ≡ Some image
  pub dir : image.dir ≡ port.dir
  pub range : image.range ≡ port.range

-- the device has a scalar port of this mode there
pub record HasScalarPort (B : Device) (place : ℕ) (side : PortMode) : Type 0 where
  pub port : DevPort
  pub there : slice_get B.ports place ≡ Some port
  pub mode_is : port.mode ≡ side
  pub scalar : port.range ≡ None

-- the netlist's port with this number is one of the device, which is no linkage
pub record HasInnerPort (L : LinkedView) (B : Device) (number : ℕ) : Type 0 where
  pub place : ℕ
  pub at : place_there L place ≡ number
  pub other : DevPort
  pub there : slice_get B.ports place ≡ Some other
  pub inside : other.mode ≢ mode.Linkage

-- Own: the netlist's ports but for hidden ones are those of the device but for linkage, in its order.
pub record IsDescribed (L : LinkedView) (B : Device) : Type 0 where
  pub named : IsWellNamed L.names L.arena.lists
  pub formed : IsWellFormed L.arena.lists
  pub wide : HasWidths L.arena.lists
  pub plain : ArePlain L
  pub open_names : HasOpenNames L
  pub inner : (number : ℕ) (port : PortView) → is_straight L number ≡ false → slice_get L.arena.lists.ports number ≡ Some port → HasInnerPort L B number
  pub ports : (place : ℕ) (other : DevPort) → slice_get B.ports place ≡ Some other → other.mode ≢ mode.Linkage → IsSamePort L (place_there L place) other
  pub input_is : (input : TapInput) → HasScalarPort B (input_place B input) mode.Input
  pub tdo_is : HasScalarPort B B.tdo mode.Output

-- own: a bit of a hidden port, by its net in N and in the netlist: no cell stands at it, it is no inout's, and it is a
-- control port of the netlist where it is one of N
pub record IsHiddenBeside (L : LinkedView) (B : Device) (N : NetlistView) (net there : ℕ) : Type 0 where
  pub none : row_of B N net ≡ None
  pub way : direction N.ports net ≢ Some Inout
  pub controls : IsControlPort N net → IsControlPort L.arena.lists there

-- Own: all its ports are those of N, hidden ones too, and then a test access port.
pub record IsBeside (L : LinkedView) (B : Device) (N : NetlistView) : Type 0 where
  pub described : IsDescribed L B
  pub wide : HasWidths N
  pub own : (place : ℕ) (port : PortView) → slice_get N.ports place ≡ Some port → HasPortAs L.arena.lists place port
  pub places : (number : ℕ) → number < length N.ports → is_straight L number ≡ false → place_there L number ≡ number
  pub hidden : (net there : ℕ) (same : SameBit L.arena.lists N net there) → is_straight L same.port ≡ true → IsHiddenBeside L B N net there
  pub input_at : (input : TapInput) → place_there L (input_place B input) ≡ length N.ports + tap_place input
  pub tdo_at : place_there L B.tdo ≡ length N.ports + 3
