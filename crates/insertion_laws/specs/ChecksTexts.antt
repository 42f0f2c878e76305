-- A netlist and a BSDL text that belong together, and the events of the device's program.
-- IEEE Std 1149.1-2001: test access port, the annex on BSDL; IEEE Std 1364-2001 for the netlist. Plans and
-- programs are own.
use Rattle.std.specs.Prelude.{◌≡◌, ℕ, true, List}
use Rattle.verilog_tree.specs.declared.tree.Module.{Module}
use Rattle.verilog_tree.specs.Texts.{SpellsText}
use Rattle.cell_library.specs.declared.listed.ListedCell.{ListedCell}
use Rattle.cell_library.specs.Sound.{IsLibrary}
use Rattle.netlist_model.specs.Cones.{IsControlPort}
use Rattle.netlist_link.specs.Linked.{LinkedView, HidesNone, is_straight}
use Rattle.netlist_link.specs.Links.{IsLinkOf}
use Rattle.bsdl_device.specs.declared.values.Device.{Device}
use Rattle.bsdl_device.specs.Spelled.{SpellsText as SpellsDeviceText}
use Rattle.wrapped_chip.specs.Realises.{SameBit, Keeps, Realises}
use Rattle.plan_texts.specs.declared.plan.Plan.{Plan}
use Rattle.plan_fitting.specs.Names.{HasOpenNames}
use Rattle.plan_fitting.specs.Pins.{PinSeen}
use Rattle.plan_fitting.specs.Devices.{device_of}
use Rattle.plan_fitting.specs.FittingPlan.{IsFitting}
use Rattle.scan_vectors.specs.declared.lines.Lines.{Lines}
use Rattle.scan_vectors.specs.Grammar.{SpellsLines}
use Rattle.scan_programs.specs.Program.{program_of}
use Rattle.written_netlists.specs.Written.{spelt, tap_of}

-- a netlist that some text spells with this library, and in which nothing is hidden
pub record IsRead (library : List ListedCell) (text : List ℕ) (linked : LinkedView) : Type 0 where
  pub tree : Module
  pub spells : SpellsText text tree
  pub listed : IsLibrary library
  pub library_is : linked.arena.lists.library ≡ library
  pub links : IsLinkOf tree linked
  pub hides : HidesNone linked

-- the ports of the same numbers are hidden in both, under names that no word of a vector's bit is; and a hidden control
-- port of the core is one of the netlist
pub record HidesSame (linked core : LinkedView) : Type 0 where
  pub numbers : (number : ℕ) → is_straight linked number ≡ is_straight core number
  pub open_names : HasOpenNames linked
  pub controls : (net there : ℕ) (same : SameBit linked.arena.lists core.arena.lists net there) → is_straight linked same.port ≡ true
      → IsControlPort core.arena.lists net → IsControlPort linked.arena.lists there

-- The netlist keeps the ports and the cells of one that a plan fits, with the plan's test access port behind the ports,
-- and it behaves as that one wrapped in the test logic of the plan's device. What else it holds is free.
pub record KeepsAndRealises (linked : LinkedView) (device : Device) : Type 0 where
  pub core : LinkedView
  pub plan : Plan
  pub seen : List PinSeen
  pub fits : IsFitting core plan seen
  pub device_is : device ≡ device_of core plan seen
  pub hides : HidesSame linked core
  pub keeps : Keeps linked.arena.lists core.arena.lists (spelt linked.names) (spelt core.names) (tap_of plan)
  pub realises : Realises linked.arena.lists device core.arena.lists

-- The netlist's text spells such a netlist with the library, and the BSDL text its device, each in any spelling.
pub record BelongTogether (library : List ListedCell) (netlist bsdl : List ℕ) : Type 0 where
  pub linked : LinkedView
  pub read : IsRead library netlist linked
  pub device : Device
  pub spells : SpellsDeviceText bsdl device
  pub chip : KeepsAndRealises linked device

-- The text of events spells, in any spelling, the lines of the program of the device that the BSDL text spells.
pub record SpellsProgram (bsdl events : List ℕ) : Type 0 where
  pub device : Device
  pub spells : SpellsDeviceText bsdl device
  pub lines : Lines
  pub spelled : SpellsLines events lines
  pub program : lines.list ≡ program_of device
