-- When each fault of the texts of a netlist with test logic and of a device stands: the netlist is looked at first,
-- then the device, and then whether any netlist and plan give them. Own.
use Rattle.std.specs.Prelude.{ℕ, List}
use Rattle.verilog_tree.specs.declared.tree.Module.{Module}
use Rattle.verilog_tree.specs.Texts as verilog
use Rattle.verilog_texts.specs.TextFaults.{IsTextFault}
use Rattle.cell_library.specs.declared.listed.ListedCell.{ListedCell}
use Rattle.link_model.specs.Late.{IsLinkable}
use Rattle.netlist_link.specs.Links.{IsLinkFault, HasLinkFault}
use Rattle.bsdl_device.specs.declared.fault.DeviceTextFault.{DeviceTextFault}
use Rattle.bsdl_device.specs.declared.values.Device.{Device}
use Rattle.bsdl_values.specs.TextFaults.{IsDeviceTextFault}
use Rattle.command_faults.specs.declared.fault.Fault.{Fault}
use Rattle.command_faults.specs.declared.fault.Fault.TheVariants as fault
use Rattle.scan_strip.specs.strip_model.Answer.{IsNotInserted}
use Rattle.strip_command.specs.Strippings.{IsOther}

-- the fault stands in linking a tree with this library
abbrev pub StandsInTree : List ListedCell → Module → Fault → Type 0
StandsInTree library tree (fault.Link f) = IsLinkFault library tree f
StandsInTree library tree fault.OutOfMemory = Unit {0}
StandsInTree library tree f = ⊥

-- the fault stands in a tree and a device that are read: no netlist with the library, and no plan, give them
abbrev pub StandsInBoth : List ListedCell → Module → Device → Fault → Type 0
StandsInBoth library tree d fault.NotInserted = IsNotInserted library tree d
StandsInBoth library tree d fault.OutOfMemory = Unit {0}
StandsInBoth library tree d f = ⊥

-- the netlist's bytes spell a tree that can be linked with the library, and the fault stands in the bytes of the device
pub record HasDeviceFault (library : List ListedCell) (net text : List ℕ) (f : DeviceTextFault) : Type 0 where
  pub tree : Module
  pub spells : verilog.SpellsText net tree
  pub linkable : IsLinkable library tree
  pub fault : IsDeviceTextFault text f

abbrev pub StandsInInputs : List ListedCell → List ℕ → List ℕ → Fault → Type 0
StandsInInputs library net text (fault.Netlist f) = IsTextFault net f
StandsInInputs library net text (fault.Link f) = HasLinkFault library f net
StandsInInputs library net text (fault.Device f) = HasDeviceFault library net text f
StandsInInputs library net text fault.NotInserted = IsOther library net text
StandsInInputs library net text fault.OutOfMemory = Unit {0}
StandsInInputs library net text f = ⊥
