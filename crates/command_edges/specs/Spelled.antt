-- What the bytes of a text spell, for every command that reads it.
-- IEEE Std 1364-2001 for netlists, IEEE Std 1149.1-2001 (the annex on BSDL) for devices; the texts of events are own.
use Rattle.std.specs.Prelude.{ℕ, List}
use Rattle.verilog_tree.specs.declared.tree.Module.{Module}
use Rattle.verilog_tree.specs.Texts as verilog
use Rattle.verilog_texts.specs.TextFaults.{IsTextFault}
use Rattle.cell_library.specs.declared.listed.ListedCell.{ListedCell}
use Rattle.link_model.specs.Late.{IsLinkable}
use Rattle.netlist_link.specs.Links.{HasLinkFault}
use Rattle.bsdl_device.specs.declared.values.Device.{Device}
use Rattle.bsdl_device.specs.Spelled as bsdl
use Rattle.command_faults.specs.declared.fault.Fault.{Fault}
use Rattle.command_faults.specs.declared.fault.Fault.TheVariants as fault

-- own: the fault stands in the bytes of a netlist, with this library
abbrev pub StandsInNetlist : List ListedCell → List ℕ → Fault → Type 0
StandsInNetlist library net (fault.Netlist f) = IsTextFault net f
StandsInNetlist library net (fault.Link f) = HasLinkFault library f net
StandsInNetlist library net f = ⊥

-- own: the netlist's bytes spell a tree that can be linked with this library
pub record SpellsLinkable (library : List ListedCell) (net : List ℕ) : Type 0 where
  pub tree : Module
  pub spells : verilog.SpellsText net tree
  pub linkable : IsLinkable library tree

-- own: the bytes spell a device
abbrev pub SpellsSomeDevice : List ℕ → Type 0
SpellsSomeDevice text = (device : Device) × bsdl.SpellsText text device
