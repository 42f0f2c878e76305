-- What `check` makes of the bytes of a netlist, of a BSDL text and of events.
-- IEEE Std 1364-2001 for the netlist; IEEE Std 1149.1-2001 for the device: test access port, the annex on BSDL. The
-- texts of events and what a check puts are own.
use Rattle.std.specs.Prelude.{◌≡◌, ℕ, List}
use Rattle.verilog_tree.specs.declared.tree.Module.{Module}
use Rattle.verilog_tree.specs.Texts as verilog
use Rattle.cell_library.specs.declared.listed.ListedCell.{ListedCell}
use Rattle.cell_library.specs.Sound.{IsLibrary}
use Rattle.link_model.specs.Late.{IsLinkable}
use Rattle.netlist_link.specs.Linked.{LinkedView}
use Rattle.netlist_link.specs.Links.{IsLinkOf}
use Rattle.bsdl_device.specs.declared.values.Device.{Device}
use Rattle.bsdl_device.specs.Spelled as bsdl
use Rattle.scan_vectors.specs.declared.lines.Lines.{Lines}
use Rattle.scan_vectors.specs.Grammar.{SpellsLines}
use Rattle.scan_vectors.specs.Rules.{AreLegal}
use Rattle.conformance_report.specs.Agreement.{PortsAgree}
use Rattle.conformance_report.specs.Rules.{KeepsTapRule}
use Rattle.conformance_report.specs.ChecksLaws.{IsChecked}

-- The netlist's bytes spell one tree, which is linked with the library to this netlist.
pub record SpellsLinked (library : List ListedCell) (net : List ℕ) (linked : LinkedView) : Type 0 where
  pub tree : Module
  pub spells : verilog.SpellsText net tree
  pub only : (other : Module) → verilog.SpellsText net other → other ≡ tree
  pub listed : IsLibrary library
  pub library_is : linked.arena.lists.library ≡ library
  pub links : IsLinkOf tree linked

-- The bytes spell one device.
pub record SpellsOneDevice (text : List ℕ) (device : Device) : Type 0 where
  pub spells : bsdl.SpellsText text device
  pub only : (other : Device) → bsdl.SpellsText text other → other ≡ device

-- The netlist's bytes spell one netlist with the library, and the device's one device, whose ports are the netlist's;
-- the events' bytes spell lines that are legal for both; and the text is that of the check, in which so many
-- expectations aren't met.
pub record IsCheck (library : List ListedCell) (net text events put : List ℕ) (missed : ℕ) : Type 0 where
  pub linked : LinkedView
  pub netlist : SpellsLinked library net linked
  pub device : Device
  pub spells_device : SpellsOneDevice text device
  pub agree : PortsAgree linked device
  pub lines : Lines
  pub spells_lines : SpellsLines events lines
  pub checked : IsChecked linked device lines put missed

-- own: the ports of a netlist are the device's, and the lines are legal for both
pub record AreCheckable (linked : LinkedView) (device : Device) (lines : Lines) : Type 0 where
  pub agree : PortsAgree linked device
  pub legal : AreLegal linked lines
  pub kept : KeepsTapRule device lines.list

-- own: no fault stands in the bytes of the netlist, of the device and of the events
pub record IsCheckable (library : List ListedCell) (net text events : List ℕ) : Type 0 where
  pub tree : Module
  pub spells : verilog.SpellsText net tree
  pub linkable : IsLinkable library tree
  pub device : Device
  pub spells_device : bsdl.SpellsText text device
  pub lines : Lines
  pub spells_lines : SpellsLines events lines
  pub free : (linked : LinkedView) → linked.arena.lists.library ≡ library → IsLinkOf tree linked → AreCheckable linked device lines
