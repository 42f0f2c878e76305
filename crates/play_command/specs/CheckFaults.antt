-- When each fault stands in the texts of a netlist, of a device and of events: the netlist is looked at first, then the
-- device, then whether their ports agree, then the events. Own.
use Rattle.std.specs.Prelude.{◌≡◌, ℕ, List}
use Rattle.verilog_texts.specs.TextFaults.{IsTextFault}
use Rattle.cell_library.specs.declared.listed.ListedCell.{ListedCell}
use Rattle.netlist_link.specs.Linked.{LinkedView}
use Rattle.bsdl_device.specs.declared.meaning.MeaningKind.TheVariants.{Ports}
use Rattle.bsdl_device.specs.declared.values.Device.{Device}
use Rattle.bsdl_device.specs.declared.fault.DeviceTextFault.{DeviceTextFault}
use Rattle.bsdl_device.specs.declared.fault.DeviceTextFault.TheVariants.{BsdlMeaning}
use Rattle.bsdl_values.specs.TextFaults.{IsDeviceTextFault}
use Rattle.scan_vectors.specs.declared.lines.Lines.{Lines}
use Rattle.scan_vectors.specs.Grammar.{SpellsLines}
use Rattle.scan_vectors.specs.Faults.{IsFault}
use Rattle.scan_vectors.specs.declared.scripts.fault.ScriptFault.{ScriptFault}
use Rattle.conformance_report.specs.Agreement.{PortsAgree}
use Rattle.conformance_report.specs.Rules.{IsLinesFault}
use Rattle.conformance_report.specs.ChecksLaws.{IsChecked}
use Rattle.command_faults.specs.declared.fault.Fault.{Fault}
use Rattle.command_faults.specs.declared.fault.Fault.TheVariants as fault
use Rattle.netlist_link.specs.Links.{HasLinkFault}
pub use Rattle.command_edges.specs.Spelled.{StandsInNetlist}
use Rattle.play_command.specs.Checks.{SpellsLinked, SpellsOneDevice}

-- the bytes spell one device, whose ports are the netlist's
pub record IsDeviceFor (linked : LinkedView) (text : List ℕ) (device : Device) : Type 0 where
  pub spells : SpellsOneDevice text device
  pub agree : PortsAgree linked device

-- the bytes spell one device, whose ports aren't the netlist's
pub record IsDeviceApart (linked : LinkedView) (text : List ℕ) : Type 0 where
  pub device : Device
  pub spells : SpellsOneDevice text device
  pub differ : PortsAgree linked device → ⊥

-- the fault stands in the bytes of a device at this netlist
abbrev pub StandsInDeviceFor : LinkedView → List ℕ → DeviceTextFault → Type 0
StandsInDeviceFor linked text (BsdlMeaning Ports place) = (place ≡ 0) × IsDeviceApart linked text
StandsInDeviceFor linked text f = IsDeviceTextFault text f

-- what a check of this netlist comes to
pub record IsCheckOf (linked : LinkedView) (text events put : List ℕ) (missed : ℕ) : Type 0 where
  pub device : Device
  pub is : IsDeviceFor linked text device
  pub lines : Lines
  pub spells_lines : SpellsLines events lines
  pub checked : IsChecked linked device lines put missed

-- the bytes spell one device for this netlist
abbrev pub HasDeviceFor : LinkedView → List ℕ → Type 0
HasDeviceFor linked text = (device : Device) × IsDeviceFor linked text device

-- the lines of the events have this fault at this netlist
pub record HasFaultAt (linked : LinkedView) (text events : List ℕ) (f : ScriptFault) : Type 0 where
  pub device : Device
  pub is : IsDeviceFor linked text device
  pub lines : Lines
  pub spells_lines : SpellsLines events lines
  pub fault : IsLinesFault linked device lines f

-- the fault stands in the bytes of a device and of events at this netlist
abbrev pub StandsInOthers : LinkedView → List ℕ → List ℕ → Fault → Type 0
StandsInOthers linked text events (fault.Device f) = StandsInDeviceFor linked text f
StandsInOthers linked text events (fault.Events f) = HasDeviceFor linked text × IsFault events f
StandsInOthers linked text events (fault.Script f) = HasFaultAt linked text events f
StandsInOthers linked text events f = ⊥

-- the fault stands in the bytes of a device and of events at the netlist that these bytes spell
pub record StandsInRest (library : List ListedCell) (net text events : List ℕ) (f : Fault) : Type 0 where
  pub linked : LinkedView
  pub netlist : SpellsLinked library net linked
  pub stands : StandsInOthers linked text events f

-- the fault stands in the bytes of a netlist, with this library, of a device and of events
abbrev pub StandsInAll : List ListedCell → List ℕ → List ℕ → List ℕ → Fault → Type 0
StandsInAll library net text events (fault.Netlist f) = IsTextFault net f
StandsInAll library net text events (fault.Link f) = HasLinkFault library f net
StandsInAll library net text events f = StandsInRest library net text events f
