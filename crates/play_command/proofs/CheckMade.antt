-- What is known of `check` from its parts.
use Rattle.std.proofs.Common.{◌≡◌, ℕ, Result, Ok, Err, IfOk, IfErr, List}
use Rattle.verilog_texts.specs.TextOutcome.{IsReadAs}
use Rattle.verilog_tree.specs.declared.tree.Module.{Module}
use Rattle.cell_library.specs.declared.listed.ListedCell.{ListedCell}
use Rattle.cell_library.specs.Sound.{IsLibrary}
use Rattle.netlist_link.specs.Linked.{LinkedView}
use Rattle.netlist_link.specs.Links.{IsLinkOf}
use Rattle.bsdl_device.specs.declared.meaning.MeaningKind.{MeaningKind}
use Rattle.bsdl_device.specs.declared.meaning.MeaningKind.TheVariants.{Ports}
use Rattle.bsdl_device.specs.declared.values.Device.{Device}
use Rattle.bsdl_device.specs.declared.fault.DeviceTextFault.{DeviceTextFault}
use Rattle.bsdl_device.specs.declared.fault.DeviceTextFault.TheVariants as device
use Rattle.bsdl_values.specs.TextOutcome.{IsDeviceReadAs}
use Rattle.bsdl_values.specs.TextFaults.{IsDeviceTextFault}
use Rattle.conformance_report.specs.declared.checks.line_check.Checked.{Checked}
use Rattle.command_faults.specs.declared.fault.Fault.{Fault}
use Rattle.command_faults.specs.declared.fault.Fault.TheVariants as fault
use Rattle.command_edges.specs.Spelled.{StandsInNetlist}
use Rattle.play_command.specs.Checks.{SpellsLinked, SpellsOneDevice, IsCheck}
use Rattle.play_command.specs.CheckFaults.{StandsInDeviceFor, IsCheckOf, StandsInOthers, StandsInAll}
use Rattle.play_command.proofs.DeviceKinds.{no_ports_fault}

-- The netlist and the device.

pub linked_made : (library : List ListedCell) (net : List ℕ) (tree : Module) (linked : LinkedView) → IsLibrary library → IsReadAs net tree → linked.arena.lists.library ≡ library
    → IsLinkOf tree linked → SpellsLinked library net linked
linked_made library net tree linked listed read is links =
    record { tree = tree; spells = read.spells; only = read.only; listed = listed; library_is = is; links = links }

pub device_made : (text : List ℕ) (d : Device) → IsDeviceReadAs text d → SpellsOneDevice text d
device_made text d read = record { spells = read.spells; only = read.only }

-- a fault of a device's text is one at each netlist
pub text_fault_made : (linked : LinkedView) (text : List ℕ) (f : DeviceTextFault) → IsDeviceTextFault text f → StandsInDeviceFor linked text f
text_fault_made linked text (device.BsdlWord place) bad = bad
text_fault_made linked text (device.BsdlSyntax place word) bad = bad
text_fault_made linked text (device.BsdlMeaning kind place) bad = of_kind kind bad
  where
    of_kind : (k : MeaningKind) → IsDeviceTextFault text (device.BsdlMeaning k place) → StandsInDeviceFor linked text (device.BsdlMeaning k place)
    of_kind Ports bad = absurd (no_ports_fault text place bad)
    of_kind k bad = bad
text_fault_made linked text device.OutOfMemory bad = bad

-- From a netlist to its bytes.

check_made : (library : List ListedCell) (net text events put : List ℕ) (missed : ℕ) (linked : LinkedView) → SpellsLinked library net linked → IsCheckOf linked text events put missed → IsCheck library net text events put missed
check_made library net text events put missed linked netlist c = record {
  linked = linked;
  netlist = netlist;
  device = c.device;
  spells_device = c.is.spells;
  agree = c.is.agree;
  lines = c.lines;
  spells_lines = c.spells_lines;
  checked = c.checked;
}

rest_stands : (library : List ListedCell) (net text events : List ℕ) (linked : LinkedView) (f : Fault) → SpellsLinked library net linked → StandsInOthers linked text events f → StandsInAll library net text events f
rest_stands library net text events linked (fault.Netlist f) netlist stands = absurd stands
rest_stands library net text events linked (fault.Link f) netlist stands = absurd stands
rest_stands library net text events linked f netlist stands = record { linked = linked; netlist = netlist; stands = stands }

pub netlist_stands : (library : List ListedCell) (net text events : List ℕ) (f : Fault) → StandsInNetlist library net f → StandsInAll library net text events f
netlist_stands library net text events (fault.Netlist f) stands = stands
netlist_stands library net text events (fault.Link f) stands = stands
netlist_stands library net text events f stands = absurd stands

pub all_made : (r : Result Checked Fault) (library : List ListedCell) (net text events : List ℕ) (linked : LinkedView) → SpellsLinked library net linked → IfOk r (λ c. IsCheckOf linked text events c.text c.missed)
    → IfOk r (λ c. IsCheck library net text events c.text c.missed)
all_made (Ok c) library net text events linked netlist made = check_made library net text events c.text c.missed linked netlist made
all_made (Err f) library net text events linked netlist made = tt

pub all_fault : (r : Result Checked Fault) (library : List ListedCell) (net text events : List ℕ) (linked : LinkedView) → SpellsLinked library net linked → IfErr r (StandsInOthers linked text events)
    → IfErr r (StandsInAll library net text events)
all_fault (Ok c) library net text events linked netlist stands = tt
all_fault (Err f) library net text events linked netlist stands = rest_stands library net text events linked f netlist stands
