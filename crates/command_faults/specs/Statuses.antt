-- The status with which a command ends by each fault, and its number. Own.
use Rattle.std.specs.Prelude.{ℕ}
use Rattle.command_faults.specs.declared.fault.Fault.{Fault}
use Rattle.command_faults.specs.declared.fault.Fault.TheVariants as fault
use Rattle.command_faults.specs.declared.status.Status.{Status}
use Rattle.command_faults.specs.declared.status.Status.TheVariants as status
use Rattle.verilog_texts.specs.declared.fault.TextFault.{TextFault}
use Rattle.verilog_texts.specs.declared.fault.TextFault.TheVariants as text
use Rattle.hier_model.specs.declared.fault.HierFault.{HierFault}
use Rattle.hier_model.specs.declared.fault.HierFault.TheVariants as hier
use Rattle.box_model.specs.declared.fault.BoxFault.{BoxFault}
use Rattle.box_model.specs.declared.fault.BoxFault.TheVariants as box
use Rattle.link_model.specs.declared.fault.LinkFault.{LinkFault}
use Rattle.link_model.specs.declared.fault.LinkFault.TheVariants as link
use Rattle.cell_text.specs.declared.fault.LibFault.{LibFault}
use Rattle.cell_text.specs.declared.fault.LibFault.TheVariants as library
use Rattle.scan_vectors.specs.declared.fault.EventFault.{EventFault}
use Rattle.scan_vectors.specs.declared.fault.EventFault.TheVariants as event
use Rattle.scan_vectors.specs.declared.scripts.fault.ScriptFault.{ScriptFault}
use Rattle.scan_vectors.specs.declared.scripts.fault.ScriptFault.TheVariants as script
use Rattle.bsdl_device.specs.declared.fault.DeviceTextFault.{DeviceTextFault}
use Rattle.bsdl_device.specs.declared.fault.DeviceTextFault.TheVariants as device
use Rattle.bsdl_values.specs.declared.register_texts.fault.ExtendedTextFault.{ExtendedTextFault}
use Rattle.bsdl_values.specs.declared.register_texts.fault.ExtendedTextFault.TheVariants as extended
use Rattle.plan_texts.specs.declared.fault.PlanFault.{PlanFault}
use Rattle.plan_texts.specs.declared.fault.PlanFault.TheVariants as plan
use Rattle.plan_fitting.specs.declared.fault.FitFault.{FitFault}
use Rattle.plan_fitting.specs.declared.fault.FitFault.TheVariants as fit
use Rattle.status_fitting.specs.declared.register_texts.fault.StatusFault.{StatusFault}
use Rattle.status_fitting.specs.declared.register_texts.fault.StatusFault.TheVariants as registers

abbrev pub text_status : TextFault → Status
text_status text.OutOfMemory = status.Memory
text_status f = status.Refused

abbrev pub hier_status : HierFault → Status
hier_status hier.OutOfMemory = status.Memory
hier_status f = status.Refused

abbrev pub box_status : BoxFault → Status
box_status box.OutOfMemory = status.Memory
box_status f = status.Refused

abbrev pub link_status : LinkFault → Status
link_status link.OutOfMemory = status.Memory
link_status f = status.Refused

abbrev pub library_status : LibFault → Status
library_status library.OutOfMemory = status.Memory
library_status f = status.Refused

abbrev pub event_status : EventFault → Status
event_status event.OutOfMemory = status.Memory
event_status f = status.Refused

abbrev pub script_status : ScriptFault → Status
script_status script.OutOfMemory = status.Memory
script_status f = status.Refused

abbrev pub device_status : DeviceTextFault → Status
device_status device.OutOfMemory = status.Memory
device_status f = status.Refused

abbrev pub extended_status : ExtendedTextFault → Status
extended_status extended.OutOfMemory = status.Memory
extended_status f = status.Refused

abbrev pub plan_status : PlanFault → Status
plan_status plan.OutOfMemory = status.Memory
plan_status f = status.Refused

abbrev pub fit_status : FitFault → Status
fit_status fit.OutOfMemory = status.Memory
fit_status f = status.Refused

abbrev pub registers_status : StatusFault → Status
registers_status registers.OutOfMemory = status.Memory
registers_status f = status.Refused

abbrev pub status_of : Fault → Status
status_of fault.Usage = status.Usage
status_of (fault.SameName name) = status.Usage
status_of (fault.ReadFault name) = status.ReadFault
status_of (fault.TooLong name) = status.Refused
status_of (fault.Netlist f) = text_status f
status_of (fault.Hier f) = hier_status f
status_of (fault.Boxes f) = box_status f
status_of (fault.Link f) = link_status f
status_of (fault.Library f) = library_status f
status_of (fault.Events f) = event_status f
status_of (fault.Script f) = script_status f
status_of (fault.Device f) = device_status f
status_of (fault.Extended f) = extended_status f
status_of (fault.Plan f) = plan_status f
status_of (fault.Fit f) = fit_status f
status_of (fault.Registers f) = registers_status f
status_of (fault.TooMany what count limit) = status.Refused
status_of fault.NotInserted = status.Refused
status_of fault.OutOfMemory = status.Memory
status_of (fault.WriteFault name) = status.WriteFault

-- the number with which the program ends
abbrev pub exit_number : Status → ℕ
exit_number status.Done = 0
exit_number status.Refused = 1
exit_number status.Usage = 2
exit_number status.Memory = 3
exit_number status.ReadFault = 4
exit_number status.WriteFault = 5
exit_number status.Missed = 6
