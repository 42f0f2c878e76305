-- No fault has the status of a command that came to its end.
use Rattle.std.proofs.Common.{inl, inr}
use Rattle.command_faults.specs.declared.fault.Fault.{Fault}
use Rattle.command_faults.specs.declared.fault.Fault.TheVariants as fault
use Rattle.command_faults.specs.declared.status.Status.TheVariants as status
use Rattle.command_faults.specs.Statuses.{status_of, text_status, hier_status, box_status, link_status, library_status, event_status, script_status, device_status, extended_status, plan_status, fit_status, registers_status}
use Rattle.verilog_texts.specs.declared.fault.TextFault.{TextFault}
use Rattle.verilog_texts.specs.declared.fault.TextFault.TheVariants as text
use Rattle.hier_model.specs.declared.fault.HierFault.{HierFault}
use Rattle.hier_model.specs.declared.fault.HierFault.TheVariants as hier
use Rattle.box_model.specs.declared.fault.BoxFault.{BoxFault}
use Rattle.box_model.specs.declared.fault.BoxFault.TheVariants as box
use Rattle.link_model.specs.declared.fault.LinkFault.{LinkFault}
use Rattle.link_model.specs.declared.fault.LinkFault.TheVariants as link
use Rattle.cell_text.specs.declared.fault.LibFault.{LibFault}
use Rattle.cell_text.specs.declared.fault.LibFault.TheVariants as library
use Rattle.scan_vectors.specs.declared.fault.EventFault.{EventFault}
use Rattle.scan_vectors.specs.declared.fault.EventFault.TheVariants as event
use Rattle.scan_vectors.specs.declared.scripts.fault.ScriptFault.{ScriptFault}
use Rattle.scan_vectors.specs.declared.scripts.fault.ScriptFault.TheVariants as script
use Rattle.bsdl_device.specs.declared.fault.DeviceTextFault.{DeviceTextFault}
use Rattle.bsdl_device.specs.declared.fault.DeviceTextFault.TheVariants as device
use Rattle.bsdl_values.specs.declared.register_texts.fault.ExtendedTextFault.{ExtendedTextFault}
use Rattle.bsdl_values.specs.declared.register_texts.fault.ExtendedTextFault.TheVariants as extended
use Rattle.plan_texts.specs.declared.fault.PlanFault.{PlanFault}
use Rattle.plan_texts.specs.declared.fault.PlanFault.TheVariants as plan
use Rattle.plan_fitting.specs.declared.fault.FitFault.{FitFault}
use Rattle.plan_fitting.specs.declared.fault.FitFault.TheVariants as fit
use Rattle.status_fitting.specs.declared.register_texts.fault.StatusFault.{StatusFault}
use Rattle.status_fitting.specs.declared.register_texts.fault.StatusFault.TheVariants as registers
use Rattle.command_edges.specs.Ends.{IsEnd}

memory_apart : IsEnd status.Memory → ⊥
memory_apart (inl e) = cc
memory_apart (inr e) = cc

refused_apart : IsEnd status.Refused → ⊥
refused_apart (inl e) = cc
refused_apart (inr e) = cc

usage_apart : IsEnd status.Usage → ⊥
usage_apart (inl e) = cc
usage_apart (inr e) = cc

read_apart : IsEnd status.ReadFault → ⊥
read_apart (inl e) = cc
read_apart (inr e) = cc

write_apart : IsEnd status.WriteFault → ⊥
write_apart (inl e) = cc
write_apart (inr e) = cc

text_apart : (f : TextFault) → IsEnd (text_status f) → ⊥
text_apart text.OutOfMemory end = memory_apart end
text_apart f end = refused_apart end

hier_apart : (f : HierFault) → IsEnd (hier_status f) → ⊥
hier_apart hier.OutOfMemory end = memory_apart end
hier_apart f end = refused_apart end

box_apart : (f : BoxFault) → IsEnd (box_status f) → ⊥
box_apart box.OutOfMemory end = memory_apart end
box_apart f end = refused_apart end

link_apart : (f : LinkFault) → IsEnd (link_status f) → ⊥
link_apart link.OutOfMemory end = memory_apart end
link_apart f end = refused_apart end

library_apart : (f : LibFault) → IsEnd (library_status f) → ⊥
library_apart library.OutOfMemory end = memory_apart end
library_apart f end = refused_apart end

event_apart : (f : EventFault) → IsEnd (event_status f) → ⊥
event_apart event.OutOfMemory end = memory_apart end
event_apart f end = refused_apart end

script_apart : (f : ScriptFault) → IsEnd (script_status f) → ⊥
script_apart script.OutOfMemory end = memory_apart end
script_apart f end = refused_apart end

device_apart : (f : DeviceTextFault) → IsEnd (device_status f) → ⊥
device_apart device.OutOfMemory end = memory_apart end
device_apart f end = refused_apart end

extended_apart : (f : ExtendedTextFault) → IsEnd (extended_status f) → ⊥
extended_apart extended.OutOfMemory end = memory_apart end
extended_apart f end = refused_apart end

plan_apart : (f : PlanFault) → IsEnd (plan_status f) → ⊥
plan_apart plan.OutOfMemory end = memory_apart end
plan_apart f end = refused_apart end

fit_apart : (f : FitFault) → IsEnd (fit_status f) → ⊥
fit_apart fit.OutOfMemory end = memory_apart end
fit_apart f end = refused_apart end

registers_apart : (f : StatusFault) → IsEnd (registers_status f) → ⊥
registers_apart registers.OutOfMemory end = memory_apart end
registers_apart f end = refused_apart end

pub fault_apart : (f : Fault) → IsEnd (status_of f) → ⊥
fault_apart fault.Usage end = usage_apart end
fault_apart (fault.SameName name) end = usage_apart end
fault_apart (fault.ReadFault name) end = read_apart end
fault_apart (fault.TooLong name) end = refused_apart end
fault_apart (fault.Netlist f) end = text_apart f end
fault_apart (fault.Hier f) end = hier_apart f end
fault_apart (fault.Boxes f) end = box_apart f end
fault_apart (fault.Link f) end = link_apart f end
fault_apart (fault.Library f) end = library_apart f end
fault_apart (fault.Events f) end = event_apart f end
fault_apart (fault.Script f) end = script_apart f end
fault_apart (fault.Device f) end = device_apart f end
fault_apart (fault.Extended f) end = extended_apart f end
fault_apart (fault.Plan f) end = plan_apart f end
fault_apart (fault.Fit f) end = fit_apart f end
fault_apart (fault.Registers f) end = registers_apart f end
fault_apart (fault.TooMany what count limit) end = refused_apart end
fault_apart fault.NotInserted end = refused_apart end
fault_apart fault.OutOfMemory end = memory_apart end
fault_apart (fault.WriteFault name) end = write_apart end
