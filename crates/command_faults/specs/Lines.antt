-- The line of each fault: its name and its fields, with one blank between them, and LF. Own.
use Rattle.std.specs.Prelude.{ℕ, List, [], ◌∷◌, map, codes}
use Rattle.std.specs.Fmt.{decimal}
use Rattle.link_model.specs.declared.fault.BitName.{BitName}
use Rattle.link_model.specs.declared.fault.LinkFault.{LinkFault}
use Rattle.link_model.specs.declared.fault.LinkFault.TheVariants as link
use Rattle.box_model.specs.declared.fault.BoxFault.{BoxFault}
use Rattle.box_model.specs.declared.fault.BoxFault.TheVariants as box
use Rattle.hier_model.specs.declared.fault.HierFault.{HierFault}
use Rattle.hier_model.specs.declared.fault.HierFault.TheVariants as hier
use Rattle.verilog_texts.specs.declared.fault.TextFault.{TextFault}
use Rattle.verilog_texts.specs.declared.fault.TextFault.TheVariants as text
use Rattle.cell_text.specs.declared.fault.LibFault.{LibFault}
use Rattle.cell_text.specs.declared.fault.LibFault.TheVariants as library
use Rattle.scan_vectors.specs.declared.fault.EventFault.{EventFault}
use Rattle.scan_vectors.specs.declared.fault.EventFault.TheVariants as event
use Rattle.scan_vectors.specs.declared.scripts.fault.ScriptFault.{ScriptFault}
use Rattle.scan_vectors.specs.declared.scripts.fault.ScriptFault.TheVariants as script
use Rattle.bsdl_device.specs.declared.fault.DeviceTextFault.{DeviceTextFault}
use Rattle.bsdl_device.specs.declared.fault.DeviceTextFault.TheVariants as device
use Rattle.bsdl_values.specs.declared.register_texts.fault.ExtendedTextFault.{ExtendedTextFault}
use Rattle.bsdl_values.specs.declared.register_texts.fault.ExtendedTextFault.TheVariants as extended
use Rattle.plan_texts.specs.declared.fault.PlanFault.{PlanFault}
use Rattle.plan_texts.specs.declared.fault.PlanFault.TheVariants as plan
use Rattle.plan_fitting.specs.declared.fault.FitFault.{FitFault}
use Rattle.plan_fitting.specs.declared.fault.FitFault.TheVariants as fit
use Rattle.status_fitting.specs.declared.register_texts.fault.StatusFault.{StatusFault}
use Rattle.status_fitting.specs.declared.register_texts.fault.StatusFault.TheVariants as registers
use Rattle.output_lines.specs.Lines.{bit_text, words_line}
use Rattle.command_faults.specs.declared.fault.Fault.{Fault}
use Rattle.command_faults.specs.declared.fault.Fault.TheVariants as fault
use Rattle.command_faults.specs.Words.{what_word, hier_word, kind_word}

abbrev pub memory_line : List ℕ
memory_line = words_line (codes "OutOfMemory") []

-- a fault with one name
abbrev pub named_line : List ℕ → List ℕ → List ℕ
named_line fault name = words_line fault (name ∷ [])

-- a fault at a bit, as `name` or `name[index]`
abbrev pub bit_line : List ℕ → BitName → List ℕ
bit_line fault bit = words_line fault (bit_text bit.name bit.index ∷ [])

-- a fault of an instance's port
abbrev pub port_line : List ℕ → List ℕ → List ℕ → List ℕ
port_line fault instance port = words_line fault (instance ∷ port ∷ [])

-- a fault at a place, by its offset
abbrev pub place_line : List ℕ → ℕ → List ℕ
place_line fault place = words_line fault (decimal place ∷ [])

-- a fault at a word, by its offset and its number
abbrev pub word_line : List ℕ → ℕ → ℕ → List ℕ
word_line fault place word = words_line fault (decimal place ∷ decimal word ∷ [])

-- what there is too many of, how many there are, and how many there may be
abbrev pub many_line : List ℕ → ℕ → ℕ → List ℕ
many_line what count limit = words_line (codes "TooMany") (what ∷ decimal count ∷ decimal limit ∷ [])

abbrev pub text_line : TextFault → List ℕ
text_line (text.BadWord place) = place_line (codes "BadWord") place
text_line (text.BadSyntax place word) = word_line (codes "BadSyntax") place word
text_line text.OutOfMemory = memory_line

abbrev pub hier_line : HierFault → List ℕ
hier_line (hier.ModuleTwice name) = named_line (codes "ModuleTwice") name
hier_line (hier.ModuleMissing name) = named_line (codes "ModuleMissing") name
hier_line (hier.ModuleRecursive name) = named_line (codes "ModuleRecursive") name
hier_line (hier.TooMany what count limit) = many_line (hier_word what) count limit
hier_line (hier.ModuleLink instance port) = port_line (codes "ModuleLink") instance port
hier_line (hier.FlatName name) = named_line (codes "FlatName") name
hier_line hier.OutOfMemory = memory_line

abbrev pub link_line : LinkFault → List ℕ
link_line (link.NameTwice name) = named_line (codes "NameTwice") name
link_line (link.NameUnknown name) = named_line (codes "NameUnknown") name
link_line (link.BitOutside name index) = words_line (codes "BitOutside") (name ∷ decimal index ∷ [])
link_line (link.CellUnknown name) = named_line (codes "CellUnknown") name
link_line (link.PortUnknown instance port) = port_line (codes "PortUnknown") instance port
link_line (link.PortMissing instance port) = port_line (codes "PortMissing") instance port
link_line (link.PortTwice instance port) = port_line (codes "PortTwice") instance port
link_line (link.WrongWidth name) = named_line (codes "WrongWidth") name
link_line (link.TwoDrivers bit) = bit_line (codes "TwoDrivers") bit
link_line (link.InputDriven bit) = bit_line (codes "InputDriven") bit
link_line (link.NotDriven bit) = bit_line (codes "NotDriven") bit
link_line (link.TristateInside bit) = bit_line (codes "TristateInside") bit
link_line (link.TristateRead bit) = bit_line (codes "TristateRead") bit
link_line (link.InoutNotTristate bit) = bit_line (codes "InoutNotTristate") bit
link_line (link.Loop numbers) = words_line (codes "Loop") (map decimal numbers)
link_line (link.DerivedClock flop net) = words_line (codes "DerivedClock") (flop ∷ bit_text net.name net.index ∷ [])
link_line (link.TooMany what count limit) = many_line (what_word what) count limit
link_line link.OutOfMemory = memory_line

abbrev pub box_line : BoxFault → List ℕ
box_line (box.BoxUnknown instance) = named_line (codes "BoxUnknown") instance
box_line (box.BoxLink instance port) = port_line (codes "BoxLink") instance port
box_line (box.BoxName name) = named_line (codes "BoxName") name
box_line (box.BoxTristate bit) = bit_line (codes "BoxTristate") bit
box_line box.OutOfMemory = memory_line

abbrev pub library_line : LibFault → List ℕ
library_line (library.LibLine line) = place_line (codes "LibLine") line
library_line (library.TooMany count) = words_line (codes "TooMany") (codes "listed" ∷ decimal count ∷ decimal 4096 ∷ [])
library_line (library.LibName name) = named_line (codes "LibName") name
library_line (library.LibBody name) = named_line (codes "LibBody") name
library_line library.OutOfMemory = memory_line

abbrev pub event_line : EventFault → List ℕ
event_line (event.EventLine line) = place_line (codes "EventLine") line
event_line (event.TooMany what count limit) = many_line (what_word what) count limit
event_line event.OutOfMemory = memory_line

abbrev pub script_line : ScriptFault → List ℕ
script_line (script.EventIllegal line) = place_line (codes "EventIllegal") line
script_line script.OutOfMemory = memory_line

abbrev pub device_line : DeviceTextFault → List ℕ
device_line (device.BsdlWord place) = place_line (codes "BsdlWord") place
device_line (device.BsdlSyntax place word) = word_line (codes "BsdlSyntax") place word
device_line (device.BsdlMeaning kind place) = words_line (codes "BsdlMeaning") (kind_word kind ∷ decimal place ∷ [])
device_line device.OutOfMemory = memory_line

abbrev pub extended_line : ExtendedTextFault → List ℕ
extended_line (extended.BsdlWord place) = place_line (codes "BsdlWord") place
extended_line (extended.BsdlSyntax place word) = word_line (codes "BsdlSyntax") place word
extended_line (extended.BsdlMeaning kind place) = words_line (codes "BsdlMeaning") (kind_word kind ∷ decimal place ∷ [])
extended_line (extended.BsdlExtra place) = place_line (codes "BsdlExtra") place
extended_line extended.OutOfMemory = memory_line

abbrev pub plan_line : PlanFault → List ℕ
plan_line (plan.PlanLine line) = place_line (codes "PlanLine") line
plan_line (plan.PlanTwice word) = named_line (codes "PlanTwice") word
plan_line (plan.PlanOpcode word) = named_line (codes "PlanOpcode") word
plan_line plan.PlanIdcode = words_line (codes "PlanIdcode") []
plan_line plan.PlanUsercode = words_line (codes "PlanUsercode") []
plan_line (plan.PlanInstruction word) = named_line (codes "PlanInstruction") word
plan_line plan.OutOfMemory = memory_line

abbrev pub fit_line : FitFault → List ℕ
fit_line (fit.PlanPort word) = named_line (codes "PlanPort") word
fit_line (fit.PlanPortMissing word) = named_line (codes "PlanPortMissing") word
fit_line (fit.PlanTwice word) = named_line (codes "PlanTwice") word
fit_line (fit.PlanCell word) = named_line (codes "PlanCell") word
fit_line (fit.PlanName word) = named_line (codes "PlanName") word
fit_line (fit.PrefixTaken word) = named_line (codes "PrefixTaken") word
fit_line fit.OutOfMemory = memory_line

abbrev pub registers_line : StatusFault → List ℕ
registers_line (registers.StatusLine line) = place_line (codes "StatusLine") line
registers_line (registers.StatusName word) = named_line (codes "StatusName") word
registers_line (registers.StatusNet word) = named_line (codes "StatusNet") word
registers_line (registers.StatusOpcode word) = named_line (codes "StatusOpcode") word
registers_line registers.OutOfMemory = memory_line

abbrev pub line_of : Fault → List ℕ
line_of fault.Usage = words_line (codes "Usage") []
line_of (fault.SameName name) = named_line (codes "SameName") name.now
line_of (fault.ReadFault name) = named_line (codes "ReadFault") name.now
line_of (fault.TooLong name) = named_line (codes "TooLong") name.now
line_of (fault.Netlist f) = text_line f
line_of (fault.Hier f) = hier_line f
line_of (fault.Boxes f) = box_line f
line_of (fault.Link f) = link_line f
line_of (fault.Library f) = library_line f
line_of (fault.Events f) = event_line f
line_of (fault.Script f) = script_line f
line_of (fault.Device f) = device_line f
line_of (fault.Extended f) = extended_line f
line_of (fault.Plan f) = plan_line f
line_of (fault.Fit f) = fit_line f
line_of (fault.Registers f) = registers_line f
line_of (fault.TooMany what count limit) = many_line (what_word what) count limit
line_of fault.NotInserted = words_line (codes "NotInserted") []
line_of fault.OutOfMemory = memory_line
line_of (fault.WriteFault name) = named_line (codes "WriteFault") name.now
