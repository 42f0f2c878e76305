-- A number tells its kind.
use Rattle.std.proofs.Common.{◌≡◌, ◌↔◌, ◌==◌, ℕ, if◌then◌else◌, refl, sym, ap, ◌∙◌}
use Rattle.verilog_tree.specs.declared.tree.Dir.{Dir}
use Rattle.verilog_tree.specs.declared.tree.Dir.TheVariants as dir
use Rattle.verilog_tree.specs.declared.tree.GateKind.{GateKind}
use Rattle.verilog_tree.specs.declared.tree.GateKind.TheVariants as gate
use Rattle.bsdl_device.specs.declared.values.PortMode.{PortMode}
use Rattle.bsdl_device.specs.declared.values.PortMode.TheVariants as mode
use Rattle.bsdl_device.specs.declared.values.Stop.{Stop}
use Rattle.bsdl_device.specs.declared.values.Stop.TheVariants as stop
use Rattle.bsdl_device.specs.declared.values.Safe.{Safe}
use Rattle.bsdl_device.specs.declared.values.Safe.TheVariants as safe
use Rattle.cell_library.specs.declared.codes.BoundaryKind.{BoundaryKind}
use Rattle.cell_library.specs.declared.codes.BoundaryKind.TheVariants as cell
use Rattle.cell_library.specs.declared.codes.Function.{Function}
use Rattle.cell_library.specs.declared.codes.Function.TheVariants as function
use Rattle.cell_library.specs.declared.codes.Instr.{Instr}
use Rattle.cell_library.specs.declared.codes.Instr.TheVariants as instr
use Rattle.netlist_recovery.specs.Kinds.{dir_number, gate_number, mode_number, stop_number, safe_number, cell_number, function_number, instr_number}

abbrev dir_of : ℕ → Dir
dir_of n = if n == 0 then dir.Input else if n == 1 then dir.Output else dir.Inout

dir_back : (one : Dir) → dir_of (dir_number one) ≡ one
dir_back dir.Input = refl
dir_back dir.Output = refl
dir_back dir.Inout = refl

pub dir_same : (one other : Dir) → (dir_number one ≡ dir_number other) ↔ (one ≡ other)
dir_same one other = ((λ e. sym (dir_back one) ∙ ap dir_of e ∙ dir_back other), λ e. ap dir_number e)

abbrev gate_of : ℕ → GateKind
gate_of n = if n == 0 then gate.And else if n == 1 then gate.Or else if n == 2 then gate.Nand else if n == 3 then gate.Nor else if n == 4 then gate.Xor else if n == 5 then gate.Xnor else if n == 6 then gate.Buf else if n == 7 then gate.Not else if n == 8 then gate.Bufif0 else gate.Bufif1

gate_back : (one : GateKind) → gate_of (gate_number one) ≡ one
gate_back gate.And = refl
gate_back gate.Or = refl
gate_back gate.Nand = refl
gate_back gate.Nor = refl
gate_back gate.Xor = refl
gate_back gate.Xnor = refl
gate_back gate.Buf = refl
gate_back gate.Not = refl
gate_back gate.Bufif0 = refl
gate_back gate.Bufif1 = refl

pub gate_same : (one other : GateKind) → (gate_number one ≡ gate_number other) ↔ (one ≡ other)
gate_same one other = ((λ e. sym (gate_back one) ∙ ap gate_of e ∙ gate_back other), λ e. ap gate_number e)

abbrev mode_of : ℕ → PortMode
mode_of n = if n == 0 then mode.Input else if n == 1 then mode.Output else if n == 2 then mode.Inout else mode.Linkage

mode_back : (one : PortMode) → mode_of (mode_number one) ≡ one
mode_back mode.Input = refl
mode_back mode.Output = refl
mode_back mode.Inout = refl
mode_back mode.Linkage = refl

pub mode_same : (one other : PortMode) → (mode_number one ≡ mode_number other) ↔ (one ≡ other)
mode_same one other = ((λ e. sym (mode_back one) ∙ ap mode_of e ∙ mode_back other), λ e. ap mode_number e)

abbrev stop_of : ℕ → Stop
stop_of n = if n == 0 then stop.Low else stop.Both

stop_back : (one : Stop) → stop_of (stop_number one) ≡ one
stop_back stop.Low = refl
stop_back stop.Both = refl

pub stop_same : (one other : Stop) → (stop_number one ≡ stop_number other) ↔ (one ≡ other)
stop_same one other = ((λ e. sym (stop_back one) ∙ ap stop_of e ∙ stop_back other), λ e. ap stop_number e)

abbrev safe_of : ℕ → Safe
safe_of n = if n == 0 then safe.Zero else if n == 1 then safe.One else safe.Any

safe_back : (one : Safe) → safe_of (safe_number one) ≡ one
safe_back safe.Zero = refl
safe_back safe.One = refl
safe_back safe.Any = refl

pub safe_same : (one other : Safe) → (safe_number one ≡ safe_number other) ↔ (one ≡ other)
safe_same one other = ((λ e. sym (safe_back one) ∙ ap safe_of e ∙ safe_back other), λ e. ap safe_number e)

abbrev cell_of : ℕ → BoundaryKind
cell_of n = if n == 0 then cell.Bc1 else if n == 1 then cell.Bc2 else if n == 2 then cell.Bc4 else cell.Bc7

cell_back : (one : BoundaryKind) → cell_of (cell_number one) ≡ one
cell_back cell.Bc1 = refl
cell_back cell.Bc2 = refl
cell_back cell.Bc4 = refl
cell_back cell.Bc7 = refl

pub cell_same : (one other : BoundaryKind) → (cell_number one ≡ cell_number other) ↔ (one ≡ other)
cell_same one other = ((λ e. sym (cell_back one) ∙ ap cell_of e ∙ cell_back other), λ e. ap cell_number e)

abbrev function_of : ℕ → Function
function_of n = if n == 0 then function.Input else if n == 1 then function.Output2 else if n == 2 then function.Output3 else if n == 3 then function.Control else if n == 4 then function.Bidir else function.Clock

function_back : (one : Function) → function_of (function_number one) ≡ one
function_back function.Input = refl
function_back function.Output2 = refl
function_back function.Output3 = refl
function_back function.Control = refl
function_back function.Bidir = refl
function_back function.Clock = refl

pub function_same : (one other : Function) → (function_number one ≡ function_number other) ↔ (one ≡ other)
function_same one other = ((λ e. sym (function_back one) ∙ ap function_of e ∙ function_back other), λ e. ap function_number e)

abbrev instr_of : ℕ → Instr
instr_of n = if n == 0 then instr.Bypass else if n == 1 then instr.Extest else if n == 2 then instr.Sample else if n == 3 then instr.Preload else if n == 4 then instr.Idcode else if n == 5 then instr.Highz else if n == 6 then instr.Clamp else instr.Usercode

instr_back : (one : Instr) → instr_of (instr_number one) ≡ one
instr_back instr.Bypass = refl
instr_back instr.Extest = refl
instr_back instr.Sample = refl
instr_back instr.Preload = refl
instr_back instr.Idcode = refl
instr_back instr.Highz = refl
instr_back instr.Clamp = refl
instr_back instr.Usercode = refl

pub instr_same : (one other : Instr) → (instr_number one ≡ instr_number other) ↔ (one ≡ other)
instr_same one other = ((λ e. sym (instr_back one) ∙ ap instr_of e ∙ instr_back other), λ e. ap instr_number e)
