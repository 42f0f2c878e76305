-- own: the kinds of a module and of a device by numbers, so that they can be told apart.
use Rattle.std.specs.Prelude.{ℕ}
use Rattle.verilog_tree.specs.declared.tree.Dir.{Dir}
use Rattle.verilog_tree.specs.declared.tree.Dir.TheVariants as dir
use Rattle.verilog_tree.specs.declared.tree.GateKind.{GateKind}
use Rattle.verilog_tree.specs.declared.tree.GateKind.TheVariants as gate
use Rattle.bsdl_device.specs.declared.values.PortMode.{PortMode}
use Rattle.bsdl_device.specs.declared.values.PortMode.TheVariants as mode
use Rattle.bsdl_device.specs.declared.values.Stop.{Stop}
use Rattle.bsdl_device.specs.declared.values.Stop.TheVariants as stop
use Rattle.bsdl_device.specs.declared.values.Safe.{Safe}
use Rattle.bsdl_device.specs.declared.values.Safe.TheVariants as safe
use Rattle.cell_library.specs.declared.codes.BoundaryKind.{BoundaryKind}
use Rattle.cell_library.specs.declared.codes.BoundaryKind.TheVariants as cell
use Rattle.cell_library.specs.declared.codes.Function.{Function}
use Rattle.cell_library.specs.declared.codes.Function.TheVariants as function
use Rattle.cell_library.specs.declared.codes.Instr.{Instr}
use Rattle.cell_library.specs.declared.codes.Instr.TheVariants as instr

abbrev pub dir_number : Dir → ℕ
dir_number dir.Input = 0
dir_number dir.Output = 1
dir_number dir.Inout = 2

abbrev pub gate_number : GateKind → ℕ
gate_number gate.And = 0
gate_number gate.Or = 1
gate_number gate.Nand = 2
gate_number gate.Nor = 3
gate_number gate.Xor = 4
gate_number gate.Xnor = 5
gate_number gate.Buf = 6
gate_number gate.Not = 7
gate_number gate.Bufif0 = 8
gate_number gate.Bufif1 = 9

abbrev pub mode_number : PortMode → ℕ
mode_number mode.Input = 0
mode_number mode.Output = 1
mode_number mode.Inout = 2
mode_number mode.Linkage = 3

abbrev pub stop_number : Stop → ℕ
stop_number stop.Low = 0
stop_number stop.Both = 1

abbrev pub safe_number : Safe → ℕ
safe_number safe.Zero = 0
safe_number safe.One = 1
safe_number safe.Any = 2

abbrev pub cell_number : BoundaryKind → ℕ
cell_number cell.Bc1 = 0
cell_number cell.Bc2 = 1
cell_number cell.Bc4 = 2
cell_number cell.Bc7 = 3

abbrev pub function_number : Function → ℕ
function_number function.Input = 0
function_number function.Output2 = 1
function_number function.Output3 = 2
function_number function.Control = 3
function_number function.Bidir = 4
function_number function.Clock = 5

abbrev pub instr_number : Instr → ℕ
instr_number instr.Bypass = 0
instr_number instr.Extest = 1
instr_number instr.Sample = 2
instr_number instr.Preload = 3
instr_number instr.Idcode = 4
instr_number instr.Highz = 5
instr_number instr.Clamp = 6
instr_number instr.Usercode = 7
