-- Scans of a device: cycles of TCK by which its instruction register or the selected test data register shifts.
-- IEEE Std 1149.1-2001: TAP controller, instruction register, test data registers. Which scans a program makes is own.
use Rattle.std.specs.Prelude.{ℕ, zero, suc, ◌/◌, ◌%◌, ◌==◌, Bool, true, false, not, List, [], ◌∷◌, ◌++◌, map, length, replicate, Option, Some, None}
use Rattle.std.specs.List.{flat_map}
use Rattle.cell_library.specs.declared.codes.Instr.{Instr}
use Rattle.cell_library.specs.declared.codes.Opcode.{Opcode}
use Rattle.bsdl_device.specs.declared.entries.Register.{Register}
use Rattle.bsdl_device.specs.declared.entries.Register.TheVariants as register
use Rattle.bsdl_device.specs.declared.values.Device.{Device}
use Rattle.bsdl_device.specs.Instructions.{selected_register}
use Rattle.scan_programs.specs.declared.clocks.Clock.{Clock}

-- cycles with these levels of TMS, and TDI at 0
abbrev pub moves : List Bool → List Clock
moves levels = map (λ tms. let c : Clock = record { tms = tms; tdi = false } in c) levels

abbrev pub is_last : {A : Type 0} → List A → Bool
is_last [] = true
is_last (next ∷ more) = false

-- a cycle for each bit at TDI; the last one leaves the shift state
unfoldable pub shifts : List Bool → List Clock
shifts [] = []
shifts (bit ∷ bits) = record { tms = is_last bits; tdi = bit } ∷ shifts bits

-- from Run-Test/Idle through the selected test data register, and back
abbrev pub dr_scan : List Bool → List Clock
dr_scan bits = moves (true ∷ false ∷ false ∷ []) ++ (shifts bits ++ moves (true ∷ false ∷ []))

-- and through the instruction register
abbrev pub ir_scan : List Bool → List Clock
ir_scan bits = moves (true ∷ true ∷ false ∷ false ∷ []) ++ (shifts bits ++ moves (true ∷ false ∷ []))

-- so many bits of a number, bit 0 first
unfoldable pub low_bits : ℕ → ℕ → List Bool
low_bits zero value = []
low_bits (suc count) value = (value % 2 == 1) ∷ low_bits count (value / 2)

-- so many bits in turn, from this one on
unfoldable pub alternating : ℕ → Bool → List Bool
alternating zero first = []
alternating (suc count) first = first ∷ alternating count (not first)

abbrev pub register_length : Device → Register → ℕ
register_length B register.Boundary = length B.cells
register_length B register.Bypass = 1
register_length B register.DeviceId = 32

-- how many bits the register has that an instruction selects
abbrev pub scan_length : Device → Instr → ℕ
scan_length B instruction = register_length B (selected_register instruction)

-- the identification register, where there is one, is read before an instruction is loaded
abbrev pub ident_scan : Option ℕ → List Clock
ident_scan None = []
ident_scan (Some code) = dr_scan (replicate 32 false)

-- an instruction is loaded, and its register takes bits in turn and then their complement
abbrev pub instruction_scans : Device → Opcode → List Clock
instruction_scans B o =
    ir_scan (low_bits o.bits.len o.bits.value)
    ++ (dr_scan (alternating (scan_length B o.instr) true) ++ dr_scan (alternating (scan_length B o.instr) false))

-- all cycles: to Run-Test/Idle, the identification register, and each instruction in the order of the opcodes
unfoldable pub all_clocks : Device → List Clock
all_clocks B = moves (false ∷ []) ++ (ident_scan B.idcode ++ flat_map (instruction_scans B) B.opcodes)
