-- The instructions of the profile, their names and the register that each selects.
-- IEEE Std 1149.1-2001: instructions; the annex on BSDL (instruction register, register access).
use Rattle.std.specs.Prelude.{ℕ, ◌==◌, ◌&&◌, Bool, true, false, List, [], ◌∷◌, find, Option, codes}
use Rattle.bsdl_lexicon.specs.Names.{is_same_name}
use Rattle.cell_library.specs.declared.codes.Bits.{Bits}
use Rattle.cell_library.specs.declared.codes.Instr.{Instr}
use Rattle.cell_library.specs.declared.codes.Instr.TheVariants as instr
use Rattle.bsdl_device.specs.declared.entries.Register.{Register}
use Rattle.bsdl_device.specs.declared.entries.Register.TheVariants as register

abbrev pub instruction_word : Instr → List ℕ
instruction_word instr.Bypass = codes "BYPASS"
instruction_word instr.Extest = codes "EXTEST"
instruction_word instr.Sample = codes "SAMPLE"
instruction_word instr.Preload = codes "PRELOAD"
instruction_word instr.Idcode = codes "IDCODE"
instruction_word instr.Highz = codes "HIGHZ"
instruction_word instr.Clamp = codes "CLAMP"
instruction_word instr.Usercode = codes "USERCODE"

-- a name is this instruction's
abbrev pub names_instruction : Instr → List ℕ → Bool
names_instruction i name = is_same_name name (instruction_word i)

abbrev pub all_instructions : List Instr
all_instructions = instr.Bypass ∷ instr.Extest ∷ instr.Sample ∷ instr.Preload ∷ instr.Idcode ∷ instr.Highz ∷ instr.Clamp ∷ instr.Usercode ∷ []

-- those that each device has
abbrev pub required_instructions : List Instr
required_instructions = instr.Extest ∷ instr.Sample ∷ instr.Preload ∷ instr.Bypass ∷ []

-- the instruction of a name
abbrev pub instruction_named : List ℕ → Option Instr
instruction_named name = find (λ i. names_instruction i name) all_instructions

-- the test data register that an instruction selects
abbrev pub selected_register : Instr → Register
selected_register instr.Extest = register.Boundary
selected_register instr.Sample = register.Boundary
selected_register instr.Preload = register.Boundary
selected_register instr.Bypass = register.Bypass
selected_register instr.Highz = register.Bypass
selected_register instr.Clamp = register.Bypass
selected_register instr.Idcode = register.DeviceId
selected_register instr.Usercode = register.DeviceId

abbrev pub is_register : Register → Register → Bool
is_register register.Boundary register.Boundary = true
is_register register.Bypass register.Bypass = true
is_register register.DeviceId register.DeviceId = true
is_register _ _ = false

abbrev pub same_bits : Bits → Bits → Bool
same_bits a b = a.len == b.len && a.value == b.value

abbrev pub is_instruction : Instr → Instr → Bool
is_instruction instr.Bypass instr.Bypass = true
is_instruction instr.Extest instr.Extest = true
is_instruction instr.Sample instr.Sample = true
is_instruction instr.Preload instr.Preload = true
is_instruction instr.Idcode instr.Idcode = true
is_instruction instr.Highz instr.Highz = true
is_instruction instr.Clamp instr.Clamp = true
is_instruction instr.Usercode instr.Usercode = true
is_instruction _ _ = false
