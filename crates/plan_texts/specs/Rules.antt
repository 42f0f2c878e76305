-- The rules on a plan's instructions, its identification code and its usercode, and the first that is broken.
-- IEEE Std 1149.1-2001: instruction register; device identification register.
use Rattle.std.specs.Prelude.{ℕ, ◌+◌, ◌*◌, ◌%◌, ◌^◌, ◌==◌, ◌&&◌, ◌||◌, not, Bool, List, [], ◌∷◌, ◌++◌, map, filter, find, codes, Option, Some, None, is_some, if◌then◌else◌}
use Rattle.std.specs.List.{list_any}
use Rattle.std.specs.Option.{option_map}
use Rattle.std.specs.Str.{bytes_eq}
use Rattle.cell_library.specs.declared.codes.Bits.{Bits}
use Rattle.cell_library.specs.declared.codes.Instr.{Instr}
use Rattle.cell_library.specs.declared.codes.Instr.TheVariants as instr
use Rattle.bsdl_device.specs.declared.entries.OpcodeEntry.{OpcodeEntry}
use Rattle.bsdl_device.specs.Instructions.{instruction_word, all_instructions, required_instructions}
use Rattle.bsdl_device.specs.Checks.{has_instruction, has_other_length, bypass_is_not_ones, opcodes_clash, code_is_barred}
use Rattle.texts.specs.First.{or_else, first_in}
use Rattle.texts.specs.Repeated.{repeated}
use Rattle.plan_texts.specs.declared.fault.PlanFault.{PlanFault}
use Rattle.plan_texts.specs.declared.fault.PlanFault.TheVariants as fault
use Rattle.plan_texts.specs.declared.written.CodeGroups.{CodeGroups}
use Rattle.plan_texts.specs.declared.written.Written.{Written}

-- the instructions of version 1
abbrev pub first_instructions : List Instr
first_instructions = instr.Bypass ∷ instr.Extest ∷ instr.Sample ∷ instr.Preload ∷ instr.Idcode ∷ instr.Highz ∷ instr.Clamp ∷ []

-- version 2 has them all
abbrev pub instructions_of : ℕ → List Instr
instructions_of version = if version == 2 then all_instructions else first_instructions

-- the instruction of a name among these, byte for byte
abbrev pub instruction_of : List Instr → List ℕ → Option Instr
instruction_of profile name = find (λ i. bytes_eq name (instruction_word i)) profile

abbrev pub is_known : List Instr → OpcodeEntry → Bool
is_known profile o = is_some (instruction_of profile o.name)

-- those of the profile's instructions
abbrev pub known : List Instr → List OpcodeEntry → List OpcodeEntry
known profile opcodes = filter (is_known profile) opcodes

abbrev pub names_of : List OpcodeEntry → List (List ℕ)
names_of opcodes = map (λ (o : OpcodeEntry). o.name) opcodes

-- an instruction stands twice
abbrev pub twice_fault : List OpcodeEntry → Option PlanFault
twice_fault opcodes = option_map fault.PlanTwice (repeated (names_of opcodes))

-- the opcode has another length, is that of BYPASS and not all ones, or is an earlier one
abbrev pub misfits : ℕ → List OpcodeEntry → OpcodeEntry → Bool
misfits length before o = has_other_length length o.bits || bypass_is_not_ones o || list_any (λ (e : OpcodeEntry). opcodes_clash e o) before

-- the first of these that doesn't fit, where the others stand before
abbrev pub misfit_after : ℕ → List OpcodeEntry → List OpcodeEntry → Option PlanFault
misfit_after length before [] = None
misfit_after length before (o ∷ opcodes) =
    if misfits length before o then Some (fault.PlanOpcode o.name) else misfit_after length (before ++ o ∷ []) opcodes

abbrev pub missing : List OpcodeEntry → Instr → Option PlanFault
missing opcodes i = if has_instruction opcodes i then None else Some (fault.PlanOpcode (instruction_word i))

-- the first that each device has and that isn't there
abbrev pub missing_fault : List OpcodeEntry → Option PlanFault
missing_fault opcodes = first_in (missing opcodes) required_instructions

-- the two captured bits nearest TDO are 01
abbrev pub capture_fault : ℕ → Bits → Option PlanFault
capture_fault length capture =
    if has_other_length length capture || not (capture.value % 4 == 1) then Some (fault.PlanOpcode (codes "capture")) else None

abbrev pub opcode_fault : ℕ → Bits → List OpcodeEntry → Option PlanFault
opcode_fault length capture opcodes = or_else (misfit_after length [] opcodes) (or_else (missing_fault opcodes) (capture_fault length capture))

-- 4 bits of version, 16 of part, 11 of manufacturer, and one more
abbrev pub groups_misfit : CodeGroups → Bool
groups_misfit g = has_other_length 4 g.version || has_other_length 16 g.part || has_other_length 11 g.manufacturer || has_other_length 1 g.mark

-- the code of these groups; where they have their bits, the sum is below 2^32
abbrev pub code_of : CodeGroups → ℕ
code_of g = (2 ^ 28 * g.version.value + 2 ^ 12 * g.part.value + 2 * g.manufacturer.value + g.mark.value) % 2 ^ 32

abbrev pub idcode_fails : List OpcodeEntry → Option CodeGroups → Bool
idcode_fails opcodes None = has_instruction opcodes instr.Idcode
idcode_fails opcodes (Some g) = not (has_instruction opcodes instr.Idcode) || groups_misfit g || code_is_barred (code_of g)

abbrev pub idcode_fault : List OpcodeEntry → Option CodeGroups → Option PlanFault
idcode_fault opcodes groups = if idcode_fails opcodes groups then Some fault.PlanIdcode else None

-- a usercode without USERCODE or USERCODE without one, USERCODE without IDCODE, or a usercode of other than 32 bits
abbrev pub usercode_fails : List OpcodeEntry → Option Bits → Bool
usercode_fails opcodes None = has_instruction opcodes instr.Usercode
usercode_fails opcodes (Some bits) =
    not (has_instruction opcodes instr.Usercode) || not (has_instruction opcodes instr.Idcode) || has_other_length 32 bits

-- in version 2 alone
abbrev pub usercode_fault : ℕ → List OpcodeEntry → Option Bits → Option PlanFault
usercode_fault version opcodes user = if version == 2 && usercode_fails opcodes user then Some fault.PlanUsercode else None

-- the instruction isn't of the profile
abbrev pub unknown_fault : List Instr → OpcodeEntry → Option PlanFault
unknown_fault profile o = if is_known profile o then None else Some (fault.PlanInstruction o.name)

-- the first rule that is broken, by a profile and by what a usercode breaks
abbrev pub fault_by : List Instr → Option PlanFault → Written → Option PlanFault
fault_by profile user w =
    or_else (twice_fault w.codes.opcodes)
    (or_else (opcode_fault w.registers.length w.registers.capture (known profile w.codes.opcodes))
    (or_else (idcode_fault (known profile w.codes.opcodes) w.codes.idcode)
    (or_else user (first_in (unknown_fault profile) w.codes.opcodes))))

-- the first rule that is broken
abbrev pub rule_fault : Written → Option PlanFault
rule_fault w =
    let profile : List Instr = instructions_of w.names.version in
    fault_by profile (usercode_fault w.names.version (known profile w.codes.opcodes) w.codes.usercode) w
