-- The base of a file with registers of its own, and the rules on these registers.
-- IEEE Std 1149.1-2001: the annex on BSDL (register access); instruction register; test data registers.
-- The limits are own.
use Rattle.std.specs.Prelude.{ℕ, ◌==◌, ◌||◌, not, nat_lt, Bool, List, [], ◌∷◌, length, filter, count_by}
use Rattle.std.specs.List.{list_any}
use Rattle.bsdl_lexicon.specs.Names.{is_same_name}
use Rattle.bsdl_device.specs.declared.written.File.{File}
use Rattle.bsdl_device.specs.declared.entries.OpcodeEntry.{OpcodeEntry}
use Rattle.bsdl_device.specs.declared.entries.Register.TheVariants as register
use Rattle.bsdl_device.specs.declared.entries.Contents.{Contents}
use Rattle.bsdl_device.specs.Grammar.{register_word}
use Rattle.bsdl_device.specs.Instructions.{names_instruction, all_instructions, same_bits}
use Rattle.bsdl_device.specs.Checks.{any_pair, has_other_length}
use Rattle.bsdl_device.specs.declared.registers.values.RegisterEntry.{RegisterEntry}

-- an entry of the design's own has the instruction
abbrev pub is_own : List RegisterEntry → List ℕ → Bool
is_own entries name = list_any (λ (e : RegisterEntry). is_same_name name e.instruction) entries

-- the opcodes of the design's own instructions, and those of the profile's
abbrev pub own_opcodes : List RegisterEntry → List OpcodeEntry → List OpcodeEntry
own_opcodes entries opcodes = filter (λ (o : OpcodeEntry). is_own entries o.name) opcodes

abbrev pub base_opcodes : List RegisterEntry → List OpcodeEntry → List OpcodeEntry
base_opcodes entries opcodes = filter (λ (o : OpcodeEntry). not (is_own entries o.name)) opcodes

-- the contents without the entries and their opcodes
abbrev pub base_contents : Contents → List RegisterEntry → Contents
base_contents c entries = record {
  pin_map = c.pin_map;
  opcodes = base_opcodes entries c.opcodes;
  capture = c.capture;
  idcode = c.idcode;
  usercode = c.usercode;
  access = c.access;
  rows = c.rows;
}

-- the name is BOUNDARY, BYPASS or DEVICE_ID
abbrev pub names_register : List ℕ → Bool
names_register name = list_any (λ r. is_same_name name (register_word r)) (register.Boundary ∷ register.Bypass ∷ register.DeviceId ∷ [])

-- the name is one of the profile's instructions
abbrev pub names_some_instruction : List ℕ → Bool
names_some_instruction name = list_any (λ i. names_instruction i name) all_instructions

-- a name or an instruction of the profile, an instruction without one opcode, or a length that isn't 1 to 256
abbrev pub entry_fails : List OpcodeEntry → RegisterEntry → Bool
entry_fails own e =
    names_register e.name || names_some_instruction e.instruction || not (count_by (λ (o : OpcodeEntry). is_same_name e.instruction o.name) own == 1)
    || e.length == 0 || nat_lt 256 e.length

-- an opcode of another length, or that of another instruction
abbrev pub opcodes_fail : ℕ → List OpcodeEntry → List OpcodeEntry → Bool
opcodes_fail wanted base own =
    list_any (λ (o : OpcodeEntry). has_other_length wanted o.bits) own || list_any (λ (o : OpcodeEntry). list_any (λ (p : OpcodeEntry). same_bits o.bits p.bits) base) own
    || any_pair (λ (o : OpcodeEntry) (p : OpcodeEntry). same_bits o.bits p.bits) own

-- more than 16 entries, or a name or an instruction that two have
abbrev pub entries_fail : List RegisterEntry → Bool
entries_fail entries =
    nat_lt 16 (length entries) || any_pair (λ (e : RegisterEntry) (f : RegisterEntry). is_same_name e.name f.name) entries
    || any_pair (λ (e : RegisterEntry) (f : RegisterEntry). is_same_name e.instruction f.instruction) entries

abbrev pub registers_fail : ℕ → List OpcodeEntry → List OpcodeEntry → List RegisterEntry → Bool
registers_fail wanted base own entries = entries_fail entries || list_any (entry_fails own) entries || opcodes_fail wanted base own

abbrev pub own_registers_fail : File → Contents → List RegisterEntry → Bool
own_registers_fail f c entries = registers_fail f.length.value (base_opcodes entries c.opcodes) (own_opcodes entries c.opcodes) entries
