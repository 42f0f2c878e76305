-- own: what two entries, or two opcodes, may have in common.
use Rattle.std.specs.Prelude.{Bool}
use Rattle.bsdl_lexicon.specs.Names.{is_same_name}
use Rattle.bsdl_device.specs.declared.entries.OpcodeEntry.{OpcodeEntry}
use Rattle.bsdl_device.specs.Instructions.{same_bits}
use Rattle.bsdl_device.specs.declared.registers.values.RegisterEntry.{RegisterEntry}

-- one name
abbrev pub same_names : RegisterEntry → RegisterEntry → Bool
same_names e f = is_same_name e.name f.name

-- one instruction
abbrev pub same_instructions : RegisterEntry → RegisterEntry → Bool
same_instructions e f = is_same_name e.instruction f.instruction

-- one pattern
abbrev pub same_patterns : OpcodeEntry → OpcodeEntry → Bool
same_patterns o p = same_bits o.bits p.bits
