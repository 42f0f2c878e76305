-- Which opcodes can't be an instruction's.
-- IEEE Std 1149.1-2001: instruction register, instructions.
use Rattle.std.specs.Prelude.{◌||◌, Bool, List, map}
use Rattle.std.specs.List.{list_any}
use Rattle.cell_library.specs.declared.codes.Bits.{Bits}
use Rattle.cell_library.specs.declared.codes.Opcode.{Opcode}
use Rattle.bsdl_device.specs.Instructions.{same_bits}
use Rattle.bsdl_device.specs.Checks.{has_other_length}
use Rattle.plan_texts.specs.declared.plan.Plan.{Plan}
use Rattle.status_fitting.specs.declared.register_texts.plan.StatusRow.{StatusRow}

abbrev pub opcodes_of : List StatusRow → List Bits
opcodes_of rows = map (λ (row : StatusRow). row.bits) rows

-- of another length than the plan's; or one of the plan's, or one of these before it
abbrev pub is_taken_behind : Plan → List Bits → Bits → Bool
is_taken_behind base before bits = has_other_length base.length bits || list_any (λ (o : Opcode). same_bits bits o.bits) base.opcodes || list_any (same_bits bits) before

abbrev pub is_taken : Plan → List StatusRow → StatusRow → Bool
is_taken base before row = is_taken_behind base (opcodes_of before) row.bits
