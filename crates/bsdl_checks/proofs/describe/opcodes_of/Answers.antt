use Rattle.std.proofs.Common.{List, [], ◌++◌, ◌∙◌, ap, sym}
use Rattle.std.specs.List.{cons_option}
use Rattle.cell_library.specs.declared.codes.Opcode.{Opcode}
use Rattle.bsdl_device.specs.Denoted.{opcode_of}
use Rattle.bsdl_row_rules.proofs.Bits.{filter_map-next}
use Rattle.bsdl_checks.proofs.describe.opcodes_of.Goals as goal

pub loop-entry-preserved : goal.loop-entry-preserved
loop-entry-preserved c =
    c.in_ok-push_opcode.ensures
    ∙ ap (λ (m : List Opcode). m ++ cons_option (opcode_of c.entry-item.result) []) c.loop-entry.invariant
    ∙ sym (filter_map-next opcode_of c.args.entries.now c.loop-entry.entry-index c.entry-item.result c.loop-entry-test.true c.entry-item.is)
