use Rattle.std.proofs.Common.{◌≡◌, ◌++◌, map, take}
use Rattle.word_cutter.specs.Rows.{rows_text}
use Rattle.plan_texts.specs.Canonical.{opcode_row}
use Rattle.plan_texts.proofs.printer.put_opcodes.Given as goal

abbrev pub invariant-loop-opcode : goal.invariant-loop-opcode
invariant-loop-opcode l = l.text ≡ l.fn.text ++ rows_text (map opcode_row (take l.opcode-index l.opcodes))
