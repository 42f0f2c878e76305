use Rattle.std.proofs.Common.{◌≡◌, ◌++◌, take}
use Rattle.std.specs.Prelude.{codes}
use Rattle.verilog_tree.specs.Canonical.{each_after, operand_text}
use Rattle.verilog_texts.proofs.printing.items.put_inputs.Given as goal

abbrev pub invariant-loop-input : goal.invariant-loop-input
invariant-loop-input l = l.text ≡ l.fn.text ++ each_after (codes ", ") operand_text (take l.input-index l.inputs)
