use Rattle.std.proofs.Common.{◌≡◌, ◌++◌, map, take}
use Rattle.std.specs.List.{flat_map}
use Rattle.output_lines.specs.Lines.{blank_word}
use Rattle.insertion_report.specs.Reports.{name_of}
use Rattle.insertion_report.proofs.lines.put_names.Given as goal

abbrev pub invariant-loop-opcode : goal.invariant-loop-opcode
invariant-loop-opcode l = l.text ≡ l.fn.text ++ flat_map blank_word (map name_of (take l.opcode-index l.opcodes))
