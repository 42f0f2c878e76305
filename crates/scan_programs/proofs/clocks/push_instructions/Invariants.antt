use Rattle.std.proofs.Common.{◌≡◌, ◌++◌, take}
use Rattle.std.specs.List.{flat_map}
use Rattle.scan_programs.specs.Scans.{instruction_scans}
use Rattle.scan_programs.proofs.clocks.push_instructions.Given as goal

abbrev pub invariant-loop-opcode : goal.invariant-loop-opcode
invariant-loop-opcode l = l.clocks.items ≡ l.fn.clocks.items ++ flat_map (instruction_scans l.device) (take l.opcode-index l.opcodes)
