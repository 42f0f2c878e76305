use Rattle.std.proofs.Common.{◌≡◌, take}
use Rattle.std.specs.List.{filter_map}
use Rattle.bsdl_device.specs.Denoted as denoted
use Rattle.bsdl_checks.proofs.describe.opcodes_of.Given as goal

abbrev pub invariant-loop-entry : goal.invariant-loop-entry
invariant-loop-entry l = l.made ≡ filter_map denoted.opcode_of (take l.entry-index l.entries)
