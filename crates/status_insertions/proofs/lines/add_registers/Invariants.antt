use Rattle.std.proofs.Common.{◌≡◌, ◌++◌, take}
use Rattle.std.specs.List.{flat_map}
use Rattle.status_insertions.specs.Reports.{register_line}
use Rattle.status_insertions.proofs.lines.add_registers.Given as goal

abbrev pub invariant-loop-register : goal.invariant-loop-register
invariant-loop-register l = l.text ≡ l.fn.text ++ flat_map register_line (take l.register-index l.registers)
