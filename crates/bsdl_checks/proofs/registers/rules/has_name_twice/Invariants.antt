use Rattle.std.proofs.Common.{◌≡◌, drop}
use Rattle.bsdl_device.specs.Checks.{any_pair}
use Rattle.bsdl_checks.specs.Pairs.{same_names}
use Rattle.bsdl_checks.proofs.registers.rules.has_name_twice.Given as goal

abbrev pub invariant-loop-i : goal.invariant-loop-i
invariant-loop-i l = any_pair same_names (drop l.i l.entries) ≡ any_pair same_names l.entries
