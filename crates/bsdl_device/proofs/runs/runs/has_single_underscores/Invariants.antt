use Rattle.std.proofs.Common.{drop, ◌≡◌}
use Rattle.bsdl_device.specs.Runs as runs
use Rattle.bsdl_device.proofs.runs.runs.has_single_underscores.Given as goal

abbrev pub invariant-loop-i : goal.invariant-loop-i
invariant-loop-i l = runs.has_single_underscores (drop l.i l.run) ≡ runs.has_single_underscores l.run
