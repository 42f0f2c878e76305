use Rattle.std.proofs.Common.{◌≡◌, drop}
use Rattle.scan_programs.specs.Runs.{after_clocks}
use Rattle.scan_programs.proofs.program_lines.run.Given as goal

abbrev pub invariant-loop-cycle : goal.invariant-loop-cycle
invariant-loop-cycle l = after_clocks (drop l.cycle-index l.clocks) l.bench ≡ after_clocks l.clocks l.fn.bench
