use Rattle.std.proofs.Common.{◌≡◌, ◌++◌, drop}
use Rattle.scan_programs.specs.Scans.{shifts}
use Rattle.scan_programs.proofs.clocks.push_shifts.Given as goal

abbrev pub invariant-loop-place : goal.invariant-loop-place
invariant-loop-place l = l.clocks.items ++ shifts (drop l.place l.bits) ≡ l.fn.clocks.items ++ shifts l.bits
