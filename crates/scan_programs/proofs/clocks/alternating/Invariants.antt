use Rattle.std.proofs.Common.{◌≡◌, ◌-◌, ◌++◌}
use Rattle.scan_programs.specs.Scans.{alternating}
use Rattle.scan_programs.proofs.clocks.alternating.Given as goal

abbrev pub invariant-loop : goal.invariant-loop
invariant-loop l = l.bits.items ++ alternating (l.fn.count - l.counter) l.next ≡ alternating l.fn.count l.fn.first
