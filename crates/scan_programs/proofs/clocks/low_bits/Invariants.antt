use Rattle.std.proofs.Common.{◌≡◌, ◌-◌, ◌++◌}
use Rattle.scan_programs.specs.Scans.{low_bits}
use Rattle.scan_programs.proofs.clocks.low_bits.Given as goal

abbrev pub invariant-loop : goal.invariant-loop
invariant-loop l = l.bits.items ++ low_bits (l.fn.pattern.len - l.counter) l.rest ≡ low_bits l.fn.pattern.len l.fn.pattern.value
