use Rattle.std.proofs.Common.{◌≡◌, ◌++◌, take}
use Rattle.scan_programs.specs.Scans.{moves}
use Rattle.scan_programs.proofs.clocks.push_moves.Given as goal

abbrev pub invariant-loop-tms : goal.invariant-loop-tms
invariant-loop-tms l = l.clocks.items ≡ l.fn.clocks.items ++ moves (take l.tms-index l.levels)
