use Rattle.std.proofs.Common.{◌≡◌, map, take}
use Rattle.std.specs.List.{enumerate_from}
use Rattle.scan_programs.specs.Cells.{captured_at, unknown_core}
use Rattle.scan_programs.proofs.cells.captured.Given as goal

abbrev pub invariant-loop-number : goal.invariant-loop-number
invariant-loop-number l = l.bits.items ≡ map (captured_at l.device l.machine.holds unknown_core) (take l.number (enumerate_from 0 l.device.cells))
