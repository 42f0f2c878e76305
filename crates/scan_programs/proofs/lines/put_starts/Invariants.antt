use Rattle.std.proofs.Common.{◌≡◌, ◌++◌, take}
use Rattle.std.specs.List.{flat_map, enumerate_from}
use Rattle.scan_programs.specs.Pins.{starts_of}
use Rattle.scan_programs.proofs.lines.put_starts.Given as goal

abbrev pub invariant-loop-place : goal.invariant-loop-place
invariant-loop-place l = l.list ≡ l.fn.list ++ flat_map (starts_of l.device) (take l.place (enumerate_from 0 l.device.ports))
