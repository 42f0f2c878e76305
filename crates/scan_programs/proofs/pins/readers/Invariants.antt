use Rattle.std.proofs.Common.{◌≡◌, ◌++◌, [], take}
use Rattle.std.specs.List.{flat_map, enumerate_from}
use Rattle.scan_programs.specs.Pins.{readers_of}
use Rattle.scan_programs.proofs.pins.readers.Given as goal

abbrev pub invariant-loop-place : goal.invariant-loop-place
invariant-loop-place l = l.list.items ≡ [] ++ flat_map (readers_of l.device) (take l.place (enumerate_from 0 l.device.ports))
