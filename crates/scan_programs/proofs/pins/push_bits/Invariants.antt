use Rattle.std.proofs.Common.{◌≡◌, ◌++◌, map, take}
use Rattle.scan_programs.specs.Pins.{reader_at}
use Rattle.scan_programs.proofs.pins.push_bits.Given as goal

abbrev pub invariant-loop-index : goal.invariant-loop-index
invariant-loop-index l = l.list.items ≡ l.fn.list.items ++ map (reader_at l.table l.place l.name) (take l.index-index l.indices)
