use Rattle.std.proofs.Common.{◌≡◌, ◌++◌, take}
use Rattle.std.specs.List.{flat_map}
use Rattle.scan_programs.specs.declared.pins.Reader.{Reader}
use Rattle.scan_programs.specs.Program.{expected, reader_value}
use Rattle.scan_programs.proofs.lines.put_pins.Given as goal

abbrev pub invariant-loop-reader : goal.invariant-loop-reader
invariant-loop-reader l = l.list ≡ l.fn.list ++ flat_map (λ (r : Reader). expected r.word (reader_value l.device l.machine.holds r)) (take l.reader-index l.readers)
