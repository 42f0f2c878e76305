use Rattle.std.proofs.Common.{◌≡◌, ◌++◌, map, take}
use Rattle.scan_vectors.specs.declared.lines.Line.TheVariants.{Start}
use Rattle.scan_programs.specs.Pins.{bit_word}
use Rattle.scan_programs.proofs.lines.put_start.Given as goal

abbrev pub invariant-loop-index : goal.invariant-loop-index
invariant-loop-index l = l.list ≡ l.fn.list ++ map (λ index. Start (bit_word l.name index) l.value) (take l.index-index l.indices)
