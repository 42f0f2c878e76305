use Rattle.std.proofs.Common.{◌≡◌, take, map}
use Rattle.box_tables.specs.CutPorts.{cut_in_flop}
use Rattle.box_tables.proofs.table.output_tables.Given as goal

abbrev pub invariant-loop-number : goal.invariant-loop-number
invariant-loop-number l = l.tables ≡ map cut_in_flop (take l.number l.cells)
