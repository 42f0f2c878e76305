use Rattle.std.proofs.Common.{◌≡◌, ◌+◌, ◌≤◌, length}
use Rattle.event_parts.specs.Pairs.{tables_upto}
use Rattle.event_parts.proofs.counted_cells.pairs.PairTables.new.Given as goal

abbrev pub invariant-loop-number : goal.invariant-loop-number
invariant-loop-number l = record {
  are : l.values.items ≡ tables_upto l.library l.number;
  upto : l.number ≤ 6 + length l.library;
}
