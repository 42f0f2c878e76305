use Rattle.std.proofs.Common.{◌≡◌, ◌+◌, ◌≤◌, ◌&&◌, drop, sum_by}
use Rattle.std.specs.List.{list_all}
use Rattle.hier_model.specs.Faults.{cell_limit, net_limit}
use Rattle.hier_counts.specs.declared.sizes.Held.{Held}
use Rattle.hier_counts.specs.Widths.{capped}
use Rattle.hier_counts.specs.Levels.{counts_in}
use Rattle.hier_counts.proofs.levels.next_counts.Given as goal

abbrev pub invariant-loop-held : goal.invariant-loop-held
invariant-loop-held l = record {
  fits : (l.fits && list_all (λ (h : Held). (counts_in l.below h.place).fits) (drop l.held-index l.size.held)) ≡ list_all (λ (h : Held). (counts_in l.below h.place).fits) l.size.held;
  cells : capped cell_limit (l.cells + sum_by (λ (h : Held). h.joined + (counts_in l.below h.place).cells) (drop l.held-index l.size.held)) ≡ capped cell_limit (l.size.items + sum_by (λ (h : Held). h.joined + (counts_in l.below h.place).cells) l.size.held);
  cells_low : l.cells ≤ cell_limit + 1;
  nets : capped net_limit (l.nets + sum_by (λ (h : Held). (counts_in l.below h.place).nets) (drop l.held-index l.size.held)) ≡ capped net_limit (l.size.bits + sum_by (λ (h : Held). (counts_in l.below h.place).nets) l.size.held);
  nets_low : l.nets ≤ net_limit + 1;
}
