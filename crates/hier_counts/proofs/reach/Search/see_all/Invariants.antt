use Rattle.std.proofs.Common.{◌≡◌, ℕ, ◌<◌, drop, length}
use Rattle.hier_counts.specs.Graph.{IsIn}
use Rattle.hier_counts.specs.Search.{seen_in, with_places}
use Rattle.hier_counts.proofs.reach.Search.see_all.Given as goal

abbrev pub invariant-loop-place : goal.invariant-loop-place
invariant-loop-place l = record {
  rest : with_places (drop l.place-index l.places) (seen_in l.self) ≡ with_places l.places (seen_in l.fn.self);
  low : (w : ℕ) → IsIn w (drop l.place-index l.places) → w < length l.self.marks.items;
}
