use Rattle.std.proofs.Common.{◌≡◌, ◌+◌, ◌≤◌, [], drop}
use Rattle.texts.specs.Repeated.{seen}
use Rattle.hier_model.specs.Faults.{cell_limit}
use Rattle.hier_counts.specs.Widths.{capped, joined_bits}
use Rattle.hier_counts.proofs.widths.PortWidths.joined.Given as goal

abbrev pub invariant-loop-link : goal.invariant-loop-link
invariant-loop-link l = record {
  rest : capped cell_limit (l.sum + joined_bits (seen l.names) (drop l.link-index l.links) l.self) ≡ capped cell_limit (joined_bits [] l.links l.self);
  low : l.sum ≤ cell_limit + 1;
}
