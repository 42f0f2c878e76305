use Rattle.std.proofs.Common.{List, ℕ, Bor, position, ◌∙◌, ap}
use Rattle.std.specs.Str.{bytes_eq}
use Rattle.verilog_tree.specs.declared.tree.Link.{Link}
use Rattle.hier_flatten.proofs.Declared.{places_of}
use Rattle.hier_flatten.proofs.joins.LinkTable.of.Goals as goal

pub invariant_of-result : goal.invariant_of-result
invariant_of-result c = record {
  places = places_of (λ (l : Link). l.port) c.args.links.now c.in_ok-names.names.items c.in_ok-places.places.entries c.in_ok-names.ensures
      (λ k. c.in_ok-places.ensures k ∙ ap (λ (names : List (Bor (List ℕ))). position (λ (j : Bor (List ℕ)). bytes_eq k.now j.now) names) c.deref.ensures.value);
}
