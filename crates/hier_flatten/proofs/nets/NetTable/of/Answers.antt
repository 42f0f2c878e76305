use Rattle.std.proofs.Common.{List, ℕ, Bor, position, map, ◌∙◌, ap}
use Rattle.std.specs.Str.{bytes_eq}
use Rattle.verilog_tree.specs.declared.tree.Port.{Port}
use Rattle.verilog_tree.specs.declared.tree.Wire.{Wire}
use Rattle.hier_flatten.proofs.NetLaws.{finds_named}
use Rattle.hier_flatten.proofs.nets.NetTable.of.Goals as goal

pub invariant_of-result : goal.invariant_of-result
invariant_of-result c = record {
  ports_are = finds_named (λ (p : Port). p.name) c.args.module.now.ports c.in_ok-names.names.items c.in_ok-ports.ports.entries
      (c.in_ok-names.ensures ∙ ap (map (λ (p : Port). p.name)) c.as_slice.ensures)
      (λ k. c.in_ok-ports.ensures k ∙ ap (λ (names : List (Bor (List ℕ))). position (λ (j : Bor (List ℕ)). bytes_eq k.now j.now) names) c.deref.ensures.value);
  wires_are = finds_named (λ (w : Wire). w.name) c.args.module.now.wires c.in_ok-names-2.names.items c.in_ok-wires.wires.entries
      (c.in_ok-names-2.ensures ∙ ap (map (λ (w : Wire). w.name)) c.as_slice-2.ensures)
      (λ k. c.in_ok-wires.ensures k ∙ ap (λ (names : List (Bor (List ℕ))). position (λ (j : Bor (List ℕ)). bytes_eq k.now j.now) names) c.deref-2.ensures.value);
}
