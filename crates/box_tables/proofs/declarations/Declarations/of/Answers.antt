use Rattle.std.proofs.Common.{List, ap, ◌∙◌}
use Rattle.verilog_tree.specs.declared.tree.Port.{Port}
use Rattle.verilog_tree.specs.declared.tree.Wire.{Wire}
use Rattle.box_tables.specs.Nets.{port_names, wire_names, all_names}
use Rattle.box_tables.proofs.declarations.Declarations.of.Goals as goal

pub invariant_of-result : goal.invariant_of-result
invariant_of-result c =
    let m = c.args.tree.now in
    record {
      ports_are = c.in_ok-port_places.ensures ∙ c.in_ok-names.ensures ∙ ap port_names c.as_slice-ports.ensures;
      wires_are = c.in_ok-wire_places.ensures ∙ c.in_ok-names-2.ensures ∙ ap wire_names c.as_slice-wires.ensures;
      counts_are = c.in_ok-counts.ensures ∙ c.in_ok-names-3.ensures ∙ ap (λ (ports : List Port). all_names ports c.as_slice-wires.result.now) c.as_slice-ports.ensures ∙ ap (λ (wires : List Wire). all_names m.ports wires) c.as_slice-wires.ensures;
    }
