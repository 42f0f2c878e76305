use Rattle.std.proofs.Common.{◌∙◌, ap, map}
use Rattle.box_tables.specs.CutPorts.{box_names, cut_in_box}
use Rattle.box_tables.proofs.table.BoxTable.of.Goals as goal

pub invariant_of-result : goal.invariant_of-result
invariant_of-result c = record {
  boxes_are = c.in_ok-boxes.ensures ∙ ap box_names c.as_slice.ensures;
  cells_are = c.in_ok-cells.ensures ∙ c.in_ok-names.ensures;
  cuts_are = c.in_ok-cuts.ensures ∙ c.as_slice-2.ensures;
  box_ports_are = c.in_ok-box_ports.ensures ∙ ap (map cut_in_box) c.as_slice-3.ensures;
  outputs_are = c.in_ok-outputs.ensures;
  own_is = c.in_ok-own.ensures;
}
