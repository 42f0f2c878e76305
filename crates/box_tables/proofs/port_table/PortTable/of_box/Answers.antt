use Rattle.std.proofs.Common.{ap, sym, ◌∙◌}
use Rattle.box_tables.specs.CutPorts.{box_port_names}
use Rattle.box_tables.proofs.port_table.PortTable.of_box.Goals as goal

pub invariant_of-result : goal.invariant_of-result
invariant_of-result c = c.in_ok-places.ensures ∙ c.in_ok-names.ensures ∙ ap box_port_names (sym c.in_ok-list.ensures)
