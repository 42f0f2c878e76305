use Rattle.std.proofs.Common.{◌++◌, List, true, false, filter, ap, ◌∙◌}
use Rattle.box_model.specs.declared.boxes.BoxPort.{BoxPort}
use Rattle.box_tables.specs.CutPorts.{is_of}
use Rattle.box_tables.proofs.port_table.narrow_first.Goals as goal

pub returns : goal.returns
returns c =
    c.in_ok-add_ports-2.ensures
    ∙ ap (λ (l : List BoxPort). l ++ filter (is_of false) c.args.from.now) (c.in_ok-add_ports.ensures ∙ ap (λ (l : List BoxPort). l ++ filter (is_of true) c.args.from.now) c.new-list.ensures)
