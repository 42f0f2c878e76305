use Rattle.std.proofs.Common.{◌∙◌}
use Rattle.box_model.specs.Ports.{flop_output}
use Rattle.box_tables.proofs.CutPorts.{flop_there}
use Rattle.box_tables.proofs.table.BoxTable.is_flop.Goals as goal

pub returns : goal.returns
returns c = c.is_some.ensures ∙ flop_there c.ports_of_flop.result (flop_output c.args.self.now c.args.cell.now) c.ports_of_flop.ensures
