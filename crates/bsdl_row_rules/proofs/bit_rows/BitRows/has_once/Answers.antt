use Rattle.std.proofs.Common.{List, count_by, ◌==◌, ◌∙◌, ap}
use Rattle.bsdl_device.specs.declared.entries.RowEntry.{RowEntry}
use Rattle.bsdl_device.specs.Ports.{bit_of_port}
use Rattle.bsdl_device.specs.RowRules.{is_row_of}
use Rattle.bsdl_port_rules.specs.Keys.{is_once}
use Rattle.bsdl_row_rules.proofs.BitCounts.{once_at}
use Rattle.bsdl_row_rules.proofs.bit_rows.BitRows.has_once.Goals as goal

pub returns : goal.returns
returns c =
    c.comes_once.ensures ∙ ap is_once (c.copied.ensures ∙ c.get.ensures.value)
    ∙ once_at c.self.inside.rows.now c.self.inside.uses.entries c.self.invariant (record { port = record { 0 = c.args.name }; index = c.args.index })
    ∙ ap (λ (rows : List RowEntry). count_by (is_row_of (bit_of_port c.args.name.now c.args.index)) rows == 1) c.self.view_is
