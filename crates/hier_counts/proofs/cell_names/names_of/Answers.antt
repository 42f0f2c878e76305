use Rattle.std.proofs.Common.{◌∙◌, ap, arith}
use Rattle.list_laws.proofs.Lists.{front_all}
use Rattle.hier_counts.specs.Cells.{cell_names}
use Rattle.hier_counts.proofs.CellTables.{names_more}
use Rattle.hier_counts.proofs.cell_names.names_of.Goals as goal

pub loop-number-preserved : goal.loop-number-preserved
loop-number-preserved c =
    names_more c.args.library.now c.loop-number.number c.cell.result.now c.as_bytes.result c.loop-number.names.items c.push.new.self.items c.cell.ensures c.as_bytes.ensures c.loop-number.invariant c.in_ok-push.ensures.items

pub returns : goal.returns
returns c = c.loop-number.invariant ∙ ap cell_names (front_all c.args.library.now c.loop-number.number (omega arith))
