use Rattle.std.proofs.Common.{ℕ}
use Rattle.cell_text.proofs.Rows.{cell_put}
use Rattle.cell_text.proofs.printer.put_cells.Goals as goal

pub loop-number-preserved : goal.loop-number-preserved
loop-number-preserved c = cell_put c.args.text.now c.loop-number.text c.put_cell.new.text c.args.library.now c.loop-number.number c.cell.result.now c.cell.ensures c.in_ok-put_cell.ensures c.loop-number.invariant
