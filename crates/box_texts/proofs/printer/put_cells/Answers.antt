use Rattle.box_texts.proofs.Written.{cell_row_put}
use Rattle.box_texts.proofs.printer.put_cells.Goals as goal

pub loop-number-preserved : goal.loop-number-preserved
loop-number-preserved c =
    cell_row_put c.args.text.now c.loop-number.text c.put_cell.new.text c.args.library.now c.loop-number.number c.cell.result.now c.cell.ensures c.in_ok-put_cell.ensures c.loop-number.invariant
