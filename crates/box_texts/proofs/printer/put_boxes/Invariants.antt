use Rattle.std.proofs.Common.{take}
use Rattle.box_texts.specs.Canonical.{box_words}
use Rattle.box_texts.proofs.Written.{RowsPut}
use Rattle.box_texts.proofs.printer.put_boxes.Given as goal

abbrev pub invariant-loop-cell : goal.invariant-loop-cell
invariant-loop-cell l = RowsPut box_words l.fn.text (take l.cell-index l.boxes) l.text
