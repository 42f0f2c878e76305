use Rattle.std.proofs.Common.{take}
use Rattle.cell_text.specs.Grammar.{cell_words}
use Rattle.box_texts.proofs.Written.{RowsPut}
use Rattle.box_texts.proofs.printer.put_cells.Given as goal

abbrev pub invariant-loop-number : goal.invariant-loop-number
invariant-loop-number l = RowsPut cell_words l.fn.text (take l.number l.library) l.text
