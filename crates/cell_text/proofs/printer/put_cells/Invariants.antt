use Rattle.std.proofs.Common.{◌≡◌, ◌++◌, map, take}
use Rattle.word_cutter.specs.Rows.{rows_text}
use Rattle.cell_text.specs.Grammar.{cell_words}
use Rattle.cell_text.proofs.printer.put_cells.Given as goal

abbrev pub invariant-loop-number : goal.invariant-loop-number
invariant-loop-number l = l.text ≡ l.fn.text ++ rows_text (map cell_words (take l.number l.library))
