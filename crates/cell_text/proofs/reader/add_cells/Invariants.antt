use Rattle.std.proofs.Common.{take}
use Rattle.cell_text.proofs.Loop.{cells_are}
use Rattle.cell_text.proofs.reader.add_cells.Given as goal

abbrev pub invariant-loop-line : goal.invariant-loop-line
invariant-loop-line l = cells_are (take l.line-index l.lines) l.library
