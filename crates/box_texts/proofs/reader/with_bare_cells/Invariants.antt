use Rattle.std.proofs.Common.{◌≡◌, ◌++◌, map, take}
use Rattle.box_texts.specs.Boxes.{bare_of}
use Rattle.box_texts.proofs.reader.with_bare_cells.Given as goal

abbrev pub invariant-loop-cell : goal.invariant-loop-cell
invariant-loop-cell l = l.library ≡ l.fn.cells ++ map bare_of (take l.cell-index l.found)
