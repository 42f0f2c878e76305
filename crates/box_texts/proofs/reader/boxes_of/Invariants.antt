use Rattle.std.proofs.Common.{take}
use Rattle.box_texts.proofs.KeptRows.{boxes_are}
use Rattle.box_texts.proofs.reader.boxes_of.Given as goal

abbrev pub invariant-loop-line : goal.invariant-loop-line
invariant-loop-line l = boxes_are (take l.line-index l.lines) l.found
