use Rattle.std.proofs.Common.{length}
use Rattle.box_texts.specs.Reader.{Going}
use Rattle.box_texts.proofs.reader.keep_lines.Given as goal

abbrev pub invariant-loop-line : goal.invariant-loop-line
invariant-loop-line l = Going l.fn.reader.rows l.reader.rows l.before l.kept

abbrev pub decreases-loop-line : goal.decreases-loop-line
decreases-loop-line l = length l.reader.rows
