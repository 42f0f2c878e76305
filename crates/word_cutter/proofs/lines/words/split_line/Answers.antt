use Rattle.std.proofs.Common.{◌+◌, length}
use Rattle.word_cutter.proofs.Cut.{rest_is, line_within, line_to_end}
use Rattle.word_cutter.proofs.lines.words.split_line.Goals as goal

pub returns-then-end-text-clause-lines : goal.returns-then-end-text-clause-lines
returns-then-end-text-clause-lines c = rw (rest_is (c.line_len-end.result + 1) c.args.text.now, c.line_len-end.ensures.count)
    (line_within c.args.text.now (rw c.line_len-end.ensures.count at c.if-end-text.true))

pub returns-else-end-text-clause-lines : goal.returns-else-end-text-clause-lines
returns-else-end-text-clause-lines c = rw (rest_is (length c.args.text.now) c.args.text.now)
    (line_to_end c.args.text.now c.requires (rw c.line_len-end.ensures.count at c.if-end-text.false))
