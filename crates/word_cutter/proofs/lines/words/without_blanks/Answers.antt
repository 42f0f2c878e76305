use Rattle.word_cutter.proofs.Cut.{rest_is, words_behind_blanks, begins_behind_blanks}
use Rattle.word_cutter.proofs.lines.words.without_blanks.Goals as goal

pub returns-clause-words : goal.returns-clause-words
returns-clause-words c = rw (rest_is c.blanks_len.result c.args.line.now, c.blanks_len.ensures.count) (words_behind_blanks c.args.line.now)

pub returns-clause-begins : goal.returns-clause-begins
returns-clause-begins c = rw (rest_is c.blanks_len.result c.args.line.now, c.blanks_len.ensures.count) (begins_behind_blanks c.args.line.now)
