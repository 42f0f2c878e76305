use Rattle.std.proofs.Common.{sym, ◌∙◌}
use Rattle.word_cutter.proofs.Cut.{rest_is, words_from_first, no_words}
use Rattle.word_cutter.proofs.lines.words.next_word.Goals as goal

pub returns-clause-words : goal.returns-clause-words
returns-clause-words c = rw (rest_is c.word_len-end.result c.without_blanks-line.result.now, c.word_len-end.ensures.count)
    (sym c.without_blanks-line.ensures.words ∙ words_from_first c.without_blanks-line.result.now)

pub returns-clause-none : goal.returns-clause-none
returns-clause-none c h = rw (rest_is c.word_len-end.result c.without_blanks-line.result.now, c.word_len-end.ensures.count)
    (no_words c.without_blanks-line.result.now c.without_blanks-line.ensures.begins (rw c.word_len-end.ensures.count at h))
