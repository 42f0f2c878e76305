use Rattle.word_cutter.specs.LinesWords.{words_of}
use Rattle.status_fitting.proofs.RegisterTextsWords.{front_some, front_none}
use Rattle.status_fitting.proofs.register_texts.lines.words_in.Goals as goal

pub returns-then-is_word_count : goal.returns-then-is_word_count
returns-then-is_word_count c =
    front_some (words_of c.args.line.now) c.in_ok-words.words c.len.result c.is_word_count.result c.in_ok-words.ensures c.len.ensures c.is_word_count.ensures c.if-is_word_count.true

pub returns-else-is_word_count : goal.returns-else-is_word_count
returns-else-is_word_count c =
    front_none (words_of c.args.line.now) c.in_ok-words.words c.len.result c.is_word_count.result c.in_ok-words.ensures c.len.ensures c.is_word_count.ensures c.if-is_word_count.false
