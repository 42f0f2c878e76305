use Rattle.std.proofs.Common.{◌≡◌, ◌≤◌, ◌++◌, ◌-◌, length}
use Rattle.word_cutter.specs.LinesWords.{words_of}
use Rattle.status_fitting.proofs.register_texts.lines.gather_words.Given as goal

abbrev pub invariant-loop-line : goal.invariant-loop-line
invariant-loop-line l = record {
  all : l.words ++ words_of l.line ≡ words_of l.fn.line;
  few : length l.words ≤ 257;
}

abbrev pub decreases-loop-line : goal.decreases-loop-line
decreases-loop-line l = 257 - length l.words
