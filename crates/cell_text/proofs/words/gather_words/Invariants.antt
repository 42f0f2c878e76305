use Rattle.std.proofs.Common.{◌≡◌, ◌≤◌, ◌++◌, ◌-◌, length}
use Rattle.word_cutter.specs.LinesWords.{words_of}
use Rattle.texts.specs.Repeated.{texts}
use Rattle.cell_text.proofs.words.gather_words.Given as goal

abbrev pub invariant-loop-line : goal.invariant-loop-line
invariant-loop-line l = record {
  all : texts l.words.items ++ words_of l.line ≡ words_of l.fn.line;
  few : length l.words.items ≤ 85;
}

abbrev pub decreases-loop-line : goal.decreases-loop-line
decreases-loop-line l = 85 - length l.words.items
