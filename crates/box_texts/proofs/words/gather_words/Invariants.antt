use Rattle.std.proofs.Common.{◌≡◌, ◌++◌, length}
use Rattle.word_cutter.specs.LinesWords.{words_of}
use Rattle.texts.specs.Repeated.{texts}
use Rattle.box_texts.proofs.words.gather_words.Given as goal

abbrev pub invariant-loop-word : goal.invariant-loop-word
invariant-loop-word l = texts l.words.items ++ words_of l.left ≡ words_of l.line

abbrev pub decreases-loop-word : goal.decreases-loop-word
decreases-loop-word l = length (words_of l.left)
