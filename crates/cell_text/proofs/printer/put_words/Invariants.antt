use Rattle.std.proofs.Common.{◌≡◌, ◌++◌, take, flat_map}
use Rattle.word_cutter.specs.Rows.{behind_blank}
use Rattle.cell_text.proofs.printer.put_words.Given as goal

abbrev pub invariant-loop-word : goal.invariant-loop-word
invariant-loop-word l = l.text ≡ l.fn.text ++ flat_map behind_blank (take l.word-index l.words)
