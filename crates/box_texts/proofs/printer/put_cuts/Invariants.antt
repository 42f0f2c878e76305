use Rattle.std.proofs.Common.{take}
use Rattle.box_texts.specs.Grammar.{cut_words}
use Rattle.box_texts.proofs.Written.{RowsPut}
use Rattle.box_texts.proofs.printer.put_cuts.Given as goal

abbrev pub invariant-loop-name : goal.invariant-loop-name
invariant-loop-name l = RowsPut cut_words l.fn.text (take l.name-index l.cuts) l.text
