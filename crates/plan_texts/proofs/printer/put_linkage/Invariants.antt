use Rattle.std.proofs.Common.{◌≡◌, ◌++◌, codes, map, take}
use Rattle.word_cutter.specs.Rows.{rows_text}
use Rattle.plan_texts.specs.Grammar.{tap_words}
use Rattle.plan_texts.proofs.printer.put_linkage.Given as goal

abbrev pub invariant-loop-line : goal.invariant-loop-line
invariant-loop-line l = l.text ≡ l.fn.text ++ rows_text (map (tap_words (codes "linkage")) (take l.line-index l.linkage))
