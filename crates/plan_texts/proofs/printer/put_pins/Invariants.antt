use Rattle.std.proofs.Common.{◌≡◌, ◌++◌, map, take}
use Rattle.word_cutter.specs.Rows.{rows_text}
use Rattle.plan_texts.specs.Grammar.{pin_words}
use Rattle.plan_texts.proofs.printer.put_pins.Given as goal

abbrev pub invariant-loop-line : goal.invariant-loop-line
invariant-loop-line l = l.text ≡ l.fn.text ++ rows_text (map pin_words (take l.line-index l.pins))
