use Rattle.std.proofs.Common.{◌≡◌, ◌++◌, take}
use Rattle.std.specs.List.{flat_map}
use Rattle.word_cutter.specs.Rows.{behind_blank, bytes_of_words}
use Rattle.word_cutter.proofs.lines.printed_lines.put_behind_blanks.Given as goal

abbrev pub invariant-loop-word : goal.invariant-loop-word
invariant-loop-word l = l.text ≡ l.fn.text ++ flat_map behind_blank (bytes_of_words (take l.word-index l.words))
