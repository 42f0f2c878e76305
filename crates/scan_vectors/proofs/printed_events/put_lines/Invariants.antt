use Rattle.std.proofs.Common.{◌≡◌, ◌++◌, map, take}
use Rattle.word_cutter.specs.Rows.{rows_text}
use Rattle.scan_vectors.specs.Canonical.{canonical_words}
use Rattle.scan_vectors.proofs.printed_events.put_lines.Given as goal

abbrev pub invariant-loop-line : goal.invariant-loop-line
invariant-loop-line l = l.text ≡ l.fn.text ++ rows_text (map canonical_words (take l.line-index l.list))
