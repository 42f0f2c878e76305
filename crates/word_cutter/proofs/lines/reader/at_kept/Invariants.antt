use Rattle.std.proofs.Common.{◌≡◌, ◌<◌, ◌+◌, ◌^◌, length}
use Rattle.word_cutter.specs.Ahead.{ahead_of}
use Rattle.word_cutter.proofs.lines.reader.at_kept.Given as goal

abbrev pub invariant-loop-line : goal.invariant-loop-line
invariant-loop-line l = record {
  same : ahead_of l.number l.text ≡ ahead_of l.fn.number l.fn.text;
  room : l.number + length l.text < 2 ^ 64;
}

abbrev pub decreases-loop-line : goal.decreases-loop-line
decreases-loop-line l = length l.text
