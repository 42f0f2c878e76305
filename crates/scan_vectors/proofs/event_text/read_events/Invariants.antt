use Rattle.std.proofs.Common.{◌≤◌, ◌+◌, length}
use Rattle.word_cutter.specs.LinesWords.{lines_of}
use Rattle.scan_vectors.specs.Reader.{IsReading}
use Rattle.scan_vectors.proofs.event_text.read_events.Given as goal

abbrev pub invariant-loop-rest : goal.invariant-loop-rest
invariant-loop-rest l = record {
  reading : IsReading l.bytes l.reader.begun l.reader.lines l.reader.lines.end (lines_of l.rest);
  count : l.reader.lines.end + length l.rest ≤ length l.bytes + 1;
}

abbrev pub decreases-loop-rest : goal.decreases-loop-rest
decreases-loop-rest l = length l.rest
