use Rattle.conformance_report.proofs.Taps.{AreKept}
use Rattle.conformance_report.proofs.checks.tap.first_break.Given as goal

abbrev pub invariant-loop-place : goal.invariant-loop-place
invariant-loop-place l = AreKept l.device l.lines.list l.place
