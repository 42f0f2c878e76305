use Rattle.conformance_report.proofs.Merged.{IsMerged}
use Rattle.conformance_report.proofs.checks.check_text.put_misses.Given as goal

abbrev pub invariant-loop-place : goal.invariant-loop-place
invariant-loop-place l = IsMerged l.lines l.fn.text l.misses l.place l.text l.rest
