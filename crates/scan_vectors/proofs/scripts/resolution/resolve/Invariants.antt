use Rattle.scan_vectors.proofs.Verdicts.{IsGone}
use Rattle.scan_vectors.proofs.scripts.resolution.resolve.Given as goal

abbrev pub invariant-loop-place : goal.invariant-loop-place
invariant-loop-place l = IsGone l.linked l.lines l.place l.script l.starts
