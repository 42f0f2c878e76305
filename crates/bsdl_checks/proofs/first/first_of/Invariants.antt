use Rattle.std.proofs.Common.{◌≡◌, drop, find}
use Rattle.bsdl_checks.specs.Ordered as first
use Rattle.bsdl_checks.proofs.first.first_of.Given as goal

abbrev pub invariant-loop-kind : goal.invariant-loop-kind
invariant-loop-kind l = find (first.rule_fails l.file l.contents) (drop l.kind-index l.kinds) ≡ find (first.rule_fails l.file l.contents) l.kinds
