use Rattle.std.proofs.Common.{◌≡◌, ◌+◌, drop, length}
use Rattle.bsdl_checks.specs.Counts.{after_semicolons}
use Rattle.bsdl_checks.proofs.sections.declarations_count.Given as goal

abbrev pub invariant-loop-declaration : goal.invariant-loop-declaration
invariant-loop-declaration l = l.total + length (after_semicolons (drop l.declaration-index l.declarations)) ≡ length (after_semicolons l.declarations)
