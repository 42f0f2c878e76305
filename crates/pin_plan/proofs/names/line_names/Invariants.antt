use Rattle.std.proofs.Common.{◌≡◌, take}
use Rattle.texts.specs.Repeated.{texts}
use Rattle.plan_fitting.specs.Fits.{names_of}
use Rattle.pin_plan.proofs.names.line_names.Given as goal

abbrev pub invariant-loop-line : goal.invariant-loop-line
invariant-loop-line l = texts l.names.items ≡ names_of (take l.line-index l.lines)
