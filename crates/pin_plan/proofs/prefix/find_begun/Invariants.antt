use Rattle.std.proofs.Common.{◌≡◌, drop}
use Rattle.texts.specs.First.{first_in}
use Rattle.texts.specs.Repeated.{texts}
use Rattle.plan_fitting.specs.Fits.{begun_fault}
use Rattle.pin_plan.proofs.prefix.find_begun.Given as goal

abbrev pub invariant-loop-name : goal.invariant-loop-name
invariant-loop-name l = first_in (begun_fault l.prefix) (texts (drop l.name-index l.names)) ≡ first_in (begun_fault l.prefix) (texts l.names)
