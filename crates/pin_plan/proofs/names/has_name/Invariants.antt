use Rattle.std.proofs.Common.{◌≡◌, drop}
use Rattle.texts.specs.Repeated.{has_name, texts}
use Rattle.pin_plan.proofs.names.has_name.Given as goal

abbrev pub invariant-loop-other : goal.invariant-loop-other
invariant-loop-other l = has_name (texts (drop l.other-index l.names)) l.name ≡ has_name (texts l.names) l.name
