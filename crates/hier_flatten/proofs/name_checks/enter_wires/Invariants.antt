use Rattle.std.proofs.Common.{ℕ, List, None, take}
use Rattle.hier_model.specs.Walks.{texts}
use Rattle.hier_flatten.specs.NameChecks.{Checks, wire_checks}
use Rattle.hier_flatten.proofs.name_checks.enter_wires.Given as goal

abbrev pub invariant-loop-wire : goal.invariant-loop-wire
invariant-loop-wire l = (declared : List (List ℕ)) → Checks declared l.fn.seen (wire_checks (texts l.at) (take l.wire-index l.wires)) None l.seen
