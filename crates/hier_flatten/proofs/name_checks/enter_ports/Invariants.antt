use Rattle.std.proofs.Common.{ℕ, List, None, take}
use Rattle.hier_model.specs.Walks.{texts}
use Rattle.hier_flatten.specs.NameChecks.{Checks, port_checks}
use Rattle.hier_flatten.proofs.name_checks.enter_ports.Given as goal

abbrev pub invariant-loop-port : goal.invariant-loop-port
invariant-loop-port l = (declared : List (List ℕ)) → Checks declared l.fn.seen (port_checks (texts l.at) (take l.port-index l.ports)) None l.seen
