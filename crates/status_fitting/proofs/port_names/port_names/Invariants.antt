use Rattle.status_fitting.specs.Tables.{FlagsPorts}
use Rattle.status_fitting.proofs.port_names.port_names.Given as goal

abbrev pub invariant-loop-number : goal.invariant-loop-number
invariant-loop-number l = FlagsPorts l.linked.names l.linked.arena.lists l.number l.flags.items
