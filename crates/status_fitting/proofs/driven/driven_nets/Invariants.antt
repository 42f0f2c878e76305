use Rattle.status_fitting.specs.Tables.{FlagsDriven}
use Rattle.status_fitting.proofs.driven.driven_nets.Given as goal

abbrev pub invariant-loop-number : goal.invariant-loop-number
invariant-loop-number l = FlagsDriven l.netlist.lists l.number l.driven.items
