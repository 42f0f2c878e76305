use Rattle.status_fitting.specs.Tables.{FindsWires}
use Rattle.status_fitting.proofs.wires.wires_of.Given as goal

abbrev pub invariant-loop-number : goal.invariant-loop-number
invariant-loop-number l = FindsWires l.linked.arena.lists l.number l.nets.entries
