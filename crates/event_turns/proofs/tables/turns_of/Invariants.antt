use Rattle.event_turns.proofs.Classes.{IsTurnedUpTo}
use Rattle.event_turns.proofs.tables.turns_of.Given as goal

abbrev pub invariant-loop-place : goal.invariant-loop-place
invariant-loop-place l = IsTurnedUpTo l.netlist.lists l.order l.place l.late.items l.turns.items l.firsts.items
