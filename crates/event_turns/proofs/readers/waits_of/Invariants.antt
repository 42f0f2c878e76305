use Rattle.event_turns.specs.Tables.{AreWaits}
use Rattle.event_turns.proofs.readers.waits_of.Given as goal

abbrev pub invariant-loop-place : goal.invariant-loop-place
invariant-loop-place l = AreWaits l.netlist.lists l.order l.turns l.keys.items l.owners.items l.place 0
