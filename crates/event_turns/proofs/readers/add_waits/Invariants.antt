use Rattle.event_turns.specs.Tables.{AreWaits}
use Rattle.event_turns.proofs.readers.add_waits.Given as goal

abbrev pub invariant-loop-operand : goal.invariant-loop-operand
invariant-loop-operand l = AreWaits l.netlist.lists l.order l.turns l.keys.items l.owners.items l.place l.operand
