use Rattle.std.proofs.Common.{drop}
use Rattle.pin_plan.specs.Tables.{AreDriversAmong}
use Rattle.pin_plan.proofs.drivers.note_each.Given as goal

abbrev pub invariant-loop-number : goal.invariant-loop-number
invariant-loop-number l = AreDriversAmong l.netlist.lists (drop l.number l.netlist.lists.cells) l.drivers
