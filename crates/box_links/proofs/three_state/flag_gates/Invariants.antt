use Rattle.std.proofs.Common.{take}
use Rattle.box_links.specs.ThreeState.{FlagsGates}
use Rattle.box_links.proofs.three_state.flag_gates.Given as goal

abbrev pub invariant-loop-number : goal.invariant-loop-number
invariant-loop-number l = FlagsGates l.netlist.lists (take l.number l.netlist.lists.cells) l.flags
