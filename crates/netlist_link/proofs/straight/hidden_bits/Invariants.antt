use Rattle.std.specs.Prelude.{◌≡◌, take, drop}
use Rattle.netlist_arena.specs.Arena.{bit_count}
use Rattle.netlist_link.proofs.straight.hidden_bits.Given as goal

abbrev pub invariant-loop-place : goal.invariant-loop-place
invariant-loop-place l = l.bits ≡ bit_count (take l.place (drop l.fn.straight.first l.netlist.lists.ports))
