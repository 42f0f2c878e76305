use Rattle.std.proofs.Common.{◌≡◌, map, take}
use Rattle.netlist_model.specs.Lists.{cell_at}
use Rattle.netlist_unlink.specs.Parts.{feeds_of}
use Rattle.netlist_unlink.specs.Trees.{naming_of, operand_of}
use Rattle.netlist_unlink.proofs.parts.cell_inputs.Given as goal

abbrev pub invariant-loop-place : goal.invariant-loop-place
invariant-loop-place l = l.inputs ≡ map (operand_of (naming_of l.linked l.prefix)) (take l.place (feeds_of (cell_at l.linked.arena.lists l.cell.0)))
