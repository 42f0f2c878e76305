use Rattle.std.proofs.Common.{◌≡◌, take}
use Rattle.cell_library.specs.Library.{operand_ports}
use Rattle.netlist_model.specs.Lists.{cell_at}
use Rattle.netlist_unlink.specs.Parts.{feeds_of}
use Rattle.netlist_unlink.specs.Trees.{naming_of, operand_links}
use Rattle.netlist_unlink.proofs.links.links_to_operands.Given as goal

abbrev pub invariant-loop-place : goal.invariant-loop-place
invariant-loop-place l = l.links ≡ take l.place (operand_links (naming_of l.linked l.prefix) (operand_ports l.linked.arena.lists.library l.kind) (feeds_of (cell_at l.linked.arena.lists l.cell.0)))
