use Rattle.netlist_unlink.specs.Trees.{naming_of}
use Rattle.netlist_unlink.proofs.ItemLaws.{AreItems}
use Rattle.netlist_unlink.proofs.cells.tree_items.Given as goal

abbrev pub invariant-loop-number : goal.invariant-loop-number
invariant-loop-number l = AreItems (naming_of l.linked l.prefix) l.linked.arena.lists.cells l.number l.seen l.items
