use Rattle.std.proofs.Common.{◌≡◌, drop}
use Rattle.link_model.specs.Lists.{first_in}
use Rattle.link_model.specs.Nets.{declared_names}
use Rattle.link_rules.specs.Links.{found_item}
use Rattle.link_rules.proofs.clocks.derived.first_derived.Given as goal

abbrev pub invariant-loop-number : goal.invariant-loop-number
invariant-loop-number l = first_in (found_item l.netlist.lists.library l.marks (declared_names l.tree)) (drop l.number l.tree.items) ≡ first_in (found_item l.netlist.lists.library l.marks (declared_names l.tree)) l.tree.items
