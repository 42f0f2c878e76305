use Rattle.std.proofs.Common.{◌≡◌, ◌++◌, take}
use Rattle.std.specs.List.{filter_map}
use Rattle.texts.specs.Repeated.{texts}
use Rattle.plan_fitting.specs.Names.{name_of_cell}
use Rattle.pin_plan.proofs.netlist_names.add_cell_names.Given as goal

abbrev pub invariant-loop-number : goal.invariant-loop-number
invariant-loop-number l = texts l.names.items ≡ texts l.initial.names.items ++ filter_map (name_of_cell l.linked.names) (take l.number l.linked.arena.lists.cells)
