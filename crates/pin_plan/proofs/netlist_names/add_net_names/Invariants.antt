use Rattle.std.proofs.Common.{◌≡◌, ◌++◌, take}
use Rattle.std.specs.List.{filter_map, enumerate_from}
use Rattle.texts.specs.Repeated.{texts}
use Rattle.pin_plan.specs.Names.{net_name_if}
use Rattle.pin_plan.proofs.netlist_names.add_net_names.Given as goal

abbrev pub invariant-loop-number : goal.invariant-loop-number
invariant-loop-number l =
    texts l.names.items ≡ texts l.initial.names.items ++ filter_map (net_name_if l.linked l.are_hidden) (take l.number (enumerate_from 0 l.linked.arena.lists.nets))
