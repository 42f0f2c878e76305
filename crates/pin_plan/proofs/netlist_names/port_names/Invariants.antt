use Rattle.std.proofs.Common.{◌≡◌, [], ◌++◌, take}
use Rattle.std.specs.List.{filter_map}
use Rattle.netlist_model.specs.Lists.{PortView}
use Rattle.link_model.specs.Denoted.{name_bytes}
use Rattle.netlist_link.specs.Linked.{own_ports}
use Rattle.texts.specs.Repeated.{texts}
use Rattle.pin_plan.proofs.netlist_names.port_names.Given as goal

abbrev pub invariant-loop-number : goal.invariant-loop-number
invariant-loop-number l = texts l.names.items ≡ [] ++ filter_map (λ (p : PortView). name_bytes l.linked.names p.name) (take l.number (own_ports l.linked))
