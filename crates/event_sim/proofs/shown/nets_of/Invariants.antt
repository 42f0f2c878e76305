use Rattle.std.proofs.Common.{◌≡◌, take}
use Rattle.std.specs.List.{flat_map}
use Rattle.netlist_model.specs.Lists.{PortView}
use Rattle.event_sim.specs.Shown.{shown_of}
use Rattle.event_sim.proofs.shown.nets_of.Given as goal

abbrev pub invariant-loop-number : goal.invariant-loop-number
invariant-loop-number l = l.nets.items ≡ flat_map (λ (port : PortView). shown_of port.dir port.nets) (take l.number l.netlist.lists.ports)
