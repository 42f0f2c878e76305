use Rattle.std.proofs.Common.{◌≡◌, map, take}
use Rattle.std.specs.List.{enumerate_from}
use Rattle.netlist_link.specs.Linked.{own_ports}
use Rattle.plan_fitting.specs.Devices.{fit_port}
use Rattle.pin_plan.proofs.ports.fit_ports.Given as goal

abbrev pub invariant-loop-number : goal.invariant-loop-number
invariant-loop-number l = l.ports ≡ map (fit_port l.linked l.plan l.bits) (take l.number (enumerate_from 0 (own_ports l.linked)))
