use Rattle.std.proofs.Common.{◌≡◌, map, take}
use Rattle.bsdl_device.specs.Denoted as denoted
use Rattle.bsdl_checks.proofs.describe.ports_of.Given as goal

abbrev pub invariant-loop-port : goal.invariant-loop-port
invariant-loop-port l = l.made ≡ map (denoted.port_of l.entries) (take l.port-index l.ports)
