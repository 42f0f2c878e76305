use Rattle.std.proofs.Common.{◌≡◌, take}
use Rattle.hier_flatten.proofs.flat.same_ports.Given as goal

abbrev pub invariant-loop-port : goal.invariant-loop-port
invariant-loop-port l = l.same ≡ take l.port-index l.ports
