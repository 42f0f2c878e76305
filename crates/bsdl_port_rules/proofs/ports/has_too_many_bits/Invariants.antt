use Rattle.std.proofs.Common.{◌≡◌, ◌+◌, drop}
use Rattle.bsdl_device.specs.Ports.{port_bits}
use Rattle.bsdl_port_rules.proofs.ports.has_too_many_bits.Given as goal

abbrev pub invariant-loop-port : goal.invariant-loop-port
invariant-loop-port l = port_bits l.ports + l.left ≡ 4096 + port_bits (drop l.port-index l.ports)
