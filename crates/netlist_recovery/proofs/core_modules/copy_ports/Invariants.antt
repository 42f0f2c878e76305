use Rattle.std.proofs.Common.{◌≡◌, take}
use Rattle.netlist_recovery.proofs.core_modules.copy_ports.Given as goal

abbrev pub invariant-loop-port : goal.invariant-loop-port
invariant-loop-port l = l.copies ≡ take l.port-index l.ports
