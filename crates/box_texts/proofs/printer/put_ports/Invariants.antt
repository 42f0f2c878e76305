use Rattle.std.proofs.Common.{take}
use Rattle.box_texts.proofs.Written.{PortsPut}
use Rattle.box_texts.proofs.printer.put_ports.Given as goal

abbrev pub invariant-loop-port : goal.invariant-loop-port
invariant-loop-port l = PortsPut l.fn.text l.dir (take l.port-index l.ports) l.text
