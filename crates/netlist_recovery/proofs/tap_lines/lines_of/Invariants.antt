use Rattle.strip_model.specs.Plans.{line_of}
use Rattle.netlist_recovery.proofs.Found.{AreLeft}
use Rattle.netlist_recovery.proofs.tap_lines.lines_of.Given as goal

abbrev pub invariant-loop-port : goal.invariant-loop-port
invariant-loop-port l = AreLeft line_of l.ports l.found l.port-index
