use Rattle.std.proofs.Common.{◌≡◌, ◌++◌, take}
use Rattle.std.specs.Prelude.{codes}
use Rattle.verilog_tree.specs.Canonical.{each_after, port_text}
use Rattle.verilog_texts.proofs.printing.ports.put_more_ports.Given as goal

abbrev pub invariant-loop-port : goal.invariant-loop-port
invariant-loop-port l = l.text ≡ l.fn.text ++ each_after (codes ",\n") port_text (take l.port-index l.ports)
