use Rattle.std.proofs.Common.{◌≡◌, ◌++◌, take}
use Rattle.std.specs.List.{flat_map}
use Rattle.verilog_tree.specs.Canonical.{wire_text}
use Rattle.verilog_texts.proofs.printing.ports.put_wires.Given as goal

abbrev pub invariant-loop-wire : goal.invariant-loop-wire
invariant-loop-wire l = l.text ≡ l.fn.text ++ flat_map wire_text (take l.wire-index l.wires)
