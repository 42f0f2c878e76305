use Rattle.std.proofs.Common.{◌≡◌, ◌++◌, take}
use Rattle.bsdl_device.specs.Canonical.{each_after, next_string, pin_entry_text}
use Rattle.bsdl_printing.proofs.head.put_more_pin_entries.Given as goal

abbrev pub invariant-loop-port : goal.invariant-loop-port
invariant-loop-port l = l.text ≡ l.fn.text ++ each_after next_string pin_entry_text (take l.port-index l.ports)
