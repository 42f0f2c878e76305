use Rattle.std.proofs.Common.{◌≡◌, map, take}
use Rattle.bsdl_lexicon.specs.NameKeys.{names_in}
use Rattle.bsdl_device.specs.declared.entries.PinEntry.{PinEntry}
use Rattle.bsdl_port_rules.proofs.pin_map.mapped_ports.Given as goal

abbrev pub invariant-loop-entry : goal.invariant-loop-entry
invariant-loop-entry l = names_in l.keys.items ≡ map (λ (e : PinEntry). e.port) (take l.entry-index l.entries)
