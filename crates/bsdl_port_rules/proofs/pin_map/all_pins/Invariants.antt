use Rattle.std.proofs.Common.{◌≡◌, take}
use Rattle.bsdl_lexicon.specs.NameKeys.{names_in}
use Rattle.bsdl_device.specs.Checks as rule
use Rattle.bsdl_port_rules.proofs.pin_map.all_pins.Given as goal

abbrev pub invariant-loop-entry : goal.invariant-loop-entry
invariant-loop-entry l = names_in l.keys.items ≡ rule.all_pins (take l.entry-index l.entries)
