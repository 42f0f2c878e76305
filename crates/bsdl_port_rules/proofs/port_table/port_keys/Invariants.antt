use Rattle.std.proofs.Common.{◌≡◌, take}
use Rattle.bsdl_lexicon.specs.NameKeys.{names_in}
use Rattle.bsdl_device.specs.Ports.{port_names}
use Rattle.bsdl_port_rules.proofs.port_table.port_keys.Given as goal

abbrev pub invariant-loop-port : goal.invariant-loop-port
invariant-loop-port l = names_in l.keys.items ≡ port_names (take l.port-index l.ports)
