use Rattle.std.proofs.Common.{◌≡◌, ◌||◌, drop}
use Rattle.std.specs.List.{list_any}
use Rattle.bsdl_lexicon.specs.Names.{is_same_name}
use Rattle.bsdl_device.specs.Ports.{port_names}
use Rattle.bsdl_port_rules.proofs.ports.is_named_as_unit.Given as goal

abbrev pub invariant-loop-port : goal.invariant-loop-port
invariant-loop-port l =
    list_any (λ name. is_same_name name l.file.entity || is_same_name name l.file.«package») (port_names (drop l.port-index l.ports))
    ≡ list_any (λ name. is_same_name name l.file.entity || is_same_name name l.file.«package») (port_names l.ports)
