use Rattle.std.proofs.Common.{◌≡◌, ◌++◌, drop, filter}
use Rattle.texts.specs.Repeated.{texts}
use Rattle.box_tables.specs.CutPorts.{is_of, box_port_names}
use Rattle.box_tables.proofs.port_table.add_names.Given as goal

abbrev pub invariant-loop-port : goal.invariant-loop-port
invariant-loop-port l = texts l.names.items ++ box_port_names (filter (is_of l.narrow) (drop l.port-index l.from)) ≡ texts l.fn.names.items ++ box_port_names (filter (is_of l.narrow) l.from)
