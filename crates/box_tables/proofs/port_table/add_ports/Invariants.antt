use Rattle.std.proofs.Common.{◌≡◌, ◌++◌, drop, filter}
use Rattle.box_tables.specs.CutPorts.{is_of}
use Rattle.box_tables.proofs.port_table.add_ports.Given as goal

abbrev pub invariant-loop-port : goal.invariant-loop-port
invariant-loop-port l = l.list ++ filter (is_of l.narrow) (drop l.port-index l.from) ≡ l.fn.list ++ filter (is_of l.narrow) l.from
