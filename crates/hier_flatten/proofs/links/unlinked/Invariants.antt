use Rattle.std.proofs.Common.{◌≡◌, drop}
use Rattle.texts.specs.Repeated.{seen}
use Rattle.hier_flatten.specs.Nets.{first_open}
use Rattle.hier_flatten.proofs.links.unlinked.Given as goal

abbrev pub invariant-loop-port : goal.invariant-loop-port
invariant-loop-port l = first_open (seen l.names) (drop l.port-index l.ports) ≡ first_open (seen l.names) l.ports
