use Rattle.std.proofs.Common.{◌≡◌, map, take}
use Rattle.verilog_tree.specs.declared.tree.Link.{Link}
use Rattle.hier_model.specs.WalkNames.{texts}
use Rattle.hier_flatten.proofs.joins.ports_of.Given as goal

abbrev pub invariant-loop-link : goal.invariant-loop-link
invariant-loop-link l = texts l.names.items ≡ map (λ (x : Link). x.port) (take l.link-index l.links)
