use Rattle.std.proofs.Common.{◌≡◌, None, take}
use Rattle.std.specs.List.{flat_map}
use Rattle.link_model.specs.Faults.{link_bits}
use Rattle.hier_model.specs.Walks.{texts}
use Rattle.hier_model.specs.Faults.{bad_name_after}
use Rattle.hier_flatten.specs.NameChecks.{net_checks}
use Rattle.hier_flatten.proofs.name_checks.refer_links.Given as goal

abbrev pub invariant-loop-link : goal.invariant-loop-link
invariant-loop-link l = None ≡ bad_name_after (take l.around.declared l.seen) l.seen (net_checks (texts l.around.at.now) l.around.nets.now (flat_map link_bits (take l.link-index l.links)))
