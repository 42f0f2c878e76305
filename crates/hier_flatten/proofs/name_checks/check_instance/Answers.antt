use Rattle.std.proofs.Common.{[], ◌∷◌, Some, None, take, ap}
use Rattle.std.specs.List.{flat_map}
use Rattle.link_model.specs.Faults.{link_bits}
use Rattle.hier_model.specs.Walks.{texts}
use Rattle.hier_model.specs.Names.{flat_name}
use Rattle.hier_model.specs.Faults.{enters}
use Rattle.hier_flatten.specs.NameChecks.{net_checks}
use Rattle.hier_flatten.proofs.NameLaws.{stops}
use Rattle.hier_flatten.proofs.EnterLaws.{found_as, equal_nets}
use Rattle.hier_flatten.proofs.ReferLaws.{item_ends}
use Rattle.hier_flatten.proofs.name_checks.check_instance.Goals as goal

pub returns-in-Some : goal.returns-in-Some
returns-in-Some c =
    let around = c.args.around.now in
    let i = c.args.instance.now in
    let old = c.args.seen.now in
    let at = texts around.at.now in
    stops (take around.declared old) old (enters (flat_name at i.name) ∷ []) (net_checks at around.nets.now (flat_map link_bits i.links)) c.in-Some.fault c.enter.new.seen c.enter.new.seen
    (found_as (take around.declared old) old c.enter.new.seen i.name c.as_bytes.result.now at _ (Some c.in-Some.fault) c.as_bytes.ensures c.in-Some.is (c.in_ok-fault.ensures (take around.declared old)))

pub returns : goal.returns
returns c =
    let around = c.args.around.now in
    let i = c.args.instance.now in
    let old = c.args.seen.now in
    let mid = c.enter.new.seen in
    let at = texts around.at.now in
    item_ends old mid at around.declared around.nets.now (enters (flat_name at i.name) ∷ []) (flat_map link_bits i.links) c.refer_links.result c.requires
    (found_as (take around.declared old) old mid i.name c.as_bytes.result.now at _ None c.as_bytes.ensures c.in-None.is (c.in_ok-fault.ensures (take around.declared old)))
    (equal_nets (take around.declared mid) mid at around.nets.now (flat_map link_bits c.as_slice.result.now) (flat_map link_bits i.links) c.refer_links.result (ap (flat_map link_bits) c.as_slice.ensures) c.refer_links.ensures)
