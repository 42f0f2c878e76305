use Rattle.std.proofs.Common.{not, [], ◌∷◌, refl}
use Rattle.verilog_tree.specs.declared.tree.Link.{Link}
use Rattle.box_model.specs.Ports as model
use Rattle.box_tables.proofs.Steps.{gathered_next, gathered_end, filter_step}
use Rattle.box_trees.proofs.item_opening.other_links.Goals as goal

pub loop-link-preserved : goal.loop-link-preserved
loop-link-preserved c =
    let ports = c.args.ports.now in
    gathered_next (model.other_links ports) (λ (k : Link). model.other_links ports (k ∷ [])) (filter_step (λ (k : Link). not (model.is_port_of ports k))) c.args.links.now c.loop-link.link-index c.link-item.result c.loop-link.others c.push_other.new.links
    (model.other_links ports c.args.links.now) c.loop-link-test.true c.link-item.is c.loop-link.invariant c.in_ok-push_other.ensures

pub returns : goal.returns
returns c =
    let ports = c.args.ports.now in
    gathered_end (model.other_links ports) (λ (k : Link). model.other_links ports (k ∷ [])) (filter_step (λ (k : Link). not (model.is_port_of ports k))) refl c.args.links.now c.loop-link.link-index c.loop-link.others (model.other_links ports c.args.links.now)
    c.loop-link-test.false c.loop-link.invariant
