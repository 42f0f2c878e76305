use Rattle.std.proofs.Common.{[], ◌∷◌, filter, refl}
use Rattle.box_tables.specs.Links.{is_linked, lent_links}
use Rattle.box_tables.proofs.Steps.{gathered_next, gathered_end, filter_step}
use Rattle.box_tables.proofs.link_table.linked_of.Goals as goal

pub loop-link-preserved : goal.loop-link-preserved
loop-link-preserved c =
    gathered_next (filter is_linked) (λ l. filter is_linked (l ∷ [])) (filter_step is_linked) c.args.links.now c.loop-link.link-index c.link-item.result (lent_links c.loop-link.linked.items) (lent_links c.add_linked.new.linked.items) (filter is_linked c.args.links.now)
    c.loop-link-test.true c.link-item.is c.loop-link.invariant c.in_ok-add_linked.ensures

pub returns : goal.returns
returns c =
    gathered_end (filter is_linked) (λ l. filter is_linked (l ∷ [])) (filter_step is_linked) refl c.args.links.now c.loop-link.link-index (lent_links c.loop-link.linked.items) (filter is_linked c.args.links.now) c.loop-link-test.false c.loop-link.invariant
