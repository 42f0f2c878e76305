use Rattle.box_trees.proofs.Items.{open_is, hidden_counted, origins_are}
use Rattle.box_trees.proofs.opening.open.Goals as goal

pub returns-clause-tree : goal.returns-clause-tree
returns-clause-tree c =
    let rest = c.part_items-rest.result.0 in
    let left = c.part_items-rest.result.1 in
    let made = c.in_ok-gathered.gathered.made in
    open_is c.args.table.now c.args.first c.args.tree rest left made.items made.hidden made.joined c.as_slice.result.now c.in_ok-ports.ports c.in_ok-wires.wires c.part_items-rest.ensures.rest c.part_items-rest.ensures.items
    c.in_ok-gathered.ensures.items c.in_ok-gathered.ensures.hidden c.in_ok-gathered.ensures.joined c.as_slice.ensures c.in_ok-ports.ensures c.in_ok-wires.ensures

pub returns-clause-hidden : goal.returns-clause-hidden
returns-clause-hidden c = hidden_counted c.args.table.now c.args.tree c.part_items-rest.result.1 c.in_ok-gathered.gathered.made.hidden c.len-count.result c.part_items-rest.ensures.items c.in_ok-gathered.ensures.hidden c.len-count.ensures

pub returns-clause-origins : goal.returns-clause-origins
returns-clause-origins c = origins_are c.args.table.now c.args.tree c.part_items-rest.result.0 c.part_items-rest.result.1 c.in_ok-gathered.gathered.origins.items c.part_items-rest.ensures.rest c.part_items-rest.ensures.items c.in_ok-gathered.ensures.origins
