use Rattle.std.proofs.Common.{◌++◌, ◌-◌, ℕ, length, replicate, ap, ◌∙◌}
use Rattle.std.specs.List.{flat_map}
use Rattle.std.specs.Vec.Iter.{into_iter_items, into_iter_len}
use Rattle.verilog_tree.specs.declared.tree.Module.{Module}
use Rattle.box_model.specs.Opened.{opened_item, item_ports, origins_from}
use Rattle.box_trees.specs.Opening.{item_joined}
use Rattle.box_trees.proofs.Items.{none_left_of, flat_next, flat_end, left_more, long_more, origins_next, origins_long, origins_end, not_less}
use Rattle.box_trees.proofs.opening.gather.Goals as goal

pub fill_origins-requires : goal.fill_origins-requires
fill_origins-requires c =
    not_less c.loop-item.made.items c.push_item.new.made.items (opened_item c.args.table.now c.in_ok-nets.nets c.in-Some.item) c.loop-item.origins.items c.len-count.result c.in_ok-push_item.ensures.items c.loop-item.invariant.same c.len-count.ensures

pub loop-item-preserved : goal.loop-item-preserved
loop-item-preserved c =
    let B = c.args.table.now in
    let m : Module = c.args.tree.now in
    let all = c.args.items in
    let old = c.loop-item.made in
    let new = c.push_item.new.made in
    let item = c.in-Some.item in
    let here = c.in-Some.ensures.steps in
    let left = into_iter_items c.loop-item.item-iterator in
    let rest = into_iter_items c.next.new.self in
    let items = c.in_ok-push_item.ensures.items ∙ ap (λ (n : Module). old.items ++ opened_item B n item) c.in_ok-nets.ensures in
    let joined = c.in_ok-push_item.ensures.joined ∙ ap (λ (n : Module). old.joined ++ item_joined B n item) c.in_ok-nets.ensures in
    let filled = c.in_ok-fill_origins.ensures ∙ ap (λ (n : ℕ). c.loop-item.origins.items ++ replicate (n - length c.loop-item.origins.items) c.loop-item.number) c.len-count.ensures in
    record {
      items = flat_next (opened_item B m) item left rest old.items new.items (flat_map (opened_item B m) all) here.0 c.loop-item.invariant.items items;
      hidden = flat_next (item_ports B) item left rest old.hidden new.hidden (flat_map (item_ports B) all) here.0 c.loop-item.invariant.hidden c.in_ok-push_item.ensures.hidden;
      joined = flat_next (item_joined B m) item left rest old.joined new.joined (flat_map (item_joined B m) all) here.0 c.loop-item.invariant.joined joined;
      origins = origins_next B m c.loop-item.number item left rest c.loop-item.origins.items c.fill_origins.new.origins.items old.items new.items (origins_from B m 0 all) here.0 c.loop-item.invariant.same items filled c.loop-item.invariant.origins;
      same = origins_long B m c.loop-item.number item c.loop-item.origins.items c.fill_origins.new.origins.items old.items new.items c.loop-item.invariant.same items filled;
      left = left_more item left rest c.loop-item.number (length all) here.0 c.loop-item.invariant.left;
      long = long_more item left rest (into_iter_len c.loop-item.item-iterator) (into_iter_len c.next.new.self) here.0 c.loop-item.invariant.long here.1;
    }

pub returns-clause-items : goal.returns-clause-items
returns-clause-items c =
    let none = none_left_of (into_iter_items c.loop-item.item-iterator) (into_iter_len c.loop-item.item-iterator) c.loop-item.invariant.long c.in-None.ensures.steps.0 in
    flat_end (opened_item c.args.table.now c.args.tree.now) (into_iter_items c.loop-item.item-iterator) c.loop-item.made.items _ none c.loop-item.invariant.items

pub returns-clause-hidden : goal.returns-clause-hidden
returns-clause-hidden c =
    let none = none_left_of (into_iter_items c.loop-item.item-iterator) (into_iter_len c.loop-item.item-iterator) c.loop-item.invariant.long c.in-None.ensures.steps.0 in
    flat_end (item_ports c.args.table.now) (into_iter_items c.loop-item.item-iterator) c.loop-item.made.hidden _ none c.loop-item.invariant.hidden

pub returns-clause-joined : goal.returns-clause-joined
returns-clause-joined c =
    let none = none_left_of (into_iter_items c.loop-item.item-iterator) (into_iter_len c.loop-item.item-iterator) c.loop-item.invariant.long c.in-None.ensures.steps.0 in
    flat_end (item_joined c.args.table.now c.args.tree.now) (into_iter_items c.loop-item.item-iterator) c.loop-item.made.joined _ none c.loop-item.invariant.joined

pub returns-clause-origins : goal.returns-clause-origins
returns-clause-origins c =
    let none = none_left_of (into_iter_items c.loop-item.item-iterator) (into_iter_len c.loop-item.item-iterator) c.loop-item.invariant.long c.in-None.ensures.steps.0 in
    origins_end c.args.table.now c.args.tree.now c.loop-item.number (into_iter_items c.loop-item.item-iterator) c.loop-item.origins.items _ none c.loop-item.invariant.origins
