use Rattle.std.proofs.Common.{◌++◌, List, [], ap, ◌∙◌, subst}
use Rattle.std.specs.List.{flat_map}
use Rattle.verilog_tree.specs.declared.tree.Item.{Item}
use Rattle.hier_model.specs.Visits.{visits}
use Rattle.hier_model.specs.Walks.{Goes}
use Rattle.hier_model.specs.Entries.{level_limit, visit_entries, entry_item}
use Rattle.hier_flatten.proofs.Walks.{makes_more, makes_all, step_listed, walk_falls}
use Rattle.hier_flatten.proofs.FlatLaws.{visit_items, makes_first, path_in_slice, mapped_flat, items_step}
use Rattle.hier_flatten.proofs.flat.flat_items.Goals as goal

pub loop-walk-init : goal.loop-walk-init
loop-walk-init c =
    let top = c.args.top.now in
    let all = visits level_limit c.args.tables.now [] top in
    makes_first level_limit c.args.tables.now c.modules.result.now top visit_items _ c.new-items.result c.in_ok-walk.walk c.modules.ensures c.in_ok-walk.ensures c.requires.levels c.requires.listed
    (ap (λ (l : List Item). l ++ flat_map visit_items all) c.new-items.ensures ∙ mapped_flat entry_item visit_entries all)

pub push_step-requires : goal.push_step-requires
push_step-requires c = record {
  within = (step_listed level_limit c.args.tables.now visit_items _ c.loop-walk.walk c.next.new.self c.in-Some.step c.loop-walk.items (subst (Goes level_limit c.loop-walk.walk c.next.new.self) c.in-Some.is (c.in_ok-step.ensures.goes level_limit c.loop-walk.invariant.walks)) c.loop-walk.invariant).0;
  path = path_in_slice level_limit c.loop-walk.walk c.next.new.self c.in-Some.step c.as_slice.result.now (subst (Goes level_limit c.loop-walk.walk c.next.new.self) c.in-Some.is (c.in_ok-step.ensures.goes level_limit c.loop-walk.invariant.walks)) c.as_slice.ensures.value;
}

pub loop-walk-preserved : goal.loop-walk-preserved
loop-walk-preserved c =
    makes_more level_limit c.args.tables.now visit_items _ c.loop-walk.walk c.next.new.self c.in-Some.step c.loop-walk.items c.push_step.new.items (subst (Goes level_limit c.loop-walk.walk c.next.new.self) c.in-Some.is (c.in_ok-step.ensures.goes level_limit c.loop-walk.invariant.walks)) c.loop-walk.invariant
    (items_step c.as_slice.result.now c.next.new.self c.in-Some.step c.loop-walk.items c.push_step.new.items c.as_slice.ensures.value c.in_ok-push_step.ensures)

pub loop-walk-smaller : goal.loop-walk-smaller
loop-walk-smaller c = walk_falls level_limit c.loop-walk.walk c.next.new.self c.in-Some.step (subst (Goes level_limit c.loop-walk.walk c.next.new.self) c.in-Some.is (c.in_ok-step.ensures.goes level_limit c.loop-walk.invariant.walks))

pub returns : goal.returns
returns c =
    makes_all level_limit c.args.tables.now visit_items _ c.loop-walk.walk c.next.new.self c.loop-walk.items (subst (Goes level_limit c.loop-walk.walk c.next.new.self) c.in_default.is (c.in_ok-step.ensures.goes level_limit c.loop-walk.invariant.walks)) c.loop-walk.invariant
