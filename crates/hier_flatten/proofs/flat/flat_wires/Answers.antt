use Rattle.std.proofs.Common.{◌++◌, List, [], ap, ◌∙◌, subst}
use Rattle.std.specs.List.{flat_map}
use Rattle.verilog_tree.specs.declared.tree.Wire.{Wire}
use Rattle.hier_model.specs.Visits.{Visit, visits}
use Rattle.hier_model.specs.Walks.{Goes}
use Rattle.hier_model.specs.Entries.{level_limit, turn_places}
use Rattle.hier_model.specs.Flat.{place_wires}
use Rattle.hier_flatten.proofs.Walks.{makes_more, makes_all, walk_falls}
use Rattle.hier_flatten.proofs.FlatLaws.{visit_wires, makes_first, path_in_slice, nested, wires_made, wires_step}
use Rattle.hier_flatten.proofs.flat.flat_wires.Goals as goal

pub loop-walk-init : goal.loop-walk-init
loop-walk-init c =
    let top = c.args.top.now in
    let all = visits level_limit c.args.tables.now [] top in
    makes_first level_limit c.args.tables.now c.modules.result.now top visit_wires _ _ c.in_ok-walk.walk c.modules.ensures c.in_ok-walk.ensures c.requires.levels c.requires.listed
    (ap (λ (l : List Wire). l ++ flat_map visit_wires all) (wires_made top.wires c.as_slice.result.now c.new-wires.result _ c.new-wires.ensures c.as_slice.ensures c.in_ok-push_wires.ensures)
    ∙ ap (λ (l : List Wire). top.wires ++ l) (nested place_wires (λ (v : Visit). turn_places v.at v.turn) all))

pub push_opened-requires : goal.push_opened-requires
push_opened-requires c =
    path_in_slice level_limit c.loop-walk.walk c.next.new.self c.in-Some.step c.as_slice-in-Some.result.now (subst (Goes level_limit c.loop-walk.walk c.next.new.self) c.in-Some.is (c.in_ok-step.ensures.goes level_limit c.loop-walk.invariant.walks)) c.as_slice-in-Some.ensures.value

pub loop-walk-preserved : goal.loop-walk-preserved
loop-walk-preserved c =
    makes_more level_limit c.args.tables.now visit_wires _ c.loop-walk.walk c.next.new.self c.in-Some.step c.loop-walk.wires c.push_opened.new.wires (subst (Goes level_limit c.loop-walk.walk c.next.new.self) c.in-Some.is (c.in_ok-step.ensures.goes level_limit c.loop-walk.invariant.walks)) c.loop-walk.invariant
    (wires_step c.as_slice-in-Some.result.now c.next.new.self c.in-Some.step c.loop-walk.wires c.push_opened.new.wires c.as_slice-in-Some.ensures.value c.in_ok-push_opened.ensures)

pub loop-walk-smaller : goal.loop-walk-smaller
loop-walk-smaller c = walk_falls level_limit c.loop-walk.walk c.next.new.self c.in-Some.step (subst (Goes level_limit c.loop-walk.walk c.next.new.self) c.in-Some.is (c.in_ok-step.ensures.goes level_limit c.loop-walk.invariant.walks))

pub returns : goal.returns
returns c =
    makes_all level_limit c.args.tables.now visit_wires _ c.loop-walk.walk c.next.new.self c.loop-walk.wires (subst (Goes level_limit c.loop-walk.walk c.next.new.self) c.in_default.is (c.in_ok-step.ensures.goes level_limit c.loop-walk.invariant.walks)) c.loop-walk.invariant
