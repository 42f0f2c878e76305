use Rattle.std.proofs.Common.{◌≤◌, ℕ, List, Option, Some, length, take, Bor, length-take-le, ap, sym, subst, ◌∙◌}
use Rattle.hier_model.specs.declared.walk.walk.Step.{Step}
use Rattle.hier_model.specs.Visits.{Visit}
use Rattle.hier_model.specs.Walks.{turn_of, Goes}
use Rattle.hier_model.specs.Entries.{level_limit}
use Rattle.hier_model.specs.Faults.{turn_link, bad_link_in}
use Rattle.hier_flatten.proofs.Walks.{look_found, looks_on}
use Rattle.hier_flatten.proofs.LinkWalks.{begins_looking, opened_within, opened_link}
use Rattle.hier_flatten.proofs.links.find_bad_link.Goals as goal

pub loop-walk-init : goal.loop-walk-init
loop-walk-init c =
    begins_looking level_limit c.args.tables.now c.modules.result.now c.args.top.now c.in_ok-walk.walk (λ (v : Visit). turn_link v.at v.within v.turn) c.modules.ensures c.in_ok-walk.ensures c.requires.levels c.requires.listed

pub slice_bounds-at-end : goal.slice_bounds-at-end
slice_bounds-at-end c =
    let old = c.loop-walk.walk in
    let new = c.next.new.self in
    let step = c.in-Some.step in
    let goes : Goes level_limit old new (Some step) = subst (λ (s : Option Step). Goes level_limit old new s) c.in-Some.is (c.in_ok-step.ensures.goes level_limit c.loop-walk.invariant.walks) in
    let within = opened_within level_limit old new step c.in-Opens.instance.now c.in-Opens.child.now goes (ap turn_of c.in-Opens.is) in
    sym (length-take-le step.depth c.as_slice.result.now (subst (λ (l : List (Bor (List ℕ))). step.depth ≤ length l) (sym c.as_slice.ensures.value) within))

pub returns-in-Some-2 : goal.returns-in-Some-2
returns-in-Some-2 c =
    let old = c.loop-walk.walk in
    let new = c.next.new.self in
    let step = c.in-Some.step in
    let goes : Goes level_limit old new (Some step) = subst (λ (s : Option Step). Goes level_limit old new s) c.in-Some.is (c.in_ok-step.ensures.goes level_limit c.loop-walk.invariant.walks) in
    let told = opened_link new.path.items (take step.depth c.as_slice.result.now) step c.in-Opens.instance.now c.in-Opens.child.now c.in_ok-fault.field-0 (ap (take step.depth) c.as_slice.ensures.value) (ap turn_of c.in-Opens.is) c.in_ok-fault.ensures in
    sym (look_found level_limit c.args.tables.now (λ (v : Visit). turn_link v.at v.within v.turn) (bad_link_in c.args.tables.now c.args.top.now) old new step c.in-Some-2.fault goes c.loop-walk.invariant (told ∙ c.in-Some-2.is))

pub loop-walk-preserved-in-None : goal.loop-walk-preserved-in-None
loop-walk-preserved-in-None c =
    let old = c.loop-walk.walk in
    let new = c.next.new.self in
    let step = c.in-Some.step in
    let goes : Goes level_limit old new (Some step) = subst (λ (s : Option Step). Goes level_limit old new s) c.in-Some.is (c.in_ok-step.ensures.goes level_limit c.loop-walk.invariant.walks) in
    let told = opened_link new.path.items (take step.depth c.as_slice.result.now) step c.in-Opens.instance.now c.in-Opens.child.now c.in_ok-fault.field-0 (ap (take step.depth) c.as_slice.ensures.value) (ap turn_of c.in-Opens.is) c.in_ok-fault.ensures in
    looks_on level_limit c.args.tables.now (λ (v : Visit). turn_link v.at v.within v.turn) (bad_link_in c.args.tables.now c.args.top.now) old new step goes c.loop-walk.invariant (told ∙ c.in-None.is)
