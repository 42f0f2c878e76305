-- What is recovered gives the same.
use Rattle.std.proofs.Common.{◌≡◌, sym, ◌∙◌, ap, Option, Some}
use Rattle.verilog_tree.specs.declared.tree.Module.{Module}
use Rattle.netlist_unlink.specs.Trees.{tree_of}
use Rattle.plan_texts.specs.declared.plan.Plan.{Plan}
use Rattle.strip_model.specs.PlansTold.{told_plan}
use Rattle.strip_model.specs.RecoveryLaw.{LawOfStripping, RecoveredIsTheNetlist, Recovers}
use Rattle.strip_model.specs.Same.{SameIsLinked}
use Rattle.strip_model.specs.Tree.{CoreIsTree}
use Rattle.strip_model.specs.Answer.{IsAnswer, RecoveredGives, RefusedByAll}

inside : (x y : Module × Plan) → ◌≡◌ {A = Option (Module × Plan)} (Some x) (Some y) → x ≡ y
inside x y e = cc

pub gives : LawOfStripping → RecoveredIsTheNetlist → SameIsLinked → CoreIsTree → RecoveredGives
gives strips netlist linked core m L p inserted d is g =
    let r : Recovers m L inserted d = strips m L p inserted d g in
    let whole : Module × Plan = (tree_of L p.prefix, told_plan L p g.at.fits.seen) in
    let one : (r.tree, r.plan) ≡ whole = inside (r.tree, r.plan) whole (sym r.found ∙ netlist m L p inserted d g) in
    let title : r.tree.name ≡ m.name = ap (λ (found : Module × Plan). found.0.name) one ∙ g.links.title in
    record {
      tree = r.tree;
      plan = r.plan;
      found = r.found;
      same = r.same;
      gives = record {
        is = core inserted r.tree d r.plan is r.found;
        listed = r.gives.listed;
        links = linked m r.tree L g.links r.same title;
        straight = r.gives.straight;
        ends = r.gives.ends;
        open_names = r.gives.open_names;
        plan = r.gives.plan;
        at = r.gives.at;
      };
    }

pub refused : RecoveredGives → RefusedByAll
refused answers library inserted d is none m L p same hides g =
    let a : IsAnswer m L inserted d = answers m L p inserted d is g in
    none (a.tree, a.plan) L same hides a.found a.gives
