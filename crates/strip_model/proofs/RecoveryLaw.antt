-- The law: the plan that is told gives the same.
use Rattle.std.proofs.Common.{◌≡◌, List, sym, ◌∙◌, ap, subst, Option, Some, None, arith}
use Rattle.verilog_tree.specs.declared.tree.Module.{Module}
use Rattle.cell_library.specs.declared.listed.ListedCell.{ListedCell}
use Rattle.netlist_link.specs.ViewLaws.{LinkViewIsFormed, LinkViewIsNamed}
use Rattle.netlist_link.proofs.Rewrites.{few_nets}
use Rattle.netlist_unlink.specs.Trees.{tree_of}
use Rattle.netlist_unlink.proofs.Again.{denotes_same}
use Rattle.plan_texts.specs.declared.plan.Plan.{Plan}
use Rattle.plan_fitting.specs.declared.fitted.Fitted.{Fitted}
use Rattle.plan_fitting.specs.Pins.{PinSeen}
use Rattle.plan_fitting.specs.Devices.{fitted_of, device_of_fitted}
use Rattle.plan_fitting.specs.DevicesLaws.{FittedIsFitting, PrefixesAreFree}
use Rattle.netlist_arena.specs.Room.{too_many}
use Rattle.written_netlists.specs.Prepared.{room_of, ports_of, with_tap_names, AreTapNames}
use Rattle.strip_model.specs.PlansTold.{told_plan, SameIsFitted}
use Rattle.strip_model.specs.PlansAgain.{ToldPlanFits}
use Rattle.strip_model.specs.Spell.{ToldPlanIsSpelled}
use Rattle.written_netlists.specs.InsertedLaws.{with_test_logic}
use Rattle.strip_model.specs.Laid.{LinkViewIsLaidOut}
use Rattle.strip_model.specs.RecoveryLaw.{RecoveredIsTheNetlist, LawOfStripping, OneNetlistGives}
use Rattle.link_model.specs.Denoted.{denoted}
use Rattle.strip_model.proofs.Recovered.{fitting}

pub law : FittedIsFitting → RecoveredIsTheNetlist → ToldPlanFits → ToldPlanIsSpelled → SameIsFitted → PrefixesAreFree → LinkViewIsFormed → LinkViewIsNamed → LinkViewIsLaidOut → LawOfStripping
law fits_law found_law again_law spell_law same_law free_law formed_law named_law laid_law m L p inserted d g =
    let seen : List PinSeen = g.at.fits.seen in
    let f : Fitted = fitted_of L p seen in
    let q : Plan = told_plan L p seen in
    let fits = fitting fits_law m L p inserted d g in
    let again = again_law L p seen fits g.open_names in
    let same : f ≡ fitted_of L q seen = sym (same_law L p seen fits) in
    let room = few_nets L.arena.lists (room_of f) (room_of f) (ports_of f) g.at.room in
    record {
      tree = tree_of L p.prefix;
      plan = q;
      found = found_law m L p inserted d g;
      same = denotes_same m L p.prefix g.links.linkable.early
          (record { are = record { formed = formed_law m L g.is g.listed g.links; named = named_law m L g.is g.listed g.links; laid = laid_law m L g.is g.links }; is = g.links.denoted })
          (free_law L p seen fits).netlist (omega (arith, room));
      gives = record {
        is = g.is;
        listed = g.listed;
        links = g.links;
        straight = g.straight;
        ends = g.ends;
        open_names = g.open_names;
        plan = spell_law L p seen fits;
        at = record {
          fits = record { seen = seen; are_seen = again.are_seen; faultless = again.faultless };
          room = subst (λ (x : Fitted). too_many L.arena.lists (room_of x) (room_of x) (ports_of x) ≡ None) same g.at.room;
          names = g.at.names;
          names_are = subst (λ (x : Fitted). AreTapNames (with_tap_names x L.names) x g.at.names) same g.at.names_are;
          inserted_is = g.at.inserted_is ∙ ap (λ (x : Fitted). tree_of (with_test_logic L g.at.names x) p.prefix) same;
          device_is = g.at.device_is ∙ ap device_of_fitted same;
        };
      };
    }

pub one_netlist : LawOfStripping → OneNetlistGives
one_netlist strips m n L M p q inserted d library one two =
    let a = strips m L p inserted d one in
    let b = strips n M q inserted d two in
    let same : a.tree ≡ b.tree = ap (λ (found : Module × Plan). found.0) (inside (a.tree, a.plan) (b.tree, b.plan) (sym a.found ∙ b.found)) in
    sym a.same.denotes ∙ ap (denoted L.arena.lists.library) same ∙ ap (λ (l : List ListedCell). denoted l b.tree) library ∙ b.same.denotes
  where
    inside : (x y : Module × Plan) → ◌≡◌ {A = Option (Module × Plan)} (Some x) (Some y) → x ≡ y
    inside x y e = cc
