-- A loop over a walk that looks at links: how it begins, and what a step's instance comes to.
use Rattle.std.proofs.Common.{◌≡◌, ℕ, ◌≤◌, List, [], ◌∷◌, ◌++◌, length, take, Option, Some, IsTrue, Bor, sym, ap, subst, ◌∙◌, arith, length-append}
use Rattle.std.proofs.lemmas.List.{length-map, take-map, length-take}
use Rattle.list_laws.specs.Options.{first_in}
use Rattle.verilog_tree.specs.declared.tree.Instance.{Instance}
use Rattle.verilog_tree.specs.declared.tree.Module.{Module}
use Rattle.hier_model.specs.declared.walk.walk.Step.{Step}
use Rattle.hier_model.specs.declared.walk.walk.Walk.{Walk}
use Rattle.hier_model.specs.Visits.{opens, Visit, visits, has_levels}
use Rattle.hier_model.specs.Walks.{texts, turn_of, path_after, Goes, went, Begins}
use Rattle.hier_model.specs.declared.fault.HierFault.{HierFault}
use Rattle.hier_model.specs.Faults.{turn_link}
use Rattle.hier_flatten.specs.Visited.{IsListed, AreListed}
use Rattle.hier_flatten.proofs.Listed.{visits_listed}
use Rattle.hier_flatten.proofs.Walks.{Looks}

pub begins_looking : {X : Type 0} (levels : ℕ) (modules own : List Module) (top : Module) (w : Walk) (test : Visit → Option X) → own ≡ modules → Begins own top w → IsTrue (has_levels levels modules top) → IsListed modules top
    → Looks levels modules test (first_in test (visits levels modules [] top)) w
begins_looking levels modules own top w test same begins is listed =
    let b : Begins modules top w = subst (λ (ms : List Module). Begins ms top w) same begins in record {
      walks = b.walks levels is;
      listed = subst (AreListed modules) (sym (b.all levels is)) (visits_listed levels modules [] top listed);
      rest = ap (first_in test) (b.all levels is);
    }

-- the occurrence of an instance that opens is part of the path
pub opened_within : (levels : ℕ) (old new : Walk) (s : Step) (i : Instance) (m : Module) → Goes levels old new (Some s) → turn_of s.turn ≡ opens i m → s.depth ≤ length new.path.items
opened_within levels old new s i m (went left walks after) is =
    let long : texts new.path.items ≡ take s.depth (texts new.path.items) ++ i.name ∷ [] = after ∙ ap (path_after (take s.depth (texts new.path.items))) is in
    let all = ap (λ (l : List (List ℕ)). length l) long in
    let parts = length-append (take s.depth (texts new.path.items)) (i.name ∷ []) in
    let front = length-take s.depth (texts new.path.items) in
    let same = length-map new.path.items (λ (n : Bor (List ℕ)). n.now) in
    omega (arith, all, parts, front, same)

pub opened_link : (path at : List (Bor (List ℕ))) (s : Step) (i : Instance) (m : Module) (fault : Option HierFault) → at ≡ take s.depth path → turn_of s.turn ≡ opens i m → fault ≡ turn_link (texts at) s.within.now (opens i m)
    → turn_link (take s.depth (texts path)) s.within.now (turn_of s.turn) ≡ fault
opened_link path at s i m fault here is found =
    ap (turn_link (take s.depth (texts path)) s.within.now) is
    ∙ ap (λ (a : List (List ℕ)). turn_link a s.within.now (opens i m)) (take-map (λ (n : Bor (List ℕ)). n.now) s.depth path ∙ ap texts (sym here))
    ∙ sym found
