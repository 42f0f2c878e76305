-- A loop over a walk: what was made and what the rest makes are what all make.
use Rattle.std.proofs.Common.{◌≡◌, ℕ, ◌<◌, List, ◌++◌, length, Option, Some, None, sym, ap, subst, ◌∙◌, arith, append_assoc, append-nil}
use Rattle.std.specs.List.{flat_map}
use Rattle.list_laws.specs.Options.{or_else, first_in}
use Rattle.verilog_tree.specs.declared.tree.Module.{Module}
use Rattle.hier_model.specs.declared.walk.walk.Step.{Step}
use Rattle.hier_model.specs.declared.walk.walk.Walk.{Walk}
use Rattle.hier_model.specs.Visits.{Visit}
use Rattle.hier_model.specs.Walks.{texts, Walks, left_in, visit_of, Goes, ended, went}
use Rattle.hier_flatten.specs.Visited.{IsListedVisit, AreListed}

-- the visit of a step
abbrev pub visit_in : Walk → Step → Visit
visit_in w s = visit_of (texts w.path.items) s

-- what a loop knows before each step
pub record Makes {X : Type 0} (levels : ℕ) (modules : List Module) (make : Visit → List X) (all : List X) (w : Walk) (made : List X) : Type 0 where
  pub walks : Walks levels w
  pub listed : AreListed modules (left_in levels w)
  pub rest : made ++ flat_map make (left_in levels w) ≡ all

-- a step, of which its visit's part is made
pub makes_more : {X : Type 0} (levels : ℕ) (modules : List Module) (make : Visit → List X) (all : List X) (old new : Walk) (s : Step) (made next : List X) → Goes levels old new (Some s) → Makes levels modules make all old made
    → next ≡ made ++ make (visit_in new s) → Makes levels modules make all new next
makes_more {X} levels modules make all old new s made next (went left walks after) m is = record {
  walks = walks;
  listed = (subst (AreListed modules) left m.listed).1;
  rest =
      ap (λ (l : List X). l ++ flat_map make (left_in levels new)) is
      ∙ append_assoc made (make (visit_in new s)) (flat_map make (left_in levels new))
      ∙ ap (λ (vs : List Visit). made ++ flat_map make vs) (sym left)
      ∙ m.rest;
}

-- the step's visit is of modules that are listed
pub step_listed : {X : Type 0} (levels : ℕ) (modules : List Module) (make : Visit → List X) (all : List X) (old new : Walk) (s : Step) (made : List X) → Goes levels old new (Some s) → Makes levels modules make all old made → IsListedVisit modules (visit_in new s)
step_listed levels modules make all old new s made (went left walks after) m = (subst (AreListed modules) left m.listed).0

-- at the end all is made
pub makes_all : {X : Type 0} (levels : ℕ) (modules : List Module) (make : Visit → List X) (all : List X) (old new : Walk) (made : List X) → Goes levels old new None → Makes levels modules make all old made → made ≡ all
makes_all {X} levels modules make all old new made (ended none) m = sym (append-nil made) ∙ ap (λ (vs : List Visit). made ++ flat_map make vs) (sym none) ∙ m.rest

-- the measure falls
pub walk_falls : (levels : ℕ) (old new : Walk) (s : Step) → Goes levels old new (Some s) → length (left_in levels new) < length (left_in levels old)
walk_falls levels old new s (went left walks after) = let long = ap (λ (vs : List Visit). length vs) left in omega (arith, long)

-- A loop that looks for the first fault.

pub record Looks {X : Type 0} (levels : ℕ) (modules : List Module) (test : Visit → Option X) (all : Option X) (w : Walk) : Type 0 where
  pub walks : Walks levels w
  pub listed : AreListed modules (left_in levels w)
  pub rest : first_in test (left_in levels w) ≡ all

pub looks_on : {X : Type 0} (levels : ℕ) (modules : List Module) (test : Visit → Option X) (all : Option X) (old new : Walk) (s : Step) → Goes levels old new (Some s) → Looks levels modules test all old → test (visit_in new s) ≡ None → Looks levels modules test all new
looks_on {X} levels modules test all old new s (went left walks after) m none = record {
  walks = walks;
  listed = (subst (AreListed modules) left m.listed).1;
  rest = ap (λ (o : Option X). or_else o (first_in test (left_in levels new))) (sym none) ∙ ap (first_in test) (sym left) ∙ m.rest;
}

pub look_listed : {X : Type 0} (levels : ℕ) (modules : List Module) (test : Visit → Option X) (all : Option X) (old new : Walk) (s : Step) → Goes levels old new (Some s) → Looks levels modules test all old → IsListedVisit modules (visit_in new s)
look_listed levels modules test all old new s (went left walks after) m = (subst (AreListed modules) left m.listed).0

pub look_found : {X : Type 0} (levels : ℕ) (modules : List Module) (test : Visit → Option X) (all : Option X) (old new : Walk) (s : Step) (x : X) → Goes levels old new (Some s) → Looks levels modules test all old → test (visit_in new s) ≡ Some x → all ≡ Some x
look_found {X} levels modules test all old new s x (went left walks after) m some =
    sym (ap (λ (o : Option X). or_else o (first_in test (left_in levels new))) (sym some) ∙ ap (first_in test) (sym left) ∙ m.rest)

pub look_none : {X : Type 0} (levels : ℕ) (modules : List Module) (test : Visit → Option X) (all : Option X) (old new : Walk) → Goes levels old new None → Looks levels modules test all old → all ≡ None
look_none levels modules test all old new (ended none) m = sym (ap (first_in test) (sym none) ∙ m.rest)
