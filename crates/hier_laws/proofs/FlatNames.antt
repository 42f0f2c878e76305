-- What the checks of flat names let through: names that aren't too long, and declared ones that stand once.
use Rattle.std.proofs.Common.{◌≡◌, ℕ, ◌≤◌, Bool, true, false, ◌||◌, cond, nat_lt, List, [], ◌∷◌, ◌++◌, length, map, Some, None, refl, subst, arith}
use Rattle.std.specs.List.{flat_map, AllByRecursion}
use Rattle.list_laws.proofs.Lists.{all_front, all_back}
use Rattle.verilog_tree.specs.declared.tree.Module.{Module}
use Rattle.link_model.specs.Lists.{has_name, repeated, repeated_after}
use Rattle.link_model.specs.Nets.{NetDeclaration, declared_nets}
use Rattle.hier_model.specs.Visits.{Visit, visits}
use Rattle.hier_model.specs.Entries.{level_limit}
use Rattle.hier_model.specs.Flat.{flat}
use Rattle.hier_model.specs.declared.fault.HierFault.{HierFault}
use Rattle.hier_model.specs.declared.fault.HierFault.TheVariants as hier
use Rattle.hier_model.specs.Faults.{NameCheck, enters, refers, turn_checks, bad_name_after, bad_name_in, declared_flat, is_long}
use Rattle.hier_laws.proofs.OwnBits.{all_flat, all_mapped, declared_names_are}

-- a name that isn't too long
abbrev pub IsFit : List ℕ → Type 0
IsFit name = length name ≤ 255

abbrev pub CheckFits : NameCheck → Type 0
CheckFits (enters name) = IsFit name
CheckFits (refers name) = IsFit name

short : (n : ℕ) → nat_lt 255 n ≡ false → n ≤ 255
short n h = grind arith

fits : (name : List ℕ) → is_long name ≡ false → IsFit name
fits name h = short (length name) h

checks_fit : (declared seen : List (List ℕ)) (checks : List NameCheck) → bad_name_after declared seen checks ≡ None → AllByRecursion CheckFits checks
checks_fit declared seen [] h = tt
checks_fit declared seen (enters name ∷ checks) h = go (hier.FlatName name) (is_long name) (has_name seen name) refl h (λ e. checks_fit declared (seen ++ name ∷ []) checks e)
  where
    go : (f : HierFault) (a b : Bool) → is_long name ≡ a → cond (a || b) (Some f) (bad_name_after declared (seen ++ name ∷ []) checks) ≡ None
        → (bad_name_after declared (seen ++ name ∷ []) checks ≡ None → AllByRecursion CheckFits checks) → IsFit name × AllByRecursion CheckFits checks
    go f true b is e rest = absurd (cc)
    go f false true is e rest = absurd (cc)
    go f false false is e rest = (fits name is, rest e)
checks_fit declared seen (refers name ∷ checks) h = go (hier.FlatName name) (is_long name) (has_name declared name) refl h (λ e. checks_fit declared seen checks e)
  where
    go : (f : HierFault) (a b : Bool) → is_long name ≡ a → cond (a || b) (Some f) (bad_name_after declared seen checks) ≡ None
        → (bad_name_after declared seen checks ≡ None → AllByRecursion CheckFits checks) → IsFit name × AllByRecursion CheckFits checks
    go f true b is e rest = absurd (cc)
    go f false true is e rest = absurd (cc)
    go f false false is e rest = (fits name is, rest e)

names_once : (declared seen names : List (List ℕ)) (more : List NameCheck) → bad_name_after declared seen (map (λ name. enters name) names ++ more) ≡ None → repeated_after seen names ≡ None
names_once declared seen [] more h = refl
names_once declared seen (name ∷ names) more h = go (hier.FlatName name) (is_long name) (has_name seen name) h (λ e. names_once declared (seen ++ name ∷ []) names more e)
  where
    go : (f : HierFault) (a b : Bool) → cond (a || b) (Some f) (bad_name_after declared (seen ++ name ∷ []) (map (λ x. enters x) names ++ more)) ≡ None
        → (bad_name_after declared (seen ++ name ∷ []) (map (λ x. enters x) names ++ more) ≡ None → repeated_after (seen ++ name ∷ []) names ≡ None)
        → cond b (Some name) (repeated_after (seen ++ name ∷ []) names) ≡ None
    go f true b e rest = absurd (cc)
    go f false true e rest = absurd (cc)
    go f false false e rest = rest e

abbrev below_checks : List Module → Module → List NameCheck
below_checks modules top = flat_map (λ (v : Visit). turn_checks v.at v.within v.turn) (visits level_limit modules [] top)

-- no declared name of the flat module stands twice
pub declared_once : (modules : List Module) (top : Module) → bad_name_in modules top ≡ None → repeated (map (λ (n : NetDeclaration). n.name) (declared_nets (flat modules top))) ≡ None
declared_once modules top h =
    subst (λ (names : List (List ℕ)). repeated names ≡ None) (declared_names_are modules top)
    (names_once (declared_flat modules top) [] (declared_flat modules top) (below_checks modules top) h)

pub declared_fit : (modules : List Module) (top : Module) → bad_name_in modules top ≡ None → AllByRecursion IsFit (declared_flat modules top)
declared_fit modules top h =
    let all = checks_fit (declared_flat modules top) [] (map (λ name. enters name) (declared_flat modules top) ++ below_checks modules top) h in
    all_mapped CheckFits (λ name. enters name) (declared_flat modules top) (all_front CheckFits (map (λ name. enters name) (declared_flat modules top)) (below_checks modules top) all)

pub turns_fit : (modules : List Module) (top : Module) → bad_name_in modules top ≡ None
    → AllByRecursion (λ (v : Visit). AllByRecursion CheckFits (turn_checks v.at v.within v.turn)) (visits level_limit modules [] top)
turns_fit modules top h =
    let all = checks_fit (declared_flat modules top) [] (map (λ name. enters name) (declared_flat modules top) ++ below_checks modules top) h in
    all_flat CheckFits (λ (v : Visit). turn_checks v.at v.within v.turn) (visits level_limit modules [] top)
    (all_back CheckFits (map (λ name. enters name) (declared_flat modules top)) (below_checks modules top) all)
