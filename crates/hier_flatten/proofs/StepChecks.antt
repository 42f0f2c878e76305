-- What a step of a walk enters and refers to.
use Rattle.std.proofs.Common.{◌≡◌, ℕ, ◌≤◌, List, [], ◌∷◌, length, map, take, Option, Some, None, Result, IsTrue, Bor, refl, sym, ap, subst, ◌∙◌}
use Rattle.std.specs.Prelude.{IfOk}
use Rattle.std.specs.List.{flat_map}
use Rattle.std.proofs.lemmas.List.{take-map}
use Rattle.std.proofs.lemmas.Result.{IfOk-weaker}
use Rattle.verilog_tree.specs.declared.tree.Instance.{Instance}
use Rattle.verilog_tree.specs.declared.tree.Item.{Item}
use Rattle.verilog_tree.specs.declared.tree.Module.{Module}
use Rattle.hier_model.specs.declared.walk.walk.Step.{Step}
use Rattle.hier_model.specs.declared.walk.walk.Walk.{Walk}
use Rattle.hier_model.specs.Visits.{Turn, keeps, opens, closes, has_levels}
use Rattle.hier_model.specs.Walks.{texts, turn_of, path_after, Goes, Begins}
use Rattle.hier_model.specs.declared.fault.HierFault.{HierFault}
use Rattle.hier_model.specs.Names.{flat_name}
use Rattle.hier_model.specs.Entries.{place, turn_places, level_limit}
use Rattle.hier_model.specs.Faults.{NameCheck, enters, item_checks, turn_checks, declared_flat, bad_name_in}
use Rattle.hier_flatten.specs.Visited.{IsListed}
use Rattle.hier_flatten.specs.NameChecks.{Checks, place_checks, checks_at}
use Rattle.hier_flatten.proofs.NameLaws.{stops}
use Rattle.hier_flatten.proofs.Walks.{visit_in}
use Rattle.hier_flatten.proofs.EnteredNames.{check_none}
use Rattle.hier_flatten.proofs.EnterLaws.{Checking, checking_first, checking_on, checking_stops, checking_ends, visit_nets, all_nets, nets_all, visit_checks, all_checks, whole_fault, early_fault, nets_seen, declared_stay}

-- a fault as it was matched
pub checks_as : (declared old new : List (List ℕ)) (checks : List NameCheck) (found matched : Option HierFault) → found ≡ matched → Checks declared old checks found new → Checks declared old checks matched new
checks_as declared old new checks found matched is c = subst (λ (o : Option HierFault). Checks declared old checks o new) is c

pub of_fixed : {E : Type 0} (declared old new : List (List ℕ)) (one other : List NameCheck) (r : Result (Option HierFault) E) → one ≡ other → IfOk r (λ found. Checks declared old one found new) → IfOk r (λ found. Checks declared old other found new)
of_fixed declared old new one other r same is =
    IfOk-weaker r (λ (found : Option HierFault). Checks declared old one found new) (λ (found : Option HierFault). Checks declared old other found new)
    (λ found c. subst (λ (cs : List NameCheck). Checks declared old cs found new) same c) is

-- One step.

pub keeps_checks : (path : List (List ℕ)) (depth : ℕ) (m n : Module) (turn : Turn) (i : Item) → path ≡ path_after (take depth path) turn → turn ≡ keeps i → n ≡ m → item_checks path n i ≡ turn_checks (take depth path) m turn
keeps_checks path depth m n turn i after is same =
    let here : path ≡ take depth path = after ∙ ap (path_after (take depth path)) is in
    ap (λ (k : Module). item_checks path k i) same
    ∙ ap (λ (at : List (List ℕ)). item_checks at m i) here
    ∙ ap (turn_checks (take depth path) m) (sym is)

pub opens_checks : (path slice : List (Bor (List ℕ))) (depth : ℕ) (m : Module) (turn : Turn) (i : Instance) (child : Module) (bytes : List ℕ) → slice ≡ take depth path → bytes ≡ i.name → turn ≡ opens i child
    → enters (flat_name (texts slice) bytes) ∷ [] ≡ turn_checks (take depth (texts path)) m turn
opens_checks path slice depth m turn i child bytes here read is =
    ap (λ (b : List ℕ). enters (flat_name (texts slice) b) ∷ []) read
    ∙ ap (λ (p : List (Bor (List ℕ))). enters (flat_name (texts p) i.name) ∷ []) here
    ∙ ap (λ (at : List (List ℕ)). enters (flat_name at i.name) ∷ []) (sym (take-map (λ (b : Bor (List ℕ)). b.now) depth path))
    ∙ ap (turn_checks (take depth (texts path)) m) (sym is)

pub closes_checks : (declared old at : List (List ℕ)) (m : Module) (turn : Turn) (i : Instance) (child : Module) → turn ≡ closes i child → Checks declared old (turn_checks at m turn) None old
closes_checks declared old at m turn i child is = subst (λ (t : Turn). Checks declared old (turn_checks at m t) None old) (sym is) (check_none declared old)

-- The loop over ports and wires.

pub nets_first : (modules own : List Module) (top : Module) (declared old mid slice : List (List ℕ)) (found : Option HierFault) (w : Walk) → own ≡ modules → Begins own top w → IsTrue (has_levels level_limit modules top) → IsListed modules top
    → slice ≡ [] → found ≡ None → Checks declared old (place_checks slice top) found mid → Checking level_limit modules visit_nets (all_nets modules top) declared old w mid
nets_first modules own top declared old mid slice found w same begins deep here none is c =
    checking_first level_limit modules own top visit_nets (all_nets modules top) (checks_at (place [] top)) declared old mid w same begins deep here refl
    (subst (λ (at : List (List ℕ)). Checks declared old (place_checks at top) None mid) none (checks_as declared old mid (place_checks slice top) found None is c))

pub nets_stop_first : (modules : List Module) (top : Module) (declared old mid slice : List (List ℕ)) (found : Option HierFault) (f : HierFault) → slice ≡ [] → found ≡ Some f → Checks declared old (place_checks slice top) found mid
    → Checks declared old (map (λ name. enters name) (declared_flat modules top)) (Some f) mid
nets_stop_first modules top declared old mid slice found f none is c =
    subst (λ (cs : List NameCheck). Checks declared old cs (Some f) mid) (nets_all modules top)
    (stops declared old (checks_at (place [] top)) _ f mid mid
    (subst (λ (at : List (List ℕ)). Checks declared old (place_checks at top) (Some f) mid) none (checks_as declared old mid (place_checks slice top) found (Some f) is c)))

-- what a step enters, by the path's slice
abbrev pub step_nets : List (Bor (List ℕ)) → Step → List NameCheck
step_nets path s = flat_map checks_at (turn_places (take s.depth (texts path)) (turn_of s.turn))

abbrev pub step_checks : List (Bor (List ℕ)) → Step → List NameCheck
step_checks path s = turn_checks (take s.depth (texts path)) s.within.now (turn_of s.turn)

pub goes_as : (old new : Walk) (step : Option Step) (s : Step) → step ≡ Some s → Goes level_limit old new step → Goes level_limit old new (Some s)
goes_as old new step s is goes = subst (Goes level_limit old new) is goes

pub ends_as : (old new : Walk) (step : Option Step) → step ≡ None → Goes level_limit old new step → Goes level_limit old new None
ends_as old new step is goes = subst (Goes level_limit old new) is goes

pub nets_on : (modules : List Module) (top : Module) (declared old mid new : List (List ℕ)) (w v : Walk) (s : Step) (path : List (Bor (List ℕ))) (found : Option HierFault) → Goes level_limit w v (Some s) → path ≡ v.path.items
    → Checking level_limit modules visit_nets (all_nets modules top) declared old w mid → found ≡ None → Checks declared mid (step_nets path s) found new → Checking level_limit modules visit_nets (all_nets modules top) declared old v new
nets_on modules top declared old mid new w v s path found goes same k is c =
    checking_on level_limit modules visit_nets (all_nets modules top) declared old mid new w v s goes k
    (subst (λ (p : List (Bor (List ℕ))). Checks declared mid (step_nets p s) None new) same (checks_as declared mid new (step_nets path s) found None is c))

pub nets_stop_on : (modules : List Module) (top : Module) (declared old mid new : List (List ℕ)) (w v : Walk) (s : Step) (path : List (Bor (List ℕ))) (found : Option HierFault) (f : HierFault) → Goes level_limit w v (Some s) → path ≡ v.path.items
    → Checking level_limit modules visit_nets (all_nets modules top) declared old w mid → found ≡ Some f → Checks declared mid (step_nets path s) found new → Checks declared old (map (λ name. enters name) (declared_flat modules top)) (Some f) new
nets_stop_on modules top declared old mid new w v s path found f goes same k is c =
    subst (λ (cs : List NameCheck). Checks declared old cs (Some f) new) (nets_all modules top)
    (checking_stops level_limit modules visit_nets (all_nets modules top) declared old mid new w v s f goes k
    (subst (λ (p : List (Bor (List ℕ))). Checks declared mid (step_nets p s) (Some f) new) same (checks_as declared mid new (step_nets path s) found (Some f) is c)))

pub nets_end : (modules : List Module) (top : Module) (declared old now : List (List ℕ)) (w v : Walk) → Goes level_limit w v None → Checking level_limit modules visit_nets (all_nets modules top) declared old w now
    → Checks declared old (map (λ name. enters name) (declared_flat modules top)) None now
nets_end modules top declared old now w v goes k =
    subst (λ (cs : List NameCheck). Checks declared old cs None now) (nets_all modules top) (checking_ends level_limit modules visit_nets (all_nets modules top) declared old now w v goes k)

-- The loop over items, behind the ports and wires.

-- all checks of the names of ports and wires
abbrev pub NetsFind : List Module → Module → List (List ℕ) → Option HierFault → List (List ℕ) → Type 0
NetsFind modules top old found new = (declared : List (List ℕ)) → Checks declared old (map (λ name. enters name) (declared_flat modules top)) found new

pub early_is : (modules : List Module) (top : Module) (old new : List (List ℕ)) (found : Option HierFault) (f : HierFault) → old ≡ [] → found ≡ Some f → NetsFind modules top old found new → Some f ≡ bad_name_in modules top
early_is modules top old new found f none is c =
    early_fault modules top new f
    (subst (λ (o : List (List ℕ)). Checks (declared_flat modules top) o (map (λ name. enters name) (declared_flat modules top)) (Some f) new) none
    (checks_as (declared_flat modules top) old new (map (λ name. enters name) (declared_flat modules top)) found (Some f) is (c (declared_flat modules top))))

nets_clear : (modules : List Module) (top : Module) (old new : List (List ℕ)) (found : Option HierFault) → old ≡ [] → found ≡ None → NetsFind modules top old found new → Checks (declared_flat modules top) [] (map (λ name. enters name) (declared_flat modules top)) None new
nets_clear modules top old new found none is c =
    subst (λ (o : List (List ℕ)). Checks (declared_flat modules top) o (map (λ name. enters name) (declared_flat modules top)) None new) none
    (checks_as (declared_flat modules top) old new (map (λ name. enters name) (declared_flat modules top)) found None is (c (declared_flat modules top)))

-- behind them the table is the list of their names
pub nets_are : (modules : List Module) (top : Module) (old new : List (List ℕ)) (found : Option HierFault) → old ≡ [] → found ≡ None → NetsFind modules top old found new → new ≡ declared_flat modules top
nets_are modules top old new found none is c = nets_seen modules top (declared_flat modules top) new (nets_clear modules top old new found none is c)

pub items_first : (modules own : List Module) (top : Module) (now : List (List ℕ)) (w : Walk) → own ≡ modules → Begins own top w → IsTrue (has_levels level_limit modules top) → IsListed modules top
    → now ≡ declared_flat modules top → Checking level_limit modules visit_checks (all_checks modules top) (declared_flat modules top) (declared_flat modules top) w now
items_first modules own top now w same begins deep here is =
    subst (λ (l : List (List ℕ)). Checking level_limit modules visit_checks (all_checks modules top) (declared_flat modules top) (declared_flat modules top) w l) (sym is)
    (checking_first level_limit modules own top visit_checks (all_checks modules top) [] (declared_flat modules top) (declared_flat modules top) (declared_flat modules top) w same begins deep here refl (check_none (declared_flat modules top) (declared_flat modules top)))

-- the names of ports and wires are the first of those that were entered
pub items_few : (modules : List Module) (top : Module) (w : Walk) (names now : List (List ℕ)) (d : ℕ) → names ≡ declared_flat modules top → d ≡ length names → Checking level_limit modules visit_checks (all_checks modules top) (declared_flat modules top) (declared_flat modules top) w now
    → (take d now ≡ declared_flat modules top) × (d ≤ length now)
items_few modules top w names now d same long k =
    declared_stay (declared_flat modules top) (declared_flat modules top) now k.made d (long ∙ ap (λ (l : List (List ℕ)). length l) same) refl k.checked

step_as : (modules : List Module) (top : Module) (mid new : List (List ℕ)) (v : Walk) (s : Step) (path : List (Bor (List ℕ))) (d : ℕ) (found matched : Option HierFault) → path ≡ v.path.items → take d mid ≡ declared_flat modules top → found ≡ matched
    → Checks (take d mid) mid (step_checks path s) found new → Checks (declared_flat modules top) mid (visit_checks (visit_in v s)) matched new
step_as modules top mid new v s path d found matched same front is c =
    subst (λ (p : List (Bor (List ℕ))). Checks (declared_flat modules top) mid (step_checks p s) matched new) same
    (subst (λ (l : List (List ℕ)). Checks l mid (step_checks path s) matched new) front (checks_as (take d mid) mid new (step_checks path s) found matched is c))

pub items_on : (modules : List Module) (top : Module) (mid new names : List (List ℕ)) (w v : Walk) (s : Step) (path : List (Bor (List ℕ))) (d : ℕ) (found : Option HierFault) → Goes level_limit w v (Some s) → path ≡ v.path.items → names ≡ declared_flat modules top → d ≡ length names
    → Checking level_limit modules visit_checks (all_checks modules top) (declared_flat modules top) (declared_flat modules top) w mid → found ≡ None → Checks (take d mid) mid (step_checks path s) found new
    → Checking level_limit modules visit_checks (all_checks modules top) (declared_flat modules top) (declared_flat modules top) v new
items_on modules top mid new names w v s path d found goes same are long k is c =
    checking_on level_limit modules visit_checks (all_checks modules top) (declared_flat modules top) (declared_flat modules top) mid new w v s goes k
    (step_as modules top mid new v s path d found None same (items_few modules top w names mid d are long k).0 is c)

pub items_stop : (modules : List Module) (top : Module) (mid new names old : List (List ℕ)) (w v : Walk) (s : Step) (path : List (Bor (List ℕ))) (d : ℕ) (found clear : Option HierFault) (f : HierFault) → Goes level_limit w v (Some s) → path ≡ v.path.items → old ≡ [] → clear ≡ None
    → NetsFind modules top old clear names → d ≡ length names → Checking level_limit modules visit_checks (all_checks modules top) (declared_flat modules top) (declared_flat modules top) w mid → found ≡ Some f → Checks (take d mid) mid (step_checks path s) found new
    → Some f ≡ bad_name_in modules top
items_stop modules top mid new names old w v s path d found clear f goes same none first nets long k is c =
    let are = nets_are modules top old names clear none first nets in
    whole_fault modules top (declared_flat modules top) new (Some f)
    (subst (λ (l : List (List ℕ)). Checks (declared_flat modules top) [] (map (λ name. enters name) (declared_flat modules top)) None l) are (nets_clear modules top old names clear none first nets))
    (checking_stops level_limit modules visit_checks (all_checks modules top) (declared_flat modules top) (declared_flat modules top) mid new w v s f goes k
    (step_as modules top mid new v s path d found (Some f) same (items_few modules top w names mid d are long k).0 is c))

pub items_end : (modules : List Module) (top : Module) (now names old : List (List ℕ)) (w v : Walk) (clear : Option HierFault) → Goes level_limit w v None → old ≡ [] → clear ≡ None → NetsFind modules top old clear names
    → Checking level_limit modules visit_checks (all_checks modules top) (declared_flat modules top) (declared_flat modules top) w now → None ≡ bad_name_in modules top
items_end modules top now names old w v clear goes none first nets k =
    let are = nets_are modules top old names clear none first nets in
    whole_fault modules top (declared_flat modules top) now None
    (subst (λ (l : List (List ℕ)). Checks (declared_flat modules top) [] (map (λ name. enters name) (declared_flat modules top)) None l) are (nets_clear modules top old names clear none first nets))
    (checking_ends level_limit modules visit_checks (all_checks modules top) (declared_flat modules top) (declared_flat modules top) now w v goes k)
