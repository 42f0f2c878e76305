-- What a module leads to, and what its place leads to in the graph.
use Rattle.std.proofs.Common.{◌≡◌, inl, inr, ℕ, zero, suc, ◌<◌, ◌≤◌, Bool, true, false, cond, ◌||◌, List, [], ◌∷◌, length, map, find, position, Option, Some, None, refl, sym, ap, subst, ◌∙◌, arith, ltb-true, ltb-false}
use Rattle.std.specs.Prelude.{slice_index_or, slice_get, nat_lt}
use Rattle.std.specs.List.{filter_map, list_any, position_or_len, cons_option}
use Rattle.std.specs.Option.{option_map}
use Rattle.std.specs.Str.{bytes_eq}
use Rattle.std.specs.Cmp.Lexicographic.{bytes_decides}
use Rattle.std.proofs.lemmas.Option.{slice_get_past}
use Rattle.std.proofs.lemmas.List.{length-map}
use Rattle.std.proofs.lemmas.List.Folds.{find_at}
use Rattle.list_laws.specs.Lists.{AreAll}
use Rattle.list_laws.proofs.Lists.{slice_get_there}
use Rattle.list_laws.proofs.Options.{some_same, none_some}
use Rattle.list_laws.proofs.Tests.{true_or_false, or_other, or_more}
use Rattle.verilog_tree.specs.declared.tree.Item.{Item}
use Rattle.verilog_tree.specs.declared.tree.Item.TheVariants as item
use Rattle.verilog_tree.specs.declared.tree.Instance.{Instance}
use Rattle.verilog_tree.specs.declared.tree.Module.{Module}
use Rattle.hier_model.specs.WalkNames.{module_place}
use Rattle.hier_model.specs.Visits.{module_named, opened_by}
use Rattle.hier_model.specs.Faults.{children, leads_to, is_same, is_reached, holds_itself}
use Rattle.hier_counts.specs.Once.{At, AreOnce}
use Rattle.hier_counts.specs.Graph.{child_place, child_places, module_graph, row, IsIn, IsClosed, Path, IsReached}

-- A place and what stands there.

-- nothing, or a place and what stands there
abbrev pub StandsAt : {X : Type 0} → List X → Option ℕ → Option X → Type 0
StandsAt xs None None = Unit {0}
StandsAt xs None (Some x) = ⊥
StandsAt xs (Some k) None = ⊥
StandsAt xs (Some k) (Some x) = slice_get xs k ≡ Some x

pub first_stands : {X : Type 0} (test : X → Bool) (xs : List X) → StandsAt xs (position test xs) (find test xs)
first_stands {X} test xs = by (nat_lt (position_or_len test xs) (length xs)) refl
  where
    by : (b : Bool) → nat_lt (position_or_len test xs) (length xs) ≡ b → StandsAt xs (position test xs) (find test xs)
    by true e =
        let t = slice_get_there xs (position_or_len test xs) (ltb-true (position_or_len test xs) (length xs) e) in
        let there : find test xs ≡ Some t.0 = find_at test xs ∙ t.1 in
        let P : Option X → Type 0 = λ o. StandsAt xs (position test xs) o in
        let Q : Bool → Type 0 = λ b. StandsAt xs (cond b (Some (position_or_len test xs)) None) (Some t.0) in
        subst P (sym there) (subst Q (sym e) t.1)
    by false e =
        let none : find test xs ≡ None = find_at test xs ∙ slice_get_past xs (position_or_len test xs) (ltb-false (position_or_len test xs) (length xs) e) in
        let P : Option X → Type 0 = λ o. StandsAt xs (position test xs) o in
        let Q : Bool → Type 0 = λ b. StandsAt xs (cond b (Some (position_or_len test xs)) None) None in
        subst P (sym none) (subst Q (sym e) tt)

-- the module that an item opens
abbrev pub opened : List Module → Item → Option Module
opened modules i = option_map (λ (o : Instance × Module). o.1) (opened_by modules i)

pub child_stands : (modules : List Module) (i : Item) → StandsAt modules (child_place modules i) (opened modules i)
child_stands modules (item.Gate g) = tt
child_stands modules (item.Instance i) = by (module_named modules i.cell) (first_stands (λ (m : Module). bytes_eq i.cell m.name) modules)
  where
    by : (o : Option Module) → StandsAt modules (module_place modules i.cell) o → StandsAt modules (module_place modules i.cell) (option_map (λ (p : Instance × Module). p.1) (option_map (λ (child : Module). (i, child)) o))
    by None h = h
    by (Some c) h = h
child_stands modules (item.Assign output input) = tt

children_stand : (modules : List Module) (items : List Item) → AreAll (λ (k : ℕ) (c : Module). At modules k c) (filter_map (child_place modules) items) (filter_map (opened modules) items)
children_stand modules [] = tt
children_stand modules (i ∷ items) = by (child_place modules i) (opened modules i) (child_stands modules i) (children_stand modules items)
  where
    by : (p : Option ℕ) (o : Option Module) → StandsAt modules p o → AreAll (λ (k : ℕ) (c : Module). At modules k c) (filter_map (child_place modules) items) (filter_map (opened modules) items)
        → AreAll (λ (k : ℕ) (c : Module). At modules k c) (cons_option p (filter_map (child_place modules) items)) (cons_option o (filter_map (opened modules) items))
    by None None h rest = rest
    by None (Some c) h rest = absurd h
    by (Some k) None h rest = absurd h
    by (Some k) (Some c) h rest = (h, rest)

-- Children, by their places.

any_kid : (modules : List Module) (p : Module → Bool) (ks : List ℕ) (cs : List Module) → AreAll (λ (k : ℕ) (c : Module). At modules k c) ks cs → list_any p cs ≡ true → (k : ℕ) × (c : Module) × IsIn k ks × At modules k c × (p c ≡ true)
any_kid modules p [] [] all h = let no : false ≡ true = h in absurd (cc)
any_kid modules p [] (c ∷ cs) all h = absurd all
any_kid modules p (k ∷ ks) [] all h = absurd all
any_kid modules p (k ∷ ks) (c ∷ cs) all h = elim (true_or_false (p c)) [
  | inl e ↦ (k, c, inl refl, all.0, e)
  | inr e ↦ let t = any_kid modules p ks cs all.1 (or_other (p c) (list_any p cs) h e) in (t.0, t.1, inr t.2, t.3, t.4)
]

kid_any : (modules : List Module) (p : Module → Bool) (ks : List ℕ) (cs : List Module) (k : ℕ) (c : Module) → AreAll (λ (k : ℕ) (c : Module). At modules k c) ks cs → IsIn k ks → At modules k c → p c ≡ true → list_any p cs ≡ true
kid_any modules p [] cs k c all listed at h = absurd listed
kid_any modules p (j ∷ ks) [] k c all listed at h = absurd all
kid_any modules p (j ∷ ks) (d ∷ cs) k c all (inl e) at h =
    let same : d ≡ c = some_same d c (slice_get modules k) (subst (λ (x : ℕ). At modules x d) e all.0) at in
    ap (λ (b : Bool). b || list_any p cs) (ap p same ∙ h)
kid_any modules p (j ∷ ks) (d ∷ cs) k c all (inr more) at h = or_more (p d) (list_any p cs) (kid_any modules p ks cs k c all.1 more at h)

kid_there : (modules : List Module) (ks : List ℕ) (cs : List Module) (k : ℕ) → AreAll (λ (k : ℕ) (c : Module). At modules k c) ks cs → IsIn k ks → (c : Module) × At modules k c
kid_there modules [] cs k all listed = absurd listed
kid_there modules (j ∷ ks) [] k all listed = absurd all
kid_there modules (j ∷ ks) (d ∷ cs) k all (inl e) = (d, subst (λ (x : ℕ). At modules x d) e all.0)
kid_there modules (j ∷ ks) (d ∷ cs) k all (inr more) = kid_there modules ks cs k all.1 more

row_of : (f : Module → List ℕ) (modules : List Module) (v : ℕ) (m : Module) → At modules v m → slice_index_or (map f modules) v [] ≡ f m
row_of f [] v m at = none_some at
row_of f (x ∷ modules) zero m at = let same : x ≡ m = cc in ap f same
row_of f (x ∷ modules) (suc v) m at = row_of f modules v m at

pub row_at : (modules : List Module) (v : ℕ) (m : Module) → At modules v m → row (module_graph modules) v ≡ child_places modules m
row_at modules v m at = row_of (child_places modules) modules v m at

kids_at : (modules : List Module) (v : ℕ) (m : Module) (w : ℕ) → At modules v m → IsIn w (row (module_graph modules) v) → (c : Module) × At modules w c
kids_at modules v m w at h = kid_there modules (child_places modules m) (children modules m) w (children_stand modules m.items) (subst (IsIn w) (row_at modules v m at) h)

at_within : (modules : List Module) (v : ℕ) (m : Module) → At modules v m → v < length modules
at_within [] v m at = none_some at
at_within (x ∷ modules) zero m at = omega arith
at_within (x ∷ modules) (suc v) m at = let low = at_within modules v m at in omega (arith, low)

-- each child is a module of the text
pub graph_closed : (modules : List Module) → IsClosed (module_graph modules)
graph_closed modules v w h = by (slice_get modules v) refl
  where
    past : (ms : List Module) (k : ℕ) → slice_get ms k ≡ None → IsIn w (slice_index_or (map (child_places modules) ms) k []) → ⊥
    past [] k none listed = listed
    past (m ∷ ms) zero none listed = let no : Some m ≡ None = none in absurd (cc)
    past (m ∷ ms) (suc k) none listed = past ms k none listed

    by : (o : Option Module) → slice_get modules v ≡ o → w < length (module_graph modules)
    by (Some m) at =
        let t = kids_at modules v m w at h in
        let low = at_within modules w t.0 t.1 in
        omega (arith, low, length-map modules (child_places modules))
    by None at = absurd (past modules v at h)

-- Paths.

path_behind : (graph : List (List ℕ)) (v u w n : ℕ) → IsIn u (row graph v) → Path graph n u w → Path graph (suc n) v w
path_behind graph v u w zero h path = (v, refl, subst (λ (x : ℕ). IsIn x (row graph v)) path h)
path_behind graph v u w (suc n) h path = (path.0, path_behind graph v u path.0 n h path.1, path.2)

same_place : (modules : List Module) (v w : ℕ) (m target : Module) → AreOnce modules → At modules v m → At modules w target → is_same target m ≡ true → v ≡ w
same_place modules v w m target once at there same = once v w m target at there ((bytes_decides m.name target.name).0 same)

path_of_lead : (modules : List Module) (w : ℕ) (target : Module) → AreOnce modules → At modules w target → (n v : ℕ) (m : Module) → At modules v m → leads_to n modules (is_same target) m ≡ true → (k : ℕ) × (k ≤ n) × Path (module_graph modules) k v w
path_of_lead modules w target once there zero v m at h = (0, omega arith, same_place modules v w m target once at there h)
path_of_lead modules w target once there (suc n) v m at h = elim (true_or_false (is_same target m)) [
  | inl e ↦ (0, omega arith, same_place modules v w m target once at there e)
  | inr e ↦
      let kid = any_kid modules (λ (c : Module). leads_to n modules (is_same target) c) (child_places modules m) (children modules m) (children_stand modules m.items) (or_other (is_same target m) (list_any (λ (c : Module). leads_to n modules (is_same target) c) (children modules m)) h e) in
      let t = path_of_lead modules w target once there n kid.0 kid.1 kid.3 kid.4 in
      (suc t.0, omega (arith, t.1), path_behind (module_graph modules) v kid.0 w t.0 (subst (IsIn kid.0) (sym (row_at modules v m at)) kid.2) t.2)
]

leads_here : (n : ℕ) (modules : List Module) (test : Module → Bool) (m : Module) → test m ≡ true → leads_to n modules test m ≡ true
leads_here zero modules test m h = h
leads_here (suc n) modules test m h = ap (λ (b : Bool). b || list_any (λ (c : Module). leads_to n modules test c) (children modules m)) h

bytes_same : (name : List ℕ) → bytes_eq name name ≡ true
bytes_same name = (bytes_decides name name).1 refl

-- a step more, from the place where the lead ends
lead_last : (modules : List Module) (u w : ℕ) (mu mw : Module) → AreOnce modules → At modules u mu → At modules w mw → IsIn w (row (module_graph modules) u) → (k v : ℕ) (m : Module) → At modules v m → is_same mu m ≡ true → leads_to (suc k) modules (is_same mw) m ≡ true
lead_last modules u w mu mw once at_u at_w edge k v m at same =
    let place : v ≡ u = same_place modules v u m mu once at at_u same in
    let listed : IsIn w (child_places modules m) = subst (IsIn w) (ap (row (module_graph modules)) (sym place) ∙ row_at modules v m at) edge in
    or_more (is_same mw m) (list_any (λ (c : Module). leads_to k modules (is_same mw) c) (children modules m))
    (kid_any modules (λ (c : Module). leads_to k modules (is_same mw) c) (child_places modules m) (children modules m) w mw (children_stand modules m.items) listed at_w (leads_here k modules (is_same mw) mw (bytes_same mw.name)))

lead_on : (modules : List Module) (u w : ℕ) (mu mw : Module) → AreOnce modules → At modules u mu → At modules w mw → IsIn w (row (module_graph modules) u) → (n v : ℕ) (m : Module) → At modules v m → leads_to n modules (is_same mu) m ≡ true → leads_to (suc n) modules (is_same mw) m ≡ true
lead_on modules u w mu mw once at_u at_w edge zero v m at h = lead_last modules u w mu mw once at_u at_w edge zero v m at h
lead_on modules u w mu mw once at_u at_w edge (suc k) v m at h = elim (true_or_false (is_same mu m)) [
  | inl same ↦ lead_last modules u w mu mw once at_u at_w edge (suc k) v m at same
  | inr other ↦
      let kid = any_kid modules (λ (c : Module). leads_to k modules (is_same mu) c) (child_places modules m) (children modules m) (children_stand modules m.items) (or_other (is_same mu m) (list_any (λ (c : Module). leads_to k modules (is_same mu) c) (children modules m)) h other) in
      or_more (is_same mw m) (list_any (λ (c : Module). leads_to (suc k) modules (is_same mw) c) (children modules m))
      (kid_any modules (λ (c : Module). leads_to (suc k) modules (is_same mw) c) (child_places modules m) (children modules m) kid.0 kid.1 (children_stand modules m.items) kid.2 kid.3
      (lead_on modules u w mu mw once at_u at_w edge k kid.0 kid.1 kid.3 kid.4))
]

-- the module at the end of a path
path_end : (modules : List Module) (v : ℕ) (m : Module) → At modules v m → (k u : ℕ) → Path (module_graph modules) k v u → (mu : Module) × At modules u mu
path_end modules v m at zero u path = (m, subst (λ (x : ℕ). At modules x m) path at)
path_end modules v m at (suc k) u path = let t = path_end modules v m at k path.0 path.1 in kids_at modules path.0 t.0 u t.1 path.2

lead_of_path : (modules : List Module) (v : ℕ) (m : Module) → AreOnce modules → At modules v m → (k n w : ℕ) (mw : Module) → k ≤ n → At modules w mw → Path (module_graph modules) k v w → leads_to n modules (is_same mw) m ≡ true
lead_of_path modules v m once at zero n w mw low there path =
    let same : m ≡ mw = some_same m mw (slice_get modules w) (subst (λ (x : ℕ). At modules x m) path at) there in
    leads_here n modules (is_same mw) m (ap (is_same mw) same ∙ bytes_same mw.name)
lead_of_path modules v m once at (suc k) zero w mw low there path = absurd (omega (arith, low))
lead_of_path modules v m once at (suc k) (suc n) w mw low there path =
    let t = path_end modules v m at k path.0 path.1 in
    lead_on modules path.0 w t.0 mw once t.1 there path.2 n v m at (lead_of_path modules v m once at k n path.0 t.0 (omega (arith, low)) t.1 path.1)

-- Marks and tests.

bool_same : (a b : Bool) → (a ≡ true → b ≡ true) → (b ≡ true → a ≡ true) → a ≡ b
bool_same true true f g = refl
bool_same true false f g = sym (f refl)
bool_same false true f g = g refl
bool_same false false f g = refl

marks_are : (f : Module → Bool) (marks : List Bool) (ms : List Module) → length marks ≡ length ms → ((k : ℕ) (m : Module) → slice_get ms k ≡ Some m → slice_index_or marks k false ≡ f m) → marks ≡ map f ms
marks_are f [] [] size each = refl
marks_are f [] (m ∷ ms) size each = absurd (omega (arith, size))
marks_are f (b ∷ marks) [] size each = absurd (omega (arith, size))
marks_are f (b ∷ marks) (m ∷ ms) size each =
    ap (λ (x : Bool). x ∷ marks) (each 0 m refl) ∙ ap (λ (l : List Bool). f m ∷ l) (marks_are f marks ms (omega (arith, size)) (λ k n at. each (suc k) n at))

pub length-graph : (modules : List Module) → length (module_graph modules) ≡ length modules
length-graph modules = length-map modules (child_places modules)

-- marks on what the top's place leads to are those of the modules that are reached
pub marks_reached : (modules : List Module) (p : ℕ) (top : Module) (marks : List Bool) → AreOnce modules → At modules p top → IsReached (module_graph modules) (p ∷ []) marks → marks ≡ map (is_reached modules top) modules
marks_reached modules p top marks once at r = marks_are (is_reached modules top) marks modules (r.sized ∙ length-graph modules) (λ k m there. bool_same (slice_index_or marks k false) (is_reached modules top m) (to k m there) (from k m there))
  where
    to : (k : ℕ) (m : Module) → At modules k m → slice_index_or marks k false ≡ true → is_reached modules top m ≡ true
    to k m there marked =
        let w = r.within k marked in
        let root : p ≡ w.root = elim w.listed [ inl e ↦ e | inr none ↦ absurd none ] in
        let few : w.steps ≤ length modules = omega (arith, w.few, length-graph modules) in
        lead_of_path modules p top once at w.steps (length modules) k m few there (subst (λ (x : ℕ). Path (module_graph modules) w.steps x k) (sym root) w.path)

    from : (k : ℕ) (m : Module) → At modules k m → is_reached modules top m ≡ true → slice_index_or marks k false ≡ true
    from k m there leads =
        let t = path_of_lead modules k m once there (length modules) p top at leads in
        r.all p t.0 k (inl refl) t.2

-- a module holds itself where its place is reached from its children
pub holds_where : (modules : List Module) (v : ℕ) (m : Module) (marks : List Bool) → AreOnce modules → At modules v m → IsReached (module_graph modules) (row (module_graph modules) v) marks → slice_index_or marks v false ≡ holds_itself modules m
holds_where modules v m marks once at r = bool_same (slice_index_or marks v false) (holds_itself modules m) to from
  where
    to : slice_index_or marks v false ≡ true → holds_itself modules m ≡ true
    to marked =
        let w = r.within v marked in
        let kid = kids_at modules v m w.root at w.listed in
        let few : w.steps ≤ length modules = omega (arith, w.few, length-graph modules) in
        kid_any modules (λ (c : Module). leads_to (length modules) modules (is_same m) c) (child_places modules m) (children modules m) w.root kid.0 (children_stand modules m.items) (subst (IsIn w.root) (row_at modules v m at) w.listed) kid.1
        (lead_of_path modules w.root kid.0 once kid.1 w.steps (length modules) v m few at w.path)

    from : holds_itself modules m ≡ true → slice_index_or marks v false ≡ true
    from holds =
        let kid = any_kid modules (λ (c : Module). leads_to (length modules) modules (is_same m) c) (child_places modules m) (children modules m) (children_stand modules m.items) holds in
        let t = path_of_lead modules v m once at (length modules) kid.0 kid.1 kid.3 kid.4 in
        r.all kid.0 t.0 v (subst (IsIn kid.0) (sym (row_at modules v m at)) kid.2) t.2

-- and then some step leads to a place from which a path leads back
pub ring_at : (modules : List Module) (v : ℕ) (m : Module) → AreOnce modules → At modules v m → holds_itself modules m ≡ true → (u : ℕ) × IsIn u (row (module_graph modules) v) × (k : ℕ) × Path (module_graph modules) k u v
ring_at modules v m once at holds =
    let kid = any_kid modules (λ (c : Module). leads_to (length modules) modules (is_same m) c) (child_places modules m) (children modules m) (children_stand modules m.items) holds in
    let t = path_of_lead modules v m once at (length modules) kid.0 kid.1 kid.3 kid.4 in
    (kid.0, subst (IsIn kid.0) (sym (row_at modules v m at)) kid.2, t.0, t.2)
