-- Names that can't stand behind others.
use Rattle.std.proofs.Common.{◌≡◌, ℕ, Bool, true, false, List, [], ◌∷◌, ◌++◌, refl, ap, sym, ◌∙◌, Option, Some, None, if◌then◌else◌}
use Rattle.std.specs.List.{list_any}
use Rattle.std.proofs.lemmas.List.{append_assoc, append-nil}
use Rattle.indexmap.specs.IndexSet.{insert_key}
use Rattle.list_laws.specs.Options.{or_else, first_in}
use Rattle.list_laws.proofs.Options.{first_in-append}
use Rattle.list_laws.proofs.Lists.{any_map}
use Rattle.bsdl_lexicon.specs.Names.{is_same_name}
use Rattle.bsdl_lexicon.specs.NameKeys.{names_in}
use Rattle.plan_texts.specs.declared.plan.Plan.{Plan}
use Rattle.plan_fitting.specs.declared.fault.FitFault.{FitFault}
use Rattle.plan_fitting.specs.declared.fault.FitFault.TheVariants as fault
use Rattle.netlist_link.specs.Linked.{LinkedView}
use Rattle.plan_fitting.specs.Names.{port_names, net_names, cell_names, hidden_names}
use Rattle.plan_fitting.specs.Fits.{is_barred, barred_after, begun_fault, names_of, tap_lines, unit_names, name_fault, prefix_fault}
use Rattle.pin_plan.specs.Names.{own_names, inner_names, name_fault_among, prefix_fault_among}
use Rattle.bsdl_lexicon.specs.declared.name_key.NameKey.{NameKey}

pub list_any-keys : (name : List ℕ) (ks : List NameKey) → list_any (λ (k : NameKey). is_same_name name k.0.now) ks ≡ list_any (is_same_name name) (names_in ks)
list_any-keys name ks = sym (any_map (is_same_name name) (λ (k : NameKey). k.0.now) ks)

names-last : (ks : List NameKey) (k : NameKey) → names_in (ks ++ k ∷ []) ≡ names_in ks ++ k.0.now ∷ []
names-last [] k = refl
names-last (j ∷ ks) k = ap (λ (l : List (List ℕ)). j.0.now ∷ l) (names-last ks k)

-- a new key stands at the end
pub new_key : (ks new : List NameKey) (k : NameKey) → list_any (is_same_name k.0.now) (names_in ks) ≡ false
    → new ≡ insert_key (λ (a b : NameKey). is_same_name a.0.now b.0.now) ks k → names_in new ≡ names_in ks ++ k.0.now ∷ []
new_key ks new k fresh is =
    ap names_in is ∙ ap (λ (b : Bool). names_in (if b then ks else ks ++ k ∷ [])) (list_any-keys k.0.now ks ∙ fresh) ∙ names-last ks k

-- the first of two lists
pub barred_after-append : (others before xs ys : List (List ℕ)) → barred_after others before (xs ++ ys) ≡ or_else (barred_after others before xs) (barred_after others (before ++ xs) ys)
barred_after-append others before [] ys = ap (λ (b : List (List ℕ)). barred_after others b ys) (sym (append-nil before))
barred_after-append others before (x ∷ xs) ys = by (is_barred others before x) (barred_after-append others (before ++ x ∷ []) xs ys)
  where
    by : (b : Bool) → barred_after others (before ++ x ∷ []) (xs ++ ys) ≡ or_else (barred_after others (before ++ x ∷ []) xs) (barred_after others ((before ++ x ∷ []) ++ xs) ys)
        → (if b then Some (fault.PlanName x) else barred_after others (before ++ x ∷ []) (xs ++ ys))
        ≡ or_else (if b then Some (fault.PlanName x) else barred_after others (before ++ x ∷ []) xs) (barred_after others (before ++ x ∷ xs) ys)
    by true more = refl
    by false more = more ∙ ap (λ (b : List (List ℕ)). or_else (barred_after others (before ++ x ∷ []) xs) (barred_after others b ys)) (append_assoc before (x ∷ []) xs)

or_else-assoc : {X : Type 0} (a b c : Option X) → or_else a (or_else b c) ≡ or_else (or_else a b) c
or_else-assoc None b c = refl
or_else-assoc (Some x) b c = refl

-- The netlist's own names.

pub names_are : (L : LinkedView) (p : Plan) → name_fault_among p (port_names L) (inner_names L) ≡ name_fault L p
names_are L p =
    let own : Option FitFault = barred_after [] [] (own_names p) in
    let ports : Option FitFault = barred_after [] (own_names p) (port_names L) in
    let rest : Option FitFault =
    or_else (barred_after (inner_names L) (unit_names L p) (names_of (tap_lines p)))
    (barred_after [] (unit_names L p ++ names_of (tap_lines p)) (names_of p.linkage)) in
    or_else-assoc own ports rest ∙ ap (λ (o : Option FitFault). or_else o rest) (sym (barred_after-append [] [] (own_names p) (port_names L)))

pub prefixes_are : (L : LinkedView) (p : Plan) → prefix_fault_among p (port_names L) (inner_names L) ≡ prefix_fault L p
prefixes_are L p =
    let test : List ℕ → Option FitFault = begun_fault p.prefix in
    let taps : List (List ℕ) = names_of (tap_lines p) in
    sym (
    ap (λ (l : List (List ℕ)). first_in test (port_names L ++ (net_names L ++ l))) (sym (append_assoc (cell_names L) (hidden_names L) taps))
    ∙ ap (λ (l : List (List ℕ)). first_in test (port_names L ++ l)) (sym (append_assoc (net_names L) (cell_names L ++ hidden_names L) taps))
    ∙ first_in-append test (port_names L) (inner_names L ++ taps)
    ∙ ap (or_else (first_in test (port_names L))) (first_in-append test (inner_names L) taps)
    )

pub names_told : (L : LinkedView) (p : Plan) (ports inner : List (List ℕ)) → ports ≡ port_names L → inner ≡ inner_names L → name_fault_among p ports inner ≡ name_fault L p
names_told L p ports inner one two =
    ap (λ (l : List (List ℕ)). name_fault_among p l inner) one ∙ ap (name_fault_among p (port_names L)) two ∙ names_are L p

pub prefixes_told : (L : LinkedView) (p : Plan) (ports inner : List (List ℕ)) → ports ≡ port_names L → inner ≡ inner_names L → prefix_fault_among p ports inner ≡ prefix_fault L p
prefixes_told L p ports inner one two =
    ap (λ (l : List (List ℕ)). prefix_fault_among p l inner) one ∙ ap (prefix_fault_among p (port_names L)) two ∙ prefixes_are L p
