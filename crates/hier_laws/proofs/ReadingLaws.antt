-- The values of flat nets, read at the places of a hierarchy: no two places have one occurrence.
use Rattle.std.proofs.Common.{◌≡◌, ◌≢◌, ℕ, zero, suc, ◌+◌, Bool, true, false, ◌||◌, cond, List, [], ◌∷◌, ◌++◌, map, Some, None, slice_get, refl, sym, ap, subst, ◌∙◌, codes, append_assoc}
use Rattle.std.specs.List.{flat_map, AllByRecursion}
use Rattle.std.specs.Str.{bytes_eq}
use Rattle.std.proofs.lemmas.List.Folds.{list_any-append}
use Rattle.list_laws.proofs.Bytes.{bytes_eq-same}
use Rattle.list_laws.proofs.Lists.{all_at}
use Rattle.list_laws.proofs.Tests.{or_first, or_second}
use Rattle.verilog_tree.specs.declared.tree.Module.{Module}
use Rattle.link_model.specs.Lists.{has_name}
use Rattle.link_model.specs.Nets.{bits_in, declared_nets}
use Rattle.hier_model.specs.Visits.{Turn, keeps, opens, closes, Visit, visits}
use Rattle.hier_model.specs.Names.{flat_name}
use Rattle.hier_model.specs.Entries.{Place, place, places, opened_places, turn_places, level_limit}
use Rattle.hier_model.specs.declared.fault.HierFault.{HierFault}
use Rattle.hier_model.specs.declared.fault.HierFault.TheVariants as hier
use Rattle.hier_model.specs.Faults.{NameCheck, enters, refers, turn_checks, item_checks, bad_name_after, bad_name_in, declared_flat, is_long}
use Rattle.hier_laws.specs.Solves.{own_net}
use Rattle.hier_laws.specs.SolutionsLaws.{bits_before}
use Rattle.hier_laws.specs.Readings.{ReadingExists}
use Rattle.hier_laws.proofs.Blocks.{places_resolve}
use Rattle.hier_laws.proofs.SolutionsPlaces.{opened_in, opened_behind}
use Rattle.hier_laws.proofs.FlatNames.{declared_once}

-- Names that are entered stand apart.

abbrev Fresh : List (List ℕ) → List (List ℕ) → Type 0
Fresh seen names = AllByRecursion (λ (name : List ℕ). has_name seen name ≡ false) names

abbrev Apart : List (List ℕ) → Type 0
Apart [] = Unit {0}
Apart (name ∷ names) = Fresh (name ∷ []) names × Apart names

abbrev entered : List NameCheck → List (List ℕ)
entered [] = []
entered (enters name ∷ checks) = name ∷ entered checks
entered (refers name ∷ checks) = entered checks

fresh_front : (seen more names : List (List ℕ)) → Fresh (seen ++ more) names → Fresh seen names
fresh_front seen more [] h = tt
fresh_front seen more (name ∷ names) h = (or_first (has_name seen name) (has_name more name) (sym (list_any-append (bytes_eq name) seen more) ∙ h.0), fresh_front seen more names h.1)

fresh_back : (seen more names : List (List ℕ)) → Fresh (seen ++ more) names → Fresh more names
fresh_back seen more [] h = tt
fresh_back seen more (name ∷ names) h = (or_second (has_name seen name) (has_name more name) (sym (list_any-append (bytes_eq name) seen more) ∙ h.0), fresh_back seen more names h.1)

entered_apart : (declared seen : List (List ℕ)) (checks : List NameCheck) → bad_name_after declared seen checks ≡ None → Fresh seen (entered checks) × Apart (entered checks)
entered_apart declared seen [] h = (tt, tt)
entered_apart declared seen (enters name ∷ checks) h = go (hier.FlatName name) (is_long name) (has_name seen name) refl h (λ e. entered_apart declared (seen ++ name ∷ []) checks e)
  where
    go : (f : HierFault) (a b : Bool) → has_name seen name ≡ b → cond (a || b) (Some f) (bad_name_after declared (seen ++ name ∷ []) checks) ≡ None
        → (bad_name_after declared (seen ++ name ∷ []) checks ≡ None → Fresh (seen ++ name ∷ []) (entered checks) × Apart (entered checks))
        → Fresh seen (name ∷ entered checks) × Apart (name ∷ entered checks)
    go f true b is e rest = absurd (cc)
    go f false true is e rest = absurd (cc)
    go f false false is e rest = let t = rest e in ((is, fresh_front seen (name ∷ []) (entered checks) t.0), (fresh_back seen (name ∷ []) (entered checks) t.0, t.1))
entered_apart declared seen (refers name ∷ checks) h = go (hier.FlatName name) (is_long name) (has_name declared name) h (λ e. entered_apart declared seen checks e)
  where
    go : (f : HierFault) (a b : Bool) → cond (a || b) (Some f) (bad_name_after declared seen checks) ≡ None
        → (bad_name_after declared seen checks ≡ None → Fresh seen (entered checks) × Apart (entered checks)) → Fresh seen (entered checks) × Apart (entered checks)
    go f true b e rest = absurd (cc)
    go f false true e rest = absurd (cc)
    go f false false e rest = rest e

entered_append : (xs ys : List NameCheck) → entered (xs ++ ys) ≡ entered xs ++ entered ys
entered_append [] ys = refl
entered_append (enters name ∷ xs) ys = ap (λ (l : List (List ℕ)). name ∷ l) (entered_append xs ys)
entered_append (refers name ∷ xs) ys = entered_append xs ys

apart_back : (xs ys : List (List ℕ)) → Apart (xs ++ ys) → Apart ys
apart_back [] ys h = h
apart_back (x ∷ xs) ys h = apart_back xs ys h.1

-- Names among others, in their order.

data Among : List (List ℕ) → List (List ℕ) → Type 0 where
  none : Among [] []
  skip : {xs ys : List (List ℕ)} {y : List ℕ} → Among xs ys → Among xs (y ∷ ys)
  also : {xs ys : List (List ℕ)} {x : List ℕ} → Among xs ys → Among (x ∷ xs) (x ∷ ys)

among_none : (ys : List (List ℕ)) → Among [] ys
among_none [] = none
among_none (y ∷ ys) = skip (among_none ys)

among_append : {xs ys : List (List ℕ)} (zs ws : List (List ℕ)) → Among xs ys → Among zs ws → Among (xs ++ zs) (ys ++ ws)
among_append zs ws none b = b
among_append zs ws (skip a) b = skip (among_append zs ws a b)
among_append zs ws (also a) b = also (among_append zs ws a b)

among_fresh : {xs ys : List (List ℕ)} (seen : List (List ℕ)) → Among xs ys → Fresh seen ys → Fresh seen xs
among_fresh seen none h = tt
among_fresh seen (skip a) h = among_fresh seen a h.1
among_fresh seen (also a) h = (h.0, among_fresh seen a h.1)

among_apart : {xs ys : List (List ℕ)} → Among xs ys → Apart ys → Apart xs
among_apart none h = tt
among_apart (skip a) h = among_apart a h.1
among_apart (also {xs} {ys} {x} a) h = (among_fresh (x ∷ []) a h.0, among_apart a h.1)

-- The flat name of the instance that opened an occurrence.

abbrev opener : List (List ℕ) → List ℕ
opener [] = []
opener (x ∷ []) = x
opener (x ∷ y ∷ at) = x ++ (codes "/" ++ opener (y ∷ at))

joined : (x s rest name : List ℕ) → x ++ (s ++ (rest ++ name)) ≡ ((x ++ s) ++ rest) ++ name
joined x s rest name = sym (append_assoc (x ++ s) rest name ∙ append_assoc x s (rest ++ name))

opener_last : (at : List (List ℕ)) (name : List ℕ) → opener (at ++ name ∷ []) ≡ flat_name at name
opener_last [] name = refl
opener_last (x ∷ []) name = joined x (codes "/") [] name
opener_last (x ∷ y ∷ at) name =
    ap (λ (l : List ℕ). x ++ (codes "/" ++ l)) (opener_last (y ∷ at) name)
    ∙ joined x (codes "/") (flat_map (λ (part : List ℕ). part ++ codes "/") (y ∷ at)) name

abbrev openers : List Place → List (List ℕ)
openers ps = map (λ (p : Place). opener p.at) ps

openers_append : (ps qs : List Place) → openers (ps ++ qs) ≡ openers ps ++ openers qs
openers_append [] qs = refl
openers_append (p ∷ ps) qs = ap (λ (l : List (List ℕ)). opener p.at ∷ l) (openers_append ps qs)

turn_among : (at : List (List ℕ)) (m : Module) (t : Turn) → Among (openers (turn_places at t)) (entered (turn_checks at m t))
turn_among at m (keeps i) = among_none (entered (item_checks at m i))
turn_among at m (opens i c) = subst (λ (name : List ℕ). Among (name ∷ []) (flat_name at i.name ∷ [])) (sym (opener_last at i.name)) (also none)
turn_among at m (closes i c) = none

visits_among : (vs : List Visit) → Among (openers (opened_in vs)) (entered (flat_map (λ (v : Visit). turn_checks v.at v.within v.turn) vs))
visits_among [] = none
visits_among (v ∷ vs) =
    let first : List NameCheck = turn_checks v.at v.within v.turn in
    let more : List NameCheck = flat_map (λ (w : Visit). turn_checks w.at w.within w.turn) vs in
    subst (λ (l : List (List ℕ)). Among l (entered (first ++ more))) (sym (openers_append (turn_places v.at v.turn) (opened_in vs)))
    (subst (λ (l : List (List ℕ)). Among (openers (turn_places v.at v.turn) ++ openers (opened_in vs)) l) (sym (entered_append first more))
    (among_append (openers (opened_in vs)) (entered more) (turn_among v.at v.within v.turn) (visits_among vs)))

places_apart : (modules : List Module) (top : Module) → bad_name_in modules top ≡ None → Apart (openers (opened_places modules top))
places_apart modules top h =
    let declared : List (List ℕ) = declared_flat modules top in
    let own : List NameCheck = map (λ name. enters name) declared in
    let below : List NameCheck = flat_map (λ (v : Visit). turn_checks v.at v.within v.turn) (visits level_limit modules [] top) in
    let all : Apart (entered own ++ entered below) = subst Apart (entered_append own below) (entered_apart declared [] (own ++ below) h).1 in
    among_apart (visits_among (visits level_limit modules [] top)) (apart_back (entered own) (entered below) all)

-- The first net of a place.

abbrev start_in : List Place → List ℕ → ℕ
start_in [] name = 0
start_in (p ∷ ps) name = cond (bytes_eq name (opener p.at)) 0 (bits_in (declared_nets p.here) + start_in ps name)

start_is : (ps : List Place) (k : ℕ) (p : Place) → Apart (openers ps) → slice_get ps k ≡ Some p → start_in ps (opener p.at) ≡ bits_before ps k
start_is [] k p apart there = absurd (cc)
start_is (q ∷ ps) zero p apart there =
    let same : q ≡ p = cc in
    ap (λ (b : Bool). cond b 0 (bits_in (declared_nets q.here) + start_in ps (opener p.at))) (ap (λ (r : Place). bytes_eq (opener p.at) (opener r.at)) same ∙ bytes_eq-same (opener p.at))
start_is (q ∷ ps) (suc k) p apart there =
    let other : bytes_eq (opener p.at) (opener q.at) ≡ false = or_first (bytes_eq (opener p.at) (opener q.at)) false (named_at ps k p (opener q.at ∷ []) apart.0 there) in
    ap (λ (b : Bool). cond b 0 (bits_in (declared_nets q.here) + start_in ps (opener p.at))) other
    ∙ ap (λ (n : ℕ). bits_in (declared_nets q.here) + n) (start_is ps k p apart.1 there)
  where
    named_at : (rs : List Place) (j : ℕ) (r : Place) (seen : List (List ℕ)) → Fresh seen (openers rs) → slice_get rs j ≡ Some r → has_name seen (opener r.at) ≡ false
    named_at [] j r seen fresh at = absurd (cc)
    named_at (x ∷ rs) zero r seen fresh at = let same : x ≡ r = cc in ap (λ (y : Place). has_name seen (opener y.at)) (sym same) ∙ fresh.0
    named_at (x ∷ rs) (suc j) r seen fresh at = named_at rs j r seen fresh.1 at

-- The reading.

abbrev start : List Module → Module → List (List ℕ) → ℕ
start modules top [] = 0
start modules top (x ∷ at) = bits_in (declared_nets top) + start_in (opened_places modules top) (opener (x ∷ at))

start_below : (modules : List Module) (top : Module) (at : List (List ℕ)) → at ≢ [] → start modules top at ≡ bits_in (declared_nets top) + start_in (opened_places modules top) (opener at)
start_below modules top [] below = absurd (below refl)
start_below modules top (x ∷ at) below = refl

start_at : (modules : List Module) (top : Module) (j : ℕ) (p : Place) → bad_name_in modules top ≡ None → slice_get (places modules top) j ≡ Some p → start modules top p.at ≡ bits_before (places modules top) j
start_at modules top zero p names there = let same : place [] top ≡ p = cc in ap (λ (q : Place). start modules top q.at) (sym same)
start_at modules top (suc k) p names there =
    start_below modules top p.at (all_at (λ (q : Place). q.at ≢ []) (opened_places modules top) k p (opened_behind (visits level_limit modules [] top)) there)
    ∙ ap (λ (n : ℕ). bits_in (declared_nets top) + n) (start_is (opened_places modules top) k p (places_apart modules top names) there)

pub some_reading : ReadingExists
some_reading modules top flat_value names = (
  (λ at n. flat_value (start modules top at + n)),
  (λ j p b there own.
      ap flat_value (places_resolve modules top (declared_once modules top names) j p b own.declared there own.found
      ∙ ap (λ (n : ℕ). n + own_net p.here b) (sym (start_at modules top j p names there)))),
)
