-- The places of visits and entries are places of the hierarchy.
use Rattle.std.proofs.Common.{◌≡◌, ◌≢◌, ℕ, zero, suc, Bool, true, false, cond, List, [], ◌∷◌, ◌++◌, Option, Some, None, slice_get, refl, sym, ap, subst, ◌⊎◌, inl, inr}
use Rattle.std.specs.List.{flat_map, AllByRecursion}
use Rattle.std.specs.Option.{option_map_or}
use Rattle.std.proofs.lemmas.Grind.{flat_map-append}
use Rattle.list_laws.proofs.Lists.{all_append}
use Rattle.verilog_tree.specs.declared.tree.Dir.{Dir}
use Rattle.verilog_tree.specs.declared.tree.Bit.{Bit}
use Rattle.verilog_tree.specs.declared.tree.Operand.{Operand}
use Rattle.verilog_tree.specs.declared.tree.Operand.TheVariants as operand
use Rattle.verilog_tree.specs.declared.tree.Port.{Port}
use Rattle.link_model.specs.Cells.{linked_operand}
use Rattle.verilog_tree.specs.declared.tree.Instance.{Instance}
use Rattle.verilog_tree.specs.declared.tree.Item.{Item}
use Rattle.verilog_tree.specs.declared.tree.Module.{Module}
use Rattle.hier_model.specs.Visits.{Turn, keeps, opens, closes, Visit, visit, opened_by, item_visits, visits}
use Rattle.hier_model.specs.Entries.{Place, place, inner_place, turn_places, places, level_limit, Entry, stays, carries, entries, visit_entries, turn_entries, links_in, inwards, outwards, bits_of, spread, is_in, is_out}

-- a place is one of these
abbrev pub Stands : Place → List Place → Type 0
Stands p [] = ⊥
Stands p (q ∷ ps) = (q ≡ p) ⊎ Stands p ps

stands_front : (p : Place) (xs ys : List Place) → Stands p xs → Stands p (xs ++ ys)
stands_front p [] ys h = absurd h
stands_front p (x ∷ xs) ys (inl h) = inl h
stands_front p (x ∷ xs) ys (inr h) = inr (stands_front p xs ys h)

stands_back : (p : Place) (xs ys : List Place) → Stands p ys → Stands p (xs ++ ys)
stands_back p [] ys h = h
stands_back p (x ∷ xs) ys h = inr (stands_back p xs ys h)

pub stands_at : (p : Place) (ps : List Place) → Stands p ps → (k : ℕ) × (slice_get ps k ≡ Some p)
stands_at p [] h = absurd h
stands_at p (x ∷ ps) (inl h) = (zero, ap (λ (q : Place). Some q) h)
stands_at p (x ∷ ps) (inr h) = let t = stands_at p ps h in (suc t.0, t.1)

abbrev pub opened_in : List Visit → List Place
opened_in vs = flat_map (λ (v : Visit). turn_places v.at v.turn) vs

-- the places of a turn
abbrev pub TurnStands : List (List ℕ) → Turn → List Place → Type 0
TurnStands at (keeps i) ps = Unit {0}
TurnStands at (opens i child) ps = Stands (inner_place at i child) ps
TurnStands at (closes i child) ps = Stands (inner_place at i child) ps

abbrev pub VisitStands : List Place → Visit → Type 0
VisitStands ps v = Stands (place v.at v.within) ps × TurnStands v.at v.turn ps

turn_more : (at : List (List ℕ)) (t : Turn) (ps qs : List Place) → ((p : Place) → Stands p ps → Stands p qs) → TurnStands at t ps → TurnStands at t qs
turn_more at (keeps i) ps qs more h = tt
turn_more at (opens i child) ps qs more h = more _ h
turn_more at (closes i child) ps qs more h = more _ h

all_more : (vs : List Visit) (ps qs : List Place) → ((p : Place) → Stands p ps → Stands p qs) → AllByRecursion (VisitStands ps) vs → AllByRecursion (VisitStands qs) vs
all_more [] ps qs more h = tt
all_more (v ∷ vs) ps qs more h = ((more _ h.0.0, turn_more v.at v.turn ps qs more h.0.1), all_more vs ps qs more h.1)

flat_opened : (xs ys : List Visit) → opened_in (xs ++ ys) ≡ opened_in xs ++ opened_in ys
flat_opened xs ys = flat_map-append (λ (v : Visit). turn_places v.at v.turn) xs ys

abbrev pub made : (List (List ℕ) → Module → List Visit) → List (List ℕ) → Module → Item → Option (Instance × Module) → List Visit
made below at m i o = option_map_or (λ p. visit at m (opens p.0 p.1) ∷ (below (at ++ p.0.name ∷ []) p.1 ++ visit at m (closes p.0 p.1) ∷ [])) o (visit at m (keeps i) ∷ [])

-- what stands for an item
made_stands : (below : List (List ℕ) → Module → List Visit) (at : List (List ℕ)) (m : Module) (i : Item) (o : Option (Instance × Module))
    → ((a : List (List ℕ)) (c : Module) → AllByRecursion (VisitStands (place a c ∷ opened_in (below a c))) (below a c))
    → AllByRecursion (VisitStands (place at m ∷ opened_in (made below at m i o))) (made below at m i o)
made_stands below at m i None under = ((inl refl, tt), tt)
made_stands below at m i (Some (j, c)) under =
    let inner : List Visit = below (at ++ j.name ∷ []) c in
    let last : List Visit = visit at m (closes j c) ∷ [] in
    let all : List Place = place at m ∷ opened_in (visit at m (opens j c) ∷ (inner ++ last)) in
    ((inl refl, inr (inl refl)), all_append (VisitStands all) inner last (all_more inner (inner_place at j c ∷ opened_in inner) all wider (under (at ++ j.name ∷ []) c)) ((inl refl, inr (inl refl)), tt))
  where
    rest : (p : Place) → Stands p (opened_in (below (at ++ j.name ∷ []) c)) → Stands p (opened_in (below (at ++ j.name ∷ []) c ++ visit at m (closes j c) ∷ []))
    rest p h =
        let P : List Place → Type 0 = λ l. Stands p l in
        subst P (sym (flat_opened (below (at ++ j.name ∷ []) c) (visit at m (closes j c) ∷ []))) (stands_front p (opened_in (below (at ++ j.name ∷ []) c)) _ h)

    wider : (p : Place) → Stands p (inner_place at j c ∷ opened_in (below (at ++ j.name ∷ []) c)) → Stands p (place at m ∷ opened_in (visit at m (opens j c) ∷ (below (at ++ j.name ∷ []) c ++ visit at m (closes j c) ∷ [])))
    wider p (inl h) = inr (inl h)
    wider p (inr h) = inr (inr (rest p h))

items_stand : (below : List (List ℕ) → Module → List Visit) (modules : List Module) (at : List (List ℕ)) (m : Module) (is : List Item)
    → ((a : List (List ℕ)) (c : Module) → AllByRecursion (VisitStands (place a c ∷ opened_in (below a c))) (below a c))
    → AllByRecursion (VisitStands (place at m ∷ opened_in (flat_map (item_visits below modules at m) is))) (flat_map (item_visits below modules at m) is)
items_stand below modules at m [] under = tt
items_stand below modules at m (i ∷ is) under =
    let first : List Visit = item_visits below modules at m i in
    let more : List Visit = flat_map (item_visits below modules at m) is in
    let all : List Place = place at m ∷ opened_in (first ++ more) in
    all_append (VisitStands all) first more
    (all_more first (place at m ∷ opened_in first) all front (made_stands below at m i (opened_by modules i) under))
    (all_more more (place at m ∷ opened_in more) all back (items_stand below modules at m is under))
  where
    front : (p : Place) → Stands p (place at m ∷ opened_in (item_visits below modules at m i)) → Stands p (place at m ∷ opened_in (item_visits below modules at m i ++ flat_map (item_visits below modules at m) is))
    front p (inl h) = inl h
    front p (inr h) =
        let P : List Place → Type 0 = λ l. Stands p l in
        inr (subst P (sym (flat_opened (item_visits below modules at m i) (flat_map (item_visits below modules at m) is))) (stands_front p (opened_in (item_visits below modules at m i)) _ h))

    back : (p : Place) → Stands p (place at m ∷ opened_in (flat_map (item_visits below modules at m) is)) → Stands p (place at m ∷ opened_in (item_visits below modules at m i ++ flat_map (item_visits below modules at m) is))
    back p (inl h) = inl h
    back p (inr h) =
        let P : List Place → Type 0 = λ l. Stands p l in
        inr (subst P (sym (flat_opened (item_visits below modules at m i) (flat_map (item_visits below modules at m) is))) (stands_back p (opened_in (item_visits below modules at m i)) _ h))

pub visits_stand : (levels : ℕ) (modules : List Module) (at : List (List ℕ)) (m : Module) → AllByRecursion (VisitStands (place at m ∷ opened_in (visits levels modules at m))) (visits levels modules at m)
visits_stand zero modules at m = tt
visits_stand (suc levels) modules at m = items_stand (λ a c. visits levels modules a c) modules at m m.items (λ a c. visits_stand levels modules a c)

-- The places of an entry.

abbrev pub EntryStands : List Place → Entry → Type 0
EntryStands ps (stays p i) = Stands p ps
EntryStands ps (carries p b q o) = Stands p ps × Stands q ps

inwards_stand : (ps : List Place) (outer inner : Place) (bs : List Bit) (os : List Operand) → Stands outer ps → Stands inner ps → AllByRecursion (EntryStands ps) (inwards outer inner bs os)
inwards_stand ps outer inner [] os a b = tt
inwards_stand ps outer inner (x ∷ bs) [] a b = tt
inwards_stand ps outer inner (x ∷ bs) (o ∷ os) a b = ((b, a), inwards_stand ps outer inner bs os a b)

outwards_stand : (ps : List Place) (outer inner : Place) (bs : List Bit) (os : List Operand) → Stands outer ps → Stands inner ps → AllByRecursion (EntryStands ps) (outwards outer inner bs os)
outwards_stand ps outer inner [] os a b = tt
outwards_stand ps outer inner (x ∷ bs) [] a b = tt
outwards_stand ps outer inner (x ∷ bs) (operand.Bit c ∷ os) a b = ((a, b), outwards_stand ps outer inner bs os a b)
outwards_stand ps outer inner (x ∷ bs) (operand.Const v ∷ os) a b = outwards_stand ps outer inner bs os a b

links_stand : (ps : List Place) (test : Dir → Bool) (join : List Bit → List Operand → List Entry) (m : Module) (i : Instance) (ports : List Port) → ((bs : List Bit) (os : List Operand) → AllByRecursion (EntryStands ps) (join bs os)) → AllByRecursion (EntryStands ps) (links_in test join m i ports)
links_stand ps test join m i [] each = tt
links_stand ps test join m i (p ∷ ports) each = all_append (EntryStands ps) _ (links_in test join m i ports) (go (test p.dir) (linked_operand i.links p.name)) (links_stand ps test join m i ports each)
  where
    go : (b : Bool) (o : Option Operand) → AllByRecursion (EntryStands ps) (cond b (option_map_or (λ x. join (bits_of p.name p.range) (spread m x)) o []) [])
    go false o = tt
    go true None = tt
    go true (Some o) = each (bits_of p.name p.range) (spread m o)

turn_stands : (ps : List Place) (at : List (List ℕ)) (m : Module) (t : Turn) → Stands (place at m) ps → TurnStands at t ps → AllByRecursion (EntryStands ps) (turn_entries at m t)
turn_stands ps at m (keeps i) a b = (a, tt)
turn_stands ps at m (opens i c) a b = links_stand ps is_in (inwards (place at m) (inner_place at i c)) m i c.ports (λ bs os. inwards_stand ps (place at m) (inner_place at i c) bs os a b)
turn_stands ps at m (closes i c) a b = links_stand ps is_out (outwards (place at m) (inner_place at i c)) m i c.ports (λ bs os. outwards_stand ps (place at m) (inner_place at i c) bs os a b)

visits_entries : (ps : List Place) (vs : List Visit) → AllByRecursion (VisitStands ps) vs → AllByRecursion (EntryStands ps) (flat_map visit_entries vs)
visits_entries ps [] h = tt
visits_entries ps (v ∷ vs) h = all_append (EntryStands ps) (visit_entries v) (flat_map visit_entries vs) (turn_stands ps v.at v.within v.turn h.0.0 h.0.1) (visits_entries ps vs h.1)

-- the places of each entry are places of the hierarchy
pub entries_stand : (modules : List Module) (top : Module) → AllByRecursion (EntryStands (places modules top)) (entries modules top)
entries_stand modules top = visits_entries (places modules top) (visits level_limit modules [] top) (visits_stand level_limit modules [] top)

-- Nothing but the top has the empty occurrence.

pub opened_behind : (vs : List Visit) → AllByRecursion (λ (p : Place). p.at ≢ []) (opened_in vs)
opened_behind [] = tt
opened_behind (v ∷ vs) = all_append (λ (p : Place). p.at ≢ []) (turn_places v.at v.turn) (opened_in vs) (turn_behind v.at v.turn) (opened_behind vs)
  where
    some : (at : List (List ℕ)) (name : List ℕ) → (at ++ name ∷ []) ≢ []
    some [] name h = cc
    some (x ∷ at) name h = cc

    turn_behind : (at : List (List ℕ)) (t : Turn) → AllByRecursion (λ (p : Place). p.at ≢ []) (turn_places at t)
    turn_behind at (keeps i) = tt
    turn_behind at (opens i c) = (some at i.name, tt)
    turn_behind at (closes i c) = tt
