-- What a search has found, as it goes on.
use Rattle.std.proofs.Common.{◌≡◌, ◌≢◌, inl, inr, ℕ, zero, suc, ◌+◌, ◌<◌, ◌≤◌, Bool, true, false, cond, if◌then◌else◌, List, [], ◌∷◌, ◌++◌, length, length-set, replicate, Some, None, refl, sym, ap, subst, ◌∙◌, arith, length-append}
use Rattle.std.specs.Prelude.{slice_index_or, slice_get, slice_set, count_by}
use Rattle.std.proofs.lemmas.List.{get_or-set_other, get_or-set_same}
use Rattle.std.proofs.lemmas.List.Sums.{sum_by-set, sum_by-cons, count_by-le-length}
use Rattle.std.proofs.lemmas.Option.{slice_get_within}
use Rattle.std.proofs.lemmas.Bool.Decides.{eqb_tells}
use Rattle.list_laws.specs.Marks.{Marked}
use Rattle.list_laws.proofs.Marks.{mark_all-keeps, marked_inside}
use Rattle.list_laws.proofs.Lists.{at_push, last_push, before_push, slice_get_there}
use Rattle.list_laws.proofs.Options.{some_same}
use Rattle.hier_counts.specs.Graph.{row, IsIn, IsClosed, Path, Within, IsReached}
use Rattle.hier_counts.specs.Search.{Seen, with_place, with_places}

-- marks, and places that were found
abbrev seen : List Bool → List ℕ → Seen
seen marks found = record { marks = marks; found = found }

pub record IsSearch (graph : List (List ℕ)) (roots : List ℕ) (s : Seen) : Type 0 where
  pub sized : length s.marks ≡ length graph
  pub listed : (v : ℕ) → Marked s.marks v → (i : ℕ) × (slice_get s.found i ≡ Some v)
  pub marked : (i v : ℕ) → slice_get s.found i ≡ Some v → Marked s.marks v
  pub counted : count_by (λ (b : Bool). b) s.marks ≡ length s.found
  pub within : (i v : ℕ) → slice_get s.found i ≡ Some v → Within graph roots i v

within_more : (graph : List (List ℕ)) (roots : List ℕ) (a b v : ℕ) → a ≤ b → Within graph roots a v → Within graph roots b v
within_more graph roots a b v low w = record { root = w.root; listed = w.listed; steps = w.steps; few = omega (arith, w.few); path = w.path }

-- one more mark
mark_kept : (marks : List Bool) (u v : ℕ) → Marked marks v → Marked (slice_set marks u true) v
mark_kept marks u v q = mark_all-keeps (u ∷ []) marks v q

new_counted : (marks : List Bool) (v : ℕ) → v < length marks → slice_index_or marks v false ≡ false → count_by (λ (b : Bool). b) (slice_set marks v true) ≡ count_by (λ (b : Bool). b) marks + 1
new_counted marks v low new =
    let f : Bool → ℕ = λ b. cond b 1 0 in
    let s : count_by (λ (b : Bool). b) (slice_set marks v true) + f (slice_index_or marks v false) ≡ count_by (λ (b : Bool). b) marks + 1 = sum_by-set f marks v true false low in
    let none : f (slice_index_or marks v false) ≡ 0 = ap f new in
    omega (arith, s, none)

-- The state after a place is seen.

place_new : (graph : List (List ℕ)) (roots : List ℕ) (marks : List Bool) (found : List ℕ) (v : ℕ) → IsSearch graph roots (record { marks = marks; found = found }) → v < length graph → Within graph roots (length found) v → slice_index_or marks v false ≡ false
    → IsSearch graph roots (record { marks = slice_set marks v true; found = found ++ v ∷ [] })
place_new graph roots marks found v is low here new = record {
  sized = length-set marks v true ∙ is.sized;
  listed = λ w m. elim (eqb_tells w v) [
    | inl e ↦ (length found, last_push found v ∙ ap (λ (x : ℕ). Some x) (sym e.1))
    | inr e ↦ let old = is.listed w (sym (get_or-set_other marks v w true false e.1) ∙ m) in (old.0, before_push found (v ∷ []) w old.0 old.1)
  ];
  marked = λ i w at. elim (at_push found v w i at) [
    | inl e ↦ subst (λ (x : ℕ). Marked (slice_set marks v true) x) e.1 (get_or-set_same marks v true false inside)
    | inr e ↦ mark_kept marks v w (is.marked i w e.1)
  ];
  counted =
      let more = new_counted marks v inside new in
      let was = is.counted in
      omega (arith, more, was, length-append found (v ∷ []));
  within = λ i w at. elim (at_push found v w i at) [
    | inl e ↦ subst (λ (x : ℕ). Within graph roots i x) e.1 (subst (λ (n : ℕ). Within graph roots n v) (sym e.0) here)
    | inr e ↦ is.within i w e.1
  ];
}
  where
    inside : v < length marks
    inside = omega (arith, is.sized, low)

place_seen : (graph : List (List ℕ)) (roots : List ℕ) (s : Seen) (v : ℕ) → IsSearch graph roots s → v < length graph → Within graph roots (length s.found) v → IsSearch graph roots (with_place v s)
place_seen graph roots s v is low here = by (slice_index_or s.marks v false) refl
  where
    by : (b : Bool) → slice_index_or s.marks v false ≡ b → IsSearch graph roots (if b then s else record { marks = slice_set s.marks v true; found = s.found ++ v ∷ [] })
    by true e = is
    by false e = place_new graph roots s.marks s.found v is low here e

-- a place that is seen is marked, and what was found stays
pub record Grows (old new : Seen) : Type 0 where
  pub longer : length old.found ≤ length new.found
  pub kept : (i v : ℕ) → slice_get old.found i ≡ Some v → slice_get new.found i ≡ Some v
  pub marks : (v : ℕ) → Marked old.marks v → Marked new.marks v
  pub same_size : length new.marks ≡ length old.marks

grows_same : (s : Seen) → Grows s s
grows_same s = record { longer = omega arith; kept = λ i v at. at; marks = λ v m. m; same_size = refl }

grows_on : (a b c : Seen) → Grows a b → Grows b c → Grows a c
grows_on a b c one two = record {
  longer = omega (arith, one.longer, two.longer);
  kept = λ i v at. two.kept i v (one.kept i v at);
  marks = λ v m. two.marks v (one.marks v m);
  same_size = two.same_size ∙ one.same_size;
}

pub place_grows : (s : Seen) (v : ℕ) → Grows s (with_place v s)
place_grows s v = by (slice_index_or s.marks v false)
  where
    by : (b : Bool) → Grows s (if b then s else record { marks = slice_set s.marks v true; found = s.found ++ v ∷ [] })
    by true = grows_same s
    by false = record {
      longer = omega (arith, length-append s.found (v ∷ []));
      kept = λ i w at. before_push s.found (v ∷ []) w i at;
      marks = λ w m. mark_kept s.marks v w m;
      same_size = length-set s.marks v true;
    }

place_marked : (s : Seen) (v : ℕ) → v < length s.marks → Marked (with_place v s).marks v
place_marked s v low = by (slice_index_or s.marks v false) refl
  where
    by : (b : Bool) → slice_index_or s.marks v false ≡ b → Marked (if b then s else record { marks = slice_set s.marks v true; found = s.found ++ v ∷ [] }).marks v
    by true e = e
    by false e = get_or-set_same s.marks v true false low

pub places_grow : (vs : List ℕ) (s : Seen) → Grows s (with_places vs s)
places_grow [] s = grows_same s
places_grow (v ∷ vs) s = grows_on s (with_place v s) (with_places vs (with_place v s)) (place_grows s v) (places_grow vs (with_place v s))

pub places_marked : (vs : List ℕ) (s : Seen) (w : ℕ) → IsIn w vs → w < length s.marks → Marked (with_places vs s).marks w
places_marked [] s w listed low = absurd listed
places_marked (v ∷ vs) s w (inl e) low =
    (places_grow vs (with_place v s)).marks w (subst (λ (x : ℕ). Marked (with_place v s).marks x) e (place_marked s v (subst (λ (x : ℕ). x < length s.marks) (sym e) low)))
places_marked (v ∷ vs) s w (inr h) low = places_marked vs (with_place v s) w h (let g = (place_grows s v).same_size in omega (arith, g, low))

places_seen : (graph : List (List ℕ)) (roots vs : List ℕ) (s : Seen) (bound : ℕ) → IsSearch graph roots s → bound ≤ length s.found → ((w : ℕ) → IsIn w vs → (w < length graph) × Within graph roots bound w) → IsSearch graph roots (with_places vs s)
places_seen graph roots [] s bound is low each = is
places_seen graph roots (v ∷ vs) s bound is low each =
    let here = each v (inl refl) in
    let more = (place_grows s v).longer in
    places_seen graph roots vs (with_place v s) bound (place_seen graph roots s v is here.0 (within_more graph roots bound (length s.found) v low here.1)) (omega (arith, low, more)) (λ w h. each w (inr h))

-- The whole search.

pub record Searches (graph : List (List ℕ)) (roots : List ℕ) (next : ℕ) (s : Seen) : Type 0 where
  pub is : IsSearch graph roots s
  pub low : next ≤ length s.found
  pub begun : (root : ℕ) → IsIn root roots → Marked s.marks root
  pub closed : (i v w : ℕ) → i < next → slice_get s.found i ≡ Some v → IsIn w (row graph v) → Marked s.marks w

no_mark : (n v : ℕ) → Marked (replicate n false) v → ⊥
no_mark zero v m = let no : false ≡ true = m in absurd (cc)
no_mark (suc n) zero m = let no : false ≡ true = m in absurd (cc)
no_mark (suc n) (suc v) m = no_mark n v m

none_counted : (n : ℕ) → count_by (λ (b : Bool). b) (replicate n false) ≡ 0
none_counted zero = refl
none_counted (suc n) =
    let s : count_by (λ (b : Bool). b) (false ∷ replicate n false) ≡ 0 + count_by (λ (b : Bool). b) (replicate n false) = sum_by-cons (λ (b : Bool). cond b 1 0) false (replicate n false) in
    omega (arith, s, none_counted n)

length-replicated : (n : ℕ) → length (replicate n false) ≡ n
length-replicated zero = refl
length-replicated (suc n) = ap (λ (k : ℕ). suc k) (length-replicated n)

nothing_seen : (graph : List (List ℕ)) (roots : List ℕ) → IsSearch graph roots (record { marks = replicate (length graph) false; found = [] })
nothing_seen graph roots = record {
  sized = length-replicated (length graph);
  listed = λ v m. absurd (no_mark (length graph) v m);
  marked = λ i v at. absurd (let no : None ≡ Some v = at in cc);
  counted = none_counted (length graph);
  within = λ i v at. absurd (let no : None ≡ Some v = at in cc);
}

pub search_begins : (graph : List (List ℕ)) (roots : List ℕ) (first s : Seen) → ((w : ℕ) → IsIn w roots → w < length graph) → first.marks ≡ replicate (length graph) false → first.found ≡ [] → s ≡ with_places roots first → Searches graph roots 0 s
search_begins graph roots first s low marks none is_s = subst (λ (x : Seen). Searches graph roots 0 x) (sym (is_s ∙ ap (with_places roots) begun)) (record {
  is = places_seen graph roots roots empty 0 (nothing_seen graph roots) (omega arith) (λ w h. (low w h, record { root = w; listed = h; steps = 0; few = omega arith; path = refl }));
  low = omega arith;
  begun = λ root h. places_marked roots empty root h (let size = length-replicated (length graph) in let less = low root h in omega (arith, size, less));
  closed = λ i v w less at h. absurd (omega (arith, less));
})
  where
    empty : Seen
    empty = record { marks = replicate (length graph) false; found = [] }

    begun : first ≡ empty
    begun = ap (λ (m : List Bool). seen m first.found) marks ∙ ap (λ (f : List ℕ). seen (replicate (length graph) false) f) none

pub search_goes : (graph : List (List ℕ)) (roots : List ℕ) (next v : ℕ) (s new : Seen) → IsClosed graph → Searches graph roots next s → slice_get s.found next ≡ Some v → new ≡ with_places (row graph v) s → Searches graph roots (next + 1) new
search_goes graph roots next v s new shut on at is_new =
    let here = on.is.within next v at in
    let inside = slice_get_within s.found next v at in
    let g = places_grow (row graph v) s in
    let size = on.is.sized in
    subst (λ (x : Seen). Searches graph roots (next + 1) x) (sym is_new) (record {
      is = places_seen graph roots (row graph v) s (next + 1) on.is (omega (arith, inside)) (λ w h. (shut v w h, record { root = here.root; listed = here.listed; steps = suc here.steps; few = omega (arith, here.few); path = (v, here.path, h) }));
      low = omega (arith, inside, g.longer);
      begun = λ root h. g.marks root (on.begun root h);
      closed = λ i u w less there h. closes i u w less there h g;
    })
  where
    closes : (i u w : ℕ) → i < next + 1 → slice_get (with_places (row graph v) s).found i ≡ Some u → IsIn w (row graph u) → Grows s (with_places (row graph v) s) → Marked (with_places (row graph v) s).marks w
    closes i u w less there h g = elim (eqb_tells i next) [
      | inl e ↦
          let same : v ≡ u = some_same v u _ (g.kept next v at) (subst (λ (k : ℕ). slice_get (with_places (row graph v) s).found k ≡ Some u) e.1 there) in
          places_marked (row graph v) s w (subst (λ (x : ℕ). IsIn w (row graph x)) (sym same) h) (let size = on.is.sized in let low = shut u w h in omega (arith, size, low))
      | inr e ↦
          let apart : i ≢ next = e.1 in
          let before : i < next = omega (arith, less, apart) in
          let low = on.low in
          let old = slice_get_there s.found i (omega (arith, before, low)) in
          let same : old.0 ≡ u = some_same old.0 u _ (g.kept i old.0 old.1) there in
          g.marks w (on.closed i u w before (subst (λ (x : ℕ). slice_get s.found i ≡ Some x) same old.1) h)
    ]

pub found_few : (graph : List (List ℕ)) (roots : List ℕ) (s : Seen) → IsSearch graph roots s → length s.found ≤ length graph
found_few graph roots s is = let few = count_by-le-length (λ (b : Bool). b) s.marks in omega (arith, few, is.counted, is.sized)

pub search_ends : (graph : List (List ℕ)) (roots : List ℕ) (next : ℕ) (s : Seen) → Searches graph roots next s → length s.found ≤ next → IsReached graph roots s.marks
search_ends graph roots next s on done = record {
  sized = on.is.sized;
  within = λ v m. let t = on.is.listed v m in within_more graph roots t.0 (length graph) v (let few = found_few graph roots s on.is in let low = slice_get_within s.found t.0 v t.1 in omega (arith, few, low)) (on.is.within t.0 v t.1);
  all = λ root steps v h path. reaches root steps v h path;
}
  where
    reaches : (root steps v : ℕ) → IsIn root roots → Path graph steps root v → Marked s.marks v
    reaches root zero v h path = subst (λ (x : ℕ). Marked s.marks x) path (on.begun root h)
    reaches root (suc steps) v h path =
        let t = on.is.listed path.0 (reaches root steps path.0 h path.1) in
        on.closed t.0 path.0 v (let low = slice_get_within s.found t.0 path.0 t.1 in omega (arith, low, done)) t.1 path.2

-- a place that was found is one of the graph
pub found_inside : (graph : List (List ℕ)) (roots : List ℕ) (s : Seen) (i v : ℕ) → IsSearch graph roots s → slice_get s.found i ≡ Some v → v < length graph
found_inside graph roots s i v is at = let low = marked_inside s.marks v (is.marked i v at) in let same = is.sized in omega (arith, low, same)
