-- Loops over lists: what was made, or found, and what the rest gives.
use Rattle.std.proofs.Common.{◌≡◌, inl, inr, ℕ, suc, ◌+◌, ◌<◌, min, Bool, true, false, if◌then◌else◌, ◌&&◌, ◌||◌, List, [], ◌∷◌, ◌++◌, length, map, drop, sum_by, Option, Some, None, refl, sym, ap, subst, ◌∙◌, arith, append_assoc}
use Rattle.std.specs.Prelude.{slice_get}
use Rattle.std.specs.List.{filter_map, list_all, cons_option}
use Rattle.std.proofs.lemmas.List.Sums.{sum_by-cons}
use Rattle.list_laws.proofs.Lists.{left_at}
use Rattle.texts.specs.First.{or_else, first_in}
use Rattle.texts.specs.Repeated.{has_name}
use Rattle.cell_library.specs.declared.listed.ListedCell.{ListedCell}
use Rattle.verilog_tree.specs.declared.tree.Module.{Module}
use Rattle.hier_model.specs.Faults.{is_cell, twice_name}
use Rattle.hier_counts.specs.Graph.{IsIn}
use Rattle.hier_counts.specs.Search.{Seen, with_place, with_places}
use Rattle.hier_counts.proofs.Searches.{place_grows}

-- what is left at a place, by the code's way to count
pub rest_at : {X : Type 0} (xs : List X) (k : ℕ) (x : X) → slice_get xs k ≡ Some x → drop k xs ≡ x ∷ drop (k + 1) xs
rest_at {X} xs k x at = let more : suc k ≡ k + 1 = omega arith in left_at xs k x at ∙ ap (λ (n : ℕ). x ∷ drop n xs) more

-- Lists that are made.

pub map_next : {X Y : Type 0} (f : X → Y) (xs : List X) (k : ℕ) (x : X) (old new all : List Y) → slice_get xs k ≡ Some x → old ++ map f (drop k xs) ≡ all → new ≡ old ++ f x ∷ [] → new ++ map f (drop (k + 1) xs) ≡ all
map_next {X} {Y} f xs k x old new all at was is =
    ap (λ (l : List Y). l ++ map f (drop (k + 1) xs)) is
    ∙ append_assoc old (f x ∷ []) (map f (drop (k + 1) xs))
    ∙ ap (λ (l : List X). old ++ map f l) (sym (rest_at xs k x at))
    ∙ was

pub filter_next : {X Y : Type 0} (f : X → Option Y) (xs : List X) (k : ℕ) (x : X) (y : Y) (old new all : List Y) → slice_get xs k ≡ Some x → old ++ filter_map f (drop k xs) ≡ all → f x ≡ Some y → new ≡ old ++ y ∷ [] → new ++ filter_map f (drop (k + 1) xs) ≡ all
filter_next {X} {Y} f xs k x y old new all at was some is =
    ap (λ (l : List Y). l ++ filter_map f (drop (k + 1) xs)) is
    ∙ append_assoc old (y ∷ []) (filter_map f (drop (k + 1) xs))
    ∙ ap (λ (o : Option Y). old ++ cons_option o (filter_map f (drop (k + 1) xs))) (sym some)
    ∙ ap (λ (l : List X). old ++ filter_map f l) (sym (rest_at xs k x at))
    ∙ was

pub filter_skips : {X Y : Type 0} (f : X → Option Y) (xs : List X) (k : ℕ) (x : X) (old all : List Y) → slice_get xs k ≡ Some x → old ++ filter_map f (drop k xs) ≡ all → f x ≡ None → old ++ filter_map f (drop (k + 1) xs) ≡ all
filter_skips {X} {Y} f xs k x old all at was none =
    ap (λ (o : Option Y). old ++ cons_option o (filter_map f (drop (k + 1) xs))) (sym none)
    ∙ ap (λ (l : List X). old ++ filter_map f l) (sym (rest_at xs k x at))
    ∙ was

-- The first that a test gives.

pub first_here : {X Y : Type 0} (test : X → Option Y) (xs : List X) (k : ℕ) (x : X) (y : Y) (all : Option Y) → slice_get xs k ≡ Some x → first_in test (drop k xs) ≡ all → test x ≡ Some y → Some y ≡ all
first_here {X} {Y} test xs k x y all at was some =
    ap (λ (o : Option Y). or_else o (first_in test (drop (k + 1) xs))) (sym some) ∙ ap (first_in test) (sym (rest_at xs k x at)) ∙ was

pub first_on : {X Y : Type 0} (test : X → Option Y) (xs : List X) (k : ℕ) (x : X) (all : Option Y) → slice_get xs k ≡ Some x → first_in test (drop k xs) ≡ all → test x ≡ None → first_in test (drop (k + 1) xs) ≡ all
first_on {X} {Y} test xs k x all at was none =
    ap (λ (o : Option Y). or_else o (first_in test (drop (k + 1) xs))) (sym none) ∙ ap (first_in test) (sym (rest_at xs k x at)) ∙ was

-- Names that came before.

pub twice_here : (library : List ListedCell) (before : List (List ℕ)) (ms : List Module) (k : ℕ) (m : Module) (all : Option (List ℕ)) → slice_get ms k ≡ Some m → twice_name library before (drop k ms) ≡ all → (has_name before m.name || is_cell library m.name) ≡ true → Some m.name ≡ all
twice_here library before ms k m all at was bad =
    ap (λ (b : Bool). if b then Some m.name else twice_name library (before ++ m.name ∷ []) (drop (k + 1) ms)) (sym bad) ∙ ap (twice_name library before) (sym (rest_at ms k m at)) ∙ was

pub twice_on : (library : List ListedCell) (before new : List (List ℕ)) (ms : List Module) (k : ℕ) (m : Module) (all : Option (List ℕ)) → slice_get ms k ≡ Some m → twice_name library before (drop k ms) ≡ all → (has_name before m.name || is_cell library m.name) ≡ false → new ≡ before ++ m.name ∷ []
    → twice_name library new (drop (k + 1) ms) ≡ all
twice_on library before new ms k m all at was good is =
    ap (λ (l : List (List ℕ)). twice_name library l (drop (k + 1) ms)) is
    ∙ ap (λ (b : Bool). if b then Some m.name else twice_name library (before ++ m.name ∷ []) (drop (k + 1) ms)) (sym good) ∙ ap (twice_name library before) (sym (rest_at ms k m at)) ∙ was

-- Tests and sums.

and_assoc : (a b c : Bool) → ((a && b) && c) ≡ (a && (b && c))
and_assoc true b c = refl
and_assoc false b c = refl

pub fits_next : {X : Type 0} (test : X → Bool) (xs : List X) (k : ℕ) (x : X) (old new all : Bool) → slice_get xs k ≡ Some x → (old && list_all test (drop k xs)) ≡ all → new ≡ (old && test x) → (new && list_all test (drop (k + 1) xs)) ≡ all
fits_next {X} test xs k x old new all at was is =
    ap (λ (b : Bool). b && list_all test (drop (k + 1) xs)) is
    ∙ and_assoc old (test x) (list_all test (drop (k + 1) xs))
    ∙ ap (λ (l : List X). old && list_all test l) (sym (rest_at xs k x at))
    ∙ was

-- a sum that isn't told past a limit and one
pub sum_next : {X : Type 0} (limit : ℕ) (f : X → ℕ) (xs : List X) (k : ℕ) (x : X) (old new all : ℕ) → slice_get xs k ≡ Some x → min (old + sum_by f (drop k xs)) (limit + 1) ≡ all → new ≡ min (old + f x) (limit + 1) → min (new + sum_by f (drop (k + 1) xs)) (limit + 1) ≡ all
sum_next {X} limit f xs k x old new all at was is =
    let split : sum_by f (drop k xs) ≡ f x + sum_by f (drop (k + 1) xs) = ap (sum_by f) (rest_at xs k x at) ∙ sum_by-cons f x (drop (k + 1) xs) in
    by (sum_by f (drop k xs)) (f x) (sum_by f (drop (k + 1) xs)) split was is
  where
    by : (whole here rest : ℕ) → whole ≡ here + rest → min (old + whole) (limit + 1) ≡ all → new ≡ min (old + here) (limit + 1) → min (new + rest) (limit + 1) ≡ all
    by whole here rest split was is = omega (arith, split, was, is)

pub capped_twice : (limit a b c : ℕ) → min (a + min (b + c) (limit + 1)) (limit + 1) ≡ min (a + (b + c)) (limit + 1)
capped_twice limit a b c = omega arith

-- Places.

pub in_rest : (xs : List ℕ) (k x : ℕ) → slice_get xs k ≡ Some x → IsIn x (drop k xs)
in_rest xs k x at = subst (IsIn x) (sym (rest_at xs k x at)) (inl refl)

pub in_more : (xs : List ℕ) (k x w : ℕ) → slice_get xs k ≡ Some x → IsIn w (drop (k + 1) xs) → IsIn w (drop k xs)
in_more xs k x w at listed = subst (IsIn w) (sym (rest_at xs k x at)) (inr listed)

pub see_next : (places : List ℕ) (k x : ℕ) (old new all : Seen) → slice_get places k ≡ Some x → with_places (drop k places) old ≡ all → new ≡ with_place x old → with_places (drop (k + 1) places) new ≡ all
see_next places k x old new all at was is =
    ap (with_places (drop (k + 1) places)) is
    ∙ ap (λ (l : List ℕ). with_places l old) (sym (rest_at places k x at))
    ∙ was

pub low_next : (places : List ℕ) (k x : ℕ) (old new : Seen) → slice_get places k ≡ Some x → ((w : ℕ) → IsIn w (drop k places) → w < length old.marks) → new ≡ with_place x old → (w : ℕ) → IsIn w (drop (k + 1) places) → w < length new.marks
low_next places k x old new at low is w listed =
    let here = low w (in_more places k x w at listed) in
    let same : length new.marks ≡ length old.marks = ap (λ (s : Seen). length s.marks) is ∙ (place_grows old x).same_size in
    omega (arith, here, same)
