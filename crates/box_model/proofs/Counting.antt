-- How often a name stands in a list, and lists in which none stands twice.
use Rattle.std.proofs.Common.{◌≡◌, ℕ, zero, suc, ◌+◌, ◌≤◌, Bool, true, false, cond, ◌||◌, List, [], ◌∷◌, ◌++◌, map, drop, filter, count_by, Some, None, if◌then◌else◌, refl, sym, ap, subst, ◌∙◌, arith, append_assoc, append-nil}
use Rattle.std.specs.List.{flat_map, AllByRecursion}
use Rattle.std.specs.Str.{bytes_eq}
use Rattle.std.proofs.lemmas.List.Sums.{sum_by-cons}
use Rattle.std.proofs.lemmas.Slice.Eq.{bytes_eq-Decides}
use Rattle.list_laws.proofs.Bytes.{bytes_eq-same}
use Rattle.list_laws.proofs.Tests.{or_first, or_second}
use Rattle.list_laws.proofs.Options.{not_there}
use Rattle.link_model.specs.Lists.{has_name, repeated_after, repeated}

-- What holds of each.

pub all_to : {A : Type 0} {P Q : A → Type 0} (xs : List A) → ((x : A) → P x → Q x) → AllByRecursion P xs → AllByRecursion Q xs
all_to [] to all = tt
all_to (x ∷ xs) to all = (to x all.0, all_to xs to all.1)

pub all_both : {A : Type 0} (P Q : A → Type 0) (xs : List A) → AllByRecursion P xs → AllByRecursion Q xs → AllByRecursion (λ x. P x × Q x) xs
all_both P Q [] one other = tt
all_both P Q (x ∷ xs) one other = ((one.0, other.0), all_both P Q xs one.1 other.1)

pub all_parts : {A B : Type 0} (P : B → Type 0) (f : A → List B) (xs : List A) → AllByRecursion P (flat_map f xs) → AllByRecursion (λ x. AllByRecursion P (f x)) xs
all_parts P f [] all = tt
all_parts {B = B} P f (x ∷ xs) all = (front (f x) all, all_parts P f xs (back (f x) all))
  where
    front : (ys : List B) → AllByRecursion P (ys ++ flat_map f xs) → AllByRecursion P ys
    front [] here = tt
    front (y ∷ ys) here = (here.0, front ys here.1)

    back : (ys : List B) → AllByRecursion P (ys ++ flat_map f xs) → AllByRecursion P (flat_map f xs)
    back [] here = here
    back (y ∷ ys) here = back ys here.1

pub all_drop : {X : Type 0} (P : X → Type 0) (n : ℕ) (xs : List X) → AllByRecursion P xs → AllByRecursion P (drop n xs)
all_drop P zero xs all = all
all_drop P (suc n) [] all = tt
all_drop P (suc n) (x ∷ xs) all = all_drop P n xs all.1

-- what a filter keeps passes
pub passing : {X : Type 0} (test : X → Bool) (xs : List X) → AllByRecursion (λ x. test x ≡ true) (filter test xs)
passing test [] = tt
passing test (x ∷ xs) = by (test x) refl (passing test xs)
  where
    by : (b : Bool) → test x ≡ b → AllByRecursion (λ y. test y ≡ true) (filter test xs) → AllByRecursion (λ y. test y ≡ true) (cond b (x ∷ filter test xs) (filter test xs))
    by true e rest = (e, rest)
    by false e rest = rest

-- How often.

abbrev pub times : List ℕ → List (List ℕ) → ℕ
times name [] = 0
times name (n ∷ names) = cond (bytes_eq name n) 1 0 + times name names

pub count-times : (name : List ℕ) (names : List (List ℕ)) → count_by (bytes_eq name) names ≡ times name names
count-times name [] = refl
count-times name (n ∷ names) = sum_by-cons (λ y. cond (bytes_eq name y) 1 0) n names ∙ ap (λ (k : ℕ). cond (bytes_eq name n) 1 0 + k) (count-times name names)

pub times-append : (name : List ℕ) (xs ys : List (List ℕ)) → times name (xs ++ ys) ≡ times name xs + times name ys
times-append name [] ys = omega arith
times-append name (x ∷ xs) ys = omega (arith, times-append name xs ys)

pub times-map-append : {X : Type 0} (name : List ℕ) (f : X → List ℕ) (xs ys : List X) → times name (map f (xs ++ ys)) ≡ times name (map f xs) + times name (map f ys)
times-map-append name f [] ys = omega arith
times-map-append name f (x ∷ xs) ys = omega (arith, times-map-append name f xs ys)

pub times_none : (name : List ℕ) (names : List (List ℕ)) → has_name names name ≡ false → times name names ≡ 0
times_none name [] h = refl
times_none name (n ∷ names) h = rw (or_first (bytes_eq name n) (has_name names name) h) (omega (arith, times_none name names (or_second (bytes_eq name n) (has_name names name) h)))

pub none_times : (name : List ℕ) (names : List (List ℕ)) → times name names ≡ 0 → has_name names name ≡ false
none_times name [] h = refl
none_times name (n ∷ names) h = by (bytes_eq name n) (none_times name names) h
  where
    by : (b : Bool) → (times name names ≡ 0 → has_name names name ≡ false) → cond b 1 0 + times name names ≡ 0 → (b || has_name names name) ≡ false
    by true rest k = absurd (omega arith)
    by false rest k = rest (omega arith)

pub some_times : (name : List ℕ) (names : List (List ℕ)) → 1 ≤ times name names → has_name names name ≡ true
some_times name [] h = absurd (omega arith)
some_times name (n ∷ names) h = by (bytes_eq name n) (some_times name names) h
  where
    by : (b : Bool) → (1 ≤ times name names → has_name names name ≡ true) → 1 ≤ cond b 1 0 + times name names → (b || has_name names name) ≡ true
    by true rest k = refl
    by false rest k = rest (omega arith)

pub times_some : (name : List ℕ) (names : List (List ℕ)) → has_name names name ≡ true → 1 ≤ times name names
times_some name [] h = absurd (cc)
times_some name (n ∷ names) h = by (bytes_eq name n) (times_some name names) h
  where
    by : (b : Bool) → (has_name names name ≡ true → 1 ≤ times name names) → (b || has_name names name) ≡ true → 1 ≤ cond b 1 0 + times name names
    by true rest k = omega arith
    by false rest k = let more = rest k in omega arith

-- one that stands at the head
pub at_head : (n : List ℕ) (names : List (List ℕ)) → 1 ≤ times n (n ∷ names)
at_head n names = rw (bytes_eq-same n) (omega arith)

pub each_there : (names : List (List ℕ)) → AllByRecursion (λ n. 1 ≤ times n names) names
each_there [] = tt
each_there (n ∷ names) = (at_head n names, all_to names (λ k below. omega arith) (each_there names))

-- what stands in a part stands in the whole
pub parts_within : {X : Type 0} (f : X → List (List ℕ)) (xs : List X) → AllByRecursion (λ x. (name : List ℕ) → times name (f x) ≤ times name (flat_map f xs)) xs
parts_within f [] = tt
parts_within f (x ∷ xs) = (
  λ name. omega (arith, times-append name (f x) (flat_map f xs)),
  all_to xs (λ y below name. let more = below name in omega (arith, times-append name (f x) (flat_map f xs))) (parts_within f xs),
)

-- names apart from those of another list
pub apart_from : (names others : List (List ℕ)) → AllByRecursion (λ n. times n others ≡ 0) names → (name : List ℕ) → 1 ≤ times name others → times name names ≡ 0
apart_from [] others all name there = refl
apart_from (n ∷ names) others all name there = by (bytes_eq name n) refl (apart_from names others all.1 name there)
  where
    by : (b : Bool) → bytes_eq name n ≡ b → times name names ≡ 0 → times name (n ∷ names) ≡ 0
    by true e more = absurd (let none : times name others ≡ 0 = ap (λ (l : List ℕ). times l others) ((bytes_eq-Decides name n).0 e) ∙ all.0 in omega arith)
    by false e more = rw e (omega (arith, more))

-- what holds of each holds of a name that stands there
pub there_holds : (P : List ℕ → Type 0) (name : List ℕ) (names : List (List ℕ)) → AllByRecursion P names → 1 ≤ times name names → P name
there_holds P name [] all there = absurd (omega arith)
there_holds P name (n ∷ names) all there = by (bytes_eq name n) refl there (there_holds P name names all.1)
  where
    by : (b : Bool) → bytes_eq name n ≡ b → 1 ≤ cond b 1 0 + times name names → (1 ≤ times name names → P name) → P name
    by true e k rest = subst P (sym ((bytes_eq-Decides name n).0 e)) all.0
    by false e k rest = rest (omega arith)

pub kept_times : {X : Type 0} (name : List ℕ) (f : X → List ℕ) (test : X → Bool) (xs : List X) → times name (map f (filter test xs)) ≤ times name (map f xs)
kept_times name f test [] = omega arith
kept_times name f test (x ∷ xs) = by (test x) (kept_times name f test xs)
  where
    by : (b : Bool) → times name (map f (filter test xs)) ≤ times name (map f xs) → times name (map f (cond b (x ∷ filter test xs) (filter test xs))) ≤ cond (bytes_eq name (f x)) 1 0 + times name (map f xs)
    by true less = omega arith
    by false less = omega arith

-- Each once.

abbrev pub AreOnce : List (List ℕ) → Type 0
AreOnce names = (name : List ℕ) → times name names ≤ 1

pub one_more : (before : List (List ℕ)) (n : List ℕ) → has_name before n ≡ false → AreOnce before → AreOnce (before ++ n ∷ [])
one_more before n new once name = by (bytes_eq name n) refl
  where
    by : (b : Bool) → bytes_eq name n ≡ b → times name (before ++ n ∷ []) ≤ 1
    by true e =
        let none : times name before ≡ 0 = times_none name before (ap (has_name before) ((bytes_eq-Decides name n).0 e) ∙ new) in
        rw (times-append name before (n ∷ []), e, none) (omega arith)
    by false e = rw (times-append name before (n ∷ []), e) (omega (arith, once name))

pub once_after : (before names : List (List ℕ)) → repeated_after before names ≡ None → AreOnce before → AreOnce (before ++ names)
once_after before [] h once = λ name. rw (append-nil before) (once name)
once_after before (n ∷ names) h once =
    let parts = not_there (has_name before n) n (repeated_after (before ++ n ∷ []) names) h in
    let more = once_after (before ++ n ∷ []) names parts.1 (one_more before n parts.0 once) in
    λ name. subst (λ (l : List (List ℕ)). times name l ≤ 1) (append_assoc before (n ∷ []) names) (more name)

pub once_of : (names : List (List ℕ)) → repeated names ≡ None → AreOnce names
once_of names h = once_after [] names h (λ name. omega arith)

pub unrepeated : (before names : List (List ℕ)) → AreOnce (before ++ names) → repeated_after before names ≡ None
unrepeated before [] once = refl
unrepeated before (n ∷ names) once =
    let head = at_head n names in
    let none : times n before ≡ 0 = (let all = once n in omega (arith, times-append n before (n ∷ names))) in
    ap (λ (b : Bool). if b then Some n else repeated_after (before ++ n ∷ []) names) (none_times n before none)
    ∙ unrepeated (before ++ n ∷ []) names (λ name. subst (λ (l : List (List ℕ)). times name l ≤ 1) (sym (append_assoc before (n ∷ []) names)) (once name))

-- The sum of the weights of those that have a name.

abbrev pub weight_of : {X : Type 0} → (X → List ℕ) → (X → ℕ) → List ℕ → List X → ℕ
weight_of name_of weight name [] = 0
weight_of name_of weight name (x ∷ xs) = cond (bytes_eq name (name_of x)) (weight x) 0 + weight_of name_of weight name xs

pub weight-append : {X : Type 0} (name_of : X → List ℕ) (weight : X → ℕ) (name : List ℕ) (xs ys : List X) → weight_of name_of weight name (xs ++ ys) ≡ weight_of name_of weight name xs + weight_of name_of weight name ys
weight-append name_of weight name [] ys = omega arith
weight-append name_of weight name (x ∷ xs) ys = omega (arith, weight-append name_of weight name xs ys)

weight_none : {X : Type 0} (name_of : X → List ℕ) (weight : X → ℕ) (name : List ℕ) (xs : List X) → times name (map name_of xs) ≡ 0 → weight_of name_of weight name xs ≡ 0
weight_none name_of weight name [] h = refl
weight_none name_of weight name (x ∷ xs) h = by (bytes_eq name (name_of x)) (weight_none name_of weight name xs) h
  where
    by : (b : Bool) → (times name (map name_of xs) ≡ 0 → weight_of name_of weight name xs ≡ 0) → cond b 1 0 + times name (map name_of xs) ≡ 0 → cond b (weight x) 0 + weight_of name_of weight name xs ≡ 0
    by true rest k = absurd (omega arith)
    by false rest k = let more = rest (omega arith) in omega arith

-- where each name stands once, it is one's own weight
pub each_weight : {X : Type 0} (name_of : X → List ℕ) (weight : X → ℕ) (xs : List X) → AreOnce (map name_of xs) → AllByRecursion (λ x. weight_of name_of weight (name_of x) xs ≡ weight x) xs
each_weight name_of weight [] once = tt
each_weight {X = X} name_of weight (x ∷ xs) once =
    (first, all_to xs other (all_both (λ y. 1 ≤ times (name_of y) (map name_of xs)) (λ y. weight_of name_of weight (name_of y) xs ≡ weight y) xs (named xs (each_there (map name_of xs))) (each_weight name_of weight xs later)))
  where
    later : AreOnce (map name_of xs)
    later name = let now = once name in omega arith

    first : weight_of name_of weight (name_of x) (x ∷ xs) ≡ weight x
    first =
        let now : cond (bytes_eq (name_of x) (name_of x)) 1 0 + times (name_of x) (map name_of xs) ≤ 1 = once (name_of x) in
        let one = rw (bytes_eq-same (name_of x)) at now in
        let none : times (name_of x) (map name_of xs) ≡ 0 = omega (arith, one) in
        rw (bytes_eq-same (name_of x), weight_none name_of weight (name_of x) xs none) (omega arith)

    named : (ys : List X) → AllByRecursion (λ n. 1 ≤ times n (map name_of xs)) (map name_of ys) → AllByRecursion (λ y. 1 ≤ times (name_of y) (map name_of xs)) ys
    named [] all = tt
    named (y ∷ ys) all = (all.0, named ys all.1)

    other : (y : X) → (1 ≤ times (name_of y) (map name_of xs)) × (weight_of name_of weight (name_of y) xs ≡ weight y) → weight_of name_of weight (name_of y) (x ∷ xs) ≡ weight y
    other y both = by (bytes_eq (name_of y) (name_of x)) (once (name_of y))
      where
        by : (b : Bool) → cond b 1 0 + times (name_of y) (map name_of xs) ≤ 1 → cond b (weight x) 0 + weight_of name_of weight (name_of y) xs ≡ weight y
        by true k = absurd (let there = both.0 in omega arith)
        by false k = let same = both.1 in omega arith
