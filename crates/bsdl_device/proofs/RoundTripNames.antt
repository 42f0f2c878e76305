-- Names that are one without regard to case can stand for each other, and lists in which no name stands twice.
use Rattle.std.proofs.Common.{◌≡◌, ℕ, ◌+◌, ◌≤◌, List, [], ◌∷◌, Bool, true, false, cond, Option, Some, map, find, refl, ap, subst, ◌∙◌, arith}
use Rattle.std.specs.List.{list_any, AllByRecursion}
use Rattle.std.specs.Str.{bytes_eq}
use Rattle.list_laws.proofs.Tests.{or_first, or_second, neither}
use Rattle.bsdl_lexicon.specs.Names.{lower, same_name, is_same_name}
use Rattle.bsdl_lexicon.proofs.SameNames.{is_same_name-true, same_name-true, same_turned}
use Rattle.bsdl_device.specs.Checks.{any_pair, is_repeated}
use Rattle.bsdl_device.proofs.Totals.{weigh, tally, none_any, any_none, Shuffled}

-- what the test says

-- One name for another.

pub same_left : (a b c : List ℕ) → same_name a b → is_same_name a c ≡ is_same_name b c
same_left a b c same = ap (λ (l : List ℕ). bytes_eq l (map lower c)) same

pub same_right : (a b c : List ℕ) → same_name a b → is_same_name c a ≡ is_same_name c b
same_right a b c same = ap (λ (l : List ℕ). bytes_eq (map lower c) l) same

pub same_self : (a : List ℕ) → is_same_name a a ≡ true
same_self a = is_same_name-true a a refl

-- Lists.

-- no name is one with two of the list
pub at_most_one : {A : Type 0} (name : A → List ℕ) (xs : List A) → is_repeated (map name xs) ≡ false → (n : List ℕ) → tally (λ x. is_same_name n (name x)) xs ≤ 1
at_most_one name [] h n = omega arith
at_most_one {A} name (x ∷ xs) h n = by (is_same_name n (name x)) refl (at_most_one name xs (or_second (list_any (is_same_name (name x)) (map name xs)) (any_pair is_same_name (map name xs)) h) n)
  where
    others : (ys : List A) → same_name n (name x) → list_any (is_same_name (name x)) (map name ys) ≡ false → tally (λ y. is_same_name n (name y)) ys ≡ 0
    others [] same apart = refl
    others (y ∷ ys) same apart = none_any (λ z. is_same_name n (name z)) (y ∷ ys) (none (y ∷ ys) apart)
      where
        none : (zs : List A) → list_any (is_same_name (name x)) (map name zs) ≡ false → list_any (λ z. is_same_name n (name z)) zs ≡ false
        none [] k = refl
        none (z ∷ zs) k = neither (is_same_name n (name z)) (list_any (λ v. is_same_name n (name v)) zs)
            (same_left n (name x) (name z) same ∙ or_first (is_same_name (name x) (name z)) (list_any (is_same_name (name x)) (map name zs)) k)
            (none zs (or_second (is_same_name (name x) (name z)) (list_any (is_same_name (name x)) (map name zs)) k))

    by : (b : Bool) → is_same_name n (name x) ≡ b → tally (λ y. is_same_name n (name y)) xs ≤ 1 → weigh (is_same_name n (name x)) 1 + tally (λ y. is_same_name n (name y)) xs ≤ 1
    by true is rest =
        let none : tally (λ y. is_same_name n (name y)) xs ≡ 0 = others xs (same_name-true n (name x) is) (or_first (list_any (is_same_name (name x)) (map name xs)) (any_pair is_same_name (map name xs)) h) in
        let one : weigh (is_same_name n (name x)) 1 ≡ 1 = ap (λ (b : Bool). weigh b 1) is in omega arith
    by false is rest =
        let one : weigh (is_same_name n (name x)) 1 ≡ 0 = ap (λ (b : Bool). weigh b 1) is in omega arith

-- and where none is, no name stands twice
pub repeats_none : (xs : List (List ℕ)) → ((n : List ℕ) → tally (λ x. is_same_name n x) xs ≤ 1) → is_repeated xs ≡ false
repeats_none [] h = refl
repeats_none (x ∷ xs) h =
    let self : weigh (is_same_name x x) 1 ≡ 1 = ap (λ (b : Bool). weigh b 1) (same_self x) in
    let most : tally (λ y. is_same_name x y) (x ∷ xs) ≤ 1 = h x in
    neither (list_any (is_same_name x) xs) (is_repeated xs)
    (any_none (is_same_name x) xs (omega arith))
    (repeats_none xs (λ n. let all : tally (λ y. is_same_name n y) (x ∷ xs) ≤ 1 = h n in omega arith))

pub repeats_shuffled : (xs ys : List (List ℕ)) → Shuffled xs ys → is_repeated ys ≡ false → is_repeated xs ≡ false
repeats_shuffled xs ys s h = repeats_none xs (λ n. let most : tally (λ y. is_same_name n y) ys ≤ 1 = most_of ys h n in let same = s.same (λ y. weigh (is_same_name n y) 1) in omega arith)
  where
    map_same : (zs : List (List ℕ)) → map (λ (z : List ℕ). z) zs ≡ zs
    map_same [] = refl
    map_same (z ∷ zs) = ap (λ (l : List (List ℕ)). z ∷ l) (map_same zs)

    most_of : (zs : List (List ℕ)) → is_repeated zs ≡ false → (n : List ℕ) → tally (λ y. is_same_name n y) zs ≤ 1
    most_of zs k n = at_most_one (λ (z : List ℕ). z) zs (ap is_repeated (map_same zs) ∙ k) n

-- each is found by its own name
pub found_each : {A : Type 0} (name : A → List ℕ) (xs : List A) → is_repeated (map name xs) ≡ false → AllByRecursion (λ x. find (λ y. is_same_name (name x) (name y)) xs ≡ Some x) xs
found_each name [] h = tt
found_each {A} name (x ∷ xs) h = (
  ap (λ (b : Bool). cond b (Some x) (find (λ y. is_same_name (name x) (name y)) xs)) (same_self (name x)),
  later xs (or_first (list_any (is_same_name (name x)) (map name xs)) (any_pair is_same_name (map name xs)) h) (found_each name xs (or_second (list_any (is_same_name (name x)) (map name xs)) (any_pair is_same_name (map name xs)) h)),
)
  where
    later : (ys : List A) → list_any (is_same_name (name x)) (map name ys) ≡ false → AllByRecursion (λ y. find (λ z. is_same_name (name y) (name z)) xs ≡ Some y) ys → AllByRecursion (λ y. find (λ z. is_same_name (name y) (name z)) (x ∷ xs) ≡ Some y) ys
    later [] apart all = tt
    later (y ∷ ys) apart all = (
      ap (λ (b : Bool). cond b (Some x) (find (λ z. is_same_name (name y) (name z)) xs)) (same_turned (name y) (name x) ∙ or_first (is_same_name (name x) (name y)) (list_any (is_same_name (name x)) (map name ys)) apart) ∙ all.0,
      later ys (or_second (is_same_name (name x) (name y)) (list_any (is_same_name (name x)) (map name ys)) apart) all.1,
    )

-- Finding.

pub found_is_none_of : {A : Type 0} (test bad : A → Bool) (xs : List A) (x : A) → list_any bad xs ≡ false → find test xs ≡ Some x → bad x ≡ false
found_is_none_of test bad [] x all h = absurd (cc)
found_is_none_of {A} test bad (y ∷ ys) x all h = by (test y) (found_is_none_of test bad ys x (or_second (bad y) (list_any bad ys) all)) h
  where
    by : (b : Bool) → (find test ys ≡ Some x → bad x ≡ false) → cond b (Some y) (find test ys) ≡ Some x → bad x ≡ false
    by true rest k = let same : y ≡ x = cc in subst (λ (z : A). bad z ≡ false) same (or_first (bad y) (list_any bad ys) all)
    by false rest k = rest k

-- something that passes is found
pub some_found : {A : Type 0} (test : A → Bool) (xs : List A) → 1 ≤ tally test xs → (x : A) × (find test xs ≡ Some x)
some_found test [] h = absurd (omega arith)
some_found {A} test (y ∷ ys) h = by (test y) (some_found test ys) h
  where
    by : (b : Bool) → (1 ≤ tally test ys → (x : A) × (find test ys ≡ Some x)) → 1 ≤ weigh b 1 + tally test ys → (x : A) × (cond b (Some y) (find test ys) ≡ Some x)
    by true rest k = (y, refl)
    by false rest k = rest (omega arith)

pub found_some : {A : Type 0} (test : A → Bool) (xs : List A) (x : A) → find test xs ≡ Some x → 1 ≤ tally test xs
found_some test [] x h = absurd (cc)
found_some {A} test (y ∷ ys) x h = by (test y) (found_some test ys x) h
  where
    by : (b : Bool) → (find test ys ≡ Some x → 1 ≤ tally test ys) → cond b (Some y) (find test ys) ≡ Some x → 1 ≤ weigh b 1 + tally test ys
    by true rest k = omega arith
    by false rest k = omega (arith, rest k)

pub find_same : {A : Type 0} (f g : A → Bool) → ((x : A) → f x ≡ g x) → (xs : List A) → find f xs ≡ find g xs
find_same f g same [] = refl
find_same f g same (x ∷ xs) = ap (λ (b : Bool). cond b (Some x) (find f xs)) (same x) ∙ ap (λ (o : Option _). cond (g x) (Some x) o) (find_same f g same xs)

-- what holds of each, one by one
pub all_to : {A : Type 0} {P Q : A → Type 0} (xs : List A) → ((x : A) → P x → Q x) → AllByRecursion P xs → AllByRecursion Q xs
all_to [] to all = tt
all_to (x ∷ xs) to all = (to x all.0, all_to xs to all.1)

pub all_both : {A : Type 0} (P Q : A → Type 0) (xs : List A) → AllByRecursion P xs → AllByRecursion Q xs → AllByRecursion (λ x. P x × Q x) xs
all_both P Q [] p q = tt
all_both P Q (x ∷ xs) p q = ((p.0, q.0), all_both P Q xs p.1 q.1)
