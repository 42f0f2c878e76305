-- Elements of lists that are joined, cut or compared by their places.
use Rattle.std.proofs.Common.{◌≡◌, ◌≢◌, ◌⊎◌, inl, inr, ℕ, zero, suc, ◌+◌, ◌<◌, ◌≤◌, Bool, true, false, not, cond, ◌&&◌, ◌||◌, List, [], ◌∷◌, ◌++◌, length, take, drop, map, set, get_or, get_or-set_other, refl, sym, subst, ap, ◌∙◌, arith, Some, None}
use Rattle.std.specs.Prelude.{slice_get, slice_set, nat_eq}
use Rattle.std.specs.List.{AllByRecursion, list_all, list_any, position, position_or_len, starts_with}
use Rattle.std.proofs.lemmas.Bool.{lt-ltb}
use Rattle.std.proofs.lemmas.Bool.Decides.{eqb_tells}
use Rattle.std.proofs.lemmas.Grind.{get_or-set_at}
use Rattle.std.proofs.lemmas.List.{take_more}
use Rattle.std.proofs.lemmas.Option.{slice_get_within, get_or_from_slice_get}
use Rattle.list_laws.specs.Lists.{counted_from, AreAll}
use Rattle.list_laws.proofs.Tests.{and_left, and_right, and_true, or_first, or_second, neither, or_more}
use Rattle.list_laws.proofs.Numbers.{eqb_same}

-- What holds of each element.

pub all_append : {A : Type 0} (P : A → Type 0) (xs ys : List A) → AllByRecursion P xs → AllByRecursion P ys → AllByRecursion P (xs ++ ys)
all_append P [] ys front back = back
all_append P (x ∷ xs) ys front back = (front.0, all_append P xs ys front.1 back)

pub all_front : {A : Type 0} (P : A → Type 0) (xs ys : List A) → AllByRecursion P (xs ++ ys) → AllByRecursion P xs
all_front P [] ys all = tt
all_front P (x ∷ xs) ys all = (all.0, all_front P xs ys all.1)

pub all_back : {A : Type 0} (P : A → Type 0) (xs ys : List A) → AllByRecursion P (xs ++ ys) → AllByRecursion P ys
all_back P [] ys all = all
all_back P (x ∷ xs) ys all = all_back P xs ys all.1

pub all_from_list_all : {A : Type 0} (p : A → Bool) (xs : List A) → list_all p xs ≡ true → AllByRecursion (λ x. p x ≡ true) xs
all_from_list_all p [] h = tt
all_from_list_all p (x ∷ xs) h = (and_left (p x) (list_all p xs) h, all_from_list_all p xs (and_right (p x) (list_all p xs) h))

pub all_at : {X : Type 0} (P : X → Type 0) (xs : List X) (k : ℕ) (x : X) → AllByRecursion P xs → slice_get xs k ≡ Some x → P x
all_at P [] k x all h = absurd (cc)
all_at {X = X} P (y ∷ ys) zero x all h = let same : y ≡ x = cc in subst P same all.0
all_at P (y ∷ ys) (suc k) x all h = all_at P ys k x all.1 h

pub all_mapped : {X Y : Type 0} (P : Y → Type 0) (f : X → Y) (xs : List X) → AllByRecursion (λ x. P (f x)) xs → AllByRecursion P (map f xs)
all_mapped P f [] all = tt
all_mapped P f (x ∷ xs) all = (all.0, all_mapped P f xs all.1)

-- a test that one more element passes
pub push_all : {X : Type 0} (test : X → Bool) (xs : List X) (x : X) → list_all test xs ≡ true → test x ≡ true → list_all test (xs ++ x ∷ []) ≡ true
push_all test [] x all last = ap (λ (b : Bool). b && true) last
push_all test (y ∷ xs) x all last = ap (λ (b : Bool). b && list_all test (xs ++ x ∷ [])) (and_left (test y) (list_all test xs) all) ∙ push_all test xs x (and_right (test y) (list_all test xs) all) last

-- What stands at a place.

pub slice_get_there : {X : Type 0} (xs : List X) (k : ℕ) → k < length xs → (x : X) × (slice_get xs k ≡ Some x)
slice_get_there [] k h = absurd (omega arith)
slice_get_there (x ∷ xs) zero h = (x, refl)
slice_get_there (x ∷ xs) (suc k) h = slice_get_there xs k (omega arith)

pub slice_get-append_left : {X : Type 0} (xs ys : List X) (k : ℕ) → k < length xs → slice_get (xs ++ ys) k ≡ slice_get xs k
slice_get-append_left [] ys k h = absurd (omega arith)
slice_get-append_left (x ∷ xs) ys zero h = refl
slice_get-append_left (x ∷ xs) ys (suc k) h = slice_get-append_left xs ys k (omega arith)

pub slice_get-append_right : {X : Type 0} (xs ys : List X) (n k : ℕ) → n ≡ length xs + k → slice_get (xs ++ ys) n ≡ slice_get ys k
slice_get-append_right [] ys n k e = ap (slice_get ys) (omega arith)
slice_get-append_right (x ∷ xs) ys zero k e = absurd (omega arith)
slice_get-append_right (x ∷ xs) ys (suc n) k e = slice_get-append_right xs ys n k (omega arith)

-- after a push
pub at_push : {X : Type 0} (xs : List X) (y x : X) (i : ℕ) → slice_get (xs ++ y ∷ []) i ≡ Some x → ((i ≡ length xs) × (y ≡ x)) ⊎ ((i < length xs) × (slice_get xs i ≡ Some x))
at_push [] y x zero e = inl (refl, cc)
at_push [] y x (suc i) e = absurd (cc)
at_push (z ∷ xs) y x zero e = inr (omega arith, e)
at_push (z ∷ xs) y x (suc i) e = elim (at_push xs y x i e) [
  | inl h ↦ inl (ap suc h.0, h.1)
  | inr h ↦ let low = h.0 in inr (omega arith, h.1)
]

pub last_push : {X : Type 0} (xs : List X) (y : X) → slice_get (xs ++ y ∷ []) (length xs) ≡ Some y
last_push [] y = refl
last_push (z ∷ xs) y = last_push xs y

pub before_push : {X : Type 0} (xs ys : List X) (x : X) (i : ℕ) → slice_get xs i ≡ Some x → slice_get (xs ++ ys) i ≡ Some x
before_push [] ys x i e = absurd (cc)
before_push (z ∷ xs) ys x zero e = e
before_push (z ∷ xs) ys x (suc i) e = before_push xs ys x i e

-- after a write
pub slice_get-set_same : {X : Type 0} (xs : List X) (k : ℕ) (x : X) → k < length xs → slice_get (slice_set xs k x) k ≡ Some x
slice_get-set_same [] k x h = absurd (omega arith)
slice_get-set_same (y ∷ xs) zero x h = refl
slice_get-set_same (y ∷ xs) (suc k) x h = slice_get-set_same xs k x (omega arith)

pub slice_get-set_other : {X : Type 0} (xs : List X) (k j : ℕ) (x : X) → j ≢ k → slice_get (slice_set xs k x) j ≡ slice_get xs j
slice_get-set_other [] k j x h = refl
slice_get-set_other (y ∷ xs) zero zero x h = absurd (h refl)
slice_get-set_other (y ∷ xs) zero (suc j) x h = refl
slice_get-set_other (y ∷ xs) (suc k) zero x h = refl
slice_get-set_other (y ∷ xs) (suc k) (suc j) x h = slice_get-set_other xs k j x (λ e. h (ap suc e))

pub at_set : {X : Type 0} (xs : List X) (i j : ℕ) (y d : X) → i < length xs → ((j ≡ i) × (get_or (set xs i y) j d ≡ y)) ⊎ ((j ≢ i) × (get_or (set xs i y) j d ≡ get_or xs j d))
at_set xs i j y d h = elim (eqb_tells j i) [ inl e ↦ inl (e.1, get_or-set_at xs i j y d e.1 h) | inr e ↦ inr (e.1, get_or-set_other xs i j y d e.1) ]

-- where no place passes, nothing does
pub position_none : {X : Type 0} (p : X → Bool) (xs : List X) → position p xs ≡ None → list_any p xs ≡ false
position_none {X} p xs h = by (list_any p xs) refl
  where
    inside : (ys : List X) → list_any p ys ≡ true → position_or_len p ys < length ys
    inside [] some = absurd (cc)
    inside (y ∷ ys) some = one (p y) refl (inside ys)
      where
        one : (b : Bool) → p y ≡ b → (list_any p ys ≡ true → position_or_len p ys < length ys) → cond (not (p y)) (1 + position_or_len p ys) 0 < suc (length ys)
        one true e rest = rw e (omega arith)
        one false e rest = let there = rest (rw e at some) in rw e (omega (arith, there))

    by : (b : Bool) → list_any p xs ≡ b → list_any p xs ≡ false
    by true e = let some : Some (position_or_len p xs) ≡ None = sym (ap (λ (c : Bool). cond c (Some (position_or_len p xs)) None) (lt-ltb (position_or_len p xs) (length xs) (inside xs e))) ∙ h in absurd (cc)
    by false e = e

-- Numbers in a row.

pub length-counted_from : (first n : ℕ) → length (counted_from first n) ≡ n
length-counted_from first zero = refl
length-counted_from first (suc n) = ap suc (length-counted_from (suc first) n)

pub slice_get-counted_from : (first n k : ℕ) → k < n → slice_get (counted_from first n) k ≡ Some (first + k)
slice_get-counted_from first zero k h = absurd (omega arith)
slice_get-counted_from first (suc n) zero h = ap Some (omega arith)
slice_get-counted_from first (suc n) (suc k) h = slice_get-counted_from (suc first) n k (omega arith) ∙ ap Some (omega arith)

pub counted-last : (first n : ℕ) → counted_from first (suc n) ≡ counted_from first n ++ (first + n) ∷ []
counted-last first zero = let none : first + 0 ≡ first = omega arith in ap (λ (k : ℕ). k ∷ []) (sym none)
counted-last first (suc n) =
    let next : suc first + n ≡ first + suc n = omega arith in
    ap (λ (l : List ℕ). first ∷ l) (counted-last (suc first) n ∙ ap (λ (k : ℕ). counted_from (suc first) n ++ k ∷ []) next)

-- Lists that agree place by place.

-- functions that give the same at each place
pub map_same : {X Y : Type 0} (f g : X → Y) (xs : List X) → ((k : ℕ) (x : X) → slice_get xs k ≡ Some x → f x ≡ g x) → map f xs ≡ map g xs
map_same f g [] each = refl
map_same f g (x ∷ xs) each = ap (λ y. y ∷ map f xs) (each 0 x refl) ∙ ap (λ rest. g x ∷ rest) (map_same f g xs (λ k y at. each (suc k) y at))

-- as many
pub AreAll-length : {X Y : Type 0} (Is : X → Y → Type 0) (xs : List X) (ys : List Y) → AreAll Is xs ys → length xs ≡ length ys
AreAll-length Is [] [] a = refl
AreAll-length Is [] (y ∷ ys) a = absurd a
AreAll-length Is (x ∷ xs) [] a = absurd a
AreAll-length Is (x ∷ xs) (y ∷ ys) a = ap suc (AreAll-length Is xs ys a.1)

-- what stands at the same place on the right
pub AreAll-right : {X Y : Type 0} (Is : X → Y → Type 0) (xs : List X) (ys : List Y) (k : ℕ) (x : X) → AreAll Is xs ys → slice_get xs k ≡ Some x
    → (y : Y) × (slice_get ys k ≡ Some y) × Is x y
AreAll-right Is [] ys k x a at = absurd (cc)
AreAll-right Is (z ∷ xs) [] k x a at = absurd a
AreAll-right {X} {Y} Is (z ∷ xs) (y ∷ ys) zero x a at =
    let same : z ≡ x = grind arith in
    let P : X → Type 0 = λ w. Is w y in
    (y, refl, subst P same a.0)
AreAll-right Is (z ∷ xs) (y ∷ ys) (suc k) x a at = AreAll-right Is xs ys k x a.1 at

-- what stands at the same place on the left
pub AreAll-left : {X Y : Type 0} (Is : X → Y → Type 0) (xs : List X) (ys : List Y) (k : ℕ) (y : Y) → AreAll Is xs ys → slice_get ys k ≡ Some y
    → (x : X) × (slice_get xs k ≡ Some x) × Is x y
AreAll-left Is xs [] k y a at = absurd (cc)
AreAll-left Is [] (z ∷ ys) k y a at = absurd a
AreAll-left {X} {Y} Is (x ∷ xs) (z ∷ ys) zero y a at =
    let same : z ≡ y = grind arith in
    let P : Y → Type 0 = λ w. Is x w in
    (x, refl, subst P same a.0)
AreAll-left Is (x ∷ xs) (z ∷ ys) (suc k) y a at = AreAll-left Is xs ys k y a.1 at

-- The front of a list, and what is left.

-- the front, and the next element
pub taken_more : {X : Type 0} (xs : List X) (i : ℕ) (x : X) (front new : List X) → slice_get xs i ≡ Some x → front ≡ take i xs → new ≡ front ++ x ∷ [] → new ≡ take (i + 1) xs
taken_more xs i x front new at so_far grown =
    let within = slice_get_within xs i x at in
    let here = get_or_from_slice_get xs i x x at in
    rw (grown, so_far, take_more xs i x within, here) refl

-- what is left, by its first element
pub left_at : {X : Type 0} (xs : List X) (i : ℕ) (x : X) → slice_get xs i ≡ Some x → drop i xs ≡ x ∷ drop (suc i) xs
left_at [] i x at = absurd (cc)
left_at (y ∷ xs) zero x at = let same : y ≡ x = grind arith in rw same refl
left_at (y ∷ xs) (suc i) x at = left_at xs i x at

-- the front that is as long as the list is the list
pub front_all : {X : Type 0} (xs : List X) (n : ℕ) → length xs ≤ n → take n xs ≡ xs
front_all [] zero long = refl
front_all [] (suc n) long = refl
front_all (x ∷ xs) zero long = absurd (omega arith)
front_all {X = X} (x ∷ xs) (suc n) long = ap (λ (zs : List X). x ∷ zs) (front_all xs n (omega arith))

-- the front that is as long as the first of two lists is the first
pub front_of : {X : Type 0} (xs ys : List X) (n : ℕ) → n ≡ length xs → take n (xs ++ ys) ≡ xs
front_of [] ys n is = rw is refl
front_of (x ∷ xs) ys zero is = absurd (omega arith)
front_of {X = X} (x ∷ xs) ys (suc n) is = ap (λ (zs : List X). x ∷ zs) (front_of xs ys n (omega arith))

-- what begins with its front
pub begins_joined : (prefix rest : List ℕ) → starts_with nat_eq (prefix ++ rest) prefix ≡ true
begins_joined [] rest = refl
begins_joined (x ∷ prefix) rest = and_true (nat_eq x x) (starts_with nat_eq (prefix ++ rest) prefix) (eqb_same x) (begins_joined prefix rest)

-- Tests along a list, and finds.

pub any_at : {X : Type 0} (p : X → Bool) (xs : List X) (k : ℕ) (x : X) → slice_get xs k ≡ Some x → p x ≡ true → list_any p xs ≡ true
any_at p [] k x at passes = absurd (cc)
any_at p (y ∷ ys) zero x at passes = let same : y ≡ x = cc in let now : p y ≡ true = ap p same ∙ passes in rw now refl
any_at p (y ∷ ys) (suc k) x at passes = or_more (p y) (list_any p ys) (any_at p ys k x at passes)

pub test_at : {X : Type 0} (p : X → Bool) (xs : List X) (k : ℕ) (x : X) → list_all p xs ≡ true → slice_get xs k ≡ Some x → p x ≡ true
test_at p [] k x all at = absurd (cc)
test_at {X = X} p (y ∷ ys) zero x all at = let same : y ≡ x = cc in subst (λ (z : X). p z ≡ true) same (and_left (p y) (list_all p ys) all)
test_at p (y ∷ ys) (suc k) x all at = test_at p ys k x (and_right (p y) (list_all p ys) all) at

-- tests that agree
pub any_same : {X : Type 0} (p q : X → Bool) → ((x : X) → p x ≡ q x) → (xs : List X) → list_any p xs ≡ list_any q xs
any_same p q same [] = refl
any_same p q same (x ∷ xs) = rw (same x, any_same p q same xs) refl

pub any_map : {X Y : Type 0} (p : Y → Bool) (f : X → Y) (xs : List X) → list_any p (map f xs) ≡ list_any (λ x. p (f x)) xs
any_map p f [] = refl
any_map p f (x ∷ xs) = ap (λ (b : Bool). p (f x) || b) (any_map p f xs)

-- a test that each element fails
pub each_fails : {X : Type 0} (p : X → Bool) (xs : List X) → list_any p xs ≡ false → AllByRecursion (λ x. p x ≡ false) xs
each_fails p [] none = tt
each_fails p (x ∷ xs) none = (or_first (p x) (list_any p xs) none, each_fails p xs (or_second (p x) (list_any p xs) none))

pub none_passes : {X : Type 0} (p : X → Bool) (xs : List X) → AllByRecursion (λ x. p x ≡ false) xs → list_any p xs ≡ false
none_passes p [] all = refl
none_passes p (x ∷ xs) all = neither (p x) (list_any p xs) all.0 (none_passes p xs all.1)

-- More of the front of a list, and of what is left.

pub in_front : {X : Type 0} (xs : List X) (n k : ℕ) (x : X) → k < n → slice_get xs k ≡ Some x → slice_get (take n xs) k ≡ Some x
in_front [] n k x low at = absurd (cc)
in_front (y ∷ ys) zero k x low at = absurd (omega arith)
in_front (y ∷ ys) (suc n) zero x low at = at
in_front (y ∷ ys) (suc n) (suc k) x low at = in_front ys n k x (omega arith) at

pub none_left : {X : Type 0} (xs : List X) (n : ℕ) → length xs ≤ n → drop n xs ≡ []
none_left [] zero long = refl
none_left [] (suc n) long = refl
none_left (x ∷ xs) zero long = absurd (omega arith)
none_left (x ∷ xs) (suc n) long = none_left xs n (omega arith)

pub map_push : {X Y : Type 0} (f : X → Y) (xs : List X) (x : X) → map f (xs ++ x ∷ []) ≡ map f xs ++ f x ∷ []
map_push f [] x = refl
map_push {Y = Y} f (y ∷ ys) x = ap (λ (l : List Y). f y ∷ l) (map_push f ys x)
