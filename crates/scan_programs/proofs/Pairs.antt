-- Counts of elements that are matched with elements of another list.
use Rattle.std.proofs.Common.{◌≡◌, ℕ, suc, ◌+◌, ◌≤◌, Bool, true, false, cond, not, ◌||◌, List, [], ◌∷◌, length, count_by, refl, ap, ◌∙◌, arith}
use Rattle.std.specs.Prelude.{⊤}
use Rattle.std.specs.List.{list_any}
use Rattle.std.proofs.lemmas.List.Sums.{sum_by-cons}

abbrev pub one_if : Bool → ℕ
one_if b = cond b 1 0

-- how many elements pass a test
abbrev pub count : {A : Type 0} → (A → Bool) → List A → ℕ
count test [] = 0
count test (x ∷ xs) = one_if (test x) + count test xs

pub count_is : {A : Type 0} (test : A → Bool) (xs : List A) → count_by test xs ≡ count test xs
count_is test [] = refl
count_is test (x ∷ xs) = sum_by-cons (λ y. cond (test y) 1 0) x xs ∙ ap (λ (n : ℕ). one_if (test x) + n) (count_is test xs)

pub one_if-le : (b : Bool) → one_if b ≤ 1
one_if-le true = omega arith
one_if-le false = omega arith

split : (b : Bool) (n p q : ℕ) → n ≡ p + q → suc n ≡ one_if b + p + (one_if (not b) + q)
split true n p q e = omega (arith, e)
split false n p q e = omega (arith, e)

pub count_all : {A : Type 0} (test : A → Bool) (xs : List A) → length xs ≡ count test xs + count (λ x. not (test x)) xs
count_all test [] = refl
count_all test (x ∷ xs) = split (test x) (length xs) (count test xs) (count (λ y. not (test y)) xs) (count_all test xs)

-- how many pairs pass a test
abbrev pairs : {A B : Type 0} → (A → B → Bool) → List A → List B → ℕ
pairs test [] ys = 0
pairs test (x ∷ xs) ys = count (test x) ys + pairs test xs ys

pairs_none : {A B : Type 0} (test : A → B → Bool) (xs : List A) → pairs test xs [] ≡ 0
pairs_none test [] = refl
pairs_none test (x ∷ xs) = let e = pairs_none test xs in omega (arith, e)

pairs_more : {A B : Type 0} (test : A → B → Bool) (xs : List A) (y : B) (ys : List B) → pairs test xs (y ∷ ys) ≡ count (λ x. test x y) xs + pairs test xs ys
pairs_more test [] y ys = refl
pairs_more test (x ∷ xs) y ys = let e = pairs_more test xs y ys in omega (arith, e)

-- an element is matched, where it passes
pub record IsMatched {A B : Type 0} (passes : A → Bool) (test : A → B → Bool) (ys : List B) (x : A) : Type 0 where
  pub some : passes x ≡ true → list_any (test x) ys ≡ true

abbrev pub AreMatched : {A B : Type 0} → (A → Bool) → (A → B → Bool) → List B → List A → Type 0
AreMatched passes test ys [] = ⊤
AreMatched passes test ys (x ∷ xs) = IsMatched passes test ys x × AreMatched passes test ys xs

-- an element matches one other at most, and none where it doesn't pass
abbrev pub MatchOnce : {A B : Type 0} → (B → Bool) → (A → B → Bool) → List A → List B → Type 0
MatchOnce passes test xs [] = ⊤
MatchOnce passes test xs (y ∷ ys) = (count (λ x. test x y) xs ≤ one_if (passes y)) × MatchOnce passes test xs ys

some_by : (b : Bool) (n : ℕ) (later : Bool) → (b || later) ≡ true → (later ≡ true → 1 ≤ n) → 1 ≤ one_if b + n
some_by true n later h more = omega arith
some_by false n later h more = let k = more h in omega (arith, k)

some_count : {B : Type 0} (test : B → Bool) (ys : List B) → list_any test ys ≡ true → 1 ≤ count test ys
some_count test [] h = absurd (cc)
some_count test (y ∷ ys) h = some_by (test y) (count test ys) (list_any test ys) h (some_count test ys)

least_by : (b : Bool) (n a r : ℕ) → (b ≡ true → 1 ≤ a) → n ≤ r → one_if b + n ≤ a + r
least_by true n a r one more = let k = one refl in omega (arith, k, more)
least_by false n a r one more = omega (arith, more)

pairs_at_least : {A B : Type 0} (passes : A → Bool) (test : A → B → Bool) (xs : List A) (ys : List B) → AreMatched passes test ys xs → count passes xs ≤ pairs test xs ys
pairs_at_least passes test [] ys h = omega arith
pairs_at_least passes test (x ∷ xs) ys h =
    least_by (passes x) (count passes xs) (count (test x) ys) (pairs test xs ys) (λ e. some_count (test x) ys (h.0.some e)) (pairs_at_least passes test xs ys h.1)

pairs_at_most : {A B : Type 0} (passes : B → Bool) (test : A → B → Bool) (xs : List A) (ys : List B) → MatchOnce passes test xs ys → pairs test xs ys ≤ count passes ys
pairs_at_most passes test xs [] h = let e = pairs_none test xs in omega (arith, e)
pairs_at_most passes test xs (y ∷ ys) h =
    let e = pairs_more test xs y ys in let one : count (λ x. test x y) xs ≤ one_if (passes y) = h.0 in let more = pairs_at_most passes test xs ys h.1 in omega (arith, e, one, more)

-- as many of one list as of the other, at most
pub no_more : {A B : Type 0} (passes : A → Bool) (takes : B → Bool) (test : A → B → Bool) (xs : List A) (ys : List B) → AreMatched passes test ys xs → MatchOnce takes test xs ys
    → count passes xs ≤ count takes ys
no_more passes takes test xs ys h k =
    let least = pairs_at_least passes test xs ys h in let most = pairs_at_most takes test xs ys k in omega (arith, least, most)

pub count_le : {A : Type 0} (test : A → Bool) (xs : List A) → count test xs ≤ length xs
count_le test [] = omega arith
count_le test (x ∷ xs) = let one = one_if-le (test x) in let more = count_le test xs in omega (arith, one, more)
