-- Sums over lists whose order doesn't matter.
use Rattle.std.proofs.Common.{◌≡◌, ℕ, ◌+◌, List, [], ◌∷◌, ◌++◌, Bool, true, false, cond, ◌||◌, map, refl, sym, ap, ◌∙◌, arith}
use Rattle.std.specs.List.{count_by, list_any, flat_map}
use Rattle.std.proofs.lemmas.List.Sums.{sum_by-cons}

-- the sum of the weights
abbrev pub total : {X : Type 0} → (X → ℕ) → List X → ℕ
total weight [] = 0
total weight (x ∷ xs) = weight x + total weight xs

-- the number where the test is passed, else 0
abbrev pub weigh : Bool → ℕ → ℕ
weigh true n = n
weigh false n = 0

-- how many pass the test
abbrev pub tally : {X : Type 0} → (X → Bool) → List X → ℕ
tally test xs = total (λ x. weigh (test x) 1) xs

pub count_by-tally : {X : Type 0} (test : X → Bool) (xs : List X) → count_by test xs ≡ tally test xs
count_by-tally test [] = refl
count_by-tally test (x ∷ xs) = sum_by-cons (λ y. cond (test y) 1 0) x xs ∙ ap (λ (n : ℕ). cond (test x) 1 0 + n) (count_by-tally test xs) ∙ ap (λ (n : ℕ). n + tally test xs) (same (test x))
  where
    same : (b : Bool) → cond b 1 0 ≡ weigh b 1
    same true = refl
    same false = refl

-- Two weights.

pub total_same : {X : Type 0} (f g : X → ℕ) → ((x : X) → f x ≡ g x) → (xs : List X) → total f xs ≡ total g xs
total_same f g same [] = refl
total_same f g same (x ∷ xs) = ap (λ (n : ℕ). n + total f xs) (same x) ∙ ap (λ (n : ℕ). g x + n) (total_same f g same xs)

total_none : {X : Type 0} (xs : List X) → total (λ (x : X). 0) xs ≡ 0
total_none [] = refl
total_none (x ∷ xs) = omega (arith, total_none xs)

total_both : {X : Type 0} (f g : X → ℕ) (xs : List X) → total (λ x. f x + g x) xs ≡ total f xs + total g xs
total_both f g [] = refl
total_both f g (x ∷ xs) = omega (arith, total_both f g xs)

pub total-append : {X : Type 0} (f : X → ℕ) (xs ys : List X) → total f (xs ++ ys) ≡ total f xs + total f ys
total-append f [] ys = omega arith
total-append f (x ∷ xs) ys = omega (arith, total-append f xs ys)

pub total-map : {X Y : Type 0} (f : Y → ℕ) (g : X → Y) (xs : List X) → total f (map g xs) ≡ total (λ x. f (g x)) xs
total-map f g [] = refl
total-map f g (x ∷ xs) = ap (λ (n : ℕ). f (g x) + n) (total-map f g xs)

pub total-flat_map : {X Y : Type 0} (f : Y → ℕ) (g : X → List Y) (xs : List X) → total f (flat_map g xs) ≡ total (λ x. total f (g x)) xs
total-flat_map f g [] = refl
total-flat_map f g (x ∷ xs) = total-append f (g x) (flat_map g xs) ∙ ap (λ (n : ℕ). total f (g x) + n) (total-flat_map f g xs)

-- sums of sums, the other way round
pub swapped : {K X : Type 0} (f : K → X → ℕ) (keys : List K) (xs : List X) → total (λ k. total (λ x. f k x) xs) keys ≡ total (λ x. total (λ k. f k x) keys) xs
swapped f [] xs = sym (total_none xs)
swapped f (k ∷ ks) xs = ap (λ (n : ℕ). total (λ x. f k x) xs + n) (swapped f ks xs) ∙ sym (total_both (λ x. f k x) (λ x. total (λ k2. f k2 x) ks) xs)

-- Any.

pub none_any : {X : Type 0} (test : X → Bool) (xs : List X) → list_any test xs ≡ false → tally test xs ≡ 0
none_any test [] h = refl
none_any test (x ∷ xs) h = by (test x) (none_any test xs) h
  where
    by : (b : Bool) → (list_any test xs ≡ false → tally test xs ≡ 0) → (b || list_any test xs) ≡ false → weigh b 1 + tally test xs ≡ 0
    by true rest k = absurd (cc)
    by false rest k = omega (arith, rest k)

pub any_none : {X : Type 0} (test : X → Bool) (xs : List X) → tally test xs ≡ 0 → list_any test xs ≡ false
any_none test [] h = refl
any_none test (x ∷ xs) h = by (test x) (any_none test xs) h
  where
    by : (b : Bool) → (tally test xs ≡ 0 → list_any test xs ≡ false) → weigh b 1 + tally test xs ≡ 0 → (b || list_any test xs) ≡ false
    by true rest k = absurd (omega arith)
    by false rest k = rest (omega arith)

-- The lists hold the same, each as often.
pub record Shuffled {X : Type 0} (xs ys : List X) : Type 0 where
  pub same : (weight : X → ℕ) → total weight xs ≡ total weight ys

pub any_shuffled : {X : Type 0} (test : X → Bool) (xs ys : List X) → Shuffled xs ys → list_any test ys ≡ false → list_any test xs ≡ false
any_shuffled test xs ys s h = any_none test xs (s.same (λ x. weigh (test x) 1) ∙ none_any test ys h)

pub count_shuffled : {X : Type 0} (test : X → Bool) (xs ys : List X) → Shuffled xs ys → count_by test xs ≡ count_by test ys
count_shuffled test xs ys s = count_by-tally test xs ∙ s.same (λ x. weigh (test x) 1) ∙ sym (count_by-tally test ys)
