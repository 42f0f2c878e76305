-- The one of a list that goes with each of some keys.
use Rattle.std.proofs.Common.{◌≡◌, ℕ, ◌+◌, List, [], ◌∷◌, Bool, true, false, cond, Option, Some, None, refl, ap, ◌∙◌, arith}
use Rattle.std.specs.List.{find, filter_map, cons_option, AllByRecursion}
use Rattle.bsdl_device.proofs.Totals.{total, weigh, tally, swapped, Shuffled}

-- the weight of what may be there
abbrev weight_of : {X : Type 0} → (X → ℕ) → Option X → ℕ
weight_of weight None = 0
weight_of weight (Some x) = weight x

weigh_none : {X : Type 0} (test : X → Bool) (weight : X → ℕ) (xs : List X) → tally test xs ≡ 0 → total (λ x. weigh (test x) (weight x)) xs ≡ 0
weigh_none test weight [] h = refl
weigh_none test weight (x ∷ xs) h = by (test x) (weigh_none test weight xs) h
  where
    by : (b : Bool) → (tally test xs ≡ 0 → total (λ y. weigh (test y) (weight y)) xs ≡ 0) → weigh b 1 + tally test xs ≡ 0 → weigh b (weight x) + total (λ y. weigh (test y) (weight y)) xs ≡ 0
    by true rest k = absurd (omega arith)
    by false rest k = omega (arith, rest (omega arith))

-- where one passes the test, its weight is that of what is found
weigh_one : {X : Type 0} (test : X → Bool) (weight : X → ℕ) (xs : List X) → tally test xs ≡ 1 → weight_of weight (find test xs) ≡ total (λ x. weigh (test x) (weight x)) xs
weigh_one test weight [] h = absurd (omega arith)
weigh_one test weight (x ∷ xs) h = by (test x) (weigh_one test weight xs) h
  where
    by : (b : Bool) → (tally test xs ≡ 1 → weight_of weight (find test xs) ≡ total (λ y. weigh (test y) (weight y)) xs) → weigh b 1 + tally test xs ≡ 1 → weight_of weight (cond b (Some x) (find test xs)) ≡ weigh b (weight x) + total (λ y. weigh (test y) (weight y)) xs
    by true rest k = let none : total (λ y. weigh (test y) (weight y)) xs ≡ 0 = weigh_none test weight xs (omega arith) in omega arith
    by false rest k = omega (arith, rest (omega arith))

-- one weight, where one passes the test
weigh_same : {X : Type 0} (test : X → Bool) (n : ℕ) (xs : List X) → tally test xs ≡ 1 → total (λ x. weigh (test x) n) xs ≡ n
weigh_same test n [] h = absurd (omega arith)
weigh_same test n (x ∷ xs) h = by (test x) (weigh_same test n xs) h
  where
    by : (b : Bool) → (tally test xs ≡ 1 → total (λ y. weigh (test y) n) xs ≡ n) → weigh b 1 + tally test xs ≡ 1 → weigh b n + total (λ y. weigh (test y) n) xs ≡ n
    by true rest k = let none : total (λ y. weigh (test y) n) xs ≡ 0 = weigh_none test (λ _. n) xs (omega arith) in omega arith
    by false rest k = omega (arith, rest (omega arith))

-- what is chosen, by the weights of what is found
total_chosen : {K X : Type 0} (test : K → X → Bool) (weight : X → ℕ) (keys : List K) (xs : List X) → AllByRecursion (λ k. tally (test k) xs ≡ 1) keys
    → total weight (filter_map (λ k. find (test k) xs) keys) ≡ total (λ k. total (λ x. weigh (test k x) (weight x)) xs) keys
total_chosen test weight [] xs all = refl
total_chosen {X = X} test weight (k ∷ ks) xs all =
    added (find (test k) xs) (filter_map (λ k2. find (test k2) xs) ks)
    ∙ ap (λ (n : ℕ). n + total weight (filter_map (λ k2. find (test k2) xs) ks)) (weigh_one (test k) weight xs all.0)
    ∙ ap (λ (n : ℕ). total (λ x. weigh (test k x) (weight x)) xs + n) (total_chosen test weight ks xs all.1)
  where
    added : (found : Option X) (more : List X) → total weight (cons_option found more) ≡ weight_of weight found + total weight more
    added None more = omega arith
    added (Some x) more = refl

total_keys : {K X : Type 0} (test : K → X → Bool) (weight : X → ℕ) (keys : List K) (xs : List X) → AllByRecursion (λ x. tally (λ k. test k x) keys ≡ 1) xs
    → total (λ x. total (λ k. weigh (test k x) (weight x)) keys) xs ≡ total weight xs
total_keys test weight keys [] all = refl
total_keys test weight keys (x ∷ xs) all =
    ap (λ (n : ℕ). n + total (λ y. total (λ k. weigh (test k y) (weight y)) keys) xs) (weigh_same (λ k. test k x) (weight x) keys all.0)
    ∙ ap (λ (n : ℕ). weight x + n) (total_keys test weight keys xs all.1)

-- Each key has one of the list, and each of the list one key: what the keys choose is the list in another order.
pub chosen_shuffled : {K X : Type 0} (test : K → X → Bool) (keys : List K) (xs : List X) → AllByRecursion (λ k. tally (test k) xs ≡ 1) keys → AllByRecursion (λ x. tally (λ k. test k x) keys ≡ 1) xs → Shuffled (filter_map (λ k. find (test k) xs) keys) xs
chosen_shuffled test keys xs each one = record {
  same = λ weight. total_chosen test weight keys xs each ∙ swapped (λ k x. weigh (test k x) (weight x)) keys xs ∙ total_keys test weight keys xs one;
}
