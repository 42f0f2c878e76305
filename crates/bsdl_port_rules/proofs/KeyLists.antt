-- Lists of keys: repeats, first places and counts.
use Rattle.std.proofs.Common.{◌≡◌, ℕ, zero, suc, ◌+◌, ◌-◌, ◌<◌, ◌≤◌, Bool, true, false, ◌||◌, ◌==◌, List, [], ◌∷◌, ◌++◌, length, take, get_or, count_by, Some, if◌then◌else◌, refl, ap, sym, ◌∙◌, add-one, arith, eqb-true}
use Rattle.std.specs.List.{list_any}
use Rattle.std.specs.Cmp.{IsEquivalence}
use Rattle.std.proofs.lemmas.List.Folds.{list_any-append}
use Rattle.std.proofs.lemmas.List.Sums.{count_by_more_yes, count_by_more_no}
use Rattle.bsdl_device.specs.Checks.{any_pair}
use Rattle.bsdl_port_rules.specs.Keys.{repeats_after, once_more, uses_for, is_once}

swap_ors : (a b c d : Bool) → (a || (b || false)) || (c || d) ≡ (a || c) || (b || d)
swap_ors true b c d = refl
swap_ors false true true d = refl
swap_ors false true false d = refl
swap_ors false false c d = refl

group_ors : (a b c d : Bool) → a || ((b || c) || d) ≡ (a || b) || (c || d)
group_ors true b c d = refl
group_ors false true c d = refl
group_ors false false c d = refl

module _ {K : Type 0} (same : K → K → Bool) (laws : IsEquivalence same) where
  among : List K → K → Bool
  among before k = list_any (same k) before

  -- one key more among those before
  one_more : (before : List K) (k : K) → (ks : List K) → list_any (among (before ++ k ∷ [])) ks ≡ (list_any (among before) ks || list_any (same k) ks)
  unfolding among
  one_more before k [] = refl
  one_more before k (x ∷ xs) =
      ap (λ b. b || list_any (among (before ++ k ∷ [])) xs) (list_any-append (same x) before (k ∷ []))
      ∙ ap (λ b. (among before x || (b || false)) || list_any (among (before ++ k ∷ [])) xs) (laws.symm x k)
      ∙ ap (λ b. (among before x || (same k x || false)) || b) (one_more before k xs)
      ∙ swap_ors (among before x) (same k x) (list_any (among before) xs) (list_any (same k) xs)

  after : (before ks : List K) → repeats_after same before ks ≡ (list_any (among before) ks || any_pair same ks)
  unfolding among
  after before [] = refl
  after before (x ∷ xs) =
      ap (λ b. among before x || b) (after (before ++ x ∷ []) xs ∙ ap (λ b. b || any_pair same xs) (one_more before x xs))
      ∙ group_ors (among before x) (list_any (among before) xs) (list_any (same x) xs) (any_pair same xs)

  none : (ks : List K) → list_any (among []) ks ≡ false
  unfolding among
  none [] = refl
  none (x ∷ xs) = none xs

  -- whether a key comes twice
  pub repeats_after_none : (ks : List K) → repeats_after same [] ks ≡ any_pair same ks
  repeats_after_none ks = after [] ks ∙ ap (λ b. b || any_pair same ks) (none ks)

-- one use more
pub uses_next : {K : Type 0} (test : K → Bool) (keys : List K) (i : ℕ) (d : K) → i < length keys
    → uses_for (count_by test (take (i + 1) keys)) ≡ (if test (get_or keys i d) then Some (once_more (uses_for (count_by test (take i keys)))) else uses_for (count_by test (take i keys)))
uses_next test keys i d h = by (test (get_or keys i d)) refl
  where
    by : (b : Bool) → test (get_or keys i d) ≡ b → uses_for (count_by test (take (i + 1) keys)) ≡ (if b then Some (once_more (uses_for (count_by test (take i keys)))) else uses_for (count_by test (take i keys)))
    by true e = ap uses_for (count_by_more_yes test keys i d h e ∙ add-one (count_by test (take i keys)))
    by false e = ap uses_for (count_by_more_no test keys i d h e)

never_one : (n : ℕ) → (suc (suc n) == 1) ≡ false
never_one n = by (suc (suc n) == 1) refl
  where
    by : (b : Bool) → (suc (suc n) == 1) ≡ b → b ≡ false
    by true e = let same : suc (suc n) ≡ 1 = eqb-true (suc (suc n)) 1 e in absurd (omega arith)
    by false e = refl

-- a key that comes once
pub is_once-uses_for : (n : ℕ) → is_once (uses_for n) ≡ (n == 1)
is_once-uses_for zero = refl
is_once-uses_for (suc zero) = refl
is_once-uses_for (suc (suc n)) = sym (never_one n)
