-- Lists by look-ups, and flags that are counted.
use Rattle.std.proofs.Common.{◌≡◌, ℕ, zero, suc, ◌+◌, ◌<◌, Bool, true, false, cond, List, [], ◌∷◌, ◌++◌, ◌⊎◌, inl, inr, length, take, replicate, get_or, refl, ap, ◌∙◌, Some, arith}
use Rattle.std.specs.Prelude.{slice_get, slice_set, count_by}
use Rattle.std.proofs.lemmas.Option.{same_Some, slice_get_within, get_or_from_slice_get}
use Rattle.std.proofs.lemmas.List.Recursion.{is_count_by}
use Rattle.std.proofs.lemmas.List.Sums.{sum_by-set}

-- an element behind the others

pub get_push_left : {X : Type 0} (xs : List X) (y : X) (k : ℕ) (x : X) → slice_get xs k ≡ Some x → slice_get (xs ++ y ∷ []) k ≡ Some x
get_push_left [] y k x at = absurd (cc)
get_push_left (z ∷ xs) y zero x at = at
get_push_left (z ∷ xs) y (suc k) x at = get_push_left xs y k x at

-- it is one of the others, or the last
pub get_push : {X : Type 0} (xs : List X) (y : X) (k : ℕ) (x : X) → slice_get (xs ++ y ∷ []) k ≡ Some x → (slice_get xs k ≡ Some x) ⊎ ((k ≡ length xs) × (Some y ≡ Some x))
get_push [] y zero x at = inr (refl, at)
get_push [] y (suc k) x at = absurd (cc)
get_push (z ∷ xs) y zero x at = inl at
get_push (z ∷ xs) y (suc k) x at = elim (get_push xs y k x at) [ inl old ↦ inl old | inr last ↦ inr (ap suc last.0, last.1) ]

pub take_push : {X : Type 0} (xs : List X) (k : ℕ) (x : X) → slice_get xs k ≡ Some x → take (k + 1) xs ≡ take k xs ++ x ∷ []
take_push [] k x at = absurd (cc)
take_push {X = X} (y ∷ xs) zero x at = ap (λ (z : X). z ∷ []) (same_Some y x at)
take_push (y ∷ xs) (suc k) x at = let e : suc k + 1 ≡ suc (k + 1) = omega arith in rw e (ap (λ zs. y ∷ zs) (take_push xs k x at))

pub get_replicate : (n k : ℕ) → slice_get (replicate n false) k ≡ Some true → ⊥
get_replicate zero k at = cc
get_replicate (suc n) zero at = cc
get_replicate (suc n) (suc k) at = get_replicate n k at

-- flags, and how many are set

set_count : List Bool → ℕ
set_count [] = 0
set_count (flag ∷ flags) = cond flag (1 + set_count flags) (set_count flags)

count_is : (flags : List Bool) → set_count flags ≡ count_by (λ w. w) flags
unfolding set_count
count_is flags = is_count_by set_count (λ w. w) refl (λ x xs. refl) flags

none_set : (flags : List Bool) → set_count flags ≡ 0 → (k : ℕ) → slice_get flags k ≡ Some true → ⊥
unfolding set_count
none_set [] e k at = cc
none_set (true ∷ flags) e k at = omega arith
none_set (false ∷ flags) e zero at = cc
none_set (false ∷ flags) e (suc k) at = none_set flags e k at

pub none_flagged : (flags : List Bool) → count_by (λ w. w) flags ≡ 0 → (k : ℕ) → slice_get flags k ≡ Some true → ⊥
none_flagged flags e = none_set flags (count_is flags ∙ e)

pub record HasFlag (flags : List Bool) : Type 0 where
  pub place : ℕ
  pub there : slice_get flags place ≡ Some true

some_set : (flags : List Bool) → 0 < set_count flags → HasFlag flags
unfolding set_count
some_set [] less = absurd (omega arith)
some_set (true ∷ flags) less = record { place = 0; there = refl }
some_set (false ∷ flags) less = let rest = some_set flags less in record { place = suc rest.place; there = rest.there }

pub some_flagged : (flags : List Bool) → 0 < count_by (λ w. w) flags → HasFlag flags
some_flagged flags less = some_set flags (rw (count_is flags) less)

-- one flag is cleared
pub count_cleared : (flags : List Bool) (k : ℕ) → slice_get flags k ≡ Some true → count_by (λ w. w) (slice_set flags k false) + 1 ≡ count_by (λ w. w) flags
count_cleared flags k at =
    let within = slice_get_within flags k true at in
    let flag : get_or flags k false ≡ true = get_or_from_slice_get flags k true false at in
    let step = sum_by-set (λ w. cond w 1 0) flags k false false within in
    omega (arith, rw flag at step)
