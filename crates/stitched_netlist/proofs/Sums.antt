-- Sums over the elements before a place of a list, and over those behind it.
use Rattle.std.proofs.Common.{◌≡◌, inl, inr, ℕ, zero, suc, ◌+◌, ◌-◌, ◌<◌, ◌≤◌, List, [], ◌∷◌, take, drop, refl, ap, Some, arith}
use Rattle.std.specs.Prelude.{slice_get, sum_by}
use Rattle.std.proofs.lemmas.Bool.{cases_lt}
use Rattle.std.proofs.lemmas.List.Sums.{sum_by-cons}

-- Before a place.

pub sum_take : {X : Type 0} (g : X → ℕ) (xs : List X) (k : ℕ) (x : X) → slice_get xs k ≡ Some x → sum_by g (take (suc k) xs) ≡ sum_by g (take k xs) + g x
sum_take g [] k x at = absurd (cc)
sum_take g (y ∷ ys) zero x at =
    let same : g y ≡ g x = (let one : y ≡ x = cc in ap g one) in
    let one = sum_by-cons g y [] in
    let none : sum_by g [] ≡ 0 = refl in
    omega arith
sum_take g (y ∷ ys) (suc k) x at =
    let rest = sum_take g ys k x at in
    let one = sum_by-cons g y (take k ys) in
    let two = sum_by-cons g y (take (suc k) ys) in
    omega arith

pub take_whole : {X : Type 0} (g : X → ℕ) (xs : List X) (k : ℕ) → sum_by g (take k xs) ≤ sum_by g xs
take_whole g [] zero = omega arith
take_whole g [] (suc k) = omega arith
take_whole g (y ∷ ys) zero = let none : sum_by g [] ≡ 0 = refl in omega arith
take_whole g (y ∷ ys) (suc k) =
    let rest = take_whole g ys k in
    let one = sum_by-cons g y (take k ys) in
    let two = sum_by-cons g y ys in
    omega arith

pub take_more : {X : Type 0} (g : X → ℕ) (xs : List X) (j k : ℕ) → j ≤ k → sum_by g (take j xs) ≤ sum_by g (take k xs)
take_more g [] zero zero h = omega arith
take_more g [] zero (suc k) h = omega arith
take_more g [] (suc j) zero h = omega arith
take_more g [] (suc j) (suc k) h = omega arith
take_more g (y ∷ ys) zero k h = let none : sum_by g [] ≡ 0 = refl in omega arith
take_more g (y ∷ ys) (suc j) zero h = absurd (omega arith)
take_more g (y ∷ ys) (suc j) (suc k) h =
    let rest = take_more g ys j k (omega arith) in
    let one = sum_by-cons g y (take j ys) in
    let two = sum_by-cons g y (take k ys) in
    omega arith

-- own: places before two elements, each within its own share, are of one element where they are the same
pub same_take : {X : Type 0} (g : X → ℕ) (xs : List X) (j k : ℕ) (x y : X) (a b : ℕ) → slice_get xs j ≡ Some x → slice_get xs k ≡ Some y → a < g x → b < g y
    → sum_by g (take j xs) + a ≡ sum_by g (take k xs) + b → j ≡ k
same_take g xs j k x y a b at there low low' same =
    let one = sum_take g xs j x at in
    let two = sum_take g xs k y there in
    elim (cases_lt j k) [
      | inl less ↦ absurd (let more = take_more g xs (suc j) k (omega arith) in omega arith)
      | inr past ↦ elim (cases_lt k j) [
        | inl less ↦ absurd (let more = take_more g xs (suc k) j (omega arith) in omega arith)
        | inr past' ↦ omega arith
      ]
    ]

-- the element that has a place
pub record InTake {X : Type 0} (g : X → ℕ) (xs : List X) (n : ℕ) : Type 0 where
  pub k : ℕ
  pub x : X
  pub j : ℕ
  pub there : slice_get xs k ≡ Some x
  pub low : j < g x
  pub is : n ≡ sum_by g (take k xs) + j

pub in_take : {X : Type 0} (g : X → ℕ) (xs : List X) (n : ℕ) → n < sum_by g xs → InTake g xs n
in_take g [] n low = absurd (let none : sum_by g [] ≡ 0 = refl in omega arith)
in_take g (y ∷ ys) n low =
    let none : sum_by g [] ≡ 0 = refl in
    let whole = sum_by-cons g y ys in
    elim (cases_lt n (g y)) [
      | inl here ↦ record { k = 0; x = y; j = n; there = refl; low = here; is = omega arith }
      | inr past ↦ (let rest = in_take g ys (n - g y) (omega arith) in
          let is = rest.is in
          let one = sum_by-cons g y (take rest.k ys) in
          record { k = suc rest.k; x = rest.x; j = rest.j; there = rest.there; low = rest.low; is = omega arith })
    ]

-- Behind a place.

pub sum_drop : {X : Type 0} (g : X → ℕ) (xs : List X) (k : ℕ) (x : X) → slice_get xs k ≡ Some x → sum_by g (drop k xs) ≡ g x + sum_by g (drop (suc k) xs)
sum_drop g [] k x at = absurd (cc)
sum_drop g (y ∷ ys) zero x at =
    let same : g y ≡ g x = (let one : y ≡ x = cc in ap g one) in
    let one = sum_by-cons g y ys in
    omega arith
sum_drop g (y ∷ ys) (suc k) x at = sum_drop g ys k x at

pub drop_whole : {X : Type 0} (g : X → ℕ) (xs : List X) (k : ℕ) → sum_by g (drop k xs) ≤ sum_by g xs
drop_whole g [] zero = omega arith
drop_whole g [] (suc k) = omega arith
drop_whole g (y ∷ ys) zero = omega arith
drop_whole g (y ∷ ys) (suc k) = let rest = drop_whole g ys k in let two = sum_by-cons g y ys in omega arith

pub drop_more : {X : Type 0} (g : X → ℕ) (xs : List X) (j k : ℕ) → j ≤ k → sum_by g (drop k xs) ≤ sum_by g (drop j xs)
drop_more g xs zero k h = drop_whole g xs k
drop_more g xs (suc j) zero h = absurd (omega arith)
drop_more g [] (suc j) (suc k) h = omega arith
drop_more g (y ∷ ys) (suc j) (suc k) h = drop_more g ys j k (omega arith)

pub same_drop : {X : Type 0} (g : X → ℕ) (xs : List X) (j k : ℕ) (x y : X) (a b : ℕ) → slice_get xs j ≡ Some x → slice_get xs k ≡ Some y → a < g x → b < g y
    → sum_by g (drop (suc j) xs) + a ≡ sum_by g (drop (suc k) xs) + b → j ≡ k
same_drop g xs j k x y a b at there low low' same =
    let one = sum_drop g xs j x at in
    let two = sum_drop g xs k y there in
    elim (cases_lt j k) [
      | inl less ↦ absurd (let more = drop_more g xs (suc j) k (omega arith) in omega arith)
      | inr past ↦ elim (cases_lt k j) [
        | inl less ↦ absurd (let more = drop_more g xs (suc k) j (omega arith) in omega arith)
        | inr past' ↦ omega arith
      ]
    ]

pub record InDrop {X : Type 0} (g : X → ℕ) (xs : List X) (n : ℕ) : Type 0 where
  pub k : ℕ
  pub x : X
  pub j : ℕ
  pub there : slice_get xs k ≡ Some x
  pub low : j < g x
  pub is : n ≡ sum_by g (drop (suc k) xs) + j

pub in_drop : {X : Type 0} (g : X → ℕ) (xs : List X) (n : ℕ) → n < sum_by g xs → InDrop g xs n
in_drop g [] n low = absurd (let none : sum_by g [] ≡ 0 = refl in omega arith)
in_drop g (y ∷ ys) n low =
    let whole = sum_by-cons g y ys in
    elim (cases_lt n (sum_by g ys)) [
      | inl before ↦ (let rest = in_drop g ys n before in
          record { k = suc rest.k; x = rest.x; j = rest.j; there = rest.there; low = rest.low; is = rest.is })
      | inr here ↦ record { k = 0; x = y; j = n - sum_by g ys; there = refl; low = omega arith; is = omega arith }
    ]

-- an element's share lies within the whole
pub share_drop : {X : Type 0} (g : X → ℕ) (xs : List X) (k : ℕ) (x : X) → slice_get xs k ≡ Some x → sum_by g (drop (suc k) xs) + g x ≤ sum_by g xs
share_drop g xs k x at = let one = sum_drop g xs k x at in let whole = drop_whole g xs k in omega arith

pub share_take : {X : Type 0} (g : X → ℕ) (xs : List X) (k : ℕ) (x : X) → slice_get xs k ≡ Some x → sum_by g (take k xs) + g x ≤ sum_by g xs
share_take g xs k x at = let one = sum_take g xs k x at in let whole = take_whole g xs (suc k) in omega arith
