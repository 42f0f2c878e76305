-- Lists are equal where they have one length and the same items.
use Rattle.std.proofs.Common.{◌≡◌, ℕ, ◌+◌, ◌≤◌, List, [], ◌∷◌, ◌++◌, length, take, refl, sym, ap, ◌∙◌, Option, Some, slice_get}
use Rattle.list_laws.proofs.Lists.{front_all, taken_more}

pub lengths_apart : {X : Type 0} (xs ys : List X) → (length xs ≡ length ys → ⊥) → xs ≡ ys → ⊥
lengths_apart xs ys apart same = apart (ap (λ (zs : List _). length zs) same)

pub items_apart : {X : Type 0} (xs ys : List X) (k : ℕ) (x y : X) → slice_get xs k ≡ Some x → slice_get ys k ≡ Some y → (x ≡ y → ⊥) → xs ≡ ys → ⊥
items_apart {X} xs ys k x y at there apart same = apart (inside x y (sym at ∙ ap (λ (zs : List X). slice_get zs k) same ∙ there))
  where
    inside : (a b : X) → ◌≡◌ {A = Option X} (Some a) (Some b) → a ≡ b
    inside a b e = cc

pub fronts_more : {X : Type 0} (xs ys : List X) (k : ℕ) (x y : X) → slice_get xs k ≡ Some x → slice_get ys k ≡ Some y → x ≡ y → take k xs ≡ take k ys → take (k + 1) xs ≡ take (k + 1) ys
fronts_more {X} xs ys k x y at there here front =
    sym (taken_more xs k x (take k xs) (take k xs ++ x ∷ []) at refl refl)
    ∙ ap (λ (zs : List X). zs ++ x ∷ []) front ∙ ap (λ (z : X). take k ys ++ z ∷ []) here
    ∙ taken_more ys k y (take k ys) (take k ys ++ y ∷ []) there refl refl

pub all_same : {X : Type 0} (xs ys : List X) (k : ℕ) → length xs ≡ length ys → length xs ≤ k → take k xs ≡ take k ys → xs ≡ ys
all_same xs ys k many past front =
    let more : length ys ≤ k = rw (← many) past in
    sym (front_all xs k past) ∙ front ∙ front_all ys k more
