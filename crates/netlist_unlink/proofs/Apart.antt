-- Lists in which nothing stands twice.
use Rattle.std.proofs.Common.{◌≡◌, ◌≢◌, ℕ, zero, suc, Bool, true, false, List, [], ◌∷◌, ◌++◌, map, refl, ap, sym, ◌∙◌, Some, None, arith}
use Rattle.std.specs.Prelude.{slice_get}
use Rattle.std.specs.Str.{bytes_eq}
use Rattle.std.proofs.lemmas.Option.{same_Some}
use Rattle.std.proofs.lemmas.Slice.Eq.{bytes_eq-Decides}
use Rattle.link_model.specs.Lists.{has_name, repeated, repeated_after}

-- it stands nowhere in the list
abbrev pub NotIn : {X : Type 0} → X → List X → Type 0
NotIn x xs = (k : ℕ) → slice_get xs k ≡ Some x → ⊥

-- nothing stands twice
abbrev pub Apart : {X : Type 0} → List X → Type 0
Apart [] = Unit {0}
Apart (x ∷ xs) = NotIn x xs × Apart xs

-- no element of one stands in the other
abbrev pub Disjoint : {X : Type 0} → List X → List X → Type 0
Disjoint {X} xs ys = (j : ℕ) (x : X) → slice_get xs j ≡ Some x → NotIn x ys

pub not_in_joined : {X : Type 0} (x : X) (xs ys : List X) → NotIn x xs → NotIn x ys → NotIn x (xs ++ ys)
not_in_joined x [] ys left right k at = right k at
not_in_joined x (y ∷ xs) ys left right zero at = left 0 at
not_in_joined x (y ∷ xs) ys left right (suc k) at = not_in_joined x xs ys (λ j there. left (suc j) there) right k at

pub apart_joined : {X : Type 0} (xs ys : List X) → Apart xs → Apart ys → Disjoint xs ys → Apart (xs ++ ys)
apart_joined [] ys left right away = right
apart_joined (x ∷ xs) ys left right away =
    (not_in_joined x xs ys left.0 (away 0 x refl), apart_joined xs ys left.1 right (λ j y at. away (suc j) y at))

pub disjoint_joined : {X : Type 0} (xs ys zs : List X) → Disjoint xs zs → Disjoint ys zs → Disjoint (xs ++ ys) zs
disjoint_joined [] ys zs left right j x at = right j x at
disjoint_joined (y ∷ xs) ys zs left right zero x at = left 0 x at
disjoint_joined (y ∷ xs) ys zs left right (suc j) x at = disjoint_joined xs ys zs (λ k z there. left (suc k) z there) right j x at

-- the same by places
pub once_apart : {X : Type 0} (xs : List X) → Apart xs → (j k : ℕ) (x : X) → slice_get xs j ≡ Some x → slice_get xs k ≡ Some x → j ≡ k
once_apart [] apart j k x one two = absurd (cc)
once_apart (y ∷ xs) apart zero zero x one two = refl
once_apart (y ∷ xs) apart zero (suc k) x one two = absurd (apart.0 k (two ∙ sym one))
once_apart (y ∷ xs) apart (suc j) zero x one two = absurd (apart.0 j (one ∙ sym two))
once_apart (y ∷ xs) apart (suc j) (suc k) x one two = ap suc (once_apart xs apart.1 j k x one two)

-- what a function gives of a list, where it gives each but once
pub mapped_not_in : {X Y : Type 0} (f : X → Y) (x : X) (xs : List X) → ((k : ℕ) (y : X) → slice_get xs k ≡ Some y → f x ≡ f y → ⊥) → NotIn (f x) (map f xs)
mapped_not_in f x [] differs k at = cc
mapped_not_in f x (y ∷ xs) differs zero at = differs 0 y refl (sym (same_Some (f y) (f x) at))
mapped_not_in f x (y ∷ xs) differs (suc k) at = mapped_not_in f x xs (λ j z there. differs (suc j) z there) k at

pub mapped_apart : {X Y : Type 0} (f : X → Y) (xs : List X) → ((j k : ℕ) (x y : X) → slice_get xs j ≡ Some x → slice_get xs k ≡ Some y → f x ≡ f y → j ≡ k) → Apart (map f xs)
mapped_apart f [] once = tt
mapped_apart f (x ∷ xs) once = (
  mapped_not_in f x xs (λ k y at same. let bad : 0 ≡ suc k = once 0 (suc k) x y refl at same in omega arith),
  mapped_apart f xs (λ j k y z one two same. let e : suc j ≡ suc k = once (suc j) (suc k) y z one two same in omega arith),
)

-- what a function gives of a list in which nothing stands twice, where it tells its elements apart
pub apart_mapped : {X Y : Type 0} (Is : X → Type 0) (f : X → Y) (xs : List X) → ((x y : X) → Is x → Is y → f x ≡ f y → x ≡ y) → ((k : ℕ) (x : X) → slice_get xs k ≡ Some x → Is x) → Apart xs → Apart (map f xs)
apart_mapped Is f [] tells is apart = tt
apart_mapped Is f (x ∷ xs) tells is apart = (
  mapped_not_in f x xs (λ k y at same. let e = tells x y (is 0 x refl) (is (suc k) y at) same in apart.0 k (at ∙ ap Some (sym e))),
  apart_mapped Is f xs tells (λ k y at. is (suc k) y at) apart.1,
)

pub all_of_joined : {X : Type 0} (Is : X → Type 0) (xs ys : List X) → ((k : ℕ) (x : X) → slice_get xs k ≡ Some x → Is x) → ((k : ℕ) (x : X) → slice_get ys k ≡ Some x → Is x)
    → (k : ℕ) (x : X) → slice_get (xs ++ ys) k ≡ Some x → Is x
all_of_joined Is [] ys left right k x at = right k x at
all_of_joined Is (y ∷ xs) ys left right zero x at = left 0 x at
all_of_joined Is (y ∷ xs) ys left right (suc k) x at = all_of_joined Is xs ys (λ j z there. left (suc j) z there) right k x at

-- Names.

pub bytes_differ : (xs ys : List ℕ) → xs ≢ ys → bytes_eq xs ys ≡ false
bytes_differ xs ys apart = go (bytes_eq xs ys) refl
  where
    go : (b : Bool) → bytes_eq xs ys ≡ b → bytes_eq xs ys ≡ false
    go false e = e
    go true e = absurd (apart (grind (arith, bytes_eq-Decides xs ys)))

not_named : (names : List (List ℕ)) (name : List ℕ) → NotIn name names → has_name names name ≡ false
not_named [] name out = refl
not_named (first ∷ names) name out =
    let rest : has_name names name ≡ false = not_named names name (λ k at. out (suc k) at) in
    let here : bytes_eq name first ≡ false = bytes_differ name first (λ same. out 0 (ap Some (sym same))) in
    rw here rest

none_repeated_after : (before names : List (List ℕ)) → Apart names → ((k : ℕ) (name : List ℕ) → slice_get names k ≡ Some name → NotIn name before) → repeated_after before names ≡ None
none_repeated_after before [] apart away = refl
none_repeated_after before (name ∷ names) apart away =
    let here : has_name before name ≡ false = not_named before name (away 0 name refl) in
    let alone : (other : List ℕ) (k : ℕ) → slice_get names k ≡ Some other → NotIn other (name ∷ []) = λ other k at j there. one other k at j there in
    rw here (none_repeated_after (before ++ name ∷ []) names apart.1 (λ k other at. not_in_joined other before (name ∷ []) (away (suc k) other at) (alone other k at)))
  where
    one : (other : List ℕ) (k : ℕ) → slice_get names k ≡ Some other → (j : ℕ) → slice_get (name ∷ []) j ≡ Some other → ⊥
    one other k at zero there = apart.0 k (at ∙ ap Some (sym (same_Some name other there)))
    one other k at (suc j) there = cc

-- a list in which no name stands twice repeats none
pub none_repeated : (names : List (List ℕ)) → Apart names → repeated names ≡ None
none_repeated names apart = none_repeated_after [] names apart (λ k name at j there. let bad : None ≡ Some name = there in cc)
