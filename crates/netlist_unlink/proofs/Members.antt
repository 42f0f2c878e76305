-- What stands in joined lists, in mapped ones, and in lists of numbers.
use Rattle.std.proofs.Common.{◌≡◌, ℕ, zero, suc, ◌+◌, Bool, true, false, List, [], ◌∷◌, ◌++◌, length, map, refl, ap, sym, ◌∙◌, subst, inl, inr, ◌⊎◌, Some, arith}
use Rattle.std.specs.Prelude.{slice_get, ◌==◌}
use Rattle.std.proofs.lemmas.Option.{same_Some}
use Rattle.netlist_model.specs.Lists.{NetView}
use Rattle.link_model.specs.Nets.{counted_from}
use Rattle.netlist_unlink.specs.Renumbered.{numbers_from, one_if, place_of}
use Rattle.netlist_unlink.proofs.Apart.{Apart}

-- it stands somewhere in the list
abbrev pub IsIn : {X : Type 0} → X → List X → Type 0
IsIn x xs = (k : ℕ) × (slice_get xs k ≡ Some x)

pub in_left : {X : Type 0} (xs ys : List X) (k : ℕ) (x : X) → slice_get xs k ≡ Some x → IsIn x (xs ++ ys)
in_left [] ys k x at = absurd (cc)
in_left (y ∷ xs) ys zero x at = (0, at)
in_left (y ∷ xs) ys (suc k) x at = let rest = in_left xs ys k x at in (suc rest.0, rest.1)

pub in_right : {X : Type 0} (xs ys : List X) (k : ℕ) (x : X) → slice_get ys k ≡ Some x → IsIn x (xs ++ ys)
in_right [] ys k x at = (k, at)
in_right (y ∷ xs) ys k x at = let rest = in_right xs ys k x at in (suc rest.0, rest.1)

pub joined_source : {X : Type 0} (xs ys : List X) (k : ℕ) (x : X) → slice_get (xs ++ ys) k ≡ Some x → IsIn x xs ⊎ IsIn x ys
joined_source [] ys k x at = inr (k, at)
joined_source (y ∷ xs) ys zero x at = inl (0, at)
joined_source (y ∷ xs) ys (suc k) x at = elim (joined_source xs ys k x at) [ inl here ↦ inl (suc here.0, here.1) | inr there ↦ inr there ]

-- what a mapped element comes from
pub record IsMapped {X Y : Type 0} (f : X → Y) (xs : List X) (k : ℕ) (y : Y) : Type 0 where
  pub from : X
  pub there : slice_get xs k ≡ Some from
  pub is : f from ≡ y

pub mapped_source : {X Y : Type 0} (f : X → Y) (xs : List X) (k : ℕ) (y : Y) → slice_get (map f xs) k ≡ Some y → IsMapped f xs k y
mapped_source f [] k y at = absurd (cc)
mapped_source f (x ∷ xs) zero y at = record { from = x; there = refl; is = same_Some (f x) y at }
mapped_source f (x ∷ xs) (suc k) y at = let rest = mapped_source f xs k y at in record { from = rest.from; there = rest.there; is = rest.is }

pub map_twice : {X Y Z : Type 0} (f : Y → Z) (g : X → Y) (xs : List X) → map f (map g xs) ≡ map (λ x. f (g x)) xs
map_twice f g [] = refl
map_twice f g (x ∷ xs) = ap (λ rest. f (g x) ∷ rest) (map_twice f g xs)

-- numbers that are counted up beside a list
pub map_counted : {X Y : Type 0} (f : ℕ → Y) (g : X → Y) (first : ℕ) (xs : List X) → ((k : ℕ) (x : X) → slice_get xs k ≡ Some x → f (first + k) ≡ g x)
    → map f (counted_from first (length xs)) ≡ map g xs
map_counted f g first [] each = refl
map_counted f g first (x ∷ xs) each =
    let zeroth : first ≡ first + 0 = omega arith in
    let here : f first ≡ g x = ap f zeroth ∙ each 0 x refl in
    let rest = map_counted f g (suc first) xs (λ k y at. let same : suc first + k ≡ first + suc k = omega arith in ap f same ∙ each (suc k) y at) in
    ap (λ y. y ∷ map f (counted_from (suc first) (length xs))) here ∙ ap (λ ys. g x ∷ ys) rest

-- Numbers of the nets that pass a test.

pub record IsNumberOf (test : ℕ → NetView → Bool) (first : ℕ) (nets : List NetView) (number : ℕ) : Type 0 where
  pub k : ℕ
  pub view : NetView
  pub there : slice_get nets k ≡ Some view
  pub is : number ≡ first + k
  pub passes : test number view ≡ true

pub number_source : (test : ℕ → NetView → Bool) (first : ℕ) (nets : List NetView) (j number : ℕ) → slice_get (numbers_from test first nets) j ≡ Some number → IsNumberOf test first nets number
number_source test first [] j number at = absurd (cc)
number_source test first (view ∷ nets) j number at =
    elim (joined_source (one_if (test first view) first) (numbers_from test (first + 1) nets) j number at) [
      | inl here ↦ one (test first view) refl here.0 here.1
      | inr there ↦
          let rest = number_source test (first + 1) nets there.0 number there.1 in
          record { k = suc rest.k; view = rest.view; there = rest.there; is = let e = rest.is in omega arith; passes = rest.passes }
    ]
  where
    one : (b : Bool) → test first view ≡ b → (i : ℕ) → slice_get (one_if b first) i ≡ Some number → IsNumberOf test first (view ∷ nets) number
    one false e i here = absurd (cc)
    one true e zero here =
        let same : first ≡ number = same_Some first number here in
        record { k = 0; view = view; there = refl; is = omega arith; passes = ap (λ (n : ℕ). test n view) (sym same) ∙ e }
    one true e (suc i) here = absurd (cc)

pub number_in : (test : ℕ → NetView → Bool) (first : ℕ) (nets : List NetView) (k : ℕ) (view : NetView) → slice_get nets k ≡ Some view → test (first + k) view ≡ true
    → IsIn (first + k) (numbers_from test first nets)
number_in test first [] k view at passes = absurd (cc)
number_in test first (x ∷ nets) zero view at passes =
    let same : x ≡ view = same_Some x view at in
    let zeroth : first + 0 ≡ first = omega arith in
    let here : test first x ≡ true = ap (test first) same ∙ ap (λ (n : ℕ). test n view) (sym zeroth) ∙ passes in
    let P : ℕ → Type 0 = λ n. IsIn n (numbers_from test first (x ∷ nets)) in
    subst P (sym zeroth) (rw here (0, refl))
number_in test first (x ∷ nets) (suc k) view at passes =
    let place : first + suc k ≡ first + 1 + k = omega arith in
    let rest = number_in test (first + 1) nets k view at (ap (λ (n : ℕ). test n view) (sym place) ∙ passes) in
    let P : ℕ → Type 0 = λ n. IsIn n (numbers_from test first (x ∷ nets)) in
    subst P (sym place) (in_right (one_if (test first x) first) (numbers_from test (first + 1) nets) rest.0 (first + 1 + k) rest.1)

pub numbers_apart : (test : ℕ → NetView → Bool) (first : ℕ) (nets : List NetView) → Apart (numbers_from test first nets)
numbers_apart test first [] = tt
numbers_apart test first (view ∷ nets) = one (test first view) (numbers_apart test (first + 1) nets)
  where
    one : (b : Bool) → Apart (numbers_from test (first + 1) nets) → Apart (one_if b first ++ numbers_from test (first + 1) nets)
    one false rest = rest
    one true rest = (λ j at. let from = number_source test (first + 1) nets j first at in let e = from.is in omega arith, rest)

-- The place of a number.

pub place_found : (order : List ℕ) (k number : ℕ) → slice_get order k ≡ Some number → slice_get order (place_of order number) ≡ Some number
place_found [] k number at = absurd (cc)
place_found (first ∷ order) k number at = go (first == number) refl (λ j there. place_found order j number there) k at
  where
    go : (b : Bool) → (first == number) ≡ b → ((j : ℕ) → slice_get order j ≡ Some number → slice_get order (place_of order number) ≡ Some number) → (j : ℕ) → slice_get (first ∷ order) j ≡ Some number → slice_get (first ∷ order) (place_of (first ∷ order) number) ≡ Some number
    go true e rest j here = let same : first ≡ number = grind arith in rw e (ap Some same)
    go false e rest zero here = let same : first ≡ number = same_Some first number here in absurd (grind arith)
    go false e rest (suc j) here = rw e (rest j here)
