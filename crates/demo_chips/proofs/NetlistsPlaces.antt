-- What holds at each place of lists that are joined, or that a function gives of numbers in a row.
use Rattle.std.proofs.Common.{◌≡◌, ℕ, zero, suc, ◌+◌, ◌<◌, List, [], ◌∷◌, ◌++◌, length, map, refl, ap, ◌∙◌, subst, Option, Some, None, arith}
use Rattle.std.specs.Prelude.{slice_get}
use Rattle.std.specs.List.{AllByRecursion, filter_map, flat_map, range_with_len}
use Rattle.std.proofs.lemmas.Option.{same_Some}
use Rattle.list_laws.specs.Options.{first_in}
use Rattle.list_laws.proofs.Lists.{all_append}
use Rattle.list_laws.proofs.Options.{none_along}

-- it holds at each place
abbrev pub EachAt : {X : Type 0} → (ℕ → X → Type 0) → List X → Type 0
EachAt {X} P xs = (place : ℕ) (x : X) → slice_get xs place ≡ Some x → P place x

-- of each number in a row
ranged_at : {X : Type 0} (P : ℕ → X → Type 0) (f : ℕ → X) (first count : ℕ) → ((k : ℕ) → k < count → P k (f (first + k)))
    → (place : ℕ) (x : X) → slice_get (map f (range_with_len first count)) place ≡ Some x → P place x
ranged_at P f first zero each place x at = absurd (cc)
ranged_at {X = X} P f first (suc count) each zero x at =
    let zeroth : first + 0 ≡ first = omega arith in
    let same : f (first + 0) ≡ x = ap f zeroth ∙ same_Some (f first) x at in
    let Q : X → Type 0 = P zero in
    subst Q same (each 0 (omega arith))
ranged_at P f first (suc count) each (suc place) x at =
    ranged_at (λ k. P (suc k)) f (first + 1) count (λ k less.
    let e : first + suc k ≡ first + 1 + k = omega arith in
    let Q : ℕ → Type 0 = λ n. P (suc k) (f n) in
    subst Q e (each (suc k) (omega arith))) place x at

pub from_zero_at : {X : Type 0} (P : ℕ → X → Type 0) (f : ℕ → X) (count : ℕ) → ((k : ℕ) → k < count → P k (f k)) → EachAt P (map f (range_with_len 0 count))
from_zero_at P f count each = ranged_at P f 0 count (λ k less. let e : k ≡ 0 + k = omega arith in let Q : ℕ → Type 0 = λ n. P k (f n) in subst Q e (each k less))

-- of what is joined, where the first list has so many
pub joined_at : {X : Type 0} (P : ℕ → X → Type 0) (xs ys : List X) (count : ℕ) → length xs ≡ count → EachAt P xs → EachAt (λ k. P (count + k)) ys → EachAt P (xs ++ ys)
joined_at P [] ys count e left right place x at =
    let same : count + place ≡ place = omega (arith, e) in
    let Q : ℕ → Type 0 = λ k. P k x in
    subst Q same (right place x at)
joined_at P (y ∷ xs) ys zero e left right place x at = absurd (omega (arith, e))
joined_at P (y ∷ xs) ys (suc count) e left right zero x at = left 0 x at
joined_at P (y ∷ xs) ys (suc count) e left right (suc place) x at =
    joined_at (λ k. P (suc k)) xs ys count (omega (arith, e)) (λ k z there. left (suc k) z there) (λ k z there.
    let same : suc count + k ≡ suc (count + k) = omega arith in
    let Q : ℕ → Type 0 = λ j. P j z in
    subst Q same (right k z there)) place x at

-- All of a list.

pub all_at : {X : Type 0} (P : X → Type 0) (xs : List X) → EachAt (λ place x. P x) xs → AllByRecursion P xs
all_at P [] each = tt
all_at P (x ∷ xs) each = (each 0 x refl, all_at P xs (λ k y at. each (suc k) y at))

pub all_there : {X : Type 0} (P : X → Type 0) (xs : List X) → AllByRecursion P xs → EachAt (λ place x. P x) xs
all_there P [] all place x at = absurd (cc)
all_there {X = X} P (y ∷ xs) all zero x at = let same : y ≡ x = same_Some y x at in subst P same all.0
all_there P (y ∷ xs) all (suc place) x at = all_there P xs all.1 place x at

-- all of the lists that a function gives
pub flat_all : {X Y : Type 0} (P : Y → Type 0) (f : X → List Y) (xs : List X) → EachAt (λ place x. AllByRecursion P (f x)) xs → AllByRecursion P (flat_map f xs)
flat_all P f [] each = tt
flat_all P f (x ∷ xs) each = all_append P (f x) (flat_map f xs) (each 0 x refl) (flat_all P f xs (λ k y at. each (suc k) y at))

pub none_found : {X Y : Type 0} (test : X → Option Y) (xs : List X) → EachAt (λ place x. test x ≡ None) xs → first_in test xs ≡ None
none_found test xs each = none_along test xs (all_at (λ x. test x ≡ None) xs each)

-- Names that a function gives of a list.

pub no_options : {X Y Z : Type 0} (h : Y → Option Z) (f : X → Y) (xs : List X) → ((x : X) → h (f x) ≡ None) → filter_map h (map f xs) ≡ []
no_options h f [] none = refl
no_options h f (x ∷ xs) none = rw (none x) (no_options h f xs none)

pub all_options : {X Y Z : Type 0} (h : Y → Option Z) (f : X → Y) (g : X → Z) (xs : List X) → ((x : X) → h (f x) ≡ Some (g x)) → filter_map h (map f xs) ≡ map g xs
all_options h f g [] some = refl
all_options {Z = Z} h f g (x ∷ xs) some = rw (some x) (ap (λ (zs : List Z). g x ∷ zs) (all_options h f g xs some))
