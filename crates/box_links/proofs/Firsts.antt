-- The first along a list, by two tests that agree, and from a place on; and the first place.
use Rattle.std.proofs.Common.{◌≡◌, ℕ, zero, suc, ◌+◌, ◌<◌, Bool, not, List, [], ◌∷◌, length, drop, take, refl, ap, sym, ◌∙◌, Option, Some, None, arith, cond, subst}
use Rattle.std.specs.Prelude.{slice_get, nat_lt}
use Rattle.std.specs.List.{position, position_or_len}
use Rattle.list_laws.specs.Options.{or_else, first_in}

pub first_same : {X Y : Type 0} (f g : X → Option Y) → ((x : X) → f x ≡ g x) → (xs : List X) → first_in f xs ≡ first_in g xs
first_same f g same [] = refl
first_same f g same (x ∷ xs) = ap (λ o. or_else o (first_in f xs)) (same x) ∙ ap (λ o. or_else (g x) o) (first_same f g same xs)

place_same : {X : Type 0} (f g : X → Bool) → ((x : X) → f x ≡ g x) → (xs : List X) → position_or_len f xs ≡ position_or_len g xs
place_same f g same [] = refl
place_same f g same (x ∷ xs) = ap (λ t. cond (not t) (1 + position_or_len f xs) 0) (same x) ∙ ap (λ n. cond (not (g x)) (1 + n) 0) (place_same f g same xs)

pub position_same : {X : Type 0} (f g : X → Bool) → ((x : X) → f x ≡ g x) → (xs : List X) → position f xs ≡ position g xs
position_same f g same xs = ap (λ n. cond (nat_lt n (length xs)) (Some n) None) (place_same f g same xs)

-- From a place on.

front_step : {X Y : Type 0} (test : X → Option Y) (xs : List X) (i : ℕ) (x : X) → slice_get xs i ≡ Some x → first_in test (drop i xs) ≡ or_else (test x) (first_in test (drop (suc i) xs))
front_step test [] i x at = absurd (cc)
front_step test (y ∷ xs) zero x at = let same : y ≡ x = cc in ap (λ z. or_else (test z) (first_in test xs)) same
front_step test (y ∷ xs) (suc i) x at = front_step test xs i x at

pub first_passed : {X Y : Type 0} (test : X → Option Y) (xs : List X) (i : ℕ) (x : X) (o : Option Y) → slice_get xs i ≡ Some x → test x ≡ None → first_in test (drop i xs) ≡ o → first_in test (drop (i + 1) xs) ≡ o
first_passed test xs i x o at none is =
    let same : i + 1 ≡ suc i = omega arith in
    ap (λ (n : ℕ). first_in test (drop n xs)) same ∙ sym (front_step test xs i x at ∙ ap (λ t. or_else t (first_in test (drop (suc i) xs))) none) ∙ is

pub first_found : {X Y : Type 0} (test : X → Option Y) (xs : List X) (i : ℕ) (x : X) (y : Y) (o : Option Y) → slice_get xs i ≡ Some x → test x ≡ Some y → first_in test (drop i xs) ≡ o → o ≡ Some y
first_found test xs i x y o at some is = sym is ∙ front_step test xs i x at ∙ ap (λ t. or_else t (first_in test (drop (suc i) xs))) some

-- Parts of lists.

dropped_at : {X : Type 0} (xs : List X) (first place : ℕ) (x : X) → slice_get xs (first + place) ≡ Some x → slice_get (drop first xs) place ≡ Some x
dropped_at {X = X} xs zero place x at = let same : 0 + place ≡ place = omega arith in subst (λ (n : ℕ). slice_get xs n ≡ Some x) same at
dropped_at [] (suc first) place x at = absurd (cc)
dropped_at {X = X} (y ∷ xs) (suc first) place x at =
    let same : suc first + place ≡ suc (first + place) = omega arith in
    dropped_at xs first place x (subst (λ (n : ℕ). slice_get (y ∷ xs) n ≡ Some x) same at)

taken_at : {X : Type 0} (xs : List X) (count place : ℕ) (x : X) → place < count → slice_get xs place ≡ Some x → slice_get (take count xs) place ≡ Some x
taken_at xs zero place x less at = absurd (omega arith)
taken_at [] (suc count) place x less at = absurd (cc)
taken_at (y ∷ xs) (suc count) zero x less at = at
taken_at (y ∷ xs) (suc count) (suc place) x less at = taken_at xs count place x (omega arith) at

-- what stands behind the first so many, among so many
pub part_at : {X : Type 0} (xs : List X) (first count place : ℕ) (x : X) → place < count → slice_get xs (first + place) ≡ Some x → slice_get (take count (drop first xs)) place ≡ Some x
part_at xs first count place x less at = taken_at (drop first xs) count place x less (dropped_at xs first place x at)

taken_back : {X : Type 0} (xs : List X) (count place : ℕ) (x : X) → slice_get (take count xs) place ≡ Some x → (place < count) × (slice_get xs place ≡ Some x)
taken_back xs zero place x at = absurd (cc)
taken_back [] (suc count) place x at = absurd (cc)
taken_back (y ∷ xs) (suc count) zero x at = (omega arith, at)
taken_back (y ∷ xs) (suc count) (suc place) x at = let rest = taken_back xs count place x at in (omega (arith, rest.0), rest.1)

dropped_back : {X : Type 0} (xs : List X) (first place : ℕ) (x : X) → slice_get (drop first xs) place ≡ Some x → slice_get xs (first + place) ≡ Some x
dropped_back {X = X} xs zero place x at = let same : place ≡ 0 + place = omega arith in subst (λ (n : ℕ). slice_get xs n ≡ Some x) same at
dropped_back [] (suc first) place x at = absurd (cc)
dropped_back {X = X} (y ∷ xs) (suc first) place x at =
    let same : suc (first + place) ≡ suc first + place = omega arith in
    subst (λ (n : ℕ). slice_get (y ∷ xs) n ≡ Some x) same (dropped_back xs first place x at)

pub part_back : {X : Type 0} (xs : List X) (first count place : ℕ) (x : X) → slice_get (take count (drop first xs)) place ≡ Some x → (place < count) × (slice_get xs (first + place) ≡ Some x)
part_back xs first count place x at = let back = taken_back (drop first xs) count place x at in (back.0, dropped_back xs first place x back.1)
