-- A list that is put into another at a place.
use Rattle.std.proofs.Common.{◌≡◌, ℕ, zero, suc, ◌+◌, Bool, true, false, List, [], ◌∷◌, ◌++◌, map, take, drop, refl, ap, ◌∙◌, arith}
use Rattle.std.specs.Prelude.{filter}
use Rattle.std.specs.List.{AllByRecursion}
use Rattle.box_model.proofs.Counting.{times, times-map-append}

-- ys between the first k of xs and the others
abbrev pub between : {X : Type 0} → ℕ → List X → List X → List X
between k xs ys = take k xs ++ (ys ++ drop k xs)

filter_none : {X : Type 0} (test : X → Bool) (ys zs : List X) → AllByRecursion (λ y. test y ≡ false) ys → filter test (ys ++ zs) ≡ filter test zs
filter_none test [] zs fail = refl
filter_none test (y ∷ ys) zs fail = rw fail.0 (filter_none test ys zs fail.1)

pub filter_all : {X : Type 0} (test : X → Bool) (xs : List X) → AllByRecursion (λ x. test x ≡ true) xs → filter test xs ≡ xs
filter_all test [] pass = refl
filter_all {X = X} test (x ∷ xs) pass = rw pass.0 (ap (λ (more : List X). x ∷ more) (filter_all test xs pass.1))

-- a filter that keeps the outer list alone
pub filter_between : {X : Type 0} (test : X → Bool) (k : ℕ) (xs ys : List X) → AllByRecursion (λ x. test x ≡ true) xs → AllByRecursion (λ y. test y ≡ false) ys
    → filter test (between k xs ys) ≡ xs
filter_between test (suc k) [] ys pass fail = filter_none test ys [] fail
filter_between test zero xs ys pass fail = filter_none test ys xs fail ∙ filter_all test xs pass
filter_between {X = X} test (suc k) (x ∷ xs) ys pass fail = rw pass.0 (ap (λ (more : List X). x ∷ more) (filter_between test k xs ys pass.1 fail))

-- names are counted as behind one another
pub times_between : {X : Type 0} (name : List ℕ) (f : X → List ℕ) (k : ℕ) (xs ys : List X) → times name (map f (between k xs ys)) ≡ times name (map f ys) + times name (map f xs)
times_between name f (suc k) [] ys = times-map-append name f ys []
times_between name f zero xs ys = times-map-append name f ys xs
times_between name f (suc k) (x ∷ xs) ys = omega (arith, times_between name f k xs ys)
