-- Lists that agree place by place, and what holds of all numbers up to one.
use Rattle.std.proofs.Common.{◌≡◌, ℕ, zero, suc, ◌+◌, ◌<◌, Bool, true, ◌&&◌, List, [], ◌∷◌, ◌++◌, map, slice_get, Option, Some, None, filter_map, flat_map, refl, ap, ◌∙◌, arith}
use Rattle.std.specs.List.{list_all, cons_option, AllByRecursion, range_with_len}
use Rattle.std.proofs.lemmas.List.Folds.{list_all-append}
use Rattle.list_laws.specs.Lists.{AreAll}

-- What holds of each.

pub all_range : (P : ℕ → Type 0) (from n : ℕ) → ((k : ℕ) → P k) → AllByRecursion P (range_with_len from n)
all_range P from zero each = tt
all_range P from (suc n) each = (each from, all_range P (from + 1) n each)

-- Lists that agree.

pub are_more : {X Y : Type 0} (Is : X → Y → Type 0) (xs more : List X) (ys rest : List Y) → AreAll Is xs ys → AreAll Is more rest → AreAll Is (xs ++ more) (ys ++ rest)
are_more Is [] more [] rest a b = b
are_more Is [] more (y ∷ ys) rest a b = absurd a
are_more Is (x ∷ xs) more [] rest a b = absurd a
are_more Is (x ∷ xs) more (y ∷ ys) rest a b = (a.0, are_more Is xs more ys rest a.1 b)

pub are_mapped : {X Y : Type 0} (Is : X → Y → Type 0) (f : ℕ → X) (g : ℕ → Y) (from n : ℕ) → ((k : ℕ) → k < from + n → Is (f k) (g k))
    → AreAll Is (map f (range_with_len from n)) (map g (range_with_len from n))
are_mapped Is f g from zero each = tt
are_mapped Is f g from (suc n) each = (each from (omega arith), are_mapped Is f g (from + 1) n (λ k less. each k (omega arith)))

-- lists of which one thing each agrees are mapped to the same
pub same_mapped : {X Y Z : Type 0} (Is : X → Y → Type 0) (f : X → Z) (g : Y → Z) → ((x : X) (y : Y) → Is x y → f x ≡ g y) → (xs : List X) (ys : List Y) → AreAll Is xs ys → map f xs ≡ map g ys
same_mapped Is f g same [] [] a = refl
same_mapped Is f g same [] (y ∷ ys) a = absurd a
same_mapped Is f g same (x ∷ xs) [] a = absurd a
same_mapped {Z = Z} Is f g same (x ∷ xs) (y ∷ ys) a =
    ap (λ (z : Z). z ∷ map f xs) (same x y a.0) ∙ ap (λ (zs : List Z). g y ∷ zs) (same_mapped Is f g same xs ys a.1)

-- so are those of which each has something
pub same_listed : {X Y Z : Type 0} (Is : X → Y → Type 0) (f : X → Option Z) (g : Y → Z) → ((x : X) (y : Y) → Is x y → f x ≡ Some (g y)) → (xs : List X) (ys : List Y) → AreAll Is xs ys
    → filter_map f xs ≡ map g ys
same_listed Is f g same [] [] a = refl
same_listed Is f g same [] (y ∷ ys) a = absurd a
same_listed Is f g same (x ∷ xs) [] a = absurd a
same_listed {Z = Z} Is f g same (x ∷ xs) (y ∷ ys) a =
    ap (λ (o : Option Z). cons_option o (filter_map f xs)) (same x y a.0) ∙ ap (λ (zs : List Z). g y ∷ zs) (same_listed Is f g same xs ys a.1)

-- Tests.

pub tests_append : {X : Type 0} (p : X → Bool) (xs ys : List X) → list_all p xs ≡ true → list_all p ys ≡ true → list_all p (xs ++ ys) ≡ true
tests_append p xs ys one two = list_all-append p xs ys ∙ ap (λ (t : Bool). t && list_all p ys) one ∙ two

pub tests_flat : {X Y : Type 0} (p : Y → Bool) (f : X → List Y) (xs : List X) → AllByRecursion (λ x. list_all p (f x) ≡ true) xs → list_all p (flat_map f xs) ≡ true
tests_flat p f [] all = refl
tests_flat p f (x ∷ xs) all = tests_append p (f x) (flat_map f xs) all.0 (tests_flat p f xs all.1)

pub tests_mapped : {X Y : Type 0} (p : Y → Bool) (f : X → Y) → ((x : X) → p (f x) ≡ true) → (xs : List X) → list_all p (map f xs) ≡ true
tests_mapped p f each [] = refl
tests_mapped p f each (x ∷ xs) = ap (λ (t : Bool). t && list_all p (map f xs)) (each x) ∙ tests_mapped p f each xs

-- of what is kept of a list
pub tests_listed : {X Y : Type 0} (p : Y → Bool) (f : X → Option Y) (xs : List X) → ((k : ℕ) (x : X) (y : Y) → slice_get xs k ≡ Some x → f x ≡ Some y → p y ≡ true) → list_all p (filter_map f xs) ≡ true
tests_listed p f [] each = refl
tests_listed {X} {Y} p f (x ∷ xs) each = by (f x) refl (tests_listed p f xs (λ k z y at is. each (suc k) z y at is))
  where
    by : (o : Option Y) → f x ≡ o → list_all p (filter_map f xs) ≡ true → list_all p (filter_map f (x ∷ xs)) ≡ true
    by None e more = ap (λ (o : Option Y). list_all p (cons_option o (filter_map f xs))) e ∙ more
    by (Some y) e more = ap (λ (o : Option Y). list_all p (cons_option o (filter_map f xs))) e ∙ ap (λ (t : Bool). t && list_all p (filter_map f xs)) (each 0 x y refl e) ∙ more

-- up to a number
pub all_below : (P : ℕ → Type 0) (from n : ℕ) → ((k : ℕ) → k < from + n → P k) → AllByRecursion P (range_with_len from n)
all_below P from zero each = tt
all_below P from (suc n) each = (each from (omega arith), all_below P (from + 1) n (λ k less. each k (omega arith)))
