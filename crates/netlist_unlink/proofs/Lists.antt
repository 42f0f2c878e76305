-- Lists that are made from the front, and what is left of a list.
use Rattle.std.proofs.Common.{◌≡◌, ℕ, zero, suc, ◌+◌, ◌≤◌, Bool, true, false, List, [], ◌∷◌, ◌++◌, map, take, refl, ap, sym, ◌∙◌, arith, Some}
use Rattle.std.specs.Prelude.{slice_get}
use Rattle.std.specs.Option.{option_map}
use Rattle.std.specs.List.{AllByRecursion, list_any}
use Rattle.std.proofs.lemmas.List.{take-map}
use Rattle.std.proofs.lemmas.Option.{slice_get-map}
use Rattle.list_laws.proofs.Lists.{taken_more}

-- the same of what a function gives
pub mapped_more : {X Y : Type 0} (f : X → Y) (xs : List X) (i : ℕ) (y : Y) (front new : List Y) → option_map f (slice_get xs i) ≡ Some y
    → front ≡ map f (take i xs) → new ≡ front ++ y ∷ [] → new ≡ map f (take (i + 1) xs)
mapped_more f xs i y front new at so_far grown =
    taken_more (map f xs) i y front new (slice_get-map f xs i ∙ at) (so_far ∙ sym (take-map f i xs)) grown ∙ take-map f (i + 1) xs

-- all of a list, from each by its place
pub all_at : {X : Type 0} (P : X → Type 0) (xs : List X) → ((k : ℕ) (x : X) → slice_get xs k ≡ Some x → P x) → AllByRecursion P xs
all_at P [] each = tt
all_at P (x ∷ xs) each = (each 0 x refl, all_at P xs (λ k y at. each (suc k) y at))

-- all that a function gives of a list
pub all_mapped : {X Y : Type 0} (P : Y → Type 0) (f : X → Y) (xs : List X) → ((k : ℕ) (x : X) → slice_get xs k ≡ Some x → P (f x)) → AllByRecursion P (map f xs)
all_mapped P f [] each = tt
all_mapped P f (x ∷ xs) each = (each 0 x refl, all_mapped P f xs (λ k y at. each (suc k) y at))

-- no element passes a test
pub none_passes : {X : Type 0} (test : X → Bool) (xs : List X) → ((k : ℕ) (x : X) → slice_get xs k ≡ Some x → test x ≡ false) → list_any test xs ≡ false
none_passes test [] each = refl
none_passes test (x ∷ xs) each = rw (each 0 x refl) (none_passes test xs (λ k y at. each (suc k) y at))

-- where none passes, a given one does not
pub none_at : {X : Type 0} (test : X → Bool) (xs : List X) (k : ℕ) (x : X) → list_any test xs ≡ false → slice_get xs k ≡ Some x → test x ≡ false
none_at test [] k x none at = absurd (cc)
none_at test (y ∷ xs) zero x none at = let same : y ≡ x = grind arith in go (test y) refl same
  where
    go : (b : Bool) → test y ≡ b → y ≡ x → test x ≡ false
    go true e same = absurd (let bad : true ≡ false = (rw e at none) in cc)
    go false e same = ap test (sym same) ∙ e
none_at test (y ∷ xs) (suc k) x none at = go (test y) refl (λ rest. none_at test xs k x rest at)
  where
    go : (b : Bool) → test y ≡ b → (list_any test xs ≡ false → test x ≡ false) → test x ≡ false
    go true e more = absurd (let bad : true ≡ false = (rw e at none) in cc)
    go false e more = more (rw e at none)
