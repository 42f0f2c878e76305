-- Elements of lists by their places.
use Rattle.std.proofs.Common.{◌≡◌, ℕ, zero, suc, ◌+◌, Bool, true, false, ◌&&◌, List, [], ◌∷◌, slice_get, Option, Some, None, refl, ap, ◌∙◌, subst, arith}
use Rattle.std.specs.List.{AllByRecursion, enumerate_from}
use Rattle.list_laws.proofs.Options.{some_same}

pub none_there : {X : Type 0} (o : Option X) (x : X) → o ≡ None → o ≡ Some x → ⊥
none_there o x e f = cc

pub all_from_places : {X : Type 0} (P : X → Type 0) (xs : List X) → ((k : ℕ) (x : X) → slice_get xs k ≡ Some x → P x) → AllByRecursion P xs
all_from_places P [] each = tt
all_from_places P (x ∷ xs) each = (each 0 x refl, all_from_places P xs (λ k y h. each (suc k) y h))

pub all_weaker : {X : Type 0} (P Q : X → Type 0) (xs : List X) → ((x : X) → P x → Q x) → AllByRecursion P xs → AllByRecursion Q xs
all_weaker P Q [] weaker all = tt
all_weaker P Q (x ∷ xs) weaker all = (weaker x all.0, all_weaker P Q xs weaker all.1)

pub enumerated_at : {X : Type 0} (n : ℕ) (xs : List X) (k : ℕ) (x : X) → slice_get xs k ≡ Some x → slice_get (enumerate_from n xs) k ≡ Some (n + k, x)
enumerated_at n [] k x h = absurd (cc)
enumerated_at {X = X} n (y ∷ ys) zero x h =
    let same : y ≡ x = some_same y x (Some y) refl h in
    let at : n ≡ n + 0 = omega arith in
    ap (λ (z : X). Some (n, z)) same ∙ ap (λ (m : ℕ). Some (m, x)) at
enumerated_at {X = X} n (y ∷ ys) (suc k) x h =
    let at : (n + 1) + k ≡ n + suc k = omega arith in
    enumerated_at (n + 1) ys k x h ∙ ap (λ (m : ℕ). Some (m, x)) at

-- numbered elements with what holds of each at its place
pub all_enumerated : {X : Type 0} (P : ℕ × X → Type 0) (n : ℕ) (xs : List X) → ((k : ℕ) (x : X) → slice_get xs k ≡ Some x → P (n + k, x)) → AllByRecursion P (enumerate_from n xs)
all_enumerated P n [] each = tt
all_enumerated {X = X} P n (x ∷ xs) each =
    let here : n + 0 ≡ n = omega arith in (
      subst (λ (m : ℕ). P (m, x)) here (each 0 x refl),
      all_enumerated P (n + 1) xs (λ k y h. let at : n + suc k ≡ (n + 1) + k = omega arith in subst (λ (m : ℕ). P (m, y)) at (each (suc k) y h)),
    )

pub false_left : (a b : Bool) → a ≡ false → (a && b) ≡ false
false_left true b h = absurd (cc)
false_left false b h = refl

pub false_right : (a b : Bool) → b ≡ false → (a && b) ≡ false
false_right true b h = h
false_right false b h = refl
