-- Pairs that pass a test, in any order of the list.
use Rattle.std.proofs.Common.{◌≡◌, List, [], ◌∷◌, Bool, false, ◌||◌, map, refl, ap, ◌∙◌}
use Rattle.std.specs.List.{list_any}
use Rattle.list_laws.proofs.Tests.{or_first, or_second, neither}
use Rattle.list_laws.proofs.Lists.{any_same, any_map}
use Rattle.bsdl_device.specs.Checks.{any_pair}
use Rattle.bsdl_device.proofs.Totals.{any_shuffled, Shuffled}

pub pair-map : {A B : Type 0} (f : B → B → Bool) (g : A → B) (xs : List A) → any_pair f (map g xs) ≡ any_pair (λ x y. f (g x) (g y)) xs
pair-map f g [] = refl
pair-map f g (x ∷ xs) = ap (λ (b : Bool). b || any_pair f (map g xs)) (any_map (f (g x)) g xs) ∙ ap (λ (b : Bool). list_any (λ y. f (g x) (g y)) xs || b) (pair-map f g xs)

pub pair_same : {A : Type 0} (f g : A → A → Bool) → ((x y : A) → f x y ≡ g x y) → (xs : List A) → any_pair f xs ≡ any_pair g xs
pair_same f g same [] = refl
pair_same f g same (x ∷ xs) = ap (λ (b : Bool). b || any_pair f xs) (any_same (f x) (g x) (same x) xs) ∙ ap (λ (b : Bool). list_any (g x) xs || b) (pair_same f g same xs)

-- A symmetric test that nothing passes with itself: no pair passes it just where none passes it with any.

-- each passes it with none of the list
abbrev pub clashes : {A : Type 0} → (A → A → Bool) → List A → List A → Bool
clashes test all xs = list_any (λ x. list_any (test x) all) xs

no_pair_no_clash : {A : Type 0} (test : A → A → Bool) → ((x y : A) → test x y ≡ test y x) → ((x : A) → test x x ≡ false) → (xs : List A) → any_pair test xs ≡ false → clashes test xs xs ≡ false
no_pair_no_clash test symmetric loose [] h = refl
no_pair_no_clash {A = A} test symmetric loose (x ∷ xs) h =
    let here : list_any (test x) xs ≡ false = or_first (list_any (test x) xs) (any_pair test xs) h in
    let rest : clashes test xs xs ≡ false = no_pair_no_clash test symmetric loose xs (or_second (list_any (test x) xs) (any_pair test xs) h) in
    neither (test x x || list_any (test x) xs) (list_any (λ y. test y x || list_any (test y) xs) xs)
    (neither (test x x) (list_any (test x) xs) (loose x) here)
    (split xs here rest)
  where
    split : (ys : List A) → list_any (test x) ys ≡ false → list_any (λ y. list_any (test y) xs) ys ≡ false → list_any (λ y. test y x || list_any (test y) xs) ys ≡ false
    split [] a b = refl
    split (y ∷ ys) a b =
        neither (test y x || list_any (test y) xs) (list_any (λ z. test z x || list_any (test z) xs) ys)
        (neither (test y x) (list_any (test y) xs) (symmetric y x ∙ or_first (test x y) (list_any (test x) ys) a) (or_first (list_any (test y) xs) (list_any (λ z. list_any (test z) xs) ys) b))
        (split ys (or_second (test x y) (list_any (test x) ys) a) (or_second (list_any (test y) xs) (list_any (λ z. list_any (test z) xs) ys) b))

less_any : {A : Type 0} (test : A → A → Bool) (x : A) (all : List A) (ys : List A) → list_any (λ y. list_any (test y) (x ∷ all)) ys ≡ false → list_any (λ y. list_any (test y) all) ys ≡ false
less_any test x all [] h = refl
less_any test x all (y ∷ ys) h =
    neither (list_any (test y) all) (list_any (λ z. list_any (test z) all) ys)
    (or_second (test y x) (list_any (test y) all) (or_first (list_any (test y) (x ∷ all)) (list_any (λ z. list_any (test z) (x ∷ all)) ys) h))
    (less_any test x all ys (or_second (list_any (test y) (x ∷ all)) (list_any (λ z. list_any (test z) (x ∷ all)) ys) h))

no_clash_no_pair : {A : Type 0} (test : A → A → Bool) (xs : List A) → clashes test xs xs ≡ false → any_pair test xs ≡ false
no_clash_no_pair test [] h = refl
no_clash_no_pair test (x ∷ xs) h =
    neither (list_any (test x) xs) (any_pair test xs)
    (or_second (test x x) (list_any (test x) xs) (or_first (list_any (test x) (x ∷ xs)) (clashes test (x ∷ xs) xs) h))
    (no_clash_no_pair test xs (less_any test x xs xs (or_second (list_any (test x) (x ∷ xs)) (clashes test (x ∷ xs) xs) h)))

pub pairs_shuffled : {A : Type 0} (test : A → A → Bool) → ((x y : A) → test x y ≡ test y x) → ((x : A) → test x x ≡ false) → (xs ys : List A) → Shuffled xs ys → any_pair test ys ≡ false → any_pair test xs ≡ false
pairs_shuffled {A = A} test symmetric loose xs ys s h =
    let apart : clashes test ys ys ≡ false = no_pair_no_clash test symmetric loose ys h in
    let over : list_any (λ x. list_any (test x) ys) xs ≡ false = any_shuffled (λ x. list_any (test x) ys) xs ys s apart in
    no_clash_no_pair test xs (within xs over)
  where
    within : (zs : List A) → list_any (λ x. list_any (test x) ys) zs ≡ false → list_any (λ x. list_any (test x) xs) zs ≡ false
    within [] k = refl
    within (z ∷ zs) k =
        neither (list_any (test z) xs) (list_any (λ x. list_any (test x) xs) zs)
        (any_shuffled (test z) xs ys s (or_first (list_any (test z) ys) (list_any (λ x. list_any (test x) ys) zs) k))
        (within zs (or_second (list_any (test z) ys) (list_any (λ x. list_any (test x) ys) zs) k))
