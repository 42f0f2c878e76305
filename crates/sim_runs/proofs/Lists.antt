-- Lists that are made from the front, and lists that are made anew in place.
use Rattle.std.proofs.Common.{◌≡◌, ℕ, zero, suc, ◌+◌, ◌<◌, ◌≤◌, List, [], ◌∷◌, ◌++◌, length, map, take, drop, set, get_or, refl, sym, ◌∙◌, ap, arith, append_assoc, append-nil, Some}
use Rattle.std.specs.List.{slice_get, flat_map}
use Rattle.std.proofs.lemmas.List.{take_more}
use Rattle.std.proofs.lemmas.Option.{slice_get_within, get_or_from_slice_get}

-- the front of a list, and the next element
pub front_next : {X : Type 0} (xs : List X) (i : ℕ) (x : X) → slice_get xs i ≡ Some x → take i xs ++ x ∷ [] ≡ take (i + 1) xs
front_next xs i x at =
    let within = slice_get_within xs i x at in
    let here = get_or_from_slice_get xs i x x at in
    rw (take_more xs i x within, here) refl

-- the first of what is left stands at its place
pub at_left : {X : Type 0} (xs : List X) (n : ℕ) (y : X) (ys : List X) → drop n xs ≡ y ∷ ys → slice_get xs n ≡ Some y
at_left [] zero y ys is = absurd (cc)
at_left [] (suc n) y ys is = absurd (cc)
at_left (x ∷ xs) zero y ys is = let same : x ≡ y = cc in rw same refl
at_left (x ∷ xs) (suc n) y ys is = at_left xs n y ys is

pub less_left : {X : Type 0} (xs : List X) (n : ℕ) (y : X) (ys : List X) → drop n xs ≡ y ∷ ys → drop (suc n) xs ≡ ys
less_left [] zero y ys is = absurd (cc)
less_left [] (suc n) y ys is = absurd (cc)
less_left (x ∷ xs) zero y ys is = cc
less_left (x ∷ xs) (suc n) y ys is = less_left xs n y ys is

pub left_none : {X : Type 0} (xs : List X) (n : ℕ) → drop n xs ≡ [] → length xs ≤ n
left_none [] n is = omega arith
left_none (x ∷ xs) zero is = absurd (cc)
left_none (x ∷ xs) (suc n) is = let rest = left_none xs n is in omega (arith, rest)

-- what functions give of a list, one after another
pub flat_map-over : {X Y Z : Type 0} (f : Y → List Z) (g : X → Y) (xs : List X) → flat_map (λ (x : X). f (g x)) xs ≡ flat_map f (map g xs)
flat_map-over f g [] = refl
flat_map-over {Z = Z} f g (x ∷ xs) = ap (λ (l : List Z). f (g x) ++ l) (flat_map-over f g xs)

pub flat_map-same : {X Z : Type 0} (f g : X → List Z) (xs : List X) → ((x : X) → f x ≡ g x) → flat_map f xs ≡ flat_map g xs
flat_map-same f g [] same = refl
flat_map-same f g (x ∷ xs) same = rw (same x, flat_map-same f g xs same) refl

pub flat_map-push : {X Z : Type 0} (f : X → List Z) (xs : List X) (x : X) → flat_map f (xs ++ x ∷ []) ≡ flat_map f xs ++ f x
flat_map-push f [] x = append-nil (f x)
flat_map-push {Z = Z} f (y ∷ ys) x = ap (λ (l : List Z). f y ++ l) (flat_map-push f ys x) ∙ sym (append_assoc (f y) (flat_map f ys) (f x))

-- a list whose first elements are made anew
pub renewed_next : {X Y : Type 0} (f : X → Y) (xs : List X) (i : ℕ) (x : X) (old : List Y) → slice_get xs i ≡ Some x → length old ≡ length xs
    → set (map f (take i xs) ++ drop i old) i (f x) ≡ map f (take (suc i) xs) ++ drop (suc i) old
renewed_next f [] i x old at long = absurd (cc)
renewed_next f (y ∷ ys) i x [] at long = absurd (omega arith)
renewed_next f (y ∷ ys) zero x (o ∷ os) at long = let same : y ≡ x = grind arith in rw same refl
renewed_next {Y = Y} f (y ∷ ys) (suc i) x (o ∷ os) at long = ap (λ (l : List Y). f y ∷ l) (renewed_next f ys i x os at (omega arith))

pub renewed_at : {X Y : Type 0} (f : X → Y) (xs : List X) (i : ℕ) (old : List Y) (d : Y) → i < length xs → length old ≡ length xs
    → get_or (map f (take i xs) ++ drop i old) i d ≡ get_or old i d
renewed_at f [] i old d below long = absurd (omega arith)
renewed_at f (y ∷ ys) i [] d below long = absurd (omega arith)
renewed_at f (y ∷ ys) zero (o ∷ os) d below long = refl
renewed_at f (y ∷ ys) (suc i) (o ∷ os) d below long = renewed_at f ys i os d (omega arith) (omega arith)

pub mapped_at : {X Y : Type 0} (f : X → Y) (xs : List X) (i : ℕ) (x : X) (d : Y) → slice_get xs i ≡ Some x → get_or (map f xs) i d ≡ f x
mapped_at f [] i x d at = absurd (cc)
mapped_at f (y ∷ ys) zero x d at = let same : y ≡ x = grind arith in rw same refl
mapped_at f (y ∷ ys) (suc i) x d at = mapped_at f ys i x d at
