-- Pairs of a list that pass a test: in joined lists, through a map, and the other way round.
use Rattle.std.proofs.Common.{◌≡◌, List, [], ◌∷◌, ◌++◌, Bool, true, false, ◌||◌, map, refl, sym, ap, ◌∙◌}
use Rattle.std.specs.List.{list_any, list_all}
use Rattle.std.proofs.lemmas.List.Folds.{list_any-append}
use Rattle.list_laws.proofs.Tests.{and_left, and_right, or_first, or_second, neither}
use Rattle.list_laws.proofs.Lists.{any_same}
use Rattle.bsdl_device.specs.Checks.{any_pair}

-- one of the first list and one of the second pass
abbrev pub any_across : {X : Type 0} → (X → X → Bool) → List X → List X → Bool
any_across r xs ys = list_any (λ x. list_any (r x) ys) xs

pub pair_same : {X : Type 0} (f g : X → X → Bool) → ((x y : X) → f x y ≡ g x y) → (xs : List X) → any_pair f xs ≡ any_pair g xs
pair_same f g same [] = refl
pair_same f g same (x ∷ xs) = ap (λ (b : Bool). b || any_pair f xs) (any_same (f x) (g x) (same x) xs) ∙ ap (λ (b : Bool). list_any (g x) xs || b) (pair_same f g same xs)

pub across_same : {X : Type 0} (f g : X → X → Bool) → ((x y : X) → f x y ≡ g x y) → (xs ys : List X) → any_across f xs ys ≡ any_across g xs ys
across_same f g same [] ys = refl
across_same f g same (x ∷ xs) ys = ap (λ (b : Bool). b || any_across f xs ys) (any_same (f x) (g x) (same x) ys) ∙ ap (λ (b : Bool). list_any (g x) ys || b) (across_same f g same xs ys)

-- Joined lists.

pub any_front : {X : Type 0} (f : X → Bool) (xs ys : List X) → list_any f (xs ++ ys) ≡ false → list_any f xs ≡ false
any_front f xs ys h = or_first (list_any f xs) (list_any f ys) (sym (list_any-append f xs ys) ∙ h)

pub any_back : {X : Type 0} (f : X → Bool) (xs ys : List X) → list_any f (xs ++ ys) ≡ false → list_any f ys ≡ false
any_back f xs ys h = or_second (list_any f xs) (list_any f ys) (sym (list_any-append f xs ys) ∙ h)

pub any_joined : {X : Type 0} (f : X → Bool) (xs ys : List X) → list_any f xs ≡ false → list_any f ys ≡ false → list_any f (xs ++ ys) ≡ false
any_joined f xs ys h k = list_any-append f xs ys ∙ neither (list_any f xs) (list_any f ys) h k

-- no pair of the first, of the second, or across
pub record NoPair {X : Type 0} (r : X → X → Bool) (xs ys : List X) : Type 0 where
  pub front : any_pair r xs ≡ false
  pub back : any_pair r ys ≡ false
  pub across : any_across r xs ys ≡ false

pub pair_split : {X : Type 0} (r : X → X → Bool) (xs ys : List X) → any_pair r (xs ++ ys) ≡ false → NoPair r xs ys
pair_split r [] ys h = record { front = refl; back = h; across = refl }
pair_split r (x ∷ xs) ys h =
    let here : list_any (r x) (xs ++ ys) ≡ false = or_first (list_any (r x) (xs ++ ys)) (any_pair r (xs ++ ys)) h in
    let more = pair_split r xs ys (or_second (list_any (r x) (xs ++ ys)) (any_pair r (xs ++ ys)) h) in
    record {
      front = neither (list_any (r x) xs) (any_pair r xs) (any_front (r x) xs ys here) more.front;
      back = more.back;
      across = neither (list_any (r x) ys) (any_across r xs ys) (any_back (r x) xs ys here) more.across;
    }

pub pair_joined : {X : Type 0} (r : X → X → Bool) (xs ys : List X) → NoPair r xs ys → any_pair r (xs ++ ys) ≡ false
pair_joined r [] ys n = n.back
pair_joined r (x ∷ xs) ys n =
    neither (list_any (r x) (xs ++ ys)) (any_pair r (xs ++ ys))
    (any_joined (r x) xs ys (or_first (list_any (r x) xs) (any_pair r xs) n.front) (or_first (list_any (r x) ys) (any_across r xs ys) n.across))
    (pair_joined r xs ys (record {
      front = or_second (list_any (r x) xs) (any_pair r xs) n.front;
      back = n.back;
      across = or_second (list_any (r x) ys) (any_across r xs ys) n.across;
    }))

pub across_front : {X : Type 0} (r : X → X → Bool) (xs ys zs : List X) → any_across r xs (ys ++ zs) ≡ false → any_across r xs ys ≡ false
across_front r [] ys zs h = refl
across_front r (x ∷ xs) ys zs h =
    neither (list_any (r x) ys) (any_across r xs ys) (any_front (r x) ys zs (or_first (list_any (r x) (ys ++ zs)) (any_across r xs (ys ++ zs)) h))
    (across_front r xs ys zs (or_second (list_any (r x) (ys ++ zs)) (any_across r xs (ys ++ zs)) h))

pub across_back : {X : Type 0} (r : X → X → Bool) (xs ys zs : List X) → any_across r xs (ys ++ zs) ≡ false → any_across r xs zs ≡ false
across_back r [] ys zs h = refl
across_back r (x ∷ xs) ys zs h =
    neither (list_any (r x) zs) (any_across r xs zs) (any_back (r x) ys zs (or_first (list_any (r x) (ys ++ zs)) (any_across r xs (ys ++ zs)) h))
    (across_back r xs ys zs (or_second (list_any (r x) (ys ++ zs)) (any_across r xs (ys ++ zs)) h))

pub across_joined : {X : Type 0} (r : X → X → Bool) (xs ys zs : List X) → any_across r xs ys ≡ false → any_across r xs zs ≡ false → any_across r xs (ys ++ zs) ≡ false
across_joined r [] ys zs h k = refl
across_joined r (x ∷ xs) ys zs h k =
    neither (list_any (r x) (ys ++ zs)) (any_across r xs (ys ++ zs))
    (any_joined (r x) ys zs (or_first (list_any (r x) ys) (any_across r xs ys) h) (or_first (list_any (r x) zs) (any_across r xs zs) k))
    (across_joined r xs ys zs (or_second (list_any (r x) ys) (any_across r xs ys) h) (or_second (list_any (r x) zs) (any_across r xs zs) k))

-- The other way round.

across_none : {X : Type 0} (r : X → X → Bool) (xs : List X) → any_across r xs [] ≡ false
across_none r [] = refl
across_none r (x ∷ xs) = across_none r xs

across_one : {X : Type 0} (r : X → X → Bool) (y : X) (xs ys : List X) → list_any (λ x. r x y) xs ≡ false → any_across r xs ys ≡ false → any_across r xs (y ∷ ys) ≡ false
across_one r y [] ys h k = refl
across_one r y (x ∷ xs) ys h k =
    neither (r x y || list_any (r x) ys) (any_across r xs (y ∷ ys))
    (neither (r x y) (list_any (r x) ys) (or_first (r x y) (list_any (λ z. r z y) xs) h) (or_first (list_any (r x) ys) (any_across r xs ys) k))
    (across_one r y xs ys (or_second (r x y) (list_any (λ z. r z y) xs) h) (or_second (list_any (r x) ys) (any_across r xs ys) k))

-- each of the second list passes with none of the first
pub across_turned : {X : Type 0} (r : X → X → Bool) (xs ys : List X) → any_across (λ y x. r x y) ys xs ≡ false → any_across r xs ys ≡ false
across_turned r xs [] h = across_none r xs
across_turned r xs (y ∷ ys) h =
    across_one r y xs ys (or_first (list_any (λ x. r x y) xs) (any_across (λ z x. r x z) ys xs) h)
    (across_turned r xs ys (or_second (list_any (λ x. r x y) xs) (any_across (λ z x. r x z) ys xs) h))

-- Through a map.

one_through : {X Y : Type 0} (q : X → Bool) (r : Y → Bool) (h : X → Bool) (g : X → Y) → ((x : X) → h x ≡ true → q x ≡ false → r (g x) ≡ false)
    → (xs : List X) → list_all h xs ≡ true → list_any q xs ≡ false → list_any r (map g xs) ≡ false
one_through q r h g step [] all none = refl
one_through q r h g step (x ∷ xs) all none =
    neither (r (g x)) (list_any r (map g xs)) (step x (and_left (h x) (list_all h xs) all) (or_first (q x) (list_any q xs) none))
    (one_through q r h g step xs (and_right (h x) (list_all h xs) all) (or_second (q x) (list_any q xs) none))

-- pairs that fail one test give pairs that fail another
pub pair_through : {X Y : Type 0} (q : X → X → Bool) (r : Y → Y → Bool) (h : X → Bool) (g : X → Y) → ((x y : X) → h x ≡ true → h y ≡ true → q x y ≡ false → r (g x) (g y) ≡ false)
    → (xs : List X) → list_all h xs ≡ true → any_pair q xs ≡ false → any_pair r (map g xs) ≡ false
pair_through q r h g step [] all none = refl
pair_through q r h g step (x ∷ xs) all none =
    let more = and_right (h x) (list_all h xs) all in
    neither (list_any (r (g x)) (map g xs)) (any_pair r (map g xs))
    (one_through (q x) (r (g x)) h g (λ y there fails. step x y (and_left (h x) (list_all h xs) all) there fails) xs more (or_first (list_any (q x) xs) (any_pair q xs) none))
    (pair_through q r h g step xs more (or_second (list_any (q x) xs) (any_pair q xs) none))
