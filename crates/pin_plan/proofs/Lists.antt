-- Lists of tests and places.
use Rattle.std.proofs.Common.{◌≡◌, ℕ, ◌+◌, Bool, true, false, cond, not, ◌||◌, List, [], ◌∷◌, length, map, position, Option, Some, None, refl, ap, sym, ◌∙◌}
use Rattle.std.specs.Prelude.{nat_lt, is_some}
use Rattle.std.specs.List.{list_any, position_or_len, position_from}
use Rattle.std.proofs.lemmas.Iterator.Adapters.{position_from-zero}
use Rattle.list_laws.specs.Options.{or_else, first_in}
use Rattle.std.proofs.lemmas.List.{length-map}

place-map : {A B : Type 0} (test : B → Bool) (f : A → B) (xs : List A) → position_or_len test (map f xs) ≡ position_or_len (λ x. test (f x)) xs
place-map test f [] = refl
place-map test f (x ∷ xs) = ap (λ (n : ℕ). cond (not (test (f x))) (1 + n) 0) (place-map test f xs)

pub position-map : {A B : Type 0} (test : B → Bool) (f : A → B) (xs : List A) → position test (map f xs) ≡ position (λ x. test (f x)) xs
position-map test f xs =
    ap (λ (n : ℕ). cond (nat_lt n (length (map f xs))) (Some n) None) (place-map test f xs)
    ∙ ap (λ (m : ℕ). cond (nat_lt (position_or_len (λ x. test (f x)) xs) m) (Some (position_or_len (λ x. test (f x)) xs)) None) (length-map xs f)

pub position-alike : {A : Type 0} (p q : A → Bool) → ((x : A) → p x ≡ q x) → (xs : List A) → position p xs ≡ position q xs
position-alike {A} p q same xs = ap (λ (t : A → Bool). position t xs) (λ i x. same x i)

pub first_in-alike : {X Y : Type 0} (p q : X → Option Y) → ((x : X) → p x ≡ q x) → (xs : List X) → first_in p xs ≡ first_in q xs
first_in-alike {X} {Y} p q same xs = ap (λ (t : X → Option Y). first_in t xs) (λ i x. same x i)

or_else-assoc : {X : Type 0} (a b c : Option X) → or_else a (or_else b c) ≡ or_else (or_else a b) c
or_else-assoc None b c = refl
or_else-assoc (Some x) b c = refl

-- an element passes where some place does
any_from : {K : Type 0} (test : K → Bool) (i : ℕ) (xs : List K) → list_any test xs ≡ is_some (position_from test i xs)
any_from test i [] = refl
any_from test i (x ∷ xs) = by (test x) (any_from test (i + 1) xs)
  where
    by : (b : Bool) → list_any test xs ≡ is_some (position_from test (i + 1) xs) → (b || list_any test xs) ≡ is_some (cond b (Some i) (position_from test (i + 1) xs))
    by true more = refl
    by false more = more

pub list_any-position : {K : Type 0} (test : K → Bool) (xs : List K) → list_any test xs ≡ is_some (position test xs)
list_any-position test xs = any_from test 0 xs ∙ ap (λ (o : Option ℕ). is_some o) (sym (position_from-zero test xs))
