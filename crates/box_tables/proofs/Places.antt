-- Names and the places where they first stand.
use Rattle.std.proofs.Common.{◌≡◌, ℕ, suc, ◌+◌, Bool, true, false, cond, not, find, get_or, List, [], ◌∷◌, length, map, position, is_some, Option, Some, None, Bor, refl, ap, sym, ◌∙◌, ◌||◌, ◌<◌, arith, ltb-true, ltb-false}
use Rattle.std.specs.Prelude.{nat_lt, slice_get}
use Rattle.std.specs.Option.{option_map}
use Rattle.std.specs.Map.{lookup}
use Rattle.std.specs.List.{position_or_len, list_any}
use Rattle.std.specs.Str.{bytes_eq}
use Rattle.std.proofs.lemmas.Option.{slice_get-get_or, slice_get_past, slice_get-map}
use Rattle.std.proofs.lemmas.List.Folds.{find_at}
use Rattle.list_laws.proofs.Lists.{slice_get_there}
use Rattle.texts.specs.Repeated.{texts}

-- some borrowed name
abbrev pub lent : List ℕ → Bor (List ℕ)
lent name = record { ref_ptr = (0, 0); now = name }

place-map : {A B : Type 0} (test : B → Bool) (f : A → B) → (xs : List A) → position_or_len test (map f xs) ≡ position_or_len (λ x. test (f x)) xs
place-map test f [] = refl
place-map test f (x ∷ xs) = ap (λ (n : ℕ). cond (not (test (f x))) (1 + n) 0) (place-map test f xs)

length-mapped : {A B : Type 0} (f : A → B) → (xs : List A) → length (map f xs) ≡ length xs
length-mapped f [] = refl
length-mapped f (x ∷ xs) = ap (λ (n : ℕ). suc n) (length-mapped f xs)

-- where the first that passes stands among values of things
pub position-map : {A B : Type 0} (test : B → Bool) (f : A → B) → (xs : List A) → position test (map f xs) ≡ position (λ x. test (f x)) xs
position-map test f xs =
    ap (λ (n : ℕ). cond (nat_lt n (length (map f xs))) (Some n) None) (place-map test f xs)
    ∙ ap (λ (m : ℕ). cond (nat_lt (position_or_len (λ x. test (f x)) xs) m) (Some (position_or_len (λ x. test (f x)) xs)) None) (length-mapped f xs)

-- a table of first places finds names by their bytes
pub finds_names : (names : List (Bor (List ℕ))) (entries : List (Bor (List ℕ) × ℕ))
    → ((k : Bor (List ℕ)) → lookup (λ (j : Bor (List ℕ)). bytes_eq k.now j.now) entries ≡ position (λ (j : Bor (List ℕ)). bytes_eq k.now j.now) names)
    → (name : List ℕ) → lookup (λ (k : Bor (List ℕ)). bytes_eq name k.now) entries ≡ position (bytes_eq name) (texts names)
finds_names names entries finds name = finds (lent name) ∙ sym (position-map (bytes_eq name) (λ (k : Bor (List ℕ)). k.now) names)

-- what stands at the first place
stands_first : {A : Type 0} (test : A → Bool) (xs : List A) (i : ℕ) (x : A) → Some i ≡ position test xs → x ≡ get_or xs i x → Some x ≡ find test xs
stands_first {A} test xs i x place is = by (nat_lt (position_or_len test xs) (length xs)) refl
  where
    by : (b : Bool) → nat_lt (position_or_len test xs) (length xs) ≡ b → Some x ≡ find test xs
    by true e =
        let same : Some i ≡ Some (position_or_len test xs) = place ∙ ap (λ (c : Bool). cond c (Some (position_or_len test xs)) None) e in
        let at : i ≡ position_or_len test xs = cc in
        ap (λ (y : A). Some y) (is ∙ ap (λ (n : ℕ). get_or xs n x) at)
        ∙ sym (slice_get-get_or xs (position_or_len test xs) x (ltb-true (position_or_len test xs) (length xs) e)) ∙ sym (find_at test xs)
    by false e = let no : Some i ≡ None = place ∙ ap (λ (c : Bool). cond c (Some (position_or_len test xs)) None) e in absurd (cc)

stands_nowhere : {A : Type 0} (test : A → Bool) (xs : List A) → None ≡ position test xs → None ≡ find test xs
stands_nowhere {A} test xs none = by (nat_lt (position_or_len test xs) (length xs)) refl
  where
    by : (b : Bool) → nat_lt (position_or_len test xs) (length xs) ≡ b → None ≡ find test xs
    by true e = let no : None ≡ Some (position_or_len test xs) = none ∙ ap (λ (c : Bool). cond c (Some (position_or_len test xs)) None) e in absurd (cc)
    by false e = sym (find_at test xs ∙ slice_get_past xs (position_or_len test xs) (ltb-false (position_or_len test xs) (length xs) e))

-- a place lies in the list
pub position_low : {A : Type 0} (test : A → Bool) (xs : List A) (i : ℕ) → Some i ≡ position test xs → i < length xs
position_low {A} test xs i place = by (nat_lt (position_or_len test xs) (length xs)) refl
  where
    by : (b : Bool) → nat_lt (position_or_len test xs) (length xs) ≡ b → i < length xs
    by true e =
        let same : Some i ≡ Some (position_or_len test xs) = place ∙ ap (λ (c : Bool). cond c (Some (position_or_len test xs)) None) e in
        let at : i ≡ position_or_len test xs = cc in
        let low = ltb-true (position_or_len test xs) (length xs) e in
        omega (arith, at, low)
    by false e = let no : Some i ≡ None = place ∙ ap (λ (c : Bool). cond c (Some (position_or_len test xs)) None) e in absurd (cc)

-- the thing whose name stands at the first place
pub found_at : {A : Type 0} (name_of : A → List ℕ) (xs : List A) (names : List (List ℕ)) (name : List ℕ) (i : ℕ) (x : A) → names ≡ map name_of xs → Some i ≡ position (bytes_eq name) names → x ≡ get_or xs i x
    → Some x ≡ find (λ (y : A). bytes_eq name (name_of y)) xs
found_at name_of xs names name i x same place is =
    stands_first (λ y. bytes_eq name (name_of y)) xs i x (place ∙ ap (position (bytes_eq name)) same ∙ position-map (bytes_eq name) name_of xs) is

pub found_nowhere : {A : Type 0} (name_of : A → List ℕ) (xs : List A) (names : List (List ℕ)) (name : List ℕ) → names ≡ map name_of xs → None ≡ position (bytes_eq name) names
    → None ≡ find (λ (y : A). bytes_eq name (name_of y)) xs
found_nowhere name_of xs names name same none = stands_nowhere (λ y. bytes_eq name (name_of y)) xs (none ∙ ap (position (bytes_eq name)) same ∙ position-map (bytes_eq name) name_of xs)

-- a name stands where one is found
pub has_found : {A : Type 0} (test : A → Bool) (xs : List A) → is_some (find test xs) ≡ list_any test xs
has_found test [] = refl
has_found {A} test (x ∷ xs) = by (test x) (has_found test xs)
  where
    by : (b : Bool) → is_some (find test xs) ≡ list_any test xs → is_some (cond b (Some x) (find test xs)) ≡ (b || list_any test xs)
    by true rest = refl
    by false rest = rest

pub placed : {A : Type 0} (test : A → Bool) (xs : List A) → is_some (position test xs) ≡ list_any test xs
placed {A} test xs = by (nat_lt (position_or_len test xs) (length xs)) refl ∙ has_found test xs
  where
    by : (b : Bool) → nat_lt (position_or_len test xs) (length xs) ≡ b → is_some (position test xs) ≡ is_some (find test xs)
    by true e =
        let there = slice_get_there xs (position_or_len test xs) (ltb-true (position_or_len test xs) (length xs) e) in
        ap (λ (c : Bool). is_some (cond c (Some (position_or_len test xs)) None)) e ∙ sym (ap (λ (o : Option A). is_some o) (find_at test xs ∙ there.1))
    by false e =
        ap (λ (c : Bool). is_some (cond c (Some (position_or_len test xs)) None)) e
        ∙ sym (ap (λ (o : Option A). is_some o) (find_at test xs ∙ slice_get_past xs (position_or_len test xs) (ltb-false (position_or_len test xs) (length xs) e)))

-- what is found stands at the first place
find_place : {A : Type 0} (test : A → Bool) (xs : List A) (i : ℕ) → Some i ≡ position test xs → slice_get xs i ≡ find test xs
find_place {A} test xs i place = by (nat_lt (position_or_len test xs) (length xs)) refl
  where
    by : (b : Bool) → nat_lt (position_or_len test xs) (length xs) ≡ b → slice_get xs i ≡ find test xs
    by true e =
        let same : Some i ≡ Some (position_or_len test xs) = place ∙ ap (λ (c : Bool). cond c (Some (position_or_len test xs)) None) e in
        let at : i ≡ position_or_len test xs = cc in
        ap (slice_get xs) at ∙ sym (find_at test xs)
    by false e = let no : Some i ≡ None = place ∙ ap (λ (c : Bool). cond c (Some (position_or_len test xs)) None) e in absurd (cc)

-- what is made of the thing whose name stands at the first place
pub mapped_found : {A B : Type 0} (f : A → B) (name_of : A → List ℕ) (xs : List A) (ys : List B) (names : List (List ℕ)) (name : List ℕ) (i : ℕ) → ys ≡ map f xs → names ≡ map name_of xs → Some i ≡ position (bytes_eq name) names
    → slice_get ys i ≡ option_map f (find (λ (x : A). bytes_eq name (name_of x)) xs)
mapped_found {A} {B} f name_of xs ys names name i are same place =
    ap (λ (l : List B). slice_get l i) are
    ∙ slice_get-map f xs i
    ∙ ap (option_map f) (find_place (λ (x : A). bytes_eq name (name_of x)) xs i (place ∙ ap (position (bytes_eq name)) same ∙ position-map (bytes_eq name) name_of xs))
