-- The numbers of names in a list, and in the list of their texts.
use Rattle.std.proofs.Common.{◌≡◌, ℕ, suc, zero, ◌+◌, ◌<◌, ◌≤◌, List, [], ◌∷◌, ◌++◌, length, refl, sym, ◌∙◌, ap, arith, Some, None, Bool, true, false, not, cond, length-append}
use Rattle.std.specs.Prelude.{nat_lt, slice_get}
use Rattle.std.specs.List.{position_or_len, list_any, IsDistinct, AllByRecursion}
use Rattle.std.specs.Str.{bytes_eq}
use Rattle.std.proofs.lemmas.Bool.{lt-ltb, le-ltb}
use borrow.Author.Tests.{ltb-true}
use Rattle.std.proofs.lemmas.Slice.Eq.{bytes_eq-Decides}
use Rattle.list_laws.proofs.Bytes.{bytes_eq-same}
use Rattle.link_arena.specs.NameTableNames.{number_of, with_name, IsOnce}

-- a name is there where its place is inside the list
inside : {X : Type 0} (p : X → Bool) (xs : List X) → list_any p xs ≡ true → position_or_len p xs < length xs
inside p [] some = absurd (cc)
inside p (x ∷ xs) some = by (p x) refl (inside p xs)
  where
    by : (b : Bool) → p x ≡ b → (list_any p xs ≡ true → position_or_len p xs < length xs) → cond (not (p x)) (1 + position_or_len p xs) 0 < suc (length xs)
    by true e rest = rw e (omega arith)
    by false e rest = let there = rest (rw e at some) in rw e (omega (arith, there))

outside : {X : Type 0} (p : X → Bool) (xs : List X) → list_any p xs ≡ false → position_or_len p xs ≡ length xs
outside p [] none = refl
outside p (x ∷ xs) none = by (p x) refl (outside p xs)
  where
    by : (b : Bool) → p x ≡ b → (list_any p xs ≡ false → position_or_len p xs ≡ length xs) → cond (not (p x)) (1 + position_or_len p xs) 0 ≡ suc (length xs)
    by true e rest = let no : true ≡ false = rw e at none in absurd (cc)
    by false e rest = let there = rest (rw e at none) in rw e (omega (arith, there))

at-inside : (n m : ℕ) → n < m → cond (nat_lt n m) (Some n) None ≡ Some n
at-inside n m h = rw (lt-ltb n m h) refl

at-outside : (n m : ℕ) → m ≤ n → cond (nat_lt n m) (Some n) None ≡ None
at-outside n m h = rw (le-ltb n m h) refl

pub with_name-known : (name : List ℕ) (names : List (List ℕ)) (number : ℕ) → number_of name names ≡ Some number → with_name name names ≡ names
with_name-known name names number h = by (list_any (bytes_eq name) names) refl
  where
    by : (b : Bool) → list_any (bytes_eq name) names ≡ b → with_name name names ≡ names
    by true e = rw e refl
    by false e = let none : Some number ≡ None = sym h ∙ at-outside (position_or_len (bytes_eq name) names) (length names) (let there = outside (bytes_eq name) names e in omega (arith, there)) in absurd (cc)

-- a new name has the next number
place-push : (name : List ℕ) (names : List (List ℕ)) → list_any (bytes_eq name) names ≡ false → position_or_len (bytes_eq name) (names ++ name ∷ []) ≡ length names
place-push name [] h = rw (bytes_eq-same name) refl
place-push name (n ∷ ns) h = by (bytes_eq name n) refl (place-push name ns)
  where
    by : (b : Bool) → bytes_eq name n ≡ b → (list_any (bytes_eq name) ns ≡ false → position_or_len (bytes_eq name) (ns ++ name ∷ []) ≡ length ns)
        → position_or_len (bytes_eq name) (n ∷ (ns ++ name ∷ [])) ≡ suc (length ns)
    by true e rest = let no : true ≡ false = rw e at h in absurd (cc)
    by false e rest = let there = rest (rw e at h) in rw e (omega (arith, there))

pub number_of-new : (name : List ℕ) (names : List (List ℕ)) → list_any (bytes_eq name) names ≡ false → number_of name (names ++ name ∷ []) ≡ Some (length names)
number_of-new name names h =
    let place = place-push name names h in
    at-inside (position_or_len (bytes_eq name) (names ++ name ∷ [])) (length (names ++ name ∷ [])) (omega (arith, place, length-append names (name ∷ []))) ∙ ap (λ (n : ℕ). Some n) place

-- no name stands among names that are all other
differs : (name : List ℕ) (names : List (List ℕ)) (j : ℕ) → AllByRecursion (λ n. bytes_eq name n ≡ false) names → slice_get names j ≡ Some name → ⊥
differs name [] j all here = cc
differs name (n ∷ ns) zero all here = let same : n ≡ name = cc in let no : true ≡ false = sym (bytes_eq-same name) ∙ ap (bytes_eq name) (sym same) ∙ all.0 in cc
differs name (n ∷ ns) (suc j) all here = differs name ns j all.1 here

pub once-distinct : (names : List (List ℕ)) → IsDistinct bytes_eq names → IsOnce names
unfolding IsDistinct
once-distinct [] distinct i j name here there = absurd (cc)
once-distinct (n ∷ ns) distinct zero zero name here there = refl
once-distinct (n ∷ ns) distinct zero (suc j) name here there = let same : n ≡ name = cc in absurd (differs n ns j distinct.0 (there ∙ ap (λ (m : List ℕ). Some m) (sym same)))
once-distinct (n ∷ ns) distinct (suc i) zero name here there = let same : n ≡ name = cc in absurd (differs n ns i distinct.0 (here ∙ ap (λ (m : List ℕ). Some m) (sym same)))
once-distinct (n ∷ ns) distinct (suc i) (suc j) name here there = ap (λ (m : ℕ). suc m) (once-distinct ns distinct.1 i j name here there)

-- the name stands under its number
place-at : (name : List ℕ) (names : List (List ℕ)) → position_or_len (bytes_eq name) names < length names → slice_get names (position_or_len (bytes_eq name) names) ≡ Some name
place-at name [] h = absurd (omega arith)
place-at name (n ∷ ns) h = by (bytes_eq name n) refl (place-at name ns)
  where
    by : (b : Bool) → bytes_eq name n ≡ b → (position_or_len (bytes_eq name) ns < length ns → slice_get ns (position_or_len (bytes_eq name) ns) ≡ Some name)
        → slice_get (n ∷ ns) (cond (not (bytes_eq name n)) (1 + position_or_len (bytes_eq name) ns) 0) ≡ Some name
    by true e rest = rw e (ap (λ (t : List ℕ). Some t) (sym ((bytes_eq-Decides name n).0 e)))
    by false e rest =
        let less : position_or_len (bytes_eq name) ns < length ns = let long : cond (not (bytes_eq name n)) (1 + position_or_len (bytes_eq name) ns) 0 < suc (length ns) = h in let longer : 1 + position_or_len (bytes_eq name) ns < suc (length ns) = rw e at long in omega (arith, longer) in
        let next : suc (position_or_len (bytes_eq name) ns) ≡ 1 + position_or_len (bytes_eq name) ns = omega arith in
        rw (e, ← next) (rest less)

pub number_of-at : (name : List ℕ) (names : List (List ℕ)) (number : ℕ) → number_of name names ≡ Some number → slice_get names number ≡ Some name
number_of-at name names number h = by (nat_lt (position_or_len (bytes_eq name) names) (length names)) refl
  where
    by : (b : Bool) → nat_lt (position_or_len (bytes_eq name) names) (length names) ≡ b → slice_get names number ≡ Some name
    by true e =
        let is : Some (position_or_len (bytes_eq name) names) ≡ Some number = rw e at h in
        let place : position_or_len (bytes_eq name) names ≡ number = cc in
        rw (← place) (place-at name names (ltb-true (position_or_len (bytes_eq name) names) (length names) e))
    by false e = let no : None ≡ Some number = rw e at h in absurd (cc)

-- the number at which a name stands once it is entered
pub entered : (name : List ℕ) (names new : List (List ℕ)) (number : ℕ) → new ≡ with_name name names → number ≡ position_or_len (bytes_eq name) names
    → number_of name new ≡ Some number
entered name names new number grown is = by (list_any (bytes_eq name) names) refl
  where
    by : (b : Bool) → list_any (bytes_eq name) names ≡ b → number_of name new ≡ Some number
    by true e =
        let same : new ≡ names = grown ∙ rw e refl in
        ap (number_of name) same ∙ at-inside (position_or_len (bytes_eq name) names) (length names) (inside (bytes_eq name) names e) ∙ ap (λ (n : ℕ). Some n) (sym is)
    by false e =
        let longer : new ≡ names ++ name ∷ [] = grown ∙ rw e refl in
        ap (number_of name) longer ∙ number_of-new name names e ∙ ap (λ (n : ℕ). Some n) (sym (is ∙ outside (bytes_eq name) names e))

-- a name that stands in the list is found there
found : (name : List ℕ) (names : List (List ℕ)) (number : ℕ) → slice_get names number ≡ Some name → list_any (bytes_eq name) names ≡ true
found name [] number here = absurd (cc)
found name (n ∷ ns) zero here = let same : n ≡ name = cc in rw (same, bytes_eq-same name) refl
found name (n ∷ ns) (suc number) here = by (bytes_eq name n) refl (found name ns number here)
  where
    by : (b : Bool) → bytes_eq name n ≡ b → list_any (bytes_eq name) ns ≡ true → list_any (bytes_eq name) (n ∷ ns) ≡ true
    by true e rest = rw e refl
    by false e rest = rw e rest

-- a name has the number where it stands, since it stands once
pub number_where : (name : List ℕ) (names : List (List ℕ)) (number : ℕ) → IsOnce names → slice_get names number ≡ Some name → number_of name names ≡ Some number
number_where name names number once here =
    let first = at-inside (position_or_len (bytes_eq name) names) (length names) (inside (bytes_eq name) names (found name names number here)) in
    first ∙ ap (λ (n : ℕ). Some n) (once (position_or_len (bytes_eq name) names) number name (number_of-at name names (position_or_len (bytes_eq name) names) first) here)
