-- How often names stand in a list.
use Rattle.std.proofs.Common.{◌≡◌, ℕ, ◌+◌, ◌<◌, Bool, true, false, cond, if◌then◌else◌, List, [], ◌∷◌, ◌++◌, length, take, get_or, count_by, Option, Some, Bor, refl, ap, sym, ◌∙◌, arith}
use Rattle.std.specs.Prelude.{unwrap_or}
use Rattle.std.specs.Str.{bytes_eq}
use Rattle.std.specs.Cmp.Lexicographic.{bytes_decides}
use Rattle.std.proofs.lemmas.List.{take_more}
use Rattle.std.proofs.lemmas.List.Sums.{sum_by-cons, sum_by-append}
use Rattle.texts.specs.Repeated.{texts}
use Rattle.box_tables.specs.Names.{count_of}

pub chosen : (b c : Bool) (x : ℕ) (o : Option ℕ) → b ≡ c → unwrap_or (cond b (Some x) o) 0 ≡ (if c then x else unwrap_or o 0)
chosen true true x o e = refl
chosen true false x o e = absurd (cc)
chosen false true x o e = absurd (cc)
chosen false false x o e = refl

pub count-cons : {A : Type 0} (p : A → Bool) (x : A) (xs : List A) → count_by p (x ∷ xs) ≡ cond (p x) 1 0 + count_by p xs
count-cons p x xs = sum_by-cons (λ y. cond (p y) 1 0) x xs

pub count-append : {A : Type 0} (p : A → Bool) (xs ys : List A) → count_by p (xs ++ ys) ≡ count_by p xs + count_by p ys
count-append p xs ys = sum_by-append (λ y. cond (p y) 1 0) xs ys

pub count-one : {A : Type 0} (p : A → Bool) (x : A) → count_by p (x ∷ []) ≡ cond (p x) 1 0
count-one p x = let more : cond (p x) 1 0 + 0 ≡ cond (p x) 1 0 = omega arith in count-cons p x [] ∙ more

texts-append : (xs ys : List (Bor (List ℕ))) → texts (xs ++ ys) ≡ texts xs ++ texts ys
texts-append [] ys = refl
texts-append (x ∷ xs) ys = ap (λ l. x.now ∷ l) (texts-append xs ys)

-- one name more
pub count_more : (names : List (Bor (List ℕ))) (i : ℕ) (none : Bor (List ℕ)) (name : List ℕ) → i < length names
    → count_by (bytes_eq name) (texts (take (i + 1) names)) ≡ count_by (bytes_eq name) (texts (take i names)) + (if bytes_eq name (get_or names i none).now then 1 else 0)
count_more names i none name low =
    ap (λ (l : List (Bor (List ℕ))). count_by (bytes_eq name) (texts l)) (take_more names i none low)
    ∙ ap (count_by (bytes_eq name)) (texts-append (take i names) (get_or names i none ∷ []))
    ∙ count-append (bytes_eq name) (texts (take i names)) ((get_or names i none).now ∷ [])
    ∙ ap (λ (k : ℕ). count_by (bytes_eq name) (texts (take i names)) + k) (count-one (bytes_eq name) (get_or names i none).now)

-- what is counted once one more name was
pub counted_next : (names : List (Bor (List ℕ))) (i : ℕ) (none : Bor (List ℕ)) (old new : List (Bor (List ℕ) × ℕ)) (count : ℕ) (name : List ℕ) → i < length names → count ≡ count_of old (get_or names i none).now
    → count_of new name ≡ (if bytes_eq name (get_or names i none).now then count + 1 else count_of old name) → count_of old name ≡ count_by (bytes_eq name) (texts (take i names))
    → count_of new name ≡ count_by (bytes_eq name) (texts (take (i + 1) names))
counted_next names i none old new count name low before set so_far = by (bytes_eq name (get_or names i none).now) refl set (count_more names i none name low)
  where
    by : (b : Bool) → bytes_eq name (get_or names i none).now ≡ b → count_of new name ≡ (if b then count + 1 else count_of old name)
        → count_by (bytes_eq name) (texts (take (i + 1) names)) ≡ count_by (bytes_eq name) (texts (take i names)) + (if b then 1 else 0)
        → count_of new name ≡ count_by (bytes_eq name) (texts (take (i + 1) names))
    by true e set more =
        let same : name ≡ (get_or names i none).now = (bytes_decides name (get_or names i none).now).0 e in
        let here : count ≡ count_by (bytes_eq name) (texts (take i names)) = before ∙ ap (count_of old) (sym same) ∙ so_far in
        let added : count_of new name ≡ count + 1 = set in
        let one_more : count_by (bytes_eq name) (texts (take (i + 1) names)) ≡ count_by (bytes_eq name) (texts (take i names)) + 1 = more in
        omega (arith, added, one_more, here)
    by false e set more =
        let kept : count_of new name ≡ count_of old name = set in
        let none_more : count_by (bytes_eq name) (texts (take (i + 1) names)) ≡ count_by (bytes_eq name) (texts (take i names)) + 0 = more in
        omega (arith, kept, none_more, so_far)
