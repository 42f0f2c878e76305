-- What a set of borrowed names answers, by the bytes of the names.
use Rattle.std.proofs.Common.{◌≡◌, ℕ, Bool, true, false, List, [], ◌∷◌, ◌++◌, ◌||◌, if◌then◌else◌, refl, sym, ap, ◌∙◌, Bor, Some, None}
use Rattle.std.specs.List.{list_any}
use Rattle.std.specs.Str.{bytes_eq}
use Rattle.indexmap.specs.IndexSet.{insert_key}
use Rattle.texts.specs.Repeated.{has_name, repeated_after, texts}

pub list_any-texts : (name : List ℕ) (ks : List (Bor (List ℕ))) → list_any (λ (k : Bor (List ℕ)). bytes_eq name k.now) ks ≡ has_name (texts ks) name
list_any-texts name [] = refl
list_any-texts name (k ∷ ks) = ap (λ b. bytes_eq name k.now || b) (list_any-texts name ks)

texts-append : (xs ys : List (Bor (List ℕ))) → texts (xs ++ ys) ≡ texts xs ++ texts ys
texts-append [] ys = refl
texts-append (x ∷ xs) ys = ap (λ l. x.now ∷ l) (texts-append xs ys)

pub texts-insert_key : (ks : List (Bor (List ℕ))) (k : Bor (List ℕ)) → texts (insert_key (λ (a b : Bor (List ℕ)). bytes_eq a.now b.now) ks k) ≡ (if has_name (texts ks) k.now then texts ks else texts ks ++ k.now ∷ [])
texts-insert_key ks k = by (list_any (λ (b : Bor (List ℕ)). bytes_eq k.now b.now) ks) (has_name (texts ks) k.now) refl (list_any-texts k.now ks)
  where
    by : (a b : Bool) → list_any (λ (b : Bor (List ℕ)). bytes_eq k.now b.now) ks ≡ a → a ≡ b → texts (if a then ks else ks ++ k ∷ []) ≡ (if b then texts ks else texts ks ++ k.now ∷ [])
    by true true e f = refl
    by true false e f = absurd (cc)
    by false true e f = absurd (cc)
    by false false e f = texts-append ks (k ∷ [])

-- a list of names without repetition goes on with a new one
pub not_before : (before names : List (List ℕ)) (name : List ℕ) → repeated_after before (name ∷ names) ≡ None → (has_name before name ≡ false) × (repeated_after (before ++ name ∷ []) names ≡ None)
not_before before names name h = by (has_name before name) refl
  where
    by : (b : Bool) → has_name before name ≡ b → (has_name before name ≡ false) × (repeated_after (before ++ name ∷ []) names ≡ None)
    by true e = let no : Some name ≡ None = sym (ap (λ b. if b then Some name else repeated_after (before ++ name ∷ []) names) e) ∙ h in absurd (cc)
    by false e = (e, sym (ap (λ b. if b then Some name else repeated_after (before ++ name ∷ []) names) e) ∙ h)
