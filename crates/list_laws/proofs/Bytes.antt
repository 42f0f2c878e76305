-- The test by which bytes are compared.
use Rattle.std.proofs.Common.{◌≡◌, ℕ, Bool, true, false, List, refl, sym, ap, ◌∙◌}
use Rattle.std.specs.Str.{bytes_eq}
use Rattle.std.proofs.lemmas.Slice.Eq.{bytes_eq-Decides}

pub bytes_eq-same : (name : List ℕ) → bytes_eq name name ≡ true
bytes_eq-same name = (bytes_eq-Decides name name).1 refl

pub bytes_eq-sym : (a b : List ℕ) → bytes_eq a b ≡ bytes_eq b a
bytes_eq-sym a b = by (bytes_eq a b) (bytes_eq b a) refl refl
  where
    same : (x y : List ℕ) → bytes_eq x y ≡ true → x ≡ y
    same x y h = (bytes_eq-Decides x y).0 h

    by : (x y : Bool) → bytes_eq a b ≡ x → bytes_eq b a ≡ y → x ≡ y
    by true true e f = refl
    by false false e f = refl
    by true false e f = let no : true ≡ false = sym (bytes_eq-same a) ∙ ap (λ (n : List ℕ). bytes_eq n a) (same a b e) ∙ f in absurd (cc)
    by false true e f = let no : true ≡ false = sym (bytes_eq-same a) ∙ ap (λ (n : List ℕ). bytes_eq a n) (sym (same b a f)) ∙ e in absurd (cc)
