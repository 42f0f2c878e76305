-- Words that tell one of some values.
use Rattle.std.proofs.Common.{◌≡◌, ℕ, Bool, true, false, List, [], ◌∷◌, map, Option, Some, None, refl, sym, ap, subst, ◌∙◌, inl, inr, ◌⊎◌}
use Rattle.std.specs.Str.{bytes_eq}
use Rattle.std.proofs.lemmas.Slice.Eq.{bytes_eq-Decides}
use Rattle.bsdl_lexicon.specs.Names.{lower, is_same_name}
use Rattle.bsdl_device.specs.Runs.{ContentWord, Run, Other, KeyRun, Fits, key_in}
use Rattle.bsdl_device.specs.Readers.{take_at}
use Rattle.bsdl_device.specs.Files.{or_next}
use Rattle.bsdl_device.proofs.Exact.{Exact, Anything}
use Rattle.bsdl_device.proofs.Matched.{Spelled, spelled_take}
use Rattle.bsdl_device.proofs.Views.{Free, seen}
use Rattle.bsdl_contents.specs.Reader.{among}

-- one word is no other
key_differs : (a b : List ℕ) → is_same_name a b ≡ false → (w : ContentWord) → key_in a w ≡ Some tt → key_in b w ≡ None
key_differs a b other (Run n) h = go (is_same_name n a) refl h
  where
    go : (t : Bool) → is_same_name n a ≡ t → seen t ≡ Some tt → key_in b (Run n) ≡ None
    go true e k =
        let same : map lower n ≡ map lower a = (bytes_eq-Decides (map lower n) (map lower a)).0 e in
        ap (λ (l : List ℕ). seen (bytes_eq l (map lower b))) same ∙ ap (λ (t : Bool). seen t) other
    go false e k = absurd (cc)
key_differs a b other (Other v) h = absurd (cc)

-- a value stands in the list, behind values of other words alone
abbrev pub Leads : {X : Type 0} → (X → List ℕ) → X → List X → Type 0
Leads word x [] = ⊥
Leads word x (y ∷ ys) = (x ≡ y) ⊎ ((is_same_name (word x) (word y) ≡ false) × Leads word x ys)

among_there : {X : Type 0} (word : X → List ℕ) (xs : List X) (x : X) (w : ContentWord) → among word xs w ≡ Some x → key_in (word x) w ≡ Some tt
among_there {X} word [] x w h = absurd (cc)
among_there {X} word (y ∷ ys) x w h = go (key_in (word y) w) refl h (λ k. among_there word ys x w k)
  where
    go : (o : Option (Unit {0})) → key_in (word y) w ≡ o → or_next o y (among word ys w) ≡ Some x → (among word ys w ≡ Some x → key_in (word x) w ≡ Some tt) → key_in (word x) w ≡ Some tt
    go None e k rest = rest k
    go (Some u) e k rest = let same : y ≡ x = cc in subst (λ (z : X). key_in (word z) w ≡ Some tt) same e

among_back : {X : Type 0} (word : X → List ℕ) (xs : List X) (x : X) (w : ContentWord) → Leads word x xs → key_in (word x) w ≡ Some tt → among word xs w ≡ Some x
among_back {X} word [] x w l h = absurd l
among_back {X} word (y ∷ ys) x w (inl e) h =
    ap (λ (z : X). or_next (key_in (word z) w) z (among word ys w)) (sym e)
    ∙ ap (λ (o : Option (Unit {0})). or_next o x (among word ys w)) h
among_back {X} word (y ∷ ys) x w (inr l) h =
    ap (λ (o : Option (Unit {0})). or_next o y (among word ys w)) (key_differs (word x) (word y) l.0 w h)
    ∙ among_back word ys x w l.1 h

pub among_law : {X : Type 0} (word : X → List ℕ) (xs : List X) → ((x : X) → Leads word x xs) → Exact ContentWord X (λ ws. take_at (among word xs) ws) (Spelled Fits Free (λ x. KeyRun (word x) ∷ [])) Anything
among_law word xs leads = spelled_take Fits (among word xs) (λ x. KeyRun (word x)) (λ x w h. among_there word xs x w h) (λ x w h. among_back word xs x w (leads x) h)
