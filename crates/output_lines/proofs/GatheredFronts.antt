-- What was given over time, and what is still to be given.
use Rattle.std.proofs.Common.{◌≡◌, ℕ, zero, suc, List, [], ◌∷◌, ◌++◌, length, take, drop, Option, Some, None, refl, ap, ◌∙◌, append_assoc}
use Rattle.std.proofs.lemmas.Option.{same_Some}
use Rattle.edge_io.specs.Shelf.{appended}
use Rattle.output_lines.specs.GatheredLaws.{HasGrown}

front_keeps : (a b more : List ℕ) → take (length a) b ≡ a → take (length a) (b ++ more) ≡ a
front_keeps [] b more h = refl
front_keeps (x ∷ a) [] more h = absurd (cc)
front_keeps (x ∷ a) (y ∷ b) more h =
    let head : y ≡ x = cc in
    let tail : take (length a) b ≡ a = cc in
    ap (λ (z : ℕ). z ∷ take (length a) (b ++ more)) head ∙ ap (λ (l : List ℕ). x ∷ l) (front_keeps a b more tail)

-- more was given
pub grown_more : (first now : Option (List ℕ)) (more : List ℕ) → HasGrown first now → HasGrown first (appended more now)
grown_more first None more h = h
grown_more None (Some b) more h = absurd (cc)
grown_more (Some a) (Some b) more h = ap (λ (l : List ℕ). Some l) (front_keeps a b more (same_Some (take (length a) b) a h))

-- what goes on from another list
split : (a b rest t : List ℕ) → take (length a) b ≡ a → b ++ rest ≡ a ++ t → (m : List ℕ) × (b ≡ a ++ m) × (m ++ rest ≡ t)
split [] b rest t h e = (b, refl, e)
split (x ∷ a) [] rest t h e = absurd (cc)
split (x ∷ a) (y ∷ b) rest t h e =
    let head : y ≡ x = cc in
    let tail : take (length a) b ≡ a = cc in
    let more : b ++ rest ≡ a ++ t = cc in
    let r = split a b rest t tail more in
    (r.0, ap (λ (z : ℕ). z ∷ b) head ∙ ap (λ (l : List ℕ). x ∷ l) r.1, r.2)

front_of : (m rest text : List ℕ) (k : ℕ) → m ++ rest ≡ take k text → m ≡ take (length m) text
front_of [] rest text k h = refl
front_of (x ∷ m) rest [] zero h = absurd (cc)
front_of (x ∷ m) rest [] (suc k) h = absurd (cc)
front_of (x ∷ m) rest (y ∷ text) zero h = absurd (cc)
front_of (x ∷ m) rest (y ∷ text) (suc k) h =
    let head : x ≡ y = cc in
    let tail : m ++ rest ≡ take k text = cc in
    ap (λ (z : ℕ). z ∷ m) head ∙ ap (λ (l : List ℕ). y ∷ l) (front_of m rest text k tail)

-- Where what was given and what is gathered are a front of the text, so is what was given.
pub given_front : (first now : Option (List ℕ)) (rest text : List ℕ) (k : ℕ) → HasGrown first now → appended rest now ≡ appended (take k text) first
    → (n : ℕ) × (now ≡ appended (take n text) first)
given_front None None rest text k h e = (0, refl)
given_front (Some a) None rest text k h e = absurd (cc)
given_front None (Some b) rest text k h e = absurd (cc)
given_front (Some a) (Some b) rest text k h e =
    let r = split a b rest (take k text) (same_Some (take (length a) b) a h) (same_Some (b ++ rest) (a ++ take k text) e) in
    (length r.0, ap (λ (l : List ℕ). Some l) (r.1 ∙ ap (λ (l : List ℕ). a ++ l) (front_of r.0 rest text k r.2)))

halves : (n : ℕ) (xs : List ℕ) → take n xs ++ drop n xs ≡ xs
halves zero [] = refl
halves zero (x ∷ xs) = refl
halves (suc n) [] = refl
halves (suc n) (x ∷ xs) = ap (λ (l : List ℕ). x ∷ l) (halves n xs)

-- a front was given, and the rest is gathered
pub appended_halves : (n : ℕ) (xs : List ℕ) (told now : Option (List ℕ)) → now ≡ appended (take n xs) told → appended (drop n xs) now ≡ appended xs told
appended_halves n xs None now is = ap (appended (drop n xs)) is
appended_halves n xs (Some b) now is =
    ap (appended (drop n xs)) is ∙ ap (λ (l : List ℕ). Some l) (append_assoc b (take n xs) (drop n xs) ∙ ap (λ (l : List ℕ). b ++ l) (halves n xs))
