-- What is given in pieces.
use Rattle.std.proofs.Common.{◌≡◌, ℕ, suc, zero, ◌+◌, ◌<◌, List, [], ◌∷◌, ◌++◌, length, take, drop, get_or, Option, Some, None, refl, sym, ap, ◌∙◌, arith, append_assoc, append-nil}
use Rattle.std.proofs.Math.Seq.{take-append-add}
use Rattle.std.specs.List.{flat_map}
use Rattle.edge_io.specs.Shelf.{appended}

-- the text of a list of parts, at one of them
pub flat_map-at : {X : Type 0} (f : X → List ℕ) (xs : List X) (i : ℕ) (d : X) → i < length xs
    → flat_map f xs ≡ flat_map f (take i xs) ++ (f (get_or xs i d) ++ flat_map f (drop (suc i) xs))
flat_map-at f [] i d within = absurd (omega arith)
flat_map-at f (x ∷ xs) zero d within = refl
flat_map-at f (x ∷ xs) (suc i) d within =
    ap (λ (l : List ℕ). f x ++ l) (flat_map-at f xs i d (omega arith)) ∙ sym (append_assoc (f x) (flat_map f (take i xs)) (f (get_or xs i d) ++ flat_map f (drop (suc i) xs)))

-- as many bytes as the front of the first part has
pub take-front : (k : ℕ) (part rest : List ℕ) → take (length (take k part)) (part ++ rest) ≡ take k part
take-front zero part rest = refl
take-front (suc k) [] rest = refl
take-front (suc k) (x ∷ part) rest = ap (λ (l : List ℕ). x ∷ l) (take-front k part rest)

-- the parts before this one, and then the front of this one, are a front of the whole
pub appended-front : (told : Option (List ℕ)) (before part rest : List ℕ) (k : ℕ)
    → appended (take k part) (appended before told) ≡ appended (take (length before + length (take k part)) (before ++ (part ++ rest))) told
appended-front None before part rest k = refl
appended-front (Some bytes) before part rest k =
    ap (λ (l : List ℕ). Some l) (append_assoc bytes before (take k part)
    ∙ ap (λ (l : List ℕ). bytes ++ l) (sym (take-append-add before (part ++ rest) (length (take k part)) ∙ ap (λ (l : List ℕ). before ++ l) (take-front k part rest))))

-- A part was refused: what was given is a front of the whole.
pub front-of_parts : {X : Type 0} (f : X → List ℕ) (xs : List X) (i : ℕ) (d : X) (told mid now : Option (List ℕ)) (k : ℕ) → i < length xs
    → mid ≡ appended (flat_map f (take i xs)) told → now ≡ appended (take k (f (get_or xs i d))) mid → (n : ℕ) × (now ≡ appended (take n (flat_map f xs)) told)
front-of_parts f xs i d told mid now k within so_far last =
    let part : List ℕ = f (get_or xs i d) in
    let before : List ℕ = flat_map f (take i xs) in
    let after : List ℕ = flat_map f (drop (suc i) xs) in (
      length before + length (take k part),
      last ∙ ap (appended (take k part)) so_far ∙ appended-front told before part after k
          ∙ ap (λ (l : List ℕ). appended (take (length before + length (take k part)) l) told) (sym (flat_map-at f xs i d within)),
    )

-- Three parts, of which one was refused: what was given is a front of the whole.

pub front-of_first : (a b c : List ℕ) (told now : Option (List ℕ)) (k : ℕ) → now ≡ appended (take k a) told
    → (n : ℕ) × (now ≡ appended (take n (a ++ (b ++ c))) told)
front-of_first a b c told now k last = (length (take k a), last ∙ ap (λ (l : List ℕ). appended l told) (sym (take-front k a (b ++ c))))

pub front-of_second : (a b c : List ℕ) (told mid now : Option (List ℕ)) (k : ℕ) → mid ≡ appended a told → now ≡ appended (take k b) mid
    → (n : ℕ) × (now ≡ appended (take n (a ++ (b ++ c))) told)
front-of_second a b c told mid now k first last =
    (length a + length (take k b), last ∙ ap (appended (take k b)) first ∙ appended-front told a b c k)

-- what is added twice
pub appended-twice : (told : Option (List ℕ)) (a b : List ℕ) → appended b (appended a told) ≡ appended (a ++ b) told
appended-twice None a b = refl
appended-twice (Some bytes) a b = ap (λ (l : List ℕ). Some l) (append_assoc bytes a b)

pub front-of_third : (a b c : List ℕ) (told mid late now : Option (List ℕ)) (k : ℕ) → mid ≡ appended a told → late ≡ appended b mid → now ≡ appended (take k c) late
    → (n : ℕ) × (now ≡ appended (take n (a ++ (b ++ c))) told)
front-of_third a b c told mid late now k first second last =
    let whole = front-of_second (a ++ b) c [] told late now k (second ∙ ap (appended b) first ∙ appended-twice told a b) last in (
      whole.0,
      whole.1 ∙ ap (λ (l : List ℕ). appended (take whole.0 l) told) (append_assoc a b (c ++ []) ∙ ap (λ (l : List ℕ). a ++ (b ++ l)) (append-nil c)),
    )
