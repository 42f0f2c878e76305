-- One element more of lists that are numbered, or made piece by piece.
use Rattle.std.proofs.Common.{◌≡◌, ℕ, zero, suc, ◌+◌, ◌-◌, ◌<◌, ◌≤◌, List, [], ◌∷◌, ◌++◌, map, length, take, drop, get_or, refl, sym, ap, ◌∙◌, add-one, arith}
use Rattle.std.specs.List.{enumerate_from, flat_map}
use Rattle.std.proofs.lemmas.List.{append_assoc, append-nil, map-append, length-map, take_all, take_more}
use Rattle.std.proofs.lemmas.List.Concat.{flat_map-append}
use Rattle.std.proofs.lemmas.List.FromFn.{length-enumerate_from, get_or-enumerate_from}
use Rattle.bsdl_device.specs.Ports.{counted_from}

numbered_more : {X : Type 0} (xs : List X) (i : ℕ) (d : X) → i < length xs → take (i + 1) (enumerate_from 0 xs) ≡ take i (enumerate_from 0 xs) ++ (i, get_or xs i d) ∷ []
numbered_more xs i d h =
    let long : i < length (enumerate_from 0 xs) = let e = length-enumerate_from 0 xs in omega (arith, h, e) in
    take_more (enumerate_from 0 xs) i (0, d) long
    ∙ ap (λ p. take i (enumerate_from 0 xs) ++ p ∷ []) (get_or-enumerate_from 0 xs i (0, d) h ∙ ap (λ (n : ℕ). (n, get_or xs i d)) (let e : 0 + i ≡ i = omega arith in e))

numbered_all : {X : Type 0} (xs : List X) (i : ℕ) → length xs ≤ i → take i (enumerate_from 0 xs) ≡ enumerate_from 0 xs
numbered_all xs i h = take_all i (enumerate_from 0 xs) (let e = length-enumerate_from 0 xs in omega (arith, h, e))

-- one more of pieces that are joined
pub pieces_more : {X Y : Type 0} (f : ℕ × X → List Y) (xs : List X) (i : ℕ) (d : X) → i < length xs
    → flat_map f (take (i + 1) (enumerate_from 0 xs)) ≡ flat_map f (take i (enumerate_from 0 xs)) ++ f (i, get_or xs i d)
pieces_more f xs i d h =
    ap (flat_map f) (numbered_more xs i d h) ∙ flat_map-append f (take i (enumerate_from 0 xs)) ((i, get_or xs i d) ∷ [])
    ∙ ap (λ l. flat_map f (take i (enumerate_from 0 xs)) ++ l) (append-nil (f (i, get_or xs i d)))

pub pieces_all : {X Y : Type 0} (f : ℕ × X → List Y) (xs : List X) (i : ℕ) → length xs ≤ i → flat_map f (take i (enumerate_from 0 xs)) ≡ flat_map f (enumerate_from 0 xs)
pieces_all f xs i h = ap (flat_map f) (numbered_all xs i h)

-- the same along a list that is these
pub pieces_step : {X Y : Type 0} (f : ℕ × X → List Y) (xs ys : List X) (i : ℕ) (d : X) (front done next : List Y) → ys ≡ xs → i < length ys
    → done ≡ front ++ flat_map f (take i (enumerate_from 0 xs)) → next ≡ done ++ f (i, get_or ys i d) → next ≡ front ++ flat_map f (take (i + 1) (enumerate_from 0 xs))
pieces_step {X} f xs ys i d front done next same h e more =
    let within : i < length xs = let l = ap length same in omega (arith, h, l) in
    more ∙ ap (λ l. l ++ f (i, get_or ys i d)) e
    ∙ append_assoc front (flat_map f (take i (enumerate_from 0 xs))) (f (i, get_or ys i d))
    ∙ ap (λ l. front ++ l) (ap (λ (zs : List X). flat_map f (take i (enumerate_from 0 xs)) ++ f (i, get_or zs i d)) same ∙ sym (pieces_more f xs i d within))

-- and of images
pub images_more : {X Y : Type 0} (f : ℕ × X → Y) (xs : List X) (i : ℕ) (d : X) → i < length xs
    → map f (take (i + 1) (enumerate_from 0 xs)) ≡ map f (take i (enumerate_from 0 xs)) ++ f (i, get_or xs i d) ∷ []
images_more f xs i d h = ap (map f) (numbered_more xs i d h) ∙ map-append f (take i (enumerate_from 0 xs)) ((i, get_or xs i d) ∷ [])

pub images_all : {X Y : Type 0} (f : ℕ × X → Y) (xs : List X) (i : ℕ) → length xs ≤ i → map f (take i (enumerate_from 0 xs)) ≡ map f (enumerate_from 0 xs)
images_all f xs i h = ap (map f) (numbered_all xs i h)

pub counted_more : {Y : Type 0} (f : ℕ → Y) (done : List Y) (i n : ℕ) (all : List Y) → i < n → done ++ map f (counted_from i (n - i)) ≡ all
    → (done ++ f i ∷ []) ++ map f (counted_from (i + 1) (n - (i + 1))) ≡ all
counted_more f done i n all h e =
    let s : n - i ≡ suc (n - (i + 1)) = omega arith in
    append_assoc done (f i ∷ []) (map f (counted_from (i + 1) (n - (i + 1))))
    ∙ ap (λ (k : ℕ). done ++ f i ∷ map f (counted_from k (n - (i + 1)))) (add-one i)
    ∙ sym (ap (λ (k : ℕ). done ++ map f (counted_from i k)) s) ∙ e

pub counted_end : {Y : Type 0} (f : ℕ → Y) (done : List Y) (i n : ℕ) (all : List Y) → n ≤ i → done ++ map f (counted_from i (n - i)) ≡ all → done ≡ all
counted_end f done i n all h e =
    let z : n - i ≡ 0 = omega arith in sym (append-nil done) ∙ sym (ap (λ (k : ℕ). done ++ map f (counted_from i k)) z) ∙ e

abbrev pub numbers : {X : Type 0} → ℕ → List X → List ℕ
numbers n xs = map (λ row. row.0) (enumerate_from n xs)

numbers-drop : {X : Type 0} (xs : List X) (k n : ℕ) → k < length xs → numbers n (drop k xs) ≡ n ∷ numbers (n + 1) (drop (suc k) xs)
numbers-drop [] k n h = absurd (omega (arith, h))
numbers-drop (x ∷ xs) zero n h = refl
numbers-drop (x ∷ xs) (suc k) n h = numbers-drop xs k n (omega (arith, h))

-- the numbers of lines, of which the first is 2
pub numbers_more : {X : Type 0} (xs : List X) (done : List ℕ) (n : ℕ) (all : List ℕ) → 2 ≤ n → n < length xs + 2 → done ++ numbers n (drop (n - 2) xs) ≡ all
    → (done ++ n ∷ []) ++ numbers (n + 1) (drop (n + 1 - 2) xs) ≡ all
numbers_more xs done n all low h e =
    let s : n + 1 - 2 ≡ suc (n - 2) = omega arith in
    append_assoc done (n ∷ []) (numbers (n + 1) (drop (n + 1 - 2) xs))
    ∙ ap (λ (k : ℕ). done ++ n ∷ numbers (n + 1) (drop k xs)) s
    ∙ ap (λ (l : List ℕ). done ++ l) (sym (numbers-drop xs (n - 2) n (omega (arith, low, h)))) ∙ e

numbers-none : {X : Type 0} (xs : List X) (k n : ℕ) → length xs ≤ k → numbers n (drop k xs) ≡ []
numbers-none [] zero n h = refl
numbers-none [] (suc k) n h = refl
numbers-none (x ∷ xs) zero n h = absurd (omega (arith, h))
numbers-none (x ∷ xs) (suc k) n h = numbers-none xs k n (omega (arith, h))

pub numbers_end : {X : Type 0} (xs : List X) (done : List ℕ) (n : ℕ) (all : List ℕ) → length xs + 2 ≤ n → done ++ numbers n (drop (n - 2) xs) ≡ all → done ≡ all
numbers_end xs done n all h e = sym (append-nil done) ∙ ap (λ (l : List ℕ). done ++ l) (sym (numbers-none xs (n - 2) n (omega (arith, h)))) ∙ e

pub images_step : {X Y : Type 0} (f : ℕ × X → Y) (xs ys : List X) (i : ℕ) (d : X) (done next : List Y) → ys ≡ xs → i < length ys
    → done ≡ map f (take i (enumerate_from 0 xs)) → next ≡ done ++ f (i, get_or ys i d) ∷ [] → next ≡ map f (take (i + 1) (enumerate_from 0 xs))
images_step {X} f xs ys i d done next same h e more =
    let within : i < length xs = let l = ap length same in omega (arith, h, l) in
    more ∙ ap (λ l. l ++ f (i, get_or ys i d) ∷ []) e
    ∙ ap (λ (zs : List X). map f (take i (enumerate_from 0 xs)) ++ f (i, get_or zs i d) ∷ []) same ∙ sym (images_more f xs i d within)

pub images_length : {X Y : Type 0} (f : ℕ × X → Y) (xs : List X) (done : List Y) (i : ℕ) → length xs ≤ i → done ≡ map f (take i (enumerate_from 0 xs)) → length done ≡ length xs
images_length f xs done i h e = ap length (e ∙ images_all f xs i h) ∙ length-map (enumerate_from 0 xs) f ∙ length-enumerate_from 0 xs
