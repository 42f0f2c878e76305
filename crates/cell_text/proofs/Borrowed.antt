-- Lists of borrowed words, by the bytes of the words.
use Rattle.std.proofs.Common.{◌≡◌, ℕ, zero, suc, List, [], ◌∷◌, ◌++◌, take, drop, length, slice_get, slice_index_or, get_or, position, nat_lt, ◌+◌, ◌&&◌, Bool, not, cond, ◌<◌, ◌≤◌, Some, None, Bor, refl, ap, ◌∙◌, arith}
use Rattle.std.specs.List.{list_all, position_or_len}
use Rattle.texts.specs.Repeated.{texts}

pub texts_append : (xs ys : List (Bor (List ℕ))) → texts (xs ++ ys) ≡ texts xs ++ texts ys
texts_append [] ys = refl
texts_append (x ∷ xs) ys = ap (λ (l : List (List ℕ)). x.now ∷ l) (texts_append xs ys)

pub texts_take : (n : ℕ) (xs : List (Bor (List ℕ))) → texts (take n xs) ≡ take n (texts xs)
texts_take zero xs = refl
texts_take (suc n) [] = refl
texts_take (suc n) (x ∷ xs) = ap (λ (l : List (List ℕ)). x.now ∷ l) (texts_take n xs)

pub texts_drop : (n : ℕ) (xs : List (Bor (List ℕ))) → texts (drop n xs) ≡ drop n (texts xs)
texts_drop zero xs = refl
texts_drop (suc n) [] = refl
texts_drop (suc n) (x ∷ xs) = texts_drop n xs

pub texts_length : (xs : List (Bor (List ℕ))) → length (texts xs) ≡ length xs
texts_length [] = refl
texts_length (x ∷ xs) = ap suc (texts_length xs)

pub text_at : (xs : List (Bor (List ℕ))) (k : ℕ) (x : Bor (List ℕ)) → slice_get xs k ≡ Some x → slice_get (texts xs) k ≡ Some x.now
text_at [] k x at = absurd (cc)
text_at (y ∷ xs) zero x at = let same : y ≡ x = cc in ap (λ (b : Bor (List ℕ)). Some b.now) same
text_at (y ∷ xs) (suc k) x at = text_at xs k x at

pub index_at : (ws : List (List ℕ)) (k : ℕ) (w : List ℕ) → slice_get ws k ≡ Some w → slice_index_or ws k [] ≡ w
index_at [] k w at = absurd (cc)
index_at (y ∷ ws) zero w at = cc
index_at (y ∷ ws) (suc k) w at = index_at ws k w at

pub all_texts : (p : List ℕ → Bool) (xs : List (Bor (List ℕ))) → list_all p (texts xs) ≡ list_all (λ (x : Bor (List ℕ)). p x.now) xs
all_texts p [] = refl
all_texts p (x ∷ xs) = ap (λ (b : Bool). p x.now && b) (all_texts p xs)

place_texts : (p : List ℕ → Bool) (xs : List (Bor (List ℕ))) → position_or_len p (texts xs) ≡ position_or_len (λ (x : Bor (List ℕ)). p x.now) xs
place_texts p [] = refl
place_texts p (x ∷ xs) = ap (λ (n : ℕ). cond (not (p x.now)) (1 + n) 0) (place_texts p xs)

pub position_texts : (p : List ℕ → Bool) (xs : List (Bor (List ℕ))) → position p (texts xs) ≡ position (λ (x : Bor (List ℕ)). p x.now) xs
position_texts p xs =
    ap (λ (n : ℕ). cond (nat_lt n (length (texts xs))) (Some n) None) (place_texts p xs)
    ∙ ap (λ (m : ℕ). cond (nat_lt (position_or_len (λ (x : Bor (List ℕ)). p x.now) xs) m) (Some (position_or_len (λ (x : Bor (List ℕ)). p x.now) xs)) None) (texts_length xs)

pub there_at : (xs : List (Bor (List ℕ))) (k : ℕ) (d : Bor (List ℕ)) → k < length xs → slice_get xs k ≡ Some (slice_index_or xs k d)
there_at [] k d low = absurd (omega arith)
there_at (x ∷ xs) zero d low = refl
there_at (x ∷ xs) (suc k) d low = there_at xs k d (omega arith)

pub past : {X : Type 0} (xs : List X) (k : ℕ) → length xs ≤ k → slice_get xs k ≡ None
past [] k all = refl
past (x ∷ xs) zero all = absurd (omega arith)
past (x ∷ xs) (suc k) all = past xs k (omega arith)

pub item_at : {X : Type 0} (xs : List X) (k : ℕ) (d : X) → k < length xs → slice_get xs k ≡ Some (get_or xs k d)
item_at [] k d low = absurd (omega arith)
item_at (x ∷ xs) zero d low = refl
item_at (x ∷ xs) (suc k) d low = item_at xs k d (omega arith)

pub word_at : (xs : List (Bor (List ℕ))) (k : ℕ) (d : Bor (List ℕ)) → k < length xs → slice_get (texts xs) k ≡ Some (get_or xs k d).now
word_at xs k d low = text_at xs k (get_or xs k d) (item_at xs k d low)
