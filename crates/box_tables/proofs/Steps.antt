-- What is gathered along a list, one element after another.
use Rattle.std.proofs.Common.{◌≡◌, ℕ, ◌+◌, ◌<◌, ◌≤◌, take, slice_get, Bool, true, false, cond, List, [], ◌∷◌, ◌++◌, length, drop, get_or, filter, map, Option, Some, add-one, drop-cons, append_assoc, append-nil, refl, sym, ap, ◌∙◌}
use Rattle.std.specs.List.{flat_map, filter_map}
use Rattle.std.proofs.lemmas.List.Elements.{filter_map-append}
use Rattle.list_laws.proofs.Lists.{none_left, taken_more, map_push}

-- what is left of a list, by its next element
pub left_next : {X : Type 0} (xs : List X) (i : ℕ) (x : X) → i < length xs → x ≡ get_or xs i x → drop i xs ≡ x ∷ drop (i + 1) xs
left_next {X} xs i x low is = front ∙ ap (λ (y : X). y ∷ drop (i + 1) xs) (sym is)
  where
    front : drop i xs ≡ get_or xs i x ∷ drop (i + 1) xs
    front = rw (add-one, drop-cons xs i x)

module _ {X Y : Type 0} (g : List X → List Y) (h : X → List Y) (step : (x : X) (xs : List X) → g (x ∷ xs) ≡ h x ++ g xs) where
  -- behind what was gathered stands what one more gives
  pub gathered_next : (xs : List X) (i : ℕ) (x : X) (old new all : List Y) → i < length xs → x ≡ get_or xs i x → old ++ g (drop i xs) ≡ all → new ≡ old ++ h x → new ++ g (drop (i + 1) xs) ≡ all
  gathered_next xs i x old new all low is was made =
      ap (λ (l : List Y). l ++ g (drop (i + 1) xs)) made
      ∙ append_assoc old (h x) (g (drop (i + 1) xs))
      ∙ ap (λ (l : List Y). old ++ l) (sym (step x (drop (i + 1) xs)) ∙ ap g (sym (left_next xs i x low is)))
      ∙ was

  pub gathered_end : g [] ≡ [] → (xs : List X) (i : ℕ) (old all : List Y) → length xs ≤ i → old ++ g (drop i xs) ≡ all → old ≡ all
  gathered_end none xs i old all low was = sym (append-nil old) ∙ ap (λ (l : List Y). old ++ l) (sym (ap g (none_left xs i low) ∙ none)) ∙ was

pub flat_step : {X Y : Type 0} (f : X → List Y) (x : X) (xs : List X) → flat_map f (x ∷ xs) ≡ f x ++ flat_map f xs
flat_step f x xs = refl

pub map_step : {X Y : Type 0} (f : X → Y) (x : X) (xs : List X) → map f (x ∷ xs) ≡ (f x ∷ []) ++ map f xs
map_step f x xs = refl

pub filter_step : {X : Type 0} (test : X → Bool) (x : X) (xs : List X) → filter test (x ∷ xs) ≡ filter test (x ∷ []) ++ filter test xs
filter_step {X} test x xs = by (test x)
  where
    by : (b : Bool) → cond b (x ∷ filter test xs) (filter test xs) ≡ cond b (x ∷ []) [] ++ filter test xs
    by true = refl
    by false = refl

pub filter_map_step : {X Y : Type 0} (f : X → Option Y) (x : X) (xs : List X) → filter_map f (x ∷ xs) ≡ filter_map f (x ∷ []) ++ filter_map f xs
filter_map_step f x xs = filter_map-append f (x ∷ []) xs

-- one element more, of a front that is mapped
pub mapped_more : {X Y : Type 0} (f : X → Y) (xs : List X) (i : ℕ) (x : X) (front new : List Y) → slice_get xs i ≡ Some x → front ≡ map f (take i xs) → new ≡ front ++ f x ∷ [] → new ≡ map f (take (i + 1) xs)
mapped_more {X} {Y} f xs i x front new at so_far grown =
    let more : take i xs ++ x ∷ [] ≡ take (i + 1) xs = taken_more xs i x (take i xs) (take i xs ++ x ∷ []) at refl refl in
    grown ∙ ap (λ (l : List Y). l ++ f x ∷ []) so_far ∙ sym (map_push f (take i xs) x) ∙ ap (map f) more
