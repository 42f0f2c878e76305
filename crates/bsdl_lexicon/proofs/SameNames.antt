use Rattle.std.proofs.Common.{◌≡◌, ℕ, ◌<◌, ◌≤◌, List, length, map, take, get_or, true, false, Bool, refl, sym, ap, ◌∙◌}
use Rattle.std.proofs.lemmas.List.{get_or-map, take_all}
use Rattle.std.proofs.lemmas.Slice.Eq.{bytes_eq-Decides}
use Rattle.bsdl_lexicon.specs.Names.{lower, same_name, is_same_name}

-- what the test says

pub is_same_name-true : (a b : List ℕ) → same_name a b → is_same_name a b ≡ true
is_same_name-true a b same = (bytes_eq-Decides (map lower a) (map lower b)).1 same

pub same_name-true : (a b : List ℕ) → is_same_name a b ≡ true → same_name a b
same_name-true a b test = (bytes_eq-Decides (map lower a) (map lower b)).0 test

pub is_same_name-false : (a b : List ℕ) → (same_name a b → ⊥) → is_same_name a b ≡ false
is_same_name-false a b apart = other (is_same_name a b) (λ test. apart (same_name-true a b test)) where
  other : (t : Bool) → (t ≡ true → ⊥) → t ≡ false
  other true never = absurd (never refl)
  other false never = refl

pub same_turned : (a b : List ℕ) → is_same_name a b ≡ is_same_name b a
same_turned a b = by (is_same_name a b) refl (is_same_name b a) refl
  where
    by : (x : Bool) → is_same_name a b ≡ x → (y : Bool) → is_same_name b a ≡ y → is_same_name a b ≡ is_same_name b a
    by true h true k = h ∙ sym k
    by false h false k = h ∙ sym k
    by true h false k = let back : is_same_name b a ≡ true = is_same_name-true b a (sym (same_name-true a b h)) in absurd (cc)
    by false h true k = let back : is_same_name a b ≡ true = is_same_name-true a b (sym (same_name-true b a k)) in absurd (cc)

-- two names that differ at a place are not one
pub differs_at : (a b : List ℕ) (i : ℕ) → i < length a → i < length b → (lower (get_or a i 0) ≡ lower (get_or b i 0) → ⊥) → same_name a b → ⊥
differs_at a b i in_a in_b apart same =
    apart (sym (get_or-map lower a i 0 0 in_a) ∙ ap (λ (l : List ℕ). get_or l i 0) same ∙ get_or-map lower b i 0 0 in_b)

-- two names that agree as far as they go are one
pub same_whole : (a b : List ℕ) (i : ℕ) → length a ≤ i → length b ≤ i → map lower (take i a) ≡ map lower (take i b) → same_name a b
same_whole a b i past_a past_b same =
    ap (map lower) (sym (take_all i a past_a)) ∙ same ∙ ap (map lower) (take_all i b past_b)
