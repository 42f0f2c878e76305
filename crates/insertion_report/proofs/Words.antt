-- Words that are put behind others.
use Rattle.std.proofs.Common.{◌≡◌, ℕ, List, [], ◌∷◌, ◌++◌, Result, Ok, Err, OnOk, ap, sym, ◌∙◌}
use Rattle.std.specs.List.{flat_map}
use Rattle.std.proofs.lemmas.Grind.{flat_map-append}
use Rattle.std.proofs.lemmas.List.{append_assoc, append-nil}
use Rattle.output_lines.specs.Lines.{blank_word}

-- some words, and then more
behind : (t u v : List ℕ) (some more : List (List ℕ)) → u ≡ t ++ flat_map blank_word some → v ≡ u ++ flat_map blank_word more → v ≡ t ++ flat_map blank_word (some ++ more)
behind t u v some more first second =
    second ∙ ap (λ (l : List ℕ). l ++ flat_map blank_word more) first ∙ append_assoc t (flat_map blank_word some) (flat_map blank_word more)
    ∙ ap (λ (l : List ℕ). t ++ l) (sym (flat_map-append blank_word some more))

two_words : (a x : List ℕ) → blank_word a ++ blank_word x ≡ flat_map blank_word (a ∷ x ∷ [])
two_words a x = ap (λ (l : List ℕ). blank_word a ++ l) (sym (append-nil (blank_word x)))

two_behind : (t u : List ℕ) (a x : List ℕ) → u ≡ t ++ (blank_word a ++ blank_word x) → u ≡ t ++ flat_map blank_word (a ∷ x ∷ [])
two_behind t u a x is = is ∙ ap (λ (l : List ℕ). t ++ l) (two_words a x)

-- three registers, each with its size
pub three_sizes : {T E : Type 0} (r : Result T E) (t u v w a x b y c z : List ℕ) → u ≡ t ++ (blank_word a ++ blank_word x) → v ≡ u ++ (blank_word b ++ blank_word y)
    → OnOk r (w ≡ v ++ (blank_word c ++ blank_word z)) → OnOk r (w ≡ t ++ flat_map blank_word (a ∷ x ∷ b ∷ y ∷ c ∷ z ∷ []))
three_sizes (Ok ok) t u v w a x b y c z first second third =
    behind t v w (a ∷ x ∷ b ∷ y ∷ []) (c ∷ z ∷ []) (behind t u v (a ∷ x ∷ []) (b ∷ y ∷ []) (two_behind t u a x first) (two_behind u v b y second)) (two_behind v w c z third)
three_sizes (Err e) t u v w a x b y c z first second third = tt

pub some_then_more : {T E : Type 0} (r : Result T E) (t u v : List ℕ) (some more : List (List ℕ)) → u ≡ t ++ flat_map blank_word some → OnOk r (v ≡ u ++ flat_map blank_word more)
    → OnOk r (v ≡ t ++ flat_map blank_word (some ++ more))
some_then_more (Ok ok) t u v some more first second = behind t u v some more first second
some_then_more (Err e) t u v some more first second = tt
