use Rattle.std.proofs.Common.{◌≡◌, ℕ, Bool, true, false, not, ◌&&◌, ◌||◌, ◌<◌, List, [], ◌∷◌, ◌++◌, length, get_or, map, Bor, refl, sym, ap, subst, ◌∙◌, arith}
use Rattle.std.specs.Prelude.{◌==◌, if◌then◌else◌}
use Rattle.std.specs.List.{list_all, list_any}
use Rattle.std.proofs.lemmas.List.Folds.{list_any-append}
use Rattle.std.proofs.lemmas.Bool.{eqb-true}
use Rattle.texts.proofs.list_laws.Lists.{any_map}
use Rattle.texts.proofs.list_laws.Tests.{and_left, and_right, neither, not_true, or_false}
use Rattle.bsdl_lexicon.specs.Names.{lower, is_same_name}
use Rattle.bsdl_lexicon.specs.Reserved.{is_reserved, reserved_words}
use Rattle.bsdl_lexicon.specs.ByLetter.{is_among, reserved_with, with_a, with_b, with_c, with_d, with_e, with_f, with_g, with_i, with_l, with_m, with_n, with_o, with_p, with_r, with_s, with_t, with_u, with_v, with_w, with_x}
use Rattle.bsdl_lexicon.proofs.SameNames.{is_same_name-false, differs_at}

-- a name among words, as they stand in a list of texts
pub among_words : (name : List ℕ) (words : List (Bor (List ℕ))) (list : List (List ℕ)) → map (λ (w : Bor (List ℕ)). w.now) words ≡ list
    → list_any (λ (w : Bor (List ℕ)). is_same_name name w.now) words ≡ is_among list name
among_words name words list same =
    sym (any_map (is_same_name name) (λ (w : Bor (List ℕ)). w.now) words) ∙ ap (λ (l : List (List ℕ)). is_among l name) same

-- Words in groups, each with the letter by which its words begin.

abbrev Groups : Type 0
Groups = List (ℕ × List (List ℕ))

abbrev begins : ℕ → List ℕ → Bool
begins letter [] = false
begins letter (b ∷ bytes) = lower b == letter

abbrev is_apart : ℕ → ℕ × List (List ℕ) → Bool
is_apart letter group = not (letter == group.0)

-- each word begins by its group's letter, and no two groups have one letter
abbrev are_right : Groups → Bool
are_right [] = true
are_right (group ∷ groups) = list_all (begins group.0) group.1 && (list_all (is_apart group.0) groups && are_right groups)

abbrev all_of : Groups → List (List ℕ)
all_of [] = []
all_of (group ∷ groups) = group.1 ++ all_of groups

abbrev found_in : Groups → ℕ → List (List ℕ)
found_in [] letter = []
found_in (group ∷ groups) letter = if letter == group.0 then group.1 else found_in groups letter

-- a name that begins by another letter is no such word
word_apart : (letter b : ℕ) (bytes word : List ℕ) → begins letter word ≡ true → (lower b == letter) ≡ false → is_same_name (b ∷ bytes) word ≡ false
word_apart letter b bytes [] begun apart = absurd (cc)
word_apart letter b bytes (c ∷ word) begun apart =
    is_same_name-false (b ∷ bytes) (c ∷ word) (differs_at (b ∷ bytes) (c ∷ word) 0 (omega arith) (omega arith) (λ same.
    let here : (lower b == letter) ≡ true = ap (λ (x : ℕ). x == letter) same ∙ begun in
    absurd (cc)))

words_apart : (letter b : ℕ) (bytes : List ℕ) (words : List (List ℕ)) → list_all (begins letter) words ≡ true → (lower b == letter) ≡ false → is_among words (b ∷ bytes) ≡ false
words_apart letter b bytes [] begun apart = refl
words_apart letter b bytes (word ∷ words) begun apart =
    neither (is_same_name (b ∷ bytes) word) (is_among words (b ∷ bytes))
    (word_apart letter b bytes word (and_left (begins letter word) (list_all (begins letter) words) begun) apart)
    (words_apart letter b bytes words (and_right (begins letter word) (list_all (begins letter) words) begun) apart)

among_both : (name : List ℕ) (one more : List (List ℕ)) → is_among (one ++ more) name ≡ (is_among one name || is_among more name)
among_both name one more = list_any-append (is_same_name name) one more

-- nor a word of groups that have other letters
groups_apart : (b : ℕ) (bytes : List ℕ) (groups : Groups) → are_right groups ≡ true → list_all (is_apart (lower b)) groups ≡ true → is_among (all_of groups) (b ∷ bytes) ≡ false
groups_apart b bytes [] right apart = refl
groups_apart b bytes (group ∷ groups) right apart =
    let begun = and_left (list_all (begins group.0) group.1) (list_all (is_apart group.0) groups && are_right groups) right in
    let rest = and_right (list_all (begins group.0) group.1) (list_all (is_apart group.0) groups && are_right groups) right in
    among_both (b ∷ bytes) group.1 (all_of groups)
    ∙ neither (is_among group.1 (b ∷ bytes)) (is_among (all_of groups) (b ∷ bytes))
    (words_apart group.0 b bytes group.1 begun (not_true (lower b == group.0) (and_left (is_apart (lower b) group) (list_all (is_apart (lower b)) groups) apart)))
    (groups_apart b bytes groups (and_right (list_all (is_apart group.0) groups) (are_right groups) rest) (and_right (is_apart (lower b) group) (list_all (is_apart (lower b)) groups) apart))

-- so the group of its letter is enough
found_is_enough : (b : ℕ) (bytes : List ℕ) (groups : Groups) → are_right groups ≡ true → is_among (found_in groups (lower b)) (b ∷ bytes) ≡ is_among (all_of groups) (b ∷ bytes)
found_is_enough b bytes [] right = refl
found_is_enough b bytes (group ∷ groups) right =
    by (lower b == group.0) refl (found_is_enough b bytes groups (and_right (list_all (is_apart group.0) groups) (are_right groups)
    (and_right (list_all (begins group.0) group.1) (list_all (is_apart group.0) groups && are_right groups) right)))
  where
    begun : list_all (begins group.0) group.1 ≡ true
    begun = and_left (list_all (begins group.0) group.1) (list_all (is_apart group.0) groups && are_right groups) right

    rest : (list_all (is_apart group.0) groups && are_right groups) ≡ true
    rest = and_right (list_all (begins group.0) group.1) (list_all (is_apart group.0) groups && are_right groups) right

    others : are_right groups ≡ true
    others = and_right (list_all (is_apart group.0) groups) (are_right groups) rest

    by : (t : Bool) → (lower b == group.0) ≡ t → is_among (found_in groups (lower b)) (b ∷ bytes) ≡ is_among (all_of groups) (b ∷ bytes) → is_among (if t then group.1 else found_in groups (lower b)) (b ∷ bytes) ≡ is_among (group.1 ++ all_of groups) (b ∷ bytes)
    by true here more =
        let letter : lower b ≡ group.0 = eqb-true (lower b) group.0 here in
        let apart = subst (λ (x : ℕ). list_all (is_apart x) groups ≡ true) (sym letter) (and_left (list_all (is_apart group.0) groups) (are_right groups) rest) in
        sym (among_both (b ∷ bytes) group.1 (all_of groups)
        ∙ ap (λ (t : Bool). is_among group.1 (b ∷ bytes) || t) (groups_apart b bytes groups others apart)
        ∙ or_false (is_among group.1 (b ∷ bytes)))
    by false here more =
        more
        ∙ sym (among_both (b ∷ bytes) group.1 (all_of groups)
        ∙ ap (λ (t : Bool). t || is_among (all_of groups) (b ∷ bytes)) (words_apart group.0 b bytes group.1 begun here))

abbrev by_letter : Groups
by_letter = (97, with_a) ∷ (98, with_b) ∷ (99, with_c) ∷ (100, with_d) ∷ (101, with_e) ∷ (102, with_f) ∷ (103, with_g) ∷ (105, with_i) ∷ (108, with_l) ∷ (109, with_m) ∷ (110, with_n) ∷ (111, with_o) ∷ (112, with_p) ∷ (114, with_r) ∷ (115, with_s) ∷ (116, with_t) ∷ (117, with_u) ∷ (118, with_v) ∷ (119, with_w) ∷ (120, with_x) ∷ []

all_by_letter : all_of by_letter ≡ reserved_words
all_by_letter = refl

-- a name is looked for among the words of its letter alone
pub found_by_letter : (name : List ℕ) → is_among (reserved_with (lower (get_or name 0 0))) name ≡ is_reserved name
unfolding is_reserved
found_by_letter [] = refl
found_by_letter (b ∷ bytes) = found_is_enough b bytes by_letter refl ∙ ap (λ (l : List (List ℕ)). is_among l (b ∷ bytes)) all_by_letter

pub empty_is_free : (name : List ℕ) → length name < 1 → is_reserved name ≡ false
unfolding is_reserved
empty_is_free [] short = refl
empty_is_free (b ∷ bytes) short = absurd (omega arith)
