use Rattle.std.proofs.Common.{◌≡◌, ℕ, Bool, true, false, not, ◌&&◌, List, [], ◌∷◌, ◌++◌, Option, Some, None, get_or, refl, sym, ap, subst, ◌∙◌}
use Rattle.std.specs.Prelude.{◌==◌, if◌then◌else◌, cond}
use Rattle.std.specs.List.{list_all}
use Rattle.std.specs.Str.{bytes_eq}
use Rattle.std.proofs.lemmas.Bool.{eqb-true}
use Rattle.std.proofs.lemmas.List.Folds.{find-append}
use Rattle.std.specs.Option.{option_or}
use Rattle.verilog_lexicon.specs.declared.reserved.Reserved.{Reserved}
use Rattle.verilog_lexicon.specs.Keywords.{spelling_of, reserved_of, reserved_words}
use Rattle.verilog_lexicon.specs.ByLetter.{spelled_by, words_with, with_a, with_b, with_c, with_d, with_e, with_f, with_g, with_h, with_i, with_j, with_l, with_m, with_n, with_o, with_p, with_r, with_s, with_t, with_u, with_v, with_w, with_x}

-- Reserved words in groups, each with the letter by which its words begin.

abbrev Groups : Type 0
Groups = List (ℕ × List Reserved)

abbrev begins : ℕ → List ℕ → Bool
begins letter [] = false
begins letter (b ∷ bytes) = b == letter

abbrev all_begin : ℕ → List Reserved → Bool
all_begin letter words = list_all (λ (r : Reserved). begins letter (spelling_of r)) words

abbrev is_apart : ℕ → ℕ × List Reserved → Bool
is_apart letter group = not (letter == group.0)

-- each word begins by its group's letter, and no two groups have one letter
abbrev are_right : Groups → Bool
are_right [] = true
are_right (group ∷ groups) = all_begin group.0 group.1 && (list_all (is_apart group.0) groups && are_right groups)

abbrev all_of : Groups → List Reserved
all_of [] = []
all_of (group ∷ groups) = group.1 ++ all_of groups

abbrev found_in : Groups → ℕ → List Reserved
found_in [] letter = []
found_in (group ∷ groups) letter = if letter == group.0 then group.1 else found_in groups letter

both_hold : (p q : Bool) → (p && q) ≡ true → (p ≡ true) × (q ≡ true)
both_hold true q h = (refl, h)
both_hold false q h = absurd (cc)

is_false : (p : Bool) → not p ≡ true → p ≡ false
is_false true h = absurd (cc)
is_false false h = refl

-- bytes that begin by another letter spell no such word
word_apart : (letter b : ℕ) (bytes word : List ℕ) → begins letter word ≡ true → (b == letter) ≡ false → bytes_eq (b ∷ bytes) word ≡ false
word_apart letter b bytes [] begun apart = absurd (cc)
word_apart letter b bytes (c ∷ word) begun apart =
    let same : c ≡ letter = eqb-true c letter begun in
    ap (λ (t : Bool). t && bytes_eq bytes word) (ap (λ (x : ℕ). b == x) same ∙ apart)

words_apart : (letter b : ℕ) (bytes : List ℕ) (words : List Reserved) → all_begin letter words ≡ true → (b == letter) ≡ false → spelled_by (b ∷ bytes) words ≡ None
words_apart letter b bytes [] begun apart = refl
words_apart letter b bytes (r ∷ words) begun apart =
    let parts = both_hold (begins letter (spelling_of r)) (all_begin letter words) begun in
    ap (λ (t : Bool). cond t (Some r) (spelled_by (b ∷ bytes) words)) (word_apart letter b bytes (spelling_of r) parts.0 apart)
    ∙ words_apart letter b bytes words parts.1 apart

-- where one of two lists has no word of these bytes, the other tells
past_none : (bytes : List ℕ) (one more : List Reserved) → spelled_by bytes one ≡ None → spelled_by bytes (one ++ more) ≡ spelled_by bytes more
past_none bytes one more none = find-append (λ (r : Reserved). bytes_eq bytes (spelling_of r)) one more ∙ ap (λ (o : Option Reserved). option_or o (spelled_by bytes more)) none

before_none : (bytes : List ℕ) (one more : List Reserved) → spelled_by bytes more ≡ None → spelled_by bytes (one ++ more) ≡ spelled_by bytes one
before_none bytes one more none =
    find-append (λ (r : Reserved). bytes_eq bytes (spelling_of r)) one more
    ∙ ap (λ (o : Option Reserved). option_or (spelled_by bytes one) o) none
    ∙ or_none (spelled_by bytes one)
  where
    or_none : (o : Option Reserved) → option_or o None ≡ o
    or_none None = refl
    or_none (Some r) = refl

-- nor a word of groups that have other letters
groups_apart : (b : ℕ) (bytes : List ℕ) (groups : Groups) → are_right groups ≡ true → list_all (is_apart b) groups ≡ true → spelled_by (b ∷ bytes) (all_of groups) ≡ None
groups_apart b bytes [] right apart = refl
groups_apart b bytes (group ∷ groups) right apart =
    let parts = both_hold (all_begin group.0 group.1) (list_all (is_apart group.0) groups && are_right groups) right in
    let rest = both_hold (list_all (is_apart group.0) groups) (are_right groups) parts.1 in
    let others = both_hold (is_apart b group) (list_all (is_apart b) groups) apart in
    past_none (b ∷ bytes) group.1 (all_of groups) (words_apart group.0 b bytes group.1 parts.0 (is_false (b == group.0) others.0))
    ∙ groups_apart b bytes groups rest.1 others.1

right_after : (group : ℕ × List Reserved) (groups : Groups) → are_right (group ∷ groups) ≡ true → are_right groups ≡ true
right_after group groups right =
    let parts = both_hold (all_begin group.0 group.1) (list_all (is_apart group.0) groups && are_right groups) right in
    (both_hold (list_all (is_apart group.0) groups) (are_right groups) parts.1).1

-- so the group of its letter is enough
found_is_enough : (b : ℕ) (bytes : List ℕ) (groups : Groups) → are_right groups ≡ true → spelled_by (b ∷ bytes) (found_in groups b) ≡ spelled_by (b ∷ bytes) (all_of groups)
found_is_enough b bytes [] right = refl
found_is_enough b bytes (group ∷ groups) right = by (b == group.0) refl (found_is_enough b bytes groups (right_after group groups right))
  where
    parts : (all_begin group.0 group.1 ≡ true) × ((list_all (is_apart group.0) groups && are_right groups) ≡ true)
    parts = both_hold (all_begin group.0 group.1) (list_all (is_apart group.0) groups && are_right groups) right

    rest : (list_all (is_apart group.0) groups ≡ true) × (are_right groups ≡ true)
    rest = both_hold (list_all (is_apart group.0) groups) (are_right groups) parts.1

    by : (t : Bool) → (b == group.0) ≡ t → spelled_by (b ∷ bytes) (found_in groups b) ≡ spelled_by (b ∷ bytes) (all_of groups) → spelled_by (b ∷ bytes) (if t then group.1 else found_in groups b) ≡ spelled_by (b ∷ bytes) (group.1 ++ all_of groups)
    by true here more =
        let letter : b ≡ group.0 = eqb-true b group.0 here in
        let apart = subst (λ (x : ℕ). list_all (is_apart x) groups ≡ true) (sym letter) rest.0 in
        sym (before_none (b ∷ bytes) group.1 (all_of groups) (groups_apart b bytes groups rest.1 apart))
    by false here more =
        more
        ∙ sym (past_none (b ∷ bytes) group.1 (all_of groups) (words_apart group.0 b bytes group.1 parts.0 here))

abbrev by_letter : Groups
by_letter = (97, with_a) ∷ (98, with_b) ∷ (99, with_c) ∷ (100, with_d) ∷ (101, with_e) ∷ (102, with_f) ∷ (103, with_g) ∷ (104, with_h) ∷ (105, with_i) ∷ (106, with_j) ∷ (108, with_l) ∷ (109, with_m) ∷ (110, with_n) ∷ (111, with_o) ∷ (112, with_p) ∷ (114, with_r) ∷ (115, with_s) ∷ (116, with_t) ∷ (117, with_u) ∷ (118, with_v) ∷ (119, with_w) ∷ (120, with_x) ∷ []

are_by_letter : are_right by_letter ≡ true
unfolding spelling_of
are_by_letter = refl

all_by_letter : all_of by_letter ≡ reserved_words
all_by_letter = refl

-- bytes are looked for among the words of their first letter alone
pub found_by_letter : (bytes : List ℕ) → spelled_by bytes (words_with (get_or bytes 0 0)) ≡ reserved_of bytes
unfolding reserved_of spelling_of
found_by_letter [] = refl
found_by_letter (b ∷ bytes) =
    found_is_enough b bytes by_letter are_by_letter
    ∙ ap (λ (words : List Reserved). spelled_by (b ∷ bytes) words) all_by_letter
