-- Lines and words are cut off from the front.
use Rattle.std.proofs.Common.{◌≡◌, ℕ, suc, ◌+◌, ◌-◌, ◌<◌, ◌≤◌, Bool, true, false, cond, not, List, [], ◌∷◌, length, take, drop, filter, refl, sym, ap, ◌∙◌, arith}
use Rattle.std.specs.List.{slice_split, onto_first, prefix_len, position_or_len}
use Rattle.std.proofs.lemmas.List.{take_all, length-drop}
use Rattle.std.proofs.Math.Seq.{drop-length}
use Rattle.std.proofs.lemmas.List.Splits.{slice_split-cons_yes, length-slice_split}
use Rattle.std.proofs.lemmas.List.Folds.{length-prefix_len}
use Rattle.std.proofs.lemmas.List.Sums.{prefix_len-le-length}
use Rattle.word_cutter.specs.LinesWords.{is_line_end, is_blank_byte, is_empty, without_empty_last, lines_of, words_of}
use Rattle.word_cutter.specs.Cut.{after_word, begins_blank}

pub passed_len : (p : ℕ → Bool) (xs : List ℕ) → length (take (prefix_len p xs) xs) ≡ prefix_len p xs
passed_len p xs = length-prefix_len p xs

pub passed_within : (p : ℕ → Bool) (xs : List ℕ) → prefix_len p xs ≤ length xs
passed_within p xs = prefix_len-le-length p xs

-- `&line[n..]`
pub rest_is : (n : ℕ) (line : List ℕ) → take (length line - n) (drop n line) ≡ drop n line
rest_is n line = take_all (length line - n) (drop n line) (omega (arith, length-drop n line))

-- the parts with a byte
abbrev parts : (ℕ → Bool) → List ℕ → List (List ℕ)
parts p line = filter (λ part. not (is_empty part)) (slice_split p line)

parts_behind-step : (p : ℕ → Bool) (b : ℕ) (bytes : List ℕ) (t : Bool) → p b ≡ t → parts p (drop (prefix_len p bytes) bytes) ≡ parts p bytes
    → parts p (drop (cond t (1 + prefix_len p bytes) 0) (b ∷ bytes)) ≡ parts p (b ∷ bytes)
parts_behind-step p b bytes true e ih = rw (slice_split-cons_yes p b bytes e) (let s : 1 + prefix_len p bytes ≡ suc (prefix_len p bytes) = omega arith in rw s ih)
parts_behind-step p b bytes false e ih = refl

parts_behind : (p : ℕ → Bool) (line : List ℕ) → parts p (drop (prefix_len p line) line) ≡ parts p line
parts_behind p [] = refl
parts_behind p (b ∷ bytes) = parts_behind-step p b bytes (p b) refl (parts_behind p bytes)

pub words_behind_blanks : (line : List ℕ) → words_of (drop (prefix_len is_blank_byte line) line) ≡ words_of line
words_behind_blanks line = parts_behind is_blank_byte line

abbrev begins : (ℕ → Bool) → List ℕ → Bool
begins p [] = false
begins p (b ∷ bytes) = p b

begins_behind-step : (p : ℕ → Bool) (b : ℕ) (bytes : List ℕ) (t : Bool) → p b ≡ t → begins p (drop (prefix_len p bytes) bytes) ≡ false
    → begins p (drop (cond t (1 + prefix_len p bytes) 0) (b ∷ bytes)) ≡ false
begins_behind-step p b bytes true e ih = let s : 1 + prefix_len p bytes ≡ suc (prefix_len p bytes) = omega arith in rw s ih
begins_behind-step p b bytes false e ih = e

begins_behind : (p : ℕ → Bool) (line : List ℕ) → begins p (drop (prefix_len p line) line) ≡ false
begins_behind p [] = refl
begins_behind p (b ∷ bytes) = begins_behind-step p b bytes (p b) refl (begins_behind p bytes)

begins_is : (line : List ℕ) → begins is_blank_byte line ≡ begins_blank line
begins_is [] = refl
begins_is (b ∷ bytes) = refl

pub begins_behind_blanks : (line : List ℕ) → begins_blank (drop (prefix_len is_blank_byte line) line) ≡ false
begins_behind_blanks line = sym (begins_is (drop (prefix_len is_blank_byte line) line)) ∙ begins_behind is_blank_byte line

-- the parts behind the first
tail_of : (ℕ → Bool) → List ℕ → List (List ℕ)
tail_of p [] = []
tail_of p (b ∷ bytes) = cond (p b) (slice_split p bytes) (tail_of p bytes)

split_first-step : (p : ℕ → Bool) (b : ℕ) (bytes : List ℕ) (t : Bool) → slice_split p bytes ≡ take (position_or_len p bytes) bytes ∷ tail_of p bytes
    → cond t ([] ∷ slice_split p bytes) (onto_first b (slice_split p bytes))
    ≡ take (cond (not t) (1 + position_or_len p bytes) 0) (b ∷ bytes) ∷ cond t (slice_split p bytes) (tail_of p bytes)
split_first-step p b bytes true ih = refl
split_first-step p b bytes false ih = let s : 1 + position_or_len p bytes ≡ suc (position_or_len p bytes) = omega arith in rw (ih, s)

split_first : (p : ℕ → Bool) (line : List ℕ) → slice_split p line ≡ take (position_or_len p line) line ∷ tail_of p line
unfolding tail_of
split_first p [] = refl
split_first p (b ∷ bytes) = split_first-step p b bytes (p b) (split_first p bytes)

parts_from-step : (p : ℕ → Bool) (b : ℕ) (bytes : List ℕ) (t : Bool) → p b ≡ t
    → parts p (drop (position_or_len p bytes) bytes) ≡ filter (λ part. not (is_empty part)) (tail_of p bytes)
    → parts p (drop (cond (not t) (1 + position_or_len p bytes) 0) (b ∷ bytes)) ≡ filter (λ part. not (is_empty part)) (cond t (slice_split p bytes) (tail_of p bytes))
parts_from-step p b bytes true e ih = rw (slice_split-cons_yes p b bytes e)
parts_from-step p b bytes false e ih = let s : 1 + position_or_len p bytes ≡ suc (position_or_len p bytes) = omega arith in rw s ih

parts_from : (p : ℕ → Bool) (line : List ℕ) → parts p (drop (position_or_len p line) line) ≡ filter (λ part. not (is_empty part)) (tail_of p line)
unfolding tail_of
parts_from p [] = refl
parts_from p (b ∷ bytes) = parts_from-step p b bytes (p b) refl (parts_from p bytes)

after_word_is : (word : List ℕ) (more : List (List ℕ)) → filter (λ part. not (is_empty part)) (word ∷ more) ≡ after_word word (filter (λ part. not (is_empty part)) more)
after_word_is [] more = refl
after_word_is (b ∷ bytes) more = refl

parts_from_first : (p : ℕ → Bool) (line : List ℕ) → parts p line ≡ after_word (take (position_or_len p line) line) (parts p (drop (position_or_len p line) line))
parts_from_first p line = ap (λ (l : List (List ℕ)). filter (λ part. not (is_empty part)) l) (split_first p line)
    ∙ after_word_is (take (position_or_len p line) line) (tail_of p line)
    ∙ ap (λ (l : List (List ℕ)). after_word (take (position_or_len p line) line) l) (sym (parts_from p line))

pub words_from_first : (line : List ℕ) → words_of line ≡ after_word (take (position_or_len is_blank_byte line) line) (words_of (drop (position_or_len is_blank_byte line) line))
words_from_first line = parts_from_first is_blank_byte line

some_part : (b m : ℕ) (bytes : List ℕ) (t : Bool) → t ≡ false → take (cond (not t) (1 + m) 0) (b ∷ bytes) ≡ [] → ⊥
some_part b m bytes true e h = cc
some_part b m bytes false e h = let s : 1 + m ≡ suc m = omega arith in let k : b ∷ take m bytes ≡ [] = rw s at h in cc

pub no_words : (line : List ℕ) → begins_blank line ≡ false → take (position_or_len is_blank_byte line) line ≡ [] → words_of (drop (position_or_len is_blank_byte line) line) ≡ []
no_words [] e h = refl
no_words (b ∷ bytes) e h = absurd (some_part b (position_or_len is_blank_byte bytes) bytes (is_blank_byte b) e h)

tail_within-step : (p : ℕ → Bool) (b : ℕ) (bytes : List ℕ) (t : Bool)
    → (position_or_len p bytes < length bytes → tail_of p bytes ≡ slice_split p (drop (position_or_len p bytes + 1) bytes))
    → cond (not t) (1 + position_or_len p bytes) 0 < suc (length bytes)
    → cond t (slice_split p bytes) (tail_of p bytes) ≡ slice_split p (drop (cond (not t) (1 + position_or_len p bytes) 0 + 1) (b ∷ bytes))
tail_within-step p b bytes true ih h = refl
tail_within-step p b bytes false ih h = let s : 1 + position_or_len p bytes + 1 ≡ suc (position_or_len p bytes + 1) = omega arith in rw s (ih (omega arith))

tail_within : (p : ℕ → Bool) (text : List ℕ) → position_or_len p text < length text → tail_of p text ≡ slice_split p (drop (position_or_len p text + 1) text)
unfolding tail_of
tail_within p [] h = absurd (omega arith)
tail_within p (b ∷ bytes) h = tail_within-step p b bytes (p b) (tail_within p bytes) h

tail_to_end-step : (p : ℕ → Bool) (b : ℕ) (bytes : List ℕ) (t : Bool) → (length bytes ≤ position_or_len p bytes → tail_of p bytes ≡ [])
    → suc (length bytes) ≤ cond (not t) (1 + position_or_len p bytes) 0 → cond t (slice_split p bytes) (tail_of p bytes) ≡ []
tail_to_end-step p b bytes true ih h = absurd (omega arith)
tail_to_end-step p b bytes false ih h = ih (omega arith)

tail_to_end : (p : ℕ → Bool) (text : List ℕ) → length text ≤ position_or_len p text → tail_of p text ≡ []
unfolding tail_of
tail_to_end p [] h = refl
tail_to_end p (b ∷ bytes) h = tail_to_end-step p b bytes (p b) (tail_to_end p bytes) h

pub without_empty_last-cons : (part : List ℕ) (more : List (List ℕ)) → 0 < length more → without_empty_last (part ∷ more) ≡ part ∷ without_empty_last more
without_empty_last-cons part [] h = absurd (omega arith)
without_empty_last-cons part (next ∷ more) h = refl

pub some_parts : (p : ℕ → Bool) (text : List ℕ) → 0 < length (slice_split p text)
some_parts p text = omega (arith, length-slice_split p text)

pub line_within : (text : List ℕ) → position_or_len is_line_end text < length text
    → lines_of text ≡ take (position_or_len is_line_end text) text ∷ lines_of (drop (position_or_len is_line_end text + 1) text)
line_within text h = ap without_empty_last (split_first is_line_end text
    ∙ ap (λ (l : List (List ℕ)). take (position_or_len is_line_end text) text ∷ l) (tail_within is_line_end text h))
    ∙ without_empty_last-cons (take (position_or_len is_line_end text) text) (slice_split is_line_end (drop (position_or_len is_line_end text + 1) text))
    (some_parts is_line_end (drop (position_or_len is_line_end text + 1) text))

last_line : (text : List ℕ) → 0 < length text → without_empty_last (text ∷ []) ≡ text ∷ []
last_line [] h = absurd (omega arith)
last_line (b ∷ bytes) h = refl

pub line_to_end : (text : List ℕ) → 0 < length text → length text ≤ position_or_len is_line_end text → lines_of text ≡ text ∷ lines_of (drop (length text) text)
line_to_end text some h = ap without_empty_last (split_first is_line_end text
    ∙ ap (λ (l : List (List ℕ)). take (position_or_len is_line_end text) text ∷ l) (tail_to_end is_line_end text h)
    ∙ ap (λ (l : List ℕ). l ∷ []) (take_all (position_or_len is_line_end text) text h))
    ∙ last_line text some
    ∙ ap (λ (l : List ℕ). text ∷ lines_of l) (sym (drop-length text))
