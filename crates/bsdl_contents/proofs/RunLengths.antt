-- Where blanks and runs end, and the words that are cut there.
use Rattle.std.proofs.Common.{◌≡◌, ℕ, suc, ◌+◌, ◌-◌, ◌==◌, ◌<◌, ◌≤◌, Bool, true, false, cond, List, [], ◌∷◌, length, take, drop, get_or, refl, sym, ap, ◌∙◌, arith}
use Rattle.std.proofs.lemmas.List.{drop_more, drop_all, take_all, length-drop}
use borrow.Author.Tests.{eqb-true}
use Rattle.bsdl_lexicon.specs.Bytes.{is_name_byte}
use Rattle.bsdl_device.specs.Runs.{ContentWord, Run, Other, content_words, lengthened, begins_run}
use Rattle.bsdl_contents.specs.WordsAhead.{run_len, unspaced}

-- Blanks.

pub unspaced_more : (bytes : List ℕ) (i : ℕ) → i < length bytes → (get_or bytes i 0 == 32) ≡ true → unspaced (drop i bytes) ≡ unspaced (drop (i + 1) bytes)
unspaced_more bytes i within is =
    let b : ℕ = get_or bytes i 0 in
    let more : List ℕ = drop (i + 1) bytes in
    ap unspaced (drop_more bytes i 0 within) ∙ ap (λ (t : Bool). cond t (unspaced more) (b ∷ more)) is

pub unspaced_here : (bytes : List ℕ) (i : ℕ) → i < length bytes → (get_or bytes i 0 == 32) ≡ false → unspaced (drop i bytes) ≡ drop i bytes
unspaced_here bytes i within is =
    let b : ℕ = get_or bytes i 0 in
    let more : List ℕ = drop (i + 1) bytes in
    ap unspaced (drop_more bytes i 0 within) ∙ ap (λ (t : Bool). cond t (unspaced more) (b ∷ more)) is ∙ sym (drop_more bytes i 0 within)

pub unspaced_past : (bytes : List ℕ) (i : ℕ) → length bytes ≤ i → unspaced (drop i bytes) ≡ drop i bytes
unspaced_past bytes i past = ap unspaced (drop_all i bytes past) ∙ sym (drop_all i bytes past)

pub words_unspaced : (bytes : List ℕ) → content_words (unspaced bytes) ≡ content_words bytes
words_unspaced [] = refl
words_unspaced (b ∷ bytes) = go (b == 32) refl (words_unspaced bytes)
  where
    go : (t : Bool) → (b == 32) ≡ t → content_words (unspaced bytes) ≡ content_words bytes → content_words (cond t (unspaced bytes) (b ∷ bytes)) ≡ content_words (b ∷ bytes)
    go true e again = again ∙ sym (ap (λ (n : ℕ). content_words (n ∷ bytes)) (eqb-true b 32 e))
    go false e again = refl

-- what is left begins with no blank
pub unspaced_first : (bytes : List ℕ) (b : ℕ) (more : List ℕ) → unspaced bytes ≡ b ∷ more → (b == 32) ≡ false
unspaced_first [] b more h = absurd (cc)
unspaced_first (c ∷ bytes) b more h = go (c == 32) refl h (λ k. unspaced_first bytes b more k)
  where
    go : (t : Bool) → (c == 32) ≡ t → cond t (unspaced bytes) (c ∷ bytes) ≡ b ∷ more → (unspaced bytes ≡ b ∷ more → (b == 32) ≡ false) → (b == 32) ≡ false
    go true e k again = again k
    go false e k again = let same : c ≡ b = cc in ap (λ (n : ℕ). n == 32) (sym same) ∙ e

-- Runs.

pub run_more : (bytes : List ℕ) (i : ℕ) → i < length bytes → is_name_byte (get_or bytes i 0) ≡ true → run_len (drop i bytes) ≡ suc (run_len (drop (i + 1) bytes))
run_more bytes i within is = ap run_len (drop_more bytes i 0 within) ∙ ap (λ (t : Bool). cond t (suc (run_len (drop (i + 1) bytes))) 0) is

pub run_here : (bytes : List ℕ) (i : ℕ) → i < length bytes → is_name_byte (get_or bytes i 0) ≡ false → run_len (drop i bytes) ≡ 0
run_here bytes i within is = ap run_len (drop_more bytes i 0 within) ∙ ap (λ (t : Bool). cond t (suc (run_len (drop (i + 1) bytes))) 0) is

pub run_past : (bytes : List ℕ) (i : ℕ) → length bytes ≤ i → run_len (drop i bytes) ≡ 0
run_past bytes i past = ap run_len (drop_all i bytes past)

-- Words.

pub words_other : (b : ℕ) (bytes : List ℕ) → is_name_byte b ≡ false → (b == 32) ≡ false → content_words (b ∷ bytes) ≡ Other b ∷ content_words bytes
words_other b bytes apart unblank = rw apart (rw unblank refl)

-- one more byte of a run
longer : (b : ℕ) (l : List ℕ) → is_name_byte b ≡ true → content_words (b ∷ l) ≡ cond (begins_run l) (lengthened b (content_words l)) (Run (b ∷ []) ∷ content_words l)
longer b l is = ap (λ (t : Bool). cond t (cond (begins_run l) (lengthened b (content_words l)) (Run (b ∷ []) ∷ content_words l)) (cond (b == 32) (content_words l) (Other b ∷ content_words l))) is

counted : (b : ℕ) (l : List ℕ) → is_name_byte b ≡ true → run_len (b ∷ l) ≡ suc (run_len l)
counted b l is = ap (λ (t : Bool). cond t (suc (run_len l)) 0) is

-- a run and what is behind it
abbrev cut_at : ℕ → List ℕ → List ContentWord
cut_at n l = Run (take n l) ∷ content_words (drop n l)

pub words_run : (b : ℕ) (bytes : List ℕ) → is_name_byte b ≡ true → content_words (b ∷ bytes) ≡ cut_at (run_len (b ∷ bytes)) (b ∷ bytes)
words_run b [] is = longer b [] is ∙ sym (ap (λ (n : ℕ). cut_at n (b ∷ [])) (counted b [] is))
words_run b (c ∷ more) is = go (is_name_byte c) refl (λ e. words_run c more e)
  where
    go : (t : Bool) → is_name_byte c ≡ t → (is_name_byte c ≡ true → content_words (c ∷ more) ≡ cut_at (run_len (c ∷ more)) (c ∷ more)) → content_words (b ∷ c ∷ more) ≡ cut_at (run_len (b ∷ c ∷ more)) (b ∷ c ∷ more)
    go true e again =
        longer b (c ∷ more) is
        ∙ ap (λ (t : Bool). cond t (lengthened b (content_words (c ∷ more))) (Run (b ∷ []) ∷ content_words (c ∷ more))) e
        ∙ ap (lengthened b) (again e)
        ∙ sym (ap (λ (n : ℕ). cut_at n (b ∷ c ∷ more)) (counted b (c ∷ more) is))
    go false e again =
        longer b (c ∷ more) is
        ∙ ap (λ (t : Bool). cond t (lengthened b (content_words (c ∷ more))) (Run (b ∷ []) ∷ content_words (c ∷ more))) e
        ∙ sym (ap (λ (n : ℕ). cut_at n (b ∷ c ∷ more)) (counted b (c ∷ more) is ∙ ap suc (ap (λ (t : Bool). cond t (suc (run_len more)) 0) e)))

-- Words behind blanks.

front_is : (l : List ℕ) → 0 < length l → l ≡ get_or l 0 0 ∷ drop 1 l
front_is l within = drop_more l 0 0 within

whole_tail : (l : List ℕ) (n : ℕ) → take (length l - n) (drop n l) ≡ drop n l
whole_tail l n = take_all (length l - n) (drop n l) (omega (arith, length-drop n l))

pub cut_none : (bytes l : List ℕ) → l ≡ unspaced bytes → (length l == 0) ≡ true → [] ≡ content_words bytes
cut_none bytes [] are none = ap content_words are ∙ words_unspaced bytes
cut_none bytes (b ∷ l) are none = absurd (omega (arith, eqb-true (length (b ∷ l)) 0 none))

pub cut_other : (bytes l : List ℕ) → l ≡ unspaced bytes → 0 < length l → is_name_byte (get_or l 0 0) ≡ false → Other (get_or l 0 0) ∷ content_words (take (length l - 1) (drop 1 l)) ≡ content_words bytes
cut_other bytes l are within apart =
    let front : l ≡ get_or l 0 0 ∷ drop 1 l = front_is l within in
    ap (λ (q : List ℕ). Other (get_or l 0 0) ∷ content_words q) (whole_tail l 1)
    ∙ sym (words_other (get_or l 0 0) (drop 1 l) apart (unspaced_first bytes (get_or l 0 0) (drop 1 l) (sym are ∙ front)))
    ∙ ap content_words (sym front ∙ are) ∙ words_unspaced bytes

pub cut_run : (bytes l : List ℕ) (n : ℕ) → l ≡ unspaced bytes → 0 < length l → n ≡ run_len l → is_name_byte (get_or l 0 0) ≡ true → Run (take n l) ∷ content_words (take (length l - n) (drop n l)) ≡ content_words bytes
cut_run bytes l n are within long is =
    let front : l ≡ get_or l 0 0 ∷ drop 1 l = front_is l within in
    ap (λ (q : List ℕ). Run (take n l) ∷ content_words q) (whole_tail l n)
    ∙ ap (λ (k : ℕ). cut_at k l) long
    ∙ ap (λ (q : List ℕ). cut_at (run_len q) q) front
    ∙ sym (words_run (get_or l 0 0) (drop 1 l) is)
    ∙ ap content_words (sym front ∙ are) ∙ words_unspaced bytes
