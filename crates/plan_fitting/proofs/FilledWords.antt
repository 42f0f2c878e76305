-- No word of a text's lines is empty.
use Rattle.std.proofs.Common.{◌≡◌, ℕ, ◌+◌, List, [], ◌∷◌, Bool, true, false, cond, not, map, refl}
use Rattle.std.specs.List.{AllByRecursion, filter, slice_split, enumerate_from}
use Rattle.word_cutter.specs.LinesWords.{is_empty, is_blank_byte, words_of, is_kept, kept_lines, lines_of}

abbrev pub IsFilled : List ℕ → Type 0
IsFilled word = is_empty word ≡ false

abbrev pub AreFilled : List (List ℕ) → Type 0
AreFilled words = AllByRecursion IsFilled words

kept_one : (word : List ℕ) (rest : List (List ℕ)) (b : Bool) → is_empty word ≡ b → AreFilled rest → AreFilled (cond (not b) (word ∷ rest) rest)
kept_one word rest true e more = more
kept_one word rest false e more = (e, more)

kept_filled : (words : List (List ℕ)) → AreFilled (filter (λ part. not (is_empty part)) words)
kept_filled [] = tt
kept_filled (word ∷ words) = kept_one word (filter (λ part. not (is_empty part)) words) (is_empty word) refl (kept_filled words)

words_filled : (line : List ℕ) → AreFilled (words_of line)
words_filled line = kept_filled (slice_split is_blank_byte line)

abbrev kept_rows : ℕ → List (List ℕ) → List (ℕ × List (List ℕ))
kept_rows n lines = filter (λ (row : ℕ × List (List ℕ)). is_kept row.1) (enumerate_from n (map words_of lines))

abbrev words_in : List (ℕ × List (List ℕ)) → List (List (List ℕ))
words_in rows = map (λ (row : ℕ × List (List ℕ)). row.1) rows

row_filled : (n : ℕ) (line : List ℕ) (rest : List (ℕ × List (List ℕ))) (b : Bool) → AllByRecursion AreFilled (words_in rest)
    → AllByRecursion AreFilled (words_in (cond b ((n, words_of line) ∷ rest) rest))
row_filled n line rest true more = (words_filled line, more)
row_filled n line rest false more = more

rows_filled : (n : ℕ) (lines : List (List ℕ)) → AllByRecursion AreFilled (words_in (kept_rows n lines))
rows_filled n [] = tt
rows_filled n (line ∷ lines) = row_filled n line (kept_rows (n + 1) lines) (is_kept (words_of line)) (rows_filled (n + 1) lines)

pub kept_lines_filled : (bytes : List ℕ) → AllByRecursion AreFilled (map (λ (row : ℕ × List (List ℕ)). row.1) (kept_lines bytes))
kept_lines_filled bytes = rows_filled 1 (lines_of bytes)
