-- Rows of words read back from the text that is written of them.
use Rattle.std.proofs.Common.{◌≡◌, ℕ, suc, ◌+◌, Bool, true, false, cond, not, List, [], ◌∷◌, ◌++◌, map, filter, length, refl, ap, ◌∙◌, append_assoc}
use Rattle.std.specs.Prelude.{All}
use Rattle.std.specs.List.{slice_split, enumerate_from, flat_map}
use Rattle.std.proofs.lemmas.List.{append-nil}
use Rattle.std.proofs.lemmas.List.Splits.{slice_split_at, slice_split_none}
use Rattle.std.proofs.lemmas.List.Elements.{All-nil, All-cons, All-head, All-tail, All-append}
use Rattle.word_cutter.specs.LinesWords.{is_line_end, is_blank_byte, is_empty, without_empty_last, lines_of, words_of, is_kept, kept_from}
use Rattle.word_cutter.specs.Rows.{IsWordByte, IsWord, IsRow, behind_blank, joined, row_text, rows_text}
use Rattle.word_cutter.specs.LinesLaws.{ReadsBack}

no_end_in : (bytes : List ℕ) → All IsWordByte bytes → All (λ b. is_line_end b ≡ false) bytes
no_end_in bytes each = λ k d h. (each k d h).no_end

no_blank_in : (bytes : List ℕ) → All IsWordByte bytes → All (λ b. is_blank_byte b ≡ false) bytes
no_blank_in bytes each = λ k d h. (each k d h).no_blank

behind_has_no_end : (words : List (List ℕ)) → All IsWord words → All (λ b. is_line_end b ≡ false) (flat_map behind_blank words)
behind_has_no_end [] each = All-nil (λ b. is_line_end b ≡ false)
behind_has_no_end (word ∷ words) each =
    All-cons (λ b. is_line_end b ≡ false) 32 (word ++ flat_map behind_blank words) refl
    (All-append (λ b. is_line_end b ≡ false) word (flat_map behind_blank words) (no_end_in word (All-head IsWord word words each).each)
    (behind_has_no_end words (All-tail IsWord word words each)))

joined_has_no_end : (words : List (List ℕ)) → All IsWord words → All (λ b. is_line_end b ≡ false) (joined words)
joined_has_no_end [] each = All-nil (λ b. is_line_end b ≡ false)
joined_has_no_end (word ∷ words) each =
    All-append (λ b. is_line_end b ≡ false) word (flat_map behind_blank words) (no_end_in word (All-head IsWord word words each).each)
    (behind_has_no_end words (All-tail IsWord word words each))

joined_parts : (word : List ℕ) (words : List (List ℕ)) → IsWord word → All IsWord words → slice_split is_blank_byte (joined (word ∷ words)) ≡ word ∷ words
joined_parts word [] is each = ap (λ (bytes : List ℕ). slice_split is_blank_byte bytes) (append-nil word) ∙ slice_split_none is_blank_byte word (no_blank_in word is.each)
joined_parts word (next ∷ words) is each =
    slice_split_at is_blank_byte word 32 (joined (next ∷ words)) (no_blank_in word is.each) refl
    ∙ ap (λ (l : List (List ℕ)). word ∷ l) (joined_parts next words (All-head IsWord next words each) (All-tail IsWord next words each))

all_some : (words : List (List ℕ)) → All IsWord words → filter (λ part. not (is_empty part)) words ≡ words
all_some [] each = refl
all_some ([] ∷ words) each = absurd ((All-head IsWord [] words each).some refl)
all_some ((b ∷ bytes) ∷ words) each = ap (λ (l : List (List ℕ)). (b ∷ bytes) ∷ l) (all_some words (All-tail IsWord (b ∷ bytes) words each))

pub joined_words : (words : List (List ℕ)) → IsRow words → words_of (joined words) ≡ words
joined_words [] row = refl
joined_words (word ∷ words) row =
    ap (λ (l : List (List ℕ)). filter (λ part. not (is_empty part)) l)
    (joined_parts word words (All-head IsWord word words row.each) (All-tail IsWord word words row.each))
    ∙ all_some (word ∷ words) row.each

text_is : (words : List (List ℕ)) (more : List ℕ) → row_text words ++ more ≡ joined words ++ 10 ∷ more
text_is words more = append_assoc (joined words) (10 ∷ []) more

parts_of_text : (rows : List (List (List ℕ))) → All IsRow rows → slice_split is_line_end (rows_text rows) ≡ map joined rows ++ [] ∷ []
parts_of_text [] each = refl
parts_of_text (words ∷ rows) each =
    ap (λ (bytes : List ℕ). slice_split is_line_end bytes) (text_is words (rows_text rows))
    ∙ slice_split_at is_line_end (joined words) 10 (rows_text rows) (joined_has_no_end words (All-head IsRow words rows each).each) refl
    ∙ ap (λ (parts : List (List ℕ)). joined words ∷ parts) (parts_of_text rows (All-tail IsRow words rows each))

no_last : (parts : List (List ℕ)) → without_empty_last (parts ++ [] ∷ []) ≡ parts
no_last [] = refl
no_last (part ∷ []) = refl
no_last (part ∷ next ∷ parts) = ap (λ (l : List (List ℕ)). part ∷ l) (no_last (next ∷ parts))

lines_of_text : (rows : List (List (List ℕ))) → All IsRow rows → lines_of (rows_text rows) ≡ map joined rows
lines_of_text rows each = ap without_empty_last (parts_of_text rows each) ∙ no_last (map joined rows)

pub kept_from-kept : (n : ℕ) (line : List ℕ) (rest : List (List ℕ)) → is_kept (words_of line) ≡ true → kept_from n (line ∷ rest) ≡ (n, words_of line) ∷ kept_from (n + 1) rest
kept_from-kept n line rest e = ap (λ (t : Bool). cond t ((n, words_of line) ∷ kept_from (n + 1) rest) (kept_from (n + 1) rest)) e

kept_of_joined : (n : ℕ) (rows : List (List (List ℕ))) → All IsRow rows → kept_from n (map joined rows) ≡ enumerate_from n rows
kept_of_joined n [] each = refl
kept_of_joined n (words ∷ rows) each =
    let row = All-head IsRow words rows each in
    let words_are : words_of (joined words) ≡ words = joined_words words row in
    kept_from-kept n (joined words) (map joined rows) (ap is_kept words_are ∙ row.kept)
    ∙ ap (λ (ws : List (List ℕ)). (n, ws) ∷ kept_from (n + 1) (map joined rows)) words_are
    ∙ ap (λ (l : List (ℕ × List (List ℕ))). (n, words) ∷ l) (kept_of_joined (n + 1) rows (All-tail IsRow words rows each))

count_of_joined : (rows : List (List (List ℕ))) → length (map joined rows) ≡ length rows
count_of_joined [] = refl
count_of_joined (words ∷ rows) = ap (λ (k : ℕ). suc k) (count_of_joined rows)

pub rows_read_back : (rows : List (List (List ℕ))) → All IsRow rows → ReadsBack rows
rows_read_back rows each = record {
  kept = ap (λ (l : List (List ℕ)). kept_from 1 l) (lines_of_text rows each) ∙ kept_of_joined 1 rows each;
  count = ap length (lines_of_text rows each) ∙ count_of_joined rows;
}
