-- The kept lines of any text are rows of words.
use Rattle.std.proofs.Common.{◌≡◌, ℕ, ◌+◌, Bool, true, false, cond, not, List, [], ◌∷◌, filter, refl}
use Rattle.std.specs.Prelude.{All}
use Rattle.std.specs.List.{slice_split, onto_first}
use Rattle.std.proofs.lemmas.List.Elements.{All-nil, All-cons, All-head, All-tail}
use Rattle.word_cutter.specs.LinesWords.{is_line_end, is_blank_byte, is_empty, without_empty_last, lines_of, words_of, is_kept, kept_from, kept_lines}
use Rattle.word_cutter.specs.Rows.{IsWord, IsRow}

-- what is true of each byte is true of each byte of the parts
abbrev EachByte : (ℕ → Type 0) → List (List ℕ) → Type 0
EachByte Q parts = All (λ (part : List ℕ). All Q part) parts

byte_onto : (Q : ℕ → Type 0) (b : ℕ) (parts : List (List ℕ)) → Q b → EachByte Q parts → EachByte Q (onto_first b parts)
byte_onto Q b [] q each = All-cons (λ (part : List ℕ). All Q part) (b ∷ []) [] (All-cons Q b [] q (All-nil Q)) each
byte_onto Q b (part ∷ parts) q each =
    All-cons (λ (part : List ℕ). All Q part) (b ∷ part) parts
    (All-cons Q b part q (All-head (λ (part : List ℕ). All Q part) part parts each))
    (All-tail (λ (part : List ℕ). All Q part) part parts each)

bytes_of_parts-step : (Q : ℕ → Type 0) (p : ℕ → Bool) (b : ℕ) (parts : List (List ℕ)) (t : Bool) → Q b → EachByte Q parts
    → EachByte Q (cond t ([] ∷ parts) (onto_first b parts))
bytes_of_parts-step Q p b parts true q each = All-cons (λ (part : List ℕ). All Q part) [] parts (All-nil Q) each
bytes_of_parts-step Q p b parts false q each = byte_onto Q b parts q each

bytes_of_parts : (Q : ℕ → Type 0) (p : ℕ → Bool) (bytes : List ℕ) → All Q bytes → EachByte Q (slice_split p bytes)
bytes_of_parts Q p [] each = All-cons (λ (part : List ℕ). All Q part) [] [] (All-nil Q) (All-nil (λ (part : List ℕ). All Q part))
bytes_of_parts Q p (b ∷ bytes) each =
    bytes_of_parts-step Q p b (slice_split p bytes) (p b) (All-head Q b bytes each) (bytes_of_parts Q p bytes (All-tail Q b bytes each))

parts_without-step : (p : ℕ → Bool) (b : ℕ) (parts : List (List ℕ)) (t : Bool) → p b ≡ t → EachByte (λ b. p b ≡ false) parts
    → EachByte (λ b. p b ≡ false) (cond t ([] ∷ parts) (onto_first b parts))
parts_without-step p b parts true e each = All-cons (λ (part : List ℕ). All (λ b. p b ≡ false) part) [] parts (All-nil (λ b. p b ≡ false)) each
parts_without-step p b parts false e each = byte_onto (λ b. p b ≡ false) b parts e each

-- no byte that ends a part is in one
parts_without : (p : ℕ → Bool) (bytes : List ℕ) → EachByte (λ b. p b ≡ false) (slice_split p bytes)
parts_without p [] = All-cons (λ (part : List ℕ). All (λ b. p b ≡ false) part) [] [] (All-nil (λ b. p b ≡ false)) (All-nil (λ (part : List ℕ). All (λ b. p b ≡ false) part))
parts_without p (b ∷ bytes) = parts_without-step p b (slice_split p bytes) (p b) refl (parts_without p bytes)

all_but_last : (P : List ℕ → Type 0) (parts : List (List ℕ)) → All P parts → All P (without_empty_last parts)
all_but_last P [] each = All-nil P
all_but_last P ([] ∷ []) each = All-nil P
all_but_last P ((b ∷ bytes) ∷ []) each = each
all_but_last P (part ∷ next ∷ parts) each =
    All-cons P part (without_empty_last (next ∷ parts)) (All-head P part (next ∷ parts) each)
    (all_but_last P (next ∷ parts) (All-tail P part (next ∷ parts) each))

lines_without_end : (bytes : List ℕ) → EachByte (λ b. is_line_end b ≡ false) (lines_of bytes)
lines_without_end bytes = all_but_last (λ part. All (λ b. is_line_end b ≡ false) part) (slice_split is_line_end bytes) (parts_without is_line_end bytes)

word_of_part : (b : ℕ) (bytes : List ℕ) → All (λ b. is_blank_byte b ≡ false) (b ∷ bytes) → All (λ b. is_line_end b ≡ false) (b ∷ bytes) → IsWord (b ∷ bytes)
word_of_part b bytes blanks ends = record {
  some = λ e. cc;
  each = λ k d h. record { no_blank = blanks k d h; no_end = ends k d h };
}

words_of_parts : (parts : List (List ℕ)) → EachByte (λ b. is_blank_byte b ≡ false) parts → EachByte (λ b. is_line_end b ≡ false) parts
    → All IsWord (filter (λ part. not (is_empty part)) parts)
words_of_parts [] blanks ends = All-nil IsWord
words_of_parts ([] ∷ parts) blanks ends = words_of_parts parts
    (All-tail (λ (part : List ℕ). All (λ b. is_blank_byte b ≡ false) part) [] parts blanks) (All-tail (λ (part : List ℕ). All (λ b. is_line_end b ≡ false) part) [] parts ends)
words_of_parts ((b ∷ bytes) ∷ parts) blanks ends =
    All-cons IsWord (b ∷ bytes) (filter (λ part. not (is_empty part)) parts)
    (word_of_part b bytes (All-head (λ (part : List ℕ). All (λ b. is_blank_byte b ≡ false) part) (b ∷ bytes) parts blanks)
    (All-head (λ (part : List ℕ). All (λ b. is_line_end b ≡ false) part) (b ∷ bytes) parts ends))
    (words_of_parts parts (All-tail (λ (part : List ℕ). All (λ b. is_blank_byte b ≡ false) part) (b ∷ bytes) parts blanks)
    (All-tail (λ (part : List ℕ). All (λ b. is_line_end b ≡ false) part) (b ∷ bytes) parts ends))

words_are_words : (line : List ℕ) → All (λ b. is_line_end b ≡ false) line → All IsWord (words_of line)
words_are_words line ends = words_of_parts (slice_split is_blank_byte line) (parts_without is_blank_byte line) (bytes_of_parts (λ b. is_line_end b ≡ false) is_blank_byte line ends)

abbrev pub IsNumberedRow : ℕ × List (List ℕ) → Type 0
IsNumberedRow row = IsRow row.1

kept_are_rows-step : (n : ℕ) (words : List (List ℕ)) (rows : List (ℕ × List (List ℕ))) (t : Bool) → is_kept words ≡ t → All IsWord words → All IsNumberedRow rows
    → All IsNumberedRow (cond t ((n, words) ∷ rows) rows)
kept_are_rows-step n words rows true kept each more = All-cons IsNumberedRow (n, words) rows (record { kept = kept; each = each }) more
kept_are_rows-step n words rows false kept each more = more

kept_from_are_rows : (n : ℕ) (lines : List (List ℕ)) → EachByte (λ b. is_line_end b ≡ false) lines → All IsNumberedRow (kept_from n lines)
kept_from_are_rows n [] each = All-nil IsNumberedRow
kept_from_are_rows n (line ∷ lines) each =
    kept_are_rows-step n (words_of line) (kept_from (n + 1) lines) (is_kept (words_of line)) refl
    (words_are_words line (All-head (λ (part : List ℕ). All (λ b. is_line_end b ≡ false) part) line lines each))
    (kept_from_are_rows (n + 1) lines (All-tail (λ (part : List ℕ). All (λ b. is_line_end b ≡ false) part) line lines each))

pub kept_are_rows : (bytes : List ℕ) → All (λ (row : ℕ × List (List ℕ)). IsRow row.1) (kept_lines bytes)
kept_are_rows bytes = kept_from_are_rows 1 (lines_of bytes) (lines_without_end bytes)
