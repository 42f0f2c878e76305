-- What is ahead of a reader, line by line.
use Rattle.std.proofs.Common.{◌≡◌, ℕ, suc, ◌+◌, Bool, true, false, cond, List, [], ◌∷◌, length, sym, ap, ◌∙◌, subst, arith}
use Rattle.word_cutter.specs.LinesWords.{lines_of, words_of, is_kept, kept_from}
use Rattle.word_cutter.specs.Ahead.{Ahead, BeginsKept, ahead_of, first_number, rest_of}
use Rattle.word_cutter.proofs.Written.{kept_from-kept}

pub kept_from-skipped : (n : ℕ) (line : List ℕ) (rest : List (List ℕ)) → is_kept (words_of line) ≡ false → kept_from n (line ∷ rest) ≡ kept_from (n + 1) rest
kept_from-skipped n line rest e = ap (λ (t : Bool). cond t ((n, words_of line) ∷ kept_from (n + 1) rest) (kept_from (n + 1) rest)) e

same_ahead : (rows other : List (ℕ × List (List ℕ))) (m n : ℕ) → rows ≡ other → m ≡ n
    → (let a : Ahead = record { rows = rows; end = m } in a) ≡ (let b : Ahead = record { rows = other; end = n } in b)
same_ahead rows other m n e f = cc

-- a line that is skipped changes nothing
pub ahead_skipped : (number : ℕ) (text line rest : List ℕ) → lines_of text ≡ line ∷ lines_of rest → is_kept (words_of line) ≡ false
    → ahead_of (number + 1) rest ≡ ahead_of number text
ahead_skipped number text line rest lines skipped =
    let rows : kept_from number (lines_of text) ≡ kept_from (number + 1) (lines_of rest)
    = ap (λ (l : List (List ℕ)). kept_from number l) lines ∙ kept_from-skipped number line (lines_of rest) skipped in
    let count : length (lines_of text) ≡ suc (length (lines_of rest)) = ap length lines in
    same_ahead (kept_from (number + 1) (lines_of rest)) (kept_from number (lines_of text)) (number + 1 + length (lines_of rest)) (number + length (lines_of text))
    (sym rows) (omega arith)

kept_first : (line : List ℕ) (lines : List (List ℕ)) (all : List (List ℕ)) → all ≡ line ∷ lines → BeginsKept all → is_kept (words_of line) ≡ true
kept_first line lines [] e kept = cc
kept_first line lines (first ∷ more) e kept = let same : first ≡ line = cc in subst (λ (l : List ℕ). is_kept (words_of l) ≡ true) same kept

rows_of_first : (number : ℕ) (text line : List ℕ) (lines : List (List ℕ)) → BeginsKept (lines_of text) → lines_of text ≡ line ∷ lines
    → (ahead_of number text).rows ≡ (number, words_of line) ∷ kept_from (number + 1) lines
rows_of_first number text line lines kept e =
    ap (λ (l : List (List ℕ)). kept_from number l) e ∙ kept_from-kept number line lines (kept_first line lines (lines_of text) e kept)

-- the line at hand is the first row
pub line_there : (a : Ahead) (number : ℕ) (text line rest : List ℕ) → ahead_of number text ≡ a → BeginsKept (lines_of text) → lines_of text ≡ line ∷ lines_of rest
    → a.rows ≡ (first_number a.end a.rows, words_of line) ∷ rest_of a.rows
line_there a number text line rest same kept e =
    let rows : a.rows ≡ (number, words_of line) ∷ kept_from (number + 1) (lines_of rest)
    = ap (λ (b : Ahead). b.rows) (sym same) ∙ rows_of_first number text line (lines_of rest) kept e in
    let first : first_number a.end a.rows ≡ number = ap (λ (l : List (ℕ × List (List ℕ))). first_number a.end l) rows in
    let behind : rest_of a.rows ≡ kept_from (number + 1) (lines_of rest) = ap rest_of rows in
    rows ∙ ap (λ (n : ℕ). (n, words_of line) ∷ kept_from (number + 1) (lines_of rest)) (sym first)
    ∙ ap (λ (l : List (ℕ × List (List ℕ))). (first_number a.end a.rows, words_of line) ∷ l) (sym behind)

-- its number is the reader's
pub number_there : (number : ℕ) (text : List ℕ) → BeginsKept (lines_of text) → number ≡ first_number (ahead_of number text).end (ahead_of number text).rows
number_there number text kept = at (lines_of text) kept
  where
    at : (lines : List (List ℕ)) → BeginsKept lines → number ≡ first_number (number + length lines) (kept_from number lines)
    at [] begins = omega arith
    at (line ∷ lines) begins = ap (λ (l : List (ℕ × List (List ℕ))). first_number (number + suc (length lines)) l) (sym (kept_from-kept number line lines begins))

-- behind the line at hand are the rows behind the first
pub rows_behind : (a b : Ahead) (number : ℕ) (text line rest : List ℕ) → ahead_of number text ≡ a → BeginsKept (lines_of text) → lines_of text ≡ line ∷ lines_of rest
    → b ≡ ahead_of (number + 1) rest → b.rows ≡ rest_of a.rows
rows_behind a b number text line rest same kept e passed =
    ap (λ (x : Ahead). x.rows) passed ∙ sym (ap rest_of (ap (λ (x : Ahead). x.rows) (sym same) ∙ rows_of_first number text line (lines_of rest) kept e))

pub end_behind : (a b : Ahead) (number : ℕ) (text line rest : List ℕ) → ahead_of number text ≡ a → lines_of text ≡ line ∷ lines_of rest → b ≡ ahead_of (number + 1) rest → b.end ≡ a.end
end_behind a b number text line rest same e passed =
    let count : length (lines_of text) ≡ suc (length (lines_of rest)) = ap length e in
    let here : number + 1 + length (lines_of rest) ≡ number + length (lines_of text) = omega arith in
    ap (λ (x : Ahead). x.end) passed ∙ here ∙ ap (λ (x : Ahead). x.end) same
