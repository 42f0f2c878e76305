-- A text has no more kept lines than bytes.
use Rattle.std.proofs.Common.{◌≡◌, ◌≤◌, ◌<◌, ℕ, zero, suc, ◌+◌, ◌-◌, Bool, true, false, cond, List, [], ◌∷◌, length, drop, map, filter, refl, ap, inl, inr, arith, length-drop}
use Rattle.std.specs.List.{position_or_len, enumerate_from}
use Rattle.std.proofs.lemmas.Bool.Decides.{leb_tells}
use Rattle.std.proofs.lemmas.List.{length-map}
use Rattle.word_cutter.specs.LinesWords.{is_line_end, lines_of, words_of, is_kept, kept_lines}
use Rattle.word_cutter.specs.Ahead.{rest_of}
use Rattle.word_cutter.proofs.Cut.{line_within, line_to_end}

lines_within : (n : ℕ) (text : List ℕ) → length text ≤ n → length (lines_of text) ≤ length text
lines_within n [] fits = omega arith
lines_within zero (b ∷ bytes) fits = absurd (omega arith)
lines_within (suc n) (b ∷ bytes) fits = elim (leb_tells (suc (position_or_len is_line_end (b ∷ bytes))) (length (b ∷ bytes))) [
  | inl h ↦
      let end = position_or_len is_line_end (b ∷ bytes) in
      let more = drop (end + 1) (b ∷ bytes) in
      let same : length (lines_of (b ∷ bytes)) ≡ suc (length (lines_of more)) = ap length (line_within (b ∷ bytes) h.1) in
      let left : length more ≡ length (b ∷ bytes) - (end + 1) = length-drop (end + 1) (b ∷ bytes) in
      let short : length (lines_of more) ≤ length more = lines_within n more (omega arith) in
      omega arith
  | inr h ↦
      let end = position_or_len is_line_end (b ∷ bytes) in
      let same : length (lines_of (b ∷ bytes)) ≡ suc (length (lines_of (drop (length (b ∷ bytes)) (b ∷ bytes)))) = ap length (line_to_end (b ∷ bytes) (omega arith) (omega arith)) in
      let more = drop (length (b ∷ bytes)) (b ∷ bytes) in
      let left : length more ≡ length (b ∷ bytes) - length (b ∷ bytes) = length-drop (length (b ∷ bytes)) (b ∷ bytes) in
      let short : length (lines_of more) ≤ length more = lines_within n more (omega arith) in
      omega arith
]

length-enumerated : {X : Type 0} (n : ℕ) (xs : List X) → length (enumerate_from n xs) ≡ length xs
length-enumerated n [] = refl
length-enumerated n (x ∷ xs) = ap suc (length-enumerated (n + 1) xs)

length-filtered : {X : Type 0} (p : X → Bool) (xs : List X) → length (filter p xs) ≤ length xs
length-filtered p [] = omega arith
length-filtered p (x ∷ xs) = by (p x) (length-filtered p xs)
  where
    by : (b : Bool) → length (filter p xs) ≤ length xs → length (cond b (x ∷ filter p xs) (filter p xs)) ≤ suc (length xs)
    by true h = omega arith
    by false h = omega arith

rest_within : (rows : List (ℕ × List (List ℕ))) → length (rest_of rows) ≤ length rows
rest_within [] = omega arith
rest_within (row ∷ rows) = omega arith

pub kept_within : (bytes : List ℕ) → length (rest_of (kept_lines bytes)) ≤ length bytes
kept_within bytes =
    let a = rest_within (kept_lines bytes) in
    let b = length-filtered (λ (row : ℕ × List (List ℕ)). is_kept row.1) (enumerate_from 1 (map words_of (lines_of bytes))) in
    let c = length-enumerated 1 (map words_of (lines_of bytes)) in
    let d : length (map words_of (lines_of bytes)) ≡ length (lines_of bytes) = length-map (lines_of bytes) words_of in
    let e = lines_within (length bytes) bytes (omega arith) in
    omega arith
