-- The numbers of event lines ascend.
use Rattle.std.proofs.Common.{◌≡◌, ℕ, zero, suc, ◌+◌, ◌<◌, ◌≤◌, Bool, true, false, List, [], ◌∷◌, length, map, Some, refl, sym, subst, ap, ◌∙◌, arith}
use Rattle.std.specs.Prelude.{slice_get}
use Rattle.std.proofs.lemmas.List.{length-map}
use Rattle.std.proofs.lemmas.Option.{same_Some}
use Rattle.word_cutter.specs.LinesWords.{lines_of, words_of, is_kept, kept_from, kept_lines}
use Rattle.word_cutter.proofs.Written.{kept_from-kept}
use Rattle.word_cutter.proofs.Ahead.{kept_from-skipped}
use Rattle.scan_vectors.specs.declared.lines.Lines.{Lines}
use Rattle.scan_vectors.specs.Grammar.{Written, written_words, SpellsLines}
use Rattle.scan_vectors.specs.Scripts.{IsSpelled}

-- What ascends.

-- each number is above those before it; they begin here at the earliest, and end before the end
abbrev pub Ascend : ℕ → ℕ → List ℕ → Type 0
Ascend start end [] = start ≤ end
Ascend start end (number ∷ numbers) = (start ≤ number) × Ascend (suc number) end numbers

-- each line has a number, and these ascend
pub record AreNumbered (lines : Lines) : Type 0 where
  pub count : length lines.numbers ≡ length lines.list
  pub ascend : Ascend 0 lines.end lines.numbers

ascend_later : (start other end : ℕ) (numbers : List ℕ) → other ≤ start → Ascend start end numbers → Ascend other end numbers
ascend_later start other end [] less ascend = omega (arith, less, ascend)
ascend_later start other end (number ∷ numbers) less ascend = (let first = ascend.0 in omega (arith, less, first), ascend.1)

-- each number lies between
pub ascend_at : (start end : ℕ) (numbers : List ℕ) (place number : ℕ) → Ascend start end numbers → slice_get numbers place ≡ Some number → (start ≤ number) × (number < end)
ascend_at start end [] place number ascend at = absurd (cc)
ascend_at start end (first ∷ numbers) zero number ascend at =
    let same : first ≡ number = same_Some first number at in
    let here : start ≤ first = ascend.0 in
    let past : suc first ≤ end = ends (suc first) end numbers ascend.1 in (omega (arith, same, here), omega (arith, same, past))
  where
    ends : (start end : ℕ) (numbers : List ℕ) → Ascend start end numbers → start ≤ end
    ends start end [] ascend = ascend
    ends start end (number ∷ numbers) ascend = let first = ascend.0 in let more = ends (suc number) end numbers ascend.1 in omega (arith, first, more)
ascend_at start end (first ∷ numbers) (suc place) number ascend at =
    let later = ascend_at (suc first) end numbers place number ascend.1 at in
    let here : start ≤ first = ascend.0 in (let low = later.0 in omega (arith, here, low), later.1)

-- a number is above those at earlier places
pub ascend_apart : (start end : ℕ) (numbers : List ℕ) (one other number later : ℕ) → Ascend start end numbers → one < other → slice_get numbers one ≡ Some number
    → slice_get numbers other ≡ Some later → number < later
ascend_apart start end [] one other number later ascend less at at_other = absurd (cc)
ascend_apart start end (first ∷ numbers) one zero number later ascend less at at_other = absurd (omega (arith, less))
ascend_apart start end (first ∷ numbers) zero (suc other) number later ascend less at at_other =
    let same : first ≡ number = same_Some first number at in
    let above = (ascend_at (suc first) end numbers other later ascend.1 at_other).0 in omega (arith, same, above)
ascend_apart start end (first ∷ numbers) (suc one) (suc other) number later ascend less at at_other =
    ascend_apart (suc first) end numbers one other number later ascend.1 (omega (arith, less)) at at_other

-- The numbers of kept lines.

abbrev numbers_of : List (ℕ × List (List ℕ)) → List ℕ
numbers_of rows = map (λ (row : ℕ × List (List ℕ)). row.0) rows

kept_ascend : (n : ℕ) (lines : List (List ℕ)) → Ascend n (n + length lines) (numbers_of (kept_from n lines))
kept_ascend n [] = omega arith
kept_ascend n (line ∷ lines) = one (is_kept (words_of line)) refl (kept_ascend (n + 1) lines)
  where
    end : n + 1 + length lines ≡ n + suc (length lines)
    end = omega arith

    one : (kept : Bool) → is_kept (words_of line) ≡ kept → Ascend (n + 1) (n + 1 + length lines) (numbers_of (kept_from (n + 1) lines))
        → Ascend n (n + suc (length lines)) (numbers_of (kept_from n (line ∷ lines)))
    one true kept rest =
        let P : List (ℕ × List (List ℕ)) → Type 0 = λ rows. Ascend n (n + suc (length lines)) (numbers_of rows) in
        let Q : ℕ → Type 0 = λ e. Ascend (n + 1) e (numbers_of (kept_from (n + 1) lines)) in
        let R : ℕ → Type 0 = λ s. Ascend s (n + suc (length lines)) (numbers_of (kept_from (n + 1) lines)) in
        let next : n + 1 ≡ suc n = omega arith in
        subst P (sym (kept_from-kept n line lines kept)) (omega arith, subst R next (subst Q end rest))
    one false kept rest =
        let P : List (ℕ × List (List ℕ)) → Type 0 = λ rows. Ascend n (n + suc (length lines)) (numbers_of rows) in
        let Q : ℕ → Type 0 = λ e. Ascend (n + 1) e (numbers_of (kept_from (n + 1) lines)) in
        subst P (sym (kept_from-skipped n line lines kept)) (ascend_later (n + 1) n (n + suc (length lines)) (numbers_of (kept_from (n + 1) lines)) (omega arith) (subst Q end rest))

written_numbers : (written : List Written) → numbers_of (map written_words written) ≡ map (λ (w : Written). w.number) written
written_numbers [] = refl
written_numbers (w ∷ written) = ap (λ (l : List ℕ). w.number ∷ l) (written_numbers written)

-- lines that some bytes spell are numbered so
spells_numbered : (bytes : List ℕ) (lines : Lines) → SpellsLines bytes lines → AreNumbered lines
spells_numbered bytes lines s =
    let all : Ascend 1 (1 + length (lines_of bytes)) (numbers_of (kept_lines bytes)) = kept_ascend 1 (lines_of bytes) in
    let P : List (ℕ × List (List ℕ)) → Type 0 = λ rows. Ascend 1 (1 + length (lines_of bytes)) (numbers_of rows) in
    let behind = (subst P s.kept_are all).1 in
    let end : 1 + length (lines_of bytes) ≡ lines.end = (let is = s.end_is in omega (arith, is)) in
    let Q : ℕ → Type 0 = λ e. Ascend (suc s.header) e (numbers_of (map written_words s.written)) in
    let R : List ℕ → Type 0 = λ l. Ascend (suc s.header) lines.end l in
    record {
      count = ap length s.numbers_are ∙ length-map s.written (λ w. w.number) ∙ sym (length-map s.written (λ w. w.line)) ∙ sym (ap length s.list_is);
      ascend = ascend_later (suc s.header) 0 lines.end lines.numbers (omega arith) (subst R (written_numbers s.written ∙ sym s.numbers_are) (subst Q end behind));
    }

pub spelled_numbered : (lines : Lines) → IsSpelled lines → AreNumbered lines
spelled_numbered lines is = spells_numbered is.bytes lines is.spells
