-- Pins of event lines that bytes spell are words.
use Rattle.std.proofs.Common.{◌≡◌, ℕ, ◌+◌, ◌≤◌, Bool, true, false, List, [], ◌∷◌, map, length, sym, ap, ◌∙◌, subst, arith}
use Rattle.std.specs.Prelude.{All}
use Rattle.std.proofs.lemmas.List.{append-nil}
use Rattle.std.proofs.lemmas.List.Elements.{All-nil, All-cons, All-head, All-tail}
use Rattle.word_cutter.specs.LinesWords.{lines_of}
use Rattle.word_cutter.specs.Rows.{IsWord}
use Rattle.word_cutter.specs.LinesLaws.{KeptAreRows}
use Rattle.word_cutter.proofs.Rows.{IsNumberedRow}
use Rattle.scan_vectors.specs.declared.lines.Line.{Line}
use Rattle.scan_vectors.specs.declared.lines.Lines.{Lines}
use Rattle.scan_vectors.specs.Grammar.{Written, written_words, header_words, act_word, act_of, pin_of, SpellsLines}
use Rattle.scan_vectors.specs.Reader.{IsBehind, IsReading}
use Rattle.scan_vectors.specs.Canonical.{IsLines}
use Rattle.scan_vectors.proofs.Steps.{lines_count}

pins_of : (written : List Written) → All IsNumberedRow (map written_words written) → All (λ (line : Line). IsWord (pin_of line)) (map (λ w. w.line) written)
pins_of [] each = All-nil (λ (line : Line). IsWord (pin_of line))
pins_of (w ∷ written) each =
    All-cons (λ (line : Line). IsWord (pin_of line)) w.line (map (λ w. w.line) written)
    (All-head IsWord (pin_of w.line) ((w.letter ∷ []) ∷ [])
    (All-tail IsWord (act_word (act_of w.line)) (pin_of w.line ∷ (w.letter ∷ []) ∷ []) (All-head IsNumberedRow (written_words w) (map written_words written) each).each))
    (pins_of written (All-tail IsNumberedRow (written_words w) (map written_words written) each))

pub spelled_is_printable : KeptAreRows → (bytes : List ℕ) (lines : Lines) → SpellsLines bytes lines → IsLines lines.list
spelled_is_printable law bytes lines s =
    let rows : All IsNumberedRow ((s.header, header_words) ∷ map written_words s.written)
    = subst (λ (l : List (ℕ × List (List ℕ))). All IsNumberedRow l) s.kept_are (law bytes) in
    record {
      pins = subst (λ (l : List Line). All (λ (line : Line). IsWord (pin_of line)) l) (sym s.list_is)
          (pins_of s.written (All-tail IsNumberedRow (s.header, header_words) (map written_words s.written) rows));
      few = (let few : length s.written ≤ 1000000 = s.few in
          let e : length lines.list ≡ length s.written = ap length s.list_is ∙ lines_count s.written in omega arith);
    }

spelled_behind : (bytes : List ℕ) (lines : Lines) → IsBehind bytes lines lines.end [] → SpellsLines bytes lines
spelled_behind bytes lines b = record {
  header = b.header;
  written = b.written;
  kept_are = b.kept_are ∙ ap (λ (l : List (ℕ × List (List ℕ))). (b.header, header_words) ∷ l) (append-nil (map written_words b.written));
  letters = b.letters;
  few = b.few;
  list_is = b.list_is;
  numbers_are = b.numbers_are;
  end_is = (let count : lines.end + 0 ≡ length (lines_of bytes) + 1 = b.count in omega arith);
}

pub printable_at_end : KeptAreRows → (bytes : List ℕ) (lines : Lines) (begun : Bool) (rest : List ℕ) → begun ≡ true → length rest ≡ 0
    → IsReading bytes begun lines lines.end (lines_of rest) → IsLines lines.list
printable_at_end law bytes lines true [] e h reading = spelled_is_printable law bytes lines (spelled_behind bytes lines reading)
printable_at_end law bytes lines false rest e h reading = cc
printable_at_end law bytes lines true (b ∷ more) e h reading = absurd (omega arith)
