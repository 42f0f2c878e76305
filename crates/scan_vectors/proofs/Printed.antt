-- The canonical text spells its event lines.
use Rattle.std.proofs.Common.{codes, ◌≡◌, ◌↔◌, ℕ, suc, ◌+◌, ◌≤◌, Bool, true, false, cond, List, [], ◌∷◌, map, length, Some, refl, ap, ◌∙◌, subst, arith}
use Rattle.std.specs.Prelude.{All}
use Rattle.std.specs.List.{enumerate_from}
use Rattle.std.proofs.lemmas.List.Elements.{All-nil, All-cons, All-head, All-tail}
use Rattle.signal_values.specs.declared.PinSig.{PinSig}
use Rattle.signal_values.specs.declared.PinSig.TheVariants as pin_sig
use Rattle.signal_values.specs.Values.{pin_sig_of, show_byte}
use Rattle.word_cutter.specs.LinesWords.{is_line_end, is_blank_byte, is_kept, lines_of, kept_lines}
use Rattle.word_cutter.specs.Rows.{IsWordByte, IsWord, IsRow}
use Rattle.word_cutter.specs.LinesLaws.{KeptAreRows, ReadsBack, RowsReadBack}
use Rattle.scan_vectors.specs.declared.lines.Act.{Act}
use Rattle.scan_vectors.specs.declared.lines.Act.TheVariants as act
use Rattle.scan_vectors.specs.declared.lines.Line.{Line}
use Rattle.scan_vectors.specs.declared.lines.Lines.{Lines}
use Rattle.scan_vectors.specs.Grammar.{Written, written_words, HasLetter, header_words, act_word, act_of, pin_of, value_of, SpellsLines}
use Rattle.scan_vectors.specs.Canonical.{canonical_words, canonical_text, canonical_lines, IsLines}
use Rattle.scan_vectors.proofs.Pins.{spelled_is_printable}

word_bytes : (bytes : List ℕ) → Bool
word_bytes [] = true
word_bytes (b ∷ bytes) = cond (is_blank_byte b) false (cond (is_line_end b) false (word_bytes bytes))

word_bytes-step : (b : ℕ) (s t rest : Bool) → is_blank_byte b ≡ s → is_line_end b ≡ t → cond s false (cond t false rest) ≡ true → IsWordByte b × (rest ≡ true)
word_bytes-step b true t rest e f h = cc
word_bytes-step b false true rest e f h = cc
word_bytes-step b false false rest e f h = (record { no_blank = e; no_end = f }, h)

each_word_byte : (bytes : List ℕ) → word_bytes bytes ≡ true → All IsWordByte bytes
unfolding word_bytes
each_word_byte [] h = All-nil IsWordByte
each_word_byte (b ∷ bytes) h =
    let both = word_bytes-step b (is_blank_byte b) (is_line_end b) (word_bytes bytes) refl refl h in
    All-cons IsWordByte b bytes both.0 (each_word_byte bytes both.1)

act_is_word : (a : Act) → IsWord (act_word a)
unfolding word_bytes
act_is_word act.Start = record { some = λ e. cc; each = each_word_byte (act_word act.Start) refl }
act_is_word act.Set = record { some = λ e. cc; each = each_word_byte (act_word act.Set) refl }
act_is_word act.Expect = record { some = λ e. cc; each = each_word_byte (act_word act.Expect) refl }

letter_is_byte : (value : PinSig) → IsWordByte (show_byte value)
letter_is_byte pin_sig.Zero = record { no_blank = refl; no_end = refl }
letter_is_byte pin_sig.One = record { no_blank = refl; no_end = refl }
letter_is_byte pin_sig.Unknown = record { no_blank = refl; no_end = refl }
letter_is_byte pin_sig.HighZ = record { no_blank = refl; no_end = refl }

letter_reads : (value : PinSig) → pin_sig_of (show_byte value) ≡ Some value
letter_reads pin_sig.Zero = refl
letter_reads pin_sig.One = refl
letter_reads pin_sig.Unknown = refl
letter_reads pin_sig.HighZ = refl

letter_is_word : (value : PinSig) → IsWord (show_byte value ∷ [])
letter_is_word value = record { some = λ e. cc; each = All-cons IsWordByte (show_byte value) [] (letter_is_byte value) (All-nil IsWordByte) }

kept_act : (a : Act) (more : List (List ℕ)) → is_kept (act_word a ∷ more) ≡ true
kept_act act.Start more = refl
kept_act act.Set more = refl
kept_act act.Expect more = refl

line_is_row : (l : Line) → IsWord (pin_of l) → IsRow (canonical_words l)
line_is_row l pin = record {
  kept = kept_act (act_of l) (pin_of l ∷ (show_byte (value_of l) ∷ []) ∷ []);
  each = All-cons IsWord (act_word (act_of l)) (pin_of l ∷ (show_byte (value_of l) ∷ []) ∷ []) (act_is_word (act_of l))
      (All-cons IsWord (pin_of l) ((show_byte (value_of l) ∷ []) ∷ []) pin
      (All-cons IsWord (show_byte (value_of l) ∷ []) [] (letter_is_word (value_of l)) (All-nil IsWord)));
}

lines_are_rows : (list : List Line) → All (λ (l : Line). IsWord (pin_of l)) list → All IsRow (map canonical_words list)
lines_are_rows [] pins = All-nil IsRow
lines_are_rows (l ∷ list) pins =
    All-cons IsRow (canonical_words l) (map canonical_words list) (line_is_row l (All-head (λ (l : Line). IsWord (pin_of l)) l list pins))
    (lines_are_rows list (All-tail (λ (l : Line). IsWord (pin_of l)) l list pins))

header_is_row : IsRow header_words
unfolding word_bytes
header_is_row = record {
  kept = refl;
  each = All-cons IsWord (codes "events") (codes "1" ∷ []) (record { some = λ e. cc; each = each_word_byte (codes "events") refl })
      (All-cons IsWord (codes "1") [] (record { some = λ e. cc; each = each_word_byte (codes "1") refl }) (All-nil IsWord));
}

all_rows : (list : List Line) → All (λ (l : Line). IsWord (pin_of l)) list → All IsRow (header_words ∷ map canonical_words list)
all_rows list pins = All-cons IsRow header_words (map canonical_words list) header_is_row (lines_are_rows list pins)

written_from : ℕ → List Line → List Written
written_from n [] = []
written_from n (l ∷ list) = record { number = n; line = l; letter = show_byte (value_of l) } ∷ written_from (n + 1) list

written_rows : (n : ℕ) (list : List Line) → enumerate_from n (map canonical_words list) ≡ map written_words (written_from n list)
unfolding written_from
written_rows n [] = refl
written_rows n (l ∷ list) = ap (λ (rows : List (ℕ × List (List ℕ))). (n, canonical_words l) ∷ rows) (written_rows (n + 1) list)

letters_of : (n : ℕ) (list : List Line) → All HasLetter (written_from n list)
unfolding written_from
letters_of n [] = All-nil HasLetter
letters_of n (l ∷ list) = All-cons HasLetter (record { number = n; line = l; letter = show_byte (value_of l) }) (written_from (n + 1) list) (letter_reads (value_of l)) (letters_of (n + 1) list)

count_of : (n : ℕ) (list : List Line) → length (written_from n list) ≡ length list
unfolding written_from
count_of n [] = refl
count_of n (l ∷ list) = ap (λ (k : ℕ). suc k) (count_of (n + 1) list)

list_of : (n : ℕ) (list : List Line) → list ≡ map (λ w. w.line) (written_from n list)
unfolding written_from
list_of n [] = refl
list_of n (l ∷ list) = ap (λ (k : List Line). l ∷ k) (list_of (n + 1) list)

numbers_of : (n : ℕ) (list : List Line) → map (λ row. row.0) (enumerate_from n list) ≡ map (λ w. w.number) (written_from n list)
unfolding written_from
numbers_of n [] = refl
numbers_of n (l ∷ list) = ap (λ (k : List ℕ). n ∷ k) (numbers_of (n + 1) list)

words_count : (list : List Line) → length (map canonical_words list) ≡ length list
words_count [] = refl
words_count (l ∷ list) = ap (λ (k : ℕ). suc k) (words_count list)

pub canonical_spells : RowsReadBack → (list : List Line) → IsLines list → SpellsLines (canonical_text list) (canonical_lines list)
canonical_spells law list is =
    let back : ReadsBack (header_words ∷ map canonical_words list) = law (header_words ∷ map canonical_words list) (all_rows list is.pins) in
    let kept : kept_lines (canonical_text list) ≡ (1, header_words) ∷ enumerate_from 2 (map canonical_words list) = back.kept in
    record {
      header = 1;
      written = written_from 2 list;
      kept_are = kept ∙ ap (λ (rows : List (ℕ × List (List ℕ))). (1, header_words) ∷ rows) (written_rows 2 list);
      letters = letters_of 2 list;
      few = (let few : length list ≤ 1000000 = is.few in let e = count_of 2 list in omega arith);
      list_is = list_of 2 list;
      numbers_are = numbers_of 2 list;
      end_is = (let e : length (lines_of (canonical_text list)) ≡ suc (length (map canonical_words list)) = back.count in
          let k = words_count list in omega arith);
    }

pub printable_iff : KeptAreRows → RowsReadBack → (list : List Line) → IsLines list ↔ ((bytes : List ℕ) × ((lines : Lines) × (SpellsLines bytes lines × (lines.list ≡ list))))
printable_iff kept_law law list = (
  λ is. (canonical_text list, (canonical_lines list, (canonical_spells law list is, refl))),
  λ (bytes, (lines, (spells, e))). subst (λ (l : List Line). IsLines l) e (spelled_is_printable kept_law bytes lines spells),
)
