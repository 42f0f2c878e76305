-- Bytes spell event lines or have a fault, and not both; they spell one list at most.
use Rattle.std.proofs.Common.{◌≡◌, ℕ, ◌+◌, ◌≤◌, Bool, true, false, cond, nat_lt, is_some, List, [], ◌∷◌, map, length, Option, Some, None, refl, sym, ap, ◌∙◌, arith}
use Rattle.std.specs.Prelude.{All}
use Rattle.std.specs.List.{enumerate_from}
use Rattle.std.proofs.lemmas.Bool.{ltb-false}
use Rattle.std.proofs.lemmas.List.Elements.{All-nil, All-cons, All-head, All-tail}
use Rattle.list_laws.proofs.Options.{or_else-parts}
use Rattle.signal_values.specs.Values.{pin_sig_of}
use Rattle.netlist_model.specs.declared.What.TheVariants as what
use Rattle.scan_vectors.specs.declared.fault.EventFault.{EventFault}
use Rattle.scan_vectors.specs.declared.fault.EventFault.TheVariants as fault
use Rattle.scan_vectors.specs.declared.lines.Act.TheVariants as act
use Rattle.scan_vectors.specs.declared.lines.Line.{Line}
use Rattle.scan_vectors.specs.declared.lines.Line.TheVariants as line
use Rattle.scan_vectors.specs.declared.lines.Lines.{Lines}
use Rattle.word_cutter.specs.LinesWords.{kept_lines, lines_of}
use Rattle.scan_vectors.specs.Grammar.{Written, written_words, HasLetter, header_words, event_words, value_of, SpellsLines}
use Rattle.texts.specs.First.{or_else, first_in}
use Rattle.scan_vectors.specs.Faults.{line_fault, line_if, fault_in, first_fault, event_of, is_header}
use Rattle.scan_vectors.proofs.Events.{header_is, event_has_words, HasWords}
use Rattle.scan_vectors.proofs.Steps.{line_fault-fits}

pub event_of-words : (l : Line) (letter : ℕ) → pin_sig_of letter ≡ Some (value_of l) → event_of (event_words l letter) ≡ Some l
event_of-words (line.Start pin value) letter e = ap (λ v. line_if (Some act.Start) pin v) e
event_of-words (line.Set pin value) letter e = ap (λ v. line_if (Some act.Set) pin v) e
event_of-words (line.Expect pin value) letter e = ap (λ v. line_if (Some act.Expect) pin v) e

no_fault : (k : ℕ) (written : List Written) → All HasLetter written → k + length written ≤ 1000001 → first_in line_fault (enumerate_from k (map written_words written)) ≡ None
no_fault k [] letters h = refl
no_fault k (w ∷ written) letters h =
    let fits : k ≤ 1000000 = omega arith in
    ap (λ (o : Option EventFault). or_else o (first_in line_fault (enumerate_from (k + 1) (map written_words written))))
    (line_fault-fits k w.number (event_words w.line w.letter) w.line (event_of-words w.line w.letter (All-head HasLetter w written letters)) fits)
    ∙ no_fault (k + 1) written (All-tail HasLetter w written letters) (omega arith)

pub spelled_is_faultless : (bytes : List ℕ) (lines : Lines) → SpellsLines bytes lines → first_fault bytes ≡ None
spelled_is_faultless bytes lines s =
    ap (λ (l : List (ℕ × List (List ℕ))). fault_in (length (lines_of bytes) + 1) l) s.kept_are
    ∙ no_fault 1 s.written s.letters (let few : length s.written ≤ 1000000 = s.few in omega arith)

-- the event lines of rows without a fault
record WrittenAs (k : ℕ) (rows : List (ℕ × List (List ℕ))) : Type 0 where
  written : List Written
  rows_are : rows ≡ map written_words written
  letters : All HasLetter written
  few : k + length written ≤ 1000001

row_fits-if : (k n : ℕ) (o : Option Line) (t : Bool) → nat_lt 1000000 k ≡ t
    → cond (is_some o) (cond t (Some (fault.TooMany what.Lines 1000001 1000000)) None) (Some (fault.EventLine n)) ≡ None → (l : Line) × (o ≡ Some l) × (k ≤ 1000000)
row_fits-if k n None t e h = cc
row_fits-if k n (Some l) true e h = cc
row_fits-if k n (Some l) false e h = (l, refl, ltb-false 1000000 k e)

row_fits : (k n : ℕ) (words : List (List ℕ)) → line_fault (k, (n, words)) ≡ None → (l : Line) × (event_of words ≡ Some l) × (k ≤ 1000000)
row_fits k n words h = row_fits-if k n (event_of words) (nat_lt 1000000 k) refl h

written_more : (k n : ℕ) (words : List (List ℕ)) (rows : List (ℕ × List (List ℕ))) (l : Line) → HasWords words l → WrittenAs (k + 1) rows → WrittenAs k ((n, words) ∷ rows)
written_more k n words rows l has as' =
    let w : Written = record { number = n; line = l; letter = has.letter } in
    record {
      written = w ∷ as'.written;
      rows_are = ap (λ (ws : List (List ℕ)). (n, ws) ∷ rows) has.words_are ∙ ap (λ (l : List (ℕ × List (List ℕ))). (n, event_words w.line w.letter) ∷ l) as'.rows_are;
      letters = All-cons HasLetter w as'.written has.value_is as'.letters;
      few = (let few : k + 1 + length as'.written ≤ 1000001 = as'.few in omega arith);
    }

written_from : (k : ℕ) (rows : List (ℕ × List (List ℕ))) → k ≤ 1000001 → first_in line_fault (enumerate_from k rows) ≡ None → WrittenAs k rows
written_from k [] fits h = record { written = []; rows_are = refl; letters = All-nil HasLetter; few = omega arith }
written_from k ((n, words) ∷ rows) fits h =
    let both = or_else-parts (line_fault (k, (n, words))) (first_in line_fault (enumerate_from (k + 1) rows)) h in
    let row = row_fits k n words both.0 in
    written_more k n words rows row.0 (event_has_words words row.0 row.1) (written_from (k + 1) rows (let f : k ≤ 1000000 = row.2 in omega arith) both.1)

if_header : {X : Type 0} (t : Bool) (a b : Option X) (x : X) → b ≡ Some x → cond t a b ≡ None → (t ≡ true) × (a ≡ None)
if_header true a b x e h = (refl, h)
if_header false a b x e h = cc

spelled_by : (bytes : List ℕ) (rows : List (ℕ × List (List ℕ))) → kept_lines bytes ≡ rows → fault_in (length (lines_of bytes) + 1) rows ≡ None → (lines : Lines) × SpellsLines bytes lines
spelled_by bytes [] e h = cc
spelled_by bytes ((n, words) ∷ rows) e h =
    let both = if_header (is_header words) (first_in line_fault (enumerate_from 1 rows)) (Some (fault.EventLine n)) (fault.EventLine n) refl h in
    let w = written_from 1 rows (omega arith) both.1 in
    let lines : Lines = record { list = map (λ v. v.line) w.written; numbers = map (λ v. v.number) w.written; end = length (lines_of bytes) + 1 } in (
      lines,
      record {
        header = n;
        written = w.written;
        kept_are = e ∙ ap (λ (ws : List (List ℕ)). (n, ws) ∷ rows) (header_is words both.0) ∙ ap (λ (l : List (ℕ × List (List ℕ))). (n, header_words) ∷ l) w.rows_are;
        letters = w.letters;
        few = (let few : 1 + length w.written ≤ 1000001 = w.few in omega arith);
        list_is = refl;
        numbers_are = refl;
        end_is = refl;
      },
    )

pub faultless_is_spelled : (bytes : List ℕ) → first_fault bytes ≡ None → (lines : Lines) × SpellsLines bytes lines
faultless_is_spelled bytes h = spelled_by bytes (kept_lines bytes) refl h

events_of : (written : List Written) → All HasLetter written → map (λ row. event_of row.1) (map written_words written) ≡ map Some (map (λ w. w.line) written)
events_of [] letters = refl
events_of (w ∷ written) letters =
    let head : event_of (event_words w.line w.letter) ≡ Some w.line = event_of-words w.line w.letter (All-head HasLetter w written letters) in
    let tail = events_of written (All-tail HasLetter w written letters) in
    ap (λ (o : Option Line). o ∷ map (λ (row : ℕ × List (List ℕ)). event_of row.1) (map written_words written)) head
    ∙ ap (λ (l : List (Option Line)). Some w.line ∷ l) tail

numbers_of : (written : List Written) → map (λ row. row.0) (map written_words written) ≡ map (λ w. w.number) written
numbers_of [] = refl
numbers_of (w ∷ written) = ap (λ (l : List ℕ). w.number ∷ l) (numbers_of written)

same_under_some : (xs ys : List Line) → map (λ x. Some x) xs ≡ map (λ x. Some x) ys → xs ≡ ys
same_under_some [] [] e = refl
same_under_some [] (y ∷ ys) e = cc
same_under_some (x ∷ xs) [] e = cc
same_under_some (x ∷ xs) (y ∷ ys) e =
    let t : map (λ (x : Line). Some x) xs ≡ map (λ (x : Line). Some x) ys = cc in
    let k : xs ≡ ys = same_under_some xs ys t in
    let h : x ≡ y = cc in cc

same_list : (one other : List Written) → All HasLetter one → All HasLetter other → map written_words one ≡ map written_words other
    → map (λ w. w.line) one ≡ map (λ w. w.line) other
same_list one other first second rows = same_under_some (map (λ w. w.line) one) (map (λ w. w.line) other)
    (sym (events_of one first) ∙ ap (λ (l : List (ℕ × List (List ℕ))). map (λ row. event_of row.1) l) rows ∙ events_of other second)

same_numbers : (one other : List Written) → map written_words one ≡ map written_words other → map (λ w. w.number) one ≡ map (λ w. w.number) other
same_numbers one other rows = sym (numbers_of one) ∙ ap (λ (l : List (ℕ × List (List ℕ))). map (λ row. row.0) l) rows ∙ numbers_of other

same_rows : (a b : ℕ × List (List ℕ)) (one other : List (ℕ × List (List ℕ))) → a ∷ one ≡ b ∷ other → one ≡ other
same_rows a b one other e = cc

same_lines : (a b : Lines) → a.list ≡ b.list → a.numbers ≡ b.numbers → a.end ≡ b.end → a ≡ b
same_lines a b list numbers end =
    ap (λ (l : List Line). record { list = l; numbers = a.numbers; end = a.end }) list
    ∙ ap (λ (l : List ℕ). record { list = b.list; numbers = l; end = a.end }) numbers
    ∙ ap (λ (n : ℕ). record { list = b.list; numbers = b.numbers; end = n }) end

pub spelled_once : (bytes : List ℕ) (one other : Lines) → SpellsLines bytes one → SpellsLines bytes other → one ≡ other
spelled_once bytes a b s t =
    let rows = same_rows (s.header, header_words) (t.header, header_words) (map written_words s.written) (map written_words t.written) (sym s.kept_are ∙ t.kept_are) in
    same_lines a b
    (s.list_is ∙ same_list s.written t.written s.letters t.letters rows ∙ sym t.list_is)
    (s.numbers_are ∙ same_numbers s.written t.written rows ∙ sym t.numbers_are)
    (s.end_is ∙ sym t.end_is)
