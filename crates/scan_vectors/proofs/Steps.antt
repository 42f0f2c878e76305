-- Each line that is read keeps what stands while a text is read.
use Rattle.std.proofs.Common.{◌≡◌, ℕ, ◌+◌, ◌<◌, ◌≤◌, suc, Bool, true, cond, nat_lt, is_some, List, [], ◌∷◌, ◌++◌, map, length, Option, Some, None, Result, Ok, Err, refl, sym, ap, ◌∙◌, subst, arith, length-append}
use Rattle.std.specs.Prelude.{OnOk, IfErr}
use Rattle.std.specs.List.{enumerate_from}
use Rattle.std.proofs.lemmas.Bool.{le-ltb, lt-ltb}
use Rattle.std.proofs.lemmas.List.{map-append}
use Rattle.std.proofs.lemmas.List.Elements.{All-nil, All-push}
use Rattle.netlist_model.specs.declared.What.TheVariants as what
use Rattle.scan_vectors.specs.declared.fault.EventFault.{EventFault}
use Rattle.scan_vectors.specs.declared.fault.EventFault.TheVariants as fault
use Rattle.scan_vectors.specs.declared.lines.Line.{Line}
use Rattle.scan_vectors.specs.declared.lines.Lines.{Lines}
use Rattle.scan_vectors.specs.declared.reader.Reader.{Reader}
use Rattle.word_cutter.specs.LinesWords.{words_of, is_kept, kept_from, kept_lines, lines_of}
use Rattle.scan_vectors.specs.Grammar.{Written, written_words, HasLetter, header_words}
use Rattle.texts.specs.First.{or_else, first_in}
use Rattle.word_cutter.proofs.Written.{kept_from-kept}
use Rattle.scan_vectors.specs.Faults.{line_fault, fault_in, first_fault, event_of, is_header, IsFault}
use Rattle.scan_vectors.specs.Reader.{IsBefore, IsBehind, IsReading, HasRead, AddsLine, CannotAdd}
use Rattle.scan_vectors.proofs.Events.{header_is, event_has_words, HasWords}

pub header_read : (bytes : List ℕ) (lines : Lines) (n : ℕ) (line : List ℕ) (rest : List (List ℕ)) → is_kept (words_of line) ≡ true → is_header (words_of line) ≡ true
    → IsBefore bytes lines n (line ∷ rest) → IsBehind bytes lines (n + 1) rest
header_read bytes lines n line rest kept head before =
    let kept_are : kept_lines bytes ≡ (n, header_words) ∷ kept_from (n + 1) rest
    = before.kept_are ∙ kept_from-kept n line rest kept ∙ ap (λ (w : List (List ℕ)). (n, w) ∷ kept_from (n + 1) rest) (header_is (words_of line) head) in
    record {
      header = n;
      written = [];
      kept_are = kept_are;
      letters = All-nil HasLetter;
      few = omega arith;
      list_is = before.list_is;
      numbers_are = before.numbers_are;
      count = (let k : n + suc (length rest) ≡ length (lines_of bytes) + 1 = before.count in omega arith);
      fault_is = ap (λ (l : List (ℕ × List (List ℕ))). fault_in (length (lines_of bytes) + 1) l) kept_are
          ∙ ap (λ (l : List Line). first_in line_fault (enumerate_from (length l + 1) (kept_from (n + 1) rest))) (sym before.list_is);
    }

pub line_fault-fits : (k n : ℕ) (words : List (List ℕ)) (line : Line) → event_of words ≡ Some line → k ≤ 1000000 → line_fault (k, (n, words)) ≡ None
line_fault-fits k n words line e h =
    ap (λ (o : Option Line). cond (is_some o) (cond (nat_lt 1000000 k) (Some (fault.TooMany what.Lines 1000001 1000000)) None) (Some (fault.EventLine n))) e
    ∙ ap (λ (t : Bool). cond t (Some (fault.TooMany what.Lines 1000001 1000000)) None) (le-ltb 1000000 k h)

line_fault-many : (k n : ℕ) (words : List (List ℕ)) (line : Line) → event_of words ≡ Some line → 1000000 < k
    → line_fault (k, (n, words)) ≡ Some (fault.TooMany what.Lines 1000001 1000000)
line_fault-many k n words line e h =
    ap (λ (o : Option Line). cond (is_some o) (cond (nat_lt 1000000 k) (Some (fault.TooMany what.Lines 1000001 1000000)) None) (Some (fault.EventLine n))) e
    ∙ ap (λ (t : Bool). cond t (Some (fault.TooMany what.Lines 1000001 1000000)) None) (lt-ltb 1000000 k h)

fault_behind : (bytes : List ℕ) (lines : Lines) (n : ℕ) (line : List ℕ) (rest : List (List ℕ)) → is_kept (words_of line) ≡ true → IsBehind bytes lines n (line ∷ rest)
    → first_fault bytes ≡ or_else (line_fault (length lines.list + 1, (n, words_of line))) (first_in line_fault (enumerate_from (length lines.list + 1 + 1) (kept_from (n + 1) rest)))
fault_behind bytes lines n line rest kept behind = behind.fault_is
    ∙ ap (λ (l : List (ℕ × List (List ℕ))). first_in line_fault (enumerate_from (length lines.list + 1) l)) (kept_from-kept n line rest kept)

map_push : {X Y : Type 0} (f : X → Y) (xs : List X) (x : X) (more : List Y) → map f xs ++ (f x ∷ more) ≡ map f (xs ++ x ∷ []) ++ more
map_push f [] x more = refl
map_push {Y = Y} f (y ∷ ys) x more = ap (λ (l : List Y). f y ∷ l) (map_push f ys x more)

kept_added : (written : List Written) (w : Written) (line : List ℕ) (rest : List (List ℕ)) → is_kept (words_of line) ≡ true → (w.number, words_of line) ≡ written_words w
    → map written_words written ++ kept_from w.number (line ∷ rest) ≡ map written_words (written ++ w ∷ []) ++ kept_from (w.number + 1) rest
kept_added written w line rest kept e =
    ap (λ (l : List (ℕ × List (List ℕ))). map written_words written ++ l)
    (kept_from-kept w.number line rest kept ∙ ap (λ (row : ℕ × List (List ℕ)). row ∷ kept_from (w.number + 1) rest) e)
    ∙ map_push written_words written w (kept_from (w.number + 1) rest)

pub lines_count : (written : List Written) → length (map (λ w. w.line) written) ≡ length written
lines_count [] = refl
lines_count (w ∷ written) = ap (λ (n : ℕ). suc n) (lines_count written)

event_next : (old now : Reader) (bytes line : List ℕ) (rest : List (List ℕ)) (l : Line) → is_kept (words_of line) ≡ true → event_of (words_of line) ≡ Some l
    → HasWords (words_of line) l → AddsLine old now l → IsBehind bytes old.lines old.lines.end (line ∷ rest) → IsBehind bytes now.lines (old.lines.end + 1) rest
event_next old now bytes line rest l kept event words adds behind =
    let w : Written = record { number = old.lines.end; line = l; letter = words.letter } in
    let more : length now.lines.list ≡ length old.lines.list + 1 = ap length adds.list_is ∙ length-append old.lines.list (l ∷ []) in
    let list_is : now.lines.list ≡ map (λ v. v.line) (behind.written ++ w ∷ [])
    = adds.list_is ∙ ap (λ (xs : List Line). xs ++ l ∷ []) behind.list_is ∙ sym (map-append (λ (v : Written). v.line) behind.written (w ∷ [])) in
    record {
      header = behind.header;
      written = behind.written ++ w ∷ [];
      kept_are = behind.kept_are ∙ ap (λ (rows : List (ℕ × List (List ℕ))). (behind.header, header_words) ∷ rows)
          (kept_added behind.written w line rest kept (ap (λ (ws : List (List ℕ)). (old.lines.end, ws)) words.words_are));
      letters = All-push HasLetter behind.written w behind.letters words.value_is;
      few = (let few : length old.lines.list + 1 ≤ 1000000 = adds.few in
          let e : length now.lines.list ≡ length (behind.written ++ w ∷ []) = ap length list_is ∙ lines_count (behind.written ++ w ∷ []) in omega arith);
      list_is = list_is;
      numbers_are = adds.numbers_are ∙ ap (λ (xs : List ℕ). xs ++ old.lines.end ∷ []) behind.numbers_are ∙ sym (map-append (λ (v : Written). v.number) behind.written (w ∷ []));
      count = (let k : old.lines.end + suc (length rest) ≡ length (lines_of bytes) + 1 = behind.count in omega arith);
      fault_is = fault_behind bytes old.lines old.lines.end line rest kept behind
          ∙ ap (λ (o : Option EventFault). or_else o (first_in line_fault (enumerate_from (length old.lines.list + 1 + 1) (kept_from (old.lines.end + 1) rest))))
          (line_fault-fits (length old.lines.list + 1) old.lines.end (words_of line) l event adds.few)
          ∙ ap (λ (k : ℕ). first_in line_fault (enumerate_from (k + 1) (kept_from (old.lines.end + 1) rest))) (sym more);
    }

event_added : (old now : Reader) (bytes line : List ℕ) (rest : List (List ℕ)) (l : Line) → is_kept (words_of line) ≡ true → event_of (words_of line) ≡ Some l
    → AddsLine old now l → IsBehind bytes old.lines old.lines.end (line ∷ rest) → IsBehind bytes now.lines (now.lines.end + 1) rest
event_added old now bytes line rest l kept event adds behind =
    subst (λ (n : ℕ). IsBehind bytes now.lines (n + 1) rest) (sym adds.end_stays)
    (event_next old now bytes line rest l kept event (event_has_words (words_of line) l event) adds behind)

event_refused : (old : Reader) (bytes line : List ℕ) (rest : List (List ℕ)) (l : Line) (e : EventFault) → is_kept (words_of line) ≡ true → event_of (words_of line) ≡ Some l
    → CannotAdd old e → IsBehind bytes old.lines old.lines.end (line ∷ rest) → IsFault bytes e
event_refused old bytes line rest l (fault.EventLine number) kept event cannot behind = absurd cannot
event_refused old bytes line rest l (fault.TooMany w count limit) kept event cannot behind =
    fault_behind bytes old.lines old.lines.end line rest kept behind
    ∙ ap (λ (o : Option EventFault). or_else o (first_in line_fault (enumerate_from (length old.lines.list + 1 + 1) (kept_from (old.lines.end + 1) rest))))
    (line_fault-many (length old.lines.list + 1) old.lines.end (words_of line) l event (let k : 1000000 ≤ length old.lines.list = cannot.0 in omega arith))
    ∙ ap Some (sym cannot.1)
event_refused old bytes line rest l fault.OutOfMemory kept event cannot behind = tt

pub event_read : (old now : Reader) (bytes line : List ℕ) (rest : List (List ℕ)) (l : Line) (r : Result (Unit {0}) EventFault) → old.begun ≡ true
    → is_kept (words_of line) ≡ true → event_of (words_of line) ≡ Some l → OnOk r (AddsLine old now l) → IfErr r (CannotAdd old)
    → IsBehind bytes old.lines old.lines.end (line ∷ rest) → HasRead bytes now rest r
event_read old now bytes line rest l (Ok x) begun kept event ok err behind =
    let e : now.begun ≡ true = ok.begun_stays ∙ begun in
    subst (λ (b : Bool). IsReading bytes b now.lines (now.lines.end + 1) rest) (sym e) (event_added old now bytes line rest l kept event ok behind)
event_read old now bytes line rest l (Err e) begun kept event ok err behind = event_refused old bytes line rest l e kept event err behind
