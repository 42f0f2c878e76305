-- The expectations that aren't met, merged with the lines.
use Rattle.std.proofs.Common.{◌≡◌, inl, inr, ℕ, zero, suc, ◌+◌, ◌≤◌, ◌==◌, Bool, true, false, cond, List, [], ◌∷◌, ◌++◌, length, map, filter, drop, Some, refl, sym, subst, ap, ◌∙◌, arith, append_assoc, append-nil}
use Rattle.std.specs.Prelude.{slice_get}
use Rattle.std.specs.List.{flat_map}
use Rattle.std.specs.Option.{option_map}
use Rattle.std.proofs.lemmas.Bool.Decides.{eqb_tells}
use Rattle.std.proofs.lemmas.List.{length-map, drop_all}
use Rattle.std.proofs.lemmas.Option.{same_Some, slice_get_within, slice_get-map}
use Rattle.list_laws.proofs.Lists.{left_at, slice_get_there}
use Rattle.list_laws.proofs.Numbers.{eqb_same, eqb_less}
use Rattle.netlist_model.specs.Lists.{NetlistView}
use Rattle.netlist_model.specs.Runs.{Moment, reading_at}
use Rattle.scan_vectors.specs.declared.lines.Act.{Act}
use Rattle.scan_vectors.specs.declared.lines.Act.TheVariants.{Start, Set, Expect}
use Rattle.scan_vectors.specs.declared.lines.Line.{Line}
use Rattle.scan_vectors.specs.declared.lines.Lines.{Lines}
use Rattle.scan_vectors.specs.Grammar.{pin_of}
use Rattle.netlist_link.specs.Linked.{LinkedView}
use Rattle.scan_vectors.specs.declared.scripts.script.ScriptLine.{ScriptLine}
use Rattle.scan_vectors.specs.Scripts.{IsResolved, IsSpelled}
use Rattle.sim_runs.specs.Runs.{net_number}
use Rattle.sim_runs.specs.Outputs.{missed_line, sets_with}
use Rattle.conformance_report.specs.declared.verdict.Missed.{Missed}
use Rattle.conformance_report.specs.declared.verdict.Verdict.{Verdict}
use Rattle.conformance_report.specs.Verdicts.{IsVerdict, expected, expected_by, is_missed}
use Rattle.conformance_report.specs.ChecksLaws.{word_in, miss_text}
use Rattle.conformance_report.specs.Merges.{AreWithin, misses_behind, text_at}
use Rattle.conformance_report.proofs.Numbers.{Ascend, AreNumbered, ascend_at, spelled_numbered}

-- Which lines the expectations are of.

within_more : (misses : List Missed) (number : ℕ) (numbers : List ℕ) → AreWithin misses numbers → AreWithin misses (number ∷ numbers)
within_more [] number numbers within = tt
within_more (miss ∷ misses) number numbers within = inr within

-- those behind one of them
within_behind : (miss : Missed) (misses : List Missed) (numbers : List ℕ) → AreWithin (miss ∷ misses) numbers → AreWithin misses numbers
within_behind miss misses [] within = absurd within
within_behind miss misses (number ∷ numbers) (inl (same, within)) = within_more misses number numbers within
within_behind miss misses (number ∷ numbers) (inr within) = within_more misses number numbers (within_behind miss misses numbers within)

-- those that are left behind a line
within_next : (misses : List Missed) (number : ℕ) (numbers : List ℕ) → AreWithin misses (number ∷ numbers) → AreWithin (misses_behind number misses) numbers
within_next [] number numbers within = tt
within_next (miss ∷ misses) number numbers within = one (miss.line == number) refl within
  where
    one : (b : Bool) → miss.line == number ≡ b → AreWithin (miss ∷ misses) (number ∷ numbers) → AreWithin (cond b misses (miss ∷ misses)) numbers
    one true same (inl (is, within)) = within
    one true same (inr within) = within_behind miss misses numbers within
    one false other (inl (is, within)) = absurd (let equal : miss.line == number ≡ true = rw is (eqb_same number) in let no : false ≡ true = sym other ∙ equal in cc)
    one false other (inr within) = within

-- where no line is left, no expectation is
none_left : (misses : List Missed) → AreWithin misses [] → misses ≡ []
none_left [] within = refl
none_left (miss ∷ misses) within = absurd within

-- Those of a run.

filter_within : (act : Act) (N : NetlistView) (line : ScriptLine) (m : Moment) (rest : List Missed) (numbers : List ℕ) → AreWithin (filter is_missed rest) numbers
    → AreWithin (filter is_missed (expected_by act N line m ++ rest)) (line.number ∷ numbers)
filter_within Start N line m rest numbers within = within_more (filter is_missed rest) line.number numbers within
filter_within Set N line m rest numbers within = within_more (filter is_missed rest) line.number numbers within
filter_within Expect N line m rest numbers within = one (is_missed expects)
  where
    expects : Missed
    expects = record { line = line.number; want = line.value; got = reading_at N m (net_number N line.pin) }

    one : (b : Bool) → AreWithin (cond b (expects ∷ filter is_missed rest) (filter is_missed rest)) (line.number ∷ numbers)
    one true = inl (refl, within)
    one false = within_more (filter is_missed rest) line.number numbers within

run_within : (N : NetlistView) (moment : ℕ → Moment) (sets : ℕ) (script : List ScriptLine)
    → AreWithin (filter is_missed (expected N moment sets script)) (map (λ (line : ScriptLine). line.number) script)
run_within N moment sets [] = tt
run_within N moment sets (line ∷ script) =
    filter_within line.act N line (moment sets) (expected N moment (sets_with line.act sets) script) (map (λ (l : ScriptLine). l.number) script)
    (run_within N moment (sets_with line.act sets) script)

-- two lists with the same elements at each place
same_lists : (xs ys : List ℕ) → length xs ≡ length ys → ((k x y : ℕ) → slice_get xs k ≡ Some x → slice_get ys k ≡ Some y → x ≡ y) → xs ≡ ys
same_lists [] [] count each = refl
same_lists [] (y ∷ ys) count each = absurd (cc)
same_lists (x ∷ xs) [] count each = absurd (cc)
same_lists (x ∷ xs) (y ∷ ys) count each =
    let first : x ≡ y = each 0 x y refl refl in
    let more : xs ≡ ys = same_lists xs ys (omega (arith, count)) (λ k a b at other. each (suc k) a b at other) in
    rw (first, more) refl

script_numbers : (L : LinkedView) (lines : Lines) (script : List ScriptLine) → AreNumbered lines → IsResolved L lines script → map (λ (line : ScriptLine). line.number) script ≡ lines.numbers
script_numbers L lines script are resolved = same_lists (map (λ (line : ScriptLine). line.number) script) lines.numbers
    (length-map script (λ (line : ScriptLine). line.number) ∙ resolved.same.count ∙ sym are.count) each
  where
    each : (k x y : ℕ) → slice_get (map (λ (line : ScriptLine). line.number) script) k ≡ Some x → slice_get lines.numbers k ≡ Some y → x ≡ y
    each k x y at other =
        let within = slice_get_within lines.numbers k y other in
        let count = are.count in
        let of_script = resolved.same.count in
        let line = slice_get_there lines.list k (omega (arith, within, count)) in
        let found = slice_get_there script k (omega (arith, within, count, of_script)) in
        let is = (resolved.same.each k line.0 y found.0 line.1 other found.1).number_is in
        let there : Some x ≡ Some found.0.number = sym at ∙ slice_get-map (λ (l : ScriptLine). l.number) script k ∙ ap (option_map (λ (l : ScriptLine). l.number)) found.1 in
        same_Some x found.0.number there ∙ is

pub verdict_within : (L : LinkedView) (lines : Lines) (script : List ScriptLine) (verdict : Verdict) → IsSpelled lines → IsResolved L lines script → IsVerdict L.arena.lists script verdict
    → AreWithin verdict.missed lines.numbers
verdict_within L lines script verdict spelled resolved judged =
    let are = spelled_numbered lines spelled in
    let within = run_within L.arena.lists judged.moment 0 script in
    subst (λ (ms : List Missed). AreWithin ms lines.numbers) (sym judged.missed_are)
    (subst (λ (ns : List ℕ). AreWithin (filter is_missed (expected L.arena.lists judged.moment 0 script)) ns) (script_numbers L lines script are resolved) within)

-- Their text.

-- the word of the line at a place
word_at : (start end : ℕ) (numbers : List ℕ) (lines : List Line) (place number : ℕ) (line : Line) → Ascend start end numbers → slice_get numbers place ≡ Some number
    → slice_get lines place ≡ Some line → word_in numbers lines number ≡ pin_of line
word_at start end [] lines place number line ascend at there = absurd (cc)
word_at start end (first ∷ numbers) [] place number line ascend at there = absurd (cc)
word_at start end (first ∷ numbers) (l ∷ lines) zero number line ascend at there =
    let same : first ≡ number = same_Some first number at in
    let is : l ≡ line = same_Some l line there in
    rw (same, eqb_same number, is) refl
word_at start end (first ∷ numbers) (l ∷ lines) (suc place) number line ascend at there =
    let above = (ascend_at (suc first) end numbers place number ascend.1 at).0 in
    rw (eqb_less first number above) (word_at (suc first) end numbers lines place number line ascend.1 at there)

-- what is put at a line and behind it is what was to be put
text_next : (lines : Lines) (number : ℕ) (word : List ℕ) (misses : List Missed) → word_in lines.numbers lines.list number ≡ word
    → text_at number word misses ++ flat_map (miss_text lines) (misses_behind number misses) ≡ flat_map (miss_text lines) misses
text_next lines number word [] is = refl
text_next lines number word (miss ∷ misses) is = one (miss.line == number) refl
  where
    one : (b : Bool) → miss.line == number ≡ b
        → cond b (missed_line miss.line word miss.want miss.got) [] ++ flat_map (miss_text lines) (cond b misses (miss ∷ misses)) ≡ flat_map (miss_text lines) (miss ∷ misses)
    one true same =
        let equal : miss.line ≡ number = elim (eqb_tells miss.line number) [ inl e ↦ e.1 | inr e ↦ absurd (let no : true ≡ false = sym same ∙ e.0 in cc) ] in
        ap (λ (w : List ℕ). missed_line miss.line w miss.want miss.got ++ flat_map (miss_text lines) misses) (sym is ∙ ap (word_in lines.numbers lines.list) (sym equal))
    one false other = refl

-- The state behind so many lines: what was put and what is left make the whole text, and what is left is of the lines that are left.
pub record IsMerged (lines : Lines) (old : List ℕ) (misses : List Missed) (place : ℕ) (text : List ℕ) (rest : List Missed) : Type 0 where
  pub text_is : text ++ flat_map (miss_text lines) rest ≡ old ++ flat_map (miss_text lines) misses
  pub within : AreWithin rest (drop place lines.numbers)

pub merged_next : (lines : Lines) (old : List ℕ) (misses : List Missed) (place : ℕ) (text : List ℕ) (rest : List Missed) (line : Line) (number : ℕ) (new : List ℕ) (behind : List Missed) → IsSpelled lines
    → slice_get lines.list place ≡ Some line → slice_get lines.numbers place ≡ Some number → new ≡ text ++ text_at number (pin_of line) rest → behind ≡ misses_behind number rest
    → IsMerged lines old misses place text rest → IsMerged lines old misses (place + 1) new behind
merged_next lines old misses place text rest line number new behind spelled there numbered put left merged =
    let are = spelled_numbered lines spelled in
    let word = word_at 0 lines.end lines.numbers lines.list place number line are.ascend numbered there in
    let next : suc place ≡ place + 1 = omega arith in
    let within = within_next rest number (drop (suc place) lines.numbers) (subst (AreWithin rest) (left_at lines.numbers place number numbered) merged.within) in
    record {
      text_is = ap (λ (t : List ℕ). t ++ flat_map (miss_text lines) behind) put
          ∙ ap (λ (ms : List Missed). (text ++ text_at number (pin_of line) rest) ++ flat_map (miss_text lines) ms) left
          ∙ append_assoc text (text_at number (pin_of line) rest) (flat_map (miss_text lines) (misses_behind number rest))
          ∙ ap (λ (t : List ℕ). text ++ t) (text_next lines number (pin_of line) rest word) ∙ merged.text_is;
      within = subst (λ (ms : List Missed). AreWithin ms (drop (place + 1) lines.numbers)) (sym left)
          (subst (λ (n : ℕ). AreWithin (misses_behind number rest) (drop n lines.numbers)) next within);
    }

pub merged_all : (lines : Lines) (old : List ℕ) (misses : List Missed) (place : ℕ) (text : List ℕ) (rest : List Missed) → IsSpelled lines → length lines.list ≤ place
    → IsMerged lines old misses place text rest → text ≡ old ++ flat_map (miss_text lines) misses
merged_all lines old misses place text rest spelled all merged =
    let count = (spelled_numbered lines spelled).count in
    let none : rest ≡ [] = none_left rest (subst (AreWithin rest) (drop_all place lines.numbers (omega (arith, count, all))) merged.within) in
    sym (append-nil text) ∙ ap (λ (ms : List Missed). text ++ flat_map (miss_text lines) ms) (sym none) ∙ merged.text_is
