-- A text is read exactly where it spells registers, and stops at the first line that can't stand there.
use Rattle.std.proofs.Common.{◌≡◌, ℕ, zero, suc, ◌≤◌, ◌<◌, Bool, true, false, cond, List, [], ◌∷◌, ◌++◌, length, map, take, drop, Some, None, Err, codes, refl, sym, ap, ◌∙◌, subst, arith, append_assoc, append-nil, length-append}
use Rattle.std.specs.Prelude.{All}
use Rattle.std.proofs.lemmas.List.{length-map}
use Rattle.std.proofs.lemmas.List.Elements.{All-nil, All-cons, All-head, All-tail}
use Rattle.word_cutter.specs.LinesWords.{kept_lines}
use Rattle.word_cutter.specs.Ahead.{first_number}
use Rattle.status_fitting.specs.declared.register_texts.fault.LineFault.{LineFault}
use Rattle.status_fitting.specs.declared.register_texts.fault.LineFault.TheVariants as at
use Rattle.status_fitting.specs.declared.register_texts.fault.StatusFault.{StatusFault}
use Rattle.status_fitting.specs.declared.register_texts.fault.StatusFault.TheVariants as fault
use Rattle.status_fitting.specs.declared.register_texts.plan.StatusRow.{StatusRow}
use Rattle.status_fitting.specs.declared.register_texts.plan.StatusPlan.{StatusPlan}
use Rattle.status_fitting.specs.Grammar.{RegisterWords, first_words, register_words, status_rows, IsRegister, AreRegisters, register_of, plan_of, SpellsStatus}
use Rattle.status_fitting.specs.RegisterTextsFaults.{end_of, Begun, IsLineFault, HasFault, in_line, HasNoFault}
use Rattle.status_fitting.specs.Lines.{is_first, register_line}
use Rattle.status_fitting.specs.Reader.{Rows, Read, few_at, plan_at, status_at, Gives}
use Rattle.status_fitting.proofs.RegisterTextsWords.{Words, first_seen, register_sees}
use Rattle.status_fitting.proofs.Few.{Lines, words, Split, few_split, few_reads}

-- What is written so is read.

some_plan : (s : List RegisterWords) → 1 ≤ length s → plan_at (map register_of s, []) ≡ (Some (plan_of s), [])
some_plan [] some = absurd (omega arith)
some_plan (r ∷ s) some = refl

source_reads : (s : List RegisterWords) → AreRegisters s → (rows : Rows) → words rows ≡ status_rows s → status_at rows ≡ (Some (plan_of s), [])
source_reads s are [] e = absurd (cc)
source_reads s are (row ∷ rows) e =
    let same : row.1 ≡ first_words = cc in
    let more : words rows ≡ map register_words s = cc in
    ap (λ (t : Bool). cond t (plan_at (few_at 16 rows)) (None, row ∷ rows)) (ap is_first same)
    ∙ ap plan_at (few_reads 16 s are.each are.few rows more)
    ∙ some_plan s are.some

-- What is read is written so.

some_first : (p q : StatusPlan) (l m : Rows) → ◌≡◌ {A = Read} (Some p, l) (Some q, m) → p ≡ q
some_first p q l m e = let some : Some p ≡ Some q = ap (λ (r : Read). r.0) e in cc

none_first : (p : StatusPlan) (l m : Rows) → ◌≡◌ {A = Read} (None, l) (Some p, m) → ⊥
none_first p l m e = let no : None ≡ Some p = ap (λ (r : Read). r.0) e in absurd (cc)

both_none : (l m : Rows) → ◌≡◌ {A = Read} (None, l) (None, m) → l ≡ m
both_none l m e = ap (λ (r : Read). r.1) e

some_none : (p : StatusPlan) (l m : Rows) → ◌≡◌ {A = Read} (Some p, l) (None, m) → ⊥
some_none p l m e = let no : Some p ≡ None = ap (λ (r : Read). r.0) e in absurd (cc)

-- registers that are written in these rows
record HasSource (rows : Rows) (plan : StatusPlan) : Type 0 where
  source : List RegisterWords
  lines : words rows ≡ status_rows source
  forms : AreRegisters source
  plan_is : plan ≡ plan_of source

plan_sound : (row : ℕ × Words) (rows : Rows) (m : List StatusRow × Rows) (plan : StatusPlan) (left : Rows) → is_first row.1 ≡ true → Split 16 rows m → plan_at m ≡ (Some plan, left)
    → HasSource (row ∷ rows) plan
plan_sound row rows ([], rest) plan left begins s e = absurd (none_first plan rest left e)
plan_sound row rows (x ∷ xs, next ∷ rest) plan left begins s e = absurd (none_first plan (next ∷ rest) left e)
plan_sound row rows (x ∷ xs, []) plan left begins s e =
    let count : length (map register_of s.source) ≡ length (x ∷ xs) = ap length s.registers_are in
    let same = length-map s.source register_of in
    let shown : StatusPlan = record { registers = x ∷ xs } in
    record {
      source = s.source;
      lines = ap (λ (w : Words). w ∷ words rows) (first_seen row.1 begins) ∙ ap (λ (l : Lines). first_words ∷ l) (s.lines ∙ append-nil (map register_words s.source));
      forms = record { some = omega arith; few = s.few; each = s.each };
      plan_is = sym (some_first shown plan [] left e) ∙ ap (λ (l : List StatusRow). (let p : StatusPlan = record { registers = l } in p)) (sym s.registers_are);
    }

status_sound : (rows : Rows) (plan : StatusPlan) (left : Rows) → status_at rows ≡ (Some plan, left) → HasSource rows plan
status_sound [] plan left e = absurd (none_first plan [] left e)
status_sound (row ∷ rows) plan left e = by (is_first row.1) refl e
  where
    by : (t : Bool) → is_first row.1 ≡ t → cond t (plan_at (few_at 16 rows)) (None, row ∷ rows) ≡ (Some plan, left) → HasSource (row ∷ rows) plan
    by true begins e = plan_sound row rows (few_at 16 rows) plan left begins (few_split 16 rows) e
    by false begins e = absurd (none_first plan (row ∷ rows) left e)

-- Where reading stops.

abbrev example : RegisterWords
example = record { name = codes "a"; instr = codes "a"; bits = codes "1"; words = codes "a" ∷ [] }

one_register : AreRegisters (example ∷ [])
one_register = record {
  some = omega arith;
  few = omega arith;
  each = All-cons IsRegister example [] (record { name = omega arith; bits = refl; some = omega arith; few = omega arith }) (All-nil IsRegister);
}

-- no line yet, or the first and 16 registers at most
none_begun : Begun []
none_begun = record { source = example ∷ []; forms = one_register; more = status_rows (example ∷ []); begins = refl }

some_begun : (s : List RegisterWords) → All IsRegister s → length s ≤ 16 → Begun (status_rows s)
some_begun [] each few = record { source = example ∷ []; forms = one_register; more = register_words example ∷ []; begins = refl }
some_begun (r ∷ s) each few = record {
  source = r ∷ s;
  forms = record { some = omega arith; few = few; each = each };
  more = [];
  begins = sym (append-nil (status_rows (r ∷ s)));
}

-- some text begins with the lines before, and none with the next line too
record Stops (rows left : Rows) : Type 0 where
  before : Lines
  lines : words rows ≡ before ++ words left
  left_is : drop (length before) rows ≡ left
  begun : Begun before
  stays : (first : Words) (behind rest : Lines) → words left ≡ first ∷ behind → Begun (before ++ (first ∷ rest)) → ⊥

-- among more registers the first that is more
next_seen : (s t : List RegisterWords) (first : Words) (rest : Lines) → map register_words t ≡ map register_words s ++ (first ∷ rest) → All IsRegister t
    → (length s < length t) × (row : StatusRow) × (register_line first ≡ Some row)
next_seen [] [] first rest e each = absurd (cc)
next_seen [] (r ∷ t) first rest e each =
    let same : register_words r ≡ first = cc in
    (omega arith, register_of r, ap register_line (sym same) ∙ register_sees r (All-head IsRegister r t each))
next_seen (q ∷ s) [] first rest e each = absurd (cc)
next_seen (q ∷ s) (r ∷ t) first rest e each =
    let more : map register_words t ≡ map register_words s ++ (first ∷ rest) = cc in
    let n = next_seen s t first rest more (All-tail IsRegister r t each) in
    let low = n.0 in
    (omega arith, n.1, n.2)

rest_left : (m : List StatusRow × Rows) (left : Rows) → plan_at m ≡ (None, left) → m.1 ≡ left
rest_left ([], rest) left e = both_none rest left e
rest_left (x ∷ xs, row ∷ rest) left e = both_none (row ∷ rest) left e
rest_left (x ∷ xs, []) left e = absurd (some_none (record { registers = x ∷ xs }) [] left e)

behind_first : (row : ℕ × Words) (rows : Rows) (m : List StatusRow × Rows) → is_first row.1 ≡ true → Split 16 rows m → Stops (row ∷ rows) m.1
behind_first row rows m begins s = record {
  before = status_rows s.source;
  lines = ap (λ (w : Words). w ∷ words rows) (first_seen row.1 begins) ∙ ap (λ (l : Lines). first_words ∷ l) s.lines;
  left_is = ap (λ (n : ℕ). drop n rows) (length-map s.source register_words) ∙ s.left_is;
  begun = some_begun s.source s.each s.few;
  stays = λ first behind rest at b.
      let more : map register_words b.source ≡ map register_words s.source ++ (first ∷ (rest ++ b.more))
      = tail_of (map register_words b.source) ((map register_words s.source ++ (first ∷ rest)) ++ b.more) b.begins ∙ append_assoc (map register_words s.source) (first ∷ rest) b.more in
      let n = next_seen s.source b.source first (rest ++ b.more) more b.forms.each in
      let low = n.0 in
      let few = b.forms.few in
      let none : register_line first ≡ None = s.ends first behind at (omega arith) in
      let both : None ≡ Some n.1 = sym none ∙ n.2 in
      absurd (cc);
}
  where
    tail_of : (l k : Lines) → first_words ∷ l ≡ first_words ∷ k → l ≡ k
    tail_of l k e = cc

status_stops : (rows left : Rows) → status_at rows ≡ (None, left) → Stops rows left
status_stops [] left e = subst (λ (l : Rows). Stops [] l) (both_none [] left e) (record {
  before = [];
  lines = refl;
  left_is = refl;
  begun = none_begun;
  stays = λ first behind rest at b. absurd (cc);
})
status_stops (row ∷ rows) left e = by (is_first row.1) refl e
  where
    by : (t : Bool) → is_first row.1 ≡ t → cond t (plan_at (few_at 16 rows)) (None, row ∷ rows) ≡ (None, left) → Stops (row ∷ rows) left
    by true begins e =
        subst (λ (l : Rows). Stops (row ∷ rows) l) (rest_left (few_at 16 rows) left e) (behind_first row rows (few_at 16 rows) begins (few_split 16 rows))
    by false other e = subst (λ (l : Rows). Stops (row ∷ rows) l) (both_none (row ∷ rows) left e) (record {
      before = [];
      lines = refl;
      left_is = refl;
      begun = none_begun;
      stays = λ first behind rest at b.
          let same : row.1 ≡ first = cc in
          let begins : first_words ∷ map register_words b.source ≡ first ∷ (rest ++ b.more) = b.begins in
          let head : first_words ≡ first = cc in
          let both : true ≡ false = ap is_first (head ∙ sym same) ∙ other in
          absurd (cc);
    })

-- The fault.

take_front : (before behind : Lines) → take (length before) (before ++ behind) ≡ before
take_front [] behind = refl
take_front (b ∷ before) behind = ap (λ (l : Lines). b ∷ l) (take_front before behind)

take_more : (before : Lines) (first : Words) (behind : Lines) (v : ℕ) → length before < v → (rest : Lines) × (take v (before ++ (first ∷ behind)) ≡ before ++ (first ∷ rest))
take_more before first behind zero more = absurd (omega arith)
take_more [] first behind (suc k) more = (take k behind, refl)
take_more (b ∷ before) first behind (suc k) more =
    let t = take_more before first behind k (omega (arith, more)) in
    (t.0, ap (λ (l : Lines). b ∷ l) t.1)

-- no text goes on with the line
none_greater : (rows left : Rows) (t : Stops rows left) (v : ℕ) → length t.before < v → v ≤ length (words rows) → Begun (take v (words rows)) → ⊥
none_greater rows left t v more within b = by (words left) refl
  where
    by : (ls : Lines) → words left ≡ ls → ⊥
    by [] none =
        let whole : words rows ≡ t.before ++ [] = t.lines ∙ ap (λ (l : Lines). t.before ++ l) none in
        let count = ap length whole in
        omega (arith, count, length-append t.before [], more, within)
    by (first ∷ behind) is =
        let whole : words rows ≡ t.before ++ (first ∷ behind) = t.lines ∙ ap (λ (l : Lines). t.before ++ l) is in
        let cut = take_more t.before first behind v more in
        t.stays first behind cut.0 is (subst Begun (ap (take v) whole ∙ cut.1) b)

pub line_stands : (bytes : List ℕ) (left : Rows) (line : ℕ) → status_at (kept_lines bytes) ≡ (None, left) → line ≡ first_number (end_of bytes) left → IsLineFault bytes line
line_stands bytes left line e is =
    let t = status_stops (kept_lines bytes) left e in
    let count = ap length t.lines in
    record {
      unwritten = λ s forms same. some_none (plan_of s) [] left (sym (source_reads s forms (kept_lines bytes) same) ∙ e);
      count = length t.before;
      within = omega (arith, count, length-append t.before (words left));
      begun = subst Begun (sym (ap (take (length t.before)) t.lines ∙ take_front t.before (words left))) t.begun;
      greatest = λ v more within b. none_greater (kept_lines bytes) left t v more within b;
      line_is = is ∙ ap (first_number (end_of bytes)) (sym t.left_is);
    }

-- what a reader answers at a line that can't stand there
pub given_at_line : (f : LineFault) (left : Rows) (read : Read) → f ≡ at.Line → Gives (Err f) left read → read ≡ (None, left)
given_at_line f left read is gives = subst (λ (e : LineFault). Gives (Err e) left read) is gives

pub line_at_fault : (bytes : List ℕ) (left : Rows) (line : ℕ) → status_at (kept_lines bytes) ≡ (None, left) → line ≡ first_number (end_of bytes) left → HasFault bytes (fault.StatusLine line)
line_at_fault bytes left line e is = in_line (line_stands bytes left line e is)

pub read_is_spelled : (bytes : List ℕ) (plan : StatusPlan) (left : Rows) → status_at (kept_lines bytes) ≡ (Some plan, left) → SpellsStatus bytes plan
read_is_spelled bytes plan left e =
    let s = status_sound (kept_lines bytes) plan left e in
    record { source = s.source; lines_are = s.lines; forms = s.forms; plan_is = s.plan_is }

-- The laws.

spelled_reads : (bytes : List ℕ) (plan : StatusPlan) → SpellsStatus bytes plan → status_at (kept_lines bytes) ≡ (Some plan, [])
spelled_reads bytes plan s = source_reads s.source s.forms (kept_lines bytes) s.lines_are ∙ ap (λ (p : StatusPlan). (Some p, [])) (sym s.plan_is)

pub spelled_once : (bytes : List ℕ) (one other : StatusPlan) → SpellsStatus bytes one → SpellsStatus bytes other → one ≡ other
spelled_once bytes one other s t = some_first one other [] [] (sym (spelled_reads bytes one s) ∙ spelled_reads bytes other t)

pub spelled_is_faultless : (bytes : List ℕ) (plan : StatusPlan) → SpellsStatus bytes plan → HasNoFault bytes
spelled_is_faultless bytes plan s _ (in_line l) = l.unwritten s.source s.forms s.lines_are

pub faultless_is_spelled : (bytes : List ℕ) → HasNoFault bytes → (plan : StatusPlan) × SpellsStatus bytes plan
faultless_is_spelled bytes free = by (status_at (kept_lines bytes)) refl
  where
    by : (read : Read) → status_at (kept_lines bytes) ≡ read → (plan : StatusPlan) × SpellsStatus bytes plan
    by (None, left) e = absurd (free (fault.StatusLine (first_number (end_of bytes) left)) (line_at_fault bytes left (first_number (end_of bytes) left) e refl))
    by (Some plan, left) e = (plan, read_is_spelled bytes plan left e)

same_line : (bytes : List ℕ) (m n : ℕ) → IsLineFault bytes m → IsLineFault bytes n → m ≡ n
same_line bytes m n a b =
    let not_less : a.count < b.count → ⊥ = λ less. a.greatest b.count less b.within b.begun in
    let not_more : b.count < a.count → ⊥ = λ more. b.greatest a.count more a.within a.begun in
    let same : a.count ≡ b.count = equal a.count b.count not_less not_more in
    a.line_is ∙ ap (λ (n : ℕ). first_number (end_of bytes) (drop n (kept_lines bytes))) same ∙ sym b.line_is
  where
    equal : (x y : ℕ) → (x < y → ⊥) → (y < x → ⊥) → x ≡ y
    equal x y less more = omega (arith, less, more)

pub at_fault_once : (bytes : List ℕ) (one other : StatusFault) → HasFault bytes one → HasFault bytes other → one ≡ other
at_fault_once bytes _ _ (in_line {line = m} a) (in_line {line = n} b) = ap (λ (k : ℕ). fault.StatusLine k) (same_line bytes m n a b)

-- The same of what is told.

pub told_is_free : (bytes : List ℕ) (plan : StatusPlan) (left : Rows) → status_at (kept_lines bytes) ≡ (Some plan, left) → HasNoFault bytes
told_is_free bytes plan left e = spelled_is_faultless bytes plan (read_is_spelled bytes plan left e)
