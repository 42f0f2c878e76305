-- Registers one behind the other, of which so many are read at most.
use Rattle.std.proofs.Common.{◌≡◌, ℕ, zero, suc, ◌-◌, ◌≤◌, ◌<◌, Bool, true, false, cond, List, [], ◌∷◌, ◌++◌, length, map, drop, Option, Some, None, refl, sym, ap, ◌∙◌, arith, append_assoc, append-nil, length-append}
use Rattle.std.specs.Prelude.{All, IsTrue, ◌↔◌}
use Rattle.std.proofs.lemmas.List.Elements.{All-nil, All-cons, All-head, All-tail}
use Rattle.status_fitting.specs.declared.register_texts.plan.StatusPlan.{StatusPlan}
use Rattle.status_fitting.specs.declared.register_texts.plan.StatusRow.{StatusRow}
use Rattle.status_fitting.specs.Grammar.{RegisterWords, register_words, IsRegister, register_of}
use Rattle.status_fitting.specs.Lines.{is_first, register_line}
use Rattle.status_fitting.specs.Reader.{Rows, front, rest_if, put_first, few_at, put_before, plan_at, status_at}
use Rattle.status_fitting.proofs.RegisterTextsWords.{Words, register_seen, register_sees}

-- lines by their words
abbrev pub Lines : Type 0
Lines = List Words

-- the words of rows
abbrev pub words : Rows → Lines
words rows = map (λ (row : ℕ × Words). row.1) rows

-- While they are read.

one_more : (room : ℕ) (rows left : Rows) (x : StatusRow) (xs : List StatusRow) → Some x ≡ front rows → left ≡ rest_if (Some x) rows
    → put_before (xs ++ x ∷ []) (few_at room left) ≡ put_before xs (few_at (suc room) rows)
one_more room [] left x xs e f = absurd (cc)
one_more room (row ∷ rows) left x xs e f =
    ap (λ (l : Rows). put_before (xs ++ x ∷ []) (few_at room l)) f
    ∙ ap (λ (l : List StatusRow). (l, (few_at room rows).1)) (append_assoc xs (x ∷ []) (few_at room rows).0)
    ∙ ap (λ (o : Option StatusRow). put_before xs (put_first o (row ∷ rows) (few_at room rows))) e

no_more : (room : ℕ) (rows : Rows) (xs : List StatusRow) → None ≡ front rows → put_before xs (few_at (suc room) rows) ≡ (xs, rows)
no_more room [] xs e = ap (λ (l : List StatusRow). (l, [])) (append-nil xs)
no_more room (row ∷ rows) xs e =
    ap (λ (o : Option StatusRow). put_before xs (put_first o (row ∷ rows) (few_at room rows))) (sym e) ∙ ap (λ (l : List StatusRow). (l, row ∷ rows)) (append-nil xs)

abbrev pub Left : List StatusRow → Rows → Rows → Type 0
Left list rows all = put_before list (few_at (16 - length list) rows) ≡ few_at 16 all

pub few_begins : (list : List StatusRow) (rows : Rows) → list ≡ [] → Left list rows rows
few_begins list rows none = ap (λ (l : List StatusRow). put_before l (few_at (16 - length l) rows)) none

pub few_goes_on : (list new : List StatusRow) (x : StatusRow) (rows left all : Rows) → length list < 16 → new ≡ list ++ x ∷ [] → Some x ≡ front rows → left ≡ rest_if (Some x) rows
    → Left list rows all → Left new left all
few_goes_on list new x rows left all low grown e f so_far =
    let count : length new ≡ length (list ++ x ∷ []) = ap length grown in
    let more = length-append list (x ∷ []) in
    let room : 16 - length list ≡ suc (16 - length new) = omega arith in
    ap (λ (l : List StatusRow). put_before l (few_at (16 - length new) left)) grown
    ∙ one_more (16 - length new) rows left x list e f
    ∙ ap (λ (n : ℕ). put_before list (few_at n rows)) (sym room)
    ∙ so_far

pub few_stops : (list : List StatusRow) (rows all : Rows) → length list < 16 → None ≡ front rows → Left list rows all → few_at 16 all ≡ (list, rows)
few_stops list rows all low none so_far =
    let room : 16 - length list ≡ suc (15 - length list) = omega arith in
    sym so_far ∙ ap (λ (n : ℕ). put_before list (few_at n rows)) room ∙ no_more (15 - length list) rows list none

pub few_fill : (list : List StatusRow) (rows all : Rows) → 16 ≤ length list → Left list rows all → few_at 16 all ≡ (list, rows)
few_fill list rows all many so_far =
    let room : 16 - length list ≡ 0 = omega arith in
    sym so_far ∙ ap (λ (n : ℕ). put_before list (few_at n rows)) room ∙ ap (λ (l : List StatusRow). (l, rows)) (append-nil list)

-- What they are read as.

pub no_plan : (m : List StatusRow × Rows) (list : List StatusRow) (rows : Rows) → m ≡ (list, rows) → list ≡ [] → plan_at m ≡ (None, rows)
no_plan m list rows e none = ap plan_at e ∙ ap (λ (l : List StatusRow). plan_at (l, rows)) none

pub plan_and_more : (m : List StatusRow × Rows) (list : List StatusRow) (rows rest : Rows) (row : ℕ × Words) → m ≡ (list, rows) → rows ≡ row ∷ rest → plan_at m ≡ (None, rows)
plan_and_more m list rows rest row e more = ap plan_at e ∙ ap (λ (l : Rows). plan_at (list, l)) more ∙ by list ∙ ap (λ (l : Rows). (None, l)) (sym more)
  where
    by : (l : List StatusRow) → plan_at (l, row ∷ rest) ≡ (None, row ∷ rest)
    by [] = refl
    by (x ∷ xs) = refl

pub not_so : {P : Type 0} (b : Bool) → (IsTrue b ↔ P) → b ≡ false → P → ⊥
not_so b iff fails p = absurd (let clash : true ≡ false = sym (iff.1 p) ∙ fails in cc)

pub plan_alone : (m : List StatusRow × Rows) (list : List StatusRow) (rows : Rows) → m ≡ (list, rows) → (list ≡ [] → ⊥) → rows ≡ []
    → plan_at m ≡ (Some (record { registers = list }), rows)
plan_alone m list rows e some none =
    ap plan_at e ∙ ap (λ (l : Rows). plan_at (list, l)) none ∙ by list some ∙ ap (λ (l : Rows). (Some (let p : StatusPlan = record { registers = list } in p), l)) (sym none)
  where
    by : (l : List StatusRow) → (l ≡ [] → ⊥) → plan_at (l, []) ≡ (Some (let p : StatusPlan = record { registers = l } in p), [])
    by [] some = absurd (some refl)
    by (x ∷ xs) some = refl

pub none_read : (rows : Rows) → rows ≡ [] → status_at rows ≡ (None, rows)
none_read rows none = ap status_at none ∙ ap (λ (l : Rows). (None, l)) (sym none)

at_test : (rows rest : Rows) (n : ℕ) (first : Words) (t : Bool) → rows ≡ (n, first) ∷ rest → is_first first ≡ t → status_at rows ≡ cond t (plan_at (few_at 16 rest)) (None, (n, first) ∷ rest)
at_test rows rest n first t e is = ap status_at e ∙ ap (λ (b : Bool). cond b (plan_at (few_at 16 rest)) (None, (n, first) ∷ rest)) is

pub other_first : (rows rest : Rows) (n : ℕ) (first : Words) → rows ≡ (n, first) ∷ rest → is_first first ≡ false → status_at rows ≡ (None, rows)
other_first rows rest n first e is = at_test rows rest n first false e is ∙ ap (λ (l : Rows). (None, l)) (sym e)

pub goes_on_behind : (rows rest : Rows) (n : ℕ) (first : Words) → rows ≡ (n, first) ∷ rest → is_first first ≡ true → status_at rows ≡ plan_at (few_at 16 rest)
goes_on_behind rows rest n first e is = at_test rows rest n first true e is

-- What is read is written so, and what follows is no register, or one too many.
pub record Split (room : ℕ) (rows : Rows) (m : List StatusRow × Rows) : Type 0 where
  pub source : List RegisterWords
  pub registers_are : map register_of source ≡ m.0
  pub each : All IsRegister source
  pub few : length source ≤ room
  pub lines : words rows ≡ map register_words source ++ words m.1
  pub left_is : drop (length source) rows ≡ m.1
  pub ends : (first : Words) (behind : Lines) → words m.1 ≡ first ∷ behind → length source < room → register_line first ≡ None

pub few_split : (room : ℕ) (rows : Rows) → Split room rows (few_at room rows)
few_split zero rows = record {
  source = [];
  registers_are = refl;
  each = All-nil IsRegister;
  few = omega arith;
  lines = refl;
  left_is = refl;
  ends = λ first behind e short. absurd (omega arith);
}
few_split (suc room) [] = record {
  source = [];
  registers_are = refl;
  each = All-nil IsRegister;
  few = omega arith;
  lines = refl;
  left_is = refl;
  ends = λ first behind e short. absurd (cc);
}
few_split (suc room) (row ∷ rows) = by (register_line row.1) refl (few_split room rows)
  where
    by : (o : Option StatusRow) → register_line row.1 ≡ o → Split room rows (few_at room rows) → Split (suc room) (row ∷ rows) (put_first o (row ∷ rows) (few_at room rows))
    by None seen s = record {
      source = [];
      registers_are = refl;
      each = All-nil IsRegister;
      few = omega arith;
      lines = refl;
      left_is = refl;
      ends = λ first behind e short. let same : row.1 ≡ first = cc in ap register_line (sym same) ∙ seen;
    }
    by (Some x) seen s =
        let r = register_seen row.1 x seen in
        let low = s.few in
        record {
          source = r.0 ∷ s.source;
          registers_are = ap (λ (y : StatusRow). y ∷ map register_of s.source) r.3 ∙ ap (λ (l : List StatusRow). x ∷ l) s.registers_are;
          each = All-cons IsRegister r.0 s.source r.1 s.each;
          few = omega arith;
          lines = ap (λ (w : Words). w ∷ words rows) r.2 ∙ ap (λ (l : Lines). register_words r.0 ∷ l) s.lines;
          left_is = s.left_is;
          ends = λ first behind e short. s.ends first behind e (omega arith);
        }

-- What is written so is read.
pub few_reads : (room : ℕ) (source : List RegisterWords) → All IsRegister source → length source ≤ room → (rows : Rows) → words rows ≡ map register_words source
    → few_at room rows ≡ (map register_of source, [])
few_reads zero [] each few [] e = refl
few_reads zero [] each few (row ∷ rows) e = absurd (cc)
few_reads zero (r ∷ source) each few rows e = absurd (omega arith)
few_reads (suc room) [] each few [] e = refl
few_reads (suc room) [] each few (row ∷ rows) e = absurd (cc)
few_reads (suc room) (r ∷ source) each few [] e = absurd (cc)
few_reads (suc room) (r ∷ source) each few (row ∷ rows) e =
    let same : row.1 ≡ register_words r = cc in
    let more : words rows ≡ map register_words source = cc in
    ap (λ (o : Option StatusRow). put_first o (row ∷ rows) (few_at room rows)) (ap register_line same ∙ register_sees r (All-head IsRegister r source each))
    ∙ ap (λ (m : List StatusRow × Rows). put_first (Some (register_of r)) (row ∷ rows) m) (few_reads room source (All-tail IsRegister r source each) (omega arith) rows more)
