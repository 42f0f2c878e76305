-- Where the reading of a plan's lines stops at a fault: other lines can follow those before it, so that a plan is read, and none is
-- read whatever follows the line of the fault.
use Rattle.std.proofs.Common.{◌≡◌, ℕ, List, [], ◌∷◌, ◌++◌, length, drop, Option, Some, None, codes, refl, sym, ap, ◌∙◌, subst, append_assoc, zero, suc}
use Rattle.cell_library.specs.declared.codes.BoundaryKind.TheVariants as kind
use Rattle.bsdl_device.specs.declared.entries.OpcodeEntry.{OpcodeEntry}
use Rattle.cell_library.specs.declared.codes.Bits.{Bits}
use Rattle.plan_texts.specs.declared.plan.TapLine.{TapLine}
use Rattle.plan_texts.specs.declared.plan.PinLine.{PinLine}
use Rattle.plan_texts.specs.declared.written.CodeGroups.{CodeGroups}
use Rattle.plan_texts.specs.declared.written.Pins.{Pins}
use Rattle.plan_texts.specs.declared.written.Written.{Written}
use Rattle.plan_texts.specs.Forms.{is_name, is_prefix, is_clock, version_line, word_line, length_line, capture_line, tap_line, opcode_line, idcode_line, user_line, control_line, pin_line}
use Rattle.plan_texts.specs.Reader.{Rows, Read, done, after, front, rest_if, line_at, put_first, many_at, some_of, code_left, user_left, linkage_line, ended, names_at, tap_at, registers_at, codes_at, pins_at, written_at}
use Rattle.plan_texts.specs.Grammar.{keyed}
use Rattle.plan_texts.proofs.Complete.{words, NotFirst, many_none, no_rows, no_user}
use Rattle.plan_texts.proofs.Parts.{names_second, names_third, names_fourth, tap_second, tap_third, tap_fourth, tap_fifth, registers_second, registers_third, codes_second, written_third, written_fourth, written_fifth, written_sixth}
use Rattle.plan_texts.proofs.Sound.{pair_first, pair_second}

-- lines by their words
abbrev pub Lines : Type 0
Lines = List (List (List ℕ))

-- of all rows with these words something is read, to the end
abbrev pub ReadsAll : {X : Type 0} → (Rows → Read X) → Lines → Type 0
ReadsAll {X = X} reading ws = (rows : Rows) → words rows ≡ ws → (x : X) × (reading rows ≡ (Some x, []))

-- it stops here: these lines can follow the front, and with the first that is left nothing is read
pub record Stops {X : Type 0} (Q : Lines → Type 0) (reading : Rows → Read X) (rows left : Rows) : Type 0 where
  pub before : Lines
  pub more : Lines
  pub lines : words rows ≡ before ++ words left
  pub left_is : drop (length before) rows ≡ left
  pub fits : Q more
  pub goes_on : ReadsAll reading (before ++ more)
  pub stays : (first : List (List ℕ)) (behind rest : Lines) (others : Rows) → words left ≡ first ∷ behind → words others ≡ before ++ (first ∷ rest) → (reading others).0 ≡ None

-- something can be read, and wherever the reading stops these lines can follow
pub record Law {X : Type 0} (Q : Lines → Type 0) (reading : Rows → Read X) : Type 0 where
  pub possible : Lines
  pub fits : Q possible
  pub reads : ReadsAll reading possible
  pub stops : (rows left : Rows) → reading rows ≡ (None, left) → Stops Q reading rows left

law_same : {X : Type 0} (Q : Lines → Type 0) (one other : Rows → Read X) → ((rows : Rows) → one rows ≡ other rows) → Law Q one → Law Q other
law_same Q one other same law = record {
  possible = law.possible;
  fits = law.fits;
  reads = λ rows e. let a = law.reads rows e in (a.0, sym (same rows) ∙ a.1);
  stops = λ rows left e. let t = law.stops rows left (same rows ∙ e) in record {
    before = t.before;
    more = t.more;
    lines = t.lines;
    left_is = t.left_is;
    fits = t.fits;
    goes_on = λ others f. let a = t.goes_on others f in (a.0, sym (same others) ∙ a.1);
    stays = λ first behind rest others f g. sym (ap (λ r. r.0) (same others)) ∙ t.stays first behind rest others f g;
  };
}

-- A part of a plan, of which what follows has such a law.
abbrev pub LawAt : {X : Type 0} → (Lines → Type 0) → (Lines → Type 0) → (Rows → Read X) → Type 0
LawAt {X = X} Q R part = (next : X → Rows → Read Written) → ((x : X) → Law Q (next x)) → Law R (λ rows. after (part rows) next)

after_again : {X Y Z : Type 0} (read : Read X) (f : X → Rows → Read Y) (g : Y → Rows → Read Z) → after read (λ x rows. after (f x rows) g) ≡ after (after read f) g
after_again (None, rows) f g = refl
after_again (Some x, rows) f g = refl

at_after : {X Y : Type 0} (P Q R : Lines → Type 0) (part : Rows → Read X) (f : X → Rows → Read Y) → LawAt Q R part → ((x : X) → LawAt P Q (f x)) → LawAt P R (λ rows. after (part rows) f)
at_after P Q R part f law laws next rest =
    law_same R (λ rows. after (part rows) (λ x l. after (f x l) next)) (λ rows. after (after (part rows) f) next) (λ rows. after_again (part rows) f next)
    (law (λ x l. after (f x l) next) (λ x. laws x next rest))

at_done : {X : Type 0} (Q : Lines → Type 0) (x : X) → LawAt Q Q (λ rows. done x rows)
at_done Q x next rest = rest x

-- One line.

line_goes : {X Y : Type 0} (view : List (List ℕ) → Option X) (next : X → Rows → Read Y) (first : List (List ℕ)) (x : X) (ws : Lines) → view first ≡ Some x
    → ReadsAll (next x) ws → ReadsAll (λ rows. after (line_at view rows) next) (first ∷ ws)
line_goes view next first x ws sees all [] e = absurd (cc)
line_goes {X = X} view next first x ws sees all (row ∷ rows) e =
    let same : row.1 ≡ first = cc in
    let more : words rows ≡ ws = cc in
    let a = all rows more in
    (a.0, ap (λ (o : Option X). after (o, rest_if o (row ∷ rows)) next) (ap view same ∙ sees) ∙ a.1)

line_fails : {X Y : Type 0} (view : List (List ℕ) → Option X) (next : X → Rows → Read Y) (first : List (List ℕ)) (rest : Lines) → view first ≡ None
    → (rows : Rows) → words rows ≡ first ∷ rest → (after (line_at view rows) next).0 ≡ None
line_fails view next first rest none [] e = absurd (cc)
line_fails {X = X} view next first rest none (row ∷ rows) e =
    let same : row.1 ≡ first = cc in
    ap (λ (o : Option X). (after (o, rest_if o (row ∷ rows)) next).0) (ap view same ∙ none)

line_passes : {X Y : Type 0} (view : List (List ℕ) → Option X) (next : X → Rows → Read Y) (first : List (List ℕ)) (x : X) (rest : Lines) → view first ≡ Some x
    → ((rows : Rows) → words rows ≡ rest → (next x rows).0 ≡ None) → (rows : Rows) → words rows ≡ first ∷ rest → (after (line_at view rows) next).0 ≡ None
line_passes view next first x rest sees fails [] e = absurd (cc)
line_passes {X = X} view next first x rest sees fails (row ∷ rows) e =
    let same : row.1 ≡ first = cc in
    let more : words rows ≡ rest = cc in
    ap (λ (o : Option X). (after (o, rest_if o (row ∷ rows)) next).0) (ap view same ∙ sees) ∙ fails rows more

line_law : {X : Type 0} (Q R : Lines → Type 0) (view : List (List ℕ) → Option X) (a : List (List ℕ)) (x : X) → view a ≡ Some x → ((ws : Lines) → R (a ∷ ws)) → ((ws : Lines) → Q ws → R ws)
    → LawAt Q R (λ rows. line_at view rows)
line_law {X = X} Q R view a x sees begins wider next laws = record {
  possible = possible;
  fits = begins (laws x).possible;
  reads = reads;
  stops = stop;
}
  where
    possible : Lines
    possible = a ∷ (laws x).possible

    reads : ReadsAll (λ rows. after (line_at view rows) next) possible
    reads = line_goes view next a x (laws x).possible sees (laws x).reads

    by : (row : ℕ × List (List ℕ)) (rows left : Rows) (o : Option X) → view row.1 ≡ o → after (o, rest_if o (row ∷ rows)) next ≡ (None, left)
        → Stops R (λ l. after (line_at view l) next) (row ∷ rows) left
    by row rows left None seen e =
        let is : row ∷ rows ≡ left = pair_second None None (row ∷ rows) left e in
        record {
          before = [];
          more = possible;
          lines = ap words is;
          left_is = is;
          fits = begins (laws x).possible;
          goes_on = reads;
          stays = λ first behind rest others f g. let whole : words (row ∷ rows) ≡ first ∷ behind = ap words is ∙ f in let same : row.1 ≡ first = cc in line_fails view next first rest (ap view (sym same) ∙ seen) others g;
        }
    by row rows left (Some y) seen e =
        let t = (laws y).stops rows left e in
        record {
          before = row.1 ∷ t.before;
          more = t.more;
          lines = ap (λ (l : Lines). row.1 ∷ l) t.lines;
          left_is = t.left_is;
          fits = wider t.more t.fits;
          goes_on = line_goes view next row.1 y (t.before ++ t.more) seen t.goes_on;
          stays = λ first behind rest others f g. line_passes view next row.1 y (t.before ++ (first ∷ rest)) seen (λ l h. t.stays first behind rest l f h) others g;
        }

    stop : (rows left : Rows) → after (line_at view rows) next ≡ (None, left) → Stops R (λ l. after (line_at view l) next) rows left
    stop [] left e =
        let is : [] ≡ left = pair_second None None [] left e in
        record {
          before = [];
          more = possible;
          lines = ap words is;
          left_is = is;
          fits = begins (laws x).possible;
          goes_on = reads;
          stays = λ first behind rest others f g. let no : words [] ≡ first ∷ behind = ap words is ∙ f in absurd (cc);
        }
    stop (row ∷ rows) left e = by row rows left (view row.1) refl e

-- Lines of one kind.

-- what isn't seen in the first line, whatever follows
not_first : {X : Type 0} (view : List (List ℕ) → Option X) (ws before xs ys : Lines) → NotFirst view ws → ws ≡ before ++ xs → NotFirst view ys → NotFirst view (before ++ ys)
not_first view ws [] xs ys none e other = other
not_first view [] (b ∷ before) xs ys none e other = absurd (cc)
not_first view (w ∷ ws) (b ∷ before) xs ys none e other = let same : w ≡ b = cc in ap view (sym same) ∙ none

first_stays : {X : Type 0} (view : List (List ℕ) → Option X) (ws : Lines) (first : List (List ℕ)) (behind rest : Lines) → NotFirst view ws → ws ≡ first ∷ behind → NotFirst view (first ∷ rest)
first_stays view [] first behind rest none e = absurd (cc)
first_stays view (w ∷ ws) first behind rest none e = let same : w ≡ first = cc in ap view (sym same) ∙ none

first_after : {X : Type 0} (view : List (List ℕ) → Option X) (ws before : Lines) (first : List (List ℕ)) (behind rest : Lines) → NotFirst view ws → ws ≡ before ++ (first ∷ behind)
    → NotFirst view (before ++ (first ∷ rest))
first_after view ws [] first behind rest none e = first_stays view ws first behind rest none e
first_after view ws (b ∷ before) first behind rest none e = first_stays view ws b (before ++ (first ∷ behind)) (before ++ (first ∷ rest)) none e

drop_none : {X : Type 0} (n : ℕ) → ◌≡◌ {A = List X} (drop n []) []
drop_none zero = refl
drop_none (suc n) = refl

drop_both : {X : Type 0} (xs ys : Lines) (rows middle left : List X) → drop (length xs) rows ≡ middle → drop (length ys) middle ≡ left → drop (length (xs ++ ys)) rows ≡ left
drop_both [] ys rows middle left e f = ap (drop (length ys)) e ∙ f
drop_both (x ∷ xs) ys [] middle left e f =
    drop_none (length ((x ∷ xs) ++ ys)) ∙ sym (drop_none (length ys)) ∙ ap (drop (length ys)) (sym (drop_none (length (x ∷ xs))) ∙ e) ∙ f
drop_both (x ∷ xs) ys (r ∷ rows) middle left e f = drop_both xs ys rows middle left e f

-- these lines were read, and no others where what follows isn't seen so
record Split {X : Type 0} (view : List (List ℕ) → Option X) (rows : Rows) (m : List X × Rows) : Type 0 where
  before : Lines
  lines : words rows ≡ before ++ words m.1
  left_is : drop (length before) rows ≡ m.1
  ends : NotFirst view (words m.1)
  nothing : m.0 ≡ [] → rows ≡ m.1
  same : (others : Rows) (rest : Lines) → words others ≡ before ++ rest → NotFirst view rest → (left : Rows) × (many_at view others ≡ (m.0, left)) × (words left ≡ rest)

many_split : {X : Type 0} (view : List (List ℕ) → Option X) (rows : Rows) → Split view rows (many_at view rows)
many_split view [] = record {
  before = [];
  lines = refl;
  left_is = refl;
  ends = tt;
  nothing = λ none. refl;
  same = λ others rest e none. (others, many_none view others rest e none, e);
}
many_split {X = X} view (row ∷ rows) = by (view row.1) refl (many_split view rows)
  where
    others_too : (x : X) → view row.1 ≡ Some x → (s : Split view rows (many_at view rows)) (others : Rows) (rest : Lines) → words others ≡ row.1 ∷ (s.before ++ rest) → NotFirst view rest
        → (left : Rows) × (many_at view others ≡ (x ∷ (many_at view rows).0, left)) × (words left ≡ rest)
    others_too x seen s [] rest e none = absurd (cc)
    others_too x seen s (o ∷ os) rest e none =
        let like : o.1 ≡ row.1 = cc in
        let more : words os ≡ s.before ++ rest = cc in
        let t = s.same os rest more none in
        (t.0, ap (λ (v : Option X). put_first v (o ∷ os) (many_at view os)) (ap view like ∙ seen) ∙ ap (λ (m : List X × Rows). put_first (Some x) (o ∷ os) m) t.1, t.2)

    by : (v : Option X) → view row.1 ≡ v → Split view rows (many_at view rows) → Split view (row ∷ rows) (put_first v (row ∷ rows) (many_at view rows))
    by None seen s = record {
      before = [];
      lines = refl;
      left_is = refl;
      ends = seen;
      nothing = λ none. refl;
      same = λ others rest e none. (others, many_none view others rest e none, e);
    }
    by (Some x) seen s = record {
      before = row.1 ∷ s.before;
      lines = ap (λ (l : Lines). row.1 ∷ l) s.lines;
      left_is = s.left_is;
      ends = s.ends;
      nothing = λ none. absurd (cc);
      same = λ others rest e none. others_too x seen s others rest e none;
    }

-- Pins and linkage, up to the end.

abbrev AtEnd : Lines → Type 0
AtEnd ws = ws ≡ []

pins_of : (rows one two : Rows) (pins : List PinLine) (linkage : List TapLine) → many_at pin_line rows ≡ (pins, one) → many_at linkage_line one ≡ (linkage, two)
    → pins_at rows ≡ ended (let p : Pins = record { pins = pins; linkage = linkage } in p) two
unfolding pins_at
pins_of rows one two pins linkage e f =
    ap (λ (m : List PinLine × Rows). ended (let p : Pins = record { pins = m.0; linkage = (many_at linkage_line m.1).0 } in p) (many_at linkage_line m.1).1) e
    ∙ ap (λ (m : List TapLine × Rows). ended (let p : Pins = record { pins = pins; linkage = m.0 } in p) m.1) f

ended_at : (p : Pins) (h : Pins → Written) (rows left : Rows) → after (ended p rows) (λ q l. done (h q) l) ≡ (None, left) → rows ≡ left
ended_at p h [] left e = let no : Some (h p) ≡ None = pair_first (Some (h p)) None [] left e in absurd (cc)
ended_at p h (row ∷ rows) left e = pair_second None None (row ∷ rows) left e

never_ended : (p : Pins) (h : Pins → Written) (first : List (List ℕ)) (rest : Lines) (rows : Rows) → words rows ≡ first ∷ rest → (after (ended p rows) (λ q l. done (h q) l)).0 ≡ None
never_ended p h first rest [] e = absurd (cc)
never_ended p h first rest (row ∷ rows) e = refl

pins_law : (h : Pins → Written) → Law AtEnd (λ rows. after (pins_at rows) (λ p l. done (h p) l))
pins_law h = record {
  possible = [];
  fits = refl;
  reads = λ rows e.
      let none : rows ≡ [] = no_rows rows e in
      (h (record { pins = []; linkage = [] }), ap (λ (l : Rows). after (pins_at l) (λ p m. done (h p) m)) none ∙ ap (λ r. after r (λ p m. done (h p) m)) (pins_of [] [] [] [] [] refl refl));
  stops = stop;
}
  where
    stopped : (rows left one two : Rows) (pins : List PinLine) (linkage : List TapLine) → Split pin_line rows (pins, one) → Split linkage_line one (linkage, two)
        → many_at pin_line rows ≡ (pins, one) → many_at linkage_line one ≡ (linkage, two)
        → two ≡ left → Stops AtEnd (λ l. after (pins_at l) (λ p m. done (h p) m)) rows left
    stopped rows left one two pins linkage s t e f is =
        record {
          before = s.before ++ t.before;
          more = [];
          lines = s.lines ∙ ap (λ (l : Lines). s.before ++ l) (t.lines ∙ ap (λ (l : Rows). t.before ++ words l) is) ∙ sym (append_assoc s.before t.before (words left));
          left_is = drop_both s.before t.before rows one left s.left_is (t.left_is ∙ is);
          fits = refl;
          goes_on = λ others g.
              let a = s.same others (t.before ++ []) (g ∙ append_assoc s.before t.before []) (not_first pin_line (words one) t.before (words two) [] s.ends t.lines tt) in
              let b = t.same a.0 [] a.2 tt in
              let none : b.0 ≡ [] = no_rows b.0 b.2 in (
                h (record { pins = pins; linkage = linkage }),
                ap (λ r. after r (λ p m. done (h p) m)) (pins_of others a.0 b.0 pins linkage a.1 b.1
                    ∙ ap (λ (l : Rows). ended (let p : Pins = record { pins = pins; linkage = linkage } in p) l) none),
              );
          stays = λ first behind rest others g k.
              let at : words two ≡ first ∷ behind = ap words is ∙ g in
              let next : NotFirst linkage_line (first ∷ rest) = first_stays linkage_line (words two) first behind rest t.ends at in
              let a = s.same others (t.before ++ (first ∷ rest)) (k ∙ append_assoc s.before t.before (first ∷ rest))
              (first_after pin_line (words one) t.before first behind rest s.ends (t.lines ∙ ap (λ (l : Lines). t.before ++ l) at)) in
              let b = t.same a.0 (first ∷ rest) a.2 next in
              ap (λ r. (after r (λ p m. done (h p) m)).0) (pins_of others a.0 b.0 pins linkage a.1 b.1)
              ∙ never_ended (record { pins = pins; linkage = linkage }) h first rest b.0 b.2;
        }

    stop : (rows left : Rows) → after (pins_at rows) (λ p m. done (h p) m) ≡ (None, left) → Stops AtEnd (λ l. after (pins_at l) (λ p m. done (h p) m)) rows left
    stop rows left e =
        let m = many_at pin_line rows in
        let n = many_at linkage_line m.1 in
        stopped rows left m.1 n.1 m.0 n.0 (many_split pin_line rows) (many_split linkage_line m.1) refl refl
        (ended_at (record { pins = m.0; linkage = n.0 }) h n.1 left (ap (λ r. after r (λ p l. done (h p) l)) (sym (pins_of rows m.1 n.1 m.0 n.0 refl refl)) ∙ e))

-- The opcodes, the identification code or none, the usercode or none, and the control cells.

-- one line or none
optional_law : {X : Type 0} (R : Lines → Type 0) (view : List (List ℕ) → Option X) (next : Option X → Rows → Read Written)
    → ((o : Option X) → Law (λ ws. NotFirst view ws × R ws) (next o)) → Law R (λ rows. next (front view rows) (rest_if (front view rows) rows))
optional_law {X = X} R view next laws = record {
  possible = (laws None).possible;
  fits = (laws None).fits.1;
  reads = λ rows e. without (laws None).possible (laws None).fits.0 (laws None).reads rows e;
  stops = stop;
}
  where
    unseen : (rows : Rows) (ws : Lines) → words rows ≡ ws → NotFirst view ws → front view rows ≡ None
    unseen [] ws e none = refl
    unseen (row ∷ rows) [] e none = absurd (cc)
    unseen (row ∷ rows) (w ∷ ws) e none = let same : row.1 ≡ w = cc in ap view same ∙ none

    without : (ws : Lines) → NotFirst view ws → ReadsAll (next None) ws → ReadsAll (λ rows. next (front view rows) (rest_if (front view rows) rows)) ws
    without ws none all rows e =
        let a = all rows e in
        (a.0, ap (λ (o : Option X). next o (rest_if o rows)) (unseen rows ws e none) ∙ a.1)

    with_line : (first : List (List ℕ)) (x : X) (ws : Lines) → view first ≡ Some x → ReadsAll (next (Some x)) ws → ReadsAll (λ rows. next (front view rows) (rest_if (front view rows) rows)) (first ∷ ws)
    with_line first x ws sees all [] e = absurd (cc)
    with_line first x ws sees all (row ∷ rows) e =
        let same : row.1 ≡ first = cc in
        let more : words rows ≡ ws = cc in
        let a = all rows more in
        (a.0, ap (λ (o : Option X). next o (rest_if o (row ∷ rows))) (ap view same ∙ sees) ∙ a.1)

    fails_behind : (first : List (List ℕ)) (x : X) (ws : Lines) → view first ≡ Some x → ((rows : Rows) → words rows ≡ ws → (next (Some x) rows).0 ≡ None)
        → (rows : Rows) → words rows ≡ first ∷ ws → (next (front view rows) (rest_if (front view rows) rows)).0 ≡ None
    fails_behind first x ws sees fails [] e = absurd (cc)
    fails_behind first x ws sees fails (row ∷ rows) e =
        let same : row.1 ≡ first = cc in
        let more : words rows ≡ ws = cc in
        ap (λ (o : Option X). (next o (rest_if o (row ∷ rows))).0) (ap view same ∙ sees) ∙ fails rows more

    unread : (rows left : Rows) → NotFirst view (words rows) → next None rows ≡ (None, left) → Stops R (λ l. next (front view l) (rest_if (front view l) l)) rows left
    unread rows left none e =
        let t = (laws None).stops rows left e in
        record {
          before = t.before;
          more = t.more;
          lines = t.lines;
          left_is = t.left_is;
          fits = t.fits.1;
          goes_on = without (t.before ++ t.more) (not_first view (words rows) t.before (words left) t.more none t.lines t.fits.0) t.goes_on;
          stays = λ first behind rest others f g.
              let apart = first_after view (words rows) t.before first behind rest none (t.lines ∙ ap (λ (l : Lines). t.before ++ l) f) in
              ap (λ (o : Option X). (next o (rest_if o others)).0) (unseen others (t.before ++ (first ∷ rest)) g apart) ∙ t.stays first behind rest others f g;
        }

    by : (row : ℕ × List (List ℕ)) (rows left : Rows) (o : Option X) → view row.1 ≡ o → next o (rest_if o (row ∷ rows)) ≡ (None, left)
        → Stops R (λ l. next (front view l) (rest_if (front view l) l)) (row ∷ rows) left
    by row rows left None seen e = unread (row ∷ rows) left seen e
    by row rows left (Some x) seen e =
        let t = (laws (Some x)).stops rows left e in
        record {
          before = row.1 ∷ t.before;
          more = t.more;
          lines = ap (λ (l : Lines). row.1 ∷ l) t.lines;
          left_is = t.left_is;
          fits = t.fits.1;
          goes_on = with_line row.1 x (t.before ++ t.more) seen t.goes_on;
          stays = λ first behind rest others f g. fails_behind row.1 x (t.before ++ (first ∷ rest)) seen (λ l k. t.stays first behind rest l f k) others g;
        }

    stop : (rows left : Rows) → next (front view rows) (rest_if (front view rows) rows) ≡ (None, left) → Stops R (λ l. next (front view l) (rest_if (front view l) l)) rows left
    stop [] left e = unread [] left tt e
    stop (row ∷ rows) left e = by row rows left (view row.1) refl e

-- one line or more
some_law : {X : Type 0} (view : List (List ℕ) → Option X) (a : List (List ℕ)) (x : X) → view a ≡ Some x → LawAt (NotFirst view) (λ ws. Unit {0}) (λ rows. some_of (many_at view rows))
some_law {X = X} view a x sees next laws = record {
  possible = possible;
  fits = tt;
  reads = reads;
  stops = λ rows left e. by rows left (many_at view rows) refl (many_split view rows) e;
}
  where
    possible : Lines
    possible = a ∷ (laws (x ∷ [])).possible

    reads : ReadsAll (λ rows. after (some_of (many_at view rows)) next) possible
    reads [] e = absurd (cc)
    reads (row ∷ rows) e =
        let same : row.1 ≡ a = cc in
        let more : words rows ≡ (laws (x ∷ [])).possible = cc in
        let b = (laws (x ∷ [])).reads rows more in (
          b.0,
          ap (λ (o : Option X). after (some_of (put_first o (row ∷ rows) (many_at view rows))) next) (ap view same ∙ sees)
              ∙ ap (λ (m : List X × Rows). after (some_of (put_first (Some x) (row ∷ rows) m)) next) (many_none view rows (laws (x ∷ [])).possible more (laws (x ∷ [])).fits) ∙ b.1,
        )

    by : (rows left : Rows) (m : List X × Rows) → many_at view rows ≡ m → Split view rows m → after (some_of m) next ≡ (None, left) → Stops (λ ws. Unit {0}) (λ l. after (some_of (many_at view l)) next) rows left
    by rows left ([], one) is s e =
        let at : rows ≡ left = s.nothing refl ∙ pair_second None None one left e in
        record {
          before = [];
          more = possible;
          lines = ap words at;
          left_is = at;
          fits = tt;
          goes_on = reads;
          stays = λ first behind rest others f g.
              let apart = first_stays view (words one) first behind rest s.ends (ap words (pair_second None None one left e) ∙ f) in
              ap (λ (m : List X × Rows). (after (some_of m) next).0) (many_none view others (first ∷ rest) g apart);
        }
    by rows left (y ∷ ys, one) is s e =
        let t = (laws (y ∷ ys)).stops one left e in
        record {
          before = s.before ++ t.before;
          more = t.more;
          lines = s.lines ∙ ap (λ (l : Lines). s.before ++ l) t.lines ∙ sym (append_assoc s.before t.before (words left));
          left_is = drop_both s.before t.before rows one left s.left_is t.left_is;
          fits = tt;
          goes_on = λ others g.
              let b = s.same others (t.before ++ t.more) (g ∙ append_assoc s.before t.before t.more)
              (not_first view (words one) t.before (words left) t.more s.ends t.lines t.fits) in
              let c = t.goes_on b.0 b.2 in
              (c.0, ap (λ (m : List X × Rows). after (some_of m) next) b.1 ∙ c.1);
          stays = λ first behind rest others f g.
              let b = s.same others (t.before ++ (first ∷ rest)) (g ∙ append_assoc s.before t.before (first ∷ rest))
              (first_after view (words one) t.before first behind rest s.ends (t.lines ∙ ap (λ (l : Lines). t.before ++ l) f)) in
              ap (λ (m : List X × Rows). (after (some_of m) next).0) b.1 ∙ t.stays first behind rest b.0 f b.2;
        }

-- what begins neither by an identification code nor by an opcode
abbrev IsBehindCodes : Lines → Type 0
IsBehindCodes ws = NotFirst idcode_line ws × NotFirst opcode_line ws

-- nor by a usercode
abbrev IsBehindUser : ℕ → Lines → Type 0
IsBehindUser version ws = NotFirst (user_line version) ws × IsBehindCodes ws

behind_end : (version : ℕ) (ws : Lines) → AtEnd ws → IsBehindUser version ws
behind_end version ws none = subst (IsBehindUser version) (sym none) (tt, (tt, tt))

control_law : (version : ℕ) (opcodes : List OpcodeEntry) → LawAt AtEnd (NotFirst opcode_line) (λ rows. codes_second version opcodes rows)
control_law version opcodes next laws =
    law_same (NotFirst opcode_line) (λ rows. second (front idcode_line rows) (code_left rows)) (λ rows. after (codes_second version opcodes rows) next)
    (λ rows. after_again (line_at control_line (user_left version rows))
    (λ control b. done (record { opcodes = opcodes; idcode = front idcode_line rows; usercode = front (user_line version) (code_left rows); control = control }) b) next)
    (optional_law (NotFirst opcode_line) idcode_line second (λ idcode.
    optional_law IsBehindCodes (user_line version) (third idcode) (λ usercode.
    line_law AtEnd (IsBehindUser version) control_line (keyed (codes "control") (codes "BC_1")) kind.Bc1 refl (λ ws. (no_user version kind.Bc1, (refl, refl))) (behind_end version)
    (λ control b. next (record { opcodes = opcodes; idcode = idcode; usercode = usercode; control = control }) b)
    (λ control. laws (record { opcodes = opcodes; idcode = idcode; usercode = usercode; control = control })))))
  where
    third : Option CodeGroups → Option Bits → Rows → Read Written
    third idcode usercode rows = after (line_at control_line rows) (λ control b. next (record { opcodes = opcodes; idcode = idcode; usercode = usercode; control = control }) b)

    second : Option CodeGroups → Rows → Read Written
    second idcode rows = third idcode (front (user_line version) rows) (rest_if (front (user_line version) rows) rows)

-- The whole plan.

abbrev pub Any : Lines → Type 0
Any ws = Unit {0}

any_line : {X : Type 0} (view : List (List ℕ) → Option X) (a : List (List ℕ)) (x : X) → view a ≡ Some x → LawAt Any Any (λ rows. line_at view rows)
any_line view a x sees = line_law Any Any view a x sees (λ ws. tt) (λ ws any. tt)

any_tap : (key : List ℕ) → tap_line key (key ∷ codes "a" ∷ codes "1" ∷ []) ≡ Some (record { name = codes "a"; pin = codes "1" }) → LawAt Any Any (λ rows. line_at (tap_line key) rows)
any_tap key sees = any_line (tap_line key) (key ∷ codes "a" ∷ codes "1" ∷ []) (record { name = codes "a"; pin = codes "1" }) sees

names_law : LawAt Any Any names_at
unfolding names_at
names_law =
    at_after Any Any Any (λ rows. line_at version_line rows) names_second (any_line version_line (keyed (codes "plan") (codes "1")) 1 refl) (λ version.
    at_after Any Any Any (λ rows. line_at (word_line (codes "entity") is_name) rows) (names_third version) (any_line (word_line (codes "entity") is_name) (keyed (codes "entity") (codes "a")) (codes "a") refl) (λ entity.
    at_after Any Any Any (λ rows. line_at (word_line (codes "package") is_name) rows) (names_fourth version entity) (any_line (word_line (codes "package") is_name) (keyed (codes "package") (codes "a")) (codes "a") refl) (λ name.
    at_after Any Any Any (λ rows. line_at (word_line (codes "prefix") is_prefix) rows) (λ prefix l. done (record { version = version; entity = entity; «package» = name; prefix = prefix }) l)
    (any_line (word_line (codes "prefix") is_prefix) (keyed (codes "prefix") (codes "a")) (codes "a") refl) (λ prefix.
    at_done Any (record { version = version; entity = entity; «package» = name; prefix = prefix })))))

taps_law : LawAt Any Any tap_at
unfolding tap_at
taps_law =
    at_after Any Any Any (λ rows. line_at (tap_line (codes "tck")) rows) tap_second (any_tap (codes "tck") refl) (λ tck.
    at_after Any Any Any (λ rows. line_at (tap_line (codes "tms")) rows) (tap_third tck) (any_tap (codes "tms") refl) (λ tms.
    at_after Any Any Any (λ rows. line_at (tap_line (codes "tdi")) rows) (tap_fourth tck tms) (any_tap (codes "tdi") refl) (λ tdi.
    at_after Any Any Any (λ rows. line_at (tap_line (codes "tdo")) rows) (tap_fifth tck tms tdi) (any_tap (codes "tdo") refl) (λ tdo.
    at_after Any Any Any (λ rows. line_at (tap_line (codes "trst")) rows) (λ trst l. done (record { tck = tck; tms = tms; tdi = tdi; tdo = tdo; trst = trst }) l) (any_tap (codes "trst") refl) (λ trst.
    at_done Any (record { tck = tck; tms = tms; tdi = tdi; tdo = tdo; trst = trst }))))))

registers_law : LawAt Any Any registers_at
unfolding registers_at
registers_law =
    at_after Any Any Any (λ rows. line_at (word_line (codes "clock") is_clock) rows) registers_second (any_line (word_line (codes "clock") is_clock) (keyed (codes "clock") (codes "1")) (codes "1") refl) (λ clock.
    at_after Any Any Any (λ rows. line_at length_line rows) (registers_third clock) (any_line length_line (keyed (codes "length") (codes "2")) 2 refl) (λ length.
    at_after Any Any Any (λ rows. line_at capture_line rows) (λ capture l. done (record { clock = clock; length = length; capture = capture }) l)
    (any_line capture_line (keyed (codes "capture") (codes "1")) (record { len = 1; value = 1 }) refl) (λ capture.
    at_done Any (record { clock = clock; length = length; capture = capture }))))

codes_law : (version : ℕ) → LawAt AtEnd Any (codes_at version)
unfolding codes_at
codes_law version =
    at_after AtEnd (NotFirst opcode_line) Any (λ rows. some_of (many_at opcode_line rows)) (codes_second version)
    (some_law opcode_line (codes "opcode" ∷ codes "a" ∷ codes "1" ∷ []) (record { name = codes "a"; bits = record { len = 1; value = 1 } }) refl)
    (λ opcodes. control_law version opcodes)

pub written_law : Law Any written_at
unfolding written_at
written_law =
    names_law written_third (λ names.
    taps_law (written_fourth names) (λ tap.
    registers_law (written_fifth names tap) (λ registers.
    codes_law names.version (written_sixth names tap registers) (λ parts.
    pins_law (λ pins. record { names = names; tap = tap; registers = registers; codes = parts; pins = pins })))))
