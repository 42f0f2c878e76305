-- What is read of the lines of a plan is written so.
use Rattle.std.proofs.Common.{◌≡◌, ◌≢◌, ℕ, Bool, true, List, [], ◌∷◌, ◌++◌, map, Option, Some, None, codes, refl, sym, ap, ◌∙◌, subst}
use Rattle.std.specs.Prelude.{All}
use Rattle.std.specs.Option.{option_map}
use Rattle.std.proofs.lemmas.List.Elements.{All-nil, All-cons}
use Rattle.cell_library.specs.declared.codes.Bits.{Bits}
use Rattle.bsdl_device.specs.Runs.{is_pattern, value_after}
use Rattle.bsdl_device.specs.declared.entries.OpcodeEntry.{OpcodeEntry}
use Rattle.bsdl_device.specs.Grammar.{cell_word}
use Rattle.plan_texts.specs.declared.plan.TapLine.{TapLine}
use Rattle.plan_texts.specs.declared.plan.PinLine.{PinLine}
use Rattle.plan_texts.specs.declared.written.Names.{Names}
use Rattle.plan_texts.specs.declared.written.TapLines.{TapLines}
use Rattle.plan_texts.specs.declared.written.Registers.{Registers}
use Rattle.plan_texts.specs.declared.written.Codes.{Codes}
use Rattle.plan_texts.specs.declared.written.CodeGroups.{CodeGroups}
use Rattle.plan_texts.specs.declared.written.Pins.{Pins}
use Rattle.plan_texts.specs.declared.written.Written.{Written}
use Rattle.plan_texts.specs.Forms.{is_name, is_prefix, is_clock, is_length, is_version, bits_of, version_line, word_line, length_line, capture_line, tap_line, opcode_line, idcode_line, user_line, control_line, pin_line}
use Rattle.plan_texts.specs.Reader.{Rows, Read, done, after, front, rest_if, line_at, code_left, user_left, put_first, many_at, some_of, linkage_line, ended, names_at, tap_at, registers_at, codes_at, pins_at, written_at}
use Rattle.plan_texts.specs.Grammar.{PlanSource, OpcodeWords, GroupWords, keyed, tap_words, opcode_words, idcode_rows, user_rows, pin_words, plan_rows, IsTapLine, IsOpcode, AreGroupsIf, IsUserIf, IsControl, IsPinLine, IsSource, entry_of, groups_of, written_of}
use Rattle.plan_texts.proofs.Complete.{words}
use Rattle.plan_texts.proofs.Parts.{names_second, names_third, names_fourth, tap_second, tap_third, tap_fourth, tap_fifth, registers_second, registers_third, codes_second, written_third, written_fourth, written_fifth, written_sixth}
use Rattle.plan_texts.proofs.Views.{version_seen, word_seen, length_seen, capture_seen, tap_seen, opcode_seen, idcode_seen, user_seen, control_seen, pin_seen}

pub pair_first : {A B : Type 0} (a x : A) (b y : B) → ◌≡◌ {A = A × B} (a, b) (x, y) → a ≡ x
pair_first {A = A} {B = B} a x b y e = ap (λ (p : A × B). p.0) e

pub pair_second : {A B : Type 0} (a x : A) (b y : B) → ◌≡◌ {A = A × B} (a, b) (x, y) → b ≡ y
pair_second {A = A} {B = B} a x b y e = ap (λ (p : A × B). p.1) e

after_sound : {X Y : Type 0} (read : Read X) (next : X → Rows → Read Y) (y : Y) (left : Rows) → after read next ≡ (Some y, left)
    → (x : X) × (rest : Rows) × (read ≡ (Some x, rest)) × (next x rest ≡ (Some y, left))
after_sound (None, rest) next y left e = let no : None ≡ Some y = pair_first None (Some y) rest left e in absurd (cc)
after_sound (Some x, rest) next y left e = (x, rest, refl, e)

line_sound : {X : Type 0} (view : List (List ℕ) → Option X) (rows : Rows) (x : X) (left : Rows) → line_at view rows ≡ (Some x, left)
    → (first : List (List ℕ)) × (view first ≡ Some x) × (words rows ≡ first ∷ words left)
line_sound view [] x left e = let no : None ≡ Some x = pair_first None (Some x) [] left e in absurd (cc)
line_sound {X = X} view (row ∷ rows) x left e =
    let seen : view row.1 ≡ Some x = pair_first (view row.1) (Some x) (rest_if (view row.1) (row ∷ rows)) left e in
    let rest : rest_if (view row.1) (row ∷ rows) ≡ left = pair_second (view row.1) (Some x) (rest_if (view row.1) (row ∷ rows)) left e in
    let same : rows ≡ left = sym (ap (λ (o : Option X). rest_if o (row ∷ rows)) seen) ∙ rest in
    (row.1, seen, ap (λ (l : Rows). row.1 ∷ words l) same)

made : {X : Type 0} (x y : X) (rest left : Rows) → done x rest ≡ (Some y, left) → (x ≡ y) × (rest ≡ left)
made x y rest left e = let some : Some x ≡ Some y = pair_first (Some x) (Some y) rest left e in ((let same : x ≡ y = cc in same), pair_second (Some x) (Some y) rest left e)

-- the words of a line with one word behind its key
word_sound : (key : List ℕ) (test : List ℕ → Bool) (rows left : Rows) (word : List ℕ) → line_at (word_line key test) rows ≡ (Some word, left)
    → (words rows ≡ keyed key word ∷ words left) × (test word ≡ true)
word_sound key test rows left word e =
    let l = line_sound (word_line key test) rows word left e in
    let v = word_seen key test l.0 word l.1 in
    (l.2 ∙ ap (λ (w : List (List ℕ)). w ∷ words left) v.0, v.1)

tap_line_sound : (key : List ℕ) (rows left : Rows) (line : TapLine) → line_at (tap_line key) rows ≡ (Some line, left)
    → (words rows ≡ tap_words key line ∷ words left) × IsTapLine line
tap_line_sound key rows left line e =
    let l = line_sound (tap_line key) rows line left e in
    let v = tap_seen key l.0 line l.1 in
    (l.2 ∙ ap (λ (w : List (List ℕ)). w ∷ words left) v.0, v.1)

pub record NamesSound (rows left : Rows) (n : Names) : Type 0 where
  pub version_word : List ℕ
  pub version : is_version version_word ≡ true
  pub version_is : value_after 10 0 version_word ≡ n.version
  pub lines : words rows ≡ keyed (codes "plan") version_word ∷ keyed (codes "entity") n.entity ∷ keyed (codes "package") n.«package» ∷ keyed (codes "prefix") n.prefix ∷ words left
  pub entity : is_name n.entity ≡ true
  pub «package» : is_name n.«package» ≡ true
  pub prefix : is_prefix n.prefix ≡ true

names_sound : (rows left : Rows) (n : Names) → names_at rows ≡ (Some n, left) → NamesSound rows left n
unfolding names_at
names_sound rows left n e =
    let z = after_sound (line_at version_line rows) names_second n left e in
    let a = after_sound (line_at (word_line (codes "entity") is_name) z.1) (names_third z.0) n left z.3 in
    let b = after_sound (line_at (word_line (codes "package") is_name) a.1) (names_fourth z.0 a.0) n left a.3 in
    let d = after_sound (line_at (word_line (codes "prefix") is_prefix) b.1) (λ x l. done (record { version = z.0; entity = a.0; «package» = b.0; prefix = x }) l) n left b.3 in
    let lv = line_sound version_line rows z.0 z.1 z.2 in
    let v = version_seen lv.0 z.0 lv.1 in
    let m = made (let x : Names = record { version = z.0; entity = a.0; «package» = b.0; prefix = d.0 } in x) n d.1 left d.3 in
    let p = word_sound (codes "entity") is_name z.1 a.1 a.0 a.2 in
    let q = word_sound (codes "package") is_name a.1 b.1 b.0 b.2 in
    let r = word_sound (codes "prefix") is_prefix b.1 d.1 d.0 d.2 in
    subst (λ (l : Rows). NamesSound rows l n) m.1
    (subst (λ (x : Names). NamesSound rows d.1 x) m.0 (record {
      version_word = v.0;
      version = v.2;
      version_is = v.3;
      lines = lv.2 ∙ ap (λ x. x ∷ words z.1) v.1
          ∙ ap (λ l. keyed (codes "plan") v.0 ∷ l) (p.0 ∙ ap (λ l. keyed (codes "entity") a.0 ∷ l) (q.0 ∙ ap (λ l. keyed (codes "package") b.0 ∷ l) r.0));
      entity = p.1;
      «package» = q.1;
      prefix = r.1;
    }))

pub record TapSound (rows left : Rows) (t : TapLines) : Type 0 where
  pub lines : words rows ≡ tap_words (codes "tck") t.tck ∷ tap_words (codes "tms") t.tms ∷ tap_words (codes "tdi") t.tdi ∷ tap_words (codes "tdo") t.tdo ∷ tap_words (codes "trst") t.trst ∷ words left
  pub tck : IsTapLine t.tck
  pub tms : IsTapLine t.tms
  pub tdi : IsTapLine t.tdi
  pub tdo : IsTapLine t.tdo
  pub trst : IsTapLine t.trst

tap_sound : (rows left : Rows) (t : TapLines) → tap_at rows ≡ (Some t, left) → TapSound rows left t
unfolding tap_at
tap_sound rows left t e =
    let a = after_sound (line_at (tap_line (codes "tck")) rows) tap_second t left e in
    let b = after_sound (line_at (tap_line (codes "tms")) a.1) (tap_third a.0) t left a.3 in
    let d = after_sound (line_at (tap_line (codes "tdi")) b.1) (tap_fourth a.0 b.0) t left b.3 in
    let f = after_sound (line_at (tap_line (codes "tdo")) d.1) (tap_fifth a.0 b.0 d.0) t left d.3 in
    let g = after_sound (line_at (tap_line (codes "trst")) f.1) (λ trst l. done (record { tck = a.0; tms = b.0; tdi = d.0; tdo = f.0; trst = trst }) l) t left f.3 in
    let m = made (let x : TapLines = record { tck = a.0; tms = b.0; tdi = d.0; tdo = f.0; trst = g.0 } in x) t g.1 left g.3 in
    let p = tap_line_sound (codes "tck") rows a.1 a.0 a.2 in
    let q = tap_line_sound (codes "tms") a.1 b.1 b.0 b.2 in
    let r = tap_line_sound (codes "tdi") b.1 d.1 d.0 d.2 in
    let u = tap_line_sound (codes "tdo") d.1 f.1 f.0 f.2 in
    let v = tap_line_sound (codes "trst") f.1 g.1 g.0 g.2 in
    subst (λ (l : Rows). TapSound rows l t) m.1
    (subst (λ (x : TapLines). TapSound rows g.1 x) m.0 (record {
      lines = p.0 ∙ ap (λ l. tap_words (codes "tck") a.0 ∷ l) (q.0 ∙ ap (λ l. tap_words (codes "tms") b.0 ∷ l) (r.0 ∙ ap (λ l. tap_words (codes "tdi") d.0 ∷ l)
          (u.0 ∙ ap (λ l. tap_words (codes "tdo") f.0 ∷ l) v.0)));
      tck = p.1;
      tms = q.1;
      tdi = r.1;
      tdo = u.1;
      trst = v.1;
    }))

pub record RegistersSound (rows left : Rows) (r : Registers) : Type 0 where
  pub length_word : List ℕ
  pub capture_word : List ℕ
  pub lines : words rows ≡ keyed (codes "clock") r.clock ∷ keyed (codes "length") length_word ∷ keyed (codes "capture") capture_word ∷ words left
  pub clock : is_clock r.clock ≡ true
  pub length : is_length length_word ≡ true
  pub capture : is_pattern capture_word ≡ true
  pub length_is : value_after 10 0 length_word ≡ r.length
  pub capture_is : bits_of capture_word ≡ r.capture

registers_sound : (rows left : Rows) (r : Registers) → registers_at rows ≡ (Some r, left) → RegistersSound rows left r
unfolding registers_at
registers_sound rows left r e =
    let a = after_sound (line_at (word_line (codes "clock") is_clock) rows) registers_second r left e in
    let b = after_sound (line_at length_line a.1) (registers_third a.0) r left a.3 in
    let d = after_sound (line_at capture_line b.1) (λ capture l. done (record { clock = a.0; length = b.0; capture = capture }) l) r left b.3 in
    let m = made (let x : Registers = record { clock = a.0; length = b.0; capture = d.0 } in x) r d.1 left d.3 in
    let p = word_sound (codes "clock") is_clock rows a.1 a.0 a.2 in
    let lq = line_sound length_line a.1 b.0 b.1 b.2 in
    let q = length_seen lq.0 b.0 lq.1 in
    let lr = line_sound capture_line b.1 d.0 d.1 d.2 in
    let s = capture_seen lr.0 d.0 lr.1 in
    subst (λ (l : Rows). RegistersSound rows l r) m.1
    (subst (λ (x : Registers). RegistersSound rows d.1 x) m.0 (record {
      length_word = q.0;
      capture_word = s.0;
      lines = p.0 ∙ ap (λ l. keyed (codes "clock") a.0 ∷ l) (lq.2 ∙ ap (λ w. w ∷ words b.1) q.1
          ∙ ap (λ l. keyed (codes "length") q.0 ∷ l) (lr.2 ∙ ap (λ w. w ∷ words d.1) s.1));
      clock = p.1;
      length = q.2;
      capture = s.2;
      length_is = q.3;
      capture_is = s.3;
    }))

-- what is read of many lines is spelled so
abbrev ManySound : {A X : Type 0} → (A → List (List ℕ)) → (A → X) → (A → Type 0) → Rows → List X → Rows → Type 0
ManySound {A = A} spell value P rows ys left = (xs : List A) × (map value xs ≡ ys) × All P xs × (words rows ≡ map spell xs ++ words left)

many_sound : {A X : Type 0} (view : List (List ℕ) → Option X) (spell : A → List (List ℕ)) (value : A → X) (P : A → Type 0)
    → ((first : List (List ℕ)) (x : X) → view first ≡ Some x → (a : A) × P a × (first ≡ spell a) × (value a ≡ x)) → (rows : Rows)
    → ManySound spell value P rows (many_at view rows).0 (many_at view rows).1
many_sound view spell value P seen [] = ([], refl, All-nil P, refl)
many_sound {A = A} {X = X} view spell value P seen (row ∷ rows) = by (view row.1) refl (many_sound view spell value P seen rows)
  where
    by : (o : Option X) → view row.1 ≡ o → ManySound spell value P rows (many_at view rows).0 (many_at view rows).1
        → ManySound spell value P (row ∷ rows) (put_first o (row ∷ rows) (many_at view rows)).0 (put_first o (row ∷ rows) (many_at view rows)).1
    by None e more = ([], refl, All-nil P, refl)
    by (Some x) e more =
        let a = seen row.1 x e in (
          a.0 ∷ more.0,
          (let values : map value more.0 ≡ (many_at view rows).0 = more.1 in ap (λ (y : X). y ∷ map value more.0) a.3 ∙ ap (λ (l : List X). x ∷ l) values),
          All-cons P a.0 more.0 a.1 more.2,
          ap (λ (w : List (List ℕ)). w ∷ words rows) a.2 ∙ ap (λ (l : List (List (List ℕ))). spell a.0 ∷ l) more.3,
        )

some_sound : {X : Type 0} (m : List X × Rows) (xs : List X) (left : Rows) → some_of m ≡ (Some xs, left) → (m.0 ≡ xs) × (m.1 ≡ left)
some_sound ([], rows) xs left e = let no : None ≡ Some xs = pair_first None (Some xs) rows left e in absurd (cc)
some_sound (x ∷ ys, rows) xs left e = made (x ∷ ys) xs rows left e

not_none : (os : List OpcodeWords) (m : List OpcodeEntry × Rows) (xs : List OpcodeEntry) (left : Rows) → some_of m ≡ (Some xs, left) → map entry_of os ≡ m.0 → os ≢ []
not_none os ([], rows) xs left e same = let no : None ≡ Some xs = pair_first None (Some xs) rows left e in absurd (cc)
not_none os (x ∷ ys, rows) xs left e same = λ none. let no : [] ≡ x ∷ ys = sym (ap (map entry_of) none) ∙ same in cc

pub record CodesSound (version : ℕ) (rows left : Rows) (c : Codes) : Type 0 where
  pub opcodes : List OpcodeWords
  pub idcode : Option GroupWords
  pub usercode : Option (List ℕ)
  pub lines : words rows ≡ map opcode_words opcodes ++ (idcode_rows idcode ++ (user_rows usercode ++ (keyed (codes "control") (cell_word c.control) ∷ words left)))
  pub some : opcodes ≢ []
  pub are_opcodes : All IsOpcode opcodes
  pub are_groups : AreGroupsIf idcode
  pub is_user : IsUserIf version usercode
  pub is_control : IsControl c.control
  pub opcodes_are : map entry_of opcodes ≡ c.opcodes
  pub idcode_is : option_map groups_of idcode ≡ c.idcode
  pub usercode_is : option_map bits_of usercode ≡ c.usercode

user_sound : (version : ℕ) (rows : Rows) → (u : Option (List ℕ)) × IsUserIf version u × (option_map bits_of u ≡ front (user_line version) rows)
    × (words rows ≡ user_rows u ++ words (rest_if (front (user_line version) rows) rows))
user_sound version [] = (None, tt, refl, refl)
user_sound version (row ∷ rows) = by (user_line version row.1) refl
  where
    by : (o : Option Bits) → user_line version row.1 ≡ o → (u : Option (List ℕ)) × IsUserIf version u × (option_map bits_of u ≡ o)
        × (words (row ∷ rows) ≡ user_rows u ++ words (rest_if o (row ∷ rows)))
    by None e = (None, tt, refl, refl)
    by (Some bits) e =
        let v = user_seen version row.1 bits e in
        (Some v.0, (v.2, v.3), ap (λ (x : Bits). Some x) v.4, ap (λ (w : List (List ℕ)). w ∷ words rows) v.1)

idcode_sound : (rows : Rows) → (g : Option GroupWords) × AreGroupsIf g × (option_map groups_of g ≡ front idcode_line rows)
    × (words rows ≡ idcode_rows g ++ words (rest_if (front idcode_line rows) rows))
idcode_sound [] = (None, tt, refl, refl)
idcode_sound (row ∷ rows) = by (idcode_line row.1) refl
  where
    by : (o : Option CodeGroups) → idcode_line row.1 ≡ o → (g : Option GroupWords) × AreGroupsIf g × (option_map groups_of g ≡ o)
        × (words (row ∷ rows) ≡ idcode_rows g ++ words (rest_if o (row ∷ rows)))
    by None e = (None, tt, refl, refl)
    by (Some groups) e =
        let v = idcode_seen row.1 groups e in
        (Some v.0, v.1, ap (λ (x : CodeGroups). Some x) v.3, ap (λ (w : List (List ℕ)). w ∷ words rows) v.2)

codes_sound : (version : ℕ) (rows left : Rows) (c : Codes) → codes_at version rows ≡ (Some c, left) → CodesSound version rows left c
unfolding codes_at
codes_sound version rows left c e =
    let a = after_sound (some_of (many_at opcode_line rows)) (codes_second version) c left e in
    let b = after_sound (line_at control_line (user_left version a.1))
    (λ control l. done (record { opcodes = a.0; idcode = front idcode_line a.1; usercode = front (user_line version) (code_left a.1); control = control }) l) c left a.3 in
    let m = made (let x : Codes = record { opcodes = a.0; idcode = front idcode_line a.1; usercode = front (user_line version) (code_left a.1); control = b.0 } in x) c b.1 left b.3 in
    let s = some_sound (many_at opcode_line rows) a.0 a.1 a.2 in
    let o = many_sound opcode_line opcode_words entry_of IsOpcode opcode_seen rows in
    let i = idcode_sound a.1 in
    let u = user_sound version (code_left a.1) in
    let lk = line_sound control_line (user_left version a.1) b.0 b.1 b.2 in
    let k = control_seen lk.0 b.0 lk.1 in
    subst (λ (l : Rows). CodesSound version rows l c) m.1
    (subst (λ (x : Codes). CodesSound version rows b.1 x) m.0 (record {
      opcodes = o.0;
      idcode = i.0;
      usercode = u.0;
      lines = o.3 ∙ ap (λ (l : Rows). map opcode_words o.0 ++ words l) s.1
          ∙ ap (λ l. map opcode_words o.0 ++ l) (i.3 ∙ ap (λ l. idcode_rows i.0 ++ l)
          (u.3 ∙ ap (λ l. user_rows u.0 ++ l) (lk.2 ∙ ap (λ w. w ∷ words b.1) k.0)));
      some = not_none o.0 (many_at opcode_line rows) a.0 a.1 a.2 o.1;
      are_opcodes = o.2;
      are_groups = i.1;
      is_user = u.1;
      is_control = k.1;
      opcodes_are = o.1 ∙ s.0;
      idcode_is = i.2;
      usercode_is = u.2;
    }))

pub record PinsSound (rows left : Rows) (p : Pins) : Type 0 where
  pub lines : words rows ≡ map pin_words p.pins ++ map (tap_words (codes "linkage")) p.linkage
  pub pins : All IsPinLine p.pins
  pub linkage : All IsTapLine p.linkage

ended_sound : {X : Type 0} (x y : X) (rows left : Rows) → ended x rows ≡ (Some y, left) → (x ≡ y) × (rows ≡ [])
ended_sound x y [] left e = ((made x y [] left e).0, refl)
ended_sound x y (row ∷ rows) left e = let no : None ≡ Some y = pair_first None (Some y) (row ∷ rows) left e in absurd (cc)

same_list : {X : Type 0} (xs : List X) → map (λ (x : X). x) xs ≡ xs
same_list [] = refl
same_list {X = X} (x ∷ xs) = ap (λ (l : List X). x ∷ l) (same_list xs)

append_none : {X : Type 0} (xs : List X) → xs ++ [] ≡ xs
append_none [] = refl
append_none {X = X} (x ∷ xs) = ap (λ (l : List X). x ∷ l) (append_none xs)

pins_sound : (rows left : Rows) (p : Pins) → pins_at rows ≡ (Some p, left) → PinsSound rows left p
unfolding pins_at
pins_sound rows left p e =
    let first = many_at pin_line rows in
    let second = many_at linkage_line first.1 in
    let m = ended_sound (let x : Pins = record { pins = first.0; linkage = second.0 } in x) p second.1 left e in
    let a = many_sound pin_line pin_words (λ (q : PinLine). q) IsPinLine (λ w x h. (x, (pin_seen w x h).1, (pin_seen w x h).0, refl)) rows in
    let b = many_sound linkage_line (tap_words (codes "linkage")) (λ (t : TapLine). t) IsTapLine
    (λ w x h. (x, (tap_seen (codes "linkage") w x h).1, (tap_seen (codes "linkage") w x h).0, refl)) first.1 in
    let are : a.0 ≡ first.0 = sym (same_list a.0) ∙ a.1 in
    let link : b.0 ≡ second.0 = sym (same_list b.0) ∙ b.1 in
    let end : words first.1 ≡ map (tap_words (codes "linkage")) second.0
    = b.3 ∙ ap (λ (l : Rows). map (tap_words (codes "linkage")) b.0 ++ words l) m.1 ∙ append_none (map (tap_words (codes "linkage")) b.0)
    ∙ ap (λ (l : List TapLine). map (tap_words (codes "linkage")) l) link in
    subst (λ (x : Pins). PinsSound rows left x) m.0 (record {
      lines = a.3 ∙ ap (λ (l : List PinLine). map pin_words l ++ words first.1) are ∙ ap (λ l. map pin_words first.0 ++ l) end;
      pins = subst (λ (l : List PinLine). All IsPinLine l) are a.2;
      linkage = subst (λ (l : List TapLine). All IsTapLine l) link b.2;
    })

-- what is written has a source
pub record HasSource (rows : Rows) (w : Written) : Type 0 where
  pub source : PlanSource
  pub lines : words rows ≡ plan_rows source
  pub forms : IsSource source
  pub written_is : written_of source ≡ w

pub written_sound : (rows left : Rows) (w : Written) → written_at rows ≡ (Some w, left) → HasSource rows w
unfolding written_at
written_sound rows left w e =
    let b = after_sound (names_at rows) written_third w left e in
    let d = after_sound (tap_at b.1) (written_fourth b.0) w left b.3 in
    let f = after_sound (registers_at d.1) (written_fifth b.0 d.0) w left d.3 in
    let g = after_sound (codes_at b.0.version f.1) (written_sixth b.0 d.0 f.0) w left f.3 in
    let h = after_sound (pins_at g.1) (λ pins l. done (record { names = b.0; tap = d.0; registers = f.0; codes = g.0; pins = pins }) l) w left g.3 in
    let m = made (let x : Written = record { names = b.0; tap = d.0; registers = f.0; codes = g.0; pins = h.0 } in x) w h.1 left h.3 in
    let n = names_sound rows b.1 b.0 b.2 in
    let t = tap_sound b.1 d.1 d.0 d.2 in
    let r = registers_sound d.1 f.1 f.0 f.2 in
    let c = codes_sound b.0.version f.1 g.1 g.0 g.2 in
    let p = pins_sound g.1 h.1 h.0 h.2 in
    let s : PlanSource = record {
      version = n.version_word;
      entity = b.0.entity;
      «package» = b.0.«package»;
      prefix = b.0.prefix;
      tck = d.0.tck;
      tms = d.0.tms;
      tdi = d.0.tdi;
      tdo = d.0.tdo;
      trst = d.0.trst;
      clock = f.0.clock;
      length = r.length_word;
      capture = r.capture_word;
      opcodes = c.opcodes;
      idcode = c.idcode;
      usercode = c.usercode;
      control = g.0.control;
      pins = h.0.pins;
      linkage = h.0.linkage;
    } in
    record {
      source = s;
      lines = n.lines ∙ ap (λ l. keyed (codes "plan") n.version_word ∷ keyed (codes "entity") b.0.entity ∷ keyed (codes "package") b.0.«package» ∷ keyed (codes "prefix") b.0.prefix ∷ l)
          (t.lines ∙ ap (λ l. tap_words (codes "tck") d.0.tck ∷ tap_words (codes "tms") d.0.tms ∷ tap_words (codes "tdi") d.0.tdi ∷ tap_words (codes "tdo") d.0.tdo ∷ tap_words (codes "trst") d.0.trst ∷ l)
          (r.lines ∙ ap (λ l. keyed (codes "clock") f.0.clock ∷ keyed (codes "length") r.length_word ∷ keyed (codes "capture") r.capture_word ∷ l)
          (c.lines ∙ ap (λ l. map opcode_words c.opcodes ++ (idcode_rows c.idcode ++ (user_rows c.usercode ++ (keyed (codes "control") (cell_word g.0.control) ∷ l)))) p.lines)));
      forms = record {
        version = n.version;
        entity = n.entity;
        «package» = n.«package»;
        prefix = n.prefix;
        tck = t.tck;
        tms = t.tms;
        tdi = t.tdi;
        tdo = t.tdo;
        trst = t.trst;
        clock = r.clock;
        length = r.length;
        capture = r.capture;
        some = c.some;
        opcodes = c.are_opcodes;
        idcode = c.are_groups;
        usercode = subst (λ (k : ℕ). IsUserIf k c.usercode) (sym n.version_is) c.is_user;
        control = c.is_control;
        pins = p.pins;
        linkage = p.linkage;
      };
      written_is = same_written s w b.0 d.0 f.0 g.0 h.0 (same_names b.0 n.version_word n.version_is) refl (same_registers f.0 r.length_word r.capture_word r.length_is r.capture_is)
          (same_codes g.0 c.opcodes c.idcode c.usercode c.opcodes_are c.idcode_is c.usercode_is) refl m.0;
    }
  where
    same_registers : (r : Registers) (length capture : List ℕ) → value_after 10 0 length ≡ r.length → bits_of capture ≡ r.capture
        → (let x : Registers = record { clock = r.clock; length = value_after 10 0 length; capture = bits_of capture } in x) ≡ r
    same_registers r length capture e f =
        ap (λ (n : ℕ). (let x : Registers = record { clock = r.clock; length = n; capture = bits_of capture } in x)) e
        ∙ ap (λ (b : Bits). (let x : Registers = record { clock = r.clock; length = r.length; capture = b } in x)) f

    same_names : (n : Names) (version : List ℕ) → value_after 10 0 version ≡ n.version
        → (let x : Names = record { version = value_after 10 0 version; entity = n.entity; «package» = n.«package»; prefix = n.prefix } in x) ≡ n
    same_names n version e = ap (λ (v : ℕ). (let x : Names = record { version = v; entity = n.entity; «package» = n.«package»; prefix = n.prefix } in x)) e

    same_codes : (c : Codes) (opcodes : List OpcodeWords) (idcode : Option GroupWords) (usercode : Option (List ℕ)) → map entry_of opcodes ≡ c.opcodes → option_map groups_of idcode ≡ c.idcode
        → option_map bits_of usercode ≡ c.usercode
        → (let x : Codes = record { opcodes = map entry_of opcodes; idcode = option_map groups_of idcode; usercode = option_map bits_of usercode; control = c.control } in x) ≡ c
    same_codes c opcodes idcode usercode e f g =
        ap (λ (l : List OpcodeEntry). (let x : Codes = record { opcodes = l; idcode = option_map groups_of idcode; usercode = option_map bits_of usercode; control = c.control } in x)) e
        ∙ ap (λ (o : Option CodeGroups). (let x : Codes = record { opcodes = c.opcodes; idcode = o; usercode = option_map bits_of usercode; control = c.control } in x)) f
        ∙ ap (λ (o : Option Bits). (let x : Codes = record { opcodes = c.opcodes; idcode = c.idcode; usercode = o; control = c.control } in x)) g

    same_written : (s : PlanSource) (w : Written) (n : Names) (t : TapLines) (r : Registers) (c : Codes) (p : Pins) → (written_of s).names ≡ n → (written_of s).tap ≡ t
        → (written_of s).registers ≡ r → (written_of s).codes ≡ c → (written_of s).pins ≡ p
        → (let x : Written = record { names = n; tap = t; registers = r; codes = c; pins = p } in x) ≡ w → written_of s ≡ w
    same_written s w n t r c p en et er ec ep is =
        ap (λ (y : Names). (let x : Written = record { names = y; tap = (written_of s).tap; registers = (written_of s).registers; codes = (written_of s).codes; pins = (written_of s).pins } in x)) en
        ∙ ap (λ (y : TapLines). (let x : Written = record { names = n; tap = y; registers = (written_of s).registers; codes = (written_of s).codes; pins = (written_of s).pins } in x)) et
        ∙ ap (λ (y : Registers). (let x : Written = record { names = n; tap = t; registers = y; codes = (written_of s).codes; pins = (written_of s).pins } in x)) er
        ∙ ap (λ (y : Codes). (let x : Written = record { names = n; tap = t; registers = r; codes = y; pins = (written_of s).pins } in x)) ec
        ∙ ap (λ (y : Pins). (let x : Written = record { names = n; tap = t; registers = r; codes = c; pins = y } in x)) ep
        ∙ is
