-- The lines of a plan that is written so are read so.
use Rattle.std.proofs.Common.{◌≡◌, ◌≢◌, ℕ, List, [], ◌∷◌, ◌++◌, map, Option, Some, None, codes, refl, sym, ap, ◌∙◌}
use Rattle.std.specs.Prelude.{All, ◌==◌, Bool, true, false, if◌then◌else◌, option_and_then}
use Rattle.std.specs.Option.{option_map}
use Rattle.std.proofs.lemmas.List.Elements.{All-head, All-tail}
use Rattle.cell_library.specs.declared.codes.BoundaryKind.{BoundaryKind}
use Rattle.bsdl_device.specs.Runs.{value_after}
use Rattle.bsdl_device.specs.Grammar.{cell_word}
use Rattle.plan_texts.specs.declared.plan.TapLine.{TapLine}
use Rattle.plan_texts.specs.declared.plan.PinLine.{PinLine}
use Rattle.plan_texts.specs.declared.written.Codes.{Codes}
use Rattle.plan_texts.specs.declared.written.Pins.{Pins}
use Rattle.plan_texts.specs.Forms.{is_name, is_prefix, is_clock, bits_of, version_line, word_line, length_line, capture_line, tap_line, opcode_line, idcode_line, user_line, control_line, pin_line, bits_if, word_behind}
use Rattle.plan_texts.specs.Reader.{Rows, Read, done, front, rest_if, line_at, code_left, user_left, put_first, many_at, some_of, linkage_line, ended, names_at, tap_at, registers_at, codes_at, pins_at, written_at}
use Rattle.plan_texts.specs.Grammar.{PlanSource, OpcodeWords, GroupWords, keyed, tap_words, opcode_words, idcode_words, idcode_rows, user_rows, pin_words, plan_rows, IsTapLine, IsOpcode, AreGroupsIf, IsUserIf, IsPinLine, IsSource, entry_of, groups_of, written_of}
use Rattle.plan_texts.proofs.Parts.{goes_on, names_second, names_third, names_fourth, tap_second, tap_third, tap_fourth, tap_fifth, registers_second, registers_third, codes_second, written_third, written_fourth, written_fifth, written_sixth}
use Rattle.plan_texts.proofs.Views.{tap_sees, opcode_sees, idcode_sees, control_sees, pin_sees, word_sees, version_sees, length_sees, user_sees, bits_sees}

-- the words of rows
abbrev pub words : Rows → List (List (List ℕ))
words rows = map (λ (row : ℕ × List (List ℕ)). row.1) rows

-- what is read of rows with these words, and the words that are left
abbrev pub Reads : {X : Type 0} → (Rows → Read X) → Rows → X → List (List (List ℕ)) → Type 0
Reads reading rows x rest = (left : Rows) × (reading rows ≡ (Some x, left)) × (words left ≡ rest)

line_reads : {X : Type 0} (view : List (List ℕ) → Option X) (rows : Rows) (first : List (List ℕ)) (rest : List (List (List ℕ))) (x : X)
    → words rows ≡ first ∷ rest → view first ≡ Some x → Reads (line_at view) rows x rest
line_reads view [] first rest x e h = absurd (cc)
line_reads view (row ∷ rows) first rest x e h =
    let same : row.1 ≡ first = cc in
    let more : words rows ≡ rest = cc in
    (rows, ap (λ o. (o, rest_if o (row ∷ rows))) (ap view same ∙ h), more)

names_read : (s : PlanSource) → IsSource s → (rows : Rows) (rest : List (List (List ℕ)))
    → words rows ≡ keyed (codes "plan") s.version ∷ keyed (codes "entity") s.entity ∷ keyed (codes "package") s.«package» ∷ keyed (codes "prefix") s.prefix ∷ rest
    → Reads names_at rows (written_of s).names rest
unfolding names_at
names_read s is rows rest e =
    let v : ℕ = value_after 10 0 s.version in
    let z = line_reads version_line rows (keyed (codes "plan") s.version)
    (keyed (codes "entity") s.entity ∷ keyed (codes "package") s.«package» ∷ keyed (codes "prefix") s.prefix ∷ rest) v e (version_sees s.version is.version) in
    let a = line_reads (word_line (codes "entity") is_name) z.0 (keyed (codes "entity") s.entity) (keyed (codes "package") s.«package» ∷ keyed (codes "prefix") s.prefix ∷ rest) s.entity
    z.2 (word_sees is_name s.entity is.entity) in
    let b = line_reads (word_line (codes "package") is_name) a.0 (keyed (codes "package") s.«package») (keyed (codes "prefix") s.prefix ∷ rest) s.«package»
    a.2 (word_sees is_name s.«package» is.«package») in
    let d = line_reads (word_line (codes "prefix") is_prefix) b.0 (keyed (codes "prefix") s.prefix) rest s.prefix b.2 (word_sees is_prefix s.prefix is.prefix) in (
      d.0,
      goes_on (line_at version_line rows) v z.0 names_second (Some (written_of s).names, d.0) z.1
          (goes_on (line_at (word_line (codes "entity") is_name) z.0) s.entity a.0 (names_third v) (Some (written_of s).names, d.0) a.1
          (goes_on (line_at (word_line (codes "package") is_name) a.0) s.«package» b.0 (names_fourth v s.entity) (Some (written_of s).names, d.0) b.1
          (goes_on (line_at (word_line (codes "prefix") is_prefix) b.0) s.prefix d.0
          (λ z n. done (record { version = v; entity = s.entity; «package» = s.«package»; prefix = z }) n)
          (Some (written_of s).names, d.0) d.1 refl))),
      d.2,
    )

tap_read : (s : PlanSource) → IsSource s → (rows : Rows) (rest : List (List (List ℕ)))
    → words rows ≡ tap_words (codes "tck") s.tck ∷ tap_words (codes "tms") s.tms ∷ tap_words (codes "tdi") s.tdi ∷ tap_words (codes "tdo") s.tdo ∷ tap_words (codes "trst") s.trst ∷ rest
    → Reads tap_at rows (written_of s).tap rest
unfolding tap_at
tap_read s is rows rest e =
    let a = line_reads (tap_line (codes "tck")) rows (tap_words (codes "tck") s.tck) (tap_words (codes "tms") s.tms ∷ tap_words (codes "tdi") s.tdi ∷ tap_words (codes "tdo") s.tdo ∷ tap_words (codes "trst") s.trst ∷ rest)
    s.tck e (tap_sees (codes "tck") s.tck refl is.tck) in
    let b = line_reads (tap_line (codes "tms")) a.0 (tap_words (codes "tms") s.tms) (tap_words (codes "tdi") s.tdi ∷ tap_words (codes "tdo") s.tdo ∷ tap_words (codes "trst") s.trst ∷ rest)
    s.tms a.2 (tap_sees (codes "tms") s.tms refl is.tms) in
    let d = line_reads (tap_line (codes "tdi")) b.0 (tap_words (codes "tdi") s.tdi) (tap_words (codes "tdo") s.tdo ∷ tap_words (codes "trst") s.trst ∷ rest)
    s.tdi b.2 (tap_sees (codes "tdi") s.tdi refl is.tdi) in
    let f = line_reads (tap_line (codes "tdo")) d.0 (tap_words (codes "tdo") s.tdo) (tap_words (codes "trst") s.trst ∷ rest) s.tdo d.2 (tap_sees (codes "tdo") s.tdo refl is.tdo) in
    let g = line_reads (tap_line (codes "trst")) f.0 (tap_words (codes "trst") s.trst) rest s.trst f.2 (tap_sees (codes "trst") s.trst refl is.trst) in (
      g.0,
      goes_on (line_at (tap_line (codes "tck")) rows) s.tck a.0 tap_second (Some (written_of s).tap, g.0) a.1
          (goes_on (line_at (tap_line (codes "tms")) a.0) s.tms b.0 (tap_third s.tck) (Some (written_of s).tap, g.0) b.1
          (goes_on (line_at (tap_line (codes "tdi")) b.0) s.tdi d.0 (tap_fourth s.tck s.tms) (Some (written_of s).tap, g.0) d.1
          (goes_on (line_at (tap_line (codes "tdo")) d.0) s.tdo f.0 (tap_fifth s.tck s.tms s.tdi) (Some (written_of s).tap, g.0) f.1
          (goes_on (line_at (tap_line (codes "trst")) f.0) s.trst g.0 (λ trst m. done (record { tck = s.tck; tms = s.tms; tdi = s.tdi; tdo = s.tdo; trst = trst }) m)
          (Some (written_of s).tap, g.0) g.1 refl)))),
      g.2,
    )

registers_read : (s : PlanSource) → IsSource s → (rows : Rows) (rest : List (List (List ℕ)))
    → words rows ≡ keyed (codes "clock") s.clock ∷ keyed (codes "length") s.length ∷ keyed (codes "capture") s.capture ∷ rest
    → Reads registers_at rows (written_of s).registers rest
unfolding registers_at
registers_read s is rows rest e =
    let a = line_reads (word_line (codes "clock") is_clock) rows (keyed (codes "clock") s.clock) (keyed (codes "length") s.length ∷ keyed (codes "capture") s.capture ∷ rest) s.clock
    e (word_sees is_clock s.clock is.clock) in
    let b = line_reads length_line a.0 (keyed (codes "length") s.length) (keyed (codes "capture") s.capture ∷ rest) (value_after 10 0 s.length)
    a.2 (length_sees s.length is.length) in
    let d = line_reads capture_line b.0 (keyed (codes "capture") s.capture) rest (bits_of s.capture) b.2 (bits_sees s.capture is.capture) in (
      d.0,
      goes_on (line_at (word_line (codes "clock") is_clock) rows) s.clock a.0 registers_second (Some (written_of s).registers, d.0) a.1
          (goes_on (line_at length_line a.0) (value_after 10 0 s.length) b.0 (registers_third s.clock) (Some (written_of s).registers, d.0) b.1
          (goes_on (line_at capture_line b.0) (bits_of s.capture) d.0 (λ capture n. done (record { clock = s.clock; length = value_after 10 0 s.length; capture = capture }) n)
          (Some (written_of s).registers, d.0) d.1 refl)),
      d.2,
    )

-- the view sees nothing in the first of these
abbrev pub NotFirst : {X : Type 0} → (List (List ℕ) → Option X) → List (List (List ℕ)) → Type 0
NotFirst view [] = Unit {0}
NotFirst view (first ∷ rest) = view first ≡ None

pub many_none : {X : Type 0} (view : List (List ℕ) → Option X) (rows : Rows) (rest : List (List (List ℕ))) → words rows ≡ rest → NotFirst view rest → many_at view rows ≡ ([], rows)
many_none view [] rest e none = refl
many_none view (row ∷ rows) [] e none = absurd (cc)
many_none view (row ∷ rows) (first ∷ rest) e none =
    let same : row.1 ≡ first = cc in
    ap (λ o. put_first o (row ∷ rows) (many_at view rows)) (ap view same ∙ none)

many_reads : {A X : Type 0} (view : List (List ℕ) → Option X) (spell : A → List (List ℕ)) (value : A → X) (P : A → Type 0)
    → ((a : A) → P a → view (spell a) ≡ Some (value a)) → (xs : List A) → All P xs → (rows : Rows) (rest : List (List (List ℕ))) → words rows ≡ map spell xs ++ rest
    → NotFirst view rest → (left : Rows) × (many_at view rows ≡ (map value xs, left)) × (words left ≡ rest)
many_reads view spell value P sees [] each rows rest e none = (rows, many_none view rows rest e none, e)
many_reads view spell value P sees (x ∷ xs) each [] rest e none = absurd (cc)
many_reads view spell value P sees (x ∷ xs) each (row ∷ rows) rest e none =
    let same : row.1 ≡ spell x = cc in
    let more : words rows ≡ map spell xs ++ rest = cc in
    let t = many_reads view spell value P sees xs (All-tail P x xs each) rows rest more none in (
      t.0,
      ap (λ o. put_first o (row ∷ rows) (many_at view rows)) (ap view same ∙ sees x (All-head P x xs each))
          ∙ ap (λ m. put_first (Some (value x)) (row ∷ rows) m) t.1,
      t.2,
    )

idcode_read : (g : Option GroupWords) → AreGroupsIf g → (rows : Rows) (rest : List (List (List ℕ))) → words rows ≡ idcode_rows g ++ rest → NotFirst idcode_line rest
    → (front idcode_line rows ≡ option_map groups_of g) × (words (code_left rows) ≡ rest)
idcode_read None are [] rest e none = (refl, e)
idcode_read None are (row ∷ rows) [] e none = absurd (cc)
idcode_read None are (row ∷ rows) (first ∷ rest) e none =
    let same : row.1 ≡ first = cc in
    let nothing : idcode_line row.1 ≡ None = ap idcode_line same ∙ none in
    (nothing, ap (λ o. words (rest_if o (row ∷ rows))) nothing ∙ e)
idcode_read (Some g) are [] rest e none = absurd (cc)
idcode_read (Some g) are (row ∷ rows) rest e none =
    let same : row.1 ≡ idcode_words g = cc in
    let more : words rows ≡ rest = cc in
    let some : idcode_line row.1 ≡ Some (groups_of g) = ap idcode_line same ∙ idcode_sees g are in
    (some, ap (λ o. words (rest_if o (row ∷ rows))) some ∙ more)

user_read : (version : ℕ) (u : Option (List ℕ)) → IsUserIf version u → (rows : Rows) (rest : List (List (List ℕ))) → words rows ≡ user_rows u ++ rest → NotFirst (user_line version) rest
    → (front (user_line version) rows ≡ option_map bits_of u) × (words (rest_if (front (user_line version) rows) rows) ≡ rest)
user_read version None is [] rest e none = (refl, e)
user_read version None is (row ∷ rows) [] e none = absurd (cc)
user_read version None is (row ∷ rows) (first ∷ rest) e none =
    let same : row.1 ≡ first = cc in
    let nothing : user_line version row.1 ≡ None = ap (user_line version) same ∙ none in
    (nothing, ap (λ o. words (rest_if o (row ∷ rows))) nothing ∙ e)
user_read version (Some u) is [] rest e none = absurd (cc)
user_read version (Some u) is (row ∷ rows) rest e none =
    let same : row.1 ≡ keyed (codes "usercode") u = cc in
    let more : words rows ≡ rest = cc in
    let some : user_line version row.1 ≡ Some (bits_of u) = ap (user_line version) same ∙ user_sees version u is.0 is.1 in
    (some, ap (λ o. words (rest_if o (row ∷ rows))) some ∙ more)

no_opcode : (g : Option GroupWords) (u : Option (List ℕ)) (c : BoundaryKind) (rest : List (List (List ℕ)))
    → NotFirst opcode_line (idcode_rows g ++ (user_rows u ++ (keyed (codes "control") (cell_word c) ∷ rest)))
no_opcode None None c rest = refl
no_opcode None (Some u) c rest = refl
no_opcode (Some g) u c rest = refl

no_idcode : (u : Option (List ℕ)) (c : BoundaryKind) (rest : List (List (List ℕ))) → NotFirst idcode_line (user_rows u ++ (keyed (codes "control") (cell_word c) ∷ rest))
no_idcode None c rest = refl
no_idcode (Some u) c rest = refl

-- a line of the control cells is no usercode
pub no_user : (version : ℕ) (c : BoundaryKind) → user_line version (keyed (codes "control") (cell_word c)) ≡ None
no_user version c = by (version == 2)
  where
    by : (t : Bool) → (if t then option_and_then bits_if (word_behind (codes "usercode") (keyed (codes "control") (cell_word c))) else None) ≡ None
    by true = refl
    by false = refl

some_reads : (xs : List OpcodeWords) (left : Rows) → xs ≢ [] → some_of (map entry_of xs, left) ≡ (Some (map entry_of xs), left)
some_reads [] left h = absurd (h refl)
some_reads (x ∷ xs) left h = refl

codes_read : (s : PlanSource) → IsSource s → (rows : Rows) (rest : List (List (List ℕ)))
    → words rows ≡ map opcode_words s.opcodes ++ (idcode_rows s.idcode ++ (user_rows s.usercode ++ (keyed (codes "control") (cell_word s.control) ∷ rest)))
    → Reads (codes_at (value_after 10 0 s.version)) rows (written_of s).codes rest
unfolding codes_at
codes_read s is rows rest e =
    let v : ℕ = value_after 10 0 s.version in
    let control = keyed (codes "control") (cell_word s.control) ∷ rest in
    let a = many_reads opcode_line opcode_words entry_of IsOpcode opcode_sees s.opcodes is.opcodes rows (idcode_rows s.idcode ++ (user_rows s.usercode ++ control)) e
    (no_opcode s.idcode s.usercode s.control rest) in
    let b = idcode_read s.idcode is.idcode a.0 (user_rows s.usercode ++ control) a.2 (no_idcode s.usercode s.control rest) in
    let u = user_read v s.usercode is.usercode (code_left a.0) control b.1 (no_user v s.control) in
    let d = line_reads control_line (user_left v a.0) (keyed (codes "control") (cell_word s.control)) rest s.control u.1 (control_sees s.control is.control) in
    let some : some_of (many_at opcode_line rows) ≡ (Some (map entry_of s.opcodes), a.0) = ap some_of a.1 ∙ some_reads s.opcodes a.0 is.some in
    let whole : Codes = (written_of s).codes in (
      d.0,
      goes_on (some_of (many_at opcode_line rows)) (map entry_of s.opcodes) a.0 (codes_second v) (Some whole, d.0) some
          (goes_on (line_at control_line (user_left v a.0)) s.control d.0
          (λ control n. done (record { opcodes = map entry_of s.opcodes; idcode = front idcode_line a.0; usercode = front (user_line v) (code_left a.0); control = control }) n)
          (Some whole, d.0) d.1
          (ap (λ g. (Some (let c : Codes = record { opcodes = map entry_of s.opcodes; idcode = g; usercode = front (user_line v) (code_left a.0); control = s.control } in c), d.0)) b.0
          ∙ ap (λ g. (Some (let c : Codes = record { opcodes = map entry_of s.opcodes; idcode = option_map groups_of s.idcode; usercode = g; control = s.control } in c), d.0)) u.0)),
      d.2,
    )

no_pin : (linkage : List TapLine) → NotFirst pin_line (map (tap_words (codes "linkage")) linkage ++ [])
no_pin [] = tt
no_pin (line ∷ linkage) = refl

same_list : {X : Type 0} (xs : List X) → map (λ (x : X). x) xs ≡ xs
same_list [] = refl
same_list {X = X} (x ∷ xs) = ap (λ (l : List X). x ∷ l) (same_list xs)

append_none : {X : Type 0} (xs : List X) → xs ++ [] ≡ xs
append_none [] = refl
append_none {X = X} (x ∷ xs) = ap (λ (l : List X). x ∷ l) (append_none xs)

pub no_rows : (rows : Rows) → words rows ≡ [] → rows ≡ []
no_rows [] e = refl
no_rows (row ∷ rows) e = absurd (cc)

pins_read : (s : PlanSource) → IsSource s → (rows : Rows) → words rows ≡ map pin_words s.pins ++ map (tap_words (codes "linkage")) s.linkage
    → pins_at rows ≡ (Some (written_of s).pins, [])
unfolding pins_at
pins_read s is rows e =
    let linkage = map (tap_words (codes "linkage")) s.linkage in
    let a = many_reads pin_line pin_words (λ (p : PinLine). p) IsPinLine pin_sees s.pins is.pins rows (linkage ++ [])
    (e ∙ ap (λ (l : List (List (List ℕ))). map pin_words s.pins ++ l) (sym (append_none linkage))) (no_pin s.linkage) in
    let b = many_reads linkage_line (tap_words (codes "linkage")) (λ (t : TapLine). t) IsTapLine (λ line form. tap_sees (codes "linkage") line refl form) s.linkage is.linkage a.0 [] a.2 tt in
    let end : b.0 ≡ [] = no_rows b.0 b.2 in
    let first : many_at pin_line rows ≡ (s.pins, a.0) = a.1 ∙ ap (λ (l : List PinLine). (l, a.0)) (same_list s.pins) in
    let second : many_at linkage_line a.0 ≡ (s.linkage, []) = b.1 ∙ ap (λ (l : List TapLine). (l, b.0)) (same_list s.linkage) ∙ ap (λ (l : Rows). (s.linkage, l)) end in
    let second_of : many_at linkage_line (many_at pin_line rows).1 ≡ (s.linkage, []) = ap (λ (m : List PinLine × Rows). many_at linkage_line m.1) first ∙ second in
    ap (λ (m : List PinLine × Rows). ended (let p : Pins = record { pins = m.0; linkage = (many_at linkage_line (many_at pin_line rows).1).0 } in p) (many_at linkage_line (many_at pin_line rows).1).1) first
    ∙ ap (λ (m : List TapLine × Rows). ended (let p : Pins = record { pins = s.pins; linkage = m.0 } in p) m.1) second_of

pub source_reads : (s : PlanSource) → IsSource s → (rows : Rows) → words rows ≡ plan_rows s → written_at rows ≡ (Some (written_of s), [])
unfolding written_at
source_reads s is rows e =
    let from_pins = map pin_words s.pins ++ map (tap_words (codes "linkage")) s.linkage in
    let from_codes = map opcode_words s.opcodes ++ (idcode_rows s.idcode ++ (user_rows s.usercode ++ (keyed (codes "control") (cell_word s.control) ∷ from_pins))) in
    let from_registers = keyed (codes "clock") s.clock ∷ keyed (codes "length") s.length ∷ keyed (codes "capture") s.capture ∷ from_codes in
    let from_tap = tap_words (codes "tck") s.tck ∷ tap_words (codes "tms") s.tms ∷ tap_words (codes "tdi") s.tdi ∷ tap_words (codes "tdo") s.tdo ∷ tap_words (codes "trst") s.trst ∷ from_registers in
    let b = names_read s is rows from_tap e in
    let d = tap_read s is b.0 from_registers b.2 in
    let f = registers_read s is d.0 from_codes d.2 in
    let g = codes_read s is f.0 from_pins f.2 in
    let h = pins_read s is g.0 g.2 in
    goes_on (names_at rows) (written_of s).names b.0 written_third (Some (written_of s), []) b.1
    (goes_on (tap_at b.0) (written_of s).tap d.0 (written_fourth (written_of s).names) (Some (written_of s), []) d.1
    (goes_on (registers_at d.0) (written_of s).registers f.0 (written_fifth (written_of s).names (written_of s).tap) (Some (written_of s), []) f.1
    (goes_on (codes_at (written_of s).names.version f.0) (written_of s).codes g.0 (written_sixth (written_of s).names (written_of s).tap (written_of s).registers) (Some (written_of s), []) g.1
    (goes_on (pins_at g.0) (written_of s).pins []
    (λ pins n. done (record { names = (written_of s).names; tap = (written_of s).tap; registers = (written_of s).registers; codes = (written_of s).codes; pins = pins }) n)
    (Some (written_of s), []) h refl))))
