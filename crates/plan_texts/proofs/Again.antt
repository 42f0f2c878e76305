-- The canonical text of a plan that some bytes spell spells it.
use Rattle.std.proofs.Common.{◌≡◌, ◌≢◌, ℕ, ◌+◌, ◌*◌, ◌/◌, ◌%◌, ◌^◌, ◌<◌, ◌≤◌, Bool, true, false, List, [], ◌∷◌, ◌++◌, map, length, codes, Option, Some, None, refl, sym, ap, ◌∙◌, subst, arith, leb-true, eqb-true}
use Rattle.std.specs.Prelude.{if◌then◌else◌, All, not, ◌&&◌, ◌||◌, ◌==◌, is_some, nat_le}
use Rattle.std.specs.List.{filter_map, enumerate_from, list_all}
use Rattle.std.specs.Option.{option_map}
use Rattle.std.specs.Str.{bytes_eq}
use Rattle.std.specs.Fmt.{decimal}
use Rattle.std.specs.Cmp.Lexicographic.{bytes_decides}
use Rattle.std.proofs.lemmas.List.Elements.{All-nil, All-cons, All-head, All-tail}
use Rattle.list_laws.proofs.Tests.{both_true, not_false, or_second}
use Rattle.list_laws.proofs.Options.{or_else-parts, not_there, found}
use Rattle.cell_library.specs.declared.codes.Instr.{Instr}
use Rattle.cell_library.specs.declared.codes.Instr.TheVariants as instr
use Rattle.bsdl_lexicon.specs.Bytes.{is_digit}
use Rattle.bsdl_device.specs.Instructions.{instruction_word}
use Rattle.bsdl_device.specs.Canonical.{bits_text, pattern_text}
use Rattle.bsdl_device.specs.Runs.{is_integer, value_after}
use Rattle.bsdl_device.specs.Checks.{has_instruction, has_other_length}
use Rattle.bsdl_device.specs.declared.entries.OpcodeEntry.{OpcodeEntry}
use Rattle.word_cutter.specs.LinesWords.{is_line_end, is_blank_byte, kept_lines}
use Rattle.word_cutter.specs.Rows.{IsWordByte, IsWord, IsRow, rows_text}
use Rattle.word_cutter.specs.LinesLaws.{KeptAreRows, ReadsBack, RowsReadBack}
use Rattle.texts.specs.First.{first_in}
use Rattle.word_cutter.proofs.Rows.{IsNumberedRow}
use Rattle.plan_texts.specs.declared.fault.PlanFault.TheVariants as fault
use Rattle.plan_texts.specs.declared.plan.Plan.{Plan}
use Rattle.plan_texts.specs.declared.written.Written.{Written}
use Rattle.plan_texts.specs.Forms.{is_version, is_length, bits_of}
use Rattle.plan_texts.specs.Rules.{instructions_of, instruction_of, known, twice_fault, opcode_fault, groups_misfit, code_of, idcode_fails, idcode_fault, usercode_fails, usercode_fault, unknown_fault, rule_fault}
use Rattle.plan_texts.specs.Meaning.{typed, value_of, plan_of}
use Rattle.plan_texts.specs.Grammar.{PlanSource, OpcodeWords, GroupWords, SpellsPlan, IsOpcode, AreGroups, AreGroupsIf, IsUserIf, IsSource, keyed, tap_words, opcode_words, idcode_words, idcode_rows, user_rows, code_rows, plan_rows, entry_of, groups_of, written_of}
use Rattle.plan_texts.specs.Canonical.{opcode_row, code_row, code_rows_of, user_rows_of, version_word, canonical_rows, canonical_plan, IsPlan}
use Rattle.plan_texts.proofs.Digits.{decimal_all_digits, decimal_some, decimal_value, decimal_is_length, pattern_back, pattern_below, pattern_group, low_bits}

-- a known opcode line is written from what it means
opcode_again : (profile : List Instr) (o : OpcodeWords) → IsOpcode o → (i : Instr) → instruction_of profile o.name ≡ Some i
    → opcode_row (record { instr = i; bits = bits_of o.bits }) ≡ opcode_words o
opcode_again profile o is i e =
    let name : o.name ≡ instruction_word i = (bytes_decides o.name (instruction_word i)).0 (found (λ (j : Instr). bytes_eq o.name (instruction_word j)) profile i e) in
    ap (λ (w : List ℕ). codes "opcode" ∷ w ∷ pattern_text (bits_of o.bits) ∷ []) (sym name)
    ∙ ap (λ (w : List ℕ). codes "opcode" ∷ o.name ∷ w ∷ []) (pattern_back o.bits is.bits)

opcodes_again : (profile : List Instr) (os : List OpcodeWords) → All IsOpcode os → first_in (unknown_fault profile) (map entry_of os) ≡ None
    → map opcode_row (filter_map (typed profile) (map entry_of os)) ≡ map opcode_words os
opcodes_again profile [] each none = refl
opcodes_again profile (o ∷ os) each none =
    let t = or_else-parts (unknown_fault profile (entry_of o)) (first_in (unknown_fault profile) (map entry_of os)) none in
    by (instruction_of profile o.name) refl t.0 (opcodes_again profile os (All-tail IsOpcode o os each) t.1)
  where
    by : (found : Option Instr) → instruction_of profile o.name ≡ found → (if is_some found then None else Some (fault.PlanInstruction o.name)) ≡ None
        → map opcode_row (filter_map (typed profile) (map entry_of os)) ≡ map opcode_words os
        → map opcode_row (filter_map (typed profile) (entry_of o ∷ map entry_of os)) ≡ opcode_words o ∷ map opcode_words os
    by None e hidden more = absurd (cc)
    by (Some i) e hidden more =
        let first : typed profile (entry_of o) ≡ Some (record { instr = i; bits = bits_of o.bits }) = ap (λ (f : Option Instr). option_map (λ j. record { instr = j; bits = bits_of o.bits }) f) e in
        rw first (ap (λ (w : List (List ℕ)). w ∷ map opcode_row (filter_map (typed profile) (map entry_of os))) (opcode_again profile o (All-head IsOpcode o os each) i e)
        ∙ ap (λ (l : List (List (List ℕ))). opcode_words o ∷ l) more)

right_length : (n : ℕ) (w : List ℕ) → has_other_length n (bits_of w) ≡ false → length w ≡ n
right_length n w h = eqb-true (length w) n (not_false (length w == n) h)

no_four : (a b d e : Bool) → a || b || d || e ≡ false → (a ≡ false) × (b ≡ false) × (d ≡ false) × (e ≡ false)
no_four false false false false h = (refl, refl, refl, refl)
no_four true b d e h = absurd (cc)
no_four false true d e h = absurd (cc)
no_four false false true e h = absurd (cc)
no_four false false false true h = absurd (cc)

no_three : (a b d : Bool) → a || b || d ≡ false → b ≡ false
no_three false false false h = refl
no_three true b d h = absurd (cc)
no_three false true d h = absurd (cc)
no_three false false true h = absurd (cc)

failing : (t : Bool) → (if t then Some fault.PlanIdcode else None) ≡ None → t ≡ false
failing true h = absurd (cc)
failing false h = refl

code_again : (g : GroupWords) → AreGroups g → groups_misfit (groups_of g) ≡ false → code_row (code_of (groups_of g)) ≡ idcode_words g
code_again g are fits =
    let lens = no_four (has_other_length 4 (bits_of g.version)) (has_other_length 16 (bits_of g.part)) (has_other_length 11 (bits_of g.manufacturer)) (has_other_length 1 (bits_of g.mark)) fits in
    let v : ℕ = value_after 2 0 g.version in
    let p : ℕ = value_after 2 0 g.part in
    let m : ℕ = value_after 2 0 g.manufacturer in
    let k : ℕ = value_after 2 0 g.mark in
    let lv = right_length 4 g.version lens.0 in
    let lp = right_length 16 g.part lens.1 in
    let lm = right_length 11 g.manufacturer lens.2 in
    let lk = right_length 1 g.mark lens.3 in
    all v p m k g.version g.part g.manufacturer g.mark (pattern_below g.version 4 are.version lv) (pattern_below g.part 16 are.part lp)
    (pattern_below g.manufacturer 11 are.manufacturer lm) (pattern_below g.mark 1 are.mark lk)
    (pattern_group g.version 4 are.version lv) (pattern_group g.part 16 are.part lp) (pattern_group g.manufacturer 11 are.manufacturer lm) (pattern_group g.mark 1 are.mark lk)
  where
    all : (v p m k : ℕ) (a b d e : List ℕ) → v < 2 ^ 4 → p < 2 ^ 16 → m < 2 ^ 11 → k < 2 ^ 1 → bits_text 4 v ≡ a → bits_text 16 p ≡ b → bits_text 11 m ≡ d → bits_text 1 k ≡ e
        → code_row ((2 ^ 28 * v + 2 ^ 12 * p + 2 * m + k) % 2 ^ 32) ≡ codes "idcode" ∷ a ∷ b ∷ d ∷ e ∷ []
    all v p m k a b d e hv hp hm hk ea eb ed ee =
        let code : ℕ = (2 ^ 28 * v + 2 ^ 12 * p + 2 * m + k) % 2 ^ 32 in
        let first : code / 2 ^ 28 ≡ v = omega arith in
        let second : code / 2 ^ 12 ≡ v * 2 ^ 16 + p = omega arith in
        let third : code / 2 ≡ (v * 2 ^ 16 + p) * 2 ^ 11 + m = omega arith in
        let last : code ≡ ((v * 2 ^ 16 + p) * 2 ^ 11 + m) * 2 ^ 1 + k = omega arith in
        let one : bits_text 4 (code / 2 ^ 28) ≡ a = ap (bits_text 4) first ∙ ea in
        let two : bits_text 16 (code / 2 ^ 12) ≡ b = ap (bits_text 16) second ∙ low_bits 16 v p ∙ eb in
        let three : bits_text 11 (code / 2) ≡ d = ap (bits_text 11) third ∙ low_bits 11 (v * 2 ^ 16 + p) m ∙ ed in
        let four : bits_text 1 code ≡ e = ap (bits_text 1) last ∙ low_bits 1 ((v * 2 ^ 16 + p) * 2 ^ 11 + m) k ∙ ee in
        cc

codes_again : (opcodes : List OpcodeEntry) (g : Option GroupWords) → AreGroupsIf g → idcode_fault opcodes (option_map groups_of g) ≡ None
    → code_rows_of (option_map code_of (option_map groups_of g)) ≡ idcode_rows g
codes_again opcodes None are none = refl
codes_again opcodes (Some g) are none =
    let fails : idcode_fails opcodes (Some (groups_of g)) ≡ false = failing (idcode_fails opcodes (Some (groups_of g))) none in
    ap (λ (w : List (List ℕ)). w ∷ []) (code_again g are (no_three _ (groups_misfit (groups_of g)) _ fails))

user_again : (version : ℕ) (opcodes : List OpcodeEntry) (u : Option (List ℕ)) → IsUserIf version u → usercode_fault version opcodes (option_map bits_of u) ≡ None
    → user_rows_of (option_map value_of (option_map bits_of u)) ≡ user_rows u
user_again version opcodes None is none = refl
user_again version opcodes (Some bits) is none =
    let fails : usercode_fails opcodes (Some (bits_of bits)) ≡ false
    = sym (ap (λ (t : Bool). t && usercode_fails opcodes (Some (bits_of bits))) is.1) ∙ (not_there (version == 2 && usercode_fails opcodes (Some (bits_of bits))) fault.PlanUsercode None none).0 in
    let long : length bits ≡ 32 = right_length 32 bits (or_second (not (has_instruction opcodes instr.Usercode) || not (has_instruction opcodes instr.Idcode)) (has_other_length 32 (bits_of bits)) fails) in
    ap (λ (w : List ℕ). keyed (codes "usercode") w ∷ []) (pattern_group bits 32 is.0 long)

version_again : (word : List ℕ) → is_version word ≡ true → version_word (value_after 10 0 word) ≡ word
version_again word h = by (bytes_eq word (codes "1")) refl h
  where
    by : (t : Bool) → bytes_eq word (codes "1") ≡ t → (t || bytes_eq word (codes "2")) ≡ true → version_word (value_after 10 0 word) ≡ word
    by true e h = let one : word ≡ codes "1" = (bytes_decides word (codes "1")).0 e in ap (λ (w : List ℕ). version_word (value_after 10 0 w)) one ∙ sym one
    by false e h = let two : word ≡ codes "2" = (bytes_decides word (codes "2")).0 h in ap (λ (w : List ℕ). version_word (value_after 10 0 w)) two ∙ sym two

-- the source with its length as it is printed
printed : PlanSource → PlanSource
printed s = record s { length = decimal (value_after 10 0 s.length) }

rows_are : (s : PlanSource) → IsSource s → rule_fault (written_of s) ≡ None → canonical_rows (plan_of (written_of s)) ≡ plan_rows (printed s)
unfolding printed
rows_are s is rules =
    let entries = map entry_of s.opcodes in
    let v : ℕ = value_after 10 0 s.version in
    let profile : List Instr = instructions_of v in
    let a = or_else-parts (twice_fault entries) _ rules in
    let b = or_else-parts (opcode_fault (value_after 10 0 s.length) (bits_of s.capture) (known profile entries)) _ a.1 in
    let d = or_else-parts (idcode_fault (known profile entries) (option_map groups_of s.idcode)) _ b.1 in
    let f = or_else-parts (usercode_fault v (known profile entries) (option_map bits_of s.usercode)) (first_in (unknown_fault profile) entries) d.1 in
    let opcodes : map opcode_row (filter_map (typed profile) entries) ≡ map opcode_words s.opcodes = opcodes_again profile s.opcodes is.opcodes f.1 in
    let code : code_rows_of (option_map code_of (option_map groups_of s.idcode)) ≡ idcode_rows s.idcode = codes_again (known profile entries) s.idcode is.idcode d.0 in
    let user : user_rows_of (option_map value_of (option_map bits_of s.usercode)) ≡ user_rows s.usercode = user_again v (known profile entries) s.usercode is.usercode f.0 in
    let version : version_word v ≡ s.version = version_again s.version is.version in
    let capture : pattern_text (bits_of s.capture) ≡ s.capture = pattern_back s.capture is.capture in
    rw (version, capture, opcodes, code, user) refl

length_within : (w : List ℕ) → is_length w ≡ true → (2 ≤ value_after 10 0 w) × (value_after 10 0 w ≤ 32)
length_within w h =
    let t = both_true (is_integer w && nat_le 2 (value_after 10 0 w)) (nat_le (value_after 10 0 w) 32) h in
    let u = both_true (is_integer w) (nat_le 2 (value_after 10 0 w)) t.0 in
    (leb-true 2 (value_after 10 0 w) u.1, leb-true (value_after 10 0 w) 32 t.1)

printed_is : (s : PlanSource) → IsSource s → IsSource (printed s)
unfolding printed
printed_is s is =
    let n : ℕ = value_after 10 0 s.length in
    let within = length_within s.length is.length in
    record {
      version = is.version;
      entity = is.entity;
      «package» = is.«package»;
      prefix = is.prefix;
      tck = is.tck;
      tms = is.tms;
      tdi = is.tdi;
      tdo = is.tdo;
      trst = is.trst;
      clock = is.clock;
      length = decimal_is_length n within.0 within.1;
      capture = is.capture;
      some = is.some;
      opcodes = is.opcodes;
      idcode = is.idcode;
      usercode = is.usercode;
      control = is.control;
      pins = is.pins;
      linkage = is.linkage;
    }

printed_written : (s : PlanSource) → IsSource s → written_of (printed s) ≡ written_of s
unfolding printed
printed_written s is =
    let value : value_after 10 0 (decimal (value_after 10 0 s.length)) ≡ value_after 10 0 s.length = decimal_value (value_after 10 0 s.length) (length_within s.length is.length).1 in
    ap (λ (n : ℕ). (let w : Written = record (written_of s) { registers = record { clock = s.clock; length = n; capture = bits_of s.capture } } in w)) value

-- The rows of the text.

digit_is_byte : (b : ℕ) → is_digit b ≡ true → IsWordByte b
digit_is_byte b h = record { no_blank = no_blank b h; no_end = no_end b h }
  where
    no_blank : (b : ℕ) → is_digit b ≡ true → is_blank_byte b ≡ false
    no_blank b h = grind arith

    no_end : (b : ℕ) → is_digit b ≡ true → is_line_end b ≡ false
    no_end b h = grind arith

digits_are_bytes : (ds : List ℕ) → list_all is_digit ds ≡ true → All IsWordByte ds
digits_are_bytes [] h = All-nil IsWordByte
digits_are_bytes (d ∷ ds) h =
    let t = both_true (is_digit d) (list_all is_digit ds) h in
    All-cons IsWordByte d ds (digit_is_byte d t.0) (digits_are_bytes ds t.1)

some_bytes : (w : List ℕ) → 0 < length w → w ≢ []
some_bytes [] h = absurd (omega arith)
some_bytes (b ∷ w) h = λ e. cc

number_is_word : (n : ℕ) → n ≤ 32 → IsWord (decimal n)
number_is_word n low = record { some = some_bytes (decimal n) (decimal_some n low); each = digits_are_bytes (decimal n) (decimal_all_digits n low) }

length_row : (old : List ℕ) (n : ℕ) → n ≤ 32 → IsRow (keyed (codes "length") old) → IsRow (keyed (codes "length") (decimal n))
length_row old n low row = record {
  kept = refl;
  each = All-cons IsWord (codes "length") (decimal n ∷ []) (All-head IsWord (codes "length") (old ∷ []) row.each)
      (All-cons IsWord (decimal n) [] (number_is_word n low) (All-nil IsWord));
}

other_row : (front : List (List (List ℕ))) (x y : List (List ℕ)) (back : List (List (List ℕ))) → All IsRow (front ++ x ∷ back) → (IsRow x → IsRow y) → All IsRow (front ++ y ∷ back)
other_row [] x y back all f = All-cons IsRow y back (f (All-head IsRow x back all)) (All-tail IsRow x back all)
other_row (r ∷ front) x y back all f = All-cons IsRow r (front ++ y ∷ back) (All-head IsRow r (front ++ x ∷ back) all) (other_row front x y back (All-tail IsRow r (front ++ x ∷ back) all) f)

rows_of_kept : (rows : List (ℕ × List (List ℕ))) → All IsNumberedRow rows → All IsRow (map (λ (row : ℕ × List (List ℕ)). row.1) rows)
rows_of_kept [] all = All-nil IsRow
rows_of_kept (row ∷ rows) all = All-cons IsRow row.1 (map (λ (r : ℕ × List (List ℕ)). r.1) rows) (All-head IsNumberedRow row rows all) (rows_of_kept rows (All-tail IsNumberedRow row rows all))

printed_rows : (s : PlanSource) → IsSource s → All IsRow (plan_rows s) → All IsRow (plan_rows (printed s))
unfolding printed
printed_rows s is all =
    other_row
    (keyed (codes "plan") s.version ∷ keyed (codes "entity") s.entity ∷ keyed (codes "package") s.«package» ∷ keyed (codes "prefix") s.prefix
    ∷ tap_words (codes "tck") s.tck ∷ tap_words (codes "tms") s.tms ∷ tap_words (codes "tdi") s.tdi ∷ tap_words (codes "tdo") s.tdo ∷ tap_words (codes "trst") s.trst
    ∷ keyed (codes "clock") s.clock ∷ [])
    (keyed (codes "length") s.length) (keyed (codes "length") (decimal (value_after 10 0 s.length))) (keyed (codes "capture") s.capture ∷ code_rows s) all
    (length_row s.length (value_after 10 0 s.length) (length_within s.length is.length).1)

unnumbered : (n : ℕ) (rows : List (List (List ℕ))) → map (λ (row : ℕ × List (List ℕ)). row.1) (enumerate_from n rows) ≡ rows
unnumbered n [] = refl
unnumbered n (row ∷ rows) = ap (λ (l : List (List (List ℕ))). row ∷ l) (unnumbered (n + 1) rows)

pub canonical_spells : KeptAreRows → RowsReadBack → (bytes : List ℕ) (plan : Plan) → SpellsPlan bytes plan → SpellsPlan (canonical_plan plan) plan
canonical_spells kept_law back_law bytes plan spells =
    let s : PlanSource = spells.source in
    let is = spells.forms in
    let old : All IsRow (plan_rows s) = subst (λ (l : List (List (List ℕ))). All IsRow l) spells.lines_are (rows_of_kept (kept_lines bytes) (kept_law bytes)) in
    let back : ReadsBack (plan_rows (printed s)) = back_law (plan_rows (printed s)) (printed_rows s is old) in
    let same : canonical_rows plan ≡ plan_rows (printed s) = ap canonical_rows spells.plan_is ∙ rows_are s is spells.rules in
    let written = printed_written s is in
    record {
      source = printed s;
      lines_are = ap (λ (r : List (List (List ℕ))). map (λ (row : ℕ × List (List ℕ)). row.1) (kept_lines (rows_text r))) same
          ∙ ap (λ (l : List (ℕ × List (List ℕ))). map (λ (row : ℕ × List (List ℕ)). row.1) l) back.kept ∙ unnumbered 1 (plan_rows (printed s));
      forms = printed_is s is;
      rules = ap rule_fault written ∙ spells.rules;
      plan_is = spells.plan_is ∙ ap plan_of (sym written);
    }

pub plan_reads_back : KeptAreRows → RowsReadBack → (plan : Plan) → IsPlan plan → SpellsPlan (canonical_plan plan) plan
plan_reads_back kept_law back_law plan is = canonical_spells kept_law back_law is.0 plan is.1
