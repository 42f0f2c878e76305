-- A plan with other pin lines, another control line and the version that its usercode wants is spelled too.
use Rattle.std.proofs.Common.{◌≡◌, ℕ, ◌+◌, ◌==◌, ◌&&◌, Bool, true, false, List, [], ◌∷◌, ◌++◌, map, filter_map, find, codes, refl, sym, ◌∙◌, ap, subst, Option, Some, None, option_map, is_some, arith, All, if◌then◌else◌, eqb-true}
use Rattle.std.specs.List.{cons_option, enumerate_from, AllByRecursion}
use Rattle.std.specs.Str.{bytes_eq}
use Rattle.std.proofs.lemmas.List.Elements.{All-nil, All-cons, All-head, All-tail}
use Rattle.std.proofs.lemmas.Slice.Eq.{bytes_eq-Decides}
use Rattle.list_laws.proofs.Options.{or_else-parts}
use Rattle.list_laws.proofs.Tests.{or_first, or_second, never_true}
use Rattle.cell_library.specs.declared.codes.Bits.{Bits}
use Rattle.cell_library.specs.declared.codes.BoundaryKind.{BoundaryKind}
use Rattle.cell_library.specs.declared.codes.BoundaryKind.TheVariants.{Bc1, Bc2, Bc4, Bc7}
use Rattle.cell_library.specs.declared.codes.Instr.{Instr}
use Rattle.cell_library.specs.declared.codes.Instr.TheVariants as instr
use Rattle.cell_library.specs.declared.codes.Opcode.{Opcode}
use Rattle.bsdl_device.specs.declared.entries.OpcodeEntry.{OpcodeEntry}
use Rattle.bsdl_device.specs.Grammar.{cell_word}
use Rattle.bsdl_device.specs.Instructions.{instruction_word, all_instructions, names_instruction}
use Rattle.bsdl_device.specs.Checks.{has_instruction}
use Rattle.bsdl_device.specs.Runs.{value_after}
use Rattle.texts.specs.First.{or_else, first_in}
use Rattle.word_cutter.specs.LinesWords.{is_blank_byte, is_line_end, kept_lines}
use Rattle.word_cutter.specs.Rows.{IsWordByte, IsWord, IsRow, rows_text}
use Rattle.word_cutter.specs.LinesLaws.{KeptAreRows, RowsReadBack}
use Rattle.plan_texts.specs.declared.fault.PlanFault.{PlanFault}
use Rattle.plan_texts.specs.declared.fault.PlanFault.TheVariants as fault
use Rattle.plan_texts.specs.declared.plan.PinLine.{PinLine}
use Rattle.plan_texts.specs.declared.plan.Plan.{Plan}
use Rattle.plan_texts.specs.declared.written.Written.{Written}
use Rattle.plan_texts.specs.Forms.{is_version, is_pin, bits_of}
use Rattle.plan_texts.specs.Rules.{first_instructions, instructions_of, instruction_of, is_known, known, twice_fault, opcode_fault, idcode_fault, usercode_fails, usercode_fault, unknown_fault, fault_by, rule_fault}
use Rattle.plan_texts.specs.Meaning.{typed, value_of, plan_of}
use Rattle.plan_texts.specs.Grammar.{PlanSource, SpellsPlan, IsSource, IsUserIf, IsControl, IsPinLine, keyed, tap_words, opcode_words, idcode_rows, user_rows, pin_words, plan_rows, written_of}
use Rattle.plan_texts.specs.Canonical.{IsPlan}
use Rattle.strip_model.specs.Plans.{version_for}
use Rattle.strip_model.specs.Others.{with_lines, AreLines, OtherLinesSpell}

-- Rows one behind the other.

front_rows : (xs ys : List (List (List ℕ))) → All IsRow (xs ++ ys) → All IsRow xs
front_rows [] ys all = All-nil IsRow
front_rows (x ∷ xs) ys all = All-cons IsRow x xs (All-head IsRow x (xs ++ ys) all) (front_rows xs ys (All-tail IsRow x (xs ++ ys) all))

back_rows : (xs ys : List (List (List ℕ))) → All IsRow (xs ++ ys) → All IsRow ys
back_rows [] ys all = all
back_rows (x ∷ xs) ys all = back_rows xs ys (All-tail IsRow x (xs ++ ys) all)

both_rows : (xs ys : List (List (List ℕ))) → All IsRow xs → All IsRow ys → All IsRow (xs ++ ys)
both_rows [] ys front back = back
both_rows (x ∷ xs) ys front back = All-cons IsRow x (xs ++ ys) (All-head IsRow x xs front) (both_rows xs ys (All-tail IsRow x xs front) back)

kept_rows : (rows : List (ℕ × List (List ℕ))) → All (λ (row : ℕ × List (List ℕ)). IsRow row.1) rows → All IsRow (map (λ (row : ℕ × List (List ℕ)). row.1) rows)
kept_rows [] all = All-nil IsRow
kept_rows (row ∷ rows) all =
    All-cons IsRow row.1 (map (λ (r : ℕ × List (List ℕ)). r.1) rows) (All-head (λ (r : ℕ × List (List ℕ)). IsRow r.1) row rows all)
    (kept_rows rows (All-tail (λ (r : ℕ × List (List ℕ)). IsRow r.1) row rows all))

unnumbered : (n : ℕ) (rows : List (List (List ℕ))) → map (λ (row : ℕ × List (List ℕ)). row.1) (enumerate_from n rows) ≡ rows
unnumbered n [] = refl
unnumbered n (row ∷ rows) = ap (λ (l : List (List (List ℕ))). row ∷ l) (unnumbered (n + 1) rows)

-- The rows that change.

pin_row : (old new : PinLine) → new.pin ≡ old.pin → new.cell ≡ old.cell → IsWord new.port → IsRow (pin_words old) → IsRow (pin_words new)
pin_row old new pin cell word row =
    let a = All-head IsWord (codes "pin") (old.port ∷ old.pin ∷ cell_word old.cell ∷ []) row.each in
    let b = All-tail IsWord (codes "pin") (old.port ∷ old.pin ∷ cell_word old.cell ∷ []) row.each in
    let c = All-tail IsWord old.port (old.pin ∷ cell_word old.cell ∷ []) b in
    let d : All IsWord (new.pin ∷ cell_word new.cell ∷ []) = rw (pin, cell) c in
    record { kept = refl; each = All-cons IsWord (codes "pin") (new.port ∷ new.pin ∷ cell_word new.cell ∷ []) a (All-cons IsWord new.port (new.pin ∷ cell_word new.cell ∷ []) word d) }

pin_rows : (olds lines : List PinLine) → AreLines olds lines → All IsRow (map pin_words olds) → All IsRow (map pin_words lines)
pin_rows [] [] are all = All-nil IsRow
pin_rows [] (new ∷ lines) are all = absurd are
pin_rows (old ∷ olds) [] are all = absurd are
pin_rows (old ∷ olds) (new ∷ lines) are all =
    All-cons IsRow (pin_words new) (map pin_words lines) (pin_row old new are.0 are.1 are.2 (All-head IsRow (pin_words old) (map pin_words olds) all))
    (pin_rows olds lines are.3 (All-tail IsRow (pin_words old) (map pin_words olds) all))

byte : (b : ℕ) → is_blank_byte b ≡ false → is_line_end b ≡ false → IsWordByte b
byte b h k = record { no_blank = h; no_end = k }

four : (a b c d : ℕ) → IsWordByte a → IsWordByte b → IsWordByte c → IsWordByte d → IsWord (a ∷ b ∷ c ∷ d ∷ [])
four a b c d p q r s = record {
  some = λ e. cc;
  each = All-cons IsWordByte a (b ∷ c ∷ d ∷ []) p (All-cons IsWordByte b (c ∷ d ∷ []) q (All-cons IsWordByte c (d ∷ []) r (All-cons IsWordByte d [] s (All-nil IsWordByte))));
}

kind_word : (kind : BoundaryKind) → IsControl kind → IsWord (cell_word kind)
kind_word Bc1 is = four 66 67 95 49 (byte 66 refl refl) (byte 67 refl refl) (byte 95 refl refl) (byte 49 refl refl)
kind_word Bc2 is = four 66 67 95 50 (byte 66 refl refl) (byte 67 refl refl) (byte 95 refl refl) (byte 50 refl refl)
kind_word Bc4 is = absurd is
kind_word Bc7 is = absurd is

control_row : (old kind : BoundaryKind) → IsControl kind → IsRow (keyed (codes "control") (cell_word old)) → IsRow (keyed (codes "control") (cell_word kind))
control_row old kind is row = record {
  kept = refl;
  each = All-cons IsWord (codes "control") (cell_word kind ∷ []) (All-head IsWord (codes "control") (cell_word old ∷ []) row.each)
      (All-cons IsWord (cell_word kind) [] (kind_word kind is) (All-nil IsWord));
}

pin_forms : (olds lines : List PinLine) → AreLines olds lines → All IsPinLine olds → All IsPinLine lines
pin_forms [] [] are all = All-nil IsPinLine
pin_forms [] (new ∷ lines) are all = absurd are
pin_forms (old ∷ olds) [] are all = absurd are
pin_forms (old ∷ olds) (new ∷ lines) are all =
    let form : is_pin new.pin ≡ true = ap is_pin are.0 ∙ All-head IsPinLine old olds all in
    All-cons IsPinLine new lines form (pin_forms olds lines are.3 (All-tail IsPinLine old olds all))

-- The rules of version 1, where no usercode stands.

in_front : {X : Type 0} (test : X → Bool) (xs : List X) (last : X) → test last ≡ false → find test (xs ++ last ∷ []) ≡ find test xs
in_front {X} test [] last h = ap (λ (b : Bool). if b then Some last else None) h
in_front {X} test (x ∷ xs) last h = ap (λ (found : Option X). if test x then Some x else found) (in_front test xs last h)

-- the instruction has one name in both profiles, but for USERCODE
unnamed : (name : List ℕ) → bytes_eq name (codes "USERCODE") ≡ false → instruction_of all_instructions name ≡ instruction_of first_instructions name
unnamed name h = in_front (λ (i : Instr). bytes_eq name (instruction_word i)) first_instructions instr.Usercode h

not_user : (name : List ℕ) → names_instruction instr.Usercode name ≡ false → bytes_eq name (codes "USERCODE") ≡ false
not_user name h = never_true (bytes_eq name (codes "USERCODE")) (λ yes.
    let same : name ≡ codes "USERCODE" = grind (arith, bytes_eq-Decides name (codes "USERCODE")) in
    let bad : true ≡ false = ap (names_instruction instr.Usercode) (sym same) ∙ h in cc)

-- an unknown name is USERCODE's as little
not_known : (name : List ℕ) → is_some (instruction_of all_instructions name) ≡ false → bytes_eq name (codes "USERCODE") ≡ false
not_known name h = never_true (bytes_eq name (codes "USERCODE")) (λ yes.
    let same : name ≡ codes "USERCODE" = grind (arith, bytes_eq-Decides name (codes "USERCODE")) in
    let bad : true ≡ false = ap (λ (n : List ℕ). is_some (instruction_of all_instructions n)) (sym same) ∙ h in cc)

abbrev AreSame : List OpcodeEntry → Type 0
AreSame ops = AllByRecursion (λ (o : OpcodeEntry). instruction_of all_instructions o.name ≡ instruction_of first_instructions o.name) ops

abbrev kept_if : Bool → OpcodeEntry → List OpcodeEntry → List OpcodeEntry
kept_if b o ops = if b then o ∷ ops else ops

are_same : (ops : List OpcodeEntry) → has_instruction (known all_instructions ops) instr.Usercode ≡ false → AreSame ops
are_same [] h = tt
are_same (o ∷ ops) h = by (is_known all_instructions o) refl (are_same ops)
  where
    by : (b : Bool) → is_known all_instructions o ≡ b → (has_instruction (known all_instructions ops) instr.Usercode ≡ false → AreSame ops) → AreSame (o ∷ ops)
    by true e more =
        let all : has_instruction (o ∷ known all_instructions ops) instr.Usercode ≡ false =
        ap (λ (b : Bool). has_instruction (kept_if b o (known all_instructions ops)) instr.Usercode) (sym e) ∙ h in
        let here = or_first (names_instruction instr.Usercode o.name) (has_instruction (known all_instructions ops) instr.Usercode) all in
        (unnamed o.name (not_user o.name here), more (or_second (names_instruction instr.Usercode o.name) (has_instruction (known all_instructions ops) instr.Usercode) all))
    by false e more =
        let rest : has_instruction (known all_instructions ops) instr.Usercode ≡ false =
        ap (λ (b : Bool). has_instruction (kept_if b o (known all_instructions ops)) instr.Usercode) (sym e) ∙ h in
        (unnamed o.name (not_known o.name e), more rest)

known_same : (ops : List OpcodeEntry) → AreSame ops → known all_instructions ops ≡ known first_instructions ops
known_same [] same = refl
known_same (o ∷ ops) same =
    ap (λ (i : Option Instr). kept_if (is_some i) o (known all_instructions ops)) same.0
    ∙ ap (λ (l : List OpcodeEntry). kept_if (is_known first_instructions o) o l) (known_same ops same.1)

unknown_same : (ops : List OpcodeEntry) → AreSame ops → first_in (unknown_fault all_instructions) ops ≡ first_in (unknown_fault first_instructions) ops
unknown_same [] same = refl
unknown_same (o ∷ ops) same =
    ap (λ (i : Option Instr). or_else (if is_some i then None else Some (fault.PlanInstruction o.name)) (first_in (unknown_fault all_instructions) ops)) same.0
    ∙ ap (or_else (unknown_fault first_instructions o)) (unknown_same ops same.1)

typed_same : (ops : List OpcodeEntry) → AreSame ops → filter_map (typed all_instructions) ops ≡ filter_map (typed first_instructions) ops
typed_same [] same = refl
typed_same (o ∷ ops) same =
    ap (λ (found : Option Instr). cons_option (option_map (λ (i : Instr). (let made : Opcode = record { instr = i; bits = o.bits } in made)) found) (filter_map (typed all_instructions) ops)) same.0
    ∙ ap (cons_option (typed first_instructions o)) (typed_same ops same.1)

-- the rules by what is known and by what isn't
abbrev fault_of : Written → List OpcodeEntry → Option PlanFault → Option PlanFault → Option PlanFault
fault_of w found user unknown =
    or_else (twice_fault w.codes.opcodes) (or_else (opcode_fault w.registers.length w.registers.capture found) (or_else (idcode_fault found w.codes.idcode) (or_else user unknown)))

unbroken : (b : Bool) (f : PlanFault) → (if b then Some f else None) ≡ None → b ≡ false
unbroken false f h = refl
unbroken true f h = absurd (let bad : Some f ≡ None = h in cc)

-- own: version 1 keeps the rules of a plan without a usercode, and has its opcodes
record IsFirst (profile : List Instr) (w : Written) : Type 0 where
  pub rules : fault_by first_instructions None w ≡ None
  pub opcodes : filter_map (typed profile) w.codes.opcodes ≡ filter_map (typed first_instructions) w.codes.opcodes

first_by : (second : Bool) (w : Written)
    → fault_by (if second then all_instructions else first_instructions)
    (if second && usercode_fails (known (if second then all_instructions else first_instructions) w.codes.opcodes) None then Some fault.PlanUsercode else None) w ≡ None
    → IsFirst (if second then all_instructions else first_instructions) w
first_by false w h = record { rules = h; opcodes = refl }
first_by true w h =
    let ops : List OpcodeEntry = w.codes.opcodes in
    let found : List OpcodeEntry = known all_instructions ops in
    let user : Option PlanFault = if has_instruction found instr.Usercode then Some fault.PlanUsercode else None in
    let unknown : Option PlanFault = first_in (unknown_fault all_instructions) ops in
    let a = or_else-parts (twice_fault ops) (or_else (opcode_fault w.registers.length w.registers.capture found) (or_else (idcode_fault found w.codes.idcode) (or_else user unknown))) h in
    let b = or_else-parts (opcode_fault w.registers.length w.registers.capture found) (or_else (idcode_fault found w.codes.idcode) (or_else user unknown)) a.1 in
    let c = or_else-parts (idcode_fault found w.codes.idcode) (or_else user unknown) b.1 in
    let d = or_else-parts user unknown c.1 in
    let same = are_same ops (unbroken (has_instruction found instr.Usercode) fault.PlanUsercode d.0) in
    record {
      rules =
          ap (λ (l : List OpcodeEntry). fault_of w l None (first_in (unknown_fault first_instructions) ops)) (sym (known_same ops same))
          ∙ ap (fault_of w found None) (sym (unknown_same ops same))
          ∙ ap (λ (u : Option PlanFault). fault_of w found u unknown) (sym d.0)
          ∙ h;
      opcodes = typed_same ops same;
    }

-- The version.

version_row : (old new : List ℕ) → IsWord new → IsRow (keyed (codes "plan") old) → IsRow (keyed (codes "plan") new)
version_row old new word row = record {
  kept = refl;
  each = All-cons IsWord (codes "plan") (new ∷ []) (All-head IsWord (codes "plan") (old ∷ []) row.each) (All-cons IsWord new [] word (All-nil IsWord));
}

own_version : (old : List ℕ) → IsRow (keyed (codes "plan") old) → IsWord old
own_version old row = All-head IsWord old [] (All-tail IsWord (codes "plan") (old ∷ []) row.each)

first_version : IsWord (codes "1")
first_version = record { some = λ e. cc; each = All-cons IsWordByte 49 [] (byte 49 refl refl) (All-nil IsWordByte) }

-- The whole.

abbrev other : PlanSource → List ℕ → BoundaryKind → List PinLine → PlanSource
other s version kind lines = record s { version = version; control = kind; pins = lines }

-- the lines between the version and the opcodes
abbrev head_of : PlanSource → List (List (List ℕ))
head_of s =
    keyed (codes "entity") s.entity ∷ keyed (codes "package") s.«package» ∷ keyed (codes "prefix") s.prefix
    ∷ tap_words (codes "tck") s.tck ∷ tap_words (codes "tms") s.tms ∷ tap_words (codes "tdi") s.tdi
    ∷ tap_words (codes "tdo") s.tdo ∷ tap_words (codes "trst") s.trst
    ∷ keyed (codes "clock") s.clock ∷ keyed (codes "length") s.length ∷ keyed (codes "capture") s.capture ∷ []

first_row : (s : PlanSource) → All IsRow (plan_rows s) → IsRow (keyed (codes "plan") s.version)
first_row s all =
    All-head IsRow (keyed (codes "plan") s.version)
    (head_of s ++ (map opcode_words s.opcodes ++ (idcode_rows s.idcode ++ (user_rows s.usercode ++ (keyed (codes "control") (cell_word s.control) ∷ (map pin_words s.pins ++ map (tap_words (codes "linkage")) s.linkage)))))) all

other_rows : (s : PlanSource) (version : List ℕ) (kind : BoundaryKind) (lines : List PinLine) → IsWord version → IsControl kind → AreLines s.pins lines → All IsRow (plan_rows s)
    → All IsRow (plan_rows (other s version kind lines))
other_rows s version kind lines word is are all =
    let ops = map opcode_words s.opcodes in
    let ids = idcode_rows s.idcode in
    let users = user_rows s.usercode in
    let pins = map pin_words s.pins in
    let links = map (tap_words (codes "linkage")) s.linkage in
    let old = keyed (codes "control") (cell_word s.control) in
    let new = keyed (codes "control") (cell_word kind) in
    let behind = All-tail IsRow (keyed (codes "plan") s.version) (head_of s ++ (ops ++ (ids ++ (users ++ (old ∷ (pins ++ links)))))) all in
    let head = front_rows (head_of s) (ops ++ (ids ++ (users ++ (old ∷ (pins ++ links))))) behind in
    let rest = back_rows (head_of s) (ops ++ (ids ++ (users ++ (old ∷ (pins ++ links))))) behind in
    let a = front_rows ops (ids ++ (users ++ (old ∷ (pins ++ links)))) rest in
    let b = back_rows ops (ids ++ (users ++ (old ∷ (pins ++ links)))) rest in
    let c = front_rows ids (users ++ (old ∷ (pins ++ links))) b in
    let d = back_rows ids (users ++ (old ∷ (pins ++ links))) b in
    let u = front_rows users (old ∷ (pins ++ links)) d in
    let v = back_rows users (old ∷ (pins ++ links)) d in
    let e = All-head IsRow old (pins ++ links) v in
    let f = All-tail IsRow old (pins ++ links) v in
    let g = pin_rows s.pins lines are (front_rows pins links f) in
    let h = back_rows pins links f in
    All-cons IsRow (keyed (codes "plan") version) (head_of s ++ (ops ++ (ids ++ (users ++ (new ∷ (map pin_words lines ++ links)))))) (version_row s.version version word (first_row s all))
    (both_rows (head_of s) (ops ++ (ids ++ (users ++ (new ∷ (map pin_words lines ++ links))))) head
    (both_rows ops (ids ++ (users ++ (new ∷ (map pin_words lines ++ links)))) a
    (both_rows ids (users ++ (new ∷ (map pin_words lines ++ links))) c
    (both_rows users (new ∷ (map pin_words lines ++ links)) u
    (All-cons IsRow new (map pin_words lines ++ links) (control_row s.control kind is e) (both_rows (map pin_words lines) links g h))))))

-- the other source spells its plan
other_is : RowsReadBack → (s : PlanSource) (version : List ℕ) (kind : BoundaryKind) (lines : List PinLine) → All IsRow (plan_rows s) → IsSource s → IsWord version
    → is_version version ≡ true → IsUserIf (value_after 10 0 version) s.usercode → rule_fault (written_of (other s version kind lines)) ≡ None → IsControl kind → AreLines s.pins lines
    → IsPlan (plan_of (written_of (other s version kind lines)))
other_is back_law s version kind lines rows forms word valid user rules is are =
    let new : PlanSource = other s version kind lines in
    let back = back_law (plan_rows new) (other_rows s version kind lines word is are rows) in (
      rows_text (plan_rows new),
      record {
        source = new;
        lines_are = ap (λ (l : List (ℕ × List (List ℕ))). map (λ (row : ℕ × List (List ℕ)). row.1) l) back.kept ∙ unnumbered 1 (plan_rows new);
        forms = record {
          version = valid;
          entity = forms.entity;
          «package» = forms.«package»;
          prefix = forms.prefix;
          tck = forms.tck;
          tms = forms.tms;
          tdi = forms.tdi;
          tdo = forms.tdo;
          trst = forms.trst;
          clock = forms.clock;
          length = forms.length;
          capture = forms.capture;
          some = forms.some;
          opcodes = forms.opcodes;
          idcode = forms.idcode;
          usercode = user;
          control = is;
          pins = pin_forms s.pins lines are forms.pins;
          linkage = forms.linkage;
        };
        rules = rules;
        plan_is = refl;
      },
    )

-- the plan of a source with this version and these opcodes
abbrev plan_by : PlanSource → BoundaryKind → List PinLine → ℕ → List Opcode → Plan
plan_by s kind lines version opcodes = record (plan_of (written_of s)) { version = version; opcodes = opcodes; control = kind; pins = lines }

abbrev version_of : Option (List ℕ) → ℕ
version_of user = version_for (option_map value_of (option_map bits_of user))

respelled : RowsReadBack → (s : PlanSource) (kind : BoundaryKind) (lines : List PinLine) → All IsRow (plan_rows s) → IsSource s → rule_fault (written_of s) ≡ None → IsControl kind
    → AreLines s.pins lines → IsPlan (with_lines (plan_of (written_of s)) kind lines)
respelled back_law s kind lines rows forms rules is are = by s.usercode refl
  where
    version : ℕ
    version = value_after 10 0 s.version

    own : List Opcode
    own = filter_map (typed (instructions_of version)) (written_of s).codes.opcodes

    by : (user : Option (List ℕ)) → s.usercode ≡ user → IsPlan (with_lines (plan_of (written_of s)) kind lines)
    by (Some bits) e =
        let form : IsUserIf version (Some bits) = subst (IsUserIf version) e forms.usercode in
        let second : version ≡ version_of s.usercode = eqb-true version 2 form.1 ∙ ap version_of (sym e) in
        subst IsPlan (ap (λ (v : ℕ). plan_by s kind lines v own) second)
        (other_is back_law s s.version kind lines rows forms (own_version s.version (first_row s rows)) forms.version forms.usercode rules is are)
    by None e =
        let none : IsUserIf 1 s.usercode = subst (IsUserIf 1) (sym e) tt in
        let broken : Option Bits → Option PlanFault = λ user. fault_by (instructions_of version) (usercode_fault version (known (instructions_of version) (written_of s).codes.opcodes) user) (written_of s) in
        let first = first_by (version == 2) (written_of s) (ap broken (ap (option_map bits_of) (sym e)) ∙ rules) in
        let one : 1 ≡ version_of s.usercode = ap version_of (sym e) in
        subst IsPlan (ap (λ (ops : List Opcode). plan_by s kind lines 1 ops) (sym first.opcodes) ∙ ap (λ (v : ℕ). plan_by s kind lines v own) one)
        (other_is back_law s (codes "1") kind lines rows forms first_version refl none first.rules is are)

pub other_lines_spell : KeptAreRows → RowsReadBack → OtherLinesSpell
other_lines_spell kept_law back_law p kind lines plan is are =
    let bytes : List ℕ = plan.0 in
    let spells : SpellsPlan bytes p = plan.1 in
    let s : PlanSource = spells.source in
    let own : AreLines s.pins lines = subst (λ (olds : List PinLine). AreLines olds lines) (ap (λ (q : Plan). q.pins) spells.plan_is) are in
    let rows : All IsRow (plan_rows s) = subst (λ (l : List (List (List ℕ))). All IsRow l) spells.lines_are (kept_rows (kept_lines bytes) (kept_law bytes)) in
    subst (λ (q : Plan). IsPlan (with_lines q kind lines)) (sym spells.plan_is) (respelled back_law s kind lines rows spells.forms spells.rules is own)
