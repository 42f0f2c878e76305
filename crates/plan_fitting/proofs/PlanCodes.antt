-- The instructions of a plan that some text spells stand once each; it has an identification code just with IDCODE, and a usercode
-- just with USERCODE, which stands with IDCODE.
use Rattle.std.proofs.Common.{◌≡◌, ℕ, List, [], ◌∷◌, ◌++◌, Bool, true, false, cond, not, find, map, filter_map, is_some, Option, Some, None, option_map, bytes_eq, refl, sym, ap, ◌∙◌, subst, arith}
use Rattle.std.specs.Prelude.{◌==◌, ◌&&◌, ◌||◌, if◌then◌else◌, IfSome}
use Rattle.std.specs.List.{list_any, cons_option, AllByRecursion}
use Rattle.list_laws.proofs.Bytes.{bytes_eq-sym}
use Rattle.list_laws.proofs.Options.{or_else-parts, not_there}
use Rattle.list_laws.proofs.Tests.{or_first, or_second, neither, not_false}
use Rattle.cell_library.specs.declared.codes.Instr.{Instr}
use Rattle.cell_library.specs.declared.codes.Opcode.{Opcode}
use Rattle.bsdl_lexicon.specs.Names.{is_same_name}
use Rattle.bsdl_device.specs.declared.entries.OpcodeEntry.{OpcodeEntry}
use Rattle.cell_library.specs.declared.codes.Bits.{Bits}
use Rattle.bsdl_device.specs.Instructions.{instruction_word, all_instructions, is_instruction}
use Rattle.bsdl_device.specs.Checks.{any_pair, is_repeated, opcode_named_twice, has_instruction, has_other_length, code_is_barred}
use Rattle.bsdl_device.specs.Canonical.{has_opcode}
use Rattle.bsdl_device.specs.IsDevice.{IsDeviceCode, opcode_entries}
use Rattle.texts.specs.First.{or_else, first_in}
use Rattle.texts.specs.Repeated.{has_name, repeated, repeated_after}
use Rattle.plan_texts.specs.declared.plan.Plan.{Plan}
use Rattle.plan_texts.specs.declared.written.CodeGroups.{CodeGroups}
use Rattle.plan_texts.specs.declared.written.Written.{Written}
use Rattle.plan_texts.specs.Rules.{first_instructions, instructions_of, instruction_of, known, names_of, twice_fault, opcode_fault, idcode_fails, idcode_fault, usercode_fails, usercode_fault, unknown_fault, groups_misfit, code_of, rule_fault}
use Rattle.plan_texts.specs.Forms.{bits_of}
use Rattle.plan_texts.specs.Meaning.{typed, value_of, plan_of}
use Rattle.plan_texts.specs.Grammar.{PlanSource, IsSource, IsUserIf, written_of}
use Rattle.plan_texts.specs.Canonical.{IsPlan}
use Rattle.plan_fitting.proofs.Opcodes.{name_of, opcode_with}
use Rattle.plan_fitting.proofs.Pairs.{any_front, any_back}
use Rattle.cell_library.specs.declared.codes.Instr.TheVariants as instr
use Rattle.plan_texts.specs.declared.fault.PlanFault.TheVariants as fault

-- Names that stand once.

less : (before : List (List ℕ)) (last : List ℕ) (names : List (List ℕ)) → AllByRecursion (λ name. has_name (before ++ last ∷ []) name ≡ false) names
    → AllByRecursion (λ name. has_name before name ≡ false) names × (list_any (bytes_eq last) names ≡ false)
less before last [] all = (tt, refl)
less before last (name ∷ names) all =
    let more = less before last names all.1 in
    let turned : bytes_eq last name ≡ false = bytes_eq-sym last name ∙ or_first (bytes_eq name last) false (any_back (bytes_eq name) before (last ∷ []) all.0) in
    ((any_front (bytes_eq name) before (last ∷ []) all.0, more.0), neither (bytes_eq last name) (list_any (bytes_eq last) names) turned more.1)

unrepeated : (before names : List (List ℕ)) → repeated_after before names ≡ None → AllByRecursion (λ name. has_name before name ≡ false) names × (any_pair bytes_eq names ≡ false)
unrepeated before [] h = (tt, refl)
unrepeated before (name ∷ names) h =
    let t = not_there (has_name before name) name (repeated_after (before ++ name ∷ []) names) h in
    let more = unrepeated (before ++ name ∷ []) names t.1 in
    let rest = less before name names more.0 in
    ((t.0, rest.0), neither (list_any (bytes_eq name) names) (any_pair bytes_eq names) rest.1 more.1)

-- Instructions by their names.

same_words : (i j : Instr) → is_same_name (instruction_word i) (instruction_word j) ≡ bytes_eq (instruction_word i) (instruction_word j)
same_words instr.Bypass instr.Bypass = refl
same_words instr.Extest instr.Extest = refl
same_words instr.Sample instr.Sample = refl
same_words instr.Preload instr.Preload = refl
same_words instr.Idcode instr.Idcode = refl
same_words instr.Highz instr.Highz = refl
same_words instr.Clamp instr.Clamp = refl
same_words instr.Usercode instr.Usercode = refl
same_words _ _ = refl

is_named : (i j : Instr) → is_same_name (instruction_word j) (instruction_word i) ≡ is_instruction i j
is_named instr.Bypass instr.Bypass = refl
is_named instr.Extest instr.Extest = refl
is_named instr.Sample instr.Sample = refl
is_named instr.Preload instr.Preload = refl
is_named instr.Idcode instr.Idcode = refl
is_named instr.Highz instr.Highz = refl
is_named instr.Clamp instr.Clamp = refl
is_named instr.Usercode instr.Usercode = refl
is_named _ _ = refl

abbrev words : List Opcode → List (List ℕ)
words opcodes = map (λ (o : OpcodeEntry). o.name) (opcode_entries opcodes)

abbrev opcodes_of : List Instr → List OpcodeEntry → List Opcode
opcodes_of profile entries = filter_map (typed profile) entries

-- where no entry has this instruction's name, no opcode has
others : (profile : List Instr) (i : Instr) (entries : List OpcodeEntry) → list_any (bytes_eq (instruction_word i)) (names_of entries) ≡ false
    → list_any (is_same_name (instruction_word i)) (words (opcodes_of profile entries)) ≡ false
others profile i [] h = refl
others profile i (o ∷ entries) h =
    by (instruction_of profile o.name) refl (or_first (bytes_eq (instruction_word i) o.name) (list_any (bytes_eq (instruction_word i)) (names_of entries)) h)
    (others profile i entries (or_second (bytes_eq (instruction_word i) o.name) (list_any (bytes_eq (instruction_word i)) (names_of entries)) h))
  where
    by : (f : Option Instr) → instruction_of profile o.name ≡ f → bytes_eq (instruction_word i) o.name ≡ false → list_any (is_same_name (instruction_word i)) (words (opcodes_of profile entries)) ≡ false
        → list_any (is_same_name (instruction_word i)) (words (cons_option (option_map (opcode_with o.bits) f) (opcodes_of profile entries))) ≡ false
    by None e k more = more
    by (Some j) e k more =
        neither (is_same_name (instruction_word i) (instruction_word j)) (list_any (is_same_name (instruction_word i)) (words (opcodes_of profile entries)))
        (same_words i j ∙ ap (bytes_eq (instruction_word i)) (sym (name_of profile o.name j e)) ∙ k) more

named_once : (profile : List Instr) (entries : List OpcodeEntry) → any_pair bytes_eq (names_of entries) ≡ false → is_repeated (words (opcodes_of profile entries)) ≡ false
named_once profile [] h = refl
named_once profile (o ∷ entries) h =
    by (instruction_of profile o.name) refl (or_first (list_any (bytes_eq o.name) (names_of entries)) (any_pair bytes_eq (names_of entries)) h)
    (named_once profile entries (or_second (list_any (bytes_eq o.name) (names_of entries)) (any_pair bytes_eq (names_of entries)) h))
  where
    by : (f : Option Instr) → instruction_of profile o.name ≡ f → list_any (bytes_eq o.name) (names_of entries) ≡ false → is_repeated (words (opcodes_of profile entries)) ≡ false
        → is_repeated (words (cons_option (option_map (opcode_with o.bits) f) (opcodes_of profile entries))) ≡ false
    by None e k more = more
    by (Some j) e k more =
        neither (list_any (is_same_name (instruction_word j)) (words (opcodes_of profile entries))) (is_repeated (words (opcodes_of profile entries)))
        (others profile j entries (ap (λ (n : List ℕ). list_any (bytes_eq n) (names_of entries)) (sym (name_of profile o.name j e)) ∙ k)) more

-- An instruction by the plan's opcodes and by its entries.

has_same : (profile : List Instr) (i : Instr) (entries : List OpcodeEntry) → has_opcode (opcodes_of profile entries) i ≡ has_instruction (known profile entries) i
unfolding has_opcode
has_same profile i [] = refl
has_same profile i (o ∷ entries) = by (instruction_of profile o.name) refl (has_same profile i entries)
  where
    by : (f : Option Instr) → instruction_of profile o.name ≡ f
        → list_any (λ (x : Opcode). is_instruction i x.instr) (opcodes_of profile entries) ≡ has_instruction (known profile entries) i
        → list_any (λ (x : Opcode). is_instruction i x.instr) (cons_option (option_map (opcode_with o.bits) f) (opcodes_of profile entries))
        ≡ has_instruction (cond (is_some f) (o ∷ known profile entries) (known profile entries)) i
    by None e more = more
    by (Some j) e more =
        ap (λ (b : Bool). is_instruction i j || b) more
        ∙ ap (λ (b : Bool). b || has_instruction (known profile entries) i) (sym (is_named i j) ∙ ap (λ (n : List ℕ). is_same_name n (instruction_word i)) (sym (name_of profile o.name j e)))

-- what is found among instructions that all are so is so
found_in : (P : Instr → Type 0) (p : Instr → Bool) (is : List Instr) (j : Instr) → AllByRecursion P is → find p is ≡ Some j → P j
found_in P p [] j all h = absurd (cc)
found_in P p (i ∷ is) j all h = step (find p is) (p i) (λ k. found_in P p is j all.1 k) h
  where
    step : (rest : Option Instr) (t : Bool) → (rest ≡ Some j → P j) → cond t (Some i) rest ≡ Some j → P j
    step rest true more k = let same : i ≡ j = cc in subst P same all.0
    step rest false more k = more k

-- version 1 has no USERCODE
first_lacks : (entries : List OpcodeEntry) → has_opcode (opcodes_of first_instructions entries) instr.Usercode ≡ false
unfolding has_opcode
first_lacks [] = refl
first_lacks (o ∷ entries) = by (instruction_of first_instructions o.name) refl (first_lacks entries)
  where
    by : (f : Option Instr) → instruction_of first_instructions o.name ≡ f
        → list_any (λ (x : Opcode). is_instruction instr.Usercode x.instr) (opcodes_of first_instructions entries) ≡ false
        → list_any (λ (x : Opcode). is_instruction instr.Usercode x.instr) (cons_option (option_map (opcode_with o.bits) f) (opcodes_of first_instructions entries)) ≡ false
    by None e more = more
    by (Some j) e more =
        neither (is_instruction instr.Usercode j) (list_any (λ (x : Opcode). is_instruction instr.Usercode x.instr) (opcodes_of first_instructions entries))
        (found_in (λ (i : Instr). is_instruction instr.Usercode i ≡ false) (λ (i : Instr). bytes_eq o.name (instruction_word i)) first_instructions j (refl, (refl, (refl, (refl, (refl, (refl, (refl, tt))))))) e)
        more

-- IDCODE and USERCODE.

pub record HasCodes (p : Plan) : Type 0 where
  pub once : opcode_named_twice (opcode_entries p.opcodes) ≡ false
  pub code : IfSome p.idcode IsDeviceCode
  pub identified : has_opcode p.opcodes instr.Idcode ≡ is_some p.idcode
  pub user_identified : has_opcode p.opcodes instr.Usercode ≡ is_some p.usercode
  pub user_beside : (not (is_some p.usercode) || is_some p.idcode) ≡ true

right_code : (entries : List OpcodeEntry) (groups : Option CodeGroups) → idcode_fails entries groups ≡ false → IfSome (option_map code_of groups) IsDeviceCode
right_code entries None h = tt
right_code entries (Some g) h = record {
  short = omega arith;
  right = or_second (not (has_instruction entries instr.Idcode) || groups_misfit g) (code_is_barred (code_of g)) h;
}

has_code : (entries : List OpcodeEntry) (groups : Option CodeGroups) → idcode_fails entries groups ≡ false → has_instruction entries instr.Idcode ≡ is_some (option_map code_of groups)
has_code entries None h = h
has_code entries (Some g) h =
    not_false (has_instruction entries instr.Idcode)
    (or_first (not (has_instruction entries instr.Idcode)) (groups_misfit g) (or_first (not (has_instruction entries instr.Idcode) || groups_misfit g) (code_is_barred (code_of g)) h))

no_fault : {X : Type 0} (o : Option (List ℕ)) (f : List ℕ → X) → option_map f o ≡ None → o ≡ None
no_fault None f h = refl
no_fault (Some x) f h = absurd (cc)

-- a usercode stands in version 2 alone
abbrev UserIsOfSecond : Written → Type 0
UserIsOfSecond w = (w.names.version == 2) ≡ false → w.codes.usercode ≡ None

has_user : (entries : List OpcodeEntry) (user : Option Bits) → usercode_fails entries user ≡ false → has_instruction entries instr.Usercode ≡ is_some (option_map value_of user)
has_user entries None h = h
has_user entries (Some bits) h =
    let two = or_first (not (has_instruction entries instr.Usercode) || not (has_instruction entries instr.Idcode)) (has_other_length 32 bits) h in
    not_false (has_instruction entries instr.Usercode) (or_first (not (has_instruction entries instr.Usercode)) (not (has_instruction entries instr.Idcode)) two)

beside_code : (entries : List OpcodeEntry) (user : Option Bits) (code : Bool) → usercode_fails entries user ≡ false → has_instruction entries instr.Idcode ≡ code
    → (not (is_some (option_map value_of user)) || code) ≡ true
beside_code entries None code h same = refl
beside_code entries (Some bits) code h same =
    let two = or_first (not (has_instruction entries instr.Usercode) || not (has_instruction entries instr.Idcode)) (has_other_length 32 bits) h in
    sym same ∙ not_false (has_instruction entries instr.Idcode) (or_second (not (has_instruction entries instr.Usercode)) (not (has_instruction entries instr.Idcode)) two)

abbrev HasUser : List Instr → List OpcodeEntry → Option Bits → Bool → Type 0
HasUser profile os user code = (has_opcode (opcodes_of profile os) instr.Usercode ≡ is_some (option_map value_of user)) × ((not (is_some (option_map value_of user)) || code) ≡ true)

user_right : (version : ℕ) (os : List OpcodeEntry) (user : Option Bits) (code : Bool) → ((version == 2) ≡ false → user ≡ None)
    → ((version == 2) && usercode_fails (known (instructions_of version) os) user) ≡ false → has_instruction (known (instructions_of version) os) instr.Idcode ≡ code
    → HasUser (instructions_of version) os user code
user_right version os user code only rule same = by (version == 2) only rule same
  where
    by : (t : Bool) → (t ≡ false → user ≡ None) → (t && usercode_fails (known (if t then all_instructions else first_instructions) os) user) ≡ false
        → has_instruction (known (if t then all_instructions else first_instructions) os) instr.Idcode ≡ code → HasUser (if t then all_instructions else first_instructions) os user code
    by true of r e =
        (has_same all_instructions instr.Usercode os ∙ has_user (known all_instructions os) user r, beside_code (known all_instructions os) user code r e)
    by false of r e = subst (λ (u : Option Bits). HasUser first_instructions os u code) (sym (of refl)) (first_lacks os, refl)

written_has_codes : (w : Written) → UserIsOfSecond w → rule_fault w ≡ None → HasCodes (plan_of w)
written_has_codes w only rules =
    let profile : List Instr = instructions_of w.names.version in
    let os = w.codes.opcodes in
    let entries = known profile os in
    let last = first_in (unknown_fault profile) os in
    let user = or_else (usercode_fault w.names.version entries w.codes.usercode) last in
    let behind = or_else (idcode_fault entries w.codes.idcode) user in
    let late = or_else-parts (twice_fault os) (or_else (opcode_fault w.registers.length w.registers.capture entries) behind) rules in
    let rest = or_else-parts (opcode_fault w.registers.length w.registers.capture entries) behind late.1 in
    let ids = or_else-parts (idcode_fault entries w.codes.idcode) user rest.1 in
    let users = or_else-parts (usercode_fault w.names.version entries w.codes.usercode) last ids.1 in
    let right = (not_there (idcode_fails entries w.codes.idcode) fault.PlanIdcode None ids.0).0 in
    let second = (not_there ((w.names.version == 2) && usercode_fails entries w.codes.usercode) fault.PlanUsercode None users.0).0 in
    let code = has_code entries w.codes.idcode right in
    let has = user_right w.names.version os w.codes.usercode (is_some (option_map code_of w.codes.idcode)) only second code in
    record {
      once = named_once profile os (unrepeated [] (names_of os) (no_fault (repeated (names_of os)) fault.PlanTwice late.0)).1;
      code = right_code entries w.codes.idcode right;
      identified = has_same profile instr.Idcode os ∙ code;
      user_identified = has.0;
      user_beside = has.1;
    }

user_of_second : (s : PlanSource) → IsSource s → UserIsOfSecond (written_of s)
user_of_second s is = by s.usercode is.usercode
  where
    by : (o : Option (List ℕ)) → IsUserIf (written_of s).names.version o → ((written_of s).names.version == 2) ≡ false → option_map bits_of o ≡ None
    by None user one = refl
    by (Some bits) user one = absurd (let both : true ≡ false = sym user.1 ∙ one in cc)

pub plans_have_codes : (p : Plan) → IsPlan p → HasCodes p
plans_have_codes p (bytes, spells) =
    subst HasCodes (sym spells.plan_is) (written_has_codes (written_of spells.source) (user_of_second spells.source spells.forms) spells.rules)
