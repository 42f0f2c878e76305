-- A device with registers of its own that some text spells keeps the conditions on such devices.
use Rattle.std.proofs.Common.{◌≡◌, ℕ, zero, suc, ◌+◌, ◌<◌, ◌≤◌, ◌==◌, Bool, true, false, cond, List, [], ◌∷◌, ◌++◌, length, map, find, count_by, Option, Some, None, refl, sym, ap, subst, ◌∙◌, arith, eqb-true, ltb-false}
use Rattle.std.specs.Prelude.{◌||◌, ◌&&◌, not, nat_lt, filter}
use Rattle.std.specs.Str.{bytes_eq}
use Rattle.std.specs.List.{list_any, filter_map, cons_option, AllByRecursion}
use Rattle.std.specs.Option.{option_map}
use Rattle.std.proofs.lemmas.List.Sums.{sum_by-cons}
use Rattle.list_laws.proofs.Tests.{and_left, and_right, or_first, or_second, neither, not_false, not_true}
use Rattle.list_laws.proofs.Lists.{all_back, any_same}
use Rattle.list_laws.proofs.Options.{found}
use Rattle.cell_library.specs.declared.codes.Bits.{Bits}
use Rattle.cell_library.specs.declared.codes.Instr.{Instr}
use Rattle.cell_library.specs.declared.codes.Opcode.{Opcode}
use Rattle.bsdl_lexicon.specs.Names.{lower, is_same_name}
use Rattle.bsdl_lexicon.proofs.SameNames.{same_name-true, same_turned}
use Rattle.bsdl_device.specs.declared.values.Device.{Device}
use Rattle.bsdl_device.specs.declared.written.File.{File}
use Rattle.bsdl_device.specs.declared.entries.AccessEntry.{AccessEntry}
use Rattle.bsdl_device.specs.declared.entries.OpcodeEntry.{OpcodeEntry}
use Rattle.bsdl_device.specs.declared.entries.Contents.{Contents}
use Rattle.bsdl_device.specs.Patterns.{each_after, separated_by}
use Rattle.bsdl_device.specs.Shape.{joined}
use Rattle.bsdl_device.specs.Runs.{content_words, is_identifier, comma}
use Rattle.bsdl_device.specs.Grammar.{accesses_words, opcode_words}
use Rattle.bsdl_device.specs.Spelled.{HoldOpcodes}
use Rattle.bsdl_device.specs.Instructions.{instruction_named, names_instruction, instruction_word, all_instructions, same_bits}
use Rattle.bsdl_device.specs.Checks.{any_pair, has_other_length}
use Rattle.bsdl_device.specs.Denoted.{device_of, opcode_of}
use Rattle.bsdl_device.specs.IsDevice.{IsDeviceName}
use Rattle.bsdl_device.proofs.Identifiers.{identifier_from}
use Rattle.bsdl_lexicon.specs.Reserved.{is_reserved}
use Rattle.bsdl_device.proofs.Good.{GoodContent, GoodBits, is_name, good_words, all_contents, all_separated}
use Rattle.bsdl_device.proofs.RoundTripNames.{same_left, found_is_none_of, all_to}
use Rattle.bsdl_device.proofs.RoundTripFacts.{GoodContents, held_good, some_port, found_good}
use Rattle.bsdl_device.proofs.Means.{keeps}
use Rattle.bsdl_device.proofs.DevicePorts.{bits_are}
use Rattle.bsdl_device.proofs.ReadBack.{Stands, stands_by, spelled_file_good}
use Rattle.bsdl_device.proofs.DeviceIs.{standing_device}
use Rattle.bsdl_device.specs.declared.registers.values.RegisterEntry.{RegisterEntry}
use Rattle.bsdl_device.specs.declared.registers.values.TestRegister.{TestRegister}
use Rattle.bsdl_device.specs.declared.registers.values.Extended.{Extended}
use Rattle.bsdl_device.specs.Entries.{entry_words, HoldExtended}
use Rattle.bsdl_device.specs.Rules.{base_contents, own_opcodes, base_opcodes, names_register, names_some_instruction, entry_fails, opcodes_fail, entries_fail, own_registers_fail}
use Rattle.bsdl_device.specs.IsExtended.{IsTestRegister, IsExtended}
use Rattle.bsdl_device.specs.RegistersSpelled.{register_of, extended_of, SpellsExtendedText}
use Rattle.bsdl_device.proofs.RegistersRoundTripRules.{pairs_map}

-- Lists.

filter_good : {A : Type 0} (Q : A → Type 0) (p : A → Bool) (xs : List A) → AllByRecursion Q xs → AllByRecursion Q (filter p xs)
filter_good Q p [] all = tt
filter_good {A} Q p (x ∷ xs) all = by (p x) (filter_good Q p xs all.1)
  where
    by : (b : Bool) → AllByRecursion Q (filter p xs) → AllByRecursion Q (cond b (x ∷ filter p xs) (filter p xs))
    by true rest = (all.0, rest)
    by false rest = rest

-- none is found where none is counted
found_none : {A : Type 0} (p : A → Bool) (xs : List A) → find p xs ≡ None → count_by p xs ≡ 0
found_none p [] h = refl
found_none {A} p (x ∷ xs) h = by (p x) refl (found_none p xs) h
  where
    by : (b : Bool) → p x ≡ b → (find p xs ≡ None → count_by p xs ≡ 0) → cond b (Some x) (find p xs) ≡ None → count_by p (x ∷ xs) ≡ 0
    by true e rest k = absurd (cc)
    by false e rest k = sum_by-cons (λ (y : A). cond (p y) 1 0) x xs ∙ ap (λ (t : Bool). cond t 1 0 + count_by p xs) e ∙ ap (λ (n : ℕ). 0 + n) (rest k)

above_zero : (m : ℕ) → (m == 0) ≡ false → 1 ≤ m
above_zero zero h = absurd (cc)
above_zero (suc m) h = omega arith

-- What strings hold.

record GoodEntry (e : RegisterEntry) : Type 0 where
  name : IsDeviceName e.name

entry_good : (e : RegisterEntry) → AllByRecursion GoodContent (entry_words e) → GoodEntry e
entry_good e all =
    let test : is_name e.name ≡ true = all.0 in
    record { name = record { identifier = identifier_from e.name (and_left (is_identifier e.name) (not (is_reserved e.name)) test); free = not_true (is_reserved e.name) (and_right (is_identifier e.name) (not (is_reserved e.name)) test) } }

entries_good : (strings : List (List ℕ)) (list : List AccessEntry) (entries : List RegisterEntry) → HoldExtended strings list entries → AllByRecursion GoodEntry entries
entries_good strings list [] h = tt
entries_good strings list (e ∷ es) h =
    let all = all_contents (accesses_words list ++ each_after comma entry_words (e ∷ es)) (content_words (joined strings)) h.hold (good_words (joined strings)) in
    let behind = all_back GoodContent (accesses_words list) (each_after comma entry_words (e ∷ es)) all in
    all_to (e ∷ es) entry_good (all_separated GoodContent comma entry_words (e ∷ es) behind.1)

record GoodOpcode (o : OpcodeEntry) : Type 0 where
  name : is_identifier o.name ≡ true
  bits : GoodBits o.bits

opcode_good : (o : OpcodeEntry) → AllByRecursion GoodContent (opcode_words o) → GoodOpcode o
opcode_good o all = record { name = all.0; bits = all.1.1.0 }

opcodes_good : (strings : List (List ℕ)) (opcodes : List OpcodeEntry) → HoldOpcodes strings opcodes → AllByRecursion GoodOpcode opcodes
opcodes_good strings opcodes h =
    all_to opcodes opcode_good (all_separated GoodContent comma opcode_words opcodes (all_contents (separated_by comma opcode_words opcodes) (content_words (joined strings)) h.hold (good_words (joined strings))))

base_good : (c : Contents) (es : List RegisterEntry) → GoodContents c → GoodContents (base_contents c es)
base_good c es g = record {
  pins = g.pins;
  opcodes = filter_good (λ (o : OpcodeEntry). GoodBits o.bits) _ c.opcodes g.opcodes;
  capture = g.capture;
  idcode = g.idcode;
  usercode = g.usercode;
  rows = g.rows;
}

-- The registers of entries.

abbrev has_instruction : RegisterEntry → OpcodeEntry → Bool
has_instruction e o = is_same_name e.instruction o.name

abbrev made_of : RegisterEntry → OpcodeEntry → TestRegister
made_of e o = record { name = e.name; instr = o.name; bits = o.bits; length = e.length }

-- a register of its entry and of the opcode of the entry's instruction
record IsOf (own : List OpcodeEntry) (e : RegisterEntry) (r : TestRegister) : Type 0 where
  opcode : OpcodeEntry
  there : find (has_instruction e) own ≡ Some opcode
  is : r ≡ made_of e opcode

abbrev AreOf : List OpcodeEntry → List RegisterEntry → List TestRegister → Type 0
AreOf own [] [] = Unit {0}
AreOf own [] (r ∷ rs) = ⊥
AreOf own (e ∷ es) [] = ⊥
AreOf own (e ∷ es) (r ∷ rs) = IsOf own e r × AreOf own es rs

-- an entry that breaks no rule
record KeptEntry (own : List OpcodeEntry) (e : RegisterEntry) : Type 0 where
  apart : names_register e.name ≡ false
  profile : names_some_instruction e.instruction ≡ false
  once : count_by (has_instruction e) own ≡ 1
  some : 1 ≤ e.length
  few : e.length ≤ 256

entry_kept : (own : List OpcodeEntry) (e : RegisterEntry) → entry_fails own e ≡ false → KeptEntry own e
entry_kept own e h =
    let names = names_register e.name in
    let profile = names_some_instruction e.instruction in
    let many = not (count_by (has_instruction e) own == 1) in
    let four : (names || profile || many || e.length == 0) ≡ false = or_first (names || profile || many || e.length == 0) (nat_lt 256 e.length) h in
    let three : (names || profile || many) ≡ false = or_first (names || profile || many) (e.length == 0) four in
    let two : (names || profile) ≡ false = or_first (names || profile) many three in
    record {
      apart = or_first names profile two;
      profile = or_second names profile two;
      once = eqb-true (count_by (has_instruction e) own) 1 (not_false (count_by (has_instruction e) own == 1) (or_second (names || profile) many three));
      some = above_zero e.length (or_second (names || profile || many) (e.length == 0) four);
      few = ltb-false 256 e.length (or_second (names || profile || many || e.length == 0) (nat_lt 256 e.length) h);
    }

are_of : (own : List OpcodeEntry) (es : List RegisterEntry) → list_any (entry_fails own) es ≡ false → AreOf own es (filter_map (register_of own) es)
are_of own [] h = tt
are_of own (e ∷ es) h =
    by (find (has_instruction e) own) refl (entry_kept own e (or_first (entry_fails own e) (list_any (entry_fails own) es) h)).once (are_of own es (or_second (entry_fails own e) (list_any (entry_fails own) es) h))
  where
    by : (o : Option OpcodeEntry) → find (has_instruction e) own ≡ o → count_by (has_instruction e) own ≡ 1 → AreOf own es (filter_map (register_of own) es) → AreOf own (e ∷ es) (cons_option (option_map (made_of e) o) (filter_map (register_of own) es))
    by None is once rest = let never : 0 ≡ 1 = sym (found_none (has_instruction e) own is) ∙ once in absurd (omega (arith, never))
    by (Some o) is once rest = (record { opcode = o; there = is; is = refl }, rest)

-- Each keeps the conditions.

one_kept : (d : Device) (own : List OpcodeEntry) (e : RegisterEntry) (o : OpcodeEntry) → GoodEntry e → GoodOpcode o → KeptEntry own e → has_instruction e o ≡ true → has_other_length d.length o.bits ≡ false
    → list_any (λ (p : Opcode). same_bits o.bits p.bits) d.opcodes ≡ false → IsTestRegister d (made_of e o)
one_kept d own e o entry opcode kept same long free = record {
  name = entry.name;
  apart = kept.apart;
  instr = identifier_from o.name opcode.name;
  own = sym (any_same (λ (i : Instr). names_instruction i e.instruction) (λ (i : Instr). names_instruction i o.name) (λ (i : Instr). same_left e.instruction o.name (instruction_word i) (same_name-true e.instruction o.name same)) all_instructions) ∙ kept.profile;
  bits = bits_are o.bits opcode.bits;
  fits = eqb-true o.bits.len d.length (not_false (o.bits.len == d.length) long);
  free = free;
  some = kept.some;
  few = kept.few;
}

opcodes_free : (test : Bits → Bool) (os : List OpcodeEntry) → list_any (λ (o : OpcodeEntry). test o.bits) os ≡ false → list_any (λ (o : Opcode). test o.bits) (filter_map opcode_of os) ≡ false
opcodes_free test [] h = refl
opcodes_free test (o ∷ os) h = by (instruction_named o.name) (opcodes_free test os (or_second (test o.bits) (list_any (λ (p : OpcodeEntry). test p.bits) os) h))
  where
    by : (named : Option Instr) → list_any (λ (p : Opcode). test p.bits) (filter_map opcode_of os) ≡ false
        → list_any (λ (p : Opcode). test p.bits) (cons_option (option_map (λ i. let opcode : Opcode = record { instr = i; bits = o.bits } in opcode) named) (filter_map opcode_of os)) ≡ false
    by None rest = rest
    by (Some i) rest = neither (test o.bits) (list_any (λ (p : Opcode). test p.bits) (filter_map opcode_of os)) (or_first (test o.bits) (list_any (λ (p : OpcodeEntry). test p.bits) os) h) rest

each_kept : (d : Device) (base own : List OpcodeEntry) → d.opcodes ≡ filter_map opcode_of base → AllByRecursion GoodOpcode own → list_any (λ (o : OpcodeEntry). has_other_length d.length o.bits) own ≡ false
    → list_any (λ (o : OpcodeEntry). list_any (λ (p : OpcodeEntry). same_bits o.bits p.bits) base) own ≡ false
    → (es : List RegisterEntry) (rs : List TestRegister) → AllByRecursion GoodEntry es → list_any (entry_fails own) es ≡ false → AreOf own es rs → AllByRecursion (IsTestRegister d) rs
each_kept d base own is good long free [] [] entries fails are = tt
each_kept d base own is good long free [] (r ∷ rs) entries fails are = absurd are
each_kept d base own is good long free (e ∷ es) [] entries fails are = absurd are
each_kept d base own is good long free (e ∷ es) (r ∷ rs) entries fails are =
    let o = are.0.opcode in
    let there = are.0.there in
    let none : list_any (λ (p : Opcode). same_bits o.bits p.bits) d.opcodes ≡ false = ap (list_any (λ (p : Opcode). same_bits o.bits p.bits)) is
    ∙ opcodes_free (λ (b : Bits). same_bits o.bits b) base (found_is_none_of (has_instruction e) (λ (q : OpcodeEntry). list_any (λ (p : OpcodeEntry). same_bits q.bits p.bits) base) own o free there) in (
      subst (IsTestRegister d) (sym are.0.is) (one_kept d own e o entries.0 (found_good GoodOpcode (has_instruction e) own o good there) (entry_kept own e (or_first (entry_fails own e) (list_any (entry_fails own) es) fails)) (found (has_instruction e) own o there)
          (found_is_none_of (has_instruction e) (λ (q : OpcodeEntry). has_other_length d.length q.bits) own o long there) none),
      each_kept d base own is good long free es rs entries.1 (or_second (entry_fails own e) (list_any (entry_fails own) es) fails) are.1,
    )

-- No two have a name, an instruction or an opcode in common.

names_same : (own : List OpcodeEntry) (es : List RegisterEntry) (rs : List TestRegister) → AreOf own es rs → map (λ (r : TestRegister). r.name) rs ≡ map (λ (e : RegisterEntry). e.name) es
names_same own [] [] are = refl
names_same own [] (r ∷ rs) are = absurd are
names_same own (e ∷ es) [] are = absurd are
names_same own (e ∷ es) (r ∷ rs) are =
    ap (λ (q : TestRegister). q.name ∷ map (λ (r : TestRegister). r.name) rs) are.0.is ∙ ap (λ (l : List (List ℕ)). e.name ∷ l) (names_same own es rs are.1)

names_apart : (own : List OpcodeEntry) (es : List RegisterEntry) (rs : List TestRegister) → AreOf own es rs → any_pair (λ (e : RegisterEntry) (f : RegisterEntry). is_same_name e.name f.name) es ≡ false → any_pair (λ (r : TestRegister) (s : TestRegister). is_same_name r.name s.name) rs ≡ false
names_apart own es rs are apart =
    sym (pairs_map is_same_name (λ (r : TestRegister). r.name) rs) ∙ ap (any_pair is_same_name) (names_same own es rs are) ∙ pairs_map is_same_name (λ (e : RegisterEntry). e.name) es ∙ apart

-- in lower case
abbrev entry_key : RegisterEntry → List ℕ
entry_key e = map lower e.instruction

abbrev register_key : TestRegister → List ℕ
register_key r = map lower r.instr

keys_same : (own : List OpcodeEntry) (es : List RegisterEntry) (rs : List TestRegister) → AreOf own es rs → map register_key rs ≡ map entry_key es
keys_same own [] [] are = refl
keys_same own [] (r ∷ rs) are = absurd are
keys_same own (e ∷ es) [] are = absurd are
keys_same own (e ∷ es) (r ∷ rs) are =
    ap (λ (q : TestRegister). register_key q ∷ map register_key rs) are.0.is
    ∙ ap (λ (k : List ℕ). k ∷ map register_key rs) (sym (same_name-true e.instruction are.0.opcode.name (found (has_instruction e) own are.0.opcode are.0.there)))
    ∙ ap (λ (l : List (List ℕ)). entry_key e ∷ l) (keys_same own es rs are.1)

instructions_apart : (own : List OpcodeEntry) (es : List RegisterEntry) (rs : List TestRegister) → AreOf own es rs → any_pair (λ (e : RegisterEntry) (f : RegisterEntry). is_same_name e.instruction f.instruction) es ≡ false
    → any_pair (λ (r : TestRegister) (s : TestRegister). is_same_name r.instr s.instr) rs ≡ false
instructions_apart own es rs are apart =
    sym (pairs_map bytes_eq register_key rs) ∙ ap (any_pair bytes_eq) (keys_same own es rs are) ∙ pairs_map bytes_eq entry_key es ∙ apart

abbrev same_patterns : OpcodeEntry → OpcodeEntry → Bool
same_patterns o p = same_bits o.bits p.bits

bits_same : (a b : Bits) → same_bits a b ≡ true → same_bits b a ≡ true
bits_same a b h =
    let lens : a.len ≡ b.len = eqb-true a.len b.len (and_left (a.len == b.len) (a.value == b.value) h) in
    let values : a.value ≡ b.value = eqb-true a.value b.value (and_right (a.len == b.len) (a.value == b.value) h) in
    ap (λ (n : ℕ). n == a.len && b.value == a.value) (sym lens) ∙ ap (λ (n : ℕ). a.len == a.len && n == a.value) (sym values) ∙ (ap (λ (n : ℕ). a.len == n && a.value == a.value) lens ∙ ap (λ (n : ℕ). a.len == b.len && a.value == n) values ∙ h)

bits_turned : (a b : Bits) → same_bits a b ≡ false → same_bits b a ≡ false
bits_turned a b h = by (same_bits b a) refl
  where
    by : (t : Bool) → same_bits b a ≡ t → same_bits b a ≡ false
    by true e = let never : true ≡ false = sym (bits_same b a e) ∙ h in absurd (cc)
    by false e = e

-- the opcodes of two instructions have two patterns
found_apart : (t u : OpcodeEntry → Bool) (own : List OpcodeEntry) (o p : OpcodeEntry) → ((x : OpcodeEntry) → t x ≡ true → u x ≡ true → ⊥) → any_pair same_patterns own ≡ false → find t own ≡ Some o → find u own ≡ Some p → same_patterns o p ≡ false
found_apart t u [] o p never apart f g = absurd (cc)
found_apart t u (x ∷ xs) o p never apart f g =
    by (t x) (u x) refl refl (λ f g. found_apart t u xs o p never (or_second (list_any (same_patterns x) xs) (any_pair same_patterns xs) apart) f g) (or_first (list_any (same_patterns x) xs) (any_pair same_patterns xs) apart) f g
  where
    by : (a b : Bool) → t x ≡ a → u x ≡ b → (find t xs ≡ Some o → find u xs ≡ Some p → same_patterns o p ≡ false) → list_any (same_patterns x) xs ≡ false → cond a (Some x) (find t xs) ≡ Some o → cond b (Some x) (find u xs) ≡ Some p → same_patterns o p ≡ false
    by true true d e rest none f g = absurd (never x d e)
    by true false d e rest none f g = let here : x ≡ o = cc in ap (λ (y : OpcodeEntry). same_patterns y p) (sym here) ∙ found_is_none_of u (same_patterns x) xs p none g
    by false true d e rest none f g = let here : x ≡ p = cc in ap (λ (y : OpcodeEntry). same_patterns o y) (sym here) ∙ bits_turned x.bits o.bits (found_is_none_of t (same_patterns x) xs o none f)
    by false false d e rest none f g = rest f g

-- an opcode that has two instructions has one that is both
both_named : (e f : RegisterEntry) → is_same_name e.instruction f.instruction ≡ false → (x : OpcodeEntry) → has_instruction e x ≡ true → has_instruction f x ≡ true → ⊥
both_named e f apart x h k =
    let turned : is_same_name x.name f.instruction ≡ true = same_turned x.name f.instruction ∙ k in
    let same : is_same_name e.instruction f.instruction ≡ true = same_left e.instruction x.name f.instruction (same_name-true e.instruction x.name h) ∙ turned in
    let never : true ≡ false = sym same ∙ apart in
    absurd (cc)

pattern_apart : (own : List OpcodeEntry) (e : RegisterEntry) (r : TestRegister) (es : List RegisterEntry) (rs : List TestRegister) → IsOf own e r → AreOf own es rs → any_pair same_patterns own ≡ false → list_any (λ (f : RegisterEntry). is_same_name e.instruction f.instruction) es ≡ false
    → list_any (λ (s : TestRegister). same_bits r.bits s.bits) rs ≡ false
pattern_apart own e r [] [] is are apart others = refl
pattern_apart own e r [] (s ∷ rs) is are apart others = absurd are
pattern_apart own e r (f ∷ es) [] is are apart others = absurd are
pattern_apart own e r (f ∷ es) (s ∷ rs) is are apart others =
    let differ : same_patterns is.opcode are.0.opcode ≡ false = found_apart (has_instruction e) (has_instruction f) own is.opcode are.0.opcode (both_named e f (or_first (is_same_name e.instruction f.instruction) (list_any (λ (g : RegisterEntry). is_same_name e.instruction g.instruction) es) others)) apart is.there are.0.there in
    neither (same_bits r.bits s.bits) (list_any (λ (q : TestRegister). same_bits r.bits q.bits) rs)
    (ap (λ (q : TestRegister). same_bits q.bits s.bits) is.is ∙ ap (λ (q : TestRegister). same_bits is.opcode.bits q.bits) are.0.is ∙ differ)
    (pattern_apart own e r es rs is are.1 apart (or_second (is_same_name e.instruction f.instruction) (list_any (λ (g : RegisterEntry). is_same_name e.instruction g.instruction) es) others))

patterns_apart : (own : List OpcodeEntry) (es : List RegisterEntry) (rs : List TestRegister) → AreOf own es rs → any_pair same_patterns own ≡ false → any_pair (λ (e : RegisterEntry) (f : RegisterEntry). is_same_name e.instruction f.instruction) es ≡ false
    → any_pair (λ (r : TestRegister) (s : TestRegister). same_bits r.bits s.bits) rs ≡ false
patterns_apart own [] [] are apart others = refl
patterns_apart own [] (r ∷ rs) are apart others = absurd are
patterns_apart own (e ∷ es) [] are apart others = absurd are
patterns_apart own (e ∷ es) (r ∷ rs) are apart others =
    let first = list_any (λ (f : RegisterEntry). is_same_name e.instruction f.instruction) es in
    let more = any_pair (λ (f : RegisterEntry) (g : RegisterEntry). is_same_name f.instruction g.instruction) es in
    neither (list_any (λ (s : TestRegister). same_bits r.bits s.bits) rs) (any_pair (λ (q : TestRegister) (s : TestRegister). same_bits q.bits s.bits) rs) (pattern_apart own e r es rs are.0 are.1 apart (or_first first more others)) (patterns_apart own es rs are.1 apart (or_second first more others))

as_many : (own : List OpcodeEntry) (es : List RegisterEntry) (rs : List TestRegister) → AreOf own es rs → length rs ≡ length es
as_many own [] [] are = refl
as_many own [] (r ∷ rs) are = absurd are
as_many own (e ∷ es) [] are = absurd are
as_many own (e ∷ es) (r ∷ rs) are = ap suc (as_many own es rs are.1)

-- The device and its registers.

-- what the rules say of the entries and their opcodes
record KeptRules (wanted : ℕ) (base own : List OpcodeEntry) (es : List RegisterEntry) : Type 0 where
  few : length es ≤ 16
  names : any_pair (λ (e : RegisterEntry) (f : RegisterEntry). is_same_name e.name f.name) es ≡ false
  instructions : any_pair (λ (e : RegisterEntry) (f : RegisterEntry). is_same_name e.instruction f.instruction) es ≡ false
  entries : list_any (entry_fails own) es ≡ false
  lengths : list_any (λ (o : OpcodeEntry). has_other_length wanted o.bits) own ≡ false
  bases : list_any (λ (o : OpcodeEntry). list_any (λ (p : OpcodeEntry). same_bits o.bits p.bits) base) own ≡ false
  patterns : any_pair same_patterns own ≡ false

rules_kept : (f : File) (c : Contents) (es : List RegisterEntry) → own_registers_fail f c es ≡ false → KeptRules f.length.value (base_opcodes es c.opcodes) (own_opcodes es c.opcodes) es
rules_kept f c es h =
    let wanted = f.length.value in
    let base = base_opcodes es c.opcodes in
    let own = own_opcodes es c.opcodes in
    let many = nat_lt 16 (length es) in
    let names = any_pair (λ (e : RegisterEntry) (f : RegisterEntry). is_same_name e.name f.name) es in
    let instructions = any_pair (λ (e : RegisterEntry) (f : RegisterEntry). is_same_name e.instruction f.instruction) es in
    let lengths = list_any (λ (o : OpcodeEntry). has_other_length wanted o.bits) own in
    let bases = list_any (λ (o : OpcodeEntry). list_any (λ (p : OpcodeEntry). same_bits o.bits p.bits) base) own in
    let patterns = any_pair same_patterns own in
    let two : (entries_fail es || list_any (entry_fails own) es) ≡ false = or_first (entries_fail es || list_any (entry_fails own) es) (opcodes_fail wanted base own) h in
    let codes : ((lengths || bases) || patterns) ≡ false = or_second (entries_fail es || list_any (entry_fails own) es) (opcodes_fail wanted base own) h in
    let entries : ((many || names) || instructions) ≡ false = or_first (entries_fail es) (list_any (entry_fails own) es) two in
    record {
      few = ltb-false 16 (length es) (or_first many names (or_first (many || names) instructions entries));
      names = or_second many names (or_first (many || names) instructions entries);
      instructions = or_second (many || names) instructions entries;
      entries = or_second (entries_fail es) (list_any (entry_fails own) es) two;
      lengths = or_first lengths bases (or_first (lengths || bases) patterns codes);
      bases = or_second lengths bases (or_first (lengths || bases) patterns codes);
      patterns = or_second (lengths || bases) patterns codes;
    }

kept : (f : File) (c : Contents) (es : List RegisterEntry) → Stands (device_of f (base_contents c es)) → AllByRecursion GoodEntry es → AllByRecursion GoodOpcode c.opcodes → own_registers_fail f c es ≡ false → IsExtended (extended_of f c es)
kept f c es s entries opcodes fails =
    let base = base_opcodes es c.opcodes in
    let own = own_opcodes es c.opcodes in
    let d = device_of f (base_contents c es) in
    let rs = filter_map (register_of own) es in
    let k : KeptRules f.length.value base own es = rules_kept f c es fails in
    let are : AreOf own es rs = are_of own es k.entries in
    record {
      device = standing_device d s;
      few = subst (λ (n : ℕ). n ≤ 16) (sym (as_many own es rs are)) k.few;
      each = each_kept d base own refl (filter_good GoodOpcode _ c.opcodes opcodes) k.lengths k.bases es rs entries k.entries are;
      names = names_apart own es rs are k.names;
      instructions = instructions_apart own es rs are k.instructions;
      opcodes = patterns_apart own es rs are k.patterns k.instructions;
    }

pub extended_kept : (bytes : List ℕ) (e : Extended) → SpellsExtendedText bytes e → IsExtended e
extended_kept bytes e spelled =
    let s = spelled.spells in
    let f = s.file in
    let c = s.contents in
    let h = s.holds in
    let good : GoodContents c = held_good f c h.pin_map h.opcodes h.capture h.idcode h.usercode h.rows in
    let here : Stands (device_of f (base_contents c s.entries)) = stands_by f (base_contents c s.entries) (spelled_file_good bytes spelled.words f spelled.cut s.spells) (base_good c s.entries good) (some_port f s.spells.is) (keeps f (base_contents c s.entries) s.means) in
    subst IsExtended (sym s.extended_is) (kept f c s.entries here (entries_good f.access.strings c.access s.entries h.access) (opcodes_good f.opcodes.strings c.opcodes h.opcodes) s.right)
