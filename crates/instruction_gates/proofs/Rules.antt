-- The codes of an instruction register that some BSDL text describes fit the gates.
use Rattle.std.proofs.Common.{◌≡◌, ℕ, zero, suc, ◌/◌, ◌%◌, ◌^◌, ◌<◌, ◌==◌, Bool, true, false, cond, not, List, [], ◌∷◌, length, find, refl, sym, ◌∙◌, ap, subst, Option, Some, None, option_map, arith}
use Rattle.std.specs.Prelude.{◌&&◌, ◌||◌}
use Rattle.std.specs.List.{list_any, AllByRecursion}
use Rattle.std.specs.Option.{option_map_or}
use Rattle.std.proofs.lemmas.Bool.{false≢true, eq-eqb}
use Rattle.list_laws.proofs.Tests.{or_first, or_second, or_more}
use Rattle.signal_values.specs.declared.Sig.{Sig}
use Rattle.signal_values.specs.declared.Sig.TheVariants.{Zero, One, Unknown}
use Rattle.signal_values.specs.Values.{bit}
use Rattle.cell_library.specs.declared.codes.Bits.{Bits}
use Rattle.cell_library.specs.declared.codes.Instr.{Instr}
use Rattle.cell_library.specs.declared.codes.Instr.TheVariants.{Bypass, Extest, Sample, Preload, Idcode, Highz, Clamp, Usercode}
use Rattle.cell_library.specs.declared.codes.Opcode.{Opcode}
use Rattle.bsdl_device.specs.declared.entries.OpcodeEntry.{OpcodeEntry}
use Rattle.bsdl_device.specs.Instructions.{instruction_word, names_instruction, is_instruction, same_bits}
use Rattle.bsdl_device.specs.Checks.{any_pair, has_instruction, has_other_length, are_sample_and_preload, opcodes_clash}
use Rattle.bsdl_device.specs.IsDevice.{IsBits, opcode_entry, opcode_entries}
use Rattle.test_logic.specs.Instructions.{bits_of, pattern, opcode_of}
use Rattle.test_logic.specs.Registers.{first_bit}
use Rattle.test_logic.proofs.Lengths.{length_bits_of, right_length}
use Rattle.instruction_gates.specs.Selections.{is_sampling, may_share}
use Rattle.instruction_gates.specs.RegisterLaws.{RegistersFit}

-- Patterns of one length are of one number.

abbrev is_high : Sig → Bool
is_high One = true
is_high Zero = false
is_high Unknown = false

high_bit : (b : Bool) → is_high (bit b) ≡ b
high_bit true = refl
high_bit false = refl

abbrev others : List Sig → List Sig
others [] = []
others (x ∷ xs) = xs

same_parity : (x y : ℕ) → x < 2 → y < 2 → (x == 1) ≡ (y == 1) → x ≡ y
same_parity zero zero h k e = refl
same_parity (suc zero) (suc zero) h k e = refl
same_parity zero (suc zero) h k e = absurd (false≢true e)
same_parity (suc zero) zero h k e = absurd (false≢true (sym e))
same_parity (suc (suc x)) y h k e = absurd (omega arith)
same_parity x (suc (suc y)) h k e = absurd (omega arith)

halves : (a b : ℕ) → a % 2 ≡ b % 2 → a / 2 ≡ b / 2 → a ≡ b
halves a b e f = omega arith

same_value : (count a b : ℕ) → a < 2 ^ count → b < 2 ^ count → bits_of count a ≡ bits_of count b → a ≡ b
unfolding bits_of
same_value zero a b h k e = omega arith
same_value (suc count) a b h k e =
    let low : (a % 2 == 1) ≡ (b % 2 == 1) = sym (high_bit (a % 2 == 1)) ∙ ap (λ (xs : List Sig). is_high (first_bit xs)) e ∙ high_bit (b % 2 == 1) in
    let more : bits_of count (a / 2) ≡ bits_of count (b / 2) = ap others e in
    halves a b (same_parity (a % 2) (b % 2) (omega arith) (omega arith) low) (same_value count (a / 2) (b / 2) (omega arith) (omega arith) more)

-- An opcode that an instruction has, in a list.

record Found (test : Opcode → Bool) (i : Instr) (opcode : Bits) : Type 0 where
  entry : Opcode
  fails : test entry ≡ false
  named : is_instruction i entry.instr ≡ true
  has : entry.bits ≡ opcode

some_same : (a b : Bits) → Some a ≡ Some b → a ≡ b
some_same a b e = cc

found_step : (test : Opcode → Bool) (o : Opcode) (rest : Option Opcode) (i : Instr) (opcode : Bits) (here : Bool) → is_instruction i o.instr ≡ here → test o ≡ false
    → (option_map (λ (p : Opcode). p.bits) rest ≡ Some opcode → Found test i opcode) → option_map (λ (p : Opcode). p.bits) (cond here (Some o) rest) ≡ Some opcode → Found test i opcode
found_step test o rest i opcode true e h more is = record { entry = o; fails = h; named = e; has = some_same o.bits opcode is }
found_step test o rest i opcode false e h more is = more is

found : (test : Opcode → Bool) (opcodes : List Opcode) (i : Instr) (opcode : Bits) → list_any test opcodes ≡ false → opcode_of opcodes i ≡ Some opcode → Found test i opcode
found test [] i opcode none is = absurd (cc)
found test (o ∷ os) i opcode none is =
    found_step test o (find (λ (p : Opcode). is_instruction i p.instr) os) i opcode (is_instruction i o.instr) refl (or_first (test o) (list_any test os) none)
    (λ e. found test os i opcode (or_second (test o) (list_any test os) none) e) is

-- each value has no more bits than the pattern
small_step : (o : Opcode) (rest : Option Opcode) (i : Instr) (opcode : Bits) (here : Bool) → IsBits o.bits
    → (option_map (λ (p : Opcode). p.bits) rest ≡ Some opcode → IsBits opcode) → option_map (λ (p : Opcode). p.bits) (cond here (Some o) rest) ≡ Some opcode → IsBits opcode
small_step o rest i opcode true h more is = subst IsBits (some_same o.bits opcode is) h
small_step o rest i opcode false h more is = more is

small : (opcodes : List Opcode) (i : Instr) (opcode : Bits) → AllByRecursion (λ (o : Opcode). IsBits o.bits) opcodes → opcode_of opcodes i ≡ Some opcode → IsBits opcode
small [] i opcode all is = absurd (cc)
small (o ∷ os) i opcode all is =
    small_step o (find (λ (p : Opcode). is_instruction i p.instr) os) i opcode (is_instruction i o.instr) all.0 (λ e. small os i opcode all.1 e) is

-- Two instructions that have one opcode.

same_instruction : (i j : Instr) → is_instruction i j ≡ true → i ≡ j
same_instruction Bypass Bypass e = refl
same_instruction Extest Extest e = refl
same_instruction Sample Sample e = refl
same_instruction Preload Preload e = refl
same_instruction Idcode Idcode e = refl
same_instruction Highz Highz e = refl
same_instruction Clamp Clamp e = refl
same_instruction Usercode Usercode e = refl
same_instruction i j e = absurd (false≢true e)

shares_with_itself : (i : Instr) → may_share i i ≡ true
shares_with_itself Bypass = refl
shares_with_itself Extest = refl
shares_with_itself Sample = refl
shares_with_itself Preload = refl
shares_with_itself Idcode = refl
shares_with_itself Highz = refl
shares_with_itself Clamp = refl
shares_with_itself Usercode = refl

named_sample : (x : Instr) → names_instruction Sample (instruction_word x) ≡ is_instruction Sample x
named_sample Bypass = refl
named_sample Extest = refl
named_sample Sample = refl
named_sample Preload = refl
named_sample Idcode = refl
named_sample Highz = refl
named_sample Clamp = refl
named_sample Usercode = refl

named_preload : (x : Instr) → names_instruction Preload (instruction_word x) ≡ is_instruction Preload x
named_preload Bypass = refl
named_preload Extest = refl
named_preload Sample = refl
named_preload Preload = refl
named_preload Idcode = refl
named_preload Highz = refl
named_preload Clamp = refl
named_preload Usercode = refl

abbrev pair : Instr → Instr → Bool
pair x y = (is_instruction Sample x && is_instruction Preload y) || (is_instruction Preload x && is_instruction Sample y)

named_pair : (o p : Opcode) → are_sample_and_preload (opcode_entry o) (opcode_entry p) ≡ pair o.instr p.instr
named_pair o p =
    let so : Bool = names_instruction Sample (instruction_word o.instr) in
    let sp : Bool = names_instruction Sample (instruction_word p.instr) in
    let po : Bool = names_instruction Preload (instruction_word o.instr) in
    let pp : Bool = names_instruction Preload (instruction_word p.instr) in
    ap (λ (b : Bool). (b && pp) || (po && sp)) (named_sample o.instr) ∙ ap (λ (b : Bool). (is_instruction Sample o.instr && b) || (po && sp)) (named_preload p.instr)
    ∙ ap (λ (b : Bool). (is_instruction Sample o.instr && is_instruction Preload p.instr) || (b && sp)) (named_preload o.instr)
    ∙ ap (λ (b : Bool). (is_instruction Sample o.instr && is_instruction Preload p.instr) || (is_instruction Preload o.instr && b)) (named_sample p.instr)

sampling : (x y : Instr) → pair x y ≡ true → (is_sampling x && is_sampling y) ≡ true
sampling Sample Preload e = refl
sampling Preload Sample e = refl
sampling x y e = absurd (false≢true e)

turned : (x y : Instr) → (is_sampling x && is_sampling y) ≡ true → (is_sampling y && is_sampling x) ≡ true
turned Sample Sample e = refl
turned Sample Preload e = refl
turned Preload Sample e = refl
turned Preload Preload e = refl
turned x y e = absurd (false≢true e)

only_pair : (same both : Bool) → (same && not both) ≡ false → same ≡ true → both ≡ true
only_pair true true e h = refl
only_pair true false e h = absurd (false≢true (sym e))
only_pair false both e h = absurd (false≢true h)

itself : (a : Bits) → same_bits a a ≡ true
itself a = ap (λ (b : Bool). b && a.value == a.value) (eq-eqb a.len a.len refl) ∙ eq-eqb a.value a.value refl

-- two entries with one opcode that don't clash
sample_both : (o p : Opcode) → opcodes_clash (opcode_entry o) (opcode_entry p) ≡ false → o.bits ≡ p.bits → (is_sampling o.instr && is_sampling p.instr) ≡ true
sample_both o p apart same =
    let is_same : same_bits o.bits p.bits ≡ true = ap (λ (b : Bits). same_bits o.bits b) (sym same) ∙ itself o.bits in
    let both : are_sample_and_preload (opcode_entry o) (opcode_entry p) ≡ true
    = only_pair (same_bits o.bits p.bits) (are_sample_and_preload (opcode_entry o) (opcode_entry p)) apart is_same in
    sampling o.instr p.instr (sym (named_pair o p) ∙ both)

abbrev opcode_in : Option Opcode → Option Bits
opcode_in found = option_map (λ (p : Opcode). p.bits) found

abbrev found_in : List Opcode → Instr → Option Opcode
found_in opcodes i = find (λ (p : Opcode). is_instruction i p.instr) opcodes

pair_step : (o : Opcode) (os : List Opcode) (i j : Instr) (opcode : Bits) (first second : Bool) → is_instruction i o.instr ≡ first → is_instruction j o.instr ≡ second
    → list_any (λ (p : Opcode). opcodes_clash (opcode_entry o) (opcode_entry p)) os ≡ false
    → (opcode_of os i ≡ Some opcode → opcode_of os j ≡ Some opcode → may_share i j ≡ true)
    → opcode_in (cond first (Some o) (found_in os i)) ≡ Some opcode → opcode_in (cond second (Some o) (found_in os j)) ≡ Some opcode → may_share i j ≡ true
pair_step o os i j opcode true true e f none more x y =
    ap (λ (k : Instr). may_share i k) (same_instruction j o.instr f ∙ sym (same_instruction i o.instr e)) ∙ shares_with_itself i
pair_step o os i j opcode true false e f none more x y =
    let p = found (λ (q : Opcode). opcodes_clash (opcode_entry o) (opcode_entry q)) os j opcode none y in
    let both = sample_both o p.entry p.fails (some_same o.bits opcode x ∙ sym p.has) in
    or_more (is_instruction i j) (is_sampling i && is_sampling j)
    (ap (λ (k : Instr). is_sampling k && is_sampling j) (same_instruction i o.instr e) ∙ ap (λ (k : Instr). is_sampling o.instr && is_sampling k) (same_instruction j p.entry.instr p.named) ∙ both)
pair_step o os i j opcode false true e f none more x y =
    let p = found (λ (q : Opcode). opcodes_clash (opcode_entry o) (opcode_entry q)) os i opcode none x in
    let both = sample_both o p.entry p.fails (some_same o.bits opcode y ∙ sym p.has) in
    or_more (is_instruction i j) (is_sampling i && is_sampling j)
    (turned j i (ap (λ (k : Instr). is_sampling k && is_sampling i) (same_instruction j o.instr f) ∙ ap (λ (k : Instr). is_sampling o.instr && is_sampling k) (same_instruction i p.entry.instr p.named) ∙ both))
pair_step o os i j opcode false false e f none more x y = more x y

any_entry : (test : OpcodeEntry → Bool) (os : List Opcode) → list_any test (opcode_entries os) ≡ list_any (λ (p : Opcode). test (opcode_entry p)) os
any_entry test [] = refl
any_entry test (o ∷ os) = ap (λ (b : Bool). test (opcode_entry o) || b) (any_entry test os)

pairs : (opcodes : List Opcode) (i j : Instr) (opcode : Bits) → any_pair opcodes_clash (opcode_entries opcodes) ≡ false → opcode_of opcodes i ≡ Some opcode → opcode_of opcodes j ≡ Some opcode
    → may_share i j ≡ true
pairs [] i j opcode none x y = absurd (cc)
pairs (o ∷ os) i j opcode none x y =
    let one : list_any (opcodes_clash (opcode_entry o)) (opcode_entries os) ≡ false
    = or_first (list_any (opcodes_clash (opcode_entry o)) (opcode_entries os)) (any_pair opcodes_clash (opcode_entries os)) none in
    let rest : any_pair opcodes_clash (opcode_entries os) ≡ false
    = or_second (list_any (opcodes_clash (opcode_entry o)) (opcode_entries os)) (any_pair opcodes_clash (opcode_entries os)) none in
    pair_step o os i j opcode (is_instruction i o.instr) (is_instruction j o.instr) refl refl (sym (any_entry (opcodes_clash (opcode_entry o)) os) ∙ one)
    (λ e f. pairs os i j opcode rest e f) x y

-- What reset latches is as long.

lengths_of : (n : ℕ) (opcodes : List Opcode) → list_any (λ (o : Opcode). has_other_length n o.bits) opcodes ≡ false → (i : Instr) (opcode : Bits) → opcode_of opcodes i ≡ Some opcode
    → opcode.len ≡ n
lengths_of n opcodes all i opcode is =
    let f = found (λ (o : Opcode). has_other_length n o.bits) opcodes i opcode all is in
    ap (λ (b : Bits). b.len) (sym f.has) ∙ right_length n f.entry.bits f.fails

named_bypass : (x : Instr) → names_instruction Bypass (instruction_word x) ≡ is_instruction Bypass x
named_bypass Bypass = refl
named_bypass Extest = refl
named_bypass Sample = refl
named_bypass Preload = refl
named_bypass Idcode = refl
named_bypass Highz = refl
named_bypass Clamp = refl
named_bypass Usercode = refl

there_step : (o : Opcode) (rest : Option Opcode) (here tail : Bool) → (here || tail) ≡ true → (tail ≡ true → opcode_in rest ≡ None → ⊥) → opcode_in (cond here (Some o) rest) ≡ None → ⊥
there_step o rest true tail h more e = cc
there_step o rest false tail h more e = more h e

-- BYPASS has an opcode where some entry has its name
there : (opcodes : List Opcode) → has_instruction (opcode_entries opcodes) Bypass ≡ true → opcode_of opcodes Bypass ≡ None → ⊥
there [] h e = false≢true h
there (o ∷ os) h e =
    there_step o (found_in os Bypass) (is_instruction Bypass o.instr) (has_instruction (opcode_entries os) Bypass)
    (ap (λ (b : Bool). b || has_instruction (opcode_entries os) Bypass) (sym (named_bypass o.instr)) ∙ h) (λ k f. there os k f) e

reset_long : (n : ℕ) (ident bypass : Option Bits) → ((opcode : Bits) → ident ≡ Some opcode → opcode.len ≡ n) → ((opcode : Bits) → bypass ≡ Some opcode → opcode.len ≡ n) → (bypass ≡ None → ⊥)
    → length (option_map_or pattern ident (option_map_or pattern bypass [])) ≡ n
reset_long n (Some opcode) bypass long_ident long_bypass some = length_bits_of opcode.len opcode.value ∙ long_ident opcode refl
reset_long n None (Some opcode) long_ident long_bypass some = length_bits_of opcode.len opcode.value ∙ long_bypass opcode refl
reset_long n None None long_ident long_bypass some = absurd (some refl)

-- the last of those that aren't lacking
pub last_there : (e s p b : Bool) → (not e || (not s || (not p || (not b || false)))) ≡ false → b ≡ true
last_there e s p true h = refl
last_there true true true false h = absurd (false≢true (sym h))
last_there false s p false h = absurd (false≢true (sym h))
last_there true false p false h = absurd (false≢true (sym h))
last_there true true false false h = absurd (false≢true (sym h))

pub fits : RegistersFit
fits codes rules reset =
    let n : ℕ = codes.length in
    let each : (i : Instr) (opcode : Bits) → opcode_of codes.opcodes i ≡ Some opcode → opcode.len ≡ n = λ i opcode is. lengths_of n codes.opcodes rules.lengths i opcode is in
    let entries = opcode_entries codes.opcodes in
    let bypass : has_instruction entries Bypass ≡ true
    = last_there (has_instruction entries Extest) (has_instruction entries Sample) (has_instruction entries Preload) (has_instruction entries Bypass) rules.all in
    let shared : (i j : Instr) (a b : Bits) → opcode_of codes.opcodes i ≡ Some a → opcode_of codes.opcodes j ≡ Some b → pattern a ≡ pattern b → may_share i j ≡ true
    = λ i j a b x y same.
    let la = each i a x in
    let lb = each j b y in
    let long : a.len ≡ b.len = la ∙ sym lb in
    let below_a : a.value < 2 ^ a.len = (small codes.opcodes i a rules.values x).value in
    let below_b : b.value < 2 ^ a.len = subst (λ (k : ℕ). b.value < 2 ^ k) (sym long) (small codes.opcodes j b rules.values y).value in
    let value : a.value ≡ b.value = same_value a.len a.value b.value below_a below_b (same ∙ ap (λ (k : ℕ). bits_of k b.value) (sym long)) in
    let bits : a ≡ b = ap (λ (k : ℕ). let c : Bits = record { len = k; value = a.value } in c) long ∙ ap (λ (v : ℕ). let c : Bits = record { len = b.len; value = v } in c) value in
    pairs codes.opcodes i j b rules.apart (x ∙ ap (λ (c : Bits). Some c) bits) y in
    let least = rules.least in
    record {
      some = omega arith;
      capture = right_length n codes.capture rules.capture_length;
      reset = sym (length_bits_of codes.reset.len codes.reset.value) ∙ ap (λ (xs : List Sig). length xs) (sym reset)
          ∙ reset_long n (opcode_of codes.opcodes Idcode) (opcode_of codes.opcodes Bypass) (λ opcode is. each Idcode opcode is) (λ opcode is. each Bypass opcode is) (there codes.opcodes bypass);
      each = each;
      apart = record { each = shared };
    }
