-- An opcode that is none of a device's has BYPASS in effect there.
use Rattle.std.proofs.Common.{◌≡◌, ℕ, zero, suc, ◌/◌, ◌%◌, ◌^◌, ◌<◌, ◌==◌, Bool, true, false, cond, List, [], ◌∷◌, length, Option, Some, None, option_map, find, refl, sym, ap, ◌∙◌, subst, arith}
use Rattle.std.specs.Prelude.{unwrap_or}
use Rattle.std.specs.List.{list_any, AllByRecursion}
use Rattle.std.proofs.lemmas.Bool.{false≢true, both_ways, eq-eqb}
use Rattle.list_laws.proofs.Tests.{both_true, and_true, or_first, or_second, never_true}
use Rattle.signal_values.specs.declared.Sig.{Sig}
use Rattle.signal_values.specs.declared.Sig.TheVariants.{Zero, One, Unknown}
use Rattle.signal_values.specs.Values.{bit}
use Rattle.cell_library.specs.declared.codes.Bits.{Bits}
use Rattle.cell_library.specs.declared.codes.Instr.{Instr}
use Rattle.cell_library.specs.declared.codes.Instr.TheVariants as instr
use Rattle.cell_library.specs.declared.codes.Opcode.{Opcode}
use Rattle.bsdl_device.specs.Instructions.{all_instructions, is_instruction, same_bits}
use Rattle.bsdl_device.specs.IsDevice.{IsBits}
use Rattle.test_logic.specs.Instructions.{bits_of, pattern, is_same_bit, is_pattern, opcode_of, is_opcode, instruction_of}
use Rattle.test_logic.proofs.Lengths.{length_bits_of}

-- Two opcodes that are latched at once are one.

one_bit : (x : Sig) (a b : Bool) → is_same_bit x (bit a) ≡ true → is_same_bit x (bit b) ≡ true → a ≡ b
one_bit x true true e f = refl
one_bit x false false e f = refl
one_bit Zero true false e f = absurd (false≢true e)
one_bit One true false e f = absurd (false≢true f)
one_bit Unknown true false e f = absurd (false≢true e)
one_bit Zero false true e f = absurd (false≢true f)
one_bit One false true e f = absurd (false≢true e)
one_bit Unknown false true e f = absurd (false≢true e)

same_parity : (x y : ℕ) → x < 2 → y < 2 → (x == 1) ≡ (y == 1) → x ≡ y
same_parity zero zero h k e = refl
same_parity (suc zero) (suc zero) h k e = refl
same_parity zero (suc zero) h k e = absurd (false≢true e)
same_parity (suc zero) zero h k e = absurd (false≢true (sym e))
same_parity (suc (suc x)) y h k e = absurd (omega arith)
same_parity x (suc (suc y)) h k e = absurd (omega arith)

halves : (a b : ℕ) → a % 2 ≡ b % 2 → a / 2 ≡ b / 2 → a ≡ b
halves a b e f = omega arith

same_value : (count a b : ℕ) (latched : List Sig) → a < 2 ^ count → b < 2 ^ count → is_pattern latched (bits_of count a) ≡ true → is_pattern latched (bits_of count b) ≡ true → a ≡ b
unfolding bits_of
same_value zero a b latched h k e f = omega arith
same_value (suc count) a b [] h k e f = absurd (false≢true e)
same_value (suc count) a b (x ∷ xs) h k e f =
    let first = both_true (is_same_bit x (bit (a % 2 == 1))) (is_pattern xs (bits_of count (a / 2))) e in
    let other = both_true (is_same_bit x (bit (b % 2 == 1))) (is_pattern xs (bits_of count (b / 2))) f in
    halves a b (same_parity (a % 2) (b % 2) (omega arith) (omega arith) (one_bit x (a % 2 == 1) (b % 2 == 1) first.0 other.0))
    (same_value count (a / 2) (b / 2) xs (omega arith) (omega arith) first.1 other.1)

as_long : (xs ys : List Sig) → is_pattern xs ys ≡ true → length xs ≡ length ys
as_long [] [] e = refl
as_long [] (y ∷ ys) e = absurd (false≢true e)
as_long (x ∷ xs) [] e = absurd (false≢true e)
as_long (x ∷ xs) (y ∷ ys) e = ap suc (as_long xs ys (both_true (is_same_bit x y) (is_pattern xs ys) e).1)

same_opcode : (a b : Bits) (latched : List Sig) → a.value < 2 ^ a.len → b.value < 2 ^ b.len → is_pattern latched (pattern a) ≡ true → is_pattern latched (pattern b) ≡ true → same_bits a b ≡ true
same_opcode a b latched small less e f =
    let long : a.len ≡ b.len = sym (length_bits_of a.len a.value) ∙ sym (as_long latched (pattern a) e) ∙ as_long latched (pattern b) f ∙ length_bits_of b.len b.value in
    let below : b.value < 2 ^ a.len = subst (λ (k : ℕ). b.value < 2 ^ k) (sym long) less in
    let there : is_pattern latched (bits_of a.len b.value) ≡ true = subst (λ (k : ℕ). is_pattern latched (bits_of k b.value) ≡ true) (sym long) f in
    and_true (a.len == b.len) (a.value == b.value) (eq-eqb a.len b.len long) (eq-eqb a.value b.value (same_value a.len a.value b.value latched small below e there))

-- No instruction of the device has it.

abbrev entry_of : List Opcode → Instr → Option Opcode
entry_of opcodes i = find (λ (o : Opcode). is_instruction i o.instr) opcodes

abbrev bits_in : Option Opcode → Option Bits
bits_in found = option_map (λ (o : Opcode). o.bits) found

not_latched : (bits : Bits) (latched : List Sig) → bits.value < 2 ^ bits.len → is_pattern latched (pattern bits) ≡ true → (opcodes : List Opcode)
    → AllByRecursion (λ (o : Opcode). IsBits o.bits) opcodes → list_any (λ (o : Opcode). same_bits bits o.bits) opcodes ≡ false → (i : Instr) → is_opcode latched (opcode_of opcodes i) ≡ false
not_latched bits latched small is [] all free i = refl
not_latched bits latched small is (o ∷ os) all free i =
    by (is_instruction i o.instr)
    (not_latched bits latched small is os all.1 (or_second (same_bits bits o.bits) (list_any (λ (p : Opcode). same_bits bits p.bits) os) free) i)
  where
    apart : same_bits bits o.bits ≡ false
    apart = or_first (same_bits bits o.bits) (list_any (λ (p : Opcode). same_bits bits p.bits) os) free

    other : is_pattern latched (pattern o.bits) ≡ false
    other =
        never_true (is_pattern latched (pattern o.bits))
        (λ e. both_ways (same_bits bits o.bits) apart (same_opcode bits o.bits latched small all.0.value is e))

    by : (b : Bool) → is_opcode latched (bits_in (entry_of os i)) ≡ false → is_opcode latched (bits_in (cond b (Some o) (entry_of os i))) ≡ false
    by true rest = other
    by false rest = rest

none_found : (test : Instr → Bool) → ((i : Instr) → test i ≡ false) → (list : List Instr) → find test list ≡ None
none_found test never [] = refl
none_found test never (i ∷ more) = ap (λ (b : Bool). cond b (Some i) (find test more)) (never i) ∙ none_found test never more

pub is_free : (opcodes : List Opcode) (bits : Bits) → AllByRecursion (λ (o : Opcode). IsBits o.bits) opcodes → bits.value < 2 ^ bits.len
    → list_any (λ (o : Opcode). same_bits bits o.bits) opcodes ≡ false → (latched : List Sig) → is_pattern latched (pattern bits) ≡ true → instruction_of opcodes latched ≡ instr.Bypass
unfolding instruction_of
is_free opcodes bits all small free latched is =
    ap (λ (found : Option Instr). unwrap_or found instr.Bypass)
    (none_found (λ (i : Instr). is_opcode latched (opcode_of opcodes i)) (λ i. not_latched bits latched small is opcodes all free i) all_instructions)
