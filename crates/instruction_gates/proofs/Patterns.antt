-- Patterns as constants, and what is latched.
use Rattle.std.proofs.Common.{◌≡◌, ℕ, zero, suc, ◌+◌, ◌*◌, ◌/◌, ◌%◌, ◌≤◌, ◌==◌, List, [], ◌∷◌, length, refl, sym, ◌∙◌, ap, arith}
use Rattle.signal_values.specs.declared.Sig.{Sig}
use Rattle.signal_values.specs.Values.{bit}
use Rattle.cell_library.specs.declared.codes.Bits.{Bits}
use Rattle.netlist_model.specs.declared.NetId.{NetId}
use Rattle.netlist_model.specs.declared.Feed.{Feed}
use Rattle.netlist_model.specs.Settled.{feed_values}
use Rattle.test_logic.specs.declared.Codes.{Codes}
use Rattle.test_logic.specs.Instructions.{bits_of, pattern}
use Rattle.test_logic.specs.Registers.{first_bit}
use Rattle.register_gates.specs.Chains.{chain_last, chain_values}
use Rattle.register_gates.specs.Constants.{constant_bits, ConstantsAreBits}
use Rattle.instruction_gates.specs.Rows.{bits_in}
use Rattle.instruction_gates.specs.Latches.{latch_values}
use Rattle.instruction_gates.specs.Register.{pattern_bits, latches_from, held_opcode}

bits_in_constants : (count value : ℕ) → bits_in (constant_bits count value) ≡ bits_of count value
unfolding constant_bits bits_of
bits_in_constants zero value = refl
bits_in_constants (suc count) value = ap (λ (bits : List Sig). bit (value % 2 == 1) ∷ bits) (bits_in_constants count (value / 2))

-- the bits of a pattern that is as long as the register
pub bits_in_pattern : (codes : Codes) (bits : Bits) → bits.len ≡ codes.length → bits_in (pattern_bits codes bits) ≡ pattern bits
bits_in_pattern codes bits long = bits_in_constants codes.length bits.value ∙ ap (λ (n : ℕ). bits_of n bits.value) (sym long)

pub pattern_valued : ConstantsAreBits → (value : ℕ → Sig) (codes : Codes) (bits : Bits) → bits.len ≡ codes.length → feed_values value (pattern_bits codes bits) ≡ pattern bits
pattern_valued constants value codes bits long = (constants codes.length bits.value).values value ∙ ap (λ (n : ℕ). bits_of n bits.value) (sym long)

-- what is latched depends on how many bits there are
pub same_latches : (value : ℕ → Sig) (first : ℕ) (xs ys : List Feed) → length xs ≡ length ys → latch_values value first xs ≡ latch_values value first ys
same_latches value first [] [] e = refl
same_latches value first [] (y ∷ ys) e = absurd (omega arith)
same_latches value first (x ∷ xs) [] e = absurd (omega arith)
same_latches value first (x ∷ xs) (y ∷ ys) e =
    let less : length xs ≡ length ys = omega arith in
    ap (λ (n : ℕ). value (first + 3 * n + 1) ∷ latch_values value first xs) less ∙ ap (λ (vs : List Sig). value (first + 3 * length ys + 1) ∷ vs) (same_latches value first xs ys less)

pub latched_as : ConstantsAreBits → (value : ℕ → Sig) (first : ℕ) (codes : Codes) (bits : Bits) → latch_values value (latches_from first codes) (pattern_bits codes bits) ≡ held_opcode value first codes
latched_as constants value first codes bits =
    let xs : List Feed = pattern_bits codes bits in
    let ys : List Feed = pattern_bits codes codes.reset in
    let a = (constants codes.length bits.value).counted in
    let b = (constants codes.length codes.reset.value).counted in
    let c = (constants codes.length codes.capture.value).counted in
    let long : length xs ≡ length ys = omega arith in
    same_latches value (latches_from first codes) xs ys long ∙ ap (λ (n : ℕ). latch_values value (first + (1 + 3 * n)) ys) (sym c)

-- the bit nearest TDO
pub last_of : (value : ℕ → Sig) (first : ℕ) (tdi : NetId) (captured : List Feed) → 1 ≤ length captured → value (chain_last first tdi captured).0 ≡ first_bit (chain_values value first captured)
last_of value first tdi [] some = absurd (omega arith)
last_of value first tdi (c ∷ cs) some = refl
