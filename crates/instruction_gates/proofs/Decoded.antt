-- The instruction in effect, of whether the opcode of each is latched.
use Rattle.std.proofs.Common.{◌≡◌, Bool, true, false, not, List, [], ◌∷◌, refl, sym, ap, ◌∙◌, Some, None}
use Rattle.std.specs.Prelude.{◌&&◌, ◌||◌, find, Option, unwrap_or, IsTrue}
use Rattle.std.proofs.lemmas.Bool.{false≢true}
use Rattle.list_laws.proofs.Tests.{both_true, and_true}
use Rattle.signal_values.specs.declared.Sig.{Sig}
use Rattle.signal_values.specs.declared.Sig.TheVariants.{Zero, One, Unknown}
use Rattle.cell_library.specs.declared.codes.Bits.{Bits}
use Rattle.cell_library.specs.declared.codes.Opcode.{Opcode}
use Rattle.cell_library.specs.declared.codes.Instr.{Instr}
use Rattle.cell_library.specs.declared.codes.Instr.TheVariants.{Bypass, Extest, Sample, Preload, Idcode, Highz, Clamp, Usercode}
use Rattle.bsdl_device.specs.declared.entries.Register.TheVariants as register
use Rattle.bsdl_device.specs.Instructions.{all_instructions, is_register, selected_register}
use Rattle.test_logic.specs.Instructions.{mode_of, is_extest, is_usercode, pattern, is_same_bit, is_pattern, opcode_of, is_opcode, instruction_of}
use Rattle.instruction_gates.specs.Selections.{may_share, AreApart}

abbrev pick : Bool → Bool → Bool → Bool → Bool → Bool → Bool → Bool → Instr → Bool
pick b e s p i h c u Bypass = b
pick b e s p i h c u Extest = e
pick b e s p i h c u Sample = s
pick b e s p i h c u Preload = p
pick b e s p i h c u Idcode = i
pick b e s p i h c u Highz = h
pick b e s p i h c u Clamp = c
pick b e s p i h c u Usercode = u

abbrev chosen : Bool → Bool → Bool → Bool → Bool → Bool → Bool → Bool → Instr
chosen b e s p i h c u = unwrap_or (find (λ x. pick b e s p i h c u x) all_instructions) Bypass

-- what is selected, as gates find it
pub record Decoded (e s p i h c u : Bool) (x : Instr) : Type 0 where
  pub boundary : ((e || s) || p) ≡ is_register register.Boundary (selected_register x)
  pub bypass : not (((e || s) || p) || (i || u)) ≡ is_register register.Bypass (selected_register x)
  pub ident : (i || u) ≡ is_register register.DeviceId (selected_register x)
  pub user : u ≡ is_usercode x
  pub extest : e ≡ is_extest x
  pub m_out : ((e || c) || h) ≡ (mode_of x).m_out
  pub m_in : ((e || c) || h) ≡ (mode_of x).m_in
  pub hiz : h ≡ (mode_of x).hiz

-- no two at once, but SAMPLE and PRELOAD
abbrev apart8 : Bool → Bool → Bool → Bool → Bool → Bool → Bool → Bool → Bool
apart8 b e s p i h c u = not (b && e) && (not (b && s) && (not (b && p) && (not (b && i) && (not (b && h) && (not (b && c) && (not (b && u) && (not (e && s) && (not (e && p) && (not (e && i) && (not (e && h) && (not (e && c) && (not (e && u) && (not (s && i) && (not (s && h) && (not (s && c) && (not (s && u) && (not (p && i) && (not (p && h) && (not (p && c) && (not (p && u) && (not (i && h) && (not (i && c) && (not (i && u) && (not (h && c) && (not (h && u) && (not (c && u)))))))))))))))))))))))))))

decoded : (b e s p i h c u : Bool) → apart8 b e s p i h c u ≡ true → Decoded e s p i h c u (chosen b e s p i h c u)
decoded false false false false false false false false apart = record { boundary = refl; bypass = refl; ident = refl; user = refl; extest = refl; m_out = refl; m_in = refl; hiz = refl }
decoded true false false false false false false false apart = record { boundary = refl; bypass = refl; ident = refl; user = refl; extest = refl; m_out = refl; m_in = refl; hiz = refl }
decoded false true false false false false false false apart = record { boundary = refl; bypass = refl; ident = refl; user = refl; extest = refl; m_out = refl; m_in = refl; hiz = refl }
decoded false false true false false false false false apart = record { boundary = refl; bypass = refl; ident = refl; user = refl; extest = refl; m_out = refl; m_in = refl; hiz = refl }
decoded false false false true false false false false apart = record { boundary = refl; bypass = refl; ident = refl; user = refl; extest = refl; m_out = refl; m_in = refl; hiz = refl }
decoded false false false false true false false false apart = record { boundary = refl; bypass = refl; ident = refl; user = refl; extest = refl; m_out = refl; m_in = refl; hiz = refl }
decoded false false false false false true false false apart = record { boundary = refl; bypass = refl; ident = refl; user = refl; extest = refl; m_out = refl; m_in = refl; hiz = refl }
decoded false false false false false false true false apart = record { boundary = refl; bypass = refl; ident = refl; user = refl; extest = refl; m_out = refl; m_in = refl; hiz = refl }
decoded false false false false false false false true apart = record { boundary = refl; bypass = refl; ident = refl; user = refl; extest = refl; m_out = refl; m_in = refl; hiz = refl }
decoded false false true true false false false false apart = record { boundary = refl; bypass = refl; ident = refl; user = refl; extest = refl; m_out = refl; m_in = refl; hiz = refl }
decoded b e s p i h c u apart = absurd (false≢true apart)

nand : (x y : Bool) → (x ≡ true → y ≡ true → ⊥) → not (x && y) ≡ true
nand false y apart = refl
nand true false apart = refl
nand true true apart = absurd (apart refl refl)

-- a pattern that is latched is that pattern
same_bit : (x y : Sig) → is_same_bit x y ≡ true → x ≡ y
same_bit Zero Zero e = refl
same_bit One One e = refl
same_bit Zero One e = absurd (false≢true e)
same_bit Zero Unknown e = absurd (false≢true e)
same_bit One Zero e = absurd (false≢true e)
same_bit One Unknown e = absurd (false≢true e)
same_bit Unknown y e = absurd (false≢true e)

same_pattern : (xs ys : List Sig) → is_pattern xs ys ≡ true → xs ≡ ys
same_pattern [] [] e = refl
same_pattern [] (y ∷ ys) e = absurd (false≢true e)
same_pattern (x ∷ xs) [] e = absurd (false≢true e)
same_pattern (x ∷ xs) (y ∷ ys) e =
    let two = both_true (is_same_bit x y) (is_pattern xs ys) e in
    ap (λ (z : Sig). z ∷ xs) (same_bit x y two.0) ∙ ap (λ (zs : List Sig). y ∷ zs) (same_pattern xs ys two.1)

shared : (opcodes : List Opcode) (latched : List Sig) (i j : Instr) (a b : Option Bits) → AreApart opcodes → opcode_of opcodes i ≡ a → opcode_of opcodes j ≡ b
    → is_opcode latched a ≡ true → is_opcode latched b ≡ true → IsTrue (may_share i j)
shared opcodes latched i j None b apart ea eb x y = absurd (false≢true x)
shared opcodes latched i j (Some a) None apart ea eb x y = absurd (false≢true y)
shared opcodes latched i j (Some a) (Some b) apart ea eb x y =
    apart.each i j a b ea eb (sym (same_pattern latched (pattern a) x) ∙ same_pattern latched (pattern b) y)

pub instruction_is : (opcodes : List Opcode) (latched : List Sig) → AreApart opcodes
    → Decoded (is_opcode latched (opcode_of opcodes Extest)) (is_opcode latched (opcode_of opcodes Sample)) (is_opcode latched (opcode_of opcodes Preload))
    (is_opcode latched (opcode_of opcodes Idcode)) (is_opcode latched (opcode_of opcodes Highz)) (is_opcode latched (opcode_of opcodes Clamp))
    (is_opcode latched (opcode_of opcodes Usercode)) (instruction_of opcodes latched)
unfolding instruction_of
instruction_is opcodes latched apart =
    decoded (named Bypass) (named Extest) (named Sample) (named Preload) (named Idcode) (named Highz) (named Clamp) (named Usercode) all_apart
  where
    named : Instr → Bool
    named x = is_opcode latched (opcode_of opcodes x)

    differ : (i j : Instr) → may_share i j ≡ false → named i ≡ true → named j ≡ true → ⊥
    differ i j e x y = false≢true (sym e ∙ shared opcodes latched i j (opcode_of opcodes i) (opcode_of opcodes j) apart refl refl x y)

    all_apart : apart8 (named Bypass) (named Extest) (named Sample) (named Preload) (named Idcode) (named Highz) (named Clamp) (named Usercode) ≡ true
    all_apart = and_true _ _ (nand (named Bypass) (named Extest) (differ Bypass Extest refl)) (and_true _ _ (nand (named Bypass) (named Sample) (differ Bypass Sample refl)) (and_true _ _ (nand (named Bypass) (named Preload) (differ Bypass Preload refl)) (and_true _ _ (nand (named Bypass) (named Idcode) (differ Bypass Idcode refl)) (and_true _ _ (nand (named Bypass) (named Highz) (differ Bypass Highz refl)) (and_true _ _ (nand (named Bypass) (named Clamp) (differ Bypass Clamp refl)) (and_true _ _ (nand (named Bypass) (named Usercode) (differ Bypass Usercode refl)) (and_true _ _ (nand (named Extest) (named Sample) (differ Extest Sample refl)) (and_true _ _ (nand (named Extest) (named Preload) (differ Extest Preload refl)) (and_true _ _ (nand (named Extest) (named Idcode) (differ Extest Idcode refl)) (and_true _ _ (nand (named Extest) (named Highz) (differ Extest Highz refl)) (and_true _ _ (nand (named Extest) (named Clamp) (differ Extest Clamp refl)) (and_true _ _ (nand (named Extest) (named Usercode) (differ Extest Usercode refl)) (and_true _ _ (nand (named Sample) (named Idcode) (differ Sample Idcode refl)) (and_true _ _ (nand (named Sample) (named Highz) (differ Sample Highz refl)) (and_true _ _ (nand (named Sample) (named Clamp) (differ Sample Clamp refl)) (and_true _ _ (nand (named Sample) (named Usercode) (differ Sample Usercode refl)) (and_true _ _ (nand (named Preload) (named Idcode) (differ Preload Idcode refl)) (and_true _ _ (nand (named Preload) (named Highz) (differ Preload Highz refl)) (and_true _ _ (nand (named Preload) (named Clamp) (differ Preload Clamp refl)) (and_true _ _ (nand (named Preload) (named Usercode) (differ Preload Usercode refl)) (and_true _ _ (nand (named Idcode) (named Highz) (differ Idcode Highz refl)) (and_true _ _ (nand (named Idcode) (named Clamp) (differ Idcode Clamp refl)) (and_true _ _ (nand (named Idcode) (named Usercode) (differ Idcode Usercode refl)) (and_true _ _ (nand (named Highz) (named Clamp) (differ Highz Clamp refl)) (and_true _ _ (nand (named Highz) (named Usercode) (differ Highz Usercode refl)) (nand (named Clamp) (named Usercode) (differ Clamp Usercode refl)))))))))))))))))))))))))))
