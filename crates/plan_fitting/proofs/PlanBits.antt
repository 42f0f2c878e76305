-- The bits of a plan that some text spells: opcodes, what the instruction register captures, and the usercode.
use Rattle.std.proofs.Common.{◌≡◌, ℕ, ◌+◌, ◌-◌, ◌*◌, ◌^◌, ◌<◌, ◌≤◌, List, [], ◌∷◌, true, length, map, Option, Some, None, option_map, filter_map, sym, subst, arith, leb-true}
use Rattle.std.specs.Prelude.{◌==◌, ◌||◌, ◌&&◌, nat_le, IfSome}
use Rattle.std.specs.List.{list_all, cons_option, AllByRecursion}
use Rattle.std.proofs.lemmas.List.Elements.{recursion_from_All}
use Rattle.std.proofs.Math.Nat.{pow-le-pow_right}
use Rattle.list_laws.proofs.Tests.{and_left, and_right}
use Rattle.list_laws.proofs.Digits.{value_below}
use Rattle.cell_library.specs.declared.codes.Instr.{Instr}
use Rattle.cell_library.specs.declared.codes.Opcode.{Opcode}
use Rattle.bsdl_device.specs.declared.entries.OpcodeEntry.{OpcodeEntry}
use Rattle.bsdl_device.specs.Runs.{is_pattern, value_after}
use Rattle.bsdl_device.specs.IsDevice.{IsBits, IsUsercode}
use Rattle.plan_texts.specs.declared.plan.Plan.{Plan}
use Rattle.plan_texts.specs.Forms.{bits_of}
use Rattle.plan_texts.specs.Rules.{instructions_of, instruction_of}
use Rattle.plan_texts.specs.Meaning.{typed, value_of, plan_of}
use Rattle.plan_texts.specs.Grammar.{PlanSource, IsSource, OpcodeWords, IsOpcode, IsUserIf, entry_of, written_of}
use Rattle.plan_texts.specs.Canonical.{IsPlan}

pattern_bits : (word : List ℕ) → is_pattern word ≡ true → IsBits (bits_of word)
pattern_bits word h =
    let within = and_left (nat_le 1 (length word) && nat_le (length word) 32) (list_all (λ b. b == 48 || b == 49) word) h in
    let below : value_after 2 0 word + 1 ≤ (0 + 1) * 2 ^ length word = value_below 0 word (and_right (nat_le 1 (length word) && nat_le (length word) 32) (list_all (λ b. b == 48 || b == 49) word) h) in
    record {
      some = leb-true 1 (length word) (and_left (nat_le 1 (length word)) (nat_le (length word) 32) within);
      few = leb-true (length word) 32 (and_right (nat_le 1 (length word)) (nat_le (length word) 32) within);
      value = omega arith;
    }

abbrev AreBits : List Opcode → Type 0
AreBits opcodes = AllByRecursion (λ (o : Opcode). IsBits o.bits) opcodes

opcode_bits : (o : OpcodeEntry) (found : Option Instr) (opcodes : List Opcode) → IsBits o.bits → AreBits opcodes
    → AreBits (cons_option (option_map (λ (i : Instr). let one : Opcode = record { instr = i; bits = o.bits } in one) found) opcodes)
opcode_bits o None opcodes is more = more
opcode_bits o (Some i) opcodes is more = (is, more)

opcodes_bits : (profile : List Instr) (list : List OpcodeWords) → AllByRecursion IsOpcode list → AreBits (filter_map (typed profile) (map entry_of list))
opcodes_bits profile [] all = tt
opcodes_bits profile (o ∷ list) all =
    opcode_bits (entry_of o) (instruction_of profile o.name) (filter_map (typed profile) (map entry_of list)) (pattern_bits o.bits all.0.bits) (opcodes_bits profile list all.1)

user_bits : (version : ℕ) (user : Option (List ℕ)) → IsUserIf version user → IfSome (option_map value_of (option_map bits_of user)) IsUsercode
user_bits version None is = tt
user_bits version (Some word) is =
    let bits = pattern_bits word is.0 in
    let most : 2 ^ length word ≤ 2 ^ 32 = pow-le-pow_right {n = 2} (omega arith) {i = length word} {j = 32} bits.few in
    let below : value_after 2 0 word < 2 ^ length word = bits.value in
    omega arith

pub record HasBits (p : Plan) : Type 0 where
  pub values : AllByRecursion (λ (o : Opcode). IsBits o.bits) p.opcodes
  pub captured : IsBits p.capture
  pub user : IfSome p.usercode IsUsercode

source_has_bits : (s : PlanSource) → IsSource s → HasBits (plan_of (written_of s))
source_has_bits s is = record {
  values = opcodes_bits (instructions_of (written_of s).names.version) s.opcodes (recursion_from_All IsOpcode s.opcodes is.opcodes);
  captured = pattern_bits s.capture is.capture;
  user = user_bits (written_of s).names.version s.usercode is.usercode;
}

pub plans_have_bits : (p : Plan) → IsPlan p → HasBits p
plans_have_bits p (bytes, spells) = subst HasBits (sym spells.plan_is) (source_has_bits spells.source spells.forms)
