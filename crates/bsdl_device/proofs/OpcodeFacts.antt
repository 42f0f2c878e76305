-- Opcodes and registers of the canonical text.
use Rattle.std.proofs.Common.{◌≡◌, ℕ, List, [], ◌∷◌, Bool, false, Option, Some, None, map, refl, sym, ap, ◌∙◌}
use Rattle.std.specs.Prelude.{◌||◌, ◌&&◌, ◌==◌, ◌-◌, ◌^◌, not, is_none}
use Rattle.std.specs.List.{list_any, filter_map, cons_option}
use Rattle.std.specs.Option.{option_map}
use Rattle.list_laws.proofs.Tests.{or_first, or_second}
use Rattle.list_laws.proofs.Options.{found}
use Rattle.list_laws.proofs.Lists.{any_same, any_map}
use Rattle.cell_library.specs.declared.codes.Instr.{Instr}
use Rattle.cell_library.specs.declared.codes.Instr.TheVariants as instr
use Rattle.cell_library.specs.declared.codes.Opcode.{Opcode}
use Rattle.bsdl_lexicon.specs.Names.{same_name, is_same_name}
use Rattle.bsdl_lexicon.proofs.SameNames.{same_name-true}
use Rattle.bsdl_device.specs.declared.entries.OpcodeEntry.{OpcodeEntry}
use Rattle.bsdl_device.specs.Instructions.{instruction_word, instruction_named, names_instruction, all_instructions, same_bits, is_instruction}
use Rattle.bsdl_device.specs.Checks.{any_pair, has_instruction, opcode_is_unknown, opcode_named_twice, lacks_instruction, has_other_length, bypass_is_not_ones, are_sample_and_preload, opcodes_clash}
use Rattle.bsdl_device.specs.Denoted.{opcode_of}
use Rattle.bsdl_device.specs.Canonical.{has_opcode}
use Rattle.bsdl_device.proofs.Pairs.{pair-map, pair_same}
use Rattle.bsdl_device.proofs.RoundTripNames.{same_left, same_right, find_same}
use Rattle.bsdl_device.proofs.Rebuilt.{opcode_entry}

-- One opcode.

pub named_again : (i : Instr) → instruction_named (instruction_word i) ≡ Some i
named_again instr.Bypass = refl
named_again instr.Extest = refl
named_again instr.Sample = refl
named_again instr.Preload = refl
named_again instr.Idcode = refl
named_again instr.Highz = refl
named_again instr.Clamp = refl
named_again instr.Usercode = refl

-- an instruction's name in its own spelling; an unknown name as it is
abbrev own_name : Option Instr → List ℕ → List ℕ
own_name None name = name
own_name (Some i) name = instruction_word i

abbrev pub respelled : OpcodeEntry → OpcodeEntry
respelled o = record { name = own_name (instruction_named o.name) o.name; bits = o.bits }

own_same : (name : List ℕ) → same_name (own_name (instruction_named name) name) name
own_same name = by (instruction_named name) refl
  where
    by : (o : Option Instr) → instruction_named name ≡ o → same_name (own_name o name) name
    by None is = refl
    by (Some i) is = sym (same_name-true name (instruction_word i) (found (λ j. names_instruction j name) all_instructions i is))

names_same : (i : Instr) (o : OpcodeEntry) → names_instruction i (respelled o).name ≡ names_instruction i o.name
names_same i o = same_left (own_name (instruction_named o.name) o.name) o.name (instruction_word i) (own_same o.name)

named_same : (o : OpcodeEntry) → instruction_named (respelled o).name ≡ instruction_named o.name
named_same o = find_same (λ i. names_instruction i (respelled o).name) (λ i. names_instruction i o.name) (λ i. names_same i o) all_instructions

-- Lists.

-- the opcodes of the canonical text are those of the file, respelled
pub opcodes_respelled : (opcodes : List OpcodeEntry) → list_any opcode_is_unknown opcodes ≡ false → map opcode_entry (filter_map opcode_of opcodes) ≡ map respelled opcodes
opcodes_respelled [] h = refl
opcodes_respelled (o ∷ os) h = by (instruction_named o.name) (or_first (opcode_is_unknown o) (list_any opcode_is_unknown os) h) (opcodes_respelled os (or_second (opcode_is_unknown o) (list_any opcode_is_unknown os) h))
  where
    by : (seen : Option Instr) → is_none seen ≡ false → map opcode_entry (filter_map opcode_of os) ≡ map respelled os
        → map opcode_entry (cons_option (option_map (λ i. let opcode : Opcode = record { instr = i; bits = o.bits } in opcode) seen) (filter_map opcode_of os)) ≡ record { name = own_name seen o.name; bits = o.bits } ∷ map respelled os
    by None k rest = absurd (cc)
    by (Some i) k rest = ap (λ (l : List OpcodeEntry). record { name = instruction_word i; bits = o.bits } ∷ l) rest

any_respelled : (test : OpcodeEntry → Bool) → ((o : OpcodeEntry) → test (respelled o) ≡ test o) → (os : List OpcodeEntry) → list_any test (map respelled os) ≡ list_any test os
any_respelled test same os = any_map test respelled os ∙ any_same (λ o. test (respelled o)) test same os

pair_respelled : (test : OpcodeEntry → OpcodeEntry → Bool) → ((o p : OpcodeEntry) → test (respelled o) (respelled p) ≡ test o p) → (os : List OpcodeEntry) → any_pair test (map respelled os) ≡ any_pair test os
pair_respelled test same os = pair-map test respelled os ∙ pair_same (λ o p. test (respelled o) (respelled p)) test same os

pub unknown_same : (os : List OpcodeEntry) → list_any opcode_is_unknown (map respelled os) ≡ list_any opcode_is_unknown os
unknown_same os = any_respelled opcode_is_unknown (λ o. ap is_none (named_same o)) os

pub has_same : (i : Instr) (os : List OpcodeEntry) → has_instruction (map respelled os) i ≡ has_instruction os i
has_same i os = any_respelled (λ o. names_instruction i o.name) (names_same i) os

pub twice_same : (os : List OpcodeEntry) → opcode_named_twice (map respelled os) ≡ opcode_named_twice os
twice_same os =
    pair-map is_same_name (λ (o : OpcodeEntry). o.name) (map respelled os)
    ∙ pair_respelled (λ o p. is_same_name o.name p.name) (λ o p. same_left (respelled o).name o.name (respelled p).name (own_same o.name) ∙ same_right (respelled p).name p.name o.name (own_same p.name)) os
    ∙ sym (pair-map is_same_name (λ (o : OpcodeEntry). o.name) os)

pub lacks_same : (os : List OpcodeEntry) → lacks_instruction (map respelled os) ≡ lacks_instruction os
lacks_same os = any_same (λ i. not (has_instruction (map respelled os) i)) (λ i. not (has_instruction os i)) (λ i. ap not (has_same i os)) (instr.Extest ∷ instr.Sample ∷ instr.Preload ∷ instr.Bypass ∷ [])

pub length_same : (wanted : ℕ) (os : List OpcodeEntry) → list_any (λ (o : OpcodeEntry). has_other_length wanted o.bits) (map respelled os) ≡ list_any (λ (o : OpcodeEntry). has_other_length wanted o.bits) os
length_same wanted os = any_respelled (λ (o : OpcodeEntry). has_other_length wanted o.bits) (λ o. refl) os

pub ones_same : (os : List OpcodeEntry) → list_any bypass_is_not_ones (map respelled os) ≡ list_any bypass_is_not_ones os
ones_same os = any_respelled bypass_is_not_ones (λ o. ap (λ (b : Bool). b && not (o.bits.value == 2 ^ o.bits.len - 1)) (names_same instr.Bypass o)) os

four : Bool → Bool → Bool → Bool → Bool
four a b c d = (a && b) || (c && d)

sample_same : (o p : OpcodeEntry) → are_sample_and_preload (respelled o) (respelled p) ≡ are_sample_and_preload o p
unfolding four
sample_same o p =
    ap (λ (x : Bool). four x (names_instruction instr.Preload (respelled p).name) (names_instruction instr.Preload (respelled o).name) (names_instruction instr.Sample (respelled p).name)) (names_same instr.Sample o)
    ∙ ap (λ (x : Bool). four (names_instruction instr.Sample o.name) x (names_instruction instr.Preload (respelled o).name) (names_instruction instr.Sample (respelled p).name)) (names_same instr.Preload p)
    ∙ ap (λ (x : Bool). four (names_instruction instr.Sample o.name) (names_instruction instr.Preload p.name) x (names_instruction instr.Sample (respelled p).name)) (names_same instr.Preload o)
    ∙ ap (λ (x : Bool). four (names_instruction instr.Sample o.name) (names_instruction instr.Preload p.name) (names_instruction instr.Preload o.name) x) (names_same instr.Sample p)

pub clash_same : (os : List OpcodeEntry) → any_pair opcodes_clash (map respelled os) ≡ any_pair opcodes_clash os
clash_same os = pair_respelled opcodes_clash (λ o p. ap (λ (b : Bool). same_bits o.bits p.bits && not b) (sample_same o p)) os

-- The opcodes again.

pub opcodes_again : (opcodes : List Opcode) → filter_map opcode_of (map opcode_entry opcodes) ≡ opcodes
opcodes_again [] = refl
opcodes_again (o ∷ os) =
    ap (λ (seen : Option Instr). cons_option (option_map (λ i. let opcode : Opcode = record { instr = i; bits = o.bits } in opcode) seen) (filter_map opcode_of (map opcode_entry os))) (named_again o.instr)
    ∙ ap (λ (l : List Opcode). o ∷ l) (opcodes_again os)

-- Which instructions there are.

-- an instruction's own name is another's just where they are one
word_of_one : (i j : Instr) → names_instruction i (instruction_word j) ≡ is_instruction i j
word_of_one instr.Bypass j = elim j as (λ v. names_instruction instr.Bypass (instruction_word v) ≡ is_instruction instr.Bypass v) [ instr.Bypass ↦ refl | instr.Extest ↦ refl | instr.Sample ↦ refl | instr.Preload ↦ refl | instr.Idcode ↦ refl | instr.Highz ↦ refl | instr.Clamp ↦ refl | instr.Usercode ↦ refl ]
word_of_one instr.Extest j = elim j as (λ v. names_instruction instr.Extest (instruction_word v) ≡ is_instruction instr.Extest v) [ instr.Bypass ↦ refl | instr.Extest ↦ refl | instr.Sample ↦ refl | instr.Preload ↦ refl | instr.Idcode ↦ refl | instr.Highz ↦ refl | instr.Clamp ↦ refl | instr.Usercode ↦ refl ]
word_of_one instr.Sample j = elim j as (λ v. names_instruction instr.Sample (instruction_word v) ≡ is_instruction instr.Sample v) [ instr.Bypass ↦ refl | instr.Extest ↦ refl | instr.Sample ↦ refl | instr.Preload ↦ refl | instr.Idcode ↦ refl | instr.Highz ↦ refl | instr.Clamp ↦ refl | instr.Usercode ↦ refl ]
word_of_one instr.Preload j = elim j as (λ v. names_instruction instr.Preload (instruction_word v) ≡ is_instruction instr.Preload v) [ instr.Bypass ↦ refl | instr.Extest ↦ refl | instr.Sample ↦ refl | instr.Preload ↦ refl | instr.Idcode ↦ refl | instr.Highz ↦ refl | instr.Clamp ↦ refl | instr.Usercode ↦ refl ]
word_of_one instr.Idcode j = elim j as (λ v. names_instruction instr.Idcode (instruction_word v) ≡ is_instruction instr.Idcode v) [ instr.Bypass ↦ refl | instr.Extest ↦ refl | instr.Sample ↦ refl | instr.Preload ↦ refl | instr.Idcode ↦ refl | instr.Highz ↦ refl | instr.Clamp ↦ refl | instr.Usercode ↦ refl ]
word_of_one instr.Highz j = elim j as (λ v. names_instruction instr.Highz (instruction_word v) ≡ is_instruction instr.Highz v) [ instr.Bypass ↦ refl | instr.Extest ↦ refl | instr.Sample ↦ refl | instr.Preload ↦ refl | instr.Idcode ↦ refl | instr.Highz ↦ refl | instr.Clamp ↦ refl | instr.Usercode ↦ refl ]
word_of_one instr.Clamp j = elim j as (λ v. names_instruction instr.Clamp (instruction_word v) ≡ is_instruction instr.Clamp v) [ instr.Bypass ↦ refl | instr.Extest ↦ refl | instr.Sample ↦ refl | instr.Preload ↦ refl | instr.Idcode ↦ refl | instr.Highz ↦ refl | instr.Clamp ↦ refl | instr.Usercode ↦ refl ]
word_of_one instr.Usercode j = elim j as (λ v. names_instruction instr.Usercode (instruction_word v) ≡ is_instruction instr.Usercode v) [ instr.Bypass ↦ refl | instr.Extest ↦ refl | instr.Sample ↦ refl | instr.Preload ↦ refl | instr.Idcode ↦ refl | instr.Highz ↦ refl | instr.Clamp ↦ refl | instr.Usercode ↦ refl ]

pub has_by_opcode : (i : Instr) (opcodes : List Opcode) → has_instruction (map opcode_entry opcodes) i ≡ has_opcode opcodes i
unfolding has_opcode
has_by_opcode i opcodes = any_map (λ (o : OpcodeEntry). names_instruction i o.name) opcode_entry opcodes ∙ any_same (λ (o : Opcode). names_instruction i (instruction_word o.instr)) (λ (o : Opcode). is_instruction i o.instr) (λ o. word_of_one i o.instr) opcodes
