-- The registers of the canonical text, with the instructions that the device has.
use Rattle.std.proofs.Common.{◌≡◌, List, [], ◌∷◌, ◌++◌, Bool, true, false, cond, map, refl, sym, ap, subst, ◌∙◌}
use Rattle.std.specs.Prelude.{◌||◌, not}
use Rattle.std.specs.List.{list_any, list_all, filter}
use Rattle.std.proofs.lemmas.List.Folds.{list_any-append}
use Rattle.list_laws.proofs.Tests.{not_false, or_first, or_second, neither}
use Rattle.list_laws.proofs.Lists.{any_same}
use Rattle.cell_library.specs.declared.codes.Instr.{Instr}
use Rattle.cell_library.specs.declared.codes.Instr.TheVariants as instr
use Rattle.cell_library.specs.declared.codes.Opcode.{Opcode}
use Rattle.bsdl_lexicon.specs.Names.{is_same_name}
use Rattle.bsdl_lexicon.proofs.SameNames.{same_turned}
use Rattle.bsdl_device.specs.declared.entries.OpcodeEntry.{OpcodeEntry}
use Rattle.bsdl_device.specs.declared.entries.AccessEntry.{AccessEntry}
use Rattle.bsdl_device.specs.declared.entries.Register.TheVariants as register
use Rattle.bsdl_device.specs.Patterns.{is_filled}
use Rattle.bsdl_device.specs.Grammar.{IsAccess}
use Rattle.bsdl_device.specs.Instructions.{instruction_word, names_instruction}
use Rattle.bsdl_device.specs.Checks.{is_repeated, has_instruction, lacks_instruction, instructions_of, is_without_opcode, selects_other}
use Rattle.bsdl_device.specs.Canonical.{has_opcode}
use Rattle.bsdl_device.proofs.Rebuilt.{opcode_entry, present, device_id_entries, access_entries}
use Rattle.bsdl_device.proofs.OpcodeFacts.{has_by_opcode}

-- the instructions that each device has
pub record HasAll (opcodes : List Opcode) : Type 0 where
  pub extest : has_opcode opcodes instr.Extest ≡ true
  pub sample : has_opcode opcodes instr.Sample ≡ true
  pub preload : has_opcode opcodes instr.Preload ≡ true
  pub bypass : has_opcode opcodes instr.Bypass ≡ true

pub has_all : (opcodes : List Opcode) → lacks_instruction (map opcode_entry opcodes) ≡ false → HasAll opcodes
has_all opcodes h =
    let a = not (has_instruction (map opcode_entry opcodes) instr.Extest) in
    let b = not (has_instruction (map opcode_entry opcodes) instr.Sample) in
    let c = not (has_instruction (map opcode_entry opcodes) instr.Preload) in
    let d = not (has_instruction (map opcode_entry opcodes) instr.Bypass) in
    let past_a : (b || (c || (d || false))) ≡ false = or_second a (b || (c || (d || false))) h in
    let past_b : (c || (d || false)) ≡ false = or_second b (c || (d || false)) past_a in
    record {
      extest = sym (has_by_opcode instr.Extest opcodes) ∙ not_false (has_instruction (map opcode_entry opcodes) instr.Extest) (or_first a (b || (c || (d || false))) h);
      sample = sym (has_by_opcode instr.Sample opcodes) ∙ not_false (has_instruction (map opcode_entry opcodes) instr.Sample) (or_first b (c || (d || false)) past_a);
      preload = sym (has_by_opcode instr.Preload opcodes) ∙ not_false (has_instruction (map opcode_entry opcodes) instr.Preload) (or_first c (d || false) past_b);
      bypass = sym (has_by_opcode instr.Bypass opcodes) ∙ not_false (has_instruction (map opcode_entry opcodes) instr.Bypass) (or_first d false (or_second c (d || false) past_b));
    }

-- The entries by what is there.

abbrev kept_by : Bool → Instr → List Instr → List Instr
kept_by b i more = cond b (i ∷ more) more

abbrev entries_by : Bool → Bool → Bool → Bool → Bool → Bool → Bool → Bool → List AccessEntry
entries_by e s p b h c i u =
    record { register = register.Boundary; instructions = map instruction_word (cond e (instr.Extest ∷ cond s (instr.Sample ∷ cond p (instr.Preload ∷ []) []) (cond p (instr.Preload ∷ []) [])) (cond s (instr.Sample ∷ cond p (instr.Preload ∷ []) []) (cond p (instr.Preload ∷ []) []))) }
    ∷ record { register = register.Bypass; instructions = map instruction_word (cond b (instr.Bypass ∷ cond h (instr.Highz ∷ cond c (instr.Clamp ∷ []) []) (cond c (instr.Clamp ∷ []) [])) (cond h (instr.Highz ∷ cond c (instr.Clamp ∷ []) []) (cond c (instr.Clamp ∷ []) []))) }
    ∷ device_id_entries i u

by_entries : (opcodes : List Opcode) → HasAll opcodes → access_entries opcodes ≡ entries_by true true true true (has_opcode opcodes instr.Highz) (has_opcode opcodes instr.Clamp) (has_opcode opcodes instr.Idcode) (has_opcode opcodes instr.Usercode)
by_entries opcodes all =
    ap (λ x. entries_by x (has_opcode opcodes instr.Sample) (has_opcode opcodes instr.Preload) (has_opcode opcodes instr.Bypass) (has_opcode opcodes instr.Highz) (has_opcode opcodes instr.Clamp) (has_opcode opcodes instr.Idcode) (has_opcode opcodes instr.Usercode)) all.extest
    ∙ ap (λ x. entries_by true x (has_opcode opcodes instr.Preload) (has_opcode opcodes instr.Bypass) (has_opcode opcodes instr.Highz) (has_opcode opcodes instr.Clamp) (has_opcode opcodes instr.Idcode) (has_opcode opcodes instr.Usercode)) all.sample
    ∙ ap (λ x. entries_by true true x (has_opcode opcodes instr.Bypass) (has_opcode opcodes instr.Highz) (has_opcode opcodes instr.Clamp) (has_opcode opcodes instr.Idcode) (has_opcode opcodes instr.Usercode)) all.preload
    ∙ ap (λ x. entries_by true true true x (has_opcode opcodes instr.Highz) (has_opcode opcodes instr.Clamp) (has_opcode opcodes instr.Idcode) (has_opcode opcodes instr.Usercode)) all.bypass

-- what no device's registers break
record Right (list : List AccessEntry) : Type 0 where
  pub once : is_repeated (instructions_of list) ≡ false
  pub own : list_any (λ (a : AccessEntry). list_any (selects_other a.register) a.instructions) list ≡ false
  pub filled : list_all (λ (a : AccessEntry). is_filled a.instructions) list ≡ true

right_by : (h c i u : Bool) → Right (entries_by true true true true h c i u)
right_by true true true true = record { once = refl; own = refl; filled = refl }
right_by true true true false = record { once = refl; own = refl; filled = refl }
right_by true true false true = record { once = refl; own = refl; filled = refl }
right_by true true false false = record { once = refl; own = refl; filled = refl }
right_by true false true true = record { once = refl; own = refl; filled = refl }
right_by true false true false = record { once = refl; own = refl; filled = refl }
right_by true false false true = record { once = refl; own = refl; filled = refl }
right_by true false false false = record { once = refl; own = refl; filled = refl }
right_by false true true true = record { once = refl; own = refl; filled = refl }
right_by false true true false = record { once = refl; own = refl; filled = refl }
right_by false true false true = record { once = refl; own = refl; filled = refl }
right_by false true false false = record { once = refl; own = refl; filled = refl }
right_by false false true true = record { once = refl; own = refl; filled = refl }
right_by false false true false = record { once = refl; own = refl; filled = refl }
right_by false false false true = record { once = refl; own = refl; filled = refl }
right_by false false false false = record { once = refl; own = refl; filled = refl }

right : (opcodes : List Opcode) → HasAll opcodes → Right (access_entries opcodes)
right opcodes all = subst (λ (l : List AccessEntry). Right l) (sym (by_entries opcodes all)) (right_by (has_opcode opcodes instr.Highz) (has_opcode opcodes instr.Clamp) (has_opcode opcodes instr.Idcode) (has_opcode opcodes instr.Usercode))

pub is_access : (opcodes : List Opcode) → HasAll opcodes → IsAccess (access_entries opcodes)
is_access opcodes all = record { filled = refl; instructions = (right opcodes all).filled }

-- Each has an opcode.

with_opcode : (opcodes : List Opcode) (i : Instr) → has_opcode opcodes i ≡ true → is_without_opcode (map opcode_entry opcodes) (instruction_word i) ≡ false
with_opcode opcodes i h = ap not (
    any_same (λ (o : OpcodeEntry). is_same_name (instruction_word i) o.name) (λ (o : OpcodeEntry). names_instruction i o.name) (λ o. same_turned (instruction_word i) o.name) (map opcode_entry opcodes)
    ∙ has_by_opcode i opcodes ∙ h)

present_have : (opcodes : List Opcode) (list : List Instr) → list_any (is_without_opcode (map opcode_entry opcodes)) (present opcodes list) ≡ false
present_have opcodes [] = refl
present_have opcodes (i ∷ is) = by (has_opcode opcodes i) refl (present_have opcodes is)
  where
    by : (b : Bool) → has_opcode opcodes i ≡ b → list_any (is_without_opcode (map opcode_entry opcodes)) (present opcodes is) ≡ false
        → list_any (is_without_opcode (map opcode_entry opcodes)) (map instruction_word (cond b (i ∷ filter (has_opcode opcodes) is) (filter (has_opcode opcodes) is))) ≡ false
    by true h rest = neither (is_without_opcode (map opcode_entry opcodes) (instruction_word i)) (list_any (is_without_opcode (map opcode_entry opcodes)) (present opcodes is)) (with_opcode opcodes i h) rest
    by false h rest = rest

device_id_has : (opcodes : List Opcode) (b u : Bool) → has_opcode opcodes instr.Idcode ≡ b → has_opcode opcodes instr.Usercode ≡ u → list_any (is_without_opcode (map opcode_entry opcodes)) (instructions_of (device_id_entries b u)) ≡ false
device_id_has opcodes true true h k =
    neither (is_without_opcode (map opcode_entry opcodes) (instruction_word instr.Idcode)) _ (with_opcode opcodes instr.Idcode h)
    (neither (is_without_opcode (map opcode_entry opcodes) (instruction_word instr.Usercode)) false (with_opcode opcodes instr.Usercode k) refl)
device_id_has opcodes true false h k = neither (is_without_opcode (map opcode_entry opcodes) (instruction_word instr.Idcode)) false (with_opcode opcodes instr.Idcode h) refl
device_id_has opcodes false u h k = refl

all_have : (opcodes : List Opcode) → list_any (is_without_opcode (map opcode_entry opcodes)) (instructions_of (access_entries opcodes)) ≡ false
all_have opcodes =
    list_any-append (is_without_opcode (map opcode_entry opcodes)) (present opcodes (instr.Extest ∷ instr.Sample ∷ instr.Preload ∷ [])) (present opcodes (instr.Bypass ∷ instr.Highz ∷ instr.Clamp ∷ []) ++ instructions_of (device_id_entries (has_opcode opcodes instr.Idcode) (has_opcode opcodes instr.Usercode)))
    ∙ neither (list_any (is_without_opcode (map opcode_entry opcodes)) (present opcodes (instr.Extest ∷ instr.Sample ∷ instr.Preload ∷ []))) _ (present_have opcodes (instr.Extest ∷ instr.Sample ∷ instr.Preload ∷ []))
    (list_any-append (is_without_opcode (map opcode_entry opcodes)) (present opcodes (instr.Bypass ∷ instr.Highz ∷ instr.Clamp ∷ [])) (instructions_of (device_id_entries (has_opcode opcodes instr.Idcode) (has_opcode opcodes instr.Usercode)))
    ∙ neither (list_any (is_without_opcode (map opcode_entry opcodes)) (present opcodes (instr.Bypass ∷ instr.Highz ∷ instr.Clamp ∷ []))) _ (present_have opcodes (instr.Bypass ∷ instr.Highz ∷ instr.Clamp ∷ [])) (device_id_has opcodes (has_opcode opcodes instr.Idcode) (has_opcode opcodes instr.Usercode) refl refl))

pub registers_keep : (opcodes : List Opcode) → HasAll opcodes
    → (list_any (is_without_opcode (map opcode_entry opcodes)) (instructions_of (access_entries opcodes)) || is_repeated (instructions_of (access_entries opcodes)) || list_any (λ (a : AccessEntry). list_any (selects_other a.register) a.instructions) (access_entries opcodes)) ≡ false
registers_keep opcodes all =
    let r = right opcodes all in
    neither (list_any (is_without_opcode (map opcode_entry opcodes)) (instructions_of (access_entries opcodes)) || is_repeated (instructions_of (access_entries opcodes))) _
    (neither (list_any (is_without_opcode (map opcode_entry opcodes)) (instructions_of (access_entries opcodes))) _ (all_have opcodes) r.once) r.own
