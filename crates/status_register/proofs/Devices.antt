-- The device of what was fitted, with the registers, keeps the conditions of one that some text spells.
use Rattle.std.proofs.Common.{◌≡◌, ℕ, ◌^◌, ◌<◌, ◌≤◌, ◌==◌, List, [], ◌∷◌, ◌++◌, Bool, true, false, ◌&&◌, ◌||◌, nat_le, map, length, refl, sym, ap, subst, ◌∙◌, arith, leb-true}
use Rattle.std.specs.Prelude.{All}
use Rattle.std.specs.List.{list_any, list_all, AllByRecursion}
use Rattle.std.proofs.lemmas.List.{length-map}
use Rattle.std.proofs.lemmas.List.Elements.{All-head, All-tail}
use Rattle.list_laws.specs.Lists.{AreAll}
use Rattle.list_laws.proofs.Lists.{AreAll-length, any_map}
use Rattle.list_laws.proofs.Tests.{and_left, and_right}
use Rattle.cell_library.specs.declared.codes.Bits.{Bits}
use Rattle.bsdl_lexicon.specs.Names.{is_same_name}
use Rattle.bsdl_lexicon.specs.Pieces.{IsIdentifier}
use Rattle.bsdl_device.specs.declared.values.Device.{Device}
use Rattle.bsdl_device.specs.Instructions.{same_bits}
use Rattle.bsdl_device.specs.Checks.{any_pair}
use Rattle.bsdl_device.specs.IsDevice.{IsDeviceName}
use Rattle.bsdl_device.specs.Runs.{is_pattern}
use Rattle.bsdl_device.specs.declared.registers.values.TestRegister.{TestRegister}
use Rattle.bsdl_device.specs.IsExtended.{IsTestRegister}
use Rattle.bsdl_device.specs.Rules.{names_register, names_some_instruction}
use Rattle.netlist_link.specs.Linked.{LinkedView}
use Rattle.plan_fitting.specs.Devices.{device_of}
use Rattle.plan_fitting.specs.DevicesLaws.{PlansMakeDevices}
use Rattle.status_fitting.specs.declared.register_texts.plan.StatusRow.{StatusRow}
use Rattle.status_fitting.specs.declared.register_texts.plan.StatusPlan.{StatusPlan}
use Rattle.status_fitting.specs.Grammar.{RegisterWords, IsRegister as IsWritten, register_of as row_of}
use Rattle.status_fitting.specs.declared.fitted.FittedRegister.{FittedRegister}
use Rattle.status_fitting.specs.First.{Stands}
use Rattle.status_fitting.specs.Fitted.{IsRegister}
use Rattle.status_fitting.specs.Names.{Given, given_by, all_given, is_barred}
use Rattle.status_fitting.specs.Opcodes.{is_taken}
use Rattle.status_stitch.specs.Stands.{IsOwn}
use Rattle.status_stitch.specs.RealisedLaws.{FittedRegistersAreOwn}
use Rattle.status_stitch.proofs.Fitted.{names_stand, opcodes_stand}
use Rattle.status_register.specs.Devices.{register_of}
use Rattle.status_register.specs.Laws.{RegistersMakeDevices}
use Rattle.status_register.proofs.Free.{IsFreeRow, AreFreeRows, free_rows, names_apart, instrs_apart, free_opcodes, opcodes_apart}

-- Registers beside their lines: the same names, instructions and opcodes.

names_same : (L : LinkedView) (rows : List StatusRow) (rs : List FittedRegister) → AreAll (IsRegister L) rows rs
    → map (λ (r : TestRegister). r.name) (map register_of rs) ≡ map (λ (row : StatusRow). row.name) rows
names_same L [] [] are = refl
names_same L [] (r ∷ rs) are = absurd are
names_same L (row ∷ rows) [] are = absurd are
names_same L (row ∷ rows) (r ∷ rs) are =
    ap (λ (n : List ℕ). n ∷ map (λ (t : TestRegister). t.name) (map register_of rs)) are.0.name ∙ ap (λ (l : List (List ℕ)). row.name ∷ l) (names_same L rows rs are.1)

instrs_same : (L : LinkedView) (rows : List StatusRow) (rs : List FittedRegister) → AreAll (IsRegister L) rows rs
    → map (λ (r : TestRegister). r.instr) (map register_of rs) ≡ map (λ (row : StatusRow). row.instr) rows
instrs_same L [] [] are = refl
instrs_same L [] (r ∷ rs) are = absurd are
instrs_same L (row ∷ rows) [] are = absurd are
instrs_same L (row ∷ rows) (r ∷ rs) are =
    ap (λ (n : List ℕ). n ∷ map (λ (t : TestRegister). t.instr) (map register_of rs)) are.0.instr ∙ ap (λ (l : List (List ℕ)). row.instr ∷ l) (instrs_same L rows rs are.1)

bits_same : (L : LinkedView) (rows : List StatusRow) (rs : List FittedRegister) → AreAll (IsRegister L) rows rs
    → map (λ (r : TestRegister). r.bits) (map register_of rs) ≡ map (λ (row : StatusRow). row.bits) rows
bits_same L [] [] are = refl
bits_same L [] (r ∷ rs) are = absurd are
bits_same L (row ∷ rows) [] are = absurd are
bits_same L (row ∷ rows) (r ∷ rs) are =
    ap (λ (b : Bits). b ∷ map (λ (t : TestRegister). t.bits) (map register_of rs)) are.0.bits ∙ ap (λ (l : List Bits). row.bits ∷ l) (bits_same L rows rs are.1)

-- so what no two lines have, no two registers have
pairs_map : {A B : Type 0} (p : B → B → Bool) (f : A → B) (xs : List A) → any_pair p (map f xs) ≡ any_pair (λ x y. p (f x) (f y)) xs
pairs_map p f [] = refl
pairs_map p f (x ∷ xs) = ap (λ (b : Bool). b || any_pair p (map f xs)) (any_map (p (f x)) f xs) ∙ ap (λ (b : Bool). list_any (λ y. p (f x) (f y)) xs || b) (pairs_map p f xs)

apart_same : {B : Type 0} (p : B → B → Bool) (f : TestRegister → B) (g : StatusRow → B) (ts : List TestRegister) (rows : List StatusRow) → map f ts ≡ map g rows
    → any_pair (λ (r : StatusRow) (s : StatusRow). p (g r) (g s)) rows ≡ false → any_pair (λ (r : TestRegister) (s : TestRegister). p (f r) (f s)) ts ≡ false
apart_same p f g ts rows same apart = sym (pairs_map p f ts) ∙ ap (any_pair p) same ∙ pairs_map p g rows ∙ apart

-- One register.

record IsShort (word : List ℕ) : Type 0 where
  some : 1 ≤ length word
  few : length word ≤ 32

short_pattern : (word : List ℕ) → is_pattern word ≡ true → IsShort word
short_pattern word h =
    let within = and_left (nat_le 1 (length word) && nat_le (length word) 32) (list_all (λ b. b == 48 || b == 49) word) h in
    record {
      some = leb-true 1 (length word) (and_left (nat_le 1 (length word)) (nat_le (length word) 32) within);
      few = leb-true (length word) 32 (and_right (nat_le 1 (length word)) (nat_le (length word) 32) within);
    }

one_register : (L : LinkedView) (B : Device) (before : List Given) (written : RegisterWords) (r : FittedRegister) → IsWritten written → IsFreeRow before (row_of written) → IsOwn L.arena.lists B r
    → IsRegister L (row_of written) r → IsTestRegister B (register_of r)
one_register L B before written r form free own is =
    let short : IsShort written.bits = short_pattern written.bits form.bits in
    let long : r.register.bits.len ≡ length written.bits = ap (λ (b : Bits). b.len) is.bits in
    let count : r.register.length ≡ length written.words = is.count in
    let least : 1 ≤ length written.bits = short.some in
    let most : length written.bits ≤ 32 = short.few in
    let one : 1 ≤ length written.words = form.some in
    let all : length written.words ≤ 256 = form.few in
    record {
      name = subst IsDeviceName (sym is.name) free.name;
      apart = ap names_register is.name ∙ free.apart;
      instr = subst IsIdentifier (sym is.instr) free.instr;
      own = ap names_some_instruction is.instr ∙ free.own;
      bits = record { some = omega (arith, long, least); few = omega (arith, long, most); value = own.small };
      fits = own.long;
      free = own.free;
      some = omega (arith, count, one);
      few = omega (arith, count, all);
    }

each_register : (L : LinkedView) (B : Device) (before : List Given) (source : List RegisterWords) (rs : List FittedRegister) → All IsWritten source → AreFreeRows before (map row_of source)
    → All (IsOwn L.arena.lists B) rs → AreAll (IsRegister L) (map row_of source) rs → AllByRecursion (IsTestRegister B) (map register_of rs)
each_register L B before [] [] forms free own are = tt
each_register L B before [] (r ∷ rs) forms free own are = absurd are
each_register L B before (w ∷ source) [] forms free own are = absurd are
each_register L B before (w ∷ source) (r ∷ rs) forms free own are = (
  one_register L B before w r (All-head IsWritten w source forms) free.0 (All-head (IsOwn L.arena.lists B) r rs own) are.0,
  each_register L B (before ++ given_by (row_of w)) source rs (All-tail IsWritten w source forms) free.1 (All-tail (IsOwn L.arena.lists B) r rs own) are.1,
)

-- All of them.

few_registers : (L : LinkedView) (source : List RegisterWords) (rs : List FittedRegister) → length source ≤ 16 → AreAll (IsRegister L) (map row_of source) rs → length (map register_of rs) ≤ 16
few_registers L source rs few are =
    let lines : length (map row_of source) ≡ length source = length-map source row_of in
    let same : length (map row_of source) ≡ length rs = AreAll-length (IsRegister L) (map row_of source) rs are in
    let made : length (map register_of rs) ≡ length rs = length-map rs register_of in
    omega (arith, lines, same, made, few)

pub registers_make : PlansMakeDevices → FittedRegistersAreOwn → RegistersMakeDevices
registers_make devices owned L p seen s fits room asked =
    let B : Device = device_of L p seen in
    let plan : StatusPlan = asked.asked in
    let spelled = asked.spelled.1 in
    let rows : List StatusRow = map row_of spelled.source in
    let same : plan.registers ≡ rows = ap (λ (q : StatusPlan). q.registers) spelled.plan_is in
    let are : AreAll (IsRegister L) rows s.registers = subst (λ (l : List StatusRow). AreAll (IsRegister L) l s.registers) same asked.fitted in
    let named : Stands is_barred (all_given plan) = names_stand L p plan asked.faultless in
    let coded : Stands (is_taken p) plan.registers = opcodes_stand L p plan s.registers asked.faultless asked.fitted in
    let free : AreFreeRows [] rows = subst (λ (l : List StatusRow). AreFreeRows [] l) same (free_rows plan.registers named) in
    let opcodes = subst (λ (l : List StatusRow). any_pair (λ (r : StatusRow) (q : StatusRow). same_bits r.bits q.bits) l ≡ false) same
    (opcodes_apart p [] plan.registers (free_opcodes p plan.registers coded)) in
    record {
      device = devices L p seen fits room;
      few = few_registers L spelled.source s.registers spelled.forms.few are;
      each = each_register L B [] spelled.source s.registers spelled.forms.each free (owned L p seen plan s asked.spelled asked.fitted asked.faultless) are;
      names = apart_same is_same_name (λ (t : TestRegister). t.name) (λ (row : StatusRow). row.name) (map register_of s.registers) rows (names_same L rows s.registers are) (names_apart [] rows free);
      instructions = apart_same is_same_name (λ (t : TestRegister). t.instr) (λ (row : StatusRow). row.instr) (map register_of s.registers) rows (instrs_same L rows s.registers are) (instrs_apart [] rows free);
      opcodes = apart_same same_bits (λ (t : TestRegister). t.bits) (λ (row : StatusRow). row.bits) (map register_of s.registers) rows (bits_same L rows s.registers are) opcodes;
    }
