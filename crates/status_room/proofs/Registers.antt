-- Registers that were fitted.
use Rattle.std.proofs.Common.{◌≡◌, ℕ, suc, ◌+◌, ◌<◌, ◌≤◌, ◌==◌, ◌||◌, Bool, true, false, List, [], ◌∷◌, ◌++◌, map, take, drop, length, Option, Some, None, refl, ap, sym, ◌∙◌, subst, arith, eqb-true, get_or}
use Rattle.std.specs.Prelude.{slice_get, All}
use Rattle.std.specs.List.{AllByRecursion, list_any}
use Rattle.std.proofs.lemmas.List.{length-map}
use Rattle.std.proofs.lemmas.List.Elements.{recursion_from_All}
use Rattle.std.proofs.lemmas.Option.{slice_get-get_or}
use Rattle.list_laws.proofs.Lists.{AreAll-length, AreAll-left, all_at}
use Rattle.list_laws.proofs.Tests.{not_false}
use Rattle.netlist_model.specs.declared.NetId.{NetId}
use Rattle.netlist_model.specs.Ports.{BitHasDirection}
use Rattle.netlist_link.specs.Linked.{LinkedView}
use Rattle.cell_library.specs.declared.codes.Bits.{Bits}
use Rattle.cell_library.specs.declared.codes.Opcode.{Opcode}
use Rattle.bsdl_device.specs.Instructions.{same_bits}
use Rattle.bsdl_device.specs.Checks.{has_other_length}
use Rattle.plan_texts.specs.declared.plan.Plan.{Plan}
use Rattle.plan_fitting.specs.Pins.{PinSeen}
use Rattle.plan_fitting.specs.Devices.{fitted_of}
use Rattle.plan_fitting.specs.FittingPlan.{IsFitting}
use Rattle.plan_fitting.proofs.PlanClock.{plans_have_registers}
use Rattle.status_fitting.specs.declared.register_texts.fault.StatusFault.{StatusFault}
use Rattle.status_fitting.specs.declared.register_texts.fault.StatusFault.TheVariants as fault
use Rattle.status_fitting.specs.declared.register_texts.plan.StatusRow.{StatusRow}
use Rattle.status_fitting.specs.declared.register_texts.plan.StatusPlan.{StatusPlan}
use Rattle.status_fitting.specs.Grammar.{RegisterWords, IsRegister as IsWritten, register_of}
use Rattle.status_fitting.specs.declared.fitted.FittedRegister.{FittedRegister}
use Rattle.status_fitting.specs.First.{Stands}
use Rattle.status_fitting.specs.Steps.{fault_behind, name_fault, opcode_fault}
use Rattle.status_fitting.specs.Names.{name_of, all_given, is_barred}
use Rattle.status_fitting.specs.Opcodes.{opcodes_of, is_taken}
use Rattle.status_fitting.specs.Wires.{IsNamed}
use Rattle.status_fitting.specs.Faults.{words_of, in_name, in_opcode, HasNoFault}
use Rattle.status_fitting.specs.Fitted.{IsNetOf, IsRegister}
use Rattle.status_fitting.proofs.Firsts.{no_fault_stands, first_fault}
use Rattle.status_fitting.proofs.Rows.{split_at, rows_named}
use Rattle.status_room.specs.Needed.{IsCaptured, CanBeBuilt}
use Rattle.status_room.specs.ReadyLaws.{FittedCanBeBuilt}
use Rattle.status_room.proofs.Wires.{captured}

-- No opcode is of another length.

names_stand : (L : LinkedView) (base : Plan) (plan : StatusPlan) → HasNoFault L base plan → Stands is_barred (all_given plan)
names_stand L base plan none = by (fault_behind is_barred name_fault [] (all_given plan)) refl
  where
    by : (o : Option StatusFault) → fault_behind is_barred name_fault [] (all_given plan) ≡ o → Stands is_barred (all_given plan)
    by None e = no_fault_stands is_barred name_fault (all_given plan) e
    by (Some f) e =
        let first = first_fault is_barred name_fault (all_given plan) f e in
        absurd (none (fault.StatusName (name_of first.it)) (in_name first.first))

pub opcodes_stand : (L : LinkedView) (base : Plan) (plan : StatusPlan) → HasNoFault L base plan → AllByRecursion (IsNamed L) (words_of plan.registers) → Stands (is_taken base) plan.registers
opcodes_stand L base plan none named = by (fault_behind (is_taken base) opcode_fault [] plan.registers) refl
  where
    by : (o : Option StatusFault) → fault_behind (is_taken base) opcode_fault [] plan.registers ≡ o → Stands (is_taken base) plan.registers
    by None e = no_fault_stands (is_taken base) opcode_fault plan.registers e
    by (Some f) e =
        let first = first_fault (is_taken base) opcode_fault plan.registers f e in
        absurd (none (fault.StatusOpcode first.it.instr) (in_opcode (names_stand L base plan none) named first.first))

first_false : (a b c : Bool) → (a || b || c) ≡ false → a ≡ false
first_false true b c h = h
first_false false b c h = refl

row_length : (base : Plan) (rows : List StatusRow) → Stands (is_taken base) rows → (k : ℕ) (row : StatusRow) → slice_get rows k ≡ Some row → row.bits.len ≡ base.length
row_length base rows stand k row at =
    let free = stand (take k rows) (drop (suc k) rows) row (split_at rows k row at) in
    let in_plan : Bool = list_any (λ (o : Opcode). same_bits row.bits o.bits) base.opcodes in
    let before : Bool = list_any (same_bits row.bits) (opcodes_of (take k rows)) in
    let same : has_other_length base.length row.bits ≡ false = first_false (has_other_length base.length row.bits) in_plan before free in
    eqb-true row.bits.len base.length (not_false (row.bits.len == base.length) same)

-- The words of a line.

record HasWords (row : StatusRow) : Type 0 where
  some : 0 < length row.words
  few : length row.words ≤ 256

have_words : (source : List RegisterWords) → AllByRecursion IsWritten source → AllByRecursion HasWords (map register_of source)
have_words [] all = tt
have_words (r ∷ source) all = (record { some = all.0.some; few = all.0.few }, have_words source all.1)

-- A register.

one_can : BitHasDirection → (L : LinkedView) (p : Plan) (seen : List PinSeen) (row : StatusRow) (r : FittedRegister) → IsFitting L p seen → IsRegister L row r → HasWords row → row.bits.len ≡ p.length
    → CanBeBuilt L.arena.lists (fitted_of L p seen) r
one_can has L p seen row r fits is words long =
    let many = AreAll-length (IsNetOf L) row.words r.nets is.nets in
    let some = words.some in
    let few = words.few in
    record {
      bits = ap (λ (b : Bits). b.len) is.bits ∙ long;
      some = omega (arith, many, some);
      few = omega (arith, many, few);
      wires = λ k d within. wire k d (AreAll-left (IsNetOf L) row.words r.nets k (get_or r.nets k d) is.nets (slice_get-get_or r.nets k d within));
    }
  where
    wire : (k : ℕ) (d : NetId) → (word : List ℕ) × (slice_get row.words k ≡ Some word) × IsNetOf L word (get_or r.nets k d) → IsCaptured L.arena.lists (fitted_of L p seen) (get_or r.nets k d).0
    wire k d w = captured has L (fitted_of L p seen) fits.formed w.0 (get_or r.nets k d).0 w.2

-- All of them.

pub can_be_built : BitHasDirection → FittedCanBeBuilt
can_be_built has L p seen plan s fits spelled fitted none =
    let text = spelled.1 in
    let rows : List StatusRow = plan.registers in
    let rows_are : rows ≡ map register_of text.source = ap (λ (q : StatusPlan). q.registers) text.plan_is in
    let count = AreAll-length (IsRegister L) rows s.registers fitted in
    let many : length rows ≡ length text.source = ap (λ (xs : List StatusRow). length xs) rows_are ∙ length-map text.source register_of in
    let some = text.forms.some in
    let few = text.forms.few in
    let least = (plans_have_registers p fits.spelled).least in
    let words : AllByRecursion HasWords rows
    = subst (λ (xs : List StatusRow). AllByRecursion HasWords xs) (sym rows_are) (have_words text.source (recursion_from_All IsWritten text.source text.forms.each)) in
    let stand : Stands (is_taken p) rows = opcodes_stand L p plan none (rows_named L rows s.registers fitted) in
    record {
      bits = omega (arith, least);
      some = omega (arith, count, many, some);
      few = omega (arith, count, many, few);
      each = λ k d within. each words stand k d (AreAll-left (IsRegister L) rows s.registers k (get_or s.registers k d) fitted (slice_get-get_or s.registers k d within));
    }
  where
    each : AllByRecursion HasWords plan.registers → Stands (is_taken p) plan.registers → (k : ℕ) (d : FittedRegister)
        → (row : StatusRow) × (slice_get plan.registers k ≡ Some row) × IsRegister L row (get_or s.registers k d) → CanBeBuilt L.arena.lists (fitted_of L p seen) (get_or s.registers k d)
    each words stand k d w =
        one_can has L p seen w.0 (get_or s.registers k d) fits w.2 (all_at HasWords plan.registers k w.0 words w.1) (row_length p plan.registers stand k w.0 w.1)
