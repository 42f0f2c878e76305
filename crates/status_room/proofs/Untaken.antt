-- The opcodes of registers that were fitted are none of the plan's.
use Rattle.std.proofs.Common.{◌≡◌, ℕ, suc, ◌*◌, ◌^◌, ◌<◌, ◌||◌, Bool, true, false, List, [], ◌∷◌, map, take, drop, length, Some, refl, ap, sym, ◌∙◌, subst, get_or}
use Rattle.std.specs.Prelude.{slice_get}
use Rattle.std.specs.List.{AllByRecursion, list_any}
use Rattle.std.proofs.lemmas.List.Elements.{recursion_from_All}
use Rattle.std.proofs.lemmas.Option.{slice_get-get_or}
use Rattle.list_laws.proofs.Lists.{AreAll-left, all_at}
use Rattle.netlist_link.specs.Linked.{LinkedView}
use Rattle.cell_library.specs.declared.codes.Bits.{Bits}
use Rattle.cell_library.specs.declared.codes.Opcode.{Opcode}
use Rattle.bsdl_device.specs.Instructions.{same_bits}
use Rattle.bsdl_device.specs.Checks.{has_other_length}
use Rattle.plan_texts.specs.declared.plan.Plan.{Plan}
use Rattle.plan_texts.proofs.Digits.{pattern_below}
use Rattle.plan_fitting.specs.Devices.{fitted_of}
use Rattle.status_fitting.specs.declared.register_texts.plan.StatusRow.{StatusRow}
use Rattle.status_fitting.specs.declared.register_texts.plan.StatusPlan.{StatusPlan}
use Rattle.status_fitting.specs.Grammar.{RegisterWords, IsRegister as IsWritten, register_of}
use Rattle.status_fitting.specs.declared.fitted.FittedRegister.{FittedRegister}
use Rattle.status_fitting.specs.First.{Stands}
use Rattle.status_fitting.specs.Opcodes.{opcodes_of, is_taken}
use Rattle.status_fitting.specs.Fitted.{IsRegister}
use Rattle.status_fitting.proofs.Rows.{split_at, rows_named}
use Rattle.status_room.specs.Needed.{IsUntaken}
use Rattle.status_room.specs.ReadyLaws.{FittedAreUntaken}
use Rattle.status_room.proofs.Registers.{opcodes_stand}

second_false : (a b c : Bool) → (a || b || c) ≡ false → b ≡ false
second_false true b c h = absurd (let no : true ≡ false = h in cc)
second_false false true c h = h
second_false false false c h = refl

row_free : (base : Plan) (rows : List StatusRow) → Stands (is_taken base) rows → (k : ℕ) (row : StatusRow) → slice_get rows k ≡ Some row
    → list_any (λ (o : Opcode). same_bits row.bits o.bits) base.opcodes ≡ false
row_free base rows stand k row at =
    let free = stand (take k rows) (drop (suc k) rows) row (split_at rows k row at) in
    second_false (has_other_length base.length row.bits) (list_any (λ (o : Opcode). same_bits row.bits o.bits) base.opcodes) (list_any (same_bits row.bits) (opcodes_of (take k rows))) free

abbrev HasValue : StatusRow → Type 0
HasValue row = row.bits.value < 2 ^ row.bits.len

have_values : (source : List RegisterWords) → AllByRecursion IsWritten source → AllByRecursion HasValue (map register_of source)
have_values [] all = tt
have_values (r ∷ source) all = (pattern_below r.bits (length r.bits) all.0.bits refl, have_values source all.1)

untaken : (L : LinkedView) (base : Plan) (row : StatusRow) (r : FittedRegister) → IsRegister L row r → list_any (λ (o : Opcode). same_bits row.bits o.bits) base.opcodes ≡ false → HasValue row
    → (list_any (λ (o : Opcode). same_bits r.register.bits o.bits) base.opcodes ≡ false) × (r.register.bits.value < 2 ^ r.register.bits.len)
untaken L base row r is free small = (
  subst (λ (b : Bits). list_any (λ (o : Opcode). same_bits b o.bits) base.opcodes ≡ false) (sym is.bits) free,
  subst (λ (b : Bits). b.value < 2 ^ b.len) (sym is.bits) small,
)

pub are_untaken : FittedAreUntaken
are_untaken L p seen plan s spelled fitted none =
    let text = spelled.1 in
    let rows_are : plan.registers ≡ map register_of text.source = ap (λ (q : StatusPlan). q.registers) text.plan_is in
    let values : AllByRecursion HasValue plan.registers
    = subst (λ (xs : List StatusRow). AllByRecursion HasValue xs) (sym rows_are) (have_values text.source (recursion_from_All IsWritten text.source text.forms.each)) in
    let stand : Stands (is_taken p) plan.registers = opcodes_stand L p plan none (rows_named L plan.registers s.registers fitted) in
    λ k d within. each values stand k d (AreAll-left (IsRegister L) plan.registers s.registers k (get_or s.registers k d) fitted (slice_get-get_or s.registers k d within))
  where
    each : AllByRecursion HasValue plan.registers → Stands (is_taken p) plan.registers → (k : ℕ) (d : FittedRegister)
        → (row : StatusRow) × (slice_get plan.registers k ≡ Some row) × IsRegister L row (get_or s.registers k d) → IsUntaken (fitted_of L p seen) (get_or s.registers k d)
    each values stand k d w =
        let u = untaken L p w.0 (get_or s.registers k d) w.2 (row_free p plan.registers stand k w.0 w.1) (all_at HasValue plan.registers k w.0 values w.1) in
        record { free = u.0; small = u.1 }
