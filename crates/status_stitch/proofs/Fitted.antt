-- What fitting without a fault says of each register.
use Rattle.std.proofs.Common.{◌≡◌, ℕ, zero, suc, ◌+◌, ◌*◌, ◌^◌, ◌<◌, ◌≤◌, ◌==◌, ◌&&◌, ◌||◌, Bool, true, false, List, [], ◌∷◌, map, take, drop, length, Option, Some, None, nat_le, refl, sym, ap, ◌∙◌, subst, arith}
use Rattle.std.specs.Prelude.{All, slice_get}
use Rattle.std.specs.List.{list_any, list_all}
use Rattle.std.proofs.lemmas.List.Elements.{All-nil, All-cons, All-head, All-tail}
use Rattle.std.proofs.lemmas.Option.{same_Some}
use Rattle.list_laws.specs.Lists.{AreAll}
use Rattle.list_laws.proofs.Tests.{and_right, or_first, or_second}
use Rattle.list_laws.proofs.Digits.{value_below}
use Rattle.list_laws.proofs.Lists.{AreAll-length, AreAll-left}
use Rattle.cell_library.specs.declared.codes.Bits.{Bits}
use Rattle.cell_library.specs.declared.codes.Opcode.{Opcode}
use Rattle.netlist_model.specs.declared.NetId.{NetId}
use Rattle.netlist_model.specs.Lists.{direction}
use Rattle.netlist_link.specs.Linked.{LinkedView}
use Rattle.bsdl_device.specs.Runs.{is_pattern, value_after}
use Rattle.bsdl_device.specs.Instructions.{same_bits}
use Rattle.bsdl_device.specs.Checks.{has_other_length}
use Rattle.test_logic.proofs.Lengths.{right_length}
use Rattle.plan_texts.specs.declared.plan.Plan.{Plan}
use Rattle.plan_fitting.specs.Pins.{PinSeen}
use Rattle.plan_fitting.specs.Devices.{device_of}
use Rattle.status_fitting.specs.declared.register_texts.fault.StatusFault.{StatusFault}
use Rattle.status_fitting.specs.declared.register_texts.plan.StatusPlan.{StatusPlan}
use Rattle.status_fitting.specs.declared.register_texts.plan.StatusRow.{StatusRow}
use Rattle.status_fitting.specs.Grammar.{RegisterWords, IsRegister as IsWritten, register_of}
use Rattle.status_fitting.specs.declared.fitted.FittedRegister.{FittedRegister}
use Rattle.status_fitting.specs.Faults.{HasNoFault, IsSpelled, in_name, in_opcode}
use Rattle.status_fitting.specs.First.{Stands}
use Rattle.status_fitting.specs.Fitted.{IsNetOf, IsRegister}
use Rattle.status_fitting.specs.Names.{all_given, is_barred}
use Rattle.status_fitting.specs.Opcodes.{opcodes_of, is_taken}
use Rattle.status_fitting.specs.Steps.{fault_behind, name_fault, opcode_fault}
use Rattle.status_fitting.specs.Wires.{NamesWire, NamesDriven, scalar, vector}
use Rattle.status_fitting.proofs.Firsts.{first_fault, no_fault_stands}
use Rattle.status_fitting.proofs.Rows.{rows_named, split_at}
use Rattle.status_stitch.specs.Stands.{IsDrivenWire, IsOwn}
use Rattle.status_stitch.specs.RealisedLaws.{FittedRegistersAreOwn}

from_places : {A : Type 0} (P : A → Type 0) (xs : List A) → ((k : ℕ) (x : A) → slice_get xs k ≡ Some x → P x) → All P xs
from_places P [] each = All-nil P
from_places P (x ∷ xs) each = All-cons P x xs (each 0 x refl) (from_places P xs (λ k y at. each (suc k) y at))

-- The lines.

record IsRow (row : StatusRow) : Type 0 where
  small : row.bits.value < 2 ^ row.bits.len
  some : 1 ≤ length row.words

small_value : (word : List ℕ) → is_pattern word ≡ true → value_after 2 0 word < 2 ^ length word
small_value word h =
    let digits : list_all (λ b. b == 48 || b == 49) word ≡ true
    = and_right (nat_le 1 (length word) && nat_le (length word) 32) (list_all (λ b. b == 48 || b == 49) word) h in
    let below : value_after 2 0 word + 1 ≤ (0 + 1) * 2 ^ length word = value_below 0 word digits in
    omega arith

written_row : (source : List RegisterWords) → All IsWritten source → (k : ℕ) (row : StatusRow) → slice_get (map register_of source) k ≡ Some row → IsRow row
written_row [] all k row at = absurd (cc)
written_row (r ∷ source) all zero row at =
    let is : IsWritten r = All-head IsWritten r source all in
    let here : IsRow (register_of r) = record { small = small_value r.bits is.bits; some = is.some } in
    subst IsRow (same_Some (register_of r) row at) here
written_row (r ∷ source) all (suc k) row at = written_row source (All-tail IsWritten r source all) k row at

spelled_row : (plan : StatusPlan) → IsSpelled plan → (k : ℕ) (row : StatusRow) → slice_get plan.registers k ≡ Some row → IsRow row
spelled_row plan spelled k row at =
    let s = spelled.1 in
    let same : plan.registers ≡ map register_of s.source = ap (λ (q : StatusPlan). q.registers) s.plan_is in
    written_row s.source s.forms.each k row (ap (λ (rows : List StatusRow). slice_get rows k) (sym same) ∙ at)

-- Opcodes.

pub names_stand : (L : LinkedView) (base : Plan) (plan : StatusPlan) → HasNoFault L base plan → Stands is_barred (all_given plan)
names_stand L base plan faultless = by (fault_behind is_barred name_fault [] (all_given plan)) refl
  where
    by : (o : Option StatusFault) → fault_behind is_barred name_fault [] (all_given plan) ≡ o → Stands is_barred (all_given plan)
    by None e = no_fault_stands is_barred name_fault (all_given plan) e
    by (Some f) e = let found = first_fault is_barred name_fault (all_given plan) f e in absurd (faultless (name_fault found.it) (in_name found.first))

pub opcodes_stand : (L : LinkedView) (base : Plan) (plan : StatusPlan) (registers : List FittedRegister) → HasNoFault L base plan → AreAll (IsRegister L) plan.registers registers
    → Stands (is_taken base) plan.registers
opcodes_stand L base plan registers faultless all = by (fault_behind (is_taken base) opcode_fault [] plan.registers) refl
  where
    by : (o : Option StatusFault) → fault_behind (is_taken base) opcode_fault [] plan.registers ≡ o → Stands (is_taken base) plan.registers
    by None e = no_fault_stands (is_taken base) opcode_fault plan.registers e
    by (Some f) e =
        let found = first_fault (is_taken base) opcode_fault plan.registers f e in
        absurd (faultless (opcode_fault found.it) (in_opcode (names_stand L base plan faultless) (rows_named L plan.registers registers all) found.first))

record IsUntaken (base : Plan) (bits : Bits) : Type 0 where
  long : bits.len ≡ base.length
  free : list_any (λ (o : Opcode). same_bits bits o.bits) base.opcodes ≡ false

untaken : (base : Plan) (rows : List StatusRow) → Stands (is_taken base) rows → (k : ℕ) (row : StatusRow) → slice_get rows k ≡ Some row → IsUntaken base row.bits
untaken base rows stand k row at =
    let test : is_taken base (take k rows) row ≡ false = stand (take k rows) (drop (suc k) rows) row (split_at rows k row at) in
    let longer : Bool = has_other_length base.length row.bits in
    let clash : Bool = list_any (λ (o : Opcode). same_bits row.bits o.bits) base.opcodes in
    let again : Bool = list_any (same_bits row.bits) (opcodes_of (take k rows)) in
    let two : (longer || clash) ≡ false = or_first (longer || clash) again test in
    record { long = right_length base.length row.bits (or_first longer clash two); free = or_second longer clash two }

-- Wires.

outside : (L : LinkedView) (word : List ℕ) (net : ℕ) → NamesWire L word net → direction L.arena.lists.ports net ≡ None
outside L word net (scalar there) = there.bit.wire.outside
outside L word net (vector alone there) = there.bit.bit.wire.outside

driven_wire : (L : LinkedView) (word : List ℕ) (net : ℕ) → NamesDriven L word net → IsDrivenWire L.arena.lists net
driven_wire L word net names = (outside L word net names.named, names.driven)

driven_wires : (L : LinkedView) (words : List (List ℕ)) (nets : List NetId) → AreAll (IsNetOf L) words nets → All (λ (net : NetId). IsDrivenWire L.arena.lists net.0) nets
driven_wires L [] [] all = All-nil (λ (net : NetId). IsDrivenWire L.arena.lists net.0)
driven_wires L [] (net ∷ nets) all = absurd all
driven_wires L (word ∷ words) [] all = absurd all
driven_wires L (word ∷ words) (net ∷ nets) all =
    All-cons (λ (n : NetId). IsDrivenWire L.arena.lists n.0) net nets (driven_wire L word net.0 all.0) (driven_wires L words nets all.1)

-- Registers.

own_register : (L : LinkedView) (p : Plan) (seen : List PinSeen) (row : StatusRow) (r : FittedRegister) → IsRow row → IsUntaken p row.bits → IsRegister L row r
    → IsOwn L.arena.lists (device_of L p seen) r
own_register L p seen row r written fresh is =
    let back : row.bits ≡ r.register.bits = sym is.bits in
    let taken : IsUntaken p r.register.bits = subst (IsUntaken p) back fresh in
    let words : length row.words ≡ length r.nets = AreAll-length (IsNetOf L) row.words r.nets is.nets in
    let some : 1 ≤ length row.words = written.some in
    record {
      small = subst (λ (b : Bits). b.value < 2 ^ b.len) back written.small;
      long = taken.long;
      free = taken.free;
      some = omega (arith, words, some);
      wires = driven_wires L row.words r.nets is.nets;
    }

pub registers_own : FittedRegistersAreOwn
registers_own L p seen plan fitted spelled is faultless =
    from_places (IsOwn L.arena.lists (device_of L p seen)) fitted.registers
    (λ k r at.
    let found = AreAll-left (IsRegister L) plan.registers fitted.registers k r is at in
    own_register L p seen found.0 r (spelled_row plan spelled k found.0 found.1)
    (untaken p plan.registers (opcodes_stand L p plan fitted.registers faultless is) k found.0 found.1) found.2)
