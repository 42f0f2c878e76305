-- The flip-flops of the test logic are clocked by TCK and cleared or preset by TRST; and what its cells drive.
use Rattle.std.proofs.Common.{◌≡◌, ℕ, zero, suc, ◌+◌, ◌*◌, ◌≤◌, ◌&&◌, ◌||◌, not, Bool, true, false, IsTrue, List, [], ◌∷◌, ◌++◌, map, length, refl, ap, ◌∙◌, subst, Option, Some, None, option_map, arith, eqb-true, slice_get}
use Rattle.std.specs.Prelude.{⊤, unwrap_or}
use Rattle.std.specs.List.{list_all}
use Rattle.std.proofs.lemmas.Option.{slice_get-map}
use Rattle.list_laws.proofs.Tests.{both_hold, then_holds}
use Rattle.list_laws.proofs.Options.{some_same}
use Rattle.netlist_model.specs.declared.NetId.{NetId}
use Rattle.netlist_model.specs.declared.Feed.{Feed}
use Rattle.netlist_model.specs.declared.Feed.TheVariants.{Net, Const}
use Rattle.netlist_model.specs.Lists.{CellView}
use Rattle.gate_parts.specs.declared.Pin.{Pin}
use Rattle.gate_parts.specs.declared.Pin.TheVariants.{Own, Given}
use Rattle.gate_parts.specs.declared.Gate.{Gate}
use Rattle.gate_parts.specs.Parts.{feed_of, pins_of, gate_cell, cells_from, part_cells}
use Rattle.surrounded_core.specs.register_gates.declared.bits.Steering.{Steering}
use Rattle.surrounded_core.specs.register_gates.declared.bits.TheConstants.{SHIFT_BIT}
use Rattle.surrounded_core.specs.register_gates.Bits.{shift_bit_given, shift_bit_cells, held_bit, held_bit_given}
use Rattle.surrounded_core.specs.register_gates.Chains.{chain_last, chain_cells}
use Rattle.surrounded_core.specs.instruction_gates.declared.latches.Latching.{Latching}
use Rattle.surrounded_core.specs.instruction_gates.declared.latches.TheConstants.{LOADED}
use Rattle.surrounded_core.specs.instruction_gates.declared.matches.TheConstants.{EQUAL_BIT}
use Rattle.surrounded_core.specs.instruction_gates.declared.copies.TheConstants.{COPY}
use Rattle.surrounded_core.specs.instruction_gates.Rows.{is_one}
use Rattle.surrounded_core.specs.instruction_gates.Latches.{holding_of, loaded_given, latch_cells, latches_cells}
use Rattle.surrounded_core.specs.instruction_gates.Matches.{match_before, equal_given, matches_cells}
use Rattle.surrounded_core.specs.instruction_gates.Copies.{copy_given, copies_cells}
use Rattle.surrounded_core.specs.boundary_cells.declared.tables.Choice.{Choice}
use Rattle.surrounded_core.specs.boundary_cells.Cells.{choice_cell, cells_onto}
use Rattle.stitched_netlist.specs.Gates.{may_keep, is_given_at, is_clocked_by}

-- A flip-flop that TCK clocks and TRST clears or presets, or a gate; and each net that it drives is one of these.

pub record IsSteered (tck trst : NetId) (Q : ℕ → Type 0) (cell : CellView) : Type 0 where
  pub clock : may_keep cell.kind ≡ true → slice_get cell.feeds 1 ≡ Some (Net tck)
  pub reset : may_keep cell.kind ≡ true → slice_get cell.feeds 2 ≡ Some (Net trst)
  pub drives : (net : ℕ) → cell.output ≡ Some (record { 0 = net }) → Q net

abbrev pub AreSteered : NetId → NetId → (ℕ → Type 0) → List CellView → Type 0
AreSteered tck trst Q [] = ⊤
AreSteered tck trst Q (cell ∷ cells) = IsSteered tck trst Q cell × AreSteered tck trst Q cells

pub steered_joined : (tck trst : NetId) (Q : ℕ → Type 0) (xs ys : List CellView) → AreSteered tck trst Q xs → AreSteered tck trst Q ys → AreSteered tck trst Q (xs ++ ys)
steered_joined tck trst Q [] ys a b = b
steered_joined tck trst Q (x ∷ xs) ys a b = (a.0, steered_joined tck trst Q xs ys a.1 b)

pub steered_at : (tck trst : NetId) (Q : ℕ → Type 0) (xs : List CellView) → AreSteered tck trst Q xs → (k : ℕ) (cell : CellView) → slice_get xs k ≡ Some cell → IsSteered tck trst Q cell
steered_at tck trst Q [] all k cell e = absurd (cc)
steered_at tck trst Q (x ∷ xs) all zero cell e = let same : x ≡ cell = cc in subst (IsSteered tck trst Q) same all.0
steered_at tck trst Q (x ∷ xs) all (suc k) cell e = steered_at tck trst Q xs all.1 k cell e

-- from this net on each net is one of these
abbrev pub IsFrom : (ℕ → Type 0) → ℕ → Type 0
IsFrom Q first = (net : ℕ) → first ≤ net → Q net

-- Tables.

takes_given : (place : ℕ) (pin : Option Pin) → IsTrue (is_given_at place pin) → pin ≡ Some (Given place)
takes_given place None is = absurd (cc)
takes_given place (Some (Own k)) is = absurd (cc)
takes_given place (Some (Given k)) is = ap (λ (n : ℕ). Some (Given n)) (eqb-true k place is)

given_feed : (first : ℕ) (given : List Feed) (pins : List Pin) (at place : ℕ) (feed : Feed) → slice_get pins at ≡ Some (Given place) → slice_get given place ≡ Some feed
    → slice_get (map (feed_of first given) pins) at ≡ Some feed
given_feed first given pins at place feed e there =
    slice_get-map (feed_of first given) pins at ∙ ap (option_map (feed_of first given)) e ∙ ap (λ (o : Option Feed). Some (unwrap_or o (Const false))) there

gate_steered : (first : ℕ) (given : List Feed) (number net clock reset : ℕ) (gate : Gate) (tck trst : NetId) (Q : ℕ → Type 0) → IsTrue (is_clocked_by clock reset gate)
    → slice_get given clock ≡ Some (Net tck) → slice_get given reset ≡ Some (Net trst) → Q net → IsSteered tck trst Q (gate_cell first given number net gate)
gate_steered first given number net clock reset gate tck trst Q is a b q =
    let c : Bool = is_given_at clock (slice_get (pins_of gate.pins) 1) in
    let r : Bool = is_given_at reset (slice_get (pins_of gate.pins) 2) in
    record {
      clock = λ flop. given_feed first given (pins_of gate.pins) 1 clock (Net tck)
          (takes_given clock (slice_get (pins_of gate.pins) 1) (both_hold c r (then_holds (may_keep gate.kind) (c && r) is flop)).0) a;
      reset = λ flop. given_feed first given (pins_of gate.pins) 2 reset (Net trst)
          (takes_given reset (slice_get (pins_of gate.pins) 2) (both_hold c r (then_holds (may_keep gate.kind) (c && r) is flop)).1) b;
      drives = λ other e. let same : net ≡ other = ap (λ (n : NetId). n.0) (some_same (let one : NetId = record { 0 = net } in one) (let two : NetId = record { 0 = other } in two) (Some (record { 0 = net })) refl e) in
          subst Q same q;
    }

cells_steered : (first : ℕ) (given : List Feed) (number net clock reset : ℕ) (gates : List Gate) (tck trst : NetId) (Q : ℕ → Type 0) → IsTrue (list_all (is_clocked_by clock reset) gates)
    → slice_get given clock ≡ Some (Net tck) → slice_get given reset ≡ Some (Net trst) → IsFrom Q net → AreSteered tck trst Q (cells_from first given number net gates)
cells_steered first given number net clock reset [] tck trst Q is a b q = tt
cells_steered first given number net clock reset (gate ∷ gates) tck trst Q is a b q =
    let parts = both_hold (is_clocked_by clock reset gate) (list_all (is_clocked_by clock reset) gates) is in (
      gate_steered first given number net clock reset gate tck trst Q parts.0 a b (q net (omega arith)),
      cells_steered first given (suc number) (suc net) clock reset gates tck trst Q parts.1 a b (λ other less. q other (omega arith)),
    )

pub table_steered : (gates : List Gate) (given : List Feed) (first number clock reset : ℕ) (tck trst : NetId) (Q : ℕ → Type 0) → IsTrue (list_all (is_clocked_by clock reset) gates)
    → slice_get given clock ≡ Some (Net tck) → slice_get given reset ≡ Some (Net trst) → IsFrom Q first → AreSteered tck trst Q (part_cells gates given first number)
table_steered gates given first number clock reset tck trst Q is a b q = cells_steered first given number first clock reset gates tck trst Q is a b q

-- without flip-flops
abbrev pub is_gate : Gate → Bool
is_gate gate = not (may_keep gate.kind)

plain_steered : (first : ℕ) (given : List Feed) (number net : ℕ) (gate : Gate) (tck trst : NetId) (Q : ℕ → Type 0) → IsTrue (is_gate gate) → Q net
    → IsSteered tck trst Q (gate_cell first given number net gate)
plain_steered first given number net gate tck trst Q is q = record {
  clock = λ flop. absurd (neither (may_keep gate.kind) is flop);
  reset = λ flop. absurd (neither (may_keep gate.kind) is flop);
  drives = λ other e. let same : net ≡ other = ap (λ (n : NetId). n.0) (some_same (let one : NetId = record { 0 = net } in one) (let two : NetId = record { 0 = other } in two) (Some (record { 0 = net })) refl e) in
      subst Q same q;
}
  where
    neither : (b : Bool) → IsTrue (not b) → b ≡ true → ⊥
    neither true is flop = cc
    neither false is flop = cc

gates_steered_from : (first : ℕ) (given : List Feed) (number net : ℕ) (gates : List Gate) (tck trst : NetId) (Q : ℕ → Type 0) → IsTrue (list_all is_gate gates) → IsFrom Q net
    → AreSteered tck trst Q (cells_from first given number net gates)
gates_steered_from first given number net [] tck trst Q is q = tt
gates_steered_from first given number net (gate ∷ gates) tck trst Q is q =
    let parts = both_hold (is_gate gate) (list_all is_gate gates) is in (
      plain_steered first given number net gate tck trst Q parts.0 (q net (omega arith)),
      gates_steered_from first given (suc number) (suc net) gates tck trst Q parts.1 (λ other less. q other (omega arith)),
    )

pub gates_steered : (gates : List Gate) (given : List Feed) (first number : ℕ) (tck trst : NetId) (Q : ℕ → Type 0) → IsTrue (list_all is_gate gates) → IsFrom Q first
    → AreSteered tck trst Q (part_cells gates given first number)
gates_steered gates given first number tck trst Q is q = gates_steered_from first given number first gates tck trst Q is q

pub from_more : (Q : ℕ → Type 0) (first next : ℕ) → first ≤ next → IsFrom Q first → IsFrom Q next
from_more Q first next less q = λ net more. q net (omega arith)

-- a multiplexer onto a net
pub choice_steered : (gates : List Gate) (choice : Choice) (given : List Feed) (first number : ℕ) (into tck trst : NetId) (Q : ℕ → Type 0) → IsTrue (list_all (is_clocked_by 0 1) gates)
    → slice_get given 0 ≡ Some (Net tck) → slice_get given 1 ≡ Some (Net trst) → IsFrom Q first → Q into.0 → AreSteered tck trst Q (cells_onto gates choice given first number into)
choice_steered gates choice given first number into tck trst Q is a b q i =
    steered_joined tck trst Q (part_cells gates given first number) (choice_cell first given (number + length gates) into choice ∷ [])
    (table_steered gates given first number 0 1 tck trst Q is a b q) (
      record {
        clock = λ flop. absurd (cc);
        reset = λ flop. absurd (cc);
        drives = λ other e. let same : into ≡ (record { 0 = other }) = some_same into (let two : NetId = record { 0 = other } in two) (Some into) refl e in subst (λ (n : NetId). Q n.0) same i;
      },
      tt,
    )

-- Registers.

pub shift_steered : (first number : ℕ) (by : Steering) (captured : Feed) (next : NetId) (Q : ℕ → Type 0) → IsFrom Q first → AreSteered by.tck by.trst Q (shift_bit_cells first number by captured next)
shift_steered first number by captured next Q q = table_steered SHIFT_BIT (shift_bit_given by captured next) first number 0 1 by.tck by.trst Q refl refl refl q

pub chain_steered : (first number : ℕ) (by : Steering) (tdi : NetId) (captured : List Feed) (Q : ℕ → Type 0) → IsFrom Q first → AreSteered by.tck by.trst Q (chain_cells first number by tdi captured)
chain_steered first number by tdi [] Q q = tt
chain_steered first number by tdi (c ∷ rest) Q q =
    steered_joined by.tck by.trst Q (chain_cells first number by tdi rest) (shift_bit_cells (first + 3 * length rest) (number + 3 * length rest) by c (chain_last first tdi rest))
    (chain_steered first number by tdi rest Q q)
    (shift_steered (first + 3 * length rest) (number + 3 * length rest) by c (chain_last first tdi rest) Q (from_more Q first (first + 3 * length rest) (omega arith) q))

held_steered : (first number : ℕ) (by : Latching) (preset : Bool) (loaded : Feed) (Q : ℕ → Type 0) → IsFrom Q first
    → AreSteered by.tck by.trst Q (part_cells (held_bit preset) (held_bit_given (holding_of by) loaded) first number)
held_steered first number by true loaded Q q = table_steered (held_bit true) (held_bit_given (holding_of by) loaded) first number 0 1 by.tck by.trst Q refl refl refl q
held_steered first number by false loaded Q q = table_steered (held_bit false) (held_bit_given (holding_of by) loaded) first number 0 1 by.tck by.trst Q refl refl refl q

latch_steered : (first number shift : ℕ) (by : Latching) (preset : Feed) (Q : ℕ → Type 0) → IsFrom Q first → AreSteered by.tck by.trst Q (latch_cells by shift first number preset)
latch_steered first number shift by preset Q q =
    steered_joined by.tck by.trst Q (part_cells LOADED (loaded_given by shift preset) first number) _
    (gates_steered LOADED (loaded_given by shift preset) first number by.tck by.trst Q refl q)
    (held_steered (first + 1) (number + 1) by (is_one preset) (Net (record { 0 = first })) Q (from_more Q first (first + 1) (omega arith) q))

pub latches_steered : (first number : ℕ) (by : Latching) (shifts : ℕ) (presets : List Feed) (Q : ℕ → Type 0) → IsFrom Q first → AreSteered by.tck by.trst Q (latches_cells first number by shifts presets)
latches_steered first number by shifts [] Q q = tt
latches_steered first number by shifts (preset ∷ rest) Q q =
    steered_joined by.tck by.trst Q (latches_cells first number by shifts rest)
    (latch_cells by (shifts + 3 * length rest) (first + 3 * length rest) (number + 3 * length rest) preset)
    (latches_steered first number by shifts rest Q q)
    (latch_steered (first + 3 * length rest) (number + 3 * length rest) (shifts + 3 * length rest) by preset Q (from_more Q first (first + 3 * length rest) (omega arith) q))

pub matches_steered : (first number latched : ℕ) (wanted : List Feed) (tck trst : NetId) (Q : ℕ → Type 0) → IsFrom Q first → AreSteered tck trst Q (matches_cells first number latched wanted)
matches_steered first number latched [] tck trst Q q = tt
matches_steered first number latched (item ∷ rest) tck trst Q q =
    let given : List Feed = equal_given (match_before first (length rest)) (latched + 3 * length rest + 1) item in
    steered_joined tck trst Q (matches_cells first number latched rest) (part_cells EQUAL_BIT given (first + 2 * length rest) (number + 2 * length rest))
    (matches_steered first number latched rest tck trst Q q)
    (gates_steered EQUAL_BIT given (first + 2 * length rest) (number + 2 * length rest) tck trst Q refl (from_more Q first (first + 2 * length rest) (omega arith) q))

pub copies_steered : (first number latched count : ℕ) (tck trst : NetId) (Q : ℕ → Type 0) → IsFrom Q first → AreSteered tck trst Q (copies_cells first number latched count)
copies_steered first number latched zero tck trst Q q = tt
copies_steered first number latched (suc behind) tck trst Q q =
    steered_joined tck trst Q (part_cells COPY (copy_given latched behind) first number) (copies_cells (suc first) (suc number) latched behind)
    (gates_steered COPY (copy_given latched behind) first number tck trst Q refl q)
    (copies_steered (suc first) (suc number) latched behind tck trst Q (from_more Q first (suc first) (omega arith) q))
