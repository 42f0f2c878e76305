-- The cells have added names and outputs.
use Rattle.std.proofs.Common.{◌≡◌, ℕ, zero, suc, ◌+◌, ◌*◌, ◌⊎◌, inl, inr, List, [], ◌∷◌, ◌++◌, length, Option, Some, None, refl}
use Rattle.std.specs.Prelude.{slice_get}
use Rattle.netlist_model.specs.declared.NetId.{NetId}
use Rattle.netlist_model.specs.declared.Feed.{Feed}
use Rattle.netlist_model.specs.declared.Feed.TheVariants.{Net}
use Rattle.netlist_model.specs.Lists.{CellView}
use Rattle.gate_parts.specs.Parts.{part_cells}
use Rattle.test_logic.specs.declared.TapNets.{TapNets}
use Rattle.register_gates.specs.declared.bits.Steering.{Steering}
use Rattle.register_gates.specs.declared.bits.TheConstants.{SHIFT_BIT}
use Rattle.register_gates.specs.Bits.{shift_bit_given, shift_bit_cells}
use Rattle.register_gates.specs.Chains.{chain_last, chain_cells}
use Rattle.register_gates.specs.declared.TheConstants.{SELECTED}
use Rattle.register_gates.specs.Registers.{selected_given, selected_cells, selected_steering, data_cells}
use Rattle.instruction_gates.specs.Rows.{is_one}
use Rattle.netlist_link.specs.Grown.{IsOneOf}
use Rattle.netlist_link.specs.DraftLawsNames.{IsNamedCell}
use Rattle.netlist_link.specs.Sources.{PartIsNamed}
use Rattle.status_fitting.specs.declared.fitted.FittedRegister.{FittedRegister}
use Rattle.register_gates.specs.declared.ident.TheConstants.{INVERSE}
use Rattle.status_gates.specs.declared.TheConstants.{BOTH, SHOWN}
use Rattle.status_gates.specs.Opcodes.{inverses_cells, literal, told_feed, opcode_cells}
use Rattle.status_gates.specs.Shown.{shown_given}
use Rattle.status_gates.specs.Wires.{net_feeds}
use Rattle.status_gates.specs.declared.parts.SharedNets.{SharedNets}
use Rattle.status_gates.specs.Registers.{wanted_feeds, bits_size, on_at, near_at, register_cells, registers_size, shown_of, registers_cells}
use Rattle.status_build.specs.FormedLaws.{RegistersAreNamed}

abbrev AreNamed : List CellView → Type 0
AreNamed cells = (cell : CellView) → IsOneOf cells cell → IsNamedCell cell

one_of : (xs ys : List CellView) (k : ℕ) (cell : CellView) → slice_get (xs ++ ys) k ≡ Some cell → IsOneOf xs cell ⊎ IsOneOf ys cell
one_of [] ys k cell e = inr (record { place = k; at = e })
one_of (x ∷ xs) ys zero cell e = inl (record { place = 0; at = e })
one_of (x ∷ xs) ys (suc k) cell e = elim (one_of xs ys k cell e) [ inl of ↦ inl (record { place = suc of.place; at = of.at }) | inr of ↦ inr of ]

both_named : (xs ys : List CellView) → AreNamed xs → AreNamed ys → AreNamed (xs ++ ys)
both_named xs ys a b cell of = elim (one_of xs ys of.place cell of.at) [ inl x ↦ a cell x | inr y ↦ b cell y ]

none_named : AreNamed []
none_named cell of = no of.place of.at
  where
    no : (k : ℕ) → slice_get [] k ≡ Some cell → IsNamedCell cell
    no k e = absurd (let never : ◌≡◌ {A = Option CellView} None (Some cell) = e in cc)

inverses_named : PartIsNamed → (first number opcode count : ℕ) → AreNamed (inverses_cells first number opcode count)
inverses_named part first number opcode zero = none_named
inverses_named part first number opcode (suc behind) =
    let given : List Feed = Net (record { 0 = opcode }) ∷ [] in
    both_named (part_cells INVERSE given first number) (inverses_cells (suc first) (suc number) (suc opcode) behind) (part INVERSE given first number refl)
    (inverses_named part (suc first) (suc number) (suc opcode) behind)

opcode_named : PartIsNamed → (first number opcode inverses : ℕ) (wanted : List Feed) → AreNamed (opcode_cells first number opcode inverses wanted)
opcode_named part first number opcode inverses [] = none_named
opcode_named part first number opcode inverses (w ∷ rest) =
    let given : List Feed = literal (is_one w) opcode inverses ∷ told_feed first rest ∷ [] in
    both_named (opcode_cells first number (suc opcode) (suc inverses) rest) (part_cells BOTH given (first + length rest) (number + length rest))
    (opcode_named part first number (suc opcode) (suc inverses) rest) (part BOTH given (first + length rest) (number + length rest) refl)

chain_named : PartIsNamed → (first number : ℕ) (by : Steering) (tdi : NetId) (captured : List Feed) → AreNamed (chain_cells first number by tdi captured)
chain_named part first number by tdi [] = none_named
chain_named part first number by tdi (captured ∷ rest) =
    let f : ℕ = first + 3 * length rest in
    let n : ℕ = number + 3 * length rest in
    let next : NetId = chain_last first tdi rest in
    both_named (chain_cells first number by tdi rest) (shift_bit_cells f n by captured next) (chain_named part first number by tdi rest)
    (part SHIFT_BIT (shift_bit_given by captured next) f n refl)

data_named : PartIsNamed → (first number : ℕ) (tap : TapNets) (on tdi : NetId) (captured : List Feed) → AreNamed (data_cells first number tap on tdi captured)
data_named part first number tap on tdi captured =
    both_named (selected_cells first number tap on) (chain_cells (first + 2) (number + 2) (selected_steering first tap) tdi captured)
    (part SELECTED (selected_given tap on) first number refl) (chain_named part (first + 2) (number + 2) (selected_steering first tap) tdi captured)

register_named : PartIsNamed → (first number : ℕ) (shared : SharedNets) (r : FittedRegister) (behind : NetId) → AreNamed (register_cells first number shared r behind)
register_named part first number shared r behind =
    let n : ℕ = r.register.bits.len in
    let end : ℕ = n + bits_size r in
    let given : List Feed = shown_given behind (near_at first shared r) (on_at first r) in
    let xs : List CellView = opcode_cells first number shared.opcode.0 shared.inverses.0 (wanted_feeds r.register.bits) in
    let ys : List CellView = data_cells (first + n) (number + n) shared.tap (on_at first r) shared.tdi (net_feeds r.nets) in
    both_named (xs ++ ys) (part_cells SHOWN given (first + end) (number + end))
    (both_named xs ys (opcode_named part first number shared.opcode.0 shared.inverses.0 (wanted_feeds r.register.bits))
    (data_named part (first + n) (number + n) shared.tap (on_at first r) shared.tdi (net_feeds r.nets)))
    (part SHOWN given (first + end) (number + end) refl)

all_named : PartIsNamed → (first number : ℕ) (shared : SharedNets) (bypass : NetId) (rs : List FittedRegister) → AreNamed (registers_cells first number shared bypass rs)
all_named part first number shared bypass [] = none_named
all_named part first number shared bypass (r ∷ rs) =
    let f : ℕ = first + registers_size rs in
    let n : ℕ = number + registers_size rs in
    both_named (registers_cells first number shared bypass rs) (register_cells f n shared r (shown_of first bypass rs)) (all_named part first number shared bypass rs)
    (register_named part f n shared r (shown_of first bypass rs))

pub registers_named : PartIsNamed → RegistersAreNamed
registers_named part first number opcode bits shared bypass rs =
    both_named (inverses_cells first number opcode bits) (registers_cells (first + bits) (number + bits) shared bypass rs) (inverses_named part first number opcode bits)
    (all_named part (first + bits) (number + bits) shared bypass rs)
