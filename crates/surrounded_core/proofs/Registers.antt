-- The controller, the registers and TDO.
use Rattle.std.proofs.Common.{◌≡◌, ℕ, ◌+◌, ◌*◌, ◌≤◌, List, [], ◌∷◌, length, refl, sym, subst, Some, None, arith, false}
use Rattle.netlist_model.specs.declared.NetId.{NetId}
use Rattle.netlist_model.specs.declared.Feed.{Feed}
use Rattle.netlist_model.specs.declared.Feed.TheVariants.{Net, Const}
use Rattle.gate_parts.specs.Parts.{part_cells}
use Rattle.gate_parts.specs.Levels.{AreFeedsUpTo}
use Rattle.test_logic.specs.declared.TapNets.{TapNets}
use Rattle.tap_gates.specs.declared.table.TheConstants.{CONTROLLER}
use Rattle.tap_gates.specs.Controller.{tap_given}
use Rattle.tap_gates.specs.Laws.{tap_levels}
use Rattle.register_gates.specs.declared.bits.Steering.{Steering}
use Rattle.register_gates.specs.declared.bits.TheConstants.{SHIFT_BIT}
use Rattle.register_gates.specs.Bits.{shift_bit_given, shift_bit_cells}
use Rattle.register_gates.specs.Chains.{chain_cells, chain_last}
use Rattle.register_gates.specs.declared.TheConstants.{SELECTED}
use Rattle.register_gates.specs.declared.ident.TheConstants.{INVERSE}
use Rattle.register_gates.specs.declared.tdo.TheConstants.{TDO}
use Rattle.register_gates.specs.Constants.{constant_bits, ConstantsAreBits}
use Rattle.register_gates.specs.Choices.{choice_bits, ChoicesAreBits}
use Rattle.register_gates.specs.Registers.{selected_given, selected_cells, selected_steering, data_cells}
use Rattle.register_gates.specs.Tdo.{tdo_given, tdo_driver}
use Rattle.instruction_gates.specs.declared.selections.TheConstants.{SELECTIONS}
use Rattle.instruction_gates.specs.Selections.{selections_given}
use Rattle.surrounded_core.specs.Above.{AreAbove, AreRanked}
use Rattle.surrounded_core.specs.Registers.{TapStandsAbove, shift_levels, AreStepsUpTo, selected_levels, BypassStandsAbove, AreBitsRanked, inverse_levels, IsHandedUpTo, IdentStandsAbove, selections_levels, SelectionsStandAbove, tdo_levels, TdoStandsAbove}
use Rattle.surrounded_core.proofs.Above.{tables, joined}
use Rattle.surrounded_core.proofs.Feeds.{up_cons, up_head, up_tail, up_constants, up_choices}

pub tap : TapStandsAbove
tap = λ rank first number base tck tms trst ranked up. tables rank first number base tap_levels CONTROLLER (tap_given tck tms trst) refl ranked up

pub selections : SelectionsStandAbove
selections = λ rank first number base by matched ranked up. tables rank first number base selections_levels SELECTIONS (selections_given by matched) refl ranked up

pub tdo : TdoStandsAbove
tdo = λ rank first number base by instruction bypass ident boundary out ranked up low low'.
    joined rank (part_cells TDO (tdo_given by instruction bypass ident boundary) first number) (tdo_driver first out (number + 6) ∷ [])
    (tables rank first number base tdo_levels TDO (tdo_given by instruction bypass ident boundary) refl ranked up)
    ((λ is. (low, (low', tt))), tt)

-- one bit of a shift stage
pub shift_bit : (rank : ℕ → ℕ) (first number base : ℕ) (by : Steering) (captured : Feed) (next : NetId) → AreRanked rank first base shift_levels SHIFT_BIT
    → AreStepsUpTo rank base by next → AreFeedsUpTo rank base (captured ∷ []) → AreAbove rank (shift_bit_cells first number by captured next)
shift_bit rank first number base by captured next ranked up up' =
    tables rank first number base shift_levels SHIFT_BIT (shift_bit_given by captured next) refl ranked
    (up.0, (up.1.0, (up.1.1.0, (up.1.1.1.0, up_cons rank base captured (Net next ∷ []) up' up.1.1.1.1))))

-- the bit before in a chain
last_up : (rank : ℕ → ℕ) (first base : ℕ) (tdi : NetId) (captured : List Feed) → AreBitsRanked rank first base (length captured) → rank tdi.0 ≤ base
    → rank (chain_last first tdi captured).0 ≤ base
last_up rank first base tdi [] bits up = up
last_up rank first base tdi (c ∷ rest) bits up =
    let bit = (bits (length rest) (omega arith)).up_to 0 (omega arith) in
    let z : first + 3 * length rest + 0 ≡ first + 3 * length rest = omega arith in
    let here : rank (first + 3 * length rest) ≤ base + 0 = rw z at bit in
    omega arith

pub chain : (rank : ℕ → ℕ) (first number base : ℕ) (by : Steering) (tdi : NetId) (captured : List Feed) → AreBitsRanked rank first base (length captured)
    → AreStepsUpTo rank base by tdi → AreFeedsUpTo rank base captured → AreAbove rank (chain_cells first number by tdi captured)
chain rank first number base by tdi [] bits steps up = tt
chain rank first number base by tdi (c ∷ rest) bits steps up =
    let fewer : AreBitsRanked rank first base (length rest) = λ k below. bits k (omega arith) in
    let before : rank (chain_last first tdi rest).0 ≤ base = last_up rank first base tdi rest fewer steps.1.1.1.1.0 in
    joined rank (chain_cells first number by tdi rest) (shift_bit_cells (first + 3 * length rest) (number + 3 * length rest) by c (chain_last first tdi rest))
    (chain rank first number base by tdi rest fewer steps (up_tail rank base c rest up))
    (shift_bit rank (first + 3 * length rest) (number + 3 * length rest) base by c (chain_last first tdi rest) (bits (length rest) (omega arith))
    (steps.0, (steps.1.0, (steps.1.1.0, (steps.1.1.1.0, (before, tt))))) (up_head rank base c rest up))

-- what steers a register
selected_up : (rank : ℕ → ℕ) (first base : ℕ) → AreRanked rank first base selected_levels SELECTED → (rank first ≤ base + 1) × (rank (first + 1) ≤ base + 1)
selected_up rank first base ranked =
    let z : first + 0 ≡ first = omega arith in
    let one : rank (first + 0) ≤ base + 1 = ranked.up_to 0 (omega arith) in
    let two : rank (first + 1) ≤ base + 1 = ranked.up_to 1 (omega arith) in
    (rw z at one, two)

pub bypass : BypassStandsAbove
bypass = λ rank first number base by on tdi ranked bit handed.
    let own = selected_up rank first base ranked in
    joined rank (selected_cells first number by on) (shift_bit_cells (first + 2) (number + 2) (selected_steering first by) (Const false) tdi)
    (tables rank first number base selected_levels SELECTED (selected_given by on) refl ranked handed.steering)
    (shift_bit rank (first + 2) (number + 2) (base + 1) (selected_steering first by) (Const false) tdi bit
    (let c0 = handed.clock.0 in let c1 = handed.clock.1.0 in let c2 = handed.clock.1.1.0 in
    (omega arith, (omega arith, (own.0, (own.1, (omega arith, tt)))))) tt)

-- a register that captures these
data_register : (rank : ℕ → ℕ) (first number base : ℕ) (by : TapNets) (on tdi : NetId) (captured : List Feed) → AreRanked rank first base selected_levels SELECTED
    → AreBitsRanked rank (first + 2) (base + 1) (length captured) → IsHandedUpTo rank base by on tdi → AreFeedsUpTo rank (base + 1) captured
    → AreAbove rank (data_cells first number by on tdi captured)
data_register rank first number base by on tdi captured ranked bits handed up =
    let own = selected_up rank first base ranked in
    joined rank (selected_cells first number by on) (chain_cells (first + 2) (number + 2) (selected_steering first by) tdi captured)
    (tables rank first number base selected_levels SELECTED (selected_given by on) refl ranked handed.steering)
    (chain rank (first + 2) (number + 2) (base + 1) (selected_steering first by) tdi captured bits
    (let c0 = handed.clock.0 in let c1 = handed.clock.1.0 in let c2 = handed.clock.1.1.0 in
    (omega arith, (omega arith, (own.0, (own.1, (omega arith, tt)))))) up)

pub ident : ConstantsAreBits → ChoicesAreBits → IdentStandsAbove
ident constants choices rank first number base by on user_on tdi None code inverse ranked bits handed low =
    let captured : List Feed = constant_bits 32 code in
    let many : 32 ≡ length captured = sym (constants 32 code).counted in
    data_register rank (first + 0) (number + 0) base by on tdi captured ranked (subst (λ (n : ℕ). AreBitsRanked rank (first + 0 + 2) (base + 1) n) many bits) handed
    (up_constants rank (base + 1) 32 code)
ident constants choices rank first number base by on user_on tdi (Some user) code inverse ranked bits handed low =
    let off : NetId = record { 0 = first } in
    let captured : List Feed = choice_bits 32 code user user_on off in
    let many : 32 ≡ length captured = sym (choices 32 code user user_on off).counted in
    let here : rank (first + 0) ≤ base + 1 = inverse.up_to 0 (omega arith) in
    let z : first + 0 ≡ first = omega arith in
    joined rank (part_cells INVERSE (Net user_on ∷ []) first number) (data_cells (first + 1) (number + 1) by on tdi captured)
    (tables rank first number base inverse_levels INVERSE (Net user_on ∷ []) refl inverse (low, tt))
    (data_register rank (first + 1) (number + 1) base by on tdi captured ranked (subst (λ (n : ℕ). AreBitsRanked rank (first + 1 + 2) (base + 1) n) many bits) handed
    (up_choices rank (base + 1) 32 code user user_on off (omega arith) (rw z at here)))
