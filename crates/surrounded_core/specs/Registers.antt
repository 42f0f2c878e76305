-- The controller, the test data registers that every device has or may have, what is selected, and TDO: levels
-- and how they stand.
-- Own: the gates are those of tap_gates, register_gates, register_gates and instruction_gates.
use Rattle.std.specs.Prelude.{ℕ, ◌+◌, ◌*◌, ◌<◌, ◌≤◌, List, [], ◌∷◌, Option, Some, None, ⊤}
use Rattle.netlist_model.specs.declared.NetId.{NetId}
use Rattle.netlist_model.specs.declared.Feed.TheVariants.{Net}
use Rattle.gate_parts.specs.Levels.{AreFeedsUpTo}
use Rattle.test_logic.specs.declared.TapNets.{TapNets}
use Rattle.test_logic.specs.declared.InstrNets.{InstrNets}
use Rattle.tap_gates.specs.declared.table.TheConstants.{CONTROLLER}
use Rattle.tap_gates.specs.Controller.{tap_given, tap_cells}
use Rattle.tap_gates.specs.Laws.{tap_levels}
use Rattle.register_gates.specs.declared.bits.Steering.{Steering}
use Rattle.register_gates.specs.declared.bits.TheConstants.{SHIFT_BIT}
use Rattle.register_gates.specs.declared.TheConstants.{SELECTED}
use Rattle.register_gates.specs.declared.ident.TheConstants.{INVERSE}
use Rattle.register_gates.specs.declared.tdo.TheConstants.{TDO}
use Rattle.register_gates.specs.Registers.{selected_given, bypass_cells, user_size, ident_cells}
use Rattle.register_gates.specs.Tdo.{tdo_given, tdo_cells}
use Rattle.instruction_gates.specs.declared.selections.Matched.{Matched}
use Rattle.instruction_gates.specs.declared.selections.TheConstants.{SELECTIONS}
use Rattle.instruction_gates.specs.Selections.{selections_given, selections_cells}
use Rattle.surrounded_core.specs.Above.{AreAbove, AreRanked}

-- own: above TCK, TMS and TRST
abbrev pub TapStandsAbove : Type 0
TapStandsAbove = (rank : ℕ → ℕ) (first number base : ℕ) (tck tms trst : NetId) → AreRanked rank first base tap_levels CONTROLLER
    → AreFeedsUpTo rank base (tap_given tck tms trst) → AreAbove rank (tap_cells first number tck tms trst)

-- own: of a bit of a shift stage: the bit, what is captured, and what is shifted
abbrev pub shift_levels : List ℕ
shift_levels = 0 ∷ 2 ∷ 1 ∷ []

-- own: the nets that steer a shift stage, and the next bit towards TDI, have numbers up to the base
abbrev pub AreStepsUpTo : (ℕ → ℕ) → ℕ → Steering → NetId → Type 0
AreStepsUpTo rank base by next = AreFeedsUpTo rank base (Net by.tck ∷ Net by.trst ∷ Net by.capture ∷ Net by.shift ∷ Net next ∷ [])

-- own: of what steers a test data register
abbrev pub selected_levels : List ℕ
selected_levels = 1 ∷ 1 ∷ []

-- own: what steers a register stands above this base, and its bits above the next
pub record IsHandedUpTo (rank : ℕ → ℕ) (base : ℕ) (tap : TapNets) (on tdi : NetId) : Type 0 where
  pub steering : AreFeedsUpTo rank base (selected_given tap on)
  pub clock : AreFeedsUpTo rank base (Net tap.tck ∷ Net tap.trst ∷ Net tdi ∷ [])

abbrev pub BypassStandsAbove : Type 0
BypassStandsAbove = (rank : ℕ → ℕ) (first number base : ℕ) (tap : TapNets) (on tdi : NetId) → AreRanked rank first base selected_levels SELECTED
    → AreRanked rank (first + 2) (base + 1) shift_levels SHIFT_BIT → IsHandedUpTo rank base tap on tdi → AreAbove rank (bypass_cells first number tap on tdi)

-- own: each bit of a shift stage of so many is numbered so
abbrev pub AreBitsRanked : (ℕ → ℕ) → ℕ → ℕ → ℕ → Type 0
AreBitsRanked rank first base count = (k : ℕ) → k < count → AreRanked rank (first + 3 * k) base shift_levels SHIFT_BIT

-- own: where there is a usercode, the gate that tells that USERCODE isn't in effect
abbrev pub inverse_levels : List ℕ
inverse_levels = 1 ∷ []

abbrev pub IsInverseRanked : (ℕ → ℕ) → ℕ → ℕ → Option ℕ → Type 0
IsInverseRanked rank first base None = ⊤
IsInverseRanked rank first base (Some user) = AreRanked rank first base inverse_levels INVERSE

abbrev pub IdentStandsAbove : Type 0
IdentStandsAbove = (rank : ℕ → ℕ) (first number base : ℕ) (tap : TapNets) (on user_on tdi : NetId) (user : Option ℕ) (code : ℕ) → IsInverseRanked rank first base user
    → AreRanked rank (first + user_size user) base selected_levels SELECTED → AreBitsRanked rank (first + user_size user + 2) (base + 1) 32
    → IsHandedUpTo rank base tap on tdi → rank user_on.0 ≤ base → AreAbove rank (ident_cells first number tap on user_on tdi user code)

-- own: what is selected stands above what tells which opcode is latched
abbrev pub selections_levels : List ℕ
selections_levels = 1 ∷ 2 ∷ 1 ∷ 1 ∷ 1 ∷ 1 ∷ 2 ∷ 2 ∷ 2 ∷ 1 ∷ []

abbrev pub SelectionsStandAbove : Type 0
SelectionsStandAbove = (rank : ℕ → ℕ) (first number base : ℕ) (tap : TapNets) (matched : Matched) → AreRanked rank first base selections_levels SELECTIONS
    → AreFeedsUpTo rank base (selections_given tap matched) → AreAbove rank (selections_cells first number tap matched)

-- own: TDO's driver stands above its two flip-flops
abbrev pub tdo_levels : List ℕ
tdo_levels = 0 ∷ 0 ∷ 3 ∷ 2 ∷ 1 ∷ 1 ∷ []

abbrev pub TdoStandsAbove : Type 0
TdoStandsAbove = (rank : ℕ → ℕ) (first number base : ℕ) (tap : TapNets) (instruction : InstrNets) (bypass : NetId) (ident : Option NetId) (boundary tdo : NetId)
    → AreRanked rank first base tdo_levels TDO → AreFeedsUpTo rank base (tdo_given tap instruction bypass ident boundary)
    → rank first < rank tdo.0 → rank (first + 1) < rank tdo.0 → AreAbove rank (tdo_cells first number tap instruction bypass ident boundary tdo)
