-- The controller, the bypass register, the identification register and TDO.
use Rattle.std.proofs.Common.{◌≡◌, ℕ, ◌+◌, ◌*◌, ◌≤◌, [], ◌∷◌, length, refl, Option, Some, None, arith}
use Rattle.netlist_model.specs.declared.NetId.{NetId}
use Rattle.netlist_model.specs.declared.Feed.TheVariants.{Net}
use Rattle.gate_parts.specs.Levels.{AreFeedsUpTo}
use Rattle.test_logic.specs.declared.TapNets.{TapNets}
use Rattle.test_logic.specs.declared.InstrNets.{InstrNets}
use Rattle.tap_gates.specs.declared.table.TheConstants.{CONTROLLER}
use Rattle.tap_gates.specs.Controller.{tap_cells, tap_nets}
use Rattle.tap_gates.specs.Laws.{tap_levels}
use Rattle.surrounded_core.specs.register_gates.declared.bits.TheConstants.{SHIFT_BIT}
use Rattle.surrounded_core.specs.register_gates.declared.TheConstants.{SELECTED}
use Rattle.surrounded_core.specs.register_gates.declared.ident.TheConstants.{INVERSE}
use Rattle.surrounded_core.specs.register_gates.declared.tdo.TheConstants.{TDO}
use Rattle.surrounded_core.specs.register_gates.Registers.{bypass_cells, user_size, ident_cells}
use Rattle.surrounded_core.specs.register_gates.Tdo.{ident_feed, tdo_cells}
use Rattle.surrounded_core.specs.Above.{AreAbove}
use Rattle.surrounded_core.specs.Registers.{TapStandsAbove, shift_levels, selected_levels, AreBitsRanked, BypassStandsAbove, inverse_levels, IsInverseRanked, IdentStandsAbove, IsHandedUpTo, tdo_levels, TdoStandsAbove}
use Rattle.surrounded_core.proofs.Feeds.{up_cons}
use Rattle.stitched_netlist.proofs.RanksPlaces.{StandAt, front_at, behind_at, first_at, levels_at, ranked, blocks, triples_at}
use Rattle.stitched_netlist.proofs.RanksLaws.{shift_block, bypass_ranks, inverse_ranks, data_ranks, ident_ranks}

pub shift_length : (base k : ℕ) → length (shift_block base k) ≡ 3
shift_length base k = refl

-- the bits of a shift stage
pub bits_ranked : (rank : ℕ → ℕ) (first base count : ℕ) → StandAt rank first (blocks (shift_block base) count) → AreBitsRanked rank first base count
bits_ranked rank first base count at k low =
    ranked rank (first + 3 * k) base shift_levels SHIFT_BIT refl (triples_at rank first (shift_block base) count (shift_length base) at k low)

-- the controller
pub tap_above : TapStandsAbove → (rank : ℕ → ℕ) (first number : ℕ) (tck tms trst : NetId) → StandAt rank first (levels_at 0 tap_levels)
    → rank tck.0 ≡ 0 → rank tms.0 ≡ 0 → rank trst.0 ≡ 0 → AreAbove rank (tap_cells first number tck tms trst)
tap_above law rank first number tck tms trst at a b c =
    law rank first number 0 tck tms trst (ranked rank first 0 tap_levels CONTROLLER refl at) (omega arith, (omega arith, (omega arith, tt)))

-- what the controller hands on is flip-flops
pub record AreTapNetsLow (rank : ℕ → ℕ) (tap : TapNets) : Type 0 where
  pub tck : rank tap.tck.0 ≡ 0
  pub trst : rank tap.trst.0 ≡ 0
  pub in_reset : rank tap.in_reset.0 ≡ 0
  pub capture_dr : rank tap.capture_dr.0 ≡ 0
  pub shift_dr : rank tap.shift_dr.0 ≡ 0
  pub update_dr : rank tap.update_dr.0 ≡ 0
  pub capture_ir : rank tap.capture_ir.0 ≡ 0
  pub shift_ir : rank tap.shift_ir.0 ≡ 0
  pub update_ir : rank tap.update_ir.0 ≡ 0

pub tap_nets_low : (rank : ℕ → ℕ) (first : ℕ) (tck trst : NetId) → StandAt rank first (levels_at 0 tap_levels) → rank tck.0 ≡ 0 → rank trst.0 ≡ 0
    → AreTapNetsLow rank (tap_nets first tck trst)
tap_nets_low rank first tck trst at a b = record {
  tck = a;
  trst = b;
  in_reset = at 0 0 refl;
  capture_dr = at 3 0 refl;
  shift_dr = at 4 0 refl;
  update_dr = at 8 0 refl;
  capture_ir = at 10 0 refl;
  shift_ir = at 11 0 refl;
  update_ir = at 15 0 refl;
}

-- the registers

handed : (rank : ℕ → ℕ) (base : ℕ) (tap : TapNets) (on tdi : NetId) → AreTapNetsLow rank tap → rank on.0 ≤ base → rank tdi.0 ≡ 0 → IsHandedUpTo rank base tap on tdi
handed rank base tap on tdi low a b =
    let t = low.tck in let r = low.trst in let c = low.capture_dr in let s = low.shift_dr in
    record { steering = (omega arith, (omega arith, (a, tt))); clock = (omega arith, (omega arith, (omega arith, tt))) }

pub bypass_above : BypassStandsAbove → (rank : ℕ → ℕ) (first number top : ℕ) (tap : TapNets) (on tdi : NetId) → StandAt rank first (bypass_ranks top)
    → AreTapNetsLow rank tap → rank on.0 ≤ top → rank tdi.0 ≡ 0 → AreAbove rank (bypass_cells first number tap on tdi)
bypass_above law rank first number top tap on tdi at low a b =
    law rank first number top tap on tdi
    (ranked rank first top selected_levels SELECTED refl (front_at rank first (levels_at top selected_levels) (levels_at (top + 1) shift_levels) at))
    (ranked rank (first + 2) (top + 1) shift_levels SHIFT_BIT refl (behind_at rank first 2 (levels_at top selected_levels) (levels_at (top + 1) shift_levels) refl at))
    (handed rank top tap on tdi low a b)

pub bypass_low : (rank : ℕ → ℕ) (first top : ℕ) → StandAt rank first (bypass_ranks top) → rank (first + 2) ≡ 0
bypass_low rank first top at = at 2 0 refl

pub length_inverse : (top : ℕ) (user : Option ℕ) → length (inverse_ranks top user) ≡ user_size user
length_inverse top None = refl
length_inverse top (Some user) = refl

inverse_ranked : (rank : ℕ → ℕ) (first top : ℕ) (user : Option ℕ) → StandAt rank first (inverse_ranks top user) → IsInverseRanked rank first top user
inverse_ranked rank first top None at = tt
inverse_ranked rank first top (Some user) at = ranked rank first top inverse_levels INVERSE refl at

pub ident_above : IdentStandsAbove → (rank : ℕ → ℕ) (first number top : ℕ) (tap : TapNets) (on user_on tdi : NetId) (user : Option ℕ) (code : ℕ)
    → StandAt rank first (ident_ranks top user (Some code)) → AreTapNetsLow rank tap → rank on.0 ≤ top → rank user_on.0 ≤ top → rank tdi.0 ≡ 0
    → AreAbove rank (ident_cells first number tap on user_on tdi user code)
ident_above law rank first number top tap on user_on tdi user code at low a u b =
    let data_register = behind_at rank first (user_size user) (inverse_ranks top user) (data_ranks top) (length_inverse top user) at in
    law rank first number top tap on user_on tdi user code (inverse_ranked rank first top user (front_at rank first (inverse_ranks top user) (data_ranks top) at))
    (ranked rank (first + user_size user) top selected_levels SELECTED refl (front_at rank (first + user_size user) (levels_at top selected_levels) (blocks (shift_block (top + 1)) 32) data_register))
    (bits_ranked rank (first + user_size user + 2) (top + 1) 32
    (behind_at rank (first + user_size user) 2 (levels_at top selected_levels) (blocks (shift_block (top + 1)) 32) refl data_register))
    (handed rank top tap on tdi low a b) u

-- TDO

pub tdo_above : TdoStandsAbove → (rank : ℕ → ℕ) (first number top : ℕ) (tap : TapNets) (instruction : InstrNets) (bypass : NetId) (ident : Option NetId) (boundary tdo : NetId)
    → StandAt rank first (levels_at top tdo_levels) → AreTapNetsLow rank tap → rank instruction.last.0 ≤ top → rank instruction.bypass_on.0 ≤ top → rank instruction.ident_on.0 ≤ top
    → rank bypass.0 ≤ top → AreFeedsUpTo rank top (ident_feed ident ∷ []) → rank boundary.0 ≤ top → rank tdo.0 ≡ 1
    → AreAbove rank (tdo_cells first number tap instruction bypass ident boundary tdo)
tdo_above law rank first number top tap instruction bypass ident boundary tdo at low a b c d e g out =
    let t = low.tck in let r = low.trst in let dr = low.shift_dr in let ir = low.shift_ir in
    let one : rank first ≡ 0 = first_at rank first 0 (levels_at top tdo_levels) at refl in
    let two : rank (first + 1) ≡ 0 = at 1 0 refl in
    law rank first number top tap instruction bypass ident boundary tdo (ranked rank first top tdo_levels TDO refl at)
    (omega arith, (omega arith, (omega arith, (omega arith, (a, (b, (c, (d, up_cons rank top (ident_feed ident) (Net boundary ∷ []) e (g, tt)))))))))
    (omega arith) (omega arith)
