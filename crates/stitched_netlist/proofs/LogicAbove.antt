-- The controller and the registers beside the boundary register, taken together.
use Rattle.std.proofs.Common.{◌≡◌, ℕ, ◌+◌, ◌≤◌, List, [], ◌∷◌, ◌++◌, length, length-append, refl, sym, subst, Option, Some, None, option_map, arith}
use Rattle.std.specs.Option.{option_map_or}
use Rattle.netlist_model.specs.declared.NetId.{NetId}
use Rattle.netlist_model.specs.declared.Feed.{Feed}
use Rattle.netlist_model.specs.Lists.{CellView}
use Rattle.gate_parts.specs.Levels.{AreFeedsUpTo}
use Rattle.test_logic.specs.declared.TapNets.{TapNets}
use Rattle.tap_gates.specs.Laws.{tap_levels}
use Rattle.surrounded_core.specs.register_gates.Registers.{user_size, captured_feeds, ident_cells, ident_last}
use Rattle.surrounded_core.specs.register_gates.Tdo.{ident_feed}
use Rattle.surrounded_core.specs.Above.{AreAbove, PartsStandAbove}
use Rattle.surrounded_core.specs.Registers.{TapStandsAbove, selected_levels, BypassStandsAbove, IdentStandsAbove, SelectionsStandAbove}
use Rattle.surrounded_core.specs.Instructions.{StagesStandAbove, MatchesStandAbove, CopiesStandAbove}
use Rattle.plan_fitting.specs.declared.fitted.Fitted.{Fitted}
use Rattle.stitched_netlist.specs.declared.model.TapPort.{TapPort}
use Rattle.stitched_netlist.specs.ModelRows.{behind}
use Rattle.stitched_netlist.specs.ModelLogic.{instruction_from, bypass_from, ident_from, code_size, logic_size, tap_at, instruction_at, bypass_at, ident_at, controller_part, instruction_part, bypass_part, ident_part, logic_cells}
use Rattle.stitched_netlist.proofs.Few.{captured_counted}
use Rattle.stitched_netlist.proofs.RanksPlaces.{StandAt, front_at, behind_at, levels_at, blocks, length_triples}
use Rattle.stitched_netlist.proofs.RanksLaws.{shift_block, instruction_ranks, control_top, bypass_ranks, inverse_ranks, data_ranks, ident_ranks, logic_ranks}
use Rattle.stitched_netlist.proofs.Logic.{shift_length, tap_above, AreTapNetsLow, tap_nets_low, bypass_above, bypass_low, length_inverse, ident_above}
use Rattle.stitched_netlist.proofs.Instruction.{length_instruction, last_low, IsInstructionThere, instruction_there, instruction_above, AreInstrNetsUpTo, instruction_nets_up}

-- the laws of the parts
pub record PartLaws : Type 0 where
  pub tap : TapStandsAbove
  pub stages : StagesStandAbove
  pub matches : MatchesStandAbove
  pub selections : SelectionsStandAbove
  pub copies : CopiesStandAbove
  pub bypass : BypassStandsAbove
  pub ident : IdentStandsAbove
  pub joined : PartsStandAbove

-- Lengths.

length_ident : (top : ℕ) (user o : Option ℕ) → length (ident_ranks top user o) ≡ code_size user o
length_ident top user None = refl
length_ident top user (Some code) =
    let whole = length-append (inverse_ranks top user) (data_ranks top) in
    let a = length-append (levels_at top selected_levels) (blocks (shift_block (top + 1)) 32) in
    let b = length_triples (shift_block (top + 1)) 32 (shift_length (top + 1)) in
    let c : length (levels_at top selected_levels) ≡ 2 = refl in
    let d : code_size user (Some code) ≡ user_size user + 98 = refl in
    let e = length_inverse top user in
    omega arith

length_front : (f : Fitted) → length (levels_at 0 tap_levels ++ instruction_ranks f.codes) ≡ bypass_from f
length_front f =
    let a = length-append (levels_at 0 tap_levels) (instruction_ranks f.codes) in
    let b = length_instruction f.codes in
    let c : length (levels_at 0 tap_levels) ≡ 49 = refl in
    omega arith

length_middle : (f : Fitted) → length ((levels_at 0 tap_levels ++ instruction_ranks f.codes) ++ bypass_ranks (control_top f.codes)) ≡ ident_from f
length_middle f =
    let a = length-append (levels_at 0 tap_levels ++ instruction_ranks f.codes) (bypass_ranks (control_top f.codes)) in
    let b = length_front f in
    let c : length (bypass_ranks (control_top f.codes)) ≡ 5 = refl in
    omega arith

pub length_logic : (f : Fitted) → length (logic_ranks f.codes f.usercode f.idcode) ≡ logic_size f
length_logic f =
    let a = length-append ((levels_at 0 tap_levels ++ instruction_ranks f.codes) ++ bypass_ranks (control_top f.codes)) (ident_ranks (control_top f.codes) f.usercode f.idcode) in
    let b = length_middle f in
    let c = length_ident (control_top f.codes) f.usercode f.idcode in
    omega arith

-- The test access port: its inputs have the number 0.

pub record IsPortLow (rank : ℕ → ℕ) (port : TapPort) : Type 0 where
  pub tck : rank port.tck.0 ≡ 0
  pub tms : rank port.tms.0 ≡ 0
  pub tdi : rank port.tdi.0 ≡ 0
  pub tdo : rank port.tdo.0 ≡ 1
  pub trst : rank port.trst.0 ≡ 0

record IsLogicThere (rank : ℕ → ℕ) (first : ℕ) (f : Fitted) : Type 0 where
  controller : StandAt rank first (levels_at 0 tap_levels)
  instruction : IsInstructionThere rank (first + instruction_from) f.codes
  bypass : StandAt rank (first + bypass_from f) (bypass_ranks (control_top f.codes))
  ident : StandAt rank (first + ident_from f) (ident_ranks (control_top f.codes) f.usercode f.idcode)

logic_there : (rank : ℕ → ℕ) (first : ℕ) (f : Fitted) → StandAt rank first (logic_ranks f.codes f.usercode f.idcode) → IsLogicThere rank first f
logic_there rank first f at =
    let one : List ℕ = levels_at 0 tap_levels in
    let two : List ℕ = instruction_ranks f.codes in
    let three : List ℕ = bypass_ranks (control_top f.codes) in
    let four : List ℕ = ident_ranks (control_top f.codes) f.usercode f.idcode in
    let a = front_at rank first ((one ++ two) ++ three) four at in
    let b = front_at rank first (one ++ two) three a in
    record {
      controller = front_at rank first one two b;
      instruction = instruction_there rank (first + instruction_from) f.codes (behind_at rank first instruction_from one two refl b);
      bypass = behind_at rank first (bypass_from f) (one ++ two) three (length_front f) a;
      ident = behind_at rank first (ident_from f) ((one ++ two) ++ three) four (length_middle f) at;
    }

-- What the parts hand on.

pub record IsLogicLow (rank : ℕ → ℕ) (first : ℕ) (port : TapPort) (f : Fitted) : Type 0 where
  pub tap : AreTapNetsLow rank (tap_at first port)
  pub instruction : AreInstrNetsUpTo rank (control_top f.codes) (instruction_at first port f)
  pub bypass : rank (bypass_at first f).0 ≡ 0
  pub ident : AreFeedsUpTo rank (control_top f.codes) (ident_feed (ident_at first port f) ∷ [])

ident_low : (rank : ℕ → ℕ) (first top : ℕ) (user_on tdi : NetId) (user o : Option ℕ) → StandAt rank first (ident_ranks top user o) → rank tdi.0 ≡ 0
    → AreFeedsUpTo rank top (ident_feed (option_map (ident_last first user_on tdi user) o) ∷ [])
ident_low rank first top user_on tdi user None at a = tt
ident_low rank first top user_on tdi user (Some code) at a =
    let start : ℕ = first + user_size user in
    let captured : List Feed = captured_feeds first user_on user code in
    let data_register = behind_at rank first (user_size user) (inverse_ranks top user) (data_ranks top) (length_inverse top user) at in
    let bits = behind_at rank start 2 (levels_at top selected_levels) (blocks (shift_block (top + 1)) 32) refl data_register in
    let many : length captured ≡ 32 = captured_counted first user_on user code in
    let zeroth = last_low rank (start + 2) (top + 1) tdi captured (subst (λ (n : ℕ). StandAt rank (start + 2) (blocks (shift_block (top + 1)) n)) (sym many) bits) a in
    (omega arith, tt)

pub logic_low : (rank : ℕ → ℕ) (first : ℕ) (port : TapPort) (f : Fitted) → StandAt rank first (logic_ranks f.codes f.usercode f.idcode) → IsPortLow rank port → IsLogicLow rank first port f
logic_low rank first port f at low =
    let there = logic_there rank first f at in
    let tap = tap_nets_low rank first port.tck port.trst there.controller low.tck low.trst in
    record {
      tap = tap;
      instruction = instruction_nets_up rank (first + instruction_from) (tap_at first port) port.tdi f.codes there.instruction tap low.tdi;
      bypass = bypass_low rank (first + bypass_from f) (control_top f.codes) there.bypass;
      ident = ident_low rank (first + ident_from f) (control_top f.codes) (instruction_at first port f).user_on port.tdi f.usercode f.idcode there.ident low.tdi;
    }

-- Their gates.

ident_part_above : IdentStandsAbove → (rank : ℕ → ℕ) (first number top : ℕ) (tap : TapNets) (on user_on tdi : NetId) (user o : Option ℕ)
    → StandAt rank first (ident_ranks top user o) → AreTapNetsLow rank tap → rank on.0 ≤ top → rank user_on.0 ≤ top → rank tdi.0 ≡ 0
    → AreAbove rank (option_map_or (ident_cells first number tap on user_on tdi user) o [])
ident_part_above law rank first number top tap on user_on tdi user None at low a u b = tt
ident_part_above law rank first number top tap on user_on tdi user (Some code) at low a u b = ident_above law rank first number top tap on user_on tdi user code at low a u b

pub logic_above : PartLaws → (rank : ℕ → ℕ) (first number : ℕ) (port : TapPort) (f : Fitted) → StandAt rank first (logic_ranks f.codes f.usercode f.idcode) → IsPortLow rank port
    → AreAbove rank (logic_cells first number port f)
logic_above laws rank first number port f at low =
    let there = logic_there rank first f at in
    let hands = logic_low rank first port f at low in
    let C : List CellView = controller_part first port number in
    let CI : List CellView = behind number C (instruction_part first port f) in
    let CIP : List CellView = behind number CI (bypass_part first port f) in
    laws.joined rank CIP (ident_part first port f (number + length CIP))
    (laws.joined rank CI (bypass_part first port f (number + length CI))
    (laws.joined rank C (instruction_part first port f (number + length C))
    (tap_above laws.tap rank first number port.tck port.tms port.trst there.controller low.tck low.tms low.trst)
    (instruction_above laws.stages laws.matches laws.selections laws.copies laws.joined rank (first + instruction_from) (number + length C) (tap_at first port) port.tdi f.codes there.instruction hands.tap low.tdi))
    (bypass_above laws.bypass rank (first + bypass_from f) (number + length CI) (control_top f.codes) (tap_at first port) (instruction_at first port f).bypass_on port.tdi there.bypass hands.tap
    hands.instruction.bypass_on low.tdi))
    (ident_part_above laws.ident rank (first + ident_from f) (number + length CIP) (control_top f.codes) (tap_at first port) (instruction_at first port f).ident_on
    (instruction_at first port f).user_on port.tdi f.usercode f.idcode there.ident hands.tap hands.instruction.ident_on hands.instruction.user_on low.tdi)
