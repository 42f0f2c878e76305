-- The cells of the controller and of each register beside the boundary register, and TDO's.
use Rattle.std.proofs.Common.{◌≡◌, ℕ, ◌+◌, ◌*◌, ◌<◌, false, List, [], ◌∷◌, length, refl, sym, ap, arith, Some, None}
use Rattle.std.specs.Prelude.{Option}
use Rattle.netlist_model.specs.declared.NetId.{NetId}
use Rattle.netlist_model.specs.declared.Feed.{Feed}
use Rattle.netlist_model.specs.declared.Feed.TheVariants.{Net, Const}
use Rattle.gate_parts.specs.Parts.{part_cells}
use Rattle.test_logic.specs.declared.InstrNets.{InstrNets}
use Rattle.test_logic.specs.declared.TapNets.{TapNets}
use Rattle.tap_gates.specs.declared.table.TheConstants.{CONTROLLER}
use Rattle.tap_gates.specs.Controller.{tap_given}
use Rattle.surrounded_core.specs.register_gates.declared.bits.TheConstants.{SHIFT_BIT}
use Rattle.surrounded_core.specs.register_gates.Bits.{shift_bit_given, shift_bit_cells}
use Rattle.surrounded_core.specs.register_gates.Chains.{chain_cells}
use Rattle.surrounded_core.specs.register_gates.declared.TheConstants.{SELECTED}
use Rattle.surrounded_core.specs.register_gates.declared.ident.TheConstants.{INVERSE}
use Rattle.surrounded_core.specs.register_gates.declared.tdo.TheConstants.{TDO}
use Rattle.surrounded_core.specs.register_gates.Registers.{selected_given, selected_cells, selected_steering, bypass_cells, data_cells, user_size, inverse_cells, captured_feeds, ident_size, ident_cells}
use Rattle.surrounded_core.specs.register_gates.Tdo.{tdo_given}
use Rattle.surrounded_core.specs.instruction_gates.Register.{stages_size, opcodes_size, matched_instructions, instruction_size}
use Rattle.plan_fitting.specs.declared.fitted.Fitted.{Fitted}
use Rattle.stitched_netlist.specs.declared.model.TapPort.{TapPort}
use Rattle.stitched_netlist.specs.ModelLogic.{instruction_from, bypass_from, ident_from, code_size, tap_at, instruction_at, ident_part}
use Rattle.stitched_netlist.proofs.Few.{inverse_counted, captured_counted}
use Rattle.stitched_netlist.specs.Gates.{EachCell, DriveInTurn, FeedsAre, IsLogicCell}
use Rattle.stitched_netlist.specs.CellsLogic.{LogicNets, LogicCells, LogicTurns}
use Rattle.stitched_netlist.proofs.Tables.{each_append, turn_append, turn_moved, table_turn, table_logic, plain_logic}
use Rattle.stitched_netlist.proofs.Registers.{Between, captured_are, SteeringAre, shift_logic, chain_turn, chain_logic}
use Rattle.stitched_netlist.proofs.Instructions.{instruction_turn, TapAre, instruction_logic}

-- Nets in turn.

bypass_turn : (first number : ℕ) (tap : TapNets) (on tdi : NetId) → DriveInTurn first (bypass_cells first number tap on tdi)
bypass_turn first number tap on tdi =
    let front = selected_cells first number tap on in
    let bits = shift_bit_cells (first + 2) (number + 2) (selected_steering first tap) (Const false) tdi in
    let two : length front ≡ 2 = refl in
    turn_append first front bits (table_turn SELECTED (selected_given tap on) first number)
    (turn_moved (first + 2) (first + length front) bits (omega arith)
    (table_turn SHIFT_BIT (shift_bit_given (selected_steering first tap) (Const false) tdi) (first + 2) (number + 2)))

data_turn : (first number : ℕ) (tap : TapNets) (on tdi : NetId) (captured : List Feed) → DriveInTurn first (data_cells first number tap on tdi captured)
data_turn first number tap on tdi captured =
    let front = selected_cells first number tap on in
    let bits = chain_cells (first + 2) (number + 2) (selected_steering first tap) tdi captured in
    let two : length front ≡ 2 = refl in
    turn_append first front bits (table_turn SELECTED (selected_given tap on) first number)
    (turn_moved (first + 2) (first + length front) bits (omega arith) (chain_turn (first + 2) (number + 2) (selected_steering first tap) tdi captured))

inverse_turn : (first number : ℕ) (user_on : NetId) (user : Option ℕ) → DriveInTurn first (inverse_cells first number user_on user)
inverse_turn first number user_on None = tt
inverse_turn first number user_on (Some user) = table_turn INVERSE (Net user_on ∷ []) first number

ident_turn : (first number : ℕ) (tap : TapNets) (on user_on tdi : NetId) (user : Option ℕ) (code : ℕ) → DriveInTurn first (ident_cells first number tap on user_on tdi user code)
ident_turn first number tap on user_on tdi user code =
    let captured = captured_feeds first user_on user code in
    let inverse = inverse_cells first number user_on user in
    let data_register = data_cells (first + user_size user) (number + user_size user) tap on tdi captured in
    turn_append first inverse data_register (inverse_turn first number user_on user)
    (turn_moved (first + user_size user) (first + length inverse) data_register (ap (λ (n : ℕ). first + n) (sym (inverse_counted first number user_on user)))
    (data_turn (first + user_size user) (number + user_size user) tap on tdi captured))

ident_part_turn : (first : ℕ) (port : TapPort) (f : Fitted) (number : ℕ) → DriveInTurn (first + ident_from f) (ident_part first port f number)
ident_part_turn first port f number = by f.idcode
  where
    by : (code : Option ℕ) → DriveInTurn (first + ident_from f) (ident_part first port (record f { idcode = code }) number)
    by None = tt
    by (Some code) = ident_turn (first + ident_from f) number (tap_at first port) (instruction_at first port f).ident_on (instruction_at first port f).user_on port.tdi f.usercode code

pub logic_turns : (first : ℕ) (port : TapPort) (f : Fitted) (number : ℕ) → LogicTurns first port f number
logic_turns first port f number = record {
  controller = table_turn CONTROLLER (tap_given port.tck port.tms port.trst) first number;
  instruction = instruction_turn (first + instruction_from) number (tap_at first port) port.tdi f.codes;
  bypass = bypass_turn (first + bypass_from f) number (tap_at first port) (instruction_at first port f).bypass_on port.tdi;
  ident = ident_part_turn first port f number;
}

-- What they read.

pub tap_are : (first : ℕ) (port : TapPort) (f : Fitted) (P : ℕ → Type 0) → LogicNets first port f P → TapAre P (tap_at first port)
tap_are first port f P c = record {
  tck = c.tck;
  trst = c.trst;
  in_reset = state 0 (omega arith);
  capture_dr = state 3 (omega arith);
  shift_dr = state 4 (omega arith);
  update_dr = state 8 (omega arith);
  capture_ir = state 10 (omega arith);
  shift_ir = state 11 (omega arith);
  update_ir = state 15 (omega arith);
}
  where
    state : (k : ℕ) → k < 16 → P (first + k)
    state k below = c.own (first + k) (omega arith) (omega arith)

selected_are : (P : ℕ → Type 0) (first number : ℕ) (tap : TapNets) (on : NetId) → TapAre P tap → P on.0 → Between P first (first + 2)
    → EachCell (IsLogicCell tap.tck tap.trst P) (selected_cells first number tap on)
selected_are P first number tap on t o own =
    plain_logic SELECTED (selected_given tap on) first number tap.tck tap.trst P refl (t.capture_dr, (t.shift_dr, (o, tt))) (λ j below. own (first + j) (omega arith) (omega arith))

steering_are : (P : ℕ → Type 0) (first : ℕ) (tap : TapNets) → TapAre P tap → Between P first (first + 2) → SteeringAre P (selected_steering first tap)
steering_are P first tap t own = record { tck = t.tck; trst = t.trst; capture = own first (omega arith) (omega arith); shift = own (first + 1) (omega arith) (omega arith) }

bypass_logic : (P : ℕ → Type 0) (first number : ℕ) (tap : TapNets) (on tdi : NetId) → TapAre P tap → P on.0 → P tdi.0 → Between P first (first + 5)
    → EachCell (IsLogicCell tap.tck tap.trst P) (bypass_cells first number tap on tdi)
bypass_logic P first number tap on tdi t o d own =
    let two : Between P first (first + 2) = λ net low high. own net low (omega arith) in
    each_append (IsLogicCell tap.tck tap.trst P) (selected_cells first number tap on) (shift_bit_cells (first + 2) (number + 2) (selected_steering first tap) (Const false) tdi)
    (selected_are P first number tap on t o two)
    (shift_logic P (first + 2) (number + 2) (selected_steering first tap) (Const false) tdi (steering_are P first tap t two) tt d (λ net low high. own net (omega arith) (omega arith)))

data_logic : (P : ℕ → Type 0) (first number : ℕ) (tap : TapNets) (on tdi : NetId) (captured : List Feed) → TapAre P tap → P on.0 → P tdi.0 → FeedsAre P captured
    → Between P first (first + (2 + 3 * length captured)) → EachCell (IsLogicCell tap.tck tap.trst P) (data_cells first number tap on tdi captured)
data_logic P first number tap on tdi captured t o d are own =
    let two : Between P first (first + 2) = λ net low high. own net low (omega arith) in
    each_append (IsLogicCell tap.tck tap.trst P) (selected_cells first number tap on) (chain_cells (first + 2) (number + 2) (selected_steering first tap) tdi captured)
    (selected_are P first number tap on t o two)
    (chain_logic P (first + 2) (number + 2) (selected_steering first tap) tdi captured (steering_are P first tap t two) are d (λ net low high. own net (omega arith) (omega arith)))

inverse_logic : (tck trst : NetId) (P : ℕ → Type 0) (first number : ℕ) (user_on : NetId) (user : Option ℕ) → P user_on.0 → Between P first (first + user_size user)
    → EachCell (IsLogicCell tck trst P) (inverse_cells first number user_on user)
inverse_logic tck trst P first number user_on None u own = tt
inverse_logic tck trst P first number user_on (Some user) u own =
    plain_logic INVERSE (Net user_on ∷ []) first number tck trst P refl (u, tt) (λ j below. own (first + j) (omega arith) (omega arith))

ident_logic : (P : ℕ → Type 0) (first number : ℕ) (tap : TapNets) (on user_on tdi : NetId) (user : Option ℕ) (code : ℕ) → TapAre P tap → P on.0 → P user_on.0 → P tdi.0
    → Between P first (first + ident_size user) → EachCell (IsLogicCell tap.tck tap.trst P) (ident_cells first number tap on user_on tdi user code)
ident_logic P first number tap on user_on tdi user code t o u d own =
    let captured : List Feed = captured_feeds first user_on user code in
    let many : length captured ≡ 32 = captured_counted first user_on user code in
    let front : Between P first (first + user_size user) = λ net low high. own net low (omega arith) in
    each_append (IsLogicCell tap.tck tap.trst P) (inverse_cells first number user_on user) (data_cells (first + user_size user) (number + user_size user) tap on tdi captured)
    (inverse_logic tap.tck tap.trst P first number user_on user u front)
    (data_logic P (first + user_size user) (number + user_size user) tap on tdi captured t o d (captured_are P first user_on user code u front)
    (λ net low high. own net (omega arith) (omega arith)))

ident_part_logic : (first : ℕ) (port : TapPort) (f : Fitted) (P : ℕ → Type 0) → LogicNets first port f P → P (instruction_at first port f).ident_on.0
    → P (instruction_at first port f).user_on.0 → (number : ℕ) → EachCell (IsLogicCell port.tck port.trst P) (ident_part first port f number)
ident_part_logic first port f P c on user_on number =
    by f.idcode (λ net low high. c.own net (omega arith) (omega arith))
  where
    by : (code : Option ℕ) → Between P (first + ident_from f) (first + (ident_from f + code_size f.usercode code))
        → EachCell (IsLogicCell port.tck port.trst P) (ident_part first port (record f { idcode = code }) number)
    by None own = tt
    by (Some code) own =
        ident_logic P (first + ident_from f) number (tap_at first port) (instruction_at first port f).ident_on (instruction_at first port f).user_on port.tdi f.usercode code
        (tap_are first port f P c) on user_on c.tdi (λ net low high. own net low (omega arith))

pub logic_cells_are : (first : ℕ) (port : TapPort) (f : Fitted) (P : ℕ → Type 0) → LogicNets first port f P → (number : ℕ) → LogicCells first port f P number
logic_cells_are first port f P c number =
    let own = c.own in
    let n : ℕ = instruction_size f.codes in
    let is : n ≡ stages_size f.codes + (opcodes_size f.codes matched_instructions + (10 + f.codes.length)) = refl in
    let bypass_on : P (instruction_at first port f).bypass_on.0 = own _ (omega arith) (omega arith) in
    let ident_on : P (instruction_at first port f).ident_on.0 = own _ (omega arith) (omega arith) in
    let user_on : P (instruction_at first port f).user_on.0 = own _ (omega arith) (omega arith) in
    record {
      controller = table_logic CONTROLLER (tap_given port.tck port.tms port.trst) first number 0 2 port.tck port.trst P refl refl refl
          (c.tck, (c.tms, (c.trst, tt))) (λ j below. own (first + j) (omega arith) (omega arith));
      instruction = instruction_logic P (first + instruction_from) number (tap_at first port) port.tdi f.codes (tap_are first port f P c) c.tdi
          (λ net low high. own net (omega arith) (omega arith));
      bypass = bypass_logic P (first + bypass_from f) number (tap_at first port) (instruction_at first port f).bypass_on port.tdi (tap_are first port f P c) bypass_on c.tdi
          (λ net low high. own net (omega arith) (omega arith));
      ident = ident_part_logic first port f P c ident_on user_on number;
    }

-- TDO.

pub tdo_turn : (first number : ℕ) (tap : TapNets) (instruction : InstrNets) (bypass : NetId) (ident : Option NetId) (boundary : NetId)
    → DriveInTurn first (part_cells TDO (tdo_given tap instruction bypass ident boundary) first number)
tdo_turn first number tap instruction bypass ident boundary = table_turn TDO (tdo_given tap instruction bypass ident boundary) first number

pub tdo_logic : (first number : ℕ) (tap : TapNets) (instruction : InstrNets) (bypass : NetId) (ident : Option NetId) (boundary : NetId) (P : ℕ → Type 0)
    → FeedsAre P (tdo_given tap instruction bypass ident boundary) → ((j : ℕ) → j < 6 → P (first + j))
    → EachCell (IsLogicCell tap.tck tap.trst P) (part_cells TDO (tdo_given tap instruction bypass ident boundary) first number)
tdo_logic first number tap instruction bypass ident boundary P are own =
    table_logic TDO (tdo_given tap instruction bypass ident boundary) first number 0 1 tap.tck tap.trst P refl refl refl are own
