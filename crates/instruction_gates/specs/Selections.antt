-- What the instruction in effect selects: the cells, and that they do in every well-formed netlist that contains them.
-- IEEE Std 1149.1-2001: instruction register, instructions; the gates are own.
use Rattle.std.specs.Prelude.{◌≡◌, ℕ, ◌+◌, ◌&&◌, ◌||◌, Bool, true, false, List, [], ◌∷◌, Some, IsTrue}
use Rattle.signal_values.specs.declared.Sig.{Sig}
use Rattle.signal_values.specs.Values.{bit}
use Rattle.cell_library.specs.declared.codes.Bits.{Bits}
use Rattle.cell_library.specs.declared.codes.Opcode.{Opcode}
use Rattle.cell_library.specs.declared.codes.Instr.{Instr}
use Rattle.cell_library.specs.declared.codes.Instr.TheVariants.{Extest, Sample, Preload, Idcode, Highz, Clamp, Usercode}
use Rattle.netlist_model.specs.declared.NetId.{NetId}
use Rattle.netlist_model.specs.declared.Feed.{Feed}
use Rattle.netlist_model.specs.declared.Feed.TheVariants.{Net}
use Rattle.netlist_model.specs.Lists.{CellView, NetlistView}
use Rattle.netlist_model.specs.Settled.{feed_value, IsSettled}
use Rattle.netlist_model.specs.Formed.{IsWellFormed}
use Rattle.netlist_model.specs.Contained.{HasCells}
use Rattle.netlist_model.specs.Runs.{Moment}
use Rattle.gate_parts.specs.Parts.{part_cells}
use Rattle.bsdl_device.specs.declared.entries.Register.TheVariants as register
use Rattle.bsdl_device.specs.Instructions.{is_instruction, is_register, selected_register}
use Rattle.test_logic.specs.declared.InstrNets.{InstrNets}
use Rattle.test_logic.specs.declared.TapNets.{TapNets}
use Rattle.test_logic.specs.declared.TapState.{TapState}
use Rattle.test_logic.specs.declared.TapState.TheVariants.{CaptureDr, ShiftDr, UpdateDr}
use Rattle.test_logic.specs.Instructions.{mode_of, is_extest, is_usercode, pattern, opcode_of, is_opcode, instruction_of}
use Rattle.register_gates.specs.tap_gates.Controller.{same_state}
use Rattle.register_gates.specs.tap_gates.Laws.{ShowsState}
use Rattle.instruction_gates.specs.declared.selections.Matched.{Matched}
use Rattle.instruction_gates.specs.declared.selections.TheConstants.{SELECTIONS}

-- own: what is handed in
abbrev pub selections_given : TapNets → Matched → List Feed
selections_given tap matched = matched.extest ∷ matched.sample ∷ matched.preload ∷ matched.idcode ∷ matched.highz ∷ matched.clamp ∷ matched.usercode
    ∷ Net tap.capture_dr ∷ Net tap.shift_dr ∷ Net tap.update_dr ∷ []

-- own: the cells, from this cell number on, on the nets from `first` on
abbrev pub selections_cells : ℕ → ℕ → TapNets → Matched → List CellView
selections_cells first number tap matched = part_cells SELECTIONS (selections_given tap matched) first number

-- own: the nets that are handed on; the latched opcode is copied onto those behind them
abbrev pub selection_nets : ℕ → TapNets → NetId → InstrNets
selection_nets first tap last = record {
  last = last;
  bypass_on = record { 0 = first + 1 };
  ident_on = record { 0 = first + 2 };
  user_on = record { 0 = first + 9 };
  boundary_on = record { 0 = first };
  opcode = record { 0 = first + 10 };
  scan = record {
    tck = tap.tck;
    trst = tap.trst;
    capture = record { 0 = first + 6 };
    shift = record { 0 = first + 7 };
    update = record { 0 = first + 8 };
    extest = record { 0 = first + 3 };
    m_out = record { 0 = first + 4 };
    m_in = record { 0 = first + 4 };
    hiz = record { 0 = first + 5 };
  };
}

-- own: of each instruction it is told whether its opcode is latched
pub record Tells (matched : Matched) (named : Instr → Bool) (m : Moment) : Type 0 where
  pub extest : feed_value m.value matched.extest ≡ bit (named Extest)
  pub sample : feed_value m.value matched.sample ≡ bit (named Sample)
  pub preload : feed_value m.value matched.preload ≡ bit (named Preload)
  pub idcode : feed_value m.value matched.idcode ≡ bit (named Idcode)
  pub highz : feed_value m.value matched.highz ≡ bit (named Highz)
  pub clamp : feed_value m.value matched.clamp ≡ bit (named Clamp)
  pub usercode : feed_value m.value matched.usercode ≡ bit (named Usercode)

abbrev pub is_sampling : Instr → Bool
is_sampling Sample = true
is_sampling Preload = true
is_sampling _ = false

-- two instructions may have one opcode: SAMPLE and PRELOAD
abbrev pub may_share : Instr → Instr → Bool
may_share i j = is_instruction i j || (is_sampling i && is_sampling j)

-- no other two have
pub record AreApart (opcodes : List Opcode) : Type 0 where
  pub each : (i j : Instr) (a b : Bits) → opcode_of opcodes i ≡ Some a → opcode_of opcodes j ≡ Some b → pattern a ≡ pattern b → IsTrue (may_share i j)

-- own: the nets tell what this instruction selects, and its mode; the boundary register's are 1 only
-- while it is selected
pub record Selected (nets : InstrNets) (i : Instr) (w : TapState) (m : Moment) : Type 0 where
  pub bypass_on : m.value nets.bypass_on.0 ≡ bit (is_register register.Bypass (selected_register i))
  pub ident_on : m.value nets.ident_on.0 ≡ bit (is_register register.DeviceId (selected_register i))
  pub user_on : m.value nets.user_on.0 ≡ bit (is_usercode i)
  pub boundary_on : m.value nets.boundary_on.0 ≡ bit (is_register register.Boundary (selected_register i))
  pub capture : m.value nets.scan.capture.0 ≡ bit (is_register register.Boundary (selected_register i) && same_state CaptureDr w)
  pub shift : m.value nets.scan.shift.0 ≡ bit (is_register register.Boundary (selected_register i) && same_state ShiftDr w)
  pub update : m.value nets.scan.update.0 ≡ bit (is_register register.Boundary (selected_register i) && same_state UpdateDr w)
  pub extest : m.value nets.scan.extest.0 ≡ bit (is_extest i)
  pub m_out : m.value nets.scan.m_out.0 ≡ bit (mode_of i).m_out
  pub m_in : m.value nets.scan.m_in.0 ≡ bit (mode_of i).m_in
  pub hiz : m.value nets.scan.hiz.0 ≡ bit (mode_of i).hiz

abbrev pub SelectionsTell : Type 0
SelectionsTell = (first number : ℕ) (tap : TapNets) (matched : Matched) (last : NetId) (N : NetlistView) (m : Moment) (w : TapState) (opcodes : List Opcode) (latched : List Sig)
    → IsWellFormed N → HasCells N (selections_cells first number tap matched) → IsSettled N m.pins m.state m.value
    → Tells matched (λ i. is_opcode latched (opcode_of opcodes i)) m → AreApart opcodes → ShowsState tap w m
    → Selected (selection_nets first tap last) (instruction_of opcodes latched) w m
