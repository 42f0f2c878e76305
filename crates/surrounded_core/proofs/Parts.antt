-- The controller and the registers beside the boundary register carry the test logic of a course at every moment, from any moment at which
-- they hold a machine.
use Rattle.std.proofs.Common.{◌≡◌, ℕ, zero, suc, ◌≤◌, List, [], ◌∷◌, length, refl, ap, sym, ◌∙◌, subst, Option, Some, None, arith, true, false, Bool, if◌then◌else◌}
use Rattle.std.specs.Prelude.{find, unwrap_or, slice_get}
use Rattle.std.specs.Option.{option_map, option_map_or}
use Rattle.list_laws.proofs.Lists.{slice_get_there}
use Rattle.signal_values.specs.declared.Sig.{Sig}
use Rattle.signal_values.specs.declared.Sig.TheVariants.{Zero}
use Rattle.signal_values.specs.Values.{bit}
use Rattle.cell_library.specs.declared.codes.Instr.{Instr}
use Rattle.cell_library.specs.declared.codes.Instr.TheVariants.{Bypass}
use Rattle.cell_library.specs.declared.codes.Opcode.{Opcode}
use Rattle.netlist_model.specs.declared.NetId.{NetId}
use Rattle.netlist_model.specs.Lists.{NetlistView}
use Rattle.netlist_model.specs.Settled.{feed_value, IsSettled}
use Rattle.netlist_model.specs.Contained.{HasCells}
use Rattle.netlist_model.specs.Runs.{Moment, PinEvent, FlopsStart, IsStep}
use Rattle.netlist_model.specs.Ports.{DirectionHasBit}
use Rattle.netlist_model.specs.Behind.{BehindStarts, BehindSteps}
use Rattle.bsdl_device.specs.Instructions.{all_instructions, selected_register}
use Rattle.bsdl_device.specs.declared.entries.Register.TheVariants as register
use Rattle.bsdl_device.specs.declared.values.CellRow.{CellRow}
use Rattle.bsdl_device.specs.declared.values.Device.{Device}
use Rattle.test_logic.specs.declared.Levels.{Levels}
use Rattle.test_logic.specs.declared.TapInput.TheVariants.{Tck, Tms, Tdi, Trst}
use Rattle.test_logic.specs.declared.TapState.{TapState}
use Rattle.test_logic.specs.Instructions.{is_usercode, opcode_of, is_opcode, instruction_of, bits_of}
use Rattle.test_logic.specs.Registers.{first_bit, bypass_after, ident_after}
use Rattle.test_logic.specs.Machine.{Machine, TestLogic, machine_step, in_effect, selects, test_logic_of, code_bits, user_bits, captured_code, zeros}
use Rattle.tap_gates.specs.Laws.{Carries as TapCarries, TapFollows, HoldsState, ShowsState, StepIsTheMachines}
use Rattle.tap_gates.specs.Home.{IsCourse}
use Rattle.register_gates.specs.BitsLaws.{Carries, bit_after}
use Rattle.register_gates.specs.Laws.{captured_bits, BypassFollows, IdentFollows}
use Rattle.register_gates.specs.Steps.{StepsByRegister}
use Rattle.register_gates.specs.Tdo.{TdoFollows, ident_feed, tdo_given_by}
use Rattle.instruction_gates.specs.Selections.{Selected}
use Rattle.instruction_gates.specs.RegisterLaws.{Follows}
use Rattle.instruction_gates.specs.Steps.{HoldsStages, IsLegible, InstructionLaws, InstructionSteps, InstructionsStayLegible}
use Rattle.boundary_cells.specs.MachineRows.{RowsStep}
use Rattle.surrounded_core.specs.RowsLaws.{RowsFollow}
use Rattle.surrounded_core.specs.Lengths.{LengthsStay, AreLong}
use Rattle.surrounded_core.specs.Rows.{HoldsRow}
use Rattle.surrounded_core.specs.Selections.{SelectedSteers}
use Rattle.surrounded_core.specs.ChipRows.{ChipRows}
use Rattle.wrapped_chip.specs.Cells.{captured}
use Rattle.wrapped_chip.specs.ChipRuns.{ChipMoment, ChipEvent}
use Rattle.wrapped_chip.specs.Home.{IsOutside}
use Rattle.wrapped_chip.specs.Realises.{SameOutside, SameEvents}
use Rattle.surrounded_core.specs.Places.{Places, controller_nets, selection_nets, bypass_bit, code_cells, code_values, code_last, ident_bit}
use Rattle.surrounded_core.specs.Surrounds.{SurroundsBy}
use Rattle.surrounded_core.specs.Laws.{core_value, SurroundedStands}
use Rattle.surrounded_core.proofs.Outside.{outside_always, level_carried}

-- the laws of the parts and of runs
pub record RunLaws : Type 0 where
  pub stands : SurroundedStands
  pub tap : TapFollows
  pub state : StepIsTheMachines
  pub instruction : InstructionSteps
  pub legible : InstructionsStayLegible
  pub registers : StepsByRegister
  pub bypass : BypassFollows
  pub ident : IdentFollows
  pub tdo : TdoFollows
  pub rows : RowsFollow
  pub places : RowsStep
  pub chip : ChipRows
  pub lengths : LengthsStay
  pub steers : SelectedSteers
  pub starts : BehindStarts
  pub steps : BehindSteps
  pub bits : DirectionHasBit

-- at a moment the parts hold what this machine holds
pub record HoldsMachine (B : Device) (S : Places) (machine : Machine) (m : Moment) : Type 0 where
  pub controller : HoldsState S.controller machine.state m
  pub stages : HoldsStages S.instruction S.codes machine m
  pub legible : IsLegible machine
  pub bypass : m.value (bypass_bit S).0 ≡ machine.bypass
  pub ident : (code : ℕ) → S.code ≡ Some code → code_values S m.value code ≡ machine.ident
  pub tdo : tdo_given_by S.driver m ≡ machine.tdo
  pub rows : (place : ℕ) (r : CellRow) → slice_get B.cells place ≡ Some r → HoldsRow (S.gates place) (S.row place) place machine m.value
  pub long : AreLong (test_logic_of B) machine

-- a course of a netlist with a chip's core inside, from a moment at which its parts hold a machine, by events at the chip's pins; its TDO
-- takes the value of the net that is shown for the bit of the bypass register
pub record Scene : Type 0 where
  pub outer : NetlistView
  pub inner : NetlistView
  pub device : Device
  pub places : Places
  pub shown : NetId
  pub around : SurroundsBy outer inner device places shown
  pub events : List ChipEvent
  pub outside : ℕ → ChipMoment
  pub is_outside : IsOutside inner events outside
  pub there : List PinEvent
  pub same_events : SameEvents outer inner events there
  pub moment : ℕ → Moment
  pub same_pins : SameOutside outer inner (outside 0) (moment 0).pins
  pub course : IsCourse outer there moment
  pub given : ℕ → Sig
  pub rests : FlopsStart outer given (moment 0).value (moment 0).state
  pub begun : Machine
  pub holds : HoldsMachine device places begun (moment 0)

abbrev pub logic : Scene → TestLogic
logic r = test_logic_of r.device

abbrev pub levels_at : Scene → ℕ → Levels
levels_at r t = (r.outside t).levels

-- The test logic of the course: its cells capture what the core's own values give them.

abbrev pub core_at : Scene → ℕ → ℕ → Sig
core_at r t = core_value r.inner r.places (r.moment t).value

abbrev pub machine_at : Scene → ℕ → Machine
machine_at r zero = r.begun
machine_at r (suc t) = machine_step (logic r) (levels_at r t) (levels_at r (suc t)) (captured r.device r.inner (machine_at r t) (r.outside t).pins (core_at r t)) (machine_at r t)

abbrev pub caught_at : Scene → ℕ → List Sig
caught_at r t = captured r.device r.inner (machine_at r t) (r.outside t).pins (core_at r t)

pub lists_long : RunLaws → (r : Scene) (t : ℕ) → AreLong (logic r) (machine_at r t)
lists_long by r zero = r.holds.long
lists_long by r (suc t) =
    by.lengths.steps (logic r) (levels_at r t) (levels_at r (suc t)) (caught_at r t) (machine_at r t)
    (by.chip.long r.device r.inner (machine_at r t) (r.outside t).pins (core_at r t)) (lists_long by r t)

-- Its moments.

back_to : (r : Scene) (t : ℕ) → t ≤ length r.events → t ≤ length r.there
back_to r t below = let count : length r.there ≡ length r.events = r.same_events.count in omega arith

pub next_at : (r : Scene) (t : ℕ) → suc t ≤ length r.events → (other : PinEvent) × IsStep r.outer other (r.moment t) (r.moment (suc t))
next_at r t below =
    let within : suc t ≤ length r.there = back_to r (suc t) below in
    let other = slice_get_there r.there t (omega arith) in
    (other.0, r.course.steps t other.0 other.1)

pub settled_at : (r : Scene) (t : ℕ) → t ≤ length r.events → IsSettled r.outer (r.moment t).pins (r.moment t).state (r.moment t).value
settled_at r zero below = r.course.settled
settled_at r (suc t) below = (next_at r t below).1.settled

-- The test access port.

pub outside_now : (r : Scene) (t : ℕ) → t ≤ length r.events → SameOutside r.outer r.inner (r.outside t) (r.moment t).pins
outside_now r t below = outside_always r.outer r.inner r.around.pins r.events r.outside r.there r.moment r.is_outside r.same_pins r.same_events r.course t below

-- each input carries its level
pub record Levelled (S : Places) (levels : Levels) (m : Moment) : Type 0 where
  pub tck : m.value S.tck.0 ≡ bit levels.tck
  pub tms : m.value S.tms.0 ≡ bit levels.tms
  pub tdi : m.value S.tdi.0 ≡ bit levels.tdi
  pub trst : m.value S.trst.0 ≡ bit levels.trst

pub levelled_by : (M N : NetlistView) (B : Device) (S : Places) {shown : NetId} → SurroundsBy M N B S shown → (w : ChipMoment) (m : Moment) → IsSettled M m.pins m.state m.value → SameOutside M N w m.pins
    → Levelled S w.levels m
levelled_by M N B S around w m settled same = record {
  tck = level_carried M N B S around w m settled same Tck;
  tms = level_carried M N B S around w m settled same Tms;
  tdi = level_carried M N B S around w m settled same Tdi;
  trst = level_carried M N B S around w m settled same Trst;
}

pub levelled : (r : Scene) (t : ℕ) → t ≤ length r.events → Levelled r.places (levels_at r t) (r.moment t)
levelled r t below = levelled_by r.outer r.inner r.device r.places r.around (r.outside t) (r.moment t) (settled_at r t below) (outside_now r t below)

pub carried_by : (S : Places) (levels : Levels) (m : Moment) → Levelled S levels m → Carries S.tck S.trst levels m
carried_by S levels m l = record { clock = l.tck; reset = l.trst }

pub moded_by : (S : Places) (levels : Levels) (m : Moment) → Levelled S levels m → TapCarries S.tck S.tms S.trst levels m
moded_by S levels m l = record { clock = l.tck; mode = l.tms; reset = l.trst }

pub carried : (r : Scene) (t : ℕ) → t ≤ length r.events → Carries r.places.tck r.places.trst (levels_at r t) (r.moment t)
carried r t below = carried_by r.places (levels_at r t) (r.moment t) (levelled r t below)

-- The controller and the instruction register.

state_held : RunLaws → (r : Scene) (t : ℕ) → t ≤ length r.events → HoldsState r.places.controller (machine_at r t).state (r.moment t)
state_held by r zero below = r.holds.controller
state_held by r (suc t) below =
    let S = r.places in
    let before : t ≤ length r.events = omega arith in
    let next = next_at r t below in
    let held = (by.tap S.controller S.controller_number S.tck S.tms S.trst).step r.outer next.0 (machine_at r t).state (levels_at r t) (levels_at r (suc t)) (r.moment t) (r.moment (suc t))
    r.around.formed r.around.registers.controller (settled_at r t before) next.1 (moded_by S (levels_at r t) (r.moment t) (levelled r t before))
    (moded_by S (levels_at r (suc t)) (r.moment (suc t)) (levelled r (suc t) below)) (state_held by r t before) in
    subst (λ (w : TapState). HoldsState S.controller w (r.moment (suc t))) (sym (by.state (logic r) (levels_at r t) (levels_at r (suc t)) (caught_at r t) (machine_at r t))) held

pub state_shown : RunLaws → (r : Scene) (t : ℕ) → t ≤ length r.events → ShowsState (controller_nets r.places) (machine_at r t).state (r.moment t)
state_shown by r t below =
    let S = r.places in
    (by.tap S.controller S.controller_number S.tck S.tms S.trst).shows (machine_at r t).state (r.moment t) (state_held by r t below)

instruction_laws : RunLaws → (r : Scene) → InstructionLaws r.places.instruction r.places.instruction_number (controller_nets r.places) r.places.tdi r.places.codes r.outer (logic r)
instruction_laws by r =
    let S = r.places in
    by.instruction S.instruction S.instruction_number (controller_nets S) S.tdi S.codes r.outer (logic r) r.around.formed r.around.registers.instruction r.around.codes.codes r.around.codes.fit

stages_held : RunLaws → (r : Scene) (t : ℕ) → t ≤ length r.events → HoldsStages r.places.instruction r.places.codes (machine_at r t) (r.moment t)
stages_held by r zero below = r.holds.stages
stages_held by r (suc t) below =
    let before : t ≤ length r.events = omega arith in
    let next = next_at r t below in
    (instruction_laws by r).step next.0 (levels_at r t) (levels_at r (suc t)) (caught_at r t) (machine_at r t) (r.moment t) (r.moment (suc t)) (settled_at r t before) next.1
    (record { carries = carried r t before; shows = state_shown by r t before; data_in = (levelled r t before).tdi }) (carried r (suc t) below) (stages_held by r t before)

legible_always : RunLaws → (r : Scene) (t : ℕ) → IsLegible (machine_at r t)
legible_always by r zero = r.holds.legible
legible_always by r (suc t) =
    (by.legible r.places.codes (logic r) r.around.codes.codes).step (levels_at r t) (levels_at r (suc t)) (caught_at r t) (machine_at r t) (legible_always by r t)

pub instruction_followed : RunLaws → (r : Scene) (t : ℕ) → t ≤ length r.events
    → Follows r.places.instruction (controller_nets r.places) r.places.tdi r.places.codes (logic r) (machine_at r t) (r.moment t)
instruction_followed by r t below =
    (instruction_laws by r).tells (machine_at r t) (r.moment t) (settled_at r t below) (state_shown by r t below) (legible_always by r t).latched (stages_held by r t below)

pub selected : RunLaws → (r : Scene) (t : ℕ) → t ≤ length r.events → Selected (selection_nets r.places) (in_effect (logic r) (machine_at r t)) (machine_at r t).state (r.moment t)
selected by r t below = (instruction_followed by r t below).selected

-- The bypass register and the identification register.

pub bypass_held : RunLaws → (r : Scene) (t : ℕ) → t ≤ length r.events → (r.moment t).value (bypass_bit r.places).0 ≡ (machine_at r t).bypass
bypass_held by r zero below = r.holds.bypass
bypass_held by r (suc t) below =
    let S = r.places in
    let before : t ≤ length r.events = omega arith in
    let next = next_at r t below in
    let a : Levels = levels_at r t in
    let b : Levels = levels_at r (suc t) in
    let machine : Machine = machine_at r t in
    let on : Bool = selects (logic r) machine register.Bypass in
    let e = (by.bypass S.bypass S.bypass_number (controller_nets S) (selection_nets S).bypass_on S.tdi).step r.outer next.0 machine.state on a b (r.moment t) (r.moment (suc t))
    r.around.formed r.around.registers.bypass (settled_at r t before) next.1
    (record { carries = carried r t before; shows = state_shown by r t before; selection = (selected by r t before).bypass_on; data_in = (levelled r t before).tdi })
    (carried r (suc t) below) in
    e ∙ ap (λ (x : Sig). bit_after a b Zero (bypass_after on machine.state (bit a.tdi) x) x x) (bypass_held by r t before)
    ∙ sym (by.registers (logic r) a b (caught_at r t) machine).bypass

-- what is captured is what the test logic captures
captures_code : (r : Scene) (code : ℕ) (using : Bool) → r.places.code ≡ Some code
    → captured_bits r.places.user code using ≡ (if using then (logic r).user else (logic r).code)
captures_code r code using there =
    let has : r.device.idcode ≡ Some code = sym r.around.codes.code ∙ there in
    let user : (logic r).user ≡ bits_of 32 (unwrap_or r.places.user code)
    = ap (λ (o : Option ℕ). user_bits o r.device.usercode) has ∙ ap (λ (o : Option ℕ). bits_of 32 (unwrap_or o code)) (sym r.around.codes.user) in
    ap (λ (xs : List Sig). if using then xs else bits_of 32 code) (sym user) ∙ ap (λ (xs : List Sig). if using then (logic r).user else xs) (sym (ap code_bits has))

ident_held : RunLaws → (r : Scene) (t : ℕ) → t ≤ length r.events → (code : ℕ) → r.places.code ≡ Some code → HasCells r.outer (code_cells r.places code)
    → code_values r.places (r.moment t).value code ≡ (machine_at r t).ident
ident_held by r zero below code there has = r.holds.ident code there
ident_held by r (suc t) below code there has =
    let S = r.places in
    let before : t ≤ length r.events = omega arith in
    let next = next_at r t below in
    let a : Levels = levels_at r t in
    let b : Levels = levels_at r (suc t) in
    let machine : Machine = machine_at r t in
    let on : Bool = selects (logic r) machine register.DeviceId in
    let using : Bool = is_usercode (in_effect (logic r) machine) in
    let chosen = selected by r t before in
    let e = (by.ident S.ident S.ident_number (controller_nets S) (selection_nets S).ident_on (selection_nets S).user_on S.tdi S.user code).step r.outer next.0 machine.state on using a b
    (r.moment t) (r.moment (suc t)) r.around.formed has (settled_at r t before) next.1
    (record { carries = carried r t before; shows = state_shown by r t before; selection = chosen.ident_on; data_in = (levelled r t before).tdi }) chosen.user_on (carried r (suc t) below) in
    let after : List Sig → List Sig → List Sig → List Sig = λ blank c xs. bit_after a b (zeros blank) (ident_after on c machine.state (bit a.tdi) xs) xs xs in
    let now : List Sig = code_values S (r.moment t).value code in
    e ∙ ap (λ (xs : List Sig). after xs (captured_bits S.user code using) now) (sym (ap code_bits (sym r.around.codes.code ∙ there)))
    ∙ ap (λ (c : List Sig). after (logic r).code c now) (captures_code r code using there)
    ∙ ap (λ (xs : List Sig). after (logic r).code (captured_code (in_effect (logic r) machine) (logic r)) xs) (ident_held by r t before code there has)
    ∙ sym (by.registers (logic r) a b (caught_at r t) machine).ident

ident_with : RunLaws → (r : Scene) (t : ℕ) → t ≤ length r.events → (code : ℕ) → r.places.code ≡ Some code → HasCells r.outer (code_cells r.places code)
    → (r.moment t).value (code_last r.places code).0 ≡ first_bit (machine_at r t).ident
ident_with by r t below code there has =
    let S = r.places in
    (by.ident S.ident S.ident_number (controller_nets S) (selection_nets S).ident_on (selection_nets S).user_on S.tdi S.user code).last (r.moment t)
    ∙ ap first_bit (ident_held by r t below code there has)

-- an instruction that selects the identification register is in effect only where it has an opcode
finds : (p : Instr → Bool) (xs : List Instr) (i : Instr) → find p xs ≡ Some i → p i ≡ true
finds p [] i e = absurd (cc)
finds p (x ∷ xs) i e = by_test (p x) refl (λ found. finds p xs i found) e
  where
    by_test : (b : Bool) → p x ≡ b → (find p xs ≡ Some i → p i ≡ true) → (if b then Some x else find p xs) ≡ Some i → p i ≡ true
    by_test true is later found = let same : x ≡ i = cc in sym (ap p same) ∙ is
    by_test false is later found = later found

named : (o : Option Instr) → selected_register (unwrap_or o Bypass) ≡ register.DeviceId → o ≡ Some (unwrap_or o Bypass)
named None device = absurd (let bad : register.Bypass ≡ register.DeviceId = device in cc)
named (Some i) device = refl

has_opcode : (opcodes : List Opcode) (latched : List Sig) → selected_register (instruction_of opcodes latched) ≡ register.DeviceId
    → is_opcode latched (opcode_of opcodes (instruction_of opcodes latched)) ≡ true
unfolding instruction_of
has_opcode opcodes latched device =
    let is : Instr → Bool = λ i. is_opcode latched (opcode_of opcodes i) in
    finds is all_instructions (instruction_of opcodes latched) (named (find is all_instructions) device)

-- where the identification register is selected, its bit nearest TDO is on the net that is handed on
pub ident_nearest : RunLaws → (r : Scene) (t : ℕ) → t ≤ length r.events → selected_register (in_effect (logic r) (machine_at r t)) ≡ register.DeviceId
    → feed_value (r.moment t).value (ident_feed (ident_bit r.places)) ≡ first_bit (machine_at r t).ident
ident_nearest by r t below device = by_code r.places.code refl r.around.registers.ident
  where
    by_code : (o : Option ℕ) → r.places.code ≡ o → HasCells r.outer (option_map_or (code_cells r.places) o [])
        → feed_value (r.moment t).value (ident_feed (option_map (code_last r.places) o)) ≡ first_bit (machine_at r t).ident
    by_code None e has =
        let none : opcode_of r.device.opcodes (in_effect (logic r) (machine_at r t)) ≡ None
        = r.around.codes.identified (sym r.around.codes.code ∙ e) (in_effect (logic r) (machine_at r t)) device in
        let found : is_opcode (machine_at r t).latched (opcode_of r.device.opcodes (in_effect (logic r) (machine_at r t))) ≡ true
        = has_opcode r.device.opcodes (machine_at r t).latched device in
        absurd (let bad : false ≡ true = sym (ap (is_opcode (machine_at r t).latched) none) ∙ found in cc)
    by_code (Some code) e has = ident_with by r t below code e has
