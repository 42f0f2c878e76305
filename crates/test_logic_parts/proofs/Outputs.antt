-- The cells of the controller and of the registers beside the boundary register drive nets of their own.
use Rattle.std.proofs.Common.{◌≡◌, ◌≢◌, ℕ, suc, zero, ◌+◌, ◌*◌, ◌<◌, ◌≤◌, List, [], ◌∷◌, ◌++◌, length, Option, Some, None, false, ◌∙◌, ap, arith}
use Rattle.std.specs.List.{slice_get}
use Rattle.cell_library.specs.declared.codes.Bits.{Bits}
use Rattle.cell_library.specs.declared.codes.Instr.{Instr}
use Rattle.netlist_model.specs.declared.NetId.{NetId}
use Rattle.netlist_model.specs.declared.Feed.{Feed}
use Rattle.netlist_model.specs.declared.Feed.TheVariants.{Net, Const}
use Rattle.netlist_model.specs.Lists.{CellView}
use Rattle.netlist_arena.specs.Arena.{ArenaView}
use Rattle.netlist_arena.specs.Adds.{IsFree}
use Rattle.gate_parts.specs.declared.Gate.{Gate}
use Rattle.gate_parts.specs.Parts.{gate_cell, cells_from, part_cells}
use Rattle.gate_parts.specs.Appended.{Appended}
use Rattle.gate_parts.specs.Laws.{FreeStays}
use Rattle.test_logic.specs.declared.Codes.{Codes}
use Rattle.test_logic.specs.declared.TapNets.{TapNets}
use Rattle.test_logic.specs.Instructions.{opcode_of}
use Rattle.tap_gates.specs.declared.table.TheConstants.{CONTROLLER}
use Rattle.tap_gates.specs.Controller.{tap_given}
use Rattle.register_gates.specs.declared.bits.Steering.{Steering}
use Rattle.register_gates.specs.declared.bits.TheConstants.{SHIFT_BIT}
use Rattle.register_gates.specs.Bits.{shift_bit_given, held_bit, held_bit_given, held_bit_cells}
use Rattle.register_gates.specs.Chains.{chain_last, chain_cells}
use Rattle.register_gates.specs.declared.TheConstants.{SELECTED}
use Rattle.register_gates.specs.declared.ident.TheConstants.{INVERSE}
use Rattle.register_gates.specs.Registers.{selected_given, selected_cells, selected_steering, bypass_cells, data_cells, user_size, inverse_cells, captured_feeds, ident_cells}
use Rattle.instruction_gates.specs.declared.latches.Latching.{Latching}
use Rattle.instruction_gates.specs.declared.latches.TheConstants.{LOADED}
use Rattle.instruction_gates.specs.declared.matches.TheConstants.{EQUAL_BIT}
use Rattle.instruction_gates.specs.declared.copies.TheConstants.{COPY}
use Rattle.instruction_gates.specs.declared.selections.TheConstants.{SELECTIONS}
use Rattle.instruction_gates.specs.declared.stages.TheConstants.{LOADS}
use Rattle.instruction_gates.specs.Rows.{is_one, row_cells, placed}
use Rattle.instruction_gates.specs.Latches.{holding_of, loaded_given, latch_cells, latches_cells}
use Rattle.instruction_gates.specs.Matches.{match_before, equal_given, match_cells}
use Rattle.instruction_gates.specs.Copies.{copy_given, copies_cells}
use Rattle.instruction_gates.specs.Selections.{selections_given, selections_cells}
use Rattle.instruction_gates.specs.Stages.{loads_given, ir_steering, ir_latching, shift_stage_cells, stages_cells}
use Rattle.instruction_gates.specs.Register.{pattern_bits, latches_from, opcodes_from, selections_from, copies_from, cells_with, opcode_size, opcode_cells, opcodes_cells, opcodes_told, matched_instructions, instruction_cells}

-- each of these cells that is connected drives a net from this one on
abbrev pub DrivesFrom : ℕ → List CellView → Type 0
DrivesFrom first cells = (k net : ℕ) (cell : CellView) → slice_get cells k ≡ Some cell → cell.output ≡ Some (record { 0 = net }) → first ≤ net

pub drives_none : (first : ℕ) → DrivesFrom first []
drives_none first = λ k net cell at drives. absurd (cc)

both_at : (first : ℕ) (xs ys : List CellView) → DrivesFrom first xs → DrivesFrom first ys → (k net : ℕ) (cell : CellView) → slice_get (xs ++ ys) k ≡ Some cell
    → cell.output ≡ Some (record { 0 = net }) → first ≤ net
both_at first [] ys hx hy k net cell here drives = hy k net cell here drives
both_at first (x ∷ xs) ys hx hy zero net cell here drives = hx 0 net cell here drives
both_at first (x ∷ xs) ys hx hy (suc k) net cell here drives = both_at first xs ys (λ j n c e d. hx (suc j) n c e d) hy k net cell here drives

pub drives_both : (first : ℕ) (xs ys : List CellView) → DrivesFrom first xs → DrivesFrom first ys → DrivesFrom first (xs ++ ys)
drives_both first xs ys hx hy = λ k net cell here drives. both_at first xs ys hx hy k net cell here drives

pub drives_later : (first later : ℕ) (cells : List CellView) → first ≤ later → DrivesFrom later cells → DrivesFrom first cells
drives_later first later cells more h = λ k net cell at drives. let past = h k net cell at drives in omega arith

abbrev pub net_number : Option NetId → ℕ
net_number None = 0
net_number (Some net) = net.0

gate_drives : (start : ℕ) (given : List Feed) (number out net : ℕ) (gate : Gate) (cell : CellView) → Some (gate_cell start given number out gate) ≡ Some cell
    → cell.output ≡ Some (record { 0 = net }) → out ≡ net
gate_drives start given number out net gate cell at drives =
    let same : gate_cell start given number out gate ≡ cell = cc in
    let both = ap (λ (c : CellView). c.output) same ∙ drives in
    ap net_number both

part_at : (first start : ℕ) (given : List Feed) (number out : ℕ) (gates : List Gate) → first ≤ out → (k net : ℕ) (cell : CellView)
    → slice_get (cells_from start given number out gates) k ≡ Some cell → cell.output ≡ Some (record { 0 = net }) → first ≤ net
part_at first start given number out [] low k net cell here drives = absurd (cc)
part_at first start given number out (gate ∷ gates) low zero net cell here drives = let same = gate_drives start given number out net gate cell here drives in omega arith
part_at first start given number out (gate ∷ gates) low (suc k) net cell here drives = part_at first start given (suc number) (suc out) gates (omega arith) k net cell here drives

pub part_drives : (first start number : ℕ) (gates : List Gate) (given : List Feed) → first ≤ start → DrivesFrom first (part_cells gates given start number)
part_drives first start number gates given low = λ k net cell here drives. part_at first start given number start gates low k net cell here drives

row_drives : (first : ℕ) (part : ℕ → Feed → List CellView) → ((behind : ℕ) (item : Feed) → DrivesFrom first (part behind item)) → (items : List Feed)
    → DrivesFrom first (row_cells part items)
row_drives first part each [] = drives_none first
row_drives first part each (item ∷ rest) = drives_both first (row_cells part rest) (part (length rest) item) (row_drives first part each rest) (each (length rest) item)

chain_drives : (first start number : ℕ) (by : Steering) (tdi : NetId) (captured : List Feed) → first ≤ start → DrivesFrom first (chain_cells start number by tdi captured)
chain_drives first start number by tdi [] low = drives_none first
chain_drives first start number by tdi (c ∷ rest) low =
    drives_both first (chain_cells start number by tdi rest) _ (chain_drives first start number by tdi rest low)
    (part_drives first (start + 3 * length rest) (number + 3 * length rest) SHIFT_BIT (shift_bit_given by c (chain_last start tdi rest)) (omega arith))

latch_drives : (first at number : ℕ) (by : Latching) (shift : ℕ) (preset : Feed) → first ≤ at → DrivesFrom first (latch_cells by shift at number preset)
latch_drives first at number by shift preset low =
    drives_both first (part_cells LOADED (loaded_given by shift preset) at number) (held_bit_cells (at + 1) (number + 1) (holding_of by) (is_one preset) (Net (record { 0 = at })))
    (part_drives first at number LOADED (loaded_given by shift preset) low)
    (part_drives first (at + 1) (number + 1) (held_bit (is_one preset)) (held_bit_given (holding_of by) (Net (record { 0 = at }))) (omega arith))

latches_drive : (first start number : ℕ) (by : Latching) (shifts : ℕ) (presets : List Feed) → first ≤ start → DrivesFrom first (latches_cells start number by shifts presets)
latches_drive first start number by shifts presets low =
    row_drives first (placed (λ behind at cell preset. latch_cells by (shifts + 3 * behind) at cell preset) 3 start number)
    (λ behind item. latch_drives first (start + 3 * behind) (number + 3 * behind) by (shifts + 3 * behind) item (omega arith)) presets

stages_drive : (first start number : ℕ) (tap : TapNets) (tdi : NetId) (captured presets : List Feed) → first ≤ start
    → DrivesFrom first (stages_cells start number tap tdi captured presets)
stages_drive first start number tap tdi captured presets low =
    drives_both first (shift_stage_cells start number tap tdi captured) _
    (drives_both first (part_cells LOADS (loads_given tap) start number) _ (part_drives first start number LOADS (loads_given tap) low)
    (chain_drives first (start + 1) (number + 1) (ir_steering tap) tdi captured (omega arith)))
    (latches_drive first (start + (1 + 3 * length captured)) (number + (1 + 3 * length captured)) (ir_latching start tap) (start + 1) presets (omega arith))

opcode_drives : (first start number latches : ℕ) (codes : Codes) (opcode : Option Bits) → first ≤ start → DrivesFrom first (cells_with start number latches codes opcode)
opcode_drives first start number latches codes None low = drives_none first
opcode_drives first start number latches codes (Some opcode) low =
    row_drives first (placed (λ behind at cell item. match_cells (match_before start behind) (latches + 3 * behind + 1) at cell item) 2 start number)
    (λ behind item. part_drives first (start + 2 * behind) (number + 2 * behind) EQUAL_BIT (equal_given (match_before start behind) (latches + 3 * behind + 1) item) (omega arith))
    (pattern_bits codes opcode)

opcodes_drive : (first start number latches : ℕ) (codes : Codes) (rest : List Instr) → first ≤ start → DrivesFrom first (opcodes_cells start number latches codes rest)
opcodes_drive first start number latches codes [] low = drives_none first
opcodes_drive first start number latches codes (i ∷ rest) low =
    drives_both first (opcode_cells start number latches codes i) _ (opcode_drives first start number latches codes (opcode_of codes.opcodes i) low)
    (opcodes_drive first (start + opcode_size codes i) (number + opcode_size codes i) latches codes rest (omega arith))

copies_drive : (first start number latched count : ℕ) → first ≤ start → DrivesFrom first (copies_cells start number latched count)
copies_drive first start number latched zero low = drives_none first
copies_drive first start number latched (suc behind) low =
    drives_both first (part_cells COPY (copy_given latched behind) start number) (copies_cells (suc start) (suc number) latched behind)
    (part_drives first start number COPY (copy_given latched behind) low) (copies_drive first (suc start) (suc number) latched behind (omega arith))

-- The parts.

pub controller_drives : (first start number : ℕ) (tck tms trst : NetId) → first ≤ start → DrivesFrom first (part_cells CONTROLLER (tap_given tck tms trst) start number)
controller_drives first start number tck tms trst low = part_drives first start number CONTROLLER (tap_given tck tms trst) low

pub instruction_drives : (first start number : ℕ) (tap : TapNets) (tdi : NetId) (codes : Codes) → first ≤ start → DrivesFrom first (instruction_cells start number tap tdi codes)
instruction_drives first start number tap tdi codes low =
    drives_both first (stages_cells start number tap tdi (pattern_bits codes codes.capture) (pattern_bits codes codes.reset)) _
    (stages_drive first start number tap tdi (pattern_bits codes codes.capture) (pattern_bits codes codes.reset) low)
    (drives_both first (opcodes_cells (opcodes_from start codes) (opcodes_from number codes) (latches_from start codes) codes matched_instructions) _
    (opcodes_drive first (opcodes_from start codes) (opcodes_from number codes) (latches_from start codes) codes matched_instructions (omega arith))
    (drives_both first (selections_cells (selections_from start codes) (selections_from number codes) tap (opcodes_told (opcodes_from start codes) codes)) _
    (part_drives first (selections_from start codes) (selections_from number codes) SELECTIONS (selections_given tap (opcodes_told (opcodes_from start codes) codes)) (omega arith))
    (copies_drive first (copies_from start codes) (copies_from number codes) (latches_from start codes) codes.length (omega arith))))

pub bypass_drives : (first start number : ℕ) (tap : TapNets) (on tdi : NetId) → first ≤ start → DrivesFrom first (bypass_cells start number tap on tdi)
bypass_drives first start number tap on tdi low =
    drives_both first (selected_cells start number tap on) (part_cells SHIFT_BIT (shift_bit_given (selected_steering start tap) (Const false) tdi) (start + 2) (number + 2)) (part_drives first start number SELECTED (selected_given tap on) low)
    (part_drives first (start + 2) (number + 2) SHIFT_BIT (shift_bit_given (selected_steering start tap) (Const false) tdi) (omega arith))

data_drives : (first start number : ℕ) (tap : TapNets) (on tdi : NetId) (captured : List Feed) → first ≤ start → DrivesFrom first (data_cells start number tap on tdi captured)
data_drives first start number tap on tdi captured low =
    drives_both first (selected_cells start number tap on) (chain_cells (start + 2) (number + 2) (selected_steering start tap) tdi captured)
    (part_drives first start number SELECTED (selected_given tap on) low) (chain_drives first (start + 2) (number + 2) (selected_steering start tap) tdi captured (omega arith))

inverse_drives : (first start number : ℕ) (user_on : NetId) (user : Option ℕ) → first ≤ start → DrivesFrom first (inverse_cells start number user_on user)
inverse_drives first start number user_on None low = drives_none first
inverse_drives first start number user_on (Some user) low = part_drives first start number INVERSE (Net user_on ∷ []) low

pub ident_drives : (first start number : ℕ) (tap : TapNets) (on user_on tdi : NetId) (user : Option ℕ) (code : ℕ) → first ≤ start
    → DrivesFrom first (ident_cells start number tap on user_on tdi user code)
ident_drives first start number tap on user_on tdi user code low =
    let captured : List Feed = captured_feeds start user_on user code in
    drives_both first (inverse_cells start number user_on user) (data_cells (start + user_size user) (number + user_size user) tap on tdi captured)
    (inverse_drives first start number user_on user low) (data_drives first (start + user_size user) (number + user_size user) tap on tdi captured (omega arith))

-- nets before those of a part stay free
pub free_before : FreeStays → (old new : ArenaView) (count first : ℕ) (part : List CellView) → Appended old new count part → DrivesFrom first part
    → (net : ℕ) → net < first → IsFree old.lists net → IsFree new.lists net
free_before stays old new count first part added drives net low free =
    stays old new count part added net free (λ k cell at e. let past = drives k net cell at e in omega arith)
