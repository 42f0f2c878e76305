-- How many cells the parts of the register have, and how much room they take.
use Rattle.std.proofs.Common.{◌≡◌, ℕ, suc, ◌+◌, ◌*◌, List, [], ◌∷◌, length, length-append, refl, ◌∙◌, ap, Some, None, arith}
use Rattle.std.specs.Prelude.{Option}
use Rattle.cell_library.specs.declared.codes.Bits.{Bits}
use Rattle.cell_library.specs.declared.codes.Instr.{Instr}
use Rattle.netlist_model.specs.declared.NetId.{NetId}
use Rattle.netlist_model.specs.declared.Feed.{Feed}
use Rattle.netlist_model.specs.declared.Feed.TheVariants.{Net}
use Rattle.test_logic.specs.declared.Codes.{Codes}
use Rattle.test_logic.specs.declared.TapNets.{TapNets}
use Rattle.test_logic.specs.Instructions.{opcode_of}
use Rattle.register_gates.proofs.Lengths.{chain_length, held_length}
use Rattle.register_gates.specs.Constants.{ConstantsAreBits}
use Rattle.instruction_gates.specs.declared.latches.Latching.{Latching}
use Rattle.instruction_gates.specs.Rows.{is_one}
use Rattle.instruction_gates.specs.Latches.{holding_of, latch_cells, latches_cells}
use Rattle.instruction_gates.specs.Matches.{match_before, match_cells, matches_cells}
use Rattle.instruction_gates.specs.Stages.{ir_steering, ir_latching, shift_stage_cells, stages_cells}
use Rattle.instruction_gates.proofs.RowSteps.{row_length}
use Rattle.instruction_gates.specs.Register.{pattern_bits, size_with, cells_with, opcode_size, opcode_cells, opcodes_size, opcodes_cells}

pub matches_length : (first number latches : ℕ) (wanted : List Feed) → length (matches_cells first number latches wanted) ≡ 2 * length wanted
matches_length first number latches wanted =
    row_length 2 (λ behind at cell item. match_cells (match_before first behind) (latches + 3 * behind + 1) at cell item) (λ behind at cell item. refl) first number wanted

pub latches_length : (first number : ℕ) (by : Latching) (shifts : ℕ) (presets : List Feed) → length (latches_cells first number by shifts presets) ≡ 3 * length presets
latches_length first number by shifts presets =
    row_length 3 (λ behind at cell preset. latch_cells by (shifts + 3 * behind) at cell preset)
    (λ behind at cell preset. ap suc (held_length (at + 1) (cell + 1) (holding_of by) (is_one preset) (Net (record { 0 = at })))) first number presets

pub stages_length : (first number : ℕ) (tap : TapNets) (tdi : NetId) (captured presets : List Feed)
    → length (stages_cells first number tap tdi captured presets) ≡ 1 + 3 * length captured + 3 * length presets
stages_length first number tap tdi captured presets =
    let front = shift_stage_cells first number tap tdi captured in
    let back = latches_cells (first + (1 + 3 * length captured)) (number + (1 + 3 * length captured)) (ir_latching first tap) (first + 1) presets in
    let both = length-append front back in
    let a : length front ≡ suc (3 * length captured) = ap suc (chain_length (first + 1) (number + 1) (ir_steering tap) tdi captured) in
    let b = latches_length (first + (1 + 3 * length captured)) (number + (1 + 3 * length captured)) (ir_latching first tap) (first + 1) presets in
    omega arith

-- what tells of opcodes

length_with : ConstantsAreBits → (first number latches : ℕ) (codes : Codes) (opcode : Option Bits) → length (cells_with first number latches codes opcode) ≡ size_with codes opcode
length_with constants first number latches codes None = refl
length_with constants first number latches codes (Some opcode) =
    matches_length first number latches (pattern_bits codes opcode) ∙ ap (λ (n : ℕ). 2 * n) (constants codes.length opcode.value).counted

pub opcode_length : ConstantsAreBits → (first number latches : ℕ) (codes : Codes) (i : Instr) → length (opcode_cells first number latches codes i) ≡ opcode_size codes i
opcode_length constants first number latches codes i = length_with constants first number latches codes (opcode_of codes.opcodes i)

pub opcodes_length : ConstantsAreBits → (first number latches : ℕ) (codes : Codes) (rest : List Instr) → length (opcodes_cells first number latches codes rest) ≡ opcodes_size codes rest
opcodes_length constants first number latches codes [] = refl
opcodes_length constants first number latches codes (i ∷ rest) =
    length-append (opcode_cells first number latches codes i) (opcodes_cells (first + opcode_size codes i) (number + opcode_size codes i) latches codes rest)
    ∙ ap (λ (n : ℕ). n + length (opcodes_cells (first + opcode_size codes i) (number + opcode_size codes i) latches codes rest)) (opcode_length constants first number latches codes i)
    ∙ ap (λ (n : ℕ). opcode_size codes i + n) (opcodes_length constants (first + opcode_size codes i) (number + opcode_size codes i) latches codes rest)
