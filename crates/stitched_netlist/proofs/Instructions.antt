-- The cells of the instruction register.
use Rattle.std.proofs.Common.{◌≡◌, ℕ, ◌+◌, ◌*◌, ◌≤◌, List, [], ◌∷◌, ◌++◌, length, length-append, refl, ap, sym, ◌∙◌, arith, Some, None}
use Rattle.std.specs.Prelude.{Option}
use Rattle.cell_library.specs.declared.codes.Bits.{Bits}
use Rattle.cell_library.specs.declared.codes.Instr.{Instr}
use Rattle.cell_library.specs.declared.codes.Instr.TheVariants.{Extest, Sample, Preload, Idcode, Highz, Clamp, Usercode}
use Rattle.netlist_model.specs.declared.NetId.{NetId}
use Rattle.netlist_model.specs.declared.Feed.{Feed}
use Rattle.netlist_model.specs.declared.Feed.TheVariants.{Net}
use Rattle.gate_parts.specs.Parts.{part_cells}
use Rattle.test_logic.specs.declared.Codes.{Codes}
use Rattle.test_logic.specs.declared.TapNets.{TapNets}
use Rattle.test_logic.specs.Instructions.{opcode_of}
use Rattle.surrounded_core.specs.register_gates.Chains.{chain_cells}
use Rattle.surrounded_core.proofs.register_gates.Lengths.{chain_length}
use Rattle.surrounded_core.proofs.register_gates.ConstantBits.{counted, constants}
use Rattle.surrounded_core.specs.instruction_gates.declared.selections.TheConstants.{SELECTIONS}
use Rattle.surrounded_core.specs.instruction_gates.declared.stages.TheConstants.{LOADS}
use Rattle.surrounded_core.specs.instruction_gates.Latches.{latches_cells}
use Rattle.surrounded_core.specs.instruction_gates.Copies.{copies_cells}
use Rattle.surrounded_core.specs.instruction_gates.Selections.{selections_given, selections_cells}
use Rattle.surrounded_core.specs.instruction_gates.Stages.{loads_given, ir_steering, ir_latching, stages_cells}
use Rattle.surrounded_core.specs.instruction_gates.Register.{pattern_bits, stages_size, latches_from, size_with, cells_with, told_with, opcode_size, opcode_cells, opcode_told, matched_instructions, opcodes_size, opcodes_cells, opcodes_told, opcodes_from, selections_from, copies_from, instruction_size, instruction_cells}
use Rattle.surrounded_core.proofs.instruction_gates.Added.{stages_counted}
use Rattle.surrounded_core.proofs.instruction_gates.Sizes.{opcode_length, opcodes_length}
use Rattle.stitched_netlist.specs.Gates.{EachCell, DriveInTurn, FeedsAre, IsLogicCell}
use Rattle.stitched_netlist.proofs.Tables.{each_append, turn_append, turn_moved, feed_cons, table_turn, plain_logic}
use Rattle.stitched_netlist.proofs.Registers.{Between, constant_feeds, SteeringAre, LatchingAre, chain_turn, chain_logic, latches_turn, latches_logic, matches_turn, matches_logic, before_is, copies_turn, copies_logic}

-- Nets in turn.

stages_turn : (first number : ℕ) (tap : TapNets) (tdi : NetId) (captured presets : List Feed) → DriveInTurn first (stages_cells first number tap tdi captured presets)
stages_turn first number tap tdi captured presets =
    let loads = part_cells LOADS (loads_given tap) first number in
    let bits = chain_cells (first + 1) (number + 1) (ir_steering tap) tdi captured in
    let held = latches_cells (first + (1 + 3 * length captured)) (number + (1 + 3 * length captured)) (ir_latching first tap) (first + 1) presets in
    let one : length loads ≡ 1 = refl in
    let many = chain_length (first + 1) (number + 1) (ir_steering tap) tdi captured in
    let both = length-append loads bits in
    turn_append first (loads ++ bits) held
    (turn_append first loads bits (table_turn LOADS (loads_given tap) first number)
    (turn_moved (first + 1) (first + length loads) bits (omega arith) (chain_turn (first + 1) (number + 1) (ir_steering tap) tdi captured)))
    (turn_moved (first + (1 + 3 * length captured)) (first + length (loads ++ bits)) held (omega arith)
    (latches_turn (first + (1 + 3 * length captured)) (number + (1 + 3 * length captured)) (ir_latching first tap) (first + 1) presets))

told_turn : (first number latched : ℕ) (codes : Codes) (opcode : Option Bits) → DriveInTurn first (cells_with first number latched codes opcode)
told_turn first number latched codes None = tt
told_turn first number latched codes (Some opcode) = matches_turn first number latched (pattern_bits codes opcode)

opcodes_turn : (first number latched : ℕ) (codes : Codes) (rest : List Instr) → DriveInTurn first (opcodes_cells first number latched codes rest)
opcodes_turn first number latched codes [] = tt
opcodes_turn first number latched codes (i ∷ rest) =
    let xs = opcode_cells first number latched codes i in
    let ys = opcodes_cells (first + opcode_size codes i) (number + opcode_size codes i) latched codes rest in
    let many = opcode_length constants first number latched codes i in
    turn_append first xs ys (told_turn first number latched codes (opcode_of codes.opcodes i))
    (turn_moved (first + opcode_size codes i) (first + length xs) ys (ap (λ (n : ℕ). first + n) (sym many))
    (opcodes_turn (first + opcode_size codes i) (number + opcode_size codes i) latched codes rest))

pub instruction_turn : (first number : ℕ) (tap : TapNets) (tdi : NetId) (codes : Codes) → DriveInTurn first (instruction_cells first number tap tdi codes)
instruction_turn first number tap tdi codes =
    let captured = pattern_bits codes codes.capture in
    let presets = pattern_bits codes codes.reset in
    let stages = stages_cells first number tap tdi captured presets in
    let told = opcodes_cells (opcodes_from first codes) (opcodes_from number codes) (latches_from first codes) codes matched_instructions in
    let chosen = selections_cells (selections_from first codes) (selections_from number codes) tap (opcodes_told (opcodes_from first codes) codes) in
    let copies = copies_cells (copies_from first codes) (copies_from number codes) (latches_from first codes) codes.length in
    let a : length stages ≡ stages_size codes = stages_counted constants first number tap tdi codes in
    let b : length told ≡ opcodes_size codes matched_instructions =
    opcodes_length constants (opcodes_from first codes) (opcodes_from number codes) (latches_from first codes) codes matched_instructions in
    turn_append first stages (told ++ (chosen ++ copies)) (stages_turn first number tap tdi captured presets)
    (turn_moved (opcodes_from first codes) (first + length stages) (told ++ (chosen ++ copies)) (ap (λ (n : ℕ). first + n) (sym a))
    (turn_append (opcodes_from first codes) told (chosen ++ copies) (opcodes_turn (opcodes_from first codes) (opcodes_from number codes) (latches_from first codes) codes matched_instructions)
    (turn_moved (selections_from first codes) (opcodes_from first codes + length told) (chosen ++ copies) (ap (λ (n : ℕ). opcodes_from first codes + n) (sym b))
    (turn_append (selections_from first codes) chosen copies
    (table_turn SELECTIONS (selections_given tap (opcodes_told (opcodes_from first codes) codes)) (selections_from first codes) (selections_from number codes))
    (copies_turn (copies_from first codes) (copies_from number codes) (latches_from first codes) codes.length)))))

-- What they read.

pub record TapAre (P : ℕ → Type 0) (tap : TapNets) : Type 0 where
  pub tck : P tap.tck.0
  pub trst : P tap.trst.0
  pub in_reset : P tap.in_reset.0
  pub capture_dr : P tap.capture_dr.0
  pub shift_dr : P tap.shift_dr.0
  pub update_dr : P tap.update_dr.0
  pub capture_ir : P tap.capture_ir.0
  pub shift_ir : P tap.shift_ir.0
  pub update_ir : P tap.update_ir.0

stages_logic : (P : ℕ → Type 0) (first number : ℕ) (tap : TapNets) (tdi : NetId) (captured presets : List Feed) → TapAre P tap → P tdi.0 → FeedsAre P captured
    → length presets ≡ length captured → Between P first (first + (1 + 3 * length captured + 3 * length presets))
    → EachCell (IsLogicCell tap.tck tap.trst P) (stages_cells first number tap tdi captured presets)
stages_logic P first number tap tdi captured presets t d c same own =
    let loads = part_cells LOADS (loads_given tap) first number in
    let bits = chain_cells (first + 1) (number + 1) (ir_steering tap) tdi captured in
    let held = latches_cells (first + (1 + 3 * length captured)) (number + (1 + 3 * length captured)) (ir_latching first tap) (first + 1) presets in
    let steering : SteeringAre P (ir_steering tap) = record { tck = t.tck; trst = t.trst; capture = t.capture_ir; shift = t.shift_ir } in
    let latching : LatchingAre P (ir_latching first tap) = record { tck = t.tck; trst = t.trst; load = own first (omega arith) (omega arith); in_reset = t.in_reset } in
    each_append (IsLogicCell tap.tck tap.trst P) (loads ++ bits) held
    (each_append (IsLogicCell tap.tck tap.trst P) loads bits
    (plain_logic LOADS (loads_given tap) first number tap.tck tap.trst P refl (t.update_ir, (t.in_reset, tt)) (λ j below. own (first + j) (omega arith) (omega arith)))
    (chain_logic P (first + 1) (number + 1) (ir_steering tap) tdi captured steering c d (λ net low high. own net (omega arith) (omega arith))))
    (latches_logic P (first + (1 + 3 * length captured)) (number + (1 + 3 * length captured)) (ir_latching first tap) (first + 1) presets latching
    (λ net low high. own net (omega arith) (omega arith)) (λ net low high. own net (omega arith) (omega arith)))

told_logic : (tck trst : NetId) (P : ℕ → Type 0) (first number latched : ℕ) (codes : Codes) (opcode : Option Bits) → Between P latched (latched + 3 * codes.length)
    → Between P first (first + size_with codes opcode) → EachCell (IsLogicCell tck trst P) (cells_with first number latched codes opcode)
told_logic tck trst P first number latched codes None l own = tt
told_logic tck trst P first number latched codes (Some opcode) l own =
    let many = counted codes.length opcode.value in
    matches_logic tck trst P first number latched (pattern_bits codes opcode) (λ net low high. l net low (omega arith)) (λ net low high. own net low (omega arith))

told_feed : (P : ℕ → Type 0) (first : ℕ) (codes : Codes) (opcode : Option Bits) → Between P first (first + size_with codes opcode) → FeedsAre P (told_with first codes opcode ∷ [])
told_feed P first codes None own = tt
told_feed P first codes (Some opcode) own = before_is P first codes.length own

opcodes_logic : (tck trst : NetId) (P : ℕ → Type 0) (first number latched : ℕ) (codes : Codes) (rest : List Instr) → Between P latched (latched + 3 * codes.length)
    → Between P first (first + opcodes_size codes rest) → EachCell (IsLogicCell tck trst P) (opcodes_cells first number latched codes rest)
opcodes_logic tck trst P first number latched codes [] l own = tt
opcodes_logic tck trst P first number latched codes (i ∷ rest) l own =
    each_append (IsLogicCell tck trst P) (opcode_cells first number latched codes i)
    (opcodes_cells (first + opcode_size codes i) (number + opcode_size codes i) latched codes rest)
    (told_logic tck trst P first number latched codes (opcode_of codes.opcodes i) l (λ net low high. own net low (omega arith)))
    (opcodes_logic tck trst P (first + opcode_size codes i) (number + opcode_size codes i) latched codes rest l (λ net low high. own net (omega arith) (omega arith)))

-- what is told of each opcode
told_feeds : (P : ℕ → Type 0) (first : ℕ) (codes : Codes) (rest : List Feed) → Between P first (first + opcodes_size codes matched_instructions) → FeedsAre P rest
    → FeedsAre P ((opcodes_told first codes).extest ∷ (opcodes_told first codes).sample ∷ (opcodes_told first codes).preload ∷ (opcodes_told first codes).idcode
    ∷ (opcodes_told first codes).highz ∷ (opcodes_told first codes).clamp ∷ (opcodes_told first codes).usercode ∷ rest)
told_feeds P first codes rest own are =
    let m = opcodes_told first codes in
    let sample : ℕ = first + opcode_size codes Extest in
    let preload : ℕ = sample + opcode_size codes Sample in
    let idcode : ℕ = preload + opcode_size codes Preload in
    let highz : ℕ = idcode + opcode_size codes Idcode in
    let clamp : ℕ = highz + opcode_size codes Highz in
    let usercode : ℕ = clamp + opcode_size codes Clamp in
    let one : (at : ℕ) (i : Instr) → first ≤ at → at + opcode_size codes i ≤ first + opcodes_size codes matched_instructions → FeedsAre P (opcode_told at codes i ∷ []) =
    λ at i low high. told_feed P at codes (opcode_of codes.opcodes i) (λ net a b. own net (omega arith) (omega arith)) in
    feed_cons P m.extest _ (one first Extest (omega arith) (omega arith))
    (feed_cons P m.sample _ (one sample Sample (omega arith) (omega arith))
    (feed_cons P m.preload _ (one preload Preload (omega arith) (omega arith))
    (feed_cons P m.idcode _ (one idcode Idcode (omega arith) (omega arith))
    (feed_cons P m.highz _ (one highz Highz (omega arith) (omega arith))
    (feed_cons P m.clamp _ (one clamp Clamp (omega arith) (omega arith))
    (feed_cons P m.usercode _ (one usercode Usercode (omega arith) (omega arith)) are))))))

pub instruction_logic : (P : ℕ → Type 0) (first number : ℕ) (tap : TapNets) (tdi : NetId) (codes : Codes) → TapAre P tap → P tdi.0 → Between P first (first + instruction_size codes)
    → EachCell (IsLogicCell tap.tck tap.trst P) (instruction_cells first number tap tdi codes)
instruction_logic P first number tap tdi codes t d own =
    let captured = pattern_bits codes codes.capture in
    let presets = pattern_bits codes codes.reset in
    let stages = stages_cells first number tap tdi captured presets in
    let told = opcodes_cells (opcodes_from first codes) (opcodes_from number codes) (latches_from first codes) codes matched_instructions in
    let matched = opcodes_told (opcodes_from first codes) codes in
    let chosen = selections_cells (selections_from first codes) (selections_from number codes) tap matched in
    let copies = copies_cells (copies_from first codes) (copies_from number codes) (latches_from first codes) codes.length in
    let a : length captured ≡ codes.length = counted codes.length codes.capture.value in
    let b : length presets ≡ codes.length = counted codes.length codes.reset.value in
    each_append (IsLogicCell tap.tck tap.trst P) stages (told ++ (chosen ++ copies))
    (stages_logic P first number tap tdi captured presets t d (constant_feeds P codes.length codes.capture.value) (b ∙ sym a) (λ net low high. own net low (omega arith)))
    (each_append (IsLogicCell tap.tck tap.trst P) told (chosen ++ copies)
    (opcodes_logic tap.tck tap.trst P (opcodes_from first codes) (opcodes_from number codes) (latches_from first codes) codes matched_instructions
    (λ net low high. own net (omega arith) (omega arith)) (λ net low high. own net (omega arith) (omega arith)))
    (each_append (IsLogicCell tap.tck tap.trst P) chosen copies
    (plain_logic SELECTIONS (selections_given tap matched) (selections_from first codes) (selections_from number codes) tap.tck tap.trst P refl
    (told_feeds P (opcodes_from first codes) codes (Net tap.capture_dr ∷ Net tap.shift_dr ∷ Net tap.update_dr ∷ [])
    (λ net low high. own net (omega arith) (omega arith)) (t.capture_dr, (t.shift_dr, (t.update_dr, tt))))
    (λ j below. own (selections_from first codes + j) (omega arith) (omega arith)))
    (copies_logic tap.tck tap.trst P (copies_from first codes) (copies_from number codes) (latches_from first codes) codes.length
    (λ net low high. own net (omega arith) (omega arith)) (λ net low high. own net (omega arith) (omega arith)))))
