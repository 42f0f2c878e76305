-- The parts are added one after the other.
use Rattle.std.proofs.Common.{◌≡◌, ℕ, ◌+◌, ◌*◌, ◌≤◌, List, [], ◌∷◌, ◌++◌, length, take, refl, sym, ◌∙◌, ap, subst, arith}
use Rattle.cell_library.specs.declared.codes.Instr.{Instr}
use Rattle.cell_library.specs.declared.codes.Instr.TheVariants.{Extest, Sample, Preload, Idcode, Highz, Clamp, Usercode}
use Rattle.netlist_model.specs.declared.NetId.{NetId}
use Rattle.netlist_model.specs.declared.Feed.{Feed}
use Rattle.netlist_model.specs.Below.{AreFeedsBelow}
use Rattle.netlist_model.specs.Contained.{IsDense}
use Rattle.netlist_model.specs.Lists.{CellView, cell_count}
use Rattle.netlist_arena.specs.Arena.{ArenaView}
use Rattle.gate_parts.specs.Appended.{Appended}
use Rattle.gate_parts.specs.Laws.{AppendedNone}
use Rattle.test_logic.specs.declared.Codes.{Codes}
use Rattle.test_logic.specs.declared.TapNets.{TapNets}
use Rattle.register_gates.specs.Constants.{constant_bits, ConstantsAreBits}
use Rattle.register_gates.specs.Steps.{AddedInTurn}
use Rattle.instruction_gates.specs.declared.selections.Matched.{Matched}
use Rattle.instruction_gates.specs.Copies.{copies_cells}
use Rattle.instruction_gates.specs.Selections.{selections_cells}
use Rattle.instruction_gates.specs.Stages.{stages_cells}
use Rattle.instruction_gates.specs.Register.{pattern_bits, stages_size, latches_from, opcode_size, opcode_cells, matched_instructions, opcodes_size, opcodes_cells, opcodes_told, instruction_size, instruction_cells}
use Rattle.instruction_gates.proofs.Sizes.{stages_length, opcode_length, opcodes_length}

-- the first bits of a number's constants
pub first_bits : ConstantsAreBits → (count value : ℕ) (written : List Feed) → written ≡ constant_bits 32 value → count ≤ 32 → take count written ≡ constant_bits count value
first_bits constants count value written e below = ap (λ (bits : List Feed). take count bits) e ∙ (constants count value).fewer 32 below

pub first_counted : ConstantsAreBits → (count value : ℕ) (written : List Feed) → written ≡ constant_bits 32 value → count ≤ 32 → length (take count written) ≡ count
first_counted constants count value written e below = ap (λ (bits : List Feed). length bits) (first_bits constants count value written e below) ∙ (constants count value).counted

pub first_below : ConstantsAreBits → (count value : ℕ) (written : List Feed) → written ≡ constant_bits 32 value → count ≤ 32 → (nets : ℕ) → AreFeedsBelow nets (take count written)
first_below constants count value written e below nets =
    let P : List Feed → Type 0 = λ bits. AreFeedsBelow nets bits in
    subst P (sym (first_bits constants count value written e below)) ((constants count value).below nets)

-- the room that the stages leave
pub stages_room : (old new : ArenaView) (tap : TapNets) (tdi : NetId) (captured presets : List Feed) (count : ℕ) → length captured ≡ count → length presets ≡ count
    → Appended old new (1 + 3 * length captured + 3 * length presets) (stages_cells (length old.lists.nets) (cell_count old.lists) tap tdi captured presets)
    → new.spare.cells + (1 + 6 * count) ≡ old.spare.cells
stages_room old new tap tdi captured presets count e f added =
    let room = added.cell_room in
    let whole = stages_length (length old.lists.nets) (cell_count old.lists) tap tdi captured presets in
    omega arith

pub stages_counted : ConstantsAreBits → (first number : ℕ) (tap : TapNets) (tdi : NetId) (codes : Codes)
    → length (stages_cells first number tap tdi (pattern_bits codes codes.capture) (pattern_bits codes codes.reset)) ≡ stages_size codes
stages_counted constants first number tap tdi codes =
    let a = (constants codes.length codes.capture.value).counted in
    let b = (constants codes.length codes.reset.value).counted in
    let whole = stages_length first number tap tdi (pattern_bits codes codes.capture) (pattern_bits codes codes.reset) in
    omega arith

-- one more opcode before those that follow
pub opcode_before : AddedInTurn → ConstantsAreBits → (old middle new : ArenaView) (latches : ℕ) (codes : Codes) (i : Instr) (rest : List Instr)
    → Appended old middle (opcode_size codes i) (opcode_cells (length old.lists.nets) (cell_count old.lists) latches codes i)
    → Appended middle new (opcodes_size codes rest) (opcodes_cells (length middle.lists.nets) (cell_count middle.lists) latches codes rest)
    → Appended old new (opcodes_size codes (i ∷ rest)) (opcodes_cells (length old.lists.nets) (cell_count old.lists) latches codes (i ∷ rest))
opcode_before in_turn constants old middle new latches codes i rest a b =
    in_turn old middle new (opcode_size codes i) (opcodes_size codes rest) (opcodes_size codes (i ∷ rest)) (opcode_cells (length old.lists.nets) (cell_count old.lists) latches codes i)
    (λ at cell. opcodes_cells at cell latches codes rest) a (opcode_length constants (length old.lists.nets) (cell_count old.lists) latches codes i) b refl

pub opcodes_added : AddedInTurn → ConstantsAreBits → AppendedNone → (old a b c d e f new : ArenaView) (latches : ℕ) (codes : Codes) → IsDense new.lists
    → Appended old a (opcode_size codes Extest) (opcode_cells (length old.lists.nets) (cell_count old.lists) latches codes Extest)
    → Appended a b (opcode_size codes Sample) (opcode_cells (length a.lists.nets) (cell_count a.lists) latches codes Sample)
    → Appended b c (opcode_size codes Preload) (opcode_cells (length b.lists.nets) (cell_count b.lists) latches codes Preload)
    → Appended c d (opcode_size codes Idcode) (opcode_cells (length c.lists.nets) (cell_count c.lists) latches codes Idcode)
    → Appended d e (opcode_size codes Highz) (opcode_cells (length d.lists.nets) (cell_count d.lists) latches codes Highz)
    → Appended e f (opcode_size codes Clamp) (opcode_cells (length e.lists.nets) (cell_count e.lists) latches codes Clamp)
    → Appended f new (opcode_size codes Usercode) (opcode_cells (length f.lists.nets) (cell_count f.lists) latches codes Usercode)
    → Appended old new (opcodes_size codes matched_instructions) (opcodes_cells (length old.lists.nets) (cell_count old.lists) latches codes matched_instructions)
opcodes_added in_turn constants none old a b c d e f new latches codes dense extest sample preload idcode highz clamp usercode =
    let seven = opcode_before in_turn constants f new new latches codes Usercode [] usercode (none new dense) in
    let six = opcode_before in_turn constants e f new latches codes Clamp (Usercode ∷ []) clamp seven in
    let five = opcode_before in_turn constants d e new latches codes Highz (Clamp ∷ Usercode ∷ []) highz six in
    let four = opcode_before in_turn constants c d new latches codes Idcode (Highz ∷ Clamp ∷ Usercode ∷ []) idcode five in
    let three = opcode_before in_turn constants b c new latches codes Preload (Idcode ∷ Highz ∷ Clamp ∷ Usercode ∷ []) preload four in
    let two = opcode_before in_turn constants a b new latches codes Sample (Preload ∷ Idcode ∷ Highz ∷ Clamp ∷ Usercode ∷ []) sample three in
    opcode_before in_turn constants old a new latches codes Extest (Sample ∷ Preload ∷ Idcode ∷ Highz ∷ Clamp ∷ Usercode ∷ []) extest two

pub instruction_added : AddedInTurn → ConstantsAreBits → (old a b c new : ArenaView) (tap : TapNets) (tdi : NetId) (codes : Codes) (latches : NetId) (matched : Matched)
    → latches.0 ≡ latches_from (length old.lists.nets) codes → matched ≡ opcodes_told (length a.lists.nets) codes
    → Appended old a (stages_size codes) (stages_cells (length old.lists.nets) (cell_count old.lists) tap tdi (pattern_bits codes codes.capture) (pattern_bits codes codes.reset))
    → Appended a b (opcodes_size codes matched_instructions) (opcodes_cells (length a.lists.nets) (cell_count a.lists) latches.0 codes matched_instructions)
    → Appended b c 10 (selections_cells (length b.lists.nets) (cell_count b.lists) tap matched)
    → Appended c new codes.length (copies_cells (length c.lists.nets) (cell_count c.lists) latches.0 codes.length)
    → Appended old new (instruction_size codes) (instruction_cells (length old.lists.nets) (cell_count old.lists) tap tdi codes)
instruction_added in_turn constants old a b c new tap tdi codes latches matched e f x y z copied =
    let bits : ℕ = codes.length in
    let count : ℕ = opcodes_size codes matched_instructions in
    let at_latches : ℕ = latches_from (length old.lists.nets) codes in
    let told : Matched = opcodes_told (length a.lists.nets) codes in
    let P : ℕ → Type 0 = λ n. Appended a b count (opcodes_cells (length a.lists.nets) (cell_count a.lists) n codes matched_instructions) in
    let Q : Matched → Type 0 = λ m. Appended b c 10 (selections_cells (length b.lists.nets) (cell_count b.lists) tap m) in
    let R : ℕ → Type 0 = λ n. Appended c new bits (copies_cells (length c.lists.nets) (cell_count c.lists) n bits) in
    let chosen : ℕ → ℕ → Matched → List CellView = λ at cell m. selections_cells at cell tap m ++ copies_cells (at + 10) (cell + 10) at_latches bits in
    let rest : ℕ → ℕ → List CellView
    = λ at cell. opcodes_cells at cell at_latches codes matched_instructions ++ chosen (at + count) (cell + count) (opcodes_told at codes) in
    let last : Appended b new (10 + bits) (chosen (length b.lists.nets) (cell_count b.lists) told)
    = in_turn b c new 10 bits (10 + bits) (selections_cells (length b.lists.nets) (cell_count b.lists) tap told) (λ at cell. copies_cells at cell at_latches bits) (subst Q f z) refl
    (subst R e copied) refl in
    let behind : Appended a new (count + (10 + bits)) (rest (length a.lists.nets) (cell_count a.lists))
    = in_turn a b new count (10 + bits) (count + (10 + bits)) (opcodes_cells (length a.lists.nets) (cell_count a.lists) at_latches codes matched_instructions)
    (λ at cell. chosen at cell told) (subst P e y) (opcodes_length constants (length a.lists.nets) (cell_count a.lists) at_latches codes matched_instructions) last refl in
    in_turn old a new (stages_size codes) (count + (10 + bits)) (instruction_size codes)
    (stages_cells (length old.lists.nets) (cell_count old.lists) tap tdi (pattern_bits codes codes.capture) (pattern_bits codes codes.reset)) rest x
    (stages_counted constants (length old.lists.nets) (cell_count old.lists) tap tdi codes) behind refl
