-- The cells of the instruction register with certain codes, and the nets that it hands on.
-- IEEE Std 1149.1-2001: instruction register, instructions; the gates and their order are own.
use Rattle.std.specs.Prelude.{ℕ, ◌+◌, ◌*◌, false, List, [], ◌∷◌, ◌++◌, Option, Some, None}
use Rattle.signal_values.specs.declared.Sig.{Sig}
use Rattle.cell_library.specs.declared.codes.Bits.{Bits}
use Rattle.cell_library.specs.declared.codes.Instr.{Instr}
use Rattle.cell_library.specs.declared.codes.Instr.TheVariants.{Extest, Sample, Preload, Idcode, Highz, Clamp, Usercode}
use Rattle.netlist_model.specs.declared.NetId.{NetId}
use Rattle.netlist_model.specs.declared.Feed.{Feed}
use Rattle.netlist_model.specs.declared.Feed.TheVariants.{Const}
use Rattle.netlist_model.specs.Below.{IsFeedBelow}
use Rattle.netlist_model.specs.Lists.{CellView}
use Rattle.test_logic.specs.declared.Codes.{Codes}
use Rattle.test_logic.specs.declared.InstrNets.{InstrNets}
use Rattle.test_logic.specs.declared.TapNets.{TapNets}
use Rattle.test_logic.specs.Instructions.{opcode_of}
use Rattle.register_gates.specs.Chains.{chain_last}
use Rattle.register_gates.specs.Constants.{constant_bits}
use Rattle.instruction_gates.specs.declared.selections.Matched.{Matched}
use Rattle.instruction_gates.specs.Copies.{copies_cells}
use Rattle.instruction_gates.specs.Matches.{match_before, matches_cells}
use Rattle.instruction_gates.specs.Selections.{selections_cells, selection_nets}
use Rattle.instruction_gates.specs.Stages.{stages_cells, shift_list, latched_list}

-- own: a pattern as so many constants as the register has bits
abbrev pub pattern_bits : Codes → Bits → List Feed
pattern_bits codes bits = constant_bits codes.length bits.value

-- own: how many nets and cells the two stages take, and where the nets of the latched bits begin
abbrev pub stages_size : Codes → ℕ
stages_size codes = 1 + 6 * codes.length

abbrev pub latches_from : ℕ → Codes → ℕ
latches_from first codes = first + (1 + 3 * codes.length)

-- Whether an opcode is latched. An instruction without an opcode takes no gates, and 0 tells that it isn't in effect.

abbrev pub size_with : Codes → Option Bits → ℕ
size_with codes None = 0
size_with codes (Some opcode) = 2 * codes.length

abbrev pub cells_with : ℕ → ℕ → ℕ → Codes → Option Bits → List CellView
cells_with first number latches codes None = []
cells_with first number latches codes (Some opcode) = matches_cells first number latches (pattern_bits codes opcode)

abbrev pub told_with : ℕ → Codes → Option Bits → Feed
told_with first codes None = Const false
told_with first codes (Some opcode) = match_before first codes.length

abbrev pub opcode_size : Codes → Instr → ℕ
opcode_size codes i = size_with codes (opcode_of codes.opcodes i)

abbrev pub opcode_cells : ℕ → ℕ → ℕ → Codes → Instr → List CellView
opcode_cells first number latches codes i = cells_with first number latches codes (opcode_of codes.opcodes i)

abbrev pub opcode_told : ℕ → Codes → Instr → Feed
opcode_told first codes i = told_with first codes (opcode_of codes.opcodes i)

-- own: whose opcodes are told, in this order; BYPASS is in effect where no other is
abbrev pub matched_instructions : List Instr
matched_instructions = Extest ∷ Sample ∷ Preload ∷ Idcode ∷ Highz ∷ Clamp ∷ Usercode ∷ []

abbrev pub opcodes_size : Codes → List Instr → ℕ
opcodes_size codes [] = 0
opcodes_size codes (i ∷ rest) = opcode_size codes i + opcodes_size codes rest

abbrev pub opcodes_cells : ℕ → ℕ → ℕ → Codes → List Instr → List CellView
opcodes_cells first number latches codes [] = []
opcodes_cells first number latches codes (i ∷ rest) = opcode_cells first number latches codes i
    ++ opcodes_cells (first + opcode_size codes i) (number + opcode_size codes i) latches codes rest

abbrev pub opcodes_told : ℕ → Codes → Matched
opcodes_told first codes =
    let sample : ℕ = first + opcode_size codes Extest in
    let preload : ℕ = sample + opcode_size codes Sample in
    let idcode : ℕ = preload + opcode_size codes Preload in
    let highz : ℕ = idcode + opcode_size codes Idcode in
    let clamp : ℕ = highz + opcode_size codes Highz in
    let usercode : ℕ = clamp + opcode_size codes Clamp in
    record {
      extest = opcode_told first codes Extest;
      sample = opcode_told sample codes Sample;
      preload = opcode_told preload codes Preload;
      idcode = opcode_told idcode codes Idcode;
      highz = opcode_told highz codes Highz;
      clamp = opcode_told clamp codes Clamp;
      usercode = opcode_told usercode codes Usercode;
    }

-- own: what is told is constant, or stands on nets with numbers below this one
pub record AreToldBelow (nets : ℕ) (matched : Matched) : Type 0 where
  pub extest : IsFeedBelow nets matched.extest
  pub sample : IsFeedBelow nets matched.sample
  pub preload : IsFeedBelow nets matched.preload
  pub idcode : IsFeedBelow nets matched.idcode
  pub highz : IsFeedBelow nets matched.highz
  pub clamp : IsFeedBelow nets matched.clamp
  pub usercode : IsFeedBelow nets matched.usercode

-- The whole register.

-- own: where the parts behind the stages begin
abbrev pub opcodes_from : ℕ → Codes → ℕ
opcodes_from first codes = first + stages_size codes

abbrev pub selections_from : ℕ → Codes → ℕ
selections_from first codes = opcodes_from first codes + opcodes_size codes matched_instructions

abbrev pub copies_from : ℕ → Codes → ℕ
copies_from first codes = selections_from first codes + 10

-- own: how many nets and cells it takes
abbrev pub instruction_size : Codes → ℕ
instruction_size codes = stages_size codes + (opcodes_size codes matched_instructions + (10 + codes.length))

-- own: its cells, from this cell number on, on the nets from `first` on
abbrev pub instruction_cells : ℕ → ℕ → TapNets → NetId → Codes → List CellView
instruction_cells first number tap tdi codes =
    stages_cells first number tap tdi (pattern_bits codes codes.capture) (pattern_bits codes codes.reset)
    ++ (opcodes_cells (opcodes_from first codes) (opcodes_from number codes) (latches_from first codes) codes matched_instructions
    ++ (selections_cells (selections_from first codes) (selections_from number codes) tap (opcodes_told (opcodes_from first codes) codes)
    ++ copies_cells (copies_from first codes) (copies_from number codes) (latches_from first codes) codes.length))

-- own: the nets that it hands on
abbrev pub instruction_nets : ℕ → TapNets → NetId → Codes → InstrNets
instruction_nets first tap tdi codes = selection_nets (selections_from first codes) tap (chain_last (first + 1) tdi (pattern_bits codes codes.capture))

-- own: what its two stages hold
abbrev pub held_shift : (ℕ → Sig) → ℕ → Codes → List Sig
held_shift value first codes = shift_list value first (pattern_bits codes codes.capture)

abbrev pub held_opcode : (ℕ → Sig) → ℕ → Codes → List Sig
held_opcode value first codes = latched_list value first (pattern_bits codes codes.capture) (pattern_bits codes codes.reset)
