-- The instruction register is that of the test logic, part by part.
use Rattle.std.proofs.Common.{◌≡◌, ℕ, ◌+◌, ◌≤◌, false, List, [], ◌∷◌, ◌++◌, length, refl, sym, ap, ◌∙◌, subst, Some, None, arith}
use Rattle.std.specs.Prelude.{Option, slice_get}
use Rattle.signal_values.specs.declared.Sig.{Sig}
use Rattle.signal_values.specs.Values.{bit}
use Rattle.cell_library.specs.declared.codes.Bits.{Bits}
use Rattle.cell_library.specs.declared.codes.Instr.{Instr}
use Rattle.cell_library.specs.declared.codes.Instr.TheVariants.{Extest, Sample, Preload, Idcode, Highz, Clamp, Usercode}
use Rattle.cell_library.specs.declared.codes.Opcode.{Opcode}
use Rattle.netlist_model.specs.declared.NetId.{NetId}
use Rattle.netlist_model.specs.declared.Feed.{Feed}
use Rattle.netlist_model.specs.Lists.{CellView, NetlistView}
use Rattle.netlist_model.specs.Settled.{feed_value, IsSettled}
use Rattle.netlist_model.specs.Formed.{IsWellFormed}
use Rattle.netlist_model.specs.Contained.{HasCells}
use Rattle.netlist_model.specs.Runs.{Moment, PinEvent, IsStart, IsRun}
use Rattle.netlist_model.specs.LawsContained.{ContainedParts}
use Rattle.netlist_model.specs.LawsRuns.{RunHasMoments}
use Rattle.test_logic.specs.declared.Codes.{Codes}
use Rattle.test_logic.specs.declared.TapNets.{TapNets}
use Rattle.test_logic.specs.Instructions.{is_pattern, opcode_of, is_opcode, instruction_of, reset_opcode}
use Rattle.test_logic.specs.declared.TapState.TheVariants.{TestLogicReset}
use Rattle.test_logic.specs.declared.Levels.{Levels}
use Rattle.test_logic.specs.Registers.{first_bit}
use Rattle.test_logic.specs.Machine.{TestLogic, Machine, AreCodes, IsHistory, reset}
use Rattle.register_gates.specs.tap_gates.Laws.{ShowsState}
use Rattle.register_gates.specs.Constants.{ConstantsAreBits}
use Rattle.register_gates.specs.Steps.{StepsByRegister}
use Rattle.instruction_gates.specs.Rows.{bits_in}
use Rattle.instruction_gates.specs.Copies.{row_values, copies_cells, CopiesTell}
use Rattle.instruction_gates.specs.Latches.{latch_values}
use Rattle.instruction_gates.specs.Matches.{match_before, AreKnown, MatchesTell}
use Rattle.instruction_gates.specs.Selections.{selections_cells, Selected, Tells, SelectionsTell}
use Rattle.instruction_gates.specs.Stages.{stages_cells, Feeds, StagesFollow, StagesStep}
use Rattle.instruction_gates.specs.Register.{pattern_bits, latches_from, opcodes_from, selections_from, copies_from, cells_with, told_with, opcode_size, opcode_cells, opcode_told, matched_instructions, opcodes_cells, opcodes_told, instruction_cells, instruction_nets, held_opcode}
use Rattle.instruction_gates.specs.RegisterLaws.{FitTheRegister, IsFed, Follows, InstructionFollows}
use Rattle.instruction_gates.specs.Steps.{HoldsStages, InstructionSteps}
use Rattle.instruction_gates.proofs.Patterns.{bits_in_pattern, pattern_valued, latched_as, last_of}
use Rattle.instruction_gates.proofs.Known.{known_bits, known_stages}

-- the laws of what it is made of
pub record PartLaws : Type 0 where
  pub parts : ContainedParts
  pub stages : StagesFollow
  pub matches : MatchesTell
  pub selections : SelectionsTell
  pub copies : CopiesTell
  pub constants : ConstantsAreBits
  pub steps : StepsByRegister
  pub moments : RunHasMoments

-- what is told of an opcode, where the bits that are latched are known
told_of : PartLaws → (codes : Codes) (first at cell : ℕ) (N : NetlistView) (m : Moment) → IsWellFormed N → IsSettled N m.pins m.state m.value
    → AreKnown (held_opcode m.value first codes) → (found : Option Bits) → ((opcode : Bits) → found ≡ Some opcode → opcode.len ≡ codes.length)
    → HasCells N (cells_with at cell (latches_from first codes) codes found)
    → feed_value m.value (told_with at codes found) ≡ bit (is_opcode (held_opcode m.value first codes) found)
told_of laws codes first at cell N m formed settled known None long has = refl
told_of laws codes first at cell N m formed settled known (Some opcode) long has =
    let wanted : List Feed = pattern_bits codes opcode in
    let latches : ℕ = latches_from first codes in
    let same : latch_values m.value latches wanted ≡ held_opcode m.value first codes = latched_as laws.constants m.value first codes opcode in
    let e : feed_value m.value (match_before at (length wanted)) ≡ bit (is_pattern (latch_values m.value latches wanted) (bits_in wanted))
    = laws.matches at cell latches wanted N m formed has settled (subst AreKnown (sym same) known) in
    ap (λ (n : ℕ). feed_value m.value (match_before at n)) (sym (laws.constants codes.length opcode.value).counted) ∙ e
    ∙ ap (λ (xs : List Sig). bit (is_pattern xs (bits_in wanted))) same
    ∙ ap (λ (ys : List Sig). bit (is_pattern (held_opcode m.value first codes) ys)) (bits_in_pattern codes opcode (long opcode refl))

told_one : PartLaws → (codes : Codes) → FitTheRegister codes → (first at cell : ℕ) (N : NetlistView) (m : Moment) → IsWellFormed N → IsSettled N m.pins m.state m.value
    → AreKnown (held_opcode m.value first codes) → (i : Instr) → HasCells N (opcode_cells at cell (latches_from first codes) codes i)
    → feed_value m.value (opcode_told at codes i) ≡ bit (is_opcode (held_opcode m.value first codes) (opcode_of codes.opcodes i))
told_one laws codes fit first at cell N m formed settled known i has =
    told_of laws codes first at cell N m formed settled known (opcode_of codes.opcodes i) (λ opcode e. fit.each i opcode e) has

-- the first of these opcodes, and the others
split : ContainedParts → (N : NetlistView) (at cell latches : ℕ) (codes : Codes) (i : Instr) (rest : List Instr) → HasCells N (opcodes_cells at cell latches codes (i ∷ rest))
    → HasCells N (opcode_cells at cell latches codes i) × HasCells N (opcodes_cells (at + opcode_size codes i) (cell + opcode_size codes i) latches codes rest)
split parts N at cell latches codes i rest has =
    (parts N (opcode_cells at cell latches codes i) (opcodes_cells (at + opcode_size codes i) (cell + opcode_size codes i) latches codes rest)).parts has

all_told : PartLaws → (codes : Codes) → FitTheRegister codes → (first at cell : ℕ) (N : NetlistView) (m : Moment) → IsWellFormed N → IsSettled N m.pins m.state m.value
    → AreKnown (held_opcode m.value first codes) → HasCells N (opcodes_cells at cell (latches_from first codes) codes matched_instructions)
    → Tells (opcodes_told at codes) (λ i. is_opcode (held_opcode m.value first codes) (opcode_of codes.opcodes i)) m
all_told laws codes fit first at cell N m formed settled known has =
    let latches : ℕ = latches_from first codes in
    let size : Instr → ℕ = λ i. opcode_size codes i in
    let extest = split laws.parts N at cell latches codes Extest (Sample ∷ Preload ∷ Idcode ∷ Highz ∷ Clamp ∷ Usercode ∷ []) has in
    let at1 : ℕ = at + size Extest in
    let cell1 : ℕ = cell + size Extest in
    let sample = split laws.parts N at1 cell1 latches codes Sample (Preload ∷ Idcode ∷ Highz ∷ Clamp ∷ Usercode ∷ []) extest.1 in
    let at2 : ℕ = at1 + size Sample in
    let cell2 : ℕ = cell1 + size Sample in
    let preload = split laws.parts N at2 cell2 latches codes Preload (Idcode ∷ Highz ∷ Clamp ∷ Usercode ∷ []) sample.1 in
    let at3 : ℕ = at2 + size Preload in
    let cell3 : ℕ = cell2 + size Preload in
    let idcode = split laws.parts N at3 cell3 latches codes Idcode (Highz ∷ Clamp ∷ Usercode ∷ []) preload.1 in
    let at4 : ℕ = at3 + size Idcode in
    let cell4 : ℕ = cell3 + size Idcode in
    let highz = split laws.parts N at4 cell4 latches codes Highz (Clamp ∷ Usercode ∷ []) idcode.1 in
    let at5 : ℕ = at4 + size Highz in
    let cell5 : ℕ = cell4 + size Highz in
    let clamp = split laws.parts N at5 cell5 latches codes Clamp (Usercode ∷ []) highz.1 in
    let at6 : ℕ = at5 + size Clamp in
    let cell6 : ℕ = cell5 + size Clamp in
    let usercode = split laws.parts N at6 cell6 latches codes Usercode [] clamp.1 in
    record {
      extest = told_one laws codes fit first at cell N m formed settled known Extest extest.0;
      sample = told_one laws codes fit first at1 cell1 N m formed settled known Sample sample.0;
      preload = told_one laws codes fit first at2 cell2 N m formed settled known Preload preload.0;
      idcode = told_one laws codes fit first at3 cell3 N m formed settled known Idcode idcode.0;
      highz = told_one laws codes fit first at4 cell4 N m formed settled known Highz highz.0;
      clamp = told_one laws codes fit first at5 cell5 N m formed settled known Clamp clamp.0;
      usercode = told_one laws codes fit first at6 cell6 N m formed settled known Usercode usercode.0;
    }

record Apart (N : NetlistView) (first number : ℕ) (tap : TapNets) (tdi : NetId) (codes : Codes) : Type 0 where
  stages : HasCells N (stages_cells first number tap tdi (pattern_bits codes codes.capture) (pattern_bits codes codes.reset))
  opcodes : HasCells N (opcodes_cells (opcodes_from first codes) (opcodes_from number codes) (latches_from first codes) codes matched_instructions)
  selections : HasCells N (selections_cells (selections_from first codes) (selections_from number codes) tap (opcodes_told (opcodes_from first codes) codes))
  copies : HasCells N (copies_cells (copies_from first codes) (copies_from number codes) (latches_from first codes) codes.length)

apart : ContainedParts → (N : NetlistView) (first number : ℕ) (tap : TapNets) (tdi : NetId) (codes : Codes) → HasCells N (instruction_cells first number tap tdi codes)
    → Apart N first number tap tdi codes
apart parts N first number tap tdi codes has =
    let stages : List CellView = stages_cells first number tap tdi (pattern_bits codes codes.capture) (pattern_bits codes codes.reset) in
    let opcodes : List CellView = opcodes_cells (opcodes_from first codes) (opcodes_from number codes) (latches_from first codes) codes matched_instructions in
    let selections : List CellView = selections_cells (selections_from first codes) (selections_from number codes) tap (opcodes_told (opcodes_from first codes) codes) in
    let copies : List CellView = copies_cells (copies_from first codes) (copies_from number codes) (latches_from first codes) codes.length in
    let one = (parts N stages (opcodes ++ (selections ++ copies))).parts has in
    let two = (parts N opcodes (selections ++ copies)).parts one.1 in
    let three = (parts N selections copies).parts two.1 in
    record { stages = one.0; opcodes = two.0; selections = three.0; copies = three.1 }

-- What is the same for each moment.

record Fitting (first number : ℕ) (tap : TapNets) (tdi : NetId) (codes : Codes) (L : TestLogic) : Type 0 where
  as_many : length (pattern_bits codes codes.reset) ≡ length (pattern_bits codes codes.capture)
  some : 1 ≤ length (pattern_bits codes codes.capture)
  opcode : reset_opcode L.opcodes ≡ bits_in (pattern_bits codes codes.reset)

fitting : PartLaws → (first number : ℕ) (tap : TapNets) (tdi : NetId) (codes : Codes) (L : TestLogic) → AreCodes codes L → FitTheRegister codes → Fitting first number tap tdi codes L
fitting laws first number tap tdi codes L are fit =
    let many = (laws.constants codes.length codes.capture.value).counted in
    let others = (laws.constants codes.length codes.reset.value).counted in
    record { as_many = omega arith; some = omega (arith, fit.some); opcode = are.reset ∙ sym (bits_in_pattern codes codes.reset fit.reset) }

feeds_of : PartLaws → (tap : TapNets) (tdi : NetId) (codes : Codes) (L : TestLogic) (levels : Levels) (machine : Machine) (m : Moment) → AreCodes codes L → FitTheRegister codes
    → IsFed tap tdi levels machine.state m → Feeds tap tdi (pattern_bits codes codes.capture) L levels machine m
feeds_of laws tap tdi codes L levels machine m are fit fed = record {
  carries = fed.carries;
  shows = fed.shows;
  data_in = fed.data_in;
  pattern = pattern_valued laws.constants m.value codes codes.capture fit.capture ∙ sym are.capture;
}

-- what the copies carry
copied : PartLaws → (first number : ℕ) (codes : Codes) (N : NetlistView) (m : Moment) → IsWellFormed N
    → HasCells N (copies_cells (copies_from first codes) (copies_from number codes) (latches_from first codes) codes.length) → IsSettled N m.pins m.state m.value
    → row_values m.value (copies_from first codes) codes.length ≡ held_opcode m.value first codes
copied laws first number codes N m formed has settled =
    let presets : List Feed = pattern_bits codes codes.reset in
    let many : length presets ≡ codes.length = (laws.constants codes.length codes.reset.value).counted in
    let P : ℕ → Type 0 = λ n. HasCells N (copies_cells (copies_from first codes) (copies_from number codes) (latches_from first codes) n) in
    ap (λ (n : ℕ). row_values m.value (copies_from first codes) n) (sym many)
    ∙ laws.copies (copies_from first codes) (copies_from number codes) (latches_from first codes) presets N m formed (subst P (sym many) has) settled
    ∙ latched_as laws.constants m.value first codes codes.reset

-- what its nets tell
tell : PartLaws → (first number : ℕ) (tap : TapNets) (tdi : NetId) (codes : Codes) (N : NetlistView) (L : TestLogic) → IsWellFormed N → HasCells N (instruction_cells first number tap tdi codes)
    → AreCodes codes L → FitTheRegister codes → (machine : Machine) (m : Moment) → IsSettled N m.pins m.state m.value → ShowsState tap machine.state m → AreKnown machine.latched
    → HoldsStages first codes machine m → Follows first tap tdi codes L machine m
tell laws first number tap tdi codes N L formed has are fit machine m settled shows known held =
    let cells = apart laws.parts N first number tap tdi codes has in
    let same = fitting laws first number tap tdi codes L are fit in
    let latched : List Sig = held_opcode m.value first codes in
    let tells = all_told laws codes fit first (opcodes_from first codes) (opcodes_from number codes) N m formed settled (subst AreKnown (sym held.latched) known) cells.opcodes in
    let nets = instruction_nets first tap tdi codes in
    let selected : Selected nets (instruction_of codes.opcodes latched) machine.state m
    = laws.selections (selections_from first codes) (selections_from number codes) tap (opcodes_told (opcodes_from first codes) codes) nets.last N m machine.state codes.opcodes latched
    formed cells.selections settled tells fit.apart shows in
    let P : List Sig → Type 0 = λ bits. Selected nets (instruction_of codes.opcodes bits) machine.state m in
    let Q : List Opcode → Type 0 = λ opcodes. Selected nets (instruction_of opcodes machine.latched) machine.state m in
    record {
      shift = held.shift;
      latched = held.latched;
      opcode = copied laws first number codes N m formed cells.copies settled ∙ held.latched;
      last = last_of m.value (first + 1) tdi (pattern_bits codes codes.capture) same.some ∙ ap first_bit held.shift;
      selected = subst Q (sym are.opcodes) (subst P held.latched selected);
    }

pub follow : PartLaws → InstructionFollows
follow laws = λ first number tap tdi codes N given events moment formed has run L levels caught machine history are fit fed t below.
    let cells = apart laws.parts N first number tap tdi codes has in
    let same = fitting laws first number tap tdi codes L are fit in
    let held = laws.stages first number tap tdi (pattern_bits codes codes.capture) (pattern_bits codes codes.reset) N given events moment same.as_many formed cells.stages run L levels caught machine history
    same.opcode (λ u h. feeds_of laws tap tdi codes L (levels u) (machine u) (moment u) are fit (fed u h)) t below in
    let known = known_stages laws.steps L levels caught (length events) machine history (subst AreKnown (sym are.capture) (known_bits codes.capture.len codes.capture.value))
    (subst AreKnown (sym are.reset) (known_bits codes.reset.len codes.reset.value)) t below in
    let settled = (laws.moments N given events moment run t below).settled in
    tell laws first number tap tdi codes N L formed has are fit (machine t) (moment t) settled (fed t below).shows known.1 (record { shift = held.0; latched = held.1 })

-- Step by step.

start_stages : PartLaws → (first number : ℕ) (tap : TapNets) (tdi : NetId) (codes : Codes) (N : NetlistView) (L : TestLogic) → IsWellFormed N
    → HasCells N (instruction_cells first number tap tdi codes) → AreCodes codes L → FitTheRegister codes → (given : ℕ → Sig) (levels : Levels) (m : Moment) → IsStart N given m
    → IsFed tap tdi levels TestLogicReset m → levels.trst ≡ false → HoldsStages first codes (reset L) m
start_stages laws first number tap tdi codes N L formed has are fit given levels m start fed low =
    let cells = apart laws.parts N first number tap tdi codes has in
    let same = fitting laws first number tap tdi codes L are fit in
    let run : IsRun N given [] (λ t. m) = record { start = start; steps = λ t event at. absurd (no_event t event at) } in
    let history : IsHistory L (λ t. levels) (λ t. []) 0 (λ t. reset L) = record { low = low; start = refl; steps = λ t h. absurd (omega arith) } in
    let held = laws.stages first number tap tdi (pattern_bits codes codes.capture) (pattern_bits codes codes.reset) N given [] (λ t. m) same.as_many formed cells.stages run L (λ t. levels) (λ t. [])
    (λ t. reset L) history same.opcode (λ u h. feeds_of laws tap tdi codes L levels (reset L) m are fit fed) 0 (omega arith) in
    record { shift = held.0; latched = held.1 }
  where
    no_event : (t : ℕ) (event : PinEvent) → slice_get [] t ≡ Some event → ⊥
    no_event t event e = absurd (cc)

pub steps_on : PartLaws → StagesStep → InstructionSteps
steps_on laws stages = λ first number tap tdi codes N L formed has are fit. record {
  start = λ given levels m start fed low. start_stages laws first number tap tdi codes N L formed has are fit given levels m start fed low;
  step = λ event before after caught machine m m' settled step fed carries' held.
      let cells = apart laws.parts N first number tap tdi codes has in
      let same = fitting laws first number tap tdi codes L are fit in
      let next = stages first number tap tdi (pattern_bits codes codes.capture) (pattern_bits codes codes.reset) N event L before after caught machine m m' same.as_many formed cells.stages settled step
      same.opcode (feeds_of laws tap tdi codes L before machine m are fit fed) carries' held.shift held.latched in
      record { shift = next.0; latched = next.1 };
  tells = λ machine m settled shows known held. tell laws first number tap tdi codes N L formed has are fit machine m settled shows known held;
}
