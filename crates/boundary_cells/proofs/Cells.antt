-- Each kind of cell does as its laws say.
use Rattle.std.proofs.Common.{◌≡◌, ℕ, ◌+◌, false, List, [], ◌∷◌, length, refl, sym}
use Rattle.signal_values.specs.declared.Sig.{Sig}
use Rattle.signal_values.specs.Values.{see, sig_mux}
use Rattle.signal_values.proofs.Laws.{mux-bit}
use Rattle.cell_library.specs.declared.codes.Instr.{Instr}
use Rattle.cell_library.specs.declared.codes.BoundaryKind.{BoundaryKind}
use Rattle.cell_library.specs.declared.codes.BoundaryKind.TheVariants.{Bc1, Bc2, Bc4, Bc7}
use Rattle.cell_library.specs.declared.codes.Function.TheVariants.{Input, Output2}
use Rattle.netlist_model.specs.declared.NetId.{NetId}
use Rattle.netlist_model.specs.declared.Feed.{Feed}
use Rattle.netlist_model.specs.declared.Feed.TheVariants.{Net}
use Rattle.netlist_model.specs.Lists.{NetlistView}
use Rattle.netlist_model.specs.Settled.{feed_value, Meets}
use Rattle.netlist_model.specs.Formed.{IsWellFormed}
use Rattle.netlist_model.specs.Contained.{Has, HasCells}
use Rattle.netlist_model.specs.LawsContained.{ContainedParts}
use Rattle.netlist_model.specs.Drivers.{DrivenIsInside}
use Rattle.gate_parts.specs.declared.Gate.{Gate}
use Rattle.gate_parts.specs.Parts.{part_cells}
use Rattle.gate_parts.specs.PartLaws.{ContainedPartMeets}
use Rattle.test_logic.specs.declared.ScanNets.{ScanNets}
use Rattle.test_logic.specs.Instructions.{mode_of, is_extest}
use Rattle.test_logic.specs.Rows.{CellAt, datum, input_into, row_captured}
use Rattle.register_gates.specs.Bits.{shift_bit_cells, held_bit_cells}
use Rattle.register_gates.specs.BitsLaws.{ShiftBitsFollow, HeldBitsFollow}
use Rattle.boundary_cells.specs.declared.tables.Choice.{Choice}
use Rattle.boundary_cells.specs.declared.tables.TheConstants.{BC_1, BC_2, UPDATES}
use Rattle.boundary_cells.specs.Cells.{steering_of, holding_of, choice_cell, cells_onto, stage_table, cell_given, observe_cells, input_cells, output_cells}
use Rattle.boundary_cells.specs.Laws.{CarriesMode, StandsAtPin, StandsAtInput, StandsAtOutput, ObserveCellsFollow, InputCellsFollow, OutputCellsFollow}
use Rattle.boundary_cells.proofs.Stages.{held_has, choice_value, shift_laws, update_laws}

-- what is contained of a table and a choice
pub part_of : ContainedParts → (N : NetlistView) (gates : List Gate) (choice : Choice) (given : List Feed) (first number : ℕ) (into : NetId)
    → HasCells N (cells_onto gates choice given first number into) → HasCells N (part_cells gates given first number)
part_of parts N gates choice given first number into has = ((parts N (part_cells gates given first number) (choice_cell first given (number + length gates) into choice ∷ [])).parts has).0

pub choice_of : ContainedParts → (N : NetlistView) (gates : List Gate) (choice : Choice) (given : List Feed) (first number : ℕ) (into : NetId)
    → HasCells N (cells_onto gates choice given first number into) → Has N (choice_cell first given (number + length gates) into choice)
choice_of parts N gates choice given first number into has = ((parts N (part_cells gates given first number) (choice_cell first given (number + length gates) into choice ∷ [])).parts has).1.0

-- the two bits of each table
abbrev pub captured_operand : BoundaryKind → ℕ → Feed → Feed
captured_operand Bc2 first operand = Net (record { 0 = first + 5 })
captured_operand _ first operand = operand

shift_of : (cell : BoundaryKind) (N : NetlistView) (first number : ℕ) (scan : ScanNets) (operand : Feed) (next mode : NetId) → HasCells N (part_cells (stage_table cell) (cell_given scan next operand mode) first number)
    → HasCells N (shift_bit_cells first number (steering_of scan) (captured_operand cell first operand) next)
shift_of Bc1 N first number scan operand next mode has = (has.0, (has.1.0, (has.1.1.0, tt)))
shift_of Bc2 N first number scan operand next mode has = (has.0, (has.1.0, (has.1.1.0, tt)))
shift_of Bc4 N first number scan operand next mode has = (has.0, (has.1.0, (has.1.1.0, tt)))
shift_of Bc7 N first number scan operand next mode has = (has.0, (has.1.0, (has.1.1.0, tt)))

update_of : (cell : BoundaryKind) (N : NetlistView) (first number : ℕ) (scan : ScanNets) (operand : Feed) (next mode : NetId) → HasCells N (part_cells (stage_table cell) (cell_given scan next operand mode) first number)
    → HasCells N (held_bit_cells (first + 3) 0 (holding_of scan) false (Net (record { 0 = first })))
update_of Bc1 N first number scan operand next mode has = held_has N first scan _ _ refl refl refl refl refl refl has.1.1.1.0 has.1.1.1.1.0
update_of Bc2 N first number scan operand next mode has = held_has N first scan _ _ refl refl refl refl refl refl has.1.1.1.0 has.1.1.1.1.0
update_of Bc4 N first number scan operand next mode has = held_has N first scan _ _ refl refl refl refl refl refl has.1.1.1.0 has.1.1.1.1.0
update_of Bc7 N first number scan operand next mode has = held_has N first scan _ _ refl refl refl refl refl refl has.1.1.1.0 has.1.1.1.1.0

pub observe : ShiftBitsFollow → ObserveCellsFollow
observe bits first number scan pin next =
    shift_laws bits (observe_cells first number scan pin next) scan first number next (Net pin) (row_captured Bc4 Input) (λ instruction. StandsAtPin pin)
    (λ N has. has) (λ N rule state value instruction c formed has meets mode stands. sym stands.seen)

-- what goes into the core at an input
input_value : DrivenIsInside → ContainedParts → (first number : ℕ) (scan : ScanNets) (pin into next : NetId) (N : NetlistView) (rule : (ℕ → Sig) → ℕ → Sig) (state value : ℕ → Sig)
    (instruction : Instr) (c : CellAt) → IsWellFormed N → HasCells N (input_cells first number scan pin into next) → Meets N rule state value → CarriesMode scan instruction value
    → StandsAtInput (first + 3) pin value c → value into.0 ≡ input_into Bc1 (mode_of instruction) c
input_value inside parts first number scan pin into next N rule state value instruction c formed has meets mode stands =
    let given = cell_given scan next (Net pin) scan.m_in in
    let h : value into.0 ≡ sig_mux (value scan.m_in.0) (value pin.0) (value (first + 3))
    = choice_value inside N first given (number + 5) into UPDATES rule state value formed (choice_of parts N BC_1 UPDATES given first number into has) meets in
    rw (h, mode.m_in, ← stands.seen, ← stands.upd) (mux-bit (mode_of instruction).m_in (see c.outside) c.upd)

pub input : ShiftBitsFollow → HeldBitsFollow → ContainedParts → DrivenIsInside → InputCellsFollow
input shifts holds parts inside first number scan pin into next =
    let cells = input_cells first number scan pin into next in
    let given = cell_given scan next (Net pin) scan.m_in in
    record {
      shift = shift_laws shifts cells scan first number next (Net pin) (row_captured Bc1 Input) (λ instruction. StandsAtInput (first + 3) pin)
          (λ N has. shift_of Bc1 N first number scan (Net pin) next scan.m_in (part_of parts N BC_1 UPDATES given first number into has))
          (λ N rule state value instruction c formed has meets mode stands. sym stands.seen);
      update = update_laws holds cells scan first (first + 3) 0
          (λ N has. update_of Bc1 N first number scan (Net pin) next scan.m_in (part_of parts N BC_1 UPDATES given first number into has));
      core = record {
        into_is = λ N rule state value instruction c formed has meets mode stands.
            input_value inside parts first number scan pin into next N rule state value instruction c formed has meets mode stands;
      };
    }

-- what goes to the pin at an output
output_value : DrivenIsInside → ContainedParts → (cell : BoundaryKind) (first number : ℕ) (scan : ScanNets) (core : Feed) (into next : NetId) (N : NetlistView) (rule : (ℕ → Sig) → ℕ → Sig)
    (state value : ℕ → Sig) (instruction : Instr) (c : CellAt) → IsWellFormed N → HasCells N (output_cells cell first number scan core into next) → Meets N rule state value
    → CarriesMode scan instruction value → StandsAtOutput (first + 3) core value c → value into.0 ≡ datum (mode_of instruction) c
output_value inside parts cell first number scan core into next N rule state value instruction c formed has meets mode stands =
    let given = cell_given scan next core scan.m_out in
    let h : value into.0 ≡ sig_mux (value scan.m_out.0) (feed_value value core) (value (first + 3))
    = choice_value inside N first given (number + length (stage_table cell)) into UPDATES rule state value formed (choice_of parts N (stage_table cell) UPDATES given first number into has) meets in
    rw (h, mode.m_out, ← stands.core_is, ← stands.upd) (mux-bit (mode_of instruction).m_out c.core c.upd)

-- what an output cell captures
output_captures : ContainedPartMeets → (cell : BoundaryKind) (first number : ℕ) (scan : ScanNets) (core : Feed) (next mode : NetId) (N : NetlistView) (rule : (ℕ → Sig) → ℕ → Sig)
    (state value : ℕ → Sig) (instruction : Instr) (c : CellAt) → IsWellFormed N → HasCells N (part_cells (stage_table cell) (cell_given scan next core mode) first number) → Meets N rule state value
    → CarriesMode scan instruction value → StandsAtOutput (first + 3) core value c → feed_value value (captured_operand cell first core) ≡ row_captured cell Output2 instruction c
output_captures meets Bc1 first number scan core next mode N rule state value instruction c formed has settled carried stands = sym stands.core_is
output_captures meets Bc4 first number scan core next mode N rule state value instruction c formed has settled carried stands = sym stands.core_is
output_captures meets Bc7 first number scan core next mode N rule state value instruction c formed has settled carried stands = sym stands.core_is
output_captures meets Bc2 first number scan core next mode N rule state value instruction c formed has settled carried stands =
    let h : value (first + 5) ≡ sig_mux (value scan.extest.0) (feed_value value core) (value (first + 3))
    = (meets N BC_2 (cell_given scan next core mode) first number formed has rule state value settled 5 _ refl refl).1 in
    rw (h, carried.extest, ← stands.core_is, ← stands.upd) (mux-bit (is_extest instruction) c.core c.upd)

pub output : ShiftBitsFollow → HeldBitsFollow → ContainedParts → ContainedPartMeets → DrivenIsInside → OutputCellsFollow
output shifts holds parts meets inside cell first number scan core into next =
    let cells = output_cells cell first number scan core into next in
    let given = cell_given scan next core scan.m_out in
    record {
      shift = shift_laws shifts cells scan first number next (captured_operand cell first core) (row_captured cell Output2) (λ instruction. StandsAtOutput (first + 3) core)
          (λ N has. shift_of cell N first number scan core next scan.m_out (part_of parts N (stage_table cell) UPDATES given first number into has))
          (λ N rule state value instruction c formed has settled mode stands.
          output_captures meets cell first number scan core next scan.m_out N rule state value instruction c formed (part_of parts N (stage_table cell) UPDATES given first number into has) settled mode stands);
      update = update_laws holds cells scan first (first + 3) 0
          (λ N has. update_of cell N first number scan core next scan.m_out (part_of parts N (stage_table cell) UPDATES given first number into has));
      pin = record {
        into_is = λ N rule state value instruction c formed has meets mode stands.
            output_value inside parts cell first number scan core into next N rule state value instruction c formed has meets mode stands;
      };
    }
