-- The cells at a three-state driver do as their laws say.
use Rattle.std.proofs.Common.{◌≡◌, ℕ, ◌+◌, Bool, true, false, length, refl, sym, arith}
use Rattle.std.specs.Prelude.{if◌then◌else◌, not, Option, Some}
use Rattle.signal_values.specs.declared.Sig.{Sig}
use Rattle.signal_values.specs.Values.{bit, see, sig_mux, sig_not}
use Rattle.signal_values.proofs.Laws.{mux-bit}
use Rattle.cell_library.specs.declared.codes.Instr.{Instr}
use Rattle.cell_library.specs.declared.codes.BoundaryKind.{BoundaryKind}
use Rattle.cell_library.specs.declared.codes.BoundaryKind.TheVariants.{Bc1, Bc2, Bc4, Bc7}
use Rattle.cell_library.specs.declared.codes.Function.TheVariants.{Control, Bidir}
use Rattle.netlist_model.specs.declared.NetId.{NetId}
use Rattle.netlist_model.specs.declared.Feed.{Feed}
use Rattle.netlist_model.specs.declared.Feed.TheVariants.{Net}
use Rattle.netlist_model.specs.Lists.{NetlistView}
use Rattle.netlist_model.specs.Settled.{feed_value, Meets}
use Rattle.netlist_model.specs.Formed.{IsWellFormed}
use Rattle.netlist_model.specs.Contained.{HasCells}
use Rattle.netlist_model.specs.LawsContained.{ContainedParts}
use Rattle.netlist_model.specs.Drivers.{DrivenIsInside}
use Rattle.gate_parts.specs.Parts.{feed_of, part_cells}
use Rattle.gate_parts.specs.PartLaws.{ContainedPartMeets}
use Rattle.test_logic.specs.declared.ScanNets.{ScanNets}
use Rattle.test_logic.specs.Instructions.{mode_of, is_extest}
use Rattle.test_logic.specs.Rows.{ControlAt, CellAt, datum, level, enable_of, row_reading, row_captured, bidir_sampled}
use Rattle.register_gates.specs.Bits.{shift_bit_cells, held_bit_cells}
use Rattle.register_gates.specs.BitsLaws.{ShiftBitsFollow, HeldBitsFollow}
use Rattle.boundary_cells.specs.declared.tables.TheConstants.{BC_1_CONTROL, BC_2_CONTROL, BC_7_HIGH, BC_7_LOW, UPDATES}
use Rattle.boundary_cells.specs.Cells.{steering_of, holding_of}
use Rattle.boundary_cells.specs.Laws.{CarriesMode, StandsAtOutput}
use Rattle.boundary_cells.specs.ThreeState.{control_table, control_choice, control_given, control_cells, bidir_table, bidir_given, bidir_cells, StandsAtControl, ControlCellsFollow, StandsAtInout, BidirCellsFollow}
use Rattle.boundary_cells.proofs.Stages.{held_has, choice_value, shift_laws, update_laws}
use Rattle.boundary_cells.proofs.Cells.{part_of, choice_of, captured_operand}

-- the two bits of a control cell
control_shift : (cell : BoundaryKind) (N : NetlistView) (first number : ℕ) (scan : ScanNets) (core : Feed) (active_high : Bool) (next : NetId)
    → HasCells N (part_cells (control_table cell) (control_given scan next core active_high) first number)
    → HasCells N (shift_bit_cells first number (steering_of scan) (captured_operand cell first core) next)
control_shift Bc1 N first number scan core active_high next has = (has.0, (has.1.0, (has.1.1.0, tt)))
control_shift Bc2 N first number scan core active_high next has = (has.0, (has.1.0, (has.1.1.0, tt)))
control_shift Bc4 N first number scan core active_high next has = (has.0, (has.1.0, (has.1.1.0, tt)))
control_shift Bc7 N first number scan core active_high next has = (has.0, (has.1.0, (has.1.1.0, tt)))

control_update : (cell : BoundaryKind) (N : NetlistView) (first number : ℕ) (scan : ScanNets) (core : Feed) (active_high : Bool) (next : NetId)
    → HasCells N (part_cells (control_table cell) (control_given scan next core active_high) first number)
    → HasCells N (held_bit_cells (first + 3) 0 (holding_of scan) false (Net (record { 0 = first })))
control_update Bc1 N first number scan core active_high next has = held_has N first scan _ _ refl refl refl refl refl refl has.1.1.1.0 has.1.1.1.1.0
control_update Bc2 N first number scan core active_high next has = held_has N first scan _ _ refl refl refl refl refl refl has.1.1.1.0 has.1.1.1.1.0
control_update Bc4 N first number scan core active_high next has = held_has N first scan _ _ refl refl refl refl refl refl has.1.1.1.0 has.1.1.1.1.0
control_update Bc7 N first number scan core active_high next has = held_has N first scan _ _ refl refl refl refl refl refl has.1.1.1.0 has.1.1.1.1.0

-- what it captures
control_captures : ContainedPartMeets → (cell : BoundaryKind) (first number : ℕ) (scan : ScanNets) (core : Feed) (active_high : Bool) (next : NetId) (N : NetlistView) (rule : (ℕ → Sig) → ℕ → Sig)
    (state value : ℕ → Sig) (instruction : Instr) (c : CellAt) → IsWellFormed N → HasCells N (part_cells (control_table cell) (control_given scan next core active_high) first number)
    → Meets N rule state value → CarriesMode scan instruction value → StandsAtOutput (first + 3) core value c
    → feed_value value (captured_operand cell first core) ≡ row_captured cell Control instruction c
control_captures meets Bc1 first number scan core active_high next N rule state value instruction c formed has settled carried stands = sym stands.core_is
control_captures meets Bc4 first number scan core active_high next N rule state value instruction c formed has settled carried stands = sym stands.core_is
control_captures meets Bc7 first number scan core active_high next N rule state value instruction c formed has settled carried stands = sym stands.core_is
control_captures meets Bc2 first number scan core active_high next N rule state value instruction c formed has settled carried stands =
    let h : value (first + 5) ≡ sig_mux (value scan.extest.0) (feed_value value core) (value (first + 3))
    = (meets N BC_2_CONTROL (control_given scan next core active_high) first number formed has rule state value settled 5 _ refl refl).1 in
    rw (h, carried.extest, ← stands.core_is, ← stands.upd) (mux-bit (is_extest instruction) c.core c.upd)

-- its level while outputs are active
abbrev level_operand : BoundaryKind → ℕ → ℕ
level_operand Bc2 first = first + 6
level_operand _ first = first + 5

level_at : ContainedPartMeets → (cell : BoundaryKind) (first number : ℕ) (scan : ScanNets) (core : Feed) (active_high : Bool) (next : NetId) (N : NetlistView) (rule : (ℕ → Sig) → ℕ → Sig)
    (state value : ℕ → Sig) → IsWellFormed N → HasCells N (part_cells (control_table cell) (control_given scan next core active_high) first number)
    → Meets N rule state value → value (level_operand cell first) ≡ sig_mux (value scan.m_out.0) (feed_value value core) (value (first + 3))
level_at meets Bc1 first number scan core active_high next N rule state value formed has settled =
    (meets N BC_1_CONTROL (control_given scan next core active_high) first number formed has rule state value settled 5 _ refl refl).1
level_at meets Bc4 first number scan core active_high next N rule state value formed has settled =
    (meets N BC_1_CONTROL (control_given scan next core active_high) first number formed has rule state value settled 5 _ refl refl).1
level_at meets Bc7 first number scan core active_high next N rule state value formed has settled =
    (meets N BC_1_CONTROL (control_given scan next core active_high) first number formed has rule state value settled 5 _ refl refl).1
level_at meets Bc2 first number scan core active_high next N rule state value formed has settled =
    (meets N BC_2_CONTROL (control_given scan next core active_high) first number formed has rule state value settled 6 _ refl refl).1

-- what the drivers' control gets: the inactive level where outputs are inactive
choice_at : (cell : BoundaryKind) (first : ℕ) (scan : ScanNets) (core : Feed) (active_high : Bool) (next : NetId) (value : ℕ → Sig) (into : NetId)
    → (let given = control_given scan next core active_high in value into.0 ≡ sig_mux (feed_value value (feed_of first given (control_choice cell).select))
    (feed_value value (feed_of first given (control_choice cell).usual)) (feed_value value (feed_of first given (control_choice cell).other)))
    → value into.0 ≡ sig_mux (value scan.hiz.0) (value (level_operand cell first)) (bit (not active_high))
choice_at Bc1 first scan core active_high next value into h = h
choice_at Bc2 first scan core active_high next value into h = h
choice_at Bc4 first scan core active_high next value into h = h
choice_at Bc7 first scan core active_high next value into h = h

into_at : DrivenIsInside → ContainedParts → (cell : BoundaryKind) (first number : ℕ) (scan : ScanNets) (core : Feed) (active_high : Bool) (into next : NetId) (N : NetlistView)
    (rule : (ℕ → Sig) → ℕ → Sig) (state value : ℕ → Sig) → IsWellFormed N → HasCells N (control_cells cell first number scan core active_high into next) → Meets N rule state value
    → value into.0 ≡ sig_mux (value scan.hiz.0) (value (level_operand cell first)) (bit (not active_high))
into_at inside parts cell first number scan core active_high into next N rule state value formed has settled =
    let given = control_given scan next core active_high in
    choice_at cell first scan core active_high next value into
    (choice_value inside N first given (number + length (control_table cell)) into (control_choice cell) rule state value formed
    (choice_of parts N (control_table cell) (control_choice cell) given first number into has) settled)

level_law : (hiz m_out disable : Bool) (core upd : Sig) → sig_mux (bit hiz) (sig_mux (bit m_out) core upd) (bit disable) ≡ (if hiz then bit disable else (if m_out then upd else core))
level_law hiz m_out disable core upd = rw (← mux-bit m_out core upd) (mux-bit hiz (sig_mux (bit m_out) core upd) (bit disable))

level_value : DrivenIsInside → ContainedParts → ContainedPartMeets → (cell : BoundaryKind) (first number : ℕ) (scan : ScanNets) (core : Feed) (active_high : Bool) (into next : NetId) (N : NetlistView)
    (rule : (ℕ → Sig) → ℕ → Sig) (state value : ℕ → Sig) (instruction : Instr) (j : ControlAt) → IsWellFormed N → HasCells N (control_cells cell first number scan core active_high into next)
    → Meets N rule state value → CarriesMode scan instruction value → StandsAtControl active_high (first + 3) core value j → value into.0 ≡ level (mode_of instruction) j
level_value inside parts meets cell first number scan core active_high into next N rule state value instruction j formed has settled mode stands =
    let h = into_at inside parts cell first number scan core active_high into next N rule state value formed has settled in
    let here = part_of parts N (control_table cell) (control_choice cell) (control_given scan next core active_high) first number into has in
    let e = level_at meets cell first number scan core active_high next N rule state value formed here settled in
    rw (h, e, mode.hiz, mode.m_out, ← stands.core_is, ← stands.upd, ← stands.disable)
    (level_law (mode_of instruction).hiz (mode_of instruction).m_out j.disable j.core j.upd)

pub control : ShiftBitsFollow → HeldBitsFollow → ContainedParts → ContainedPartMeets → DrivenIsInside → ControlCellsFollow
control shifts holds parts meets inside cell first number scan core active_high into next =
    let cells = control_cells cell first number scan core active_high into next in
    let there : (N : NetlistView) → HasCells N cells → HasCells N (part_cells (control_table cell) (control_given scan next core active_high) first number)
    = λ N has. part_of parts N (control_table cell) (control_choice cell) (control_given scan next core active_high) first number into has in
    record {
      shift = shift_laws shifts cells scan first number next (captured_operand cell first core) (row_captured cell Control) (λ instruction. StandsAtOutput (first + 3) core)
          (λ N has. control_shift cell N first number scan core active_high next (there N has))
          (λ N rule state value instruction c formed has settled mode stands.
          control_captures meets cell first number scan core active_high next N rule state value instruction c formed (there N has) settled mode stands);
      update = update_laws holds cells scan first (first + 3) 0 (λ N has. control_update cell N first number scan core active_high next (there N has));
      drivers = record {
        into_is = λ N rule state value instruction j formed has settled mode stands.
            level_value inside parts meets cell first number scan core active_high into next N rule state value instruction j formed has settled mode stands;
      };
    }

-- the two bits of a BC_7
bidir_shift : (active_high : Bool) (N : NetlistView) (first number : ℕ) (scan : ScanNets) (core enable : Feed) (pin next : NetId)
    → HasCells N (part_cells (bidir_table active_high) (bidir_given scan next core enable pin) first number)
    → HasCells N (shift_bit_cells first number (steering_of scan) (Net (record { 0 = first + 5 })) next)
bidir_shift true N first number scan core enable pin next has = (has.0, (has.1.0, (has.1.1.0, tt)))
bidir_shift false N first number scan core enable pin next has = (has.0, (has.1.0, (has.1.1.0, tt)))

bidir_update : (active_high : Bool) (N : NetlistView) (first number : ℕ) (scan : ScanNets) (core enable : Feed) (pin next : NetId)
    → HasCells N (part_cells (bidir_table active_high) (bidir_given scan next core enable pin) first number)
    → HasCells N (held_bit_cells (first + 3) 0 (holding_of scan) false (Net (record { 0 = first })))
bidir_update true N first number scan core enable pin next has = held_has N first scan _ _ refl refl refl refl refl refl has.1.1.1.0 has.1.1.1.1.0
bidir_update false N first number scan core enable pin next has = held_has N first scan _ _ refl refl refl refl refl refl has.1.1.1.0 has.1.1.1.1.0

-- its gates before the shift bit, by the driver's polarity
turned : (s a b : Sig) → sig_mux s b a ≡ sig_mux (sig_not s) a b
turned s a b = grind arith

sampled_at : ContainedPartMeets → (active_high : Bool) (first number : ℕ) (scan : ScanNets) (core enable : Feed) (pin next : NetId) (N : NetlistView) (rule : (ℕ → Sig) → ℕ → Sig)
    (state value : ℕ → Sig) → IsWellFormed N → HasCells N (part_cells (bidir_table active_high) (bidir_given scan next core enable pin) first number) → Meets N rule state value
    → value (first + 5) ≡ sig_mux (value scan.extest.0) (sig_mux (enable_of (not active_high) (feed_value value enable)) (value pin.0) (feed_value value core)) (value pin.0)
sampled_at meets true first number scan core enable pin next N rule state value formed has settled =
    let h : value (first + 5) ≡ sig_mux (value scan.extest.0) (value (first + 6)) (value pin.0)
    = (meets N BC_7_HIGH (bidir_given scan next core enable pin) first number formed has rule state value settled 5 _ refl refl).1 in
    let e : value (first + 6) ≡ sig_mux (feed_value value enable) (value pin.0) (feed_value value core)
    = (meets N BC_7_HIGH (bidir_given scan next core enable pin) first number formed has rule state value settled 6 _ refl refl).1 in
    rw (h, e) refl
sampled_at meets false first number scan core enable pin next N rule state value formed has settled =
    let h : value (first + 5) ≡ sig_mux (value scan.extest.0) (value (first + 6)) (value pin.0)
    = (meets N BC_7_LOW (bidir_given scan next core enable pin) first number formed has rule state value settled 5 _ refl refl).1 in
    let e : value (first + 6) ≡ sig_mux (feed_value value enable) (feed_value value core) (value pin.0)
    = (meets N BC_7_LOW (bidir_given scan next core enable pin) first number formed has rule state value settled 6 _ refl refl).1 in
    let t = turned (feed_value value enable) (value pin.0) (feed_value value core) in
    rw (h, e, t) refl

captured_law : (extest : Bool) (control : Option ControlAt) (j : ControlAt) (reading core : Sig) → control ≡ Some j
    → sig_mux (bit extest) (sig_mux (enable_of j.disable j.core) reading core) reading ≡ (if extest then reading else bidir_sampled control reading core)
captured_law extest control j reading core is = rw is (mux-bit extest (sig_mux (enable_of j.disable j.core) reading core) reading)

bidir_captures : ContainedPartMeets → (active_high : Bool) (first number : ℕ) (scan : ScanNets) (core enable : Feed) (pin next : NetId) (N : NetlistView) (rule : (ℕ → Sig) → ℕ → Sig)
    (state value : ℕ → Sig) (instruction : Instr) (c : CellAt) → IsWellFormed N → HasCells N (part_cells (bidir_table active_high) (bidir_given scan next core enable pin) first number)
    → Meets N rule state value → CarriesMode scan instruction value → StandsAtInout active_high (first + 3) core enable pin instruction value c
    → value (first + 5) ≡ row_captured Bc7 Bidir instruction c
bidir_captures meets active_high first number scan core enable pin next N rule state value instruction c formed has settled mode stands =
    let h = sampled_at meets active_high first number scan core enable pin next N rule state value formed has settled in
    rw (h, mode.extest, ← stands.seen, ← stands.output.core_is, ← stands.enable_is, ← stands.disable)
    (captured_law (is_extest instruction) c.control stands.driver (see (row_reading Bidir (mode_of instruction) c)) c.core stands.driver_is)

datum_value : DrivenIsInside → ContainedParts → (active_high : Bool) (first number : ℕ) (scan : ScanNets) (core enable : Feed) (pin into next : NetId) (N : NetlistView)
    (rule : (ℕ → Sig) → ℕ → Sig) (state value : ℕ → Sig) (instruction : Instr) (c : CellAt) → IsWellFormed N
    → HasCells N (bidir_cells first number scan core enable active_high pin into next) → Meets N rule state value
    → CarriesMode scan instruction value → StandsAtOutput (first + 3) core value c → value into.0 ≡ datum (mode_of instruction) c
datum_value inside parts active_high first number scan core enable pin into next N rule state value instruction c formed has settled mode stands =
    let given = bidir_given scan next core enable pin in
    let h : value into.0 ≡ sig_mux (value scan.m_out.0) (feed_value value core) (value (first + 3))
    = choice_value inside N first given (number + length (bidir_table active_high)) into UPDATES rule state value formed (choice_of parts N (bidir_table active_high) UPDATES given first number into has) settled in
    rw (h, mode.m_out, ← stands.core_is, ← stands.upd) (mux-bit (mode_of instruction).m_out c.core c.upd)

pub bidir : ShiftBitsFollow → HeldBitsFollow → ContainedParts → ContainedPartMeets → DrivenIsInside → BidirCellsFollow
bidir shifts holds parts meets inside first number scan core enable active_high pin into next =
    let cells = bidir_cells first number scan core enable active_high pin into next in
    let there : (N : NetlistView) → HasCells N cells → HasCells N (part_cells (bidir_table active_high) (bidir_given scan next core enable pin) first number)
    = λ N has. part_of parts N (bidir_table active_high) UPDATES (bidir_given scan next core enable pin) first number into has in
    record {
      shift = shift_laws shifts cells scan first number next (Net (record { 0 = first + 5 })) (row_captured Bc7 Bidir) (StandsAtInout active_high (first + 3) core enable pin)
          (λ N has. bidir_shift active_high N first number scan core enable pin next (there N has))
          (λ N rule state value instruction c formed has settled mode stands.
          bidir_captures meets active_high first number scan core enable pin next N rule state value instruction c formed (there N has) settled mode stands);
      update = update_laws holds cells scan first (first + 3) 0 (λ N has. bidir_update active_high N first number scan core enable pin next (there N has));
      driver = record {
        into_is = λ N rule state value instruction c formed has settled mode stands.
            datum_value inside parts active_high first number scan core enable pin into next N rule state value instruction c formed has settled mode stands;
      };
    }
