-- How many cells the parts have.
use Rattle.std.proofs.Common.{◌≡◌, ℕ, suc, ◌+◌, ◌*◌, Bool, true, false, List, [], ◌∷◌, ◌++◌, length, length-append, refl, ◌∙◌, ap, Option, Some, None, arith}
use Rattle.std.proofs.lemmas.List.Sums.{sum_by-cons}
use Rattle.netlist_model.specs.declared.NetId.{NetId}
use Rattle.netlist_model.specs.declared.Feed.{Feed}
use Rattle.netlist_model.specs.declared.Feed.TheVariants.{Net}
use Rattle.netlist_model.specs.Lists.{cell_count, NetlistView}
use Rattle.gate_parts.specs.declared.Gate.{Gate}
use Rattle.gate_parts.specs.Parts.{part_cells}
use Rattle.gate_parts.proofs.Steps.{length-cells_from}
use Rattle.test_logic.specs.declared.TapNets.{TapNets}
use Rattle.test_logic.specs.declared.ScanNets.{ScanNets}
use Rattle.test_logic.specs.declared.Codes.{Codes}
use Rattle.surrounded_core.specs.register_gates.Chains.{chain_cells}
use Rattle.surrounded_core.proofs.register_gates.Lengths.{chain_length}
use Rattle.surrounded_core.specs.register_gates.Registers.{selected_cells, selected_steering, data_cells, user_size, inverse_cells, captured_feeds, ident_size, ident_cells}
use Rattle.surrounded_core.proofs.register_gates.ConstantBits.{constants}
use Rattle.surrounded_core.specs.instruction_gates.Copies.{copies_cells}
use Rattle.surrounded_core.specs.instruction_gates.Selections.{selections_cells}
use Rattle.surrounded_core.proofs.instruction_gates.Copied.{copies_length}
use Rattle.surrounded_core.specs.instruction_gates.Stages.{stages_cells}
use Rattle.surrounded_core.specs.instruction_gates.Register.{pattern_bits, stages_size, latches_from, matched_instructions, opcodes_size, opcodes_cells, opcodes_from, selections_from, copies_from, opcodes_told, instruction_size, instruction_cells}
use Rattle.surrounded_core.proofs.instruction_gates.Sizes.{opcodes_length}
use Rattle.surrounded_core.proofs.instruction_gates.Added.{stages_counted}
use Rattle.surrounded_core.specs.boundary_cells.declared.tables.Choice.{Choice}
use Rattle.surrounded_core.specs.boundary_cells.declared.tables.TheConstants.{UPDATES}
use Rattle.surrounded_core.specs.boundary_cells.Cells.{choice_cell, cells_onto, stage_table, cell_given}
use Rattle.surrounded_core.specs.boundary_cells.ThreeState.{control_table, control_choice, control_given, bidir_table, bidir_given}
use Rattle.surrounded_core.specs.Rows.{row_cells}
use Rattle.plan_fitting.specs.declared.fitted.FitRow.{FitRow}
use Rattle.plan_fitting.specs.declared.fitted.Fitted.{Fitted}
use Rattle.stitched_netlist.specs.declared.model.TapPort.{TapPort}
use Rattle.stitched_netlist.specs.declared.model.Site.{Site}
use Rattle.stitched_netlist.specs.declared.model.Site.TheVariants as site
use Rattle.stitched_netlist.specs.Sites.{Boundary, site_of, row_sides}
use Rattle.stitched_netlist.specs.Sides.{core_feed}
use Rattle.stitched_netlist.specs.ModelRows.{nets_of_rows, nets_by, net_at, enable_of, is_active_high, site_cells, row_cells as cells_of_row, last_bit, rows_cells}
use Rattle.stitched_netlist.specs.ModelLogic.{instruction_from, bypass_from, ident_from, code_size, logic_size, tap_at, instruction_at, ident_part}
use Rattle.stitched_netlist.specs.Stitched.{boundary_at, first_net}
use Rattle.stitched_netlist.proofs.Few.{inverse_counted, captured_counted}
use Rattle.stitched_netlist.specs.PlacesLaws.{port_of, scan_of, instruction_number, bypass_number, ident_number, register_number, register_net, rows_before, row_first, row_side, row_number, row_next, handed_at, drivers_at}
use Rattle.stitched_netlist.specs.Sizes.{choice_count, driver_count, row_size, cells_of_rows, LogicLengths, RowLengths, Numbers}
use Rattle.stitched_netlist.specs.CellsLaws.{driver_number}

-- The registers.

pub instruction_length : (first number : ℕ) (tap : TapNets) (tdi : NetId) (codes : Codes) → length (instruction_cells first number tap tdi codes) ≡ instruction_size codes
instruction_length first number tap tdi codes =
    let stages = stages_cells first number tap tdi (pattern_bits codes codes.capture) (pattern_bits codes codes.reset) in
    let opcodes = opcodes_cells (opcodes_from first codes) (opcodes_from number codes) (latches_from first codes) codes matched_instructions in
    let selections = selections_cells (selections_from first codes) (selections_from number codes) tap (opcodes_told (opcodes_from first codes) codes) in
    let copies = copies_cells (copies_from first codes) (copies_from number codes) (latches_from first codes) codes.length in
    let outer = length-append stages (opcodes ++ (selections ++ copies)) in
    let inner = length-append opcodes (selections ++ copies) in
    let last = length-append selections copies in
    let a : length stages ≡ stages_size codes = stages_counted constants first number tap tdi codes in
    let b : length opcodes ≡ opcodes_size codes matched_instructions =
    opcodes_length constants (opcodes_from first codes) (opcodes_from number codes) (latches_from first codes) codes matched_instructions in
    let ten : length selections ≡ 10 = refl in
    let c : length copies ≡ codes.length = copies_length (copies_from first codes) (copies_from number codes) (latches_from first codes) codes.length in
    omega arith

data_length : (first number : ℕ) (tap : TapNets) (on tdi : NetId) (captured : List Feed) → length (data_cells first number tap on tdi captured) ≡ 2 + 3 * length captured
data_length first number tap on tdi captured =
    let front = selected_cells first number tap on in
    let bits = chain_cells (first + 2) (number + 2) (selected_steering first tap) tdi captured in
    let both = length-append front bits in
    let two : length front ≡ 2 = refl in
    let many = chain_length (first + 2) (number + 2) (selected_steering first tap) tdi captured in
    omega arith

pub ident_length : (first number : ℕ) (tap : TapNets) (on user_on tdi : NetId) (user : Option ℕ) (code : ℕ)
    → length (ident_cells first number tap on user_on tdi user code) ≡ ident_size user
ident_length first number tap on user_on tdi user code =
    let captured = captured_feeds first user_on user code in
    let inverse = inverse_cells first number user_on user in
    let data_register = data_cells (first + user_size user) (number + user_size user) tap on tdi captured in
    let both = length-append inverse data_register in
    let a = inverse_counted first number user_on user in
    let b = data_length (first + user_size user) (number + user_size user) tap on tdi captured in
    let count = captured_counted first user_on user code in
    omega arith

ident_part_length : (first : ℕ) (port : TapPort) (f : Fitted) (number : ℕ) → length (ident_part first port f number) ≡ code_size f.usercode f.idcode
ident_part_length first port f number = by f.idcode
  where
    by : (code : Option ℕ) → length (ident_part first port (record f { idcode = code }) number) ≡ code_size f.usercode code
    by None = refl
    by (Some code) =
        ident_length (first + ident_from f) number (tap_at first port) (instruction_at first port f).ident_on (instruction_at first port f).user_on port.tdi f.usercode code

pub logic_lengths : (first : ℕ) (port : TapPort) (f : Fitted) (number : ℕ) → LogicLengths first port f number
logic_lengths first port f number = record {
  controller = refl;
  instruction = instruction_length (first + instruction_from) number (tap_at first port) port.tdi f.codes;
  bypass = refl;
  ident = ident_part_length first port f number;
}

-- Rows.

onto_length : (gates : List Gate) (choice : Choice) (given : List Feed) (first number : ℕ) (into : NetId) → length (cells_onto gates choice given first number into) ≡ length gates + 1
onto_length gates choice given first number into =
    let both = length-append (part_cells gates given first number) (choice_cell first given (number + length gates) into choice ∷ []) in
    let one : length (choice_cell first given (number + length gates) into choice ∷ []) ≡ 1 = refl in
    let many = length-cells_from first given number first gates in
    omega arith

pub bidir_length : (active_high : Bool) → length (bidir_table active_high) ≡ 7
bidir_length true = refl
bidir_length false = refl

gates_length : (B : Boundary) (scan : ScanNets) (first number side : ℕ) (row : FitRow) (next : NetId) (at : Site)
    → length (row_cells (handed_at B side row at) first number scan next) ≡ nets_by at row.cell + choice_count at
gates_length B scan first number side row next site.Observed = refl
gates_length B scan first number side row next site.Input = refl
gates_length B scan first number side row next site.Output =
    onto_length (stage_table row.cell) UPDATES (cell_given scan next (Net (record { 0 = side })) scan.m_out) first number (net_at B row)
gates_length B scan first number side row next site.AddedDriver =
    onto_length (stage_table row.cell) UPDATES (cell_given scan next (Net (record { 0 = side })) scan.m_out) first number (record { 0 = side + 1 })
gates_length B scan first number side row next site.Driver =
    onto_length (stage_table row.cell) UPDATES (cell_given scan next (core_feed B row) scan.m_out) first number (record { 0 = side })
gates_length B scan first number side row next site.Inout =
    onto_length (bidir_table (is_active_high B row)) UPDATES (bidir_given scan next (core_feed B row) (enable_of B row) (net_at B row)) first number (record { 0 = side })
    ∙ ap (λ (n : ℕ). n + 1) (bidir_length (is_active_high B row))
gates_length B scan first number side row next site.Control =
    onto_length (control_table row.cell) (control_choice row.cell) (control_given scan next (core_feed B row) row.active_high) first number (record { 0 = side })

drivers_length : (B : Boundary) (number side : ℕ) (row : FitRow) (at : Site) → length (drivers_at B number side row at) ≡ driver_count at
drivers_length B number side row site.Observed = refl
drivers_length B number side row site.Input = refl
drivers_length B number side row site.Output = refl
drivers_length B number side row site.AddedDriver = refl
drivers_length B number side row site.Driver = refl
drivers_length B number side row site.Inout = refl
drivers_length B number side row site.Control = refl

pub row_lengths : (N : NetlistView) (f : Fitted) (k : ℕ) (row : FitRow) → RowLengths N f k row
row_lengths N f k row = record {
  gates = gates_length (boundary_at N f) (scan_of N f) (row_first N f k) (row_number N f k) (row_side N f k) row (row_next N f k) (site_of N.ports row);
  drivers = drivers_length (boundary_at N f) (driver_number N f k row) (row_side N f k) row (site_of N.ports row);
}

site_length : (B : Boundary) (scan : ScanNets) (first number side : ℕ) (row : FitRow) (next : NetId) (at : Site)
    → length (site_cells B scan first number side row next at) ≡ nets_by at row.cell + choice_count at + driver_count at
site_length B scan first number side row next site.Observed = refl
site_length B scan first number side row next site.Input = refl
site_length B scan first number side row next site.Output = let many = gates_length B scan first number side row next site.Output in omega arith
site_length B scan first number side row next site.AddedDriver =
    let gates = row_cells (handed_at B side row site.AddedDriver) first number scan next in
    let driver = drivers_at B (number + length gates) side row site.AddedDriver in
    let both = length-append gates driver in
    let many = gates_length B scan first number side row next site.AddedDriver in
    let one : length driver ≡ 1 = refl in
    omega arith
site_length B scan first number side row next site.Driver = let many = gates_length B scan first number side row next site.Driver in omega arith
site_length B scan first number side row next site.Inout = let many = gates_length B scan first number side row next site.Inout in omega arith
site_length B scan first number side row next site.Control = let many = gates_length B scan first number side row next site.Control in omega arith

pub rows_length : (B : Boundary) (scan : ScanNets) (first number : ℕ) (tdi : NetId) (side : ℕ) (rows : List FitRow)
    → length (rows_cells B scan first number tdi side rows) ≡ cells_of_rows B.ports rows
rows_length B scan first number tdi side [] = refl
rows_length B scan first number tdi side (r ∷ rows) =
    let before = rows_cells B scan first number tdi (side + row_sides B.ports r) rows in
    let mine = cells_of_row B scan (first + nets_of_rows B.ports rows) (number + length before) side r (last_bit B.ports first tdi rows) in
    let both = length-append before mine in
    let rest = rows_length B scan first number tdi (side + row_sides B.ports r) rows in
    let here : length mine ≡ row_size B.ports r =
    site_length B scan (first + nets_of_rows B.ports rows) (number + length before) side r (last_bit B.ports first tdi rows) (site_of B.ports r) in
    let sum = sum_by-cons (row_size B.ports) r rows in
    omega arith

-- Where the parts begin.

pub numbers : (N : NetlistView) (f : Fitted) → Numbers N f
numbers N f =
    let c = logic_lengths (first_net N f) (port_of N) f in
    let a : instruction_number N f ≡ cell_count N + instruction_from = ap (λ (n : ℕ). cell_count N + n) (c (cell_count N)).controller in
    let i = (c (instruction_number N f)).instruction in
    let b : bypass_number N f ≡ cell_count N + bypass_from f = omega arith in
    let p = (c (bypass_number N f)).bypass in
    let d : ident_number N f ≡ cell_count N + ident_from f = omega arith in
    let q = (c (ident_number N f)).ident in
    let r : register_number N f ≡ cell_count N + logic_size f = omega arith in
    record {
      instruction = a;
      bypass = b;
      ident = d;
      register = r;
      row = λ k. ap (λ (n : ℕ). register_number N f + n)
          (rows_length (boundary_at N f) (scan_of N f) (register_net N f) (register_number N f) (port_of N).tdi (row_side N f (suc k)) (rows_before f k));
      tdo = ap (λ (n : ℕ). register_number N f + n)
          (rows_length (boundary_at N f) (scan_of N f) (register_net N f) (register_number N f) (port_of N).tdi (boundary_at N f).first f.rows);
      tdo_length = λ number. refl;
    }
