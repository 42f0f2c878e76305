-- The parts of the test logic: their flip-flops and what they drive.
use Rattle.std.proofs.Common.{◌≡◌, ℕ, ◌+◌, ◌*◌, Bool, true, false, IsTrue, List, [], ◌∷◌, length, refl, subst, Option, Some, None, arith}
use Rattle.std.specs.Prelude.{⊤}
use Rattle.std.specs.List.{list_all}
use Rattle.std.specs.Option.{option_map_or}
use Rattle.list_laws.proofs.Options.{some_same}
use Rattle.cell_library.specs.declared.codes.Bits.{Bits}
use Rattle.cell_library.specs.declared.codes.Instr.{Instr}
use Rattle.cell_library.specs.declared.codes.BoundaryKind.{BoundaryKind}
use Rattle.cell_library.specs.declared.codes.BoundaryKind.TheVariants.{Bc1, Bc2, Bc4, Bc7}
use Rattle.netlist_model.specs.declared.NetId.{NetId}
use Rattle.netlist_model.specs.declared.Feed.{Feed}
use Rattle.netlist_model.specs.declared.Feed.TheVariants.{Net, Const}
use Rattle.netlist_model.specs.Lists.{CellView}
use Rattle.gate_parts.specs.Parts.{part_cells}
use Rattle.test_logic.specs.declared.Codes.{Codes}
use Rattle.test_logic.specs.declared.TapNets.{TapNets}
use Rattle.test_logic.specs.declared.InstrNets.{InstrNets}
use Rattle.test_logic.specs.declared.ScanNets.{ScanNets}
use Rattle.test_logic.specs.Instructions.{opcode_of}
use Rattle.tap_gates.specs.declared.table.TheConstants.{CONTROLLER}
use Rattle.tap_gates.specs.Controller.{tap_given}
use Rattle.surrounded_core.specs.register_gates.declared.TheConstants.{SELECTED}
use Rattle.surrounded_core.specs.register_gates.declared.ident.TheConstants.{INVERSE}
use Rattle.surrounded_core.specs.register_gates.declared.tdo.TheConstants.{TDO}
use Rattle.surrounded_core.specs.register_gates.Registers.{selected_given, selected_cells, selected_steering, bypass_cells, data_cells, user_size, inverse_cells, captured_feeds, ident_cells}
use Rattle.surrounded_core.specs.register_gates.Tdo.{tdo_given, tdo_driver, tdo_cells}
use Rattle.surrounded_core.specs.register_gates.Bits.{shift_bit_cells}
use Rattle.surrounded_core.specs.register_gates.Chains.{chain_cells}
use Rattle.surrounded_core.specs.instruction_gates.declared.stages.TheConstants.{LOADS}
use Rattle.surrounded_core.specs.instruction_gates.declared.selections.TheConstants.{SELECTIONS}
use Rattle.surrounded_core.specs.instruction_gates.Selections.{selections_given, selections_cells}
use Rattle.surrounded_core.specs.instruction_gates.Stages.{loads_given, ir_steering, ir_latching, shift_stage_cells, stages_cells}
use Rattle.surrounded_core.specs.instruction_gates.Register.{pattern_bits, latches_from, cells_with, opcode_size, opcode_cells, matched_instructions, opcodes_cells, opcodes_told, opcodes_from, selections_from, copies_from, instruction_cells}
use Rattle.surrounded_core.specs.boundary_cells.declared.tables.TheConstants.{BC_1, UPDATES}
use Rattle.surrounded_core.specs.boundary_cells.Cells.{steering_of, stage_table, cell_given, output_cells}
use Rattle.surrounded_core.specs.boundary_cells.ThreeState.{control_table, control_choice, control_given, bidir_table, bidir_given}
use Rattle.plan_fitting.specs.declared.fitted.FitRow.{FitRow}
use Rattle.plan_fitting.specs.declared.fitted.Fitted.{Fitted}
use Rattle.stitched_netlist.specs.declared.model.TapPort.{TapPort}
use Rattle.stitched_netlist.specs.declared.model.Site.{Site}
use Rattle.stitched_netlist.specs.declared.model.Site.TheVariants as site
use Rattle.stitched_netlist.specs.Sites.{Boundary, site_of, row_sides}
use Rattle.stitched_netlist.specs.Sides.{level_net, core_feed}
use Rattle.stitched_netlist.specs.ModelRows.{nets_of_rows, net_at, enable_of, is_active_high, added_driver, site_cells, row_cells, last_bit, rows_cells, behind}
use Rattle.stitched_netlist.specs.ModelLogic.{instruction_from, bypass_from, ident_from, logic_size, tap_at, instruction_at, bypass_at, ident_at, controller_part, instruction_part, bypass_part, ident_part, logic_cells}
use Rattle.stitched_netlist.specs.Stitched.{rows_part, boundary_last, tdo_part, test_logic_cells}
use Rattle.stitched_netlist.specs.Gates.{is_clocked_by}
use Rattle.stitched_netlist.proofs.Steered.{AreSteered, steered_joined, IsFrom, table_steered, gates_steered, from_more, choice_steered, shift_steered, chain_steered, latches_steered, matches_steered, copies_steered}

-- The instruction register.

stages_steered : (first number : ℕ) (tap : TapNets) (tdi : NetId) (captured presets : List Feed) (Q : ℕ → Type 0) → IsFrom Q first
    → AreSteered tap.tck tap.trst Q (stages_cells first number tap tdi captured presets)
stages_steered first number tap tdi captured presets Q q =
    steered_joined tap.tck tap.trst Q (shift_stage_cells first number tap tdi captured) _
    (steered_joined tap.tck tap.trst Q (part_cells LOADS (loads_given tap) first number) (chain_cells (first + 1) (number + 1) (ir_steering tap) tdi captured)
    (gates_steered LOADS (loads_given tap) first number tap.tck tap.trst Q refl q)
    (chain_steered (first + 1) (number + 1) (ir_steering tap) tdi captured Q (from_more Q first (first + 1) (omega arith) q)))
    (latches_steered (first + (1 + 3 * length captured)) (number + (1 + 3 * length captured)) (ir_latching first tap) (first + 1) presets Q
    (from_more Q first (first + (1 + 3 * length captured)) (omega arith) q))

opcode_steered : (first number latches : ℕ) (codes : Codes) (o : Option Bits) (tck trst : NetId) (Q : ℕ → Type 0) → IsFrom Q first
    → AreSteered tck trst Q (cells_with first number latches codes o)
opcode_steered first number latches codes None tck trst Q q = tt
opcode_steered first number latches codes (Some opcode) tck trst Q q = matches_steered first number latches (pattern_bits codes opcode) tck trst Q q

opcodes_steered : (first number latches : ℕ) (codes : Codes) (list : List Instr) (tck trst : NetId) (Q : ℕ → Type 0) → IsFrom Q first
    → AreSteered tck trst Q (opcodes_cells first number latches codes list)
opcodes_steered first number latches codes [] tck trst Q q = tt
opcodes_steered first number latches codes (i ∷ rest) tck trst Q q =
    steered_joined tck trst Q (opcode_cells first number latches codes i) (opcodes_cells (first + opcode_size codes i) (number + opcode_size codes i) latches codes rest)
    (opcode_steered first number latches codes (opcode_of codes.opcodes i) tck trst Q q)
    (opcodes_steered (first + opcode_size codes i) (number + opcode_size codes i) latches codes rest tck trst Q (from_more Q first (first + opcode_size codes i) (omega arith) q))

instruction_steered : (first number : ℕ) (tap : TapNets) (tdi : NetId) (codes : Codes) (Q : ℕ → Type 0) → IsFrom Q first
    → AreSteered tap.tck tap.trst Q (instruction_cells first number tap tdi codes)
instruction_steered first number tap tdi codes Q q =
    let captured : List Feed = pattern_bits codes codes.capture in
    let presets : List Feed = pattern_bits codes codes.reset in
    steered_joined tap.tck tap.trst Q (stages_cells first number tap tdi captured presets) _ (stages_steered first number tap tdi captured presets Q q)
    (steered_joined tap.tck tap.trst Q (opcodes_cells (opcodes_from first codes) (opcodes_from number codes) (latches_from first codes) codes matched_instructions) _
    (opcodes_steered (opcodes_from first codes) (opcodes_from number codes) (latches_from first codes) codes matched_instructions tap.tck tap.trst Q (from_more Q first (opcodes_from first codes) (omega arith) q))
    (steered_joined tap.tck tap.trst Q (selections_cells (selections_from first codes) (selections_from number codes) tap (opcodes_told (opcodes_from first codes) codes)) _
    (gates_steered SELECTIONS (selections_given tap (opcodes_told (opcodes_from first codes) codes)) (selections_from first codes) (selections_from number codes) tap.tck tap.trst Q refl
    (from_more Q first (selections_from first codes) (omega arith) q))
    (copies_steered (copies_from first codes) (copies_from number codes) (latches_from first codes) codes.length tap.tck tap.trst Q (from_more Q first (copies_from first codes) (omega arith) q))))

-- The registers beside it.

selected_steered : (first number : ℕ) (tap : TapNets) (on : NetId) (Q : ℕ → Type 0) → IsFrom Q first → AreSteered tap.tck tap.trst Q (selected_cells first number tap on)
selected_steered first number tap on Q q = gates_steered SELECTED (selected_given tap on) first number tap.tck tap.trst Q refl q

bypass_steered : (first number : ℕ) (tap : TapNets) (on tdi : NetId) (Q : ℕ → Type 0) → IsFrom Q first → AreSteered tap.tck tap.trst Q (bypass_cells first number tap on tdi)
bypass_steered first number tap on tdi Q q =
    steered_joined tap.tck tap.trst Q (selected_cells first number tap on) (shift_bit_cells (first + 2) (number + 2) (selected_steering first tap) (Const false) tdi)
    (selected_steered first number tap on Q q)
    (shift_steered (first + 2) (number + 2) (selected_steering first tap) (Const false) tdi Q (from_more Q first (first + 2) (omega arith) q))

data_steered : (first number : ℕ) (tap : TapNets) (on tdi : NetId) (captured : List Feed) (Q : ℕ → Type 0) → IsFrom Q first
    → AreSteered tap.tck tap.trst Q (data_cells first number tap on tdi captured)
data_steered first number tap on tdi captured Q q =
    steered_joined tap.tck tap.trst Q (selected_cells first number tap on) (chain_cells (first + 2) (number + 2) (selected_steering first tap) tdi captured)
    (selected_steered first number tap on Q q)
    (chain_steered (first + 2) (number + 2) (selected_steering first tap) tdi captured Q (from_more Q first (first + 2) (omega arith) q))

inverse_steered : (first number : ℕ) (user_on : NetId) (user : Option ℕ) (tck trst : NetId) (Q : ℕ → Type 0) → IsFrom Q first
    → AreSteered tck trst Q (inverse_cells first number user_on user)
inverse_steered first number user_on None tck trst Q q = tt
inverse_steered first number user_on (Some user) tck trst Q q = gates_steered INVERSE (Net user_on ∷ []) first number tck trst Q refl q

ident_steered : (first number : ℕ) (tap : TapNets) (on user_on tdi : NetId) (user o : Option ℕ) (Q : ℕ → Type 0) → IsFrom Q first
    → AreSteered tap.tck tap.trst Q (option_map_or (ident_cells first number tap on user_on tdi user) o [])
ident_steered first number tap on user_on tdi user None Q q = tt
ident_steered first number tap on user_on tdi user (Some code) Q q =
    let captured : List Feed = captured_feeds first user_on user code in
    steered_joined tap.tck tap.trst Q (inverse_cells first number user_on user) (data_cells (first + user_size user) (number + user_size user) tap on tdi captured)
    (inverse_steered first number user_on user tap.tck tap.trst Q q)
    (data_steered (first + user_size user) (number + user_size user) tap on tdi captured Q (from_more Q first (first + user_size user) (omega arith) q))

logic_steered : (first number : ℕ) (port : TapPort) (f : Fitted) (Q : ℕ → Type 0) → IsFrom Q first → AreSteered port.tck port.trst Q (logic_cells first number port f)
logic_steered first number port f Q q =
    let C : List CellView = controller_part first port number in
    let CI : List CellView = behind number C (instruction_part first port f) in
    let CIP : List CellView = behind number CI (bypass_part first port f) in
    let tap : TapNets = tap_at first port in
    steered_joined port.tck port.trst Q CIP (ident_part first port f (number + length CIP))
    (steered_joined port.tck port.trst Q CI (bypass_part first port f (number + length CI))
    (steered_joined port.tck port.trst Q C (instruction_part first port f (number + length C))
    (table_steered CONTROLLER (tap_given port.tck port.tms port.trst) first number 0 2 port.tck port.trst Q refl refl refl q)
    (instruction_steered (first + instruction_from) (number + length C) tap port.tdi f.codes Q (from_more Q first (first + instruction_from) (omega arith) q)))
    (bypass_steered (first + bypass_from f) (number + length CI) tap (instruction_at first port f).bypass_on port.tdi Q (from_more Q first (first + bypass_from f) (omega arith) q)))
    (ident_steered (first + ident_from f) (number + length CIP) tap (instruction_at first port f).ident_on (instruction_at first port f).user_on port.tdi f.usercode f.idcode Q (from_more Q first (first + ident_from f) (omega arith) q))

-- Rows.

-- what a row drives besides its own nets
abbrev pub RowDrives : (ℕ → Type 0) → Boundary → ℕ → FitRow → Site → Type 0
RowDrives Q B side row site.Observed = ⊤
RowDrives Q B side row site.Output = Q (net_at B row).0
RowDrives Q B side row site.AddedDriver = Q (side + 1) × Q (net_at B row).0
RowDrives Q B side row _ = Q side

stage_clocked : (cell : BoundaryKind) → IsTrue (list_all (is_clocked_by 0 1) (stage_table cell))
stage_clocked Bc1 = refl
stage_clocked Bc2 = refl
stage_clocked Bc4 = refl
stage_clocked Bc7 = refl

control_clocked : (cell : BoundaryKind) → IsTrue (list_all (is_clocked_by 0 1) (control_table cell))
control_clocked Bc1 = refl
control_clocked Bc2 = refl
control_clocked Bc4 = refl
control_clocked Bc7 = refl

bidir_clocked : (high : Bool) → IsTrue (list_all (is_clocked_by 0 1) (bidir_table high))
bidir_clocked true = refl
bidir_clocked false = refl

stage_steered : (cell : BoundaryKind) (first number : ℕ) (scan : ScanNets) (core : Feed) (into next : NetId) (Q : ℕ → Type 0) → IsFrom Q first → Q into.0
    → AreSteered scan.tck scan.trst Q (output_cells cell first number scan core into next)
stage_steered cell first number scan core into next Q q i =
    choice_steered (stage_table cell) UPDATES (cell_given scan next core scan.m_out) first number into scan.tck scan.trst Q (stage_clocked cell) refl refl q i

row_steered : (B : Boundary) (scan : ScanNets) (first number side : ℕ) (row : FitRow) (next : NetId) (Q : ℕ → Type 0) → IsFrom Q first → (at : Site) → RowDrives Q B side row at
    → AreSteered scan.tck scan.trst Q (site_cells B scan first number side row next at)
row_steered B scan first number side row next Q q site.Observed d = shift_steered first number (steering_of scan) (Net (net_at B row)) next Q q
row_steered B scan first number side row next Q q site.Input d =
    choice_steered BC_1 UPDATES (cell_given scan next (Net (net_at B row)) scan.m_in) first number (record { 0 = side }) scan.tck scan.trst Q refl refl refl q d
row_steered B scan first number side row next Q q site.Output d = stage_steered row.cell first number scan (Net (record { 0 = side })) (net_at B row) next Q q d
row_steered B scan first number side row next Q q site.AddedDriver d =
    let gates : List CellView = output_cells row.cell first number scan (Net (record { 0 = side })) (record { 0 = side + 1 }) next in
    steered_joined scan.tck scan.trst Q gates (added_driver (number + length gates) (record { 0 = side + 1 }) (level_net B row) (net_at B row) ∷ [])
    (stage_steered row.cell first number scan (Net (record { 0 = side })) (record { 0 = side + 1 }) next Q q d.0) (
      record {
        clock = λ flop. absurd (cc);
        reset = λ flop. absurd (cc);
        drives = λ other e. let same : net_at B row ≡ (record { 0 = other }) = some_same (net_at B row) (let two : NetId = record { 0 = other } in two) (Some (net_at B row)) refl e in
            subst (λ (n : NetId). Q n.0) same d.1;
      },
      tt,
    )
row_steered B scan first number side row next Q q site.Driver d = stage_steered row.cell first number scan (core_feed B row) (record { 0 = side }) next Q q d
row_steered B scan first number side row next Q q site.Inout d =
    choice_steered (bidir_table (is_active_high B row)) UPDATES (bidir_given scan next (core_feed B row) (enable_of B row) (net_at B row)) first number (record { 0 = side }) scan.tck scan.trst Q
    (bidir_clocked (is_active_high B row)) refl refl q d
row_steered B scan first number side row next Q q site.Control d =
    choice_steered (control_table row.cell) (control_choice row.cell) (control_given scan next (core_feed B row) row.active_high) first number (record { 0 = side }) scan.tck scan.trst Q
    (control_clocked row.cell) refl refl q d

-- each of these rows, whose nets between begin at `side`
abbrev pub RowsDrive : (ℕ → Type 0) → Boundary → ℕ → List FitRow → Type 0
RowsDrive Q B side [] = ⊤
RowsDrive Q B side (row ∷ rows) = RowDrives Q B side row (site_of B.ports row) × RowsDrive Q B (side + row_sides B.ports row) rows

rows_steered : (B : Boundary) (scan : ScanNets) (first number : ℕ) (tdi : NetId) (side : ℕ) (rows : List FitRow) (Q : ℕ → Type 0) → IsFrom Q first → RowsDrive Q B side rows
    → AreSteered scan.tck scan.trst Q (rows_cells B scan first number tdi side rows)
rows_steered B scan first number tdi side [] Q q d = tt
rows_steered B scan first number tdi side (row ∷ rows) Q q d =
    let cells : List CellView = rows_cells B scan first number tdi (side + row_sides B.ports row) rows in
    let next : NetId = last_bit B.ports first tdi rows in
    steered_joined scan.tck scan.trst Q cells (row_cells B scan (first + nets_of_rows B.ports rows) (number + length cells) side row next)
    (rows_steered B scan first number tdi (side + row_sides B.ports row) rows Q q d.1)
    (row_steered B scan (first + nets_of_rows B.ports rows) (number + length cells) side row next Q (from_more Q first (first + nets_of_rows B.ports rows) (omega arith) q) (site_of B.ports row) d.0)

-- TDO.

tdo_steered : (first number : ℕ) (tap : TapNets) (instruction : InstrNets) (bypass : NetId) (ident : Option NetId) (boundary tdo : NetId) (Q : ℕ → Type 0) → IsFrom Q first → Q tdo.0
    → AreSteered tap.tck tap.trst Q (tdo_cells first number tap instruction bypass ident boundary tdo)
tdo_steered first number tap instruction bypass ident boundary tdo Q q t =
    steered_joined tap.tck tap.trst Q (part_cells TDO (tdo_given tap instruction bypass ident boundary) first number) (tdo_driver first tdo (number + 6) ∷ [])
    (table_steered TDO (tdo_given tap instruction bypass ident boundary) first number 0 1 tap.tck tap.trst Q refl refl refl q) (
      record {
        clock = λ flop. absurd (cc);
        reset = λ flop. absurd (cc);
        drives = λ other e. let same : tdo ≡ (record { 0 = other }) = some_same tdo (let two : NetId = record { 0 = other } in two) (Some tdo) refl e in subst (λ (n : NetId). Q n.0) same t;
      },
      tt,
    )

-- All of it.

pub logic_is_steered : (B : Boundary) (first number : ℕ) (port : TapPort) (f : Fitted) (Q : ℕ → Type 0) → IsFrom Q first → RowsDrive Q B B.first B.rows → Q port.tdo.0
    → AreSteered port.tck port.trst Q (test_logic_cells B first number port f)
logic_is_steered B first number port f Q q d t =
    let X : List CellView = logic_cells first number port f in
    let Y : List CellView = behind number X (rows_part B first port f) in
    steered_joined port.tck port.trst Q Y (tdo_part B first port f (number + length Y))
    (steered_joined port.tck port.trst Q X (rows_part B first port f (number + length X)) (logic_steered first number port f Q q)
    (rows_steered B (instruction_at first port f).scan (first + logic_size f) (number + length X) port.tdi B.first B.rows Q (from_more Q first (first + logic_size f) (omega arith) q) d))
    (tdo_steered (first + logic_size f + nets_of_rows B.ports B.rows) (number + length Y) (tap_at first port) (instruction_at first port f) (bypass_at first f) (ident_at first port f)
    (boundary_last B first port f) port.tdo Q (from_more Q first (first + logic_size f + nets_of_rows B.ports B.rows) (omega arith) q) t)
