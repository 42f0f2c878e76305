-- The cells of the test logic are named: each has an added name and an output, and is no `assign`.
use Rattle.std.proofs.Common.{◌≡◌, ℕ, zero, suc, ◌+◌, ◌*◌, Bool, true, false, List, [], ◌∷◌, ◌++◌, length, refl, subst, inl, inr, Option, Some, None}
use Rattle.std.specs.Prelude.{slice_get, IsTrue}
use Rattle.std.specs.List.{list_all}
use Rattle.std.specs.Option.{option_map_or}
use Rattle.cell_library.specs.declared.codes.Bits.{Bits}
use Rattle.cell_library.specs.declared.codes.Instr.{Instr}
use Rattle.cell_library.specs.declared.codes.BoundaryKind.{BoundaryKind}
use Rattle.cell_library.specs.declared.codes.BoundaryKind.TheVariants.{Bc1, Bc2, Bc4, Bc7}
use Rattle.netlist_model.specs.declared.NetId.{NetId}
use Rattle.netlist_model.specs.declared.Feed.{Feed}
use Rattle.netlist_model.specs.declared.Feed.TheVariants.{Net, Const}
use Rattle.netlist_model.specs.Lists.{CellView}
use Rattle.gate_parts.specs.declared.Gate.{Gate}
use Rattle.gate_parts.specs.Parts.{part_cells}
use Rattle.test_logic.specs.declared.Codes.{Codes}
use Rattle.test_logic.specs.declared.ScanNets.{ScanNets}
use Rattle.test_logic.specs.declared.TapNets.{TapNets}
use Rattle.test_logic.specs.Instructions.{opcode_of}
use Rattle.tap_gates.specs.declared.table.TheConstants.{CONTROLLER}
use Rattle.tap_gates.specs.Controller.{tap_given}
use Rattle.register_gates.specs.declared.bits.Steering.{Steering}
use Rattle.register_gates.specs.declared.bits.TheConstants.{SHIFT_BIT, CLEARED_BIT, PRESET_BIT}
use Rattle.register_gates.specs.Bits.{shift_bit_given, shift_bit_cells, held_bit, held_bit_given}
use Rattle.register_gates.specs.Chains.{chain_last, chain_cells}
use Rattle.register_gates.specs.declared.TheConstants.{SELECTED}
use Rattle.register_gates.specs.declared.ident.TheConstants.{INVERSE}
use Rattle.register_gates.specs.declared.tdo.TheConstants.{TDO}
use Rattle.register_gates.specs.Registers.{selected_given, selected_cells, selected_steering, bypass_cells, data_cells, user_size, inverse_cells, captured_feeds, ident_cells}
use Rattle.register_gates.specs.Tdo.{tdo_given, tdo_driver}
use Rattle.core_sides.specs.instruction_gates.declared.latches.Latching.{Latching}
use Rattle.core_sides.specs.instruction_gates.declared.latches.TheConstants.{LOADED}
use Rattle.core_sides.specs.instruction_gates.declared.matches.TheConstants.{EQUAL_BIT}
use Rattle.core_sides.specs.instruction_gates.declared.selections.Matched.{Matched}
use Rattle.core_sides.specs.instruction_gates.declared.copies.TheConstants.{COPY}
use Rattle.core_sides.specs.instruction_gates.declared.selections.TheConstants.{SELECTIONS}
use Rattle.core_sides.specs.instruction_gates.declared.stages.TheConstants.{LOADS}
use Rattle.core_sides.specs.instruction_gates.Rows.{is_one, row_cells as bit_cells, placed}
use Rattle.core_sides.specs.instruction_gates.Latches.{loaded_given, latch_cells, latches_cells, holding_of}
use Rattle.core_sides.specs.instruction_gates.Matches.{match_before, equal_given, match_cells, matches_cells}
use Rattle.core_sides.specs.instruction_gates.Copies.{copy_given, copies_cells}
use Rattle.core_sides.specs.instruction_gates.Selections.{selections_given, selections_cells}
use Rattle.core_sides.specs.instruction_gates.Stages.{loads_given, ir_steering, ir_latching, shift_stage_cells, stages_cells}
use Rattle.core_sides.specs.instruction_gates.Register.{pattern_bits, latches_from, cells_with, opcode_size, opcode_cells, matched_instructions, opcodes_cells, opcodes_told, opcodes_from, selections_from, copies_from, instruction_cells}
use Rattle.core_sides.specs.boundary_cells.declared.tables.Choice.{Choice}
use Rattle.core_sides.specs.boundary_cells.declared.tables.TheConstants.{BC_1, BC_2, UPDATES, BC_1_CONTROL, BC_2_CONTROL, BC_7_HIGH, BC_7_LOW, BC_1_LEVEL, BC_2_LEVEL}
use Rattle.core_sides.specs.boundary_cells.Cells.{steering_of, choice_cell, cells_onto, cell_given, output_cells}
use Rattle.core_sides.specs.boundary_cells.ThreeState.{control_given, control_cells, bidir_given, bidir_cells}
use Rattle.netlist_link.specs.DraftLawsTables.{is_plain}
use Rattle.netlist_link.specs.DraftLawsNames.{IsNamedCell}
use Rattle.netlist_link.specs.Sources.{PartIsNamed}
use Rattle.core_sides.specs.plan_fitting.declared.fitted.FitRow.{FitRow}
use Rattle.core_sides.specs.plan_fitting.declared.fitted.Fitted.{Fitted}
use Rattle.core_sides.specs.stitched_netlist.declared.model.Site.{Site}
use Rattle.core_sides.specs.stitched_netlist.declared.model.Site.TheVariants as site
use Rattle.core_sides.specs.stitched_netlist.declared.model.TapPort.{TapPort}
use Rattle.core_sides.specs.stitched_netlist.Sites.{Boundary, site_of, row_sides}
use Rattle.core_sides.specs.stitched_netlist.Sides.{level_net, core_feed}
use Rattle.core_sides.specs.stitched_netlist.ModelRows.{behind, net_at, enable_of, is_active_high, added_driver, site_cells, row_cells, nets_of_rows, last_bit, rows_cells}
use Rattle.core_sides.specs.stitched_netlist.ModelLogic.{instruction_from, bypass_from, ident_from, logic_size, tap_at, instruction_at, bypass_at, ident_at, controller_part, instruction_part, bypass_part, ident_part, logic_cells}
use Rattle.core_sides.specs.stitched_netlist.Stitched.{rows_part, boundary_last, tdo_part, test_logic_cells}
use Rattle.written_netlists.proofs.Table.{at_append, only_at}

-- each cell of the list is named
pub record AreNamed (cells : List CellView) : Type 0 where
  pub each : (k : ℕ) (cell : CellView) → slice_get cells k ≡ Some cell → IsNamedCell cell

none : AreNamed []
none = record { each = λ k cell at. absurd (let no : None ≡ Some cell = at in cc) }

both : (xs ys : List CellView) → AreNamed xs → AreNamed ys → AreNamed (xs ++ ys)
both xs ys a b = record {
  each = λ k cell at. elim (at_append xs ys k cell at) [
    | inl before ↦ a.each k cell before.1
    | inr after ↦ b.each after.0 cell after.2
  ];
}

one : (cell : CellView) → IsNamedCell cell → AreNamed (cell ∷ [])
one cell named = record { each = λ k other at. subst IsNamedCell (only_at cell other k at).1 named }

in_turn : (number : ℕ) (xs : List CellView) (part : ℕ → List CellView) → AreNamed xs → ((n : ℕ) → AreNamed (part n)) → AreNamed (behind number xs part)
in_turn number xs part a b = both xs (part (number + length xs)) a (b (number + length xs))

tdo_driven : (first : ℕ) (tdo : NetId) (number : ℕ) → AreNamed (tdo_driver first tdo number ∷ [])
tdo_driven first tdo number = one (tdo_driver first tdo number) (record { number = number; name = refl; kind = λ is. cc; connected = refl })

-- Each part, by the law on tables.

module _ (law : PartIsNamed) where
  table : (gates : List Gate) (given : List Feed) (first number : ℕ) → IsTrue (list_all (λ (gate : Gate). is_plain gate.kind) gates) → AreNamed (part_cells gates given first number)
  table gates given first number plain = record { each = λ k cell at. law gates given first number plain cell (record { place = k; at = at }) }

  -- Bits in a row.

  shift_bit : (first number : ℕ) (by : Steering) (captured : Feed) (next : NetId) → AreNamed (shift_bit_cells first number by captured next)
  shift_bit first number by captured next = table SHIFT_BIT (shift_bit_given by captured next) first number refl

  chain : (first number : ℕ) (by : Steering) (tdi : NetId) (captured : List Feed) → AreNamed (chain_cells first number by tdi captured)
  chain first number by tdi [] = none
  chain first number by tdi (bit ∷ rest) =
      both (chain_cells first number by tdi rest) _ (chain first number by tdi rest) (shift_bit (first + 3 * length rest) (number + 3 * length rest) by bit (chain_last first tdi rest))

  row : (part : ℕ → Feed → List CellView) → ((behind : ℕ) (item : Feed) → AreNamed (part behind item)) → (items : List Feed) → AreNamed (bit_cells part items)
  row part each [] = none
  row part each (item ∷ rest) = both (bit_cells part rest) (part (length rest) item) (row part each rest) (each (length rest) item)

  held : (first number : ℕ) (given : List Feed) (preset : Bool) → AreNamed (part_cells (held_bit preset) given first number)
  held first number given true = table PRESET_BIT given first number refl
  held first number given false = table CLEARED_BIT given first number refl

  latch : (by : Latching) (shift first number : ℕ) (preset : Feed) → AreNamed (latch_cells by shift first number preset)
  latch by shift first number preset =
      both (part_cells LOADED (loaded_given by shift preset) first number) _ (table LOADED (loaded_given by shift preset) first number refl)
      (held (first + 1) (number + 1) (held_bit_given (holding_of by) (Net (record { 0 = first }))) (is_one preset))

  latches : (first number : ℕ) (by : Latching) (shifts : ℕ) (presets : List Feed) → AreNamed (latches_cells first number by shifts presets)
  latches first number by shifts presets =
      row (placed (λ behind at cell preset. latch_cells by (shifts + 3 * behind) at cell preset) 3 first number)
      (λ behind item. latch by (shifts + 3 * behind) (first + 3 * behind) (number + 3 * behind) item) presets

  matches : (first number latches : ℕ) (wanted : List Feed) → AreNamed (matches_cells first number latches wanted)
  matches first number latches wanted =
      row (placed (λ behind at cell item. match_cells (match_before first behind) (latches + 3 * behind + 1) at cell item) 2 first number)
      (λ behind item. table EQUAL_BIT (equal_given (match_before first behind) (latches + 3 * behind + 1) item) (first + 2 * behind) (number + 2 * behind) refl) wanted

  -- The instruction register.

  stages : (first number : ℕ) (tap : TapNets) (tdi : NetId) (captured presets : List Feed) → AreNamed (stages_cells first number tap tdi captured presets)
  stages first number tap tdi captured presets =
      both (shift_stage_cells first number tap tdi captured) _ (both (part_cells LOADS (loads_given tap) first number) _ (table LOADS (loads_given tap) first number refl) (chain (first + 1) (number + 1) (ir_steering tap) tdi captured))
      (latches (first + (1 + 3 * length captured)) (number + (1 + 3 * length captured)) (ir_latching first tap) (first + 1) presets)

  opcode : (first number at : ℕ) (codes : Codes) (found : Option Bits) → AreNamed (cells_with first number at codes found)
  opcode first number at codes None = none
  opcode first number at codes (Some bits) = matches first number at (pattern_bits codes bits)

  opcodes : (first number at : ℕ) (codes : Codes) (list : List Instr) → AreNamed (opcodes_cells first number at codes list)
  opcodes first number at codes [] = none
  opcodes first number at codes (i ∷ rest) =
      both (opcode_cells first number at codes i) _ (opcode first number at codes (opcode_of codes.opcodes i)) (opcodes (first + opcode_size codes i) (number + opcode_size codes i) at codes rest)

  copies : (first number at count : ℕ) → AreNamed (copies_cells first number at count)
  copies first number at zero = none
  copies first number at (suc behind) =
      both (part_cells COPY (copy_given at behind) first number) _ (table COPY (copy_given at behind) first number refl) (copies (suc first) (suc number) at behind)

  instruction : (first number : ℕ) (tap : TapNets) (tdi : NetId) (codes : Codes) → AreNamed (instruction_cells first number tap tdi codes)
  instruction first number tap tdi codes =
      let told : Matched = opcodes_told (opcodes_from first codes) codes in
      both (stages_cells first number tap tdi (pattern_bits codes codes.capture) (pattern_bits codes codes.reset)) _
      (stages first number tap tdi (pattern_bits codes codes.capture) (pattern_bits codes codes.reset))
      (both (opcodes_cells (opcodes_from first codes) (opcodes_from number codes) (latches_from first codes) codes matched_instructions) _
      (opcodes (opcodes_from first codes) (opcodes_from number codes) (latches_from first codes) codes matched_instructions)
      (both (selections_cells (selections_from first codes) (selections_from number codes) tap told) _
      (table SELECTIONS (selections_given tap told) (selections_from first codes) (selections_from number codes) refl)
      (copies (copies_from first codes) (copies_from number codes) (latches_from first codes) codes.length)))

  -- The registers.

  bypass : (first number : ℕ) (tap : TapNets) (on tdi : NetId) → AreNamed (bypass_cells first number tap on tdi)
  bypass first number tap on tdi =
      both (selected_cells first number tap on) _ (table SELECTED (selected_given tap on) first number refl) (shift_bit (first + 2) (number + 2) (selected_steering first tap) (Const false) tdi)

  inverse : (first number : ℕ) (user_on : NetId) (user : Option ℕ) → AreNamed (inverse_cells first number user_on user)
  inverse first number user_on None = none
  inverse first number user_on (Some user) = table INVERSE (Net user_on ∷ []) first number refl

  data_register : (first number : ℕ) (tap : TapNets) (on tdi : NetId) (captured : List Feed) → AreNamed (data_cells first number tap on tdi captured)
  data_register first number tap on tdi captured =
      both (selected_cells first number tap on) _ (table SELECTED (selected_given tap on) first number refl) (chain (first + 2) (number + 2) (selected_steering first tap) tdi captured)

  ident_or_none : (first number : ℕ) (tap : TapNets) (on user_on tdi : NetId) (user code : Option ℕ) → AreNamed (option_map_or (ident_cells first number tap on user_on tdi user) code [])
  ident_or_none first number tap on user_on tdi user None = none
  ident_or_none first number tap on user_on tdi user (Some code) =
      both (inverse_cells first number user_on user) _ (inverse first number user_on user)
      (data_register (first + user_size user) (number + user_size user) tap on tdi (captured_feeds first user_on user code))

  logic : (first number : ℕ) (port : TapPort) (f : Fitted) → AreNamed (logic_cells first number port f)
  logic first number port f =
      let C : List CellView = controller_part first port number in
      let CI : List CellView = behind number C (instruction_part first port f) in
      in_turn number (behind number CI (bypass_part first port f)) (ident_part first port f)
      (in_turn number CI (bypass_part first port f)
      (in_turn number C (instruction_part first port f) (table CONTROLLER (tap_given port.tck port.tms port.trst) first number refl)
      (λ n. instruction (first + instruction_from) n (tap_at first port) port.tdi f.codes))
      (λ n. bypass (first + bypass_from f) n (tap_at first port) (instruction_at first port f).bypass_on port.tdi))
      (λ n. ident_or_none (first + ident_from f) n (tap_at first port) (instruction_at first port f).ident_on (instruction_at first port f).user_on port.tdi f.usercode f.idcode)

  -- The boundary register.

  onto : (gates : List Gate) (choice : Choice) (given : List Feed) (first number : ℕ) (into : NetId) → IsTrue (list_all (λ (gate : Gate). is_plain gate.kind) gates)
      → AreNamed (cells_onto gates choice given first number into)
  onto gates choice given first number into plain =
      both (part_cells gates given first number) _ (table gates given first number plain)
      (one (choice_cell first given (number + length gates) into choice) (record { number = number + length gates; name = refl; kind = λ is. cc; connected = refl }))

  output : (kind : BoundaryKind) (first number : ℕ) (scan : ScanNets) (core : Feed) (into next : NetId) → AreNamed (output_cells kind first number scan core into next)
  output Bc1 first number scan core into next = onto BC_1 UPDATES (cell_given scan next core scan.m_out) first number into refl
  output Bc2 first number scan core into next = onto BC_2 UPDATES (cell_given scan next core scan.m_out) first number into refl
  output Bc4 first number scan core into next = onto BC_1 UPDATES (cell_given scan next core scan.m_out) first number into refl
  output Bc7 first number scan core into next = onto BC_1 UPDATES (cell_given scan next core scan.m_out) first number into refl

  control : (kind : BoundaryKind) (first number : ℕ) (scan : ScanNets) (core : Feed) (high : Bool) (into next : NetId) → AreNamed (control_cells kind first number scan core high into next)
  control Bc1 first number scan core high into next = onto BC_1_CONTROL BC_1_LEVEL (control_given scan next core high) first number into refl
  control Bc2 first number scan core high into next = onto BC_2_CONTROL BC_2_LEVEL (control_given scan next core high) first number into refl
  control Bc4 first number scan core high into next = onto BC_1_CONTROL BC_1_LEVEL (control_given scan next core high) first number into refl
  control Bc7 first number scan core high into next = onto BC_1_CONTROL BC_1_LEVEL (control_given scan next core high) first number into refl

  bidir : (first number : ℕ) (scan : ScanNets) (core enable : Feed) (high : Bool) (pin into next : NetId) → AreNamed (bidir_cells first number scan core enable high pin into next)
  bidir first number scan core enable true pin into next = onto BC_7_HIGH UPDATES (bidir_given scan next core enable pin) first number into refl
  bidir first number scan core enable false pin into next = onto BC_7_LOW UPDATES (bidir_given scan next core enable pin) first number into refl

  driver : (number : ℕ) (value level net : NetId) → AreNamed (added_driver number value level net ∷ [])
  driver number value level net = one (added_driver number value level net) (record { number = number; name = refl; kind = λ is. cc; connected = refl })

  site_named : (B : Boundary) (scan : ScanNets) (first number side : ℕ) (r : FitRow) (next : NetId) (at : Site) → AreNamed (site_cells B scan first number side r next at)
  site_named B scan first number side r next site.Observed = shift_bit first number (steering_of scan) (Net (net_at B r)) next
  site_named B scan first number side r next site.Input = onto BC_1 UPDATES (cell_given scan next (Net (net_at B r)) scan.m_in) first number (record { 0 = side }) refl
  site_named B scan first number side r next site.Output = output r.cell first number scan (Net (record { 0 = side })) (net_at B r) next
  site_named B scan first number side r next site.AddedDriver =
      in_turn number (output_cells r.cell first number scan (Net (record { 0 = side })) (record { 0 = side + 1 }) next)
      (λ n. added_driver n (record { 0 = side + 1 }) (level_net B r) (net_at B r) ∷ [])
      (output r.cell first number scan (Net (record { 0 = side })) (record { 0 = side + 1 }) next) (λ n. driver n (record { 0 = side + 1 }) (level_net B r) (net_at B r))
  site_named B scan first number side r next site.Driver = output r.cell first number scan (core_feed B r) (record { 0 = side }) next
  site_named B scan first number side r next site.Inout =
      bidir first number scan (core_feed B r) (enable_of B r) (is_active_high B r) (net_at B r) (record { 0 = side }) next
  site_named B scan first number side r next site.Control = control r.cell first number scan (core_feed B r) r.active_high (record { 0 = side }) next

  rows : (B : Boundary) (scan : ScanNets) (first number : ℕ) (tdi : NetId) (side : ℕ) (list : List FitRow) → AreNamed (rows_cells B scan first number tdi side list)
  rows B scan first number tdi side [] = none
  rows B scan first number tdi side (r ∷ list) =
      in_turn number (rows_cells B scan first number tdi (side + row_sides B.ports r) list)
      (λ n. row_cells B scan (first + nets_of_rows B.ports list) n side r (last_bit B.ports first tdi list))
      (rows B scan first number tdi (side + row_sides B.ports r) list)
      (λ n. site_named B scan (first + nets_of_rows B.ports list) n side r (last_bit B.ports first tdi list) (site_of B.ports r))

  -- All of it.

  tdo : (B : Boundary) (first : ℕ) (port : TapPort) (f : Fitted) (number : ℕ) → AreNamed (tdo_part B first port f number)
  tdo B first port f number =
      let at : ℕ = first + logic_size f + nets_of_rows B.ports B.rows in
      let given : List Feed = tdo_given (tap_at first port) (instruction_at first port f) (bypass_at first f) (ident_at first port f) (boundary_last B first port f) in
      both (part_cells TDO given at number) (tdo_driver at port.tdo (number + 6) ∷ []) (table TDO given at number refl) (tdo_driven at port.tdo (number + 6))

  pub logic_named : (B : Boundary) (first number : ℕ) (port : TapPort) (f : Fitted) → AreNamed (test_logic_cells B first number port f)
  logic_named B first number port f =
      let L : List CellView = logic_cells first number port f in
      in_turn number (behind number L (rows_part B first port f)) (tdo_part B first port f)
      (in_turn number L (rows_part B first port f) (logic first number port f) (λ n. rows B (instruction_at first port f).scan (first + logic_size f) n port.tdi B.first B.rows))
      (λ n. tdo B first port f n)
