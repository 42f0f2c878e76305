-- What the cells of the test logic read.
use Rattle.std.proofs.Common.{◌≡◌, ◌⊎◌, inl, inr, ℕ, zero, suc, ◌+◌, ◌<◌, ◌≤◌, true, false, not, Bool, List, [], ◌∷◌, ◌++◌, length, refl, sym, ap, subst, ◌∙◌, arith, Option, Some, None}
use Rattle.std.specs.Prelude.{slice_get, option_and_then}
use Rattle.std.specs.Option.{option_map_or}
use Rattle.std.proofs.lemmas.Bool.{cases_lt}
use Rattle.std.proofs.lemmas.List.Sums.{sum_by-cons}
use Rattle.list_laws.proofs.Lists.{slice_get-append_left, slice_get-append_right}
use Rattle.list_laws.proofs.Options.{some_same}
use Rattle.cell_library.specs.declared.codes.BoundaryKind.{BoundaryKind}
use Rattle.cell_library.specs.declared.codes.BoundaryKind.TheVariants.{Bc1, Bc2, Bc4, Bc7}
use Rattle.netlist_model.specs.declared.Dir.TheVariants.{Input, Inout}
use Rattle.netlist_model.specs.declared.NetId.{NetId}
use Rattle.netlist_model.specs.declared.Feed.{Feed}
use Rattle.netlist_model.specs.declared.Feed.TheVariants.{Net, Const}
use Rattle.netlist_model.specs.Lists.{CellView, NetlistView, cell_at, cell_count, direction}
use Rattle.gate_parts.specs.Parts.{part_cells}
use Rattle.test_logic.specs.declared.ScanNets.{ScanNets}
use Rattle.surrounded_core.specs.register_gates.declared.tdo.TheConstants.{TDO}
use Rattle.surrounded_core.specs.register_gates.Registers.{user_size, captured_feeds}
use Rattle.surrounded_core.specs.register_gates.Tdo.{ident_feed, tdo_given, tdo_driver}
use Rattle.surrounded_core.proofs.register_gates.ConstantBits.{counted}
use Rattle.surrounded_core.specs.instruction_gates.Register.{pattern_bits, stages_size, opcodes_size, matched_instructions}
use Rattle.surrounded_core.specs.boundary_cells.Cells.{stage_table, cell_given}
use Rattle.surrounded_core.specs.boundary_cells.ThreeState.{bidir_table}
use Rattle.surrounded_core.specs.LevelsRows.{row_table, row_given}
use Rattle.plan_fitting.specs.declared.fitted.FitRow.{FitRow}
use Rattle.plan_fitting.specs.declared.fitted.Fitted.{Fitted}
use Rattle.stitched_netlist.specs.declared.model.Site.{Site}
use Rattle.stitched_netlist.specs.declared.model.Site.TheVariants as site
use Rattle.stitched_netlist.specs.Sites.{Boundary, row_net, site_of, side_count, row_sides}
use Rattle.stitched_netlist.specs.Sides.{core_cell, core_feed, level_net}
use Rattle.stitched_netlist.specs.ModelRows.{row_nets, nets_by, net_at, control_row, enable_of, is_active_high, added_driver, last_bit, nets_of_rows}
use Rattle.stitched_netlist.proofs.Few.{captured_counted}
use Rattle.stitched_netlist.specs.ModelLogic.{instruction_from, bypass_from, ident_from, code_size, tap_at, instruction_at, bypass_at, ident_at, controller_part, instruction_part, bypass_part, ident_part}
use Rattle.stitched_netlist.specs.Stitched.{boundary_at, first_net, boundary_last, tdo_part}
use Rattle.stitched_netlist.specs.PlacesLaws.{port_of, scan_of, instruction_number, bypass_number, ident_number, tdo_number, register_net, rows_before, row_first, row_side, row_number, row_next, handed_at, boundary_row, drivers_at}
use Rattle.stitched_netlist.specs.RowsLaws.{HasGate, HasControl, IsOperand, StandsAt, at_observed, at_input, at_output, at_added, at_driver, at_inout, at_control}
use Rattle.stitched_netlist.specs.CellsLaws.{IsAt, gates_of_row, driver_number, drivers_of_row, CellOf, of_core, of_controller, of_instruction, of_bypass, of_ident, of_row, of_driver, of_tdo}
use Rattle.stitched_netlist.specs.Gates.{EachCell, FeedsAre, IsLogicCell}
use Rattle.stitched_netlist.specs.CellsLogic.{LogicNets}
use Rattle.stitched_netlist.proofs.Tables.{each_at, feed_cons}
use Rattle.stitched_netlist.proofs.Registers.{last_is}
use Rattle.stitched_netlist.proofs.CellsParts.{logic_cells_are, tdo_logic}
use Rattle.stitched_netlist.proofs.RowGates.{row_logic}
use Rattle.stitched_netlist.proofs.Sums.{drop_whole}
use Rattle.stitched_netlist.proofs.Sites.{operand_at}
use Rattle.stitched_netlist.proofs.FormedContext.{FitsWell}
use Rattle.stitched_netlist.proofs.Ranges.{tdo_net, side_range, row_range}
use Rattle.stitched_netlist.proofs.FormedPlaces.{net_at_is}
use Rattle.stitched_netlist.proofs.Operands.{OperandOf, added_read, tap_read, pin_read, level_read, feed_read, core_reads}
use Rattle.std.proofs.lemmas.Option.{slice_get_within}

-- Nets of the test logic.

logic_net : (N : NetlistView) (f : Fitted) (net : ℕ) → first_net N f ≤ net → net < register_net N f → OperandOf N f net
logic_net N f net low high = added_read (omega arith) (omega arith)

row_net_read : (N : NetlistView) (f : Fitted) (net : ℕ) → register_net N f ≤ net → net < tdo_net N f → OperandOf N f net
row_net_read N f net low high = added_read (omega arith) (omega arith)

tdo_net_read : (N : NetlistView) (f : Fitted) (j : ℕ) → j < 6 → OperandOf N f (tdo_net N f + j)
tdo_net_read N f j low = added_read (omega arith) (omega arith)

pub logic_nets : (N : NetlistView) (f : Fitted) → LogicNets (first_net N f) (port_of N) f (OperandOf N f)
logic_nets N f = record {
  tck = tap_read (inl refl);
  tms = tap_read (inr (inl refl));
  tdi = tap_read (inr (inr (inl refl)));
  trst = tap_read (inr (inr (inr refl)));
  own = λ net low high. logic_net N f net low high;
}

-- what steers the boundary register
record ScanAre (P : ℕ → Type 0) (scan : ScanNets) : Type 0 where
  tck : P scan.tck.0
  trst : P scan.trst.0
  capture : P scan.capture.0
  shift : P scan.shift.0
  update : P scan.update.0
  extest : P scan.extest.0
  m_out : P scan.m_out.0
  m_in : P scan.m_in.0
  hiz : P scan.hiz.0

-- a net that tells what is selected
selected_net : (N : NetlistView) (f : Fitted) (k : ℕ) → k < 9 → OperandOf N f (first_net N f + instruction_from + stages_size f.codes + opcodes_size f.codes matched_instructions + k)
selected_net N f k low = logic_net N f _ (omega arith) (omega arith)

scan_are : (N : NetlistView) (f : Fitted) → ScanAre (OperandOf N f) (scan_of N f)
scan_are N f = record {
  tck = tap_read (inl refl);
  trst = tap_read (inr (inr (inr refl)));
  capture = selected_net N f 6 (omega arith);
  shift = selected_net N f 7 (omega arith);
  update = selected_net N f 8 (omega arith);
  extest = selected_net N f 3 (omega arith);
  m_out = selected_net N f 4 (omega arith);
  m_in = selected_net N f 4 (omega arith);
  hiz = selected_net N f 5 (omega arith);
}

-- Rows.

some_gates : (cell : BoundaryKind) → 0 < length (stage_table cell)
some_gates Bc1 = omega arith
some_gates Bc2 = omega arith
some_gates Bc4 = omega arith
some_gates Bc7 = omega arith

-- each row has a net
some_nets : (at : Site) (cell : BoundaryKind) → 0 < nets_by at cell
some_nets site.Observed cell = omega arith
some_nets site.Input cell = omega arith
some_nets site.Inout cell = omega arith
some_nets site.Control Bc1 = omega arith
some_nets site.Control Bc2 = omega arith
some_nets site.Control Bc4 = omega arith
some_nets site.Control Bc7 = omega arith
some_nets site.Output cell = some_gates cell
some_nets site.AddedDriver cell = some_gates cell
some_nets site.Driver cell = some_gates cell

-- the bit nearest TDO of the rows nearer TDI, or TDI
last_read : (N : NetlistView) (f : Fitted) (rows : List FitRow) → nets_of_rows N.ports rows ≤ nets_of_rows N.ports f.rows → OperandOf N f (last_bit N.ports (register_net N f) (port_of N).tdi rows).0
last_read N f [] low = tap_read (inr (inr (inl refl)))
last_read N f (row ∷ rows) low =
    let whole = sum_by-cons (row_nets N.ports) row rows in
    let some = some_nets (site_of N.ports row) row.cell in
    row_net_read N f (register_net N f + nets_of_rows N.ports rows) (omega arith) (omega arith)

next_read : (N : NetlistView) (f : Fitted) (k : ℕ) → OperandOf N f (row_next N f k).0
next_read N f k = last_read N f (rows_before f k) (drop_whole (row_nets N.ports) f.rows (suc k))

cell_given_read : (N : NetlistView) (f : Fitted) (k : ℕ) (feed : Feed) (mode : NetId) (rest : List Feed) → FeedsAre (OperandOf N f) (feed ∷ []) → OperandOf N f mode.0 → FeedsAre (OperandOf N f) rest
    → FeedsAre (OperandOf N f) (cell_given (scan_of N f) (row_next N f k) feed mode ++ rest)
cell_given_read N f k feed mode rest is m more =
    let s = scan_are N f in (
      s.tck,
      (
        s.trst,
        (
          s.capture,
          (
            s.shift,
            (
              s.update,
              (
                next_read N f k,
                feed_cons (OperandOf N f) feed (Net (scan_of N f).extest ∷ Net mode ∷ rest) is (s.extest, (m, more)),
              ),
            ),
          ),
        ),
      ),
    )

pin_at_read : (N : NetlistView) (f : Fitted) → FitsWell N f → (row : FitRow) (pin : NetId) → row_net N.ports row ≡ Some pin → (direction N.ports pin.0 ≡ Some Input) ⊎ (direction N.ports pin.0 ≡ Some Inout)
    → OperandOf N f (net_at (boundary_at N f) row).0
pin_at_read N f well row pin on (inl side) =
    subst (λ (n : NetId). OperandOf N f n.0) (sym (net_at_is N f row pin on)) (pin_read (inl side) (well.inside pin.0 Input side))
pin_at_read N f well row pin on (inr side) =
    subst (λ (n : NetId). OperandOf N f n.0) (sym (net_at_is N f row pin on)) (pin_read (inr side) (well.inside pin.0 Inout side))

gate_datum : (N : NetlistView) (net : ℕ) (core : Option Feed) (operand : Feed) → HasGate N net core operand → (feed : Feed) × (core ≡ Some feed) × IsOperand N feed
gate_datum N net core operand g = (g.datum, g.core_is, operand_at N g.number g.cell 0 g.datum g.drives.live (ap (λ (xs : List Feed). slice_get xs 0) g.feeds))

gate_control : (N : NetlistView) (net : ℕ) (core : Option Feed) (operand : Feed) → HasGate N net core operand → IsOperand N operand
gate_control N net core operand g = operand_at N g.number g.cell 1 operand g.drives.live (ap (λ (xs : List Feed). slice_get xs 1) g.feeds)

core_feed_read : (N : NetlistView) (f : Fitted) (row : FitRow) (feed : Feed) → row.core ≡ Some feed → IsOperand N feed → FeedsAre (OperandOf N f) (core_feed (boundary_at N f) row ∷ [])
core_feed_read N f row feed e is = feed_read N f row.core feed e is

-- the core's control of an inout
enable_read : (N : NetlistView) (f : Fitted) (row : FitRow) (operand : Feed) → HasControl N f row operand → IsOperand N operand → FeedsAre (OperandOf N f) (enable_of (boundary_at N f) row ∷ [])
enable_read N f row operand c is =
    let found : control_row (boundary_at N f) row ≡ Some c.control = ap (option_and_then (slice_get f.rows)) c.names ∙ c.there in
    let same : enable_of (boundary_at N f) row ≡ core_feed (boundary_at N f) c.control = ap (λ (o : Option FitRow). option_map_or (core_feed (boundary_at N f)) o (Const false)) found in
    subst (λ (x : Feed). FeedsAre (OperandOf N f) (x ∷ [])) (sym same) (core_feed_read N f c.control operand c.core is)

-- a net between the core and a row
between_read : (N : NetlistView) (f : Fitted) (k : ℕ) (row : FitRow) (e : ℕ) → slice_get f.rows k ≡ Some row → e < row_sides N.ports row → OperandOf N f (row_side N f k + e)
between_read N f k row e there low = let r = side_range N f k row e there low in let from = r.low in let to = r.high in added_read (omega arith) (omega arith)

first_read : (N : NetlistView) (f : Fitted) (k : ℕ) (row : FitRow) → slice_get f.rows k ≡ Some row → 0 < row_sides N.ports row → OperandOf N f (row_side N f k)
first_read N f k row there low = subst (λ (n : ℕ). OperandOf N f n) (same (row_side N f k)) (between_read N f k row 0 there low)
  where
    same : (n : ℕ) → n + 0 ≡ n
    same n = omega arith

abbrev given_at : NetlistView → Fitted → ℕ → FitRow → Site → List Feed
given_at N f k row at = row_given (handed_at (boundary_at N f) (row_side N f k) row at) (scan_of N f) (row_next N f k)

row_reads : (N : NetlistView) (f : Fitted) → FitsWell N f → (k : ℕ) (row : FitRow) → slice_get f.rows k ≡ Some row → StandsAt N f row
    → (at : Site) × (site_of N.ports row ≡ at) × FeedsAre (OperandOf N f) (given_at N f k row at)
row_reads N f well k row there (at_observed pin on side here) =
    let s = scan_are N f in
    (site.Observed, here, (s.tck, (s.trst, (s.capture, (s.shift, (pin_at_read N f well row pin on (inl side), (next_read N f k, tt)))))))
row_reads N f well k row there (at_input pin on side here) =
    let s = scan_are N f in
    (site.Input, here, cell_given_read N f k (Net (net_at (boundary_at N f) row)) (scan_of N f).m_in [] (pin_at_read N f well row pin on (inl side), tt) s.m_in tt)
row_reads N f well k row there (at_output pin on side here core two) =
    let s = scan_are N f in
    let count : row_sides N.ports row ≡ 1 = ap side_count here in
    (site.Output, here, cell_given_read N f k (Net (record { 0 = row_side N f k })) (scan_of N f).m_out [] (first_read N f k row there (omega arith), tt) s.m_out tt)
row_reads N f well k row there (at_added pin on side here core two control) =
    let s = scan_are N f in
    let count : row_sides N.ports row ≡ 2 = ap side_count here in
    (site.AddedDriver, here, cell_given_read N f k (Net (record { 0 = row_side N f k })) (scan_of N f).m_out [] (first_read N f k row there (omega arith), tt) s.m_out tt)
row_reads N f well k row there (at_driver pin on side here operand gate control) =
    let s = scan_are N f in
    let d = gate_datum N pin.0 row.core operand gate in
    (site.Driver, here, cell_given_read N f k (core_feed (boundary_at N f) row) (scan_of N f).m_out [] (core_feed_read N f row d.0 d.1 d.2) s.m_out tt)
row_reads N f well k row there (at_inout pin on side here operand gate control) =
    let s = scan_are N f in
    let d = gate_datum N pin.0 row.core operand gate in (
      site.Inout,
      here,
      cell_given_read N f k (core_feed (boundary_at N f) row) (scan_of N f).m_out (Net (net_at (boundary_at N f) row) ∷ enable_of (boundary_at N f) row ∷ [])
          (core_feed_read N f row d.0 d.1 d.2) s.m_out
          (pin_at_read N f well row pin on (inr side), enable_read N f row operand control (gate_control N pin.0 row.core operand gate)),
    )
row_reads N f well k row there (at_control none here operand core is) =
    let s = scan_are N f in (
      site.Control,
      here,
      cell_given_read N f k (core_feed (boundary_at N f) row) (scan_of N f).m_out (Const (not row.active_high) ∷ Net (scan_of N f).hiz ∷ [])
          (core_feed_read N f row operand core is) s.m_out (s.hiz, tt),
    )

-- a table has as many gates as the row has nets
table_length : (B : Boundary) (side : ℕ) (row : FitRow) (at : Site) → length (row_table (handed_at B side row at)) ≡ nets_by at row.cell
table_length B side row site.Observed = refl
table_length B side row site.Input = refl
table_length B side row site.Output = refl
table_length B side row site.AddedDriver = refl
table_length B side row site.Driver = refl
table_length B side row site.Inout = by (is_active_high B row)
  where
    by : (high : Bool) → length (bidir_table high) ≡ 7
    by true = refl
    by false = refl
table_length B side row site.Control = refl

pub row_cells_read : (N : NetlistView) (f : Fitted) → FitsWell N f → (k : ℕ) (row : FitRow) → slice_get f.rows k ≡ Some row
    → EachCell (IsLogicCell (port_of N).tck (port_of N).trst (OperandOf N f)) (gates_of_row N f k row)
row_cells_read N f well k row there =
    let r = row_reads N f well k row there (well.stand k row there) in
    let given : FeedsAre (OperandOf N f) (given_at N f k row (site_of N.ports row)) = subst (λ (s : Site). FeedsAre (OperandOf N f) (given_at N f k row s)) (sym r.1) r.2 in
    let many = table_length (boundary_at N f) (row_side N f k) row (site_of N.ports row) in
    row_logic (boundary_row (boundary_at N f) (row_side N f k) row) (row_first N f k) (row_number N f k) (scan_of N f) (row_next N f k) (OperandOf N f) given
    (λ j low. let s = row_range N f k row j there (omega arith) in row_net_read N f (row_first N f k + j) s.low s.high)

-- The driver that is added to an output.

pub record IsAdded (N : NetlistView) (f : Fitted) (k : ℕ) (row : FitRow) (cell : CellView) : Type 0 where
  pub here : site_of N.ports row ≡ site.AddedDriver
  pub is : added_driver (driver_number N f k row) (record { 0 = row_side N f k + 1 }) (level_net (boundary_at N f) row) (net_at (boundary_at N f) row) ≡ cell

added_by : (B : Boundary) (number side : ℕ) (row : FitRow) (at : Site) (j : ℕ) (cell : CellView) → slice_get (drivers_at B number side row at) j ≡ Some cell
    → (at ≡ site.AddedDriver) × (added_driver number (record { 0 = side + 1 }) (level_net B row) (net_at B row) ≡ cell)
added_by B number side row site.Observed j cell e = absurd (cc)
added_by B number side row site.Input j cell e = absurd (cc)
added_by B number side row site.Output j cell e = absurd (cc)
added_by B number side row site.AddedDriver zero cell e =
    (refl, some_same (added_driver number (record { 0 = side + 1 }) (level_net B row) (net_at B row)) cell (slice_get (drivers_at B number side row site.AddedDriver) 0) refl e)
added_by B number side row site.AddedDriver (suc j) cell e = absurd (cc)
added_by B number side row site.Driver j cell e = absurd (cc)
added_by B number side row site.Inout j cell e = absurd (cc)
added_by B number side row site.Control j cell e = absurd (cc)

pub is_added : (N : NetlistView) (f : Fitted) (k : ℕ) (row : FitRow) (i : ℕ) (cell : CellView) → IsAt i (driver_number N f k row) (drivers_of_row N f k row) cell → IsAdded N f k row cell
is_added N f k row i cell h =
    let a = added_by (boundary_at N f) (driver_number N f k row) (row_side N f k) row (site_of N.ports row) h.place cell h.at in record { here = a.0; is = a.1 }

-- its row names a control cell
added_level : (N : NetlistView) (f : Fitted) (row : FitRow) → site_of N.ports row ≡ site.AddedDriver → StandsAt N f row → OperandOf N f (level_net (boundary_at N f) row).0
added_level N f row is (at_observed pin on side here) = absurd (let no : site.Observed ≡ site.AddedDriver = sym here ∙ is in cc)
added_level N f row is (at_input pin on side here) = absurd (let no : site.Input ≡ site.AddedDriver = sym here ∙ is in cc)
added_level N f row is (at_output pin on side here core two) = absurd (let no : site.Output ≡ site.AddedDriver = sym here ∙ is in cc)
added_level N f row is (at_added pin on side here core two control) = level_read N f row (Const true) control
added_level N f row is (at_driver pin on side here operand gate control) = level_read N f row operand control
added_level N f row is (at_inout pin on side here operand gate control) = level_read N f row operand control
added_level N f row is (at_control none here operand core read) = absurd (let no : site.Control ≡ site.AddedDriver = sym here ∙ is in cc)

added_reads : (N : NetlistView) (f : Fitted) → FitsWell N f → (k : ℕ) (row : FitRow) → slice_get f.rows k ≡ Some row → (cell : CellView) → IsAdded N f k row cell → FeedsAre (OperandOf N f) cell.feeds
added_reads N f well k row there cell a =
    let count : row_sides N.ports row ≡ 2 = ap side_count a.here in
    subst (λ (c : CellView). FeedsAre (OperandOf N f) c.feeds) a.is
    (between_read N f k row 1 there (omega arith), (added_level N f row a.here (well.stand k row there), tt))

-- TDO.

ident_read : (N : NetlistView) (f : Fitted) → FeedsAre (OperandOf N f) (ident_feed (ident_at (first_net N f) (port_of N) f) ∷ [])
ident_read N f = by f.idcode (λ net low high. logic_net N f net (omega arith) (omega arith))
  where
    by : (code : Option ℕ) → ((net : ℕ) → first_net N f + ident_from f ≤ net → net < first_net N f + (ident_from f + code_size f.usercode code) → OperandOf N f net)
        → FeedsAre (OperandOf N f) (ident_feed (ident_at (first_net N f) (port_of N) (record f { idcode = code })) ∷ [])
    by None own = tt
    by (Some code) own =
        let start : ℕ = first_net N f + ident_from f in
        let captured : List Feed = captured_feeds start (instruction_at (first_net N f) (port_of N) f).user_on f.usercode code in
        let many : length captured ≡ 32 = captured_counted start (instruction_at (first_net N f) (port_of N) f).user_on f.usercode code in (
          last_is (OperandOf N f) (start + user_size f.usercode + 2) (port_of N).tdi captured (tap_read (inr (inr (inl refl))))
              (λ net low high. own net (omega arith) (omega arith)),
          tt,
        )

tdo_given_read : (N : NetlistView) (f : Fitted)
    → FeedsAre (OperandOf N f) (tdo_given (tap_at (first_net N f) (port_of N)) (instruction_at (first_net N f) (port_of N) f) (bypass_at (first_net N f) f)
    (ident_at (first_net N f) (port_of N) f) (boundary_last (boundary_at N f) (first_net N f) (port_of N) f))
tdo_given_read N f =
    let many : length (pattern_bits f.codes f.codes.capture) ≡ f.codes.length = counted f.codes.length f.codes.capture.value in
    let last : OperandOf N f (instruction_at (first_net N f) (port_of N) f).last.0 =
    last_is (OperandOf N f) (first_net N f + instruction_from + 1) (port_of N).tdi (pattern_bits f.codes f.codes.capture) (tap_read (inr (inr (inl refl))))
    (λ net low high. logic_net N f net (omega arith) (omega arith)) in
    let boundary : OperandOf N f (boundary_last (boundary_at N f) (first_net N f) (port_of N) f).0 = last_read N f f.rows (omega arith) in (
      tap_read (inl refl),
      (
        tap_read (inr (inr (inr refl))),
        (
          logic_net N f (first_net N f + 4) (omega arith) (omega arith),
          (
            logic_net N f (first_net N f + 11) (omega arith) (omega arith),
            (
              last,
              (
                selected_net N f 1 (omega arith),
                (
                  selected_net N f 2 (omega arith),
                  (
                    logic_net N f (first_net N f + bypass_from f + 2) (omega arith) (omega arith),
                    feed_cons (OperandOf N f) (ident_feed (ident_at (first_net N f) (port_of N) f)) (Net (boundary_last (boundary_at N f) (first_net N f) (port_of N) f) ∷ []) (ident_read N f) (boundary, tt),
                  ),
                ),
              ),
            ),
          ),
        ),
      ),
    )

abbrev tdo_feeds : NetlistView → Fitted → List Feed
tdo_feeds N f =
    tdo_given (tap_at (first_net N f) (port_of N)) (instruction_at (first_net N f) (port_of N) f) (bypass_at (first_net N f) f) (ident_at (first_net N f) (port_of N) f)
    (boundary_last (boundary_at N f) (first_net N f) (port_of N) f)

-- a cell of TDO's part is one of its gates, or its driver
pub tdo_cell : (N : NetlistView) (f : Fitted) (i : ℕ) (cell : CellView) → IsAt i (tdo_number N f) (tdo_part (boundary_at N f) (first_net N f) (port_of N) f (tdo_number N f)) cell
    → IsLogicCell (port_of N).tck (port_of N).trst (OperandOf N f) cell ⊎ (tdo_driver (tdo_net N f) (port_of N).tdo (tdo_number N f + 6) ≡ cell)
tdo_cell N f i cell h =
    let cells = part_cells TDO (tdo_feeds N f) (tdo_net N f) (tdo_number N f) in
    let last : CellView = tdo_driver (tdo_net N f) (port_of N).tdo (tdo_number N f + 6) in
    let six : length cells ≡ 6 = refl in
    let low : h.place < 7 = slice_get_within (cells ++ last ∷ []) h.place cell h.at in
    elim (cases_lt h.place 6) [
      | inl own ↦ inl (each_at (IsLogicCell (port_of N).tck (port_of N).trst (OperandOf N f)) cells h.place cell
          (tdo_logic (tdo_net N f) (tdo_number N f) (tap_at (first_net N f) (port_of N)) (instruction_at (first_net N f) (port_of N) f) (bypass_at (first_net N f) f)
          (ident_at (first_net N f) (port_of N) f) (boundary_last (boundary_at N f) (first_net N f) (port_of N) f) (OperandOf N f) (tdo_given_read N f) (λ j below. tdo_net_read N f j below))
          (sym (slice_get-append_left cells (last ∷ []) h.place (omega arith)) ∙ h.at))
      | inr past ↦
          (let there : slice_get (cells ++ last ∷ []) h.place ≡ Some last = slice_get-append_right cells (last ∷ []) h.place 0 (omega arith) in
          inr (some_same last cell (slice_get (cells ++ last ∷ []) h.place) there h.at))
    ]

tdo_driver_reads : (N : NetlistView) (f : Fitted) → FeedsAre (OperandOf N f) (tdo_driver (tdo_net N f) (port_of N).tdo (tdo_number N f + 6)).feeds
tdo_driver_reads N f = (subst (λ (n : ℕ). OperandOf N f n) (same (tdo_net N f)) (tdo_net_read N f 0 (omega arith)), (tdo_net_read N f 1 (omega arith), tt))
  where
    same : (n : ℕ) → n + 0 ≡ n
    same n = omega arith

-- All cells.

-- own: a cell of the core, a gate or flip-flop of the test logic, or one of its three-state drivers
pub data CellKind (N : NetlistView) (f : Fitted) (i : ℕ) (cell : CellView) : Type 0 where
  a_core : (old : CellView) → cell_at N i ≡ Some old → core_cell (boundary_at N f) old ≡ cell → CellKind N f i cell
  a_gate : IsLogicCell (port_of N).tck (port_of N).trst (OperandOf N f) cell → CellKind N f i cell
  an_added : (k : ℕ) (row : FitRow) → slice_get f.rows k ≡ Some row → IsAdded N f k row cell → CellKind N f i cell
  a_tdo : tdo_driver (tdo_net N f) (port_of N).tdo (tdo_number N f + 6) ≡ cell → CellKind N f i cell

abbrev IsGate : NetlistView → Fitted → CellView → Type 0
IsGate N f cell = IsLogicCell (port_of N).tck (port_of N).trst (OperandOf N f) cell

pub kind_of : (N : NetlistView) (f : Fitted) → FitsWell N f → (i : ℕ) (cell : CellView) → CellOf N f i cell → CellKind N f i cell
kind_of N f well i cell (of_core old live is) = a_core old live is
kind_of N f well i cell (of_controller h) =
    a_gate (each_at (IsGate N f) (controller_part (first_net N f) (port_of N) (cell_count N)) h.place cell
    (logic_cells_are (first_net N f) (port_of N) f (OperandOf N f) (logic_nets N f) (cell_count N)).controller h.at)
kind_of N f well i cell (of_instruction h) =
    a_gate (each_at (IsGate N f) (instruction_part (first_net N f) (port_of N) f (instruction_number N f)) h.place cell
    (logic_cells_are (first_net N f) (port_of N) f (OperandOf N f) (logic_nets N f) (instruction_number N f)).instruction h.at)
kind_of N f well i cell (of_bypass h) =
    a_gate (each_at (IsGate N f) (bypass_part (first_net N f) (port_of N) f (bypass_number N f)) h.place cell
    (logic_cells_are (first_net N f) (port_of N) f (OperandOf N f) (logic_nets N f) (bypass_number N f)).bypass h.at)
kind_of N f well i cell (of_ident h) =
    a_gate (each_at (IsGate N f) (ident_part (first_net N f) (port_of N) f (ident_number N f)) h.place cell
    (logic_cells_are (first_net N f) (port_of N) f (OperandOf N f) (logic_nets N f) (ident_number N f)).ident h.at)
kind_of N f well i cell (of_row k row there h) = a_gate (each_at (IsGate N f) (gates_of_row N f k row) h.place cell (row_cells_read N f well k row there) h.at)
kind_of N f well i cell (of_driver k row there h) = an_added k row there (is_added N f k row i cell h)
kind_of N f well i cell (of_tdo h) = elim (tdo_cell N f i cell h) [
  | inl gate ↦ a_gate gate
  | inr driver ↦ a_tdo driver
]

pub reads_of : (N : NetlistView) (f : Fitted) → FitsWell N f → (i : ℕ) (cell : CellView) → CellKind N f i cell → FeedsAre (OperandOf N f) cell.feeds
reads_of N f well i cell (a_core old live is) = subst (λ (c : CellView). FeedsAre (OperandOf N f) c.feeds) is (core_reads N f well i old live)
reads_of N f well i cell (a_gate gate) = gate.reads
reads_of N f well i cell (an_added k row there a) = added_reads N f well k row there cell a
reads_of N f well i cell (a_tdo is) = subst (λ (c : CellView). FeedsAre (OperandOf N f) c.feeds) is (tdo_driver_reads N f)
