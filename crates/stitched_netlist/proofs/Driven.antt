-- Each net that is added has a driver, and so has each output and each inout.
use Rattle.std.proofs.Common.{◌≡◌, ◌⊎◌, inl, inr, ℕ, zero, suc, ◌+◌, ◌-◌, ◌<◌, ◌≤◌, true, [], ◌∷◌, length, refl, sym, ap, subst, ◌∙◌, arith, Option, Some, None}
use Rattle.std.specs.Prelude.{slice_get}
use Rattle.std.specs.Option.{option_map}
use Rattle.std.proofs.lemmas.Bool.{cases_lt}
use Rattle.list_laws.proofs.Lists.{slice_get_there, slice_get-append_left, slice_get-append_right}
use Rattle.netlist_model.specs.declared.Dir.TheVariants.{Input, Output, Inout}
use Rattle.netlist_model.specs.declared.NetId.{NetId}
use Rattle.netlist_model.specs.Lists.{CellView, NetlistView, cell_count, direction}
use Rattle.netlist_model.specs.Formed.{IsDriven}
use Rattle.netlist_model.specs.Nested.{renamed_net}
use Rattle.gate_parts.specs.Parts.{part_cells}
use Rattle.surrounded_core.specs.register_gates.declared.tdo.TheConstants.{TDO}
use Rattle.surrounded_core.specs.register_gates.Tdo.{tdo_given, tdo_driver}
use Rattle.surrounded_core.specs.instruction_gates.Register.{instruction_size}
use Rattle.plan_fitting.specs.declared.fitted.FitRow.{FitRow}
use Rattle.plan_fitting.specs.declared.fitted.Fitted.{Fitted}
use Rattle.stitched_netlist.specs.declared.model.TapNames.{TapNames}
use Rattle.stitched_netlist.specs.declared.model.Site.{Site}
use Rattle.stitched_netlist.specs.declared.model.Site.TheVariants as site
use Rattle.stitched_netlist.specs.Sites.{row_net, site_of, side_count, row_sides}
use Rattle.stitched_netlist.specs.Sides.{is_moved, core_side, core_cell}
use Rattle.stitched_netlist.specs.ModelRows.{row_nets, net_at}
use Rattle.stitched_netlist.specs.ModelLogic.{instruction_from, bypass_from, ident_from, code_size, logic_size, tap_at, instruction_at, bypass_at, ident_at, controller_part, instruction_part, bypass_part, ident_part}
use Rattle.stitched_netlist.specs.Stitched.{boundary_at, first_net, boundary_last, tdo_part, stitched}
use Rattle.stitched_netlist.specs.PlacesLaws.{port_of, instruction_number, bypass_number, ident_number, tdo_number, register_net, row_first, row_side, row_number}
use Rattle.stitched_netlist.specs.RowsLaws.{StandsAt, at_observed, at_input, at_output, at_added, at_driver, at_inout, at_control, IsStraightNet}
use Rattle.stitched_netlist.specs.CellsLaws.{gates_of_row, driver_number, drivers_of_row, CellOf, of_core, of_controller, of_instruction, of_bypass, of_ident, of_row, of_driver, of_tdo}
use Rattle.stitched_netlist.specs.Sizes.{choice_count, driver_count}
use Rattle.stitched_netlist.specs.CellsLogic.{into_at}
use Rattle.stitched_netlist.proofs.CellsLaws.{stands_by}
use Rattle.stitched_netlist.proofs.Sizes.{logic_lengths, row_lengths}
use Rattle.stitched_netlist.proofs.Tables.{turn_at}
use Rattle.stitched_netlist.proofs.CellsParts.{logic_turns, tdo_turn}
use Rattle.stitched_netlist.proofs.RowGates.{rows_drive}
use Rattle.stitched_netlist.proofs.FormedContext.{FitsWell, net_number, straight_stays, stays_at, goes_at}
use Rattle.stitched_netlist.proofs.Ranges.{tdo_net, net_count, is_side, is_row_net}
use Rattle.stitched_netlist.proofs.FormedPlaces.{net_at_is}

abbrev wrap : ℕ → Option NetId
wrap n = Some (record { 0 = n })

driven_by : (N : NetlistView) (names : TapNames) (f : Fitted) → FitsWell N f → (i net : ℕ) (cell : CellView) → CellOf N f i cell → cell.output ≡ Some (record { 0 = net })
    → IsDriven (stitched N names f) net
driven_by N names f well i net cell of e = record { number = i; cell = cell; drives = record { live = stands_by N names f well.dense i cell of; output = e } }

moved_driven : (N : NetlistView) (names : TapNames) (f : Fitted) (a b : ℕ) → a ≡ b → IsDriven (stitched N names f) a → IsDriven (stitched N names f) b
moved_driven N names f a b e d = subst (λ (n : ℕ). IsDriven (stitched N names f) n) e d

-- The controller and the registers.

controller_driven : (N : NetlistView) (names : TapNames) (f : Fitted) → FitsWell N f → (j : ℕ) → j < instruction_from → IsDriven (stitched N names f) (first_net N f + j)
controller_driven N names f well j low =
    let cells = controller_part (first_net N f) (port_of N) (cell_count N) in
    let many = (logic_lengths (first_net N f) (port_of N) f (cell_count N)).controller in
    let there = slice_get_there cells j (omega arith) in
    driven_by N names f well (cell_count N + j) (first_net N f + j) there.0 (of_controller (record { place = j; is = refl; at = there.1 }))
    (turn_at (first_net N f) cells j there.0 (logic_turns (first_net N f) (port_of N) f (cell_count N)).controller there.1)

instruction_driven : (N : NetlistView) (names : TapNames) (f : Fitted) → FitsWell N f → (j : ℕ) → j < instruction_size f.codes → IsDriven (stitched N names f) (first_net N f + instruction_from + j)
instruction_driven N names f well j low =
    let cells = instruction_part (first_net N f) (port_of N) f (instruction_number N f) in
    let many = (logic_lengths (first_net N f) (port_of N) f (instruction_number N f)).instruction in
    let there = slice_get_there cells j (omega arith) in
    driven_by N names f well (instruction_number N f + j) (first_net N f + instruction_from + j) there.0 (of_instruction (record { place = j; is = refl; at = there.1 }))
    (turn_at (first_net N f + instruction_from) cells j there.0 (logic_turns (first_net N f) (port_of N) f (instruction_number N f)).instruction there.1)

bypass_driven : (N : NetlistView) (names : TapNames) (f : Fitted) → FitsWell N f → (j : ℕ) → j < 5 → IsDriven (stitched N names f) (first_net N f + bypass_from f + j)
bypass_driven N names f well j low =
    let cells = bypass_part (first_net N f) (port_of N) f (bypass_number N f) in
    let many = (logic_lengths (first_net N f) (port_of N) f (bypass_number N f)).bypass in
    let there = slice_get_there cells j (omega arith) in
    driven_by N names f well (bypass_number N f + j) (first_net N f + bypass_from f + j) there.0 (of_bypass (record { place = j; is = refl; at = there.1 }))
    (turn_at (first_net N f + bypass_from f) cells j there.0 (logic_turns (first_net N f) (port_of N) f (bypass_number N f)).bypass there.1)

ident_driven : (N : NetlistView) (names : TapNames) (f : Fitted) → FitsWell N f → (j : ℕ) → j < code_size f.usercode f.idcode → IsDriven (stitched N names f) (first_net N f + ident_from f + j)
ident_driven N names f well j low =
    let cells = ident_part (first_net N f) (port_of N) f (ident_number N f) in
    let many = (logic_lengths (first_net N f) (port_of N) f (ident_number N f)).ident in
    let there = slice_get_there cells j (omega arith) in
    driven_by N names f well (ident_number N f + j) (first_net N f + ident_from f + j) there.0 (of_ident (record { place = j; is = refl; at = there.1 }))
    (turn_at (first_net N f + ident_from f) cells j there.0 (logic_turns (first_net N f) (port_of N) f (ident_number N f)).ident there.1)

logic_driven : (N : NetlistView) (names : TapNames) (f : Fitted) → FitsWell N f → (j : ℕ) → j < logic_size f → IsDriven (stitched N names f) (first_net N f + j)
logic_driven N names f well j low = elim (cases_lt j instruction_from) [
  | inl a ↦ controller_driven N names f well j a
  | inr a ↦ elim (cases_lt j (bypass_from f)) [
    | inl b ↦ moved_driven N names f (first_net N f + instruction_from + (j - instruction_from)) (first_net N f + j) (omega arith) (instruction_driven N names f well (j - instruction_from) (omega arith))
    | inr b ↦ elim (cases_lt j (ident_from f)) [
      | inl c ↦ moved_driven N names f (first_net N f + bypass_from f + (j - bypass_from f)) (first_net N f + j) (omega arith) (bypass_driven N names f well (j - bypass_from f) (omega arith))
      | inr c ↦ moved_driven N names f (first_net N f + ident_from f + (j - ident_from f)) (first_net N f + j) (omega arith) (ident_driven N names f well (j - ident_from f) (omega arith))
    ]
  ]
]

-- Rows and TDO.

row_driven : (N : NetlistView) (names : TapNames) (f : Fitted) → FitsWell N f → (k : ℕ) (row : FitRow) (j : ℕ) → slice_get f.rows k ≡ Some row → j < row_nets N.ports row
    → IsDriven (stitched N names f) (row_first N f k + j)
row_driven N names f well k row j at low =
    let cells = gates_of_row N f k row in
    let many = (row_lengths N f k row).gates in
    let there = slice_get_there cells j (omega arith) in
    driven_by N names f well (row_number N f k + j) (row_first N f k + j) there.0 (of_row k row at (record { place = j; is = refl; at = there.1 }))
    ((rows_drive N f k row).own j there.0 there.1 low)

tdo_cell_at : (N : NetlistView) (f : Fitted) (j : ℕ) → j < 6 → (cell : CellView)
    × (slice_get (tdo_part (boundary_at N f) (first_net N f) (port_of N) f (tdo_number N f)) j ≡ Some cell) × (cell.output ≡ Some (record { 0 = tdo_net N f + j }))
tdo_cell_at N f j low =
    let first : ℕ = first_net N f in
    let port = port_of N in
    let given = tdo_given (tap_at first port) (instruction_at first port f) (bypass_at first f) (ident_at first port f) (boundary_last (boundary_at N f) first port f) in
    let cells = part_cells TDO given (tdo_net N f) (tdo_number N f) in
    let last : CellView = tdo_driver (tdo_net N f) port.tdo (tdo_number N f + 6) in
    let six : length cells ≡ 6 = refl in
    let there = slice_get_there cells j (omega arith) in
    let turn = tdo_turn (tdo_net N f) (tdo_number N f) (tap_at first port) (instruction_at first port f) (bypass_at first f) (ident_at first port f) (boundary_last (boundary_at N f) first port f) in
    (there.0, slice_get-append_left cells (last ∷ []) j (omega arith) ∙ there.1, turn_at (tdo_net N f) cells j there.0 turn there.1)

tdo_driven : (N : NetlistView) (names : TapNames) (f : Fitted) → FitsWell N f → (j : ℕ) → j < 6 → IsDriven (stitched N names f) (tdo_net N f + j)
tdo_driven N names f well j low =
    let there = tdo_cell_at N f j low in
    driven_by N names f well (tdo_number N f + j) (tdo_net N f + j) there.0 (of_tdo (record { place = j; is = refl; at = there.1 })) there.2

-- TDO itself
pub tdo_pin_driven : (N : NetlistView) (names : TapNames) (f : Fitted) → FitsWell N f → IsDriven (stitched N names f) (length N.nets + 3)
tdo_pin_driven N names f well =
    let first : ℕ = first_net N f in
    let port = port_of N in
    let given = tdo_given (tap_at first port) (instruction_at first port f) (bypass_at first f) (ident_at first port f) (boundary_last (boundary_at N f) first port f) in
    let cells = part_cells TDO given (tdo_net N f) (tdo_number N f) in
    let last : CellView = tdo_driver (tdo_net N f) port.tdo (tdo_number N f + 6) in
    let six : length cells ≡ 6 = refl in
    driven_by N names f well (tdo_number N f + 6) (length N.nets + 3) last
    (of_tdo (record { place = 6; is = refl; at = slice_get-append_right cells (last ∷ []) 6 0 (omega arith) })) refl

-- Nets between, and pins.

-- the net to which a boundary cell gives its value
into_driven : (N : NetlistView) (names : TapNames) (f : Fitted) → FitsWell N f → (k : ℕ) (row : FitRow) → slice_get f.rows k ≡ Some row → choice_count (site_of N.ports row) ≡ 1
    → IsDriven (stitched N names f) (into_at (boundary_at N f) (row_side N f k) row (site_of N.ports row)).0
into_driven N names f well k row at one =
    let cells = gates_of_row N f k row in
    let many = (row_lengths N f k row).gates in
    let there = slice_get_there cells (row_nets N.ports row) (omega arith) in
    driven_by N names f well (row_number N f k + row_nets N.ports row) _ there.0 (of_row k row at (record { place = row_nets N.ports row; is = refl; at = there.1 }))
    ((rows_drive N f k row).into there.0 there.1)

-- at this site
into_driven_at : (N : NetlistView) (names : TapNames) (f : Fitted) → FitsWell N f → (k : ℕ) (row : FitRow) (at : Site) → slice_get f.rows k ≡ Some row → site_of N.ports row ≡ at
    → choice_count at ≡ 1 → IsDriven (stitched N names f) (into_at (boundary_at N f) (row_side N f k) row at).0
into_driven_at N names f well k row at there here one =
    moved_driven N names f _ _ (ap (λ (s : Site). (into_at (boundary_at N f) (row_side N f k) row s).0) here)
    (into_driven N names f well k row there (ap choice_count here ∙ one))

-- a net of the core by its other number
pub core_driven : (N : NetlistView) (names : TapNames) (f : Fitted) → FitsWell N f → (net : ℕ) → IsDriven N net → IsDriven (stitched N names f) (core_side (boundary_at N f) net)
core_driven N names f well net d =
    driven_by N names f well d.number (core_side (boundary_at N f) net) (core_cell (boundary_at N f) d.cell) (of_core d.cell d.drives.live refl)
    (ap (option_map (renamed_net (core_side (boundary_at N f)))) d.drives.output)

first_of : (n e : ℕ) → e < 1 → n ≡ n + e
first_of n e low = omega arith

side_driven_at : (N : NetlistView) (names : TapNames) (f : Fitted) → FitsWell N f → (k : ℕ) (row : FitRow) (e : ℕ) (at : Site) → slice_get f.rows k ≡ Some row → site_of N.ports row ≡ at
    → side_count at ≡ 1 → choice_count at ≡ 1 → (into_at (boundary_at N f) (row_side N f k) row at).0 ≡ row_side N f k → e < row_sides N.ports row
    → IsDriven (stitched N names f) (row_side N f k + e)
side_driven_at N names f well k row e at there here one choice into low =
    let count : row_sides N.ports row ≡ 1 = ap side_count here ∙ one in
    moved_driven N names f _ _ (into ∙ first_of (row_side N f k) e (omega arith)) (into_driven_at N names f well k row at there here choice)

-- the core's side of an output that is always driven
moved_driven_at : (N : NetlistView) (names : TapNames) (f : Fitted) → FitsWell N f → (k : ℕ) (row : FitRow) (net : NetId) → slice_get f.rows k ≡ Some row → row_net N.ports row ≡ Some net
    → direction N.ports net.0 ≡ Some Output → is_moved (site_of N.ports row) ≡ true → IsDriven (stitched N names f) (row_side N f k)
moved_driven_at N names f well k row net there on side moved =
    moved_driven N names f _ _ (goes_at N f well k row net.0 there on moved) (core_driven N names f well net.0 (well.formed.outputs_driven net.0 side))

added_side_driven : (N : NetlistView) (names : TapNames) (f : Fitted) → FitsWell N f → (k : ℕ) (row : FitRow) (net : NetId) (e : ℕ) → slice_get f.rows k ≡ Some row → row_net N.ports row ≡ Some net
    → direction N.ports net.0 ≡ Some Output → site_of N.ports row ≡ site.AddedDriver → e < 2 → IsDriven (stitched N names f) (row_side N f k + e)
added_side_driven N names f well k row net zero there on side here low =
    moved_driven N names f _ _ (first_of (row_side N f k) 0 (omega arith)) (moved_driven_at N names f well k row net there on side (ap is_moved here))
added_side_driven N names f well k row net (suc zero) there on side here low = into_driven_at N names f well k row site.AddedDriver there here refl
added_side_driven N names f well k row net (suc (suc e)) there on side here low = absurd (omega arith)

side_driven : (N : NetlistView) (names : TapNames) (f : Fitted) → FitsWell N f → (k : ℕ) (row : FitRow) (e : ℕ) → slice_get f.rows k ≡ Some row → e < row_sides N.ports row → StandsAt N f row
    → IsDriven (stitched N names f) (row_side N f k + e)
side_driven N names f well k row e there low (at_observed pin on side here) = absurd (let none : row_sides N.ports row ≡ 0 = ap side_count here in omega arith)
side_driven N names f well k row e there low (at_input pin on side here) = side_driven_at N names f well k row e site.Input there here refl refl refl low
side_driven N names f well k row e there low (at_output pin on side here core two) =
    let count : row_sides N.ports row ≡ 1 = ap side_count here in
    moved_driven N names f _ _ (first_of (row_side N f k) e (omega arith)) (moved_driven_at N names f well k row pin there on side (ap is_moved here))
side_driven N names f well k row e there low (at_added pin on side here core two control) =
    let count : row_sides N.ports row ≡ 2 = ap side_count here in added_side_driven N names f well k row pin e there on side here (omega arith)
side_driven N names f well k row e there low (at_driver pin on side here operand gate control) = side_driven_at N names f well k row e site.Driver there here refl refl refl low
side_driven N names f well k row e there low (at_inout pin on side here operand gate control) = side_driven_at N names f well k row e site.Inout there here refl refl refl low
side_driven N names f well k row e there low (at_control none here operand core read) = side_driven_at N names f well k row e site.Control there here refl refl refl low

-- each net behind the core's and the test access port's
pub added_driven : (N : NetlistView) (names : TapNames) (f : Fitted) → FitsWell N f → (net : ℕ) → length N.nets + 5 ≤ net → net < net_count N f → IsDriven (stitched N names f) net
added_driven N names f well net low high = elim (cases_lt net (first_net N f)) [
  | inl a ↦ (let s = is_side N f net low a in moved_driven N names f _ _ (sym s.is) (side_driven N names f well s.k s.row s.e s.there s.low (well.stand s.k s.row s.there)))
  | inr a ↦ elim (cases_lt net (register_net N f)) [
    | inl b ↦ moved_driven N names f _ _ (past (first_net N f) net a) (logic_driven N names f well (net - first_net N f) (omega arith))
    | inr b ↦ elim (cases_lt net (tdo_net N f)) [
      | inl c ↦ (let r = is_row_net N f net b c in moved_driven N names f _ _ (sym r.is) (row_driven N names f well r.k r.row r.j r.there r.low))
      | inr c ↦ moved_driven N names f _ _ (past (tdo_net N f) net c) (tdo_driven N names f well (net - tdo_net N f) (omega arith))
    ]
  ]
]
  where
    past : (a b : ℕ) → a ≤ b → a + (b - a) ≡ b
    past a b low = omega arith

-- an input is neither
no_input : (N : NetlistView) (pin : NetId) (net : ℕ) → pin.0 ≡ net → direction N.ports pin.0 ≡ Some Input
    → (direction N.ports net ≡ Some Output) ⊎ (direction N.ports net ≡ Some Inout) → ⊥
no_input N pin net same side (inl out) = let here : Some Input ≡ Some Output = sym side ∙ ap (direction N.ports) same ∙ out in cc
no_input N pin net same side (inr both) = let here : Some Input ≡ Some Inout = sym side ∙ ap (direction N.ports) same ∙ both in cc

driven_in : (N : NetlistView) (f : Fitted) → FitsWell N f → (net : ℕ) → (direction N.ports net ≡ Some Output) ⊎ (direction N.ports net ≡ Some Inout) → IsDriven N net
driven_in N f well net (inl out) = well.formed.outputs_driven net out
driven_in N f well net (inr both) = well.formed.inouts_driven net both

-- the pin of an output or an inout of the core
pub pin_driven : (N : NetlistView) (names : TapNames) (f : Fitted) → FitsWell N f → (k : ℕ) (row : FitRow) (net : ℕ) → slice_get f.rows k ≡ Some row → row_net N.ports row ≡ Some (record { 0 = net })
    → (direction N.ports net ≡ Some Output) ⊎ (direction N.ports net ≡ Some Inout) → StandsAt N f row → IsDriven (stitched N names f) net
pin_driven N names f well k row net there on read (at_observed pin at side here) =
    absurd (no_input N pin net (net_number pin (record { 0 = net }) (row_net N.ports row) at on) side read)
pin_driven N names f well k row net there on read (at_input pin at side here) =
    absurd (no_input N pin net (net_number pin (record { 0 = net }) (row_net N.ports row) at on) side read)
pin_driven N names f well k row net there on read (at_output pin at side here core two) =
    moved_driven N names f _ _ (ap (λ (n : NetId). n.0) (net_at_is N f row pin at) ∙ net_number pin (record { 0 = net }) (row_net N.ports row) at on)
    (into_driven_at N names f well k row site.Output there here refl)
pin_driven N names f well k row net there on read (at_added pin at side here core two control) =
    let cells = drivers_of_row N f k row in
    let many = (row_lengths N f k row).drivers in
    let one : driver_count (site_of N.ports row) ≡ 1 = ap driver_count here in
    let cell = slice_get_there cells 0 (omega arith) in
    moved_driven N names f _ _ (ap (λ (n : NetId). n.0) (net_at_is N f row pin at) ∙ net_number pin (record { 0 = net }) (row_net N.ports row) at on)
    (driven_by N names f well (driver_number N f k row + 0) (net_at (boundary_at N f) row).0 cell.0 (of_driver k row there (record { place = 0; is = refl; at = cell.1 }))
    ((rows_drive N f k row).driver 0 cell.0 cell.1))
pin_driven N names f well k row net there on read (at_driver pin at side here operand gate control) =
    moved_driven N names f _ _ (stays_at N f well k row net there on (ap is_moved here)) (core_driven N names f well net (driven_in N f well net read))
pin_driven N names f well k row net there on read (at_inout pin at side here operand gate control) =
    moved_driven N names f _ _ (stays_at N f well k row net there on (ap is_moved here)) (core_driven N names f well net (driven_in N f well net read))
pin_driven N names f well k row net there on read (at_control none here operand core is) = absurd (let no : None ≡ wrap net = sym none ∙ on in cc)

-- and one without a row, which keeps its driver
pub straight_driven : (N : NetlistView) (names : TapNames) (f : Fitted) → FitsWell N f → (net : ℕ) → IsStraightNet N f net
    → (direction N.ports net ≡ Some Output) ⊎ (direction N.ports net ≡ Some Inout) → IsDriven (stitched N names f) net
straight_driven N names f well net straight read = moved_driven N names f _ _ (straight_stays N f net straight) (core_driven N names f well net (driven_in N f well net read))
