-- What drives each net of the netlist with the test logic.
use Rattle.std.proofs.Common.{◌≡◌, ◌⊎◌, inl, inr, ℕ, ◌+◌, ◌<◌, [], ◌∷◌, ◌++◌, length, refl, sym, ap, ◌∙◌, arith, Option, Some, None}
use Rattle.std.specs.Prelude.{slice_get}
use Rattle.std.specs.Option.{option_map}
use Rattle.std.proofs.lemmas.Bool.{cases_lt}
use Rattle.list_laws.proofs.Lists.{slice_get-append_left, slice_get-append_right}
use Rattle.list_laws.proofs.Options.{some_same}
use Rattle.netlist_model.specs.declared.NetId.{NetId}
use Rattle.netlist_model.specs.Lists.{CellView, NetlistView, cell_at, cell_count, Drives}
use Rattle.gate_parts.specs.Parts.{part_cells}
use Rattle.netlist_model.specs.Nested.{renamed_net}
use Rattle.surrounded_core.specs.register_gates.declared.tdo.TheConstants.{TDO}
use Rattle.surrounded_core.specs.register_gates.Tdo.{tdo_given, tdo_driver}
use Rattle.plan_fitting.specs.declared.fitted.FitRow.{FitRow}
use Rattle.plan_fitting.specs.declared.fitted.Fitted.{Fitted}
use Rattle.stitched_netlist.specs.declared.model.Site.{Site}
use Rattle.stitched_netlist.specs.declared.model.Site.TheVariants as site
use Rattle.stitched_netlist.specs.Sites.{site_of}
use Rattle.stitched_netlist.specs.Sides.{core_side, core_cell}
use Rattle.stitched_netlist.specs.ModelRows.{row_nets, net_at}
use Rattle.stitched_netlist.specs.ModelLogic.{instruction_from, bypass_from, ident_from, logic_size, tap_at, instruction_at, bypass_at, ident_at, controller_part, instruction_part, bypass_part, ident_part}
use Rattle.stitched_netlist.specs.Stitched.{boundary_at, first_net, boundary_last, tdo_part}
use Rattle.stitched_netlist.specs.PlacesLaws.{port_of, instruction_number, bypass_number, ident_number, tdo_number, row_first, row_side, row_number}
use Rattle.stitched_netlist.specs.CellsLaws.{IsAt, gates_of_row, driver_number, drivers_of_row, CellOf, of_core, of_controller, of_instruction, of_bypass, of_ident, of_row, of_driver, of_tdo}
use Rattle.stitched_netlist.specs.Sizes.{choice_count, driver_count}
use Rattle.stitched_netlist.specs.CellsLogic.{into_at}
use Rattle.stitched_netlist.proofs.Sizes.{logic_lengths, row_lengths, numbers}
use Rattle.stitched_netlist.proofs.Tables.{turn_at}
use Rattle.stitched_netlist.proofs.CellsParts.{logic_turns, tdo_turn}
use Rattle.stitched_netlist.proofs.RowGates.{rows_drive}
use Rattle.stitched_netlist.proofs.Ranges.{tdo_net}
use Rattle.std.proofs.lemmas.Option.{slice_get_within}

-- own: which cell of which part has this number and drives this net
pub data OutputOf (N : NetlistView) (f : Fitted) (i net : ℕ) (cell : CellView) : Type 0 where
  core_out : (old : CellView) (before : ℕ) → Drives N i old before → core_cell (boundary_at N f) old ≡ cell → net ≡ core_side (boundary_at N f) before → OutputOf N f i net cell
  logic_out : (j : ℕ) → j < logic_size f → i ≡ cell_count N + j → net ≡ first_net N f + j → OutputOf N f i net cell
  row_out : (k : ℕ) (row : FitRow) (j : ℕ) → slice_get f.rows k ≡ Some row → j < row_nets N.ports row → i ≡ row_number N f k + j → net ≡ row_first N f k + j → OutputOf N f i net cell
  into_out : (k : ℕ) (row : FitRow) → slice_get f.rows k ≡ Some row → choice_count (site_of N.ports row) ≡ 1 → i ≡ row_number N f k + row_nets N.ports row
      → net ≡ (into_at (boundary_at N f) (row_side N f k) row (site_of N.ports row)).0 → OutputOf N f i net cell
  driver_out : (k : ℕ) (row : FitRow) → slice_get f.rows k ≡ Some row → driver_count (site_of N.ports row) ≡ 1 → i ≡ driver_number N f k row
      → net ≡ (net_at (boundary_at N f) row).0 → OutputOf N f i net cell
  tdo_out : (j : ℕ) → j < 6 → i ≡ tdo_number N f + j → net ≡ tdo_net N f + j → OutputOf N f i net cell
  tdo_pin : i ≡ tdo_number N f + 6 → net ≡ length N.nets + 3 → OutputOf N f i net cell

pub output_is : (cell : CellView) (net : ℕ) (given : NetId) → cell.output ≡ Some given → cell.output ≡ Some (record { 0 = net }) → net ≡ given.0
output_is cell net given e g = ap (λ (o : Option NetId). elim o [ None ↦ 0 | Some n ↦ n.0 ]) (sym g ∙ e)

-- an output of the core
pub renamed : (to : ℕ → ℕ) (output : Option NetId) (net : ℕ) → option_map (renamed_net to) output ≡ Some (record { 0 = net }) → (before : ℕ) × (output ≡ Some (record { 0 = before })) × (net ≡ to before)
renamed to None net e = absurd (cc)
renamed to (Some n) net e = (n.0, refl, ap (λ (o : Option NetId). elim o [ None ↦ 0 | Some x ↦ x.0 ]) (sym e))

-- The parts.

choices : (at : Site) → (choice_count at ≡ 0) ⊎ (choice_count at ≡ 1)
choices site.Observed = inl refl
choices site.Input = inr refl
choices site.Output = inr refl
choices site.AddedDriver = inr refl
choices site.Driver = inr refl
choices site.Inout = inr refl
choices site.Control = inr refl

drivers : (at : Site) → (driver_count at ≡ 0) ⊎ (driver_count at ≡ 1)
drivers site.Observed = inl refl
drivers site.Input = inl refl
drivers site.Output = inl refl
drivers site.AddedDriver = inr refl
drivers site.Driver = inl refl
drivers site.Inout = inl refl
drivers site.Control = inl refl

core_output : (N : NetlistView) (f : Fitted) (i : ℕ) (cell old : CellView) (net : ℕ) → cell_at N i ≡ Some old → core_cell (boundary_at N f) old ≡ cell
    → cell.output ≡ Some (record { 0 = net }) → OutputOf N f i net cell
core_output N f i cell old net live is e =
    let from = renamed (core_side (boundary_at N f)) old.output net (ap (λ (c : CellView). c.output) is ∙ e) in
    core_out old from.0 (record { live = live; output = from.1 }) is from.2

controller_output : (N : NetlistView) (f : Fitted) (i : ℕ) (cell : CellView) (net : ℕ) → IsAt i (cell_count N) (controller_part (first_net N f) (port_of N) (cell_count N)) cell
    → cell.output ≡ Some (record { 0 = net }) → OutputOf N f i net cell
controller_output N f i cell net h e =
    let cells = controller_part (first_net N f) (port_of N) (cell_count N) in
    let many = (logic_lengths (first_net N f) (port_of N) f (cell_count N)).controller in
    let low = slice_get_within cells h.place cell h.at in
    let net_is = output_is cell net _ (turn_at (first_net N f) cells h.place cell (logic_turns (first_net N f) (port_of N) f (cell_count N)).controller h.at) e in
    logic_out h.place (omega arith) h.is net_is

instruction_output : (N : NetlistView) (f : Fitted) (i : ℕ) (cell : CellView) (net : ℕ)
    → IsAt i (instruction_number N f) (instruction_part (first_net N f) (port_of N) f (instruction_number N f)) cell → cell.output ≡ Some (record { 0 = net }) → OutputOf N f i net cell
instruction_output N f i cell net h e =
    let cells = instruction_part (first_net N f) (port_of N) f (instruction_number N f) in
    let many = (logic_lengths (first_net N f) (port_of N) f (instruction_number N f)).instruction in
    let low = slice_get_within cells h.place cell h.at in
    let start = (numbers N f).instruction in
    let is = h.is in
    let net_is : net ≡ first_net N f + instruction_from + h.place =
    output_is cell net _ (turn_at (first_net N f + instruction_from) cells h.place cell (logic_turns (first_net N f) (port_of N) f (instruction_number N f)).instruction h.at) e in
    logic_out (instruction_from + h.place) (omega arith) (omega arith) (omega arith)

bypass_output : (N : NetlistView) (f : Fitted) (i : ℕ) (cell : CellView) (net : ℕ) → IsAt i (bypass_number N f) (bypass_part (first_net N f) (port_of N) f (bypass_number N f)) cell
    → cell.output ≡ Some (record { 0 = net }) → OutputOf N f i net cell
bypass_output N f i cell net h e =
    let cells = bypass_part (first_net N f) (port_of N) f (bypass_number N f) in
    let many = (logic_lengths (first_net N f) (port_of N) f (bypass_number N f)).bypass in
    let low = slice_get_within cells h.place cell h.at in
    let start = (numbers N f).bypass in
    let is = h.is in
    let net_is : net ≡ first_net N f + bypass_from f + h.place =
    output_is cell net _ (turn_at (first_net N f + bypass_from f) cells h.place cell (logic_turns (first_net N f) (port_of N) f (bypass_number N f)).bypass h.at) e in
    logic_out (bypass_from f + h.place) (omega arith) (omega arith) (omega arith)

ident_output : (N : NetlistView) (f : Fitted) (i : ℕ) (cell : CellView) (net : ℕ) → IsAt i (ident_number N f) (ident_part (first_net N f) (port_of N) f (ident_number N f)) cell
    → cell.output ≡ Some (record { 0 = net }) → OutputOf N f i net cell
ident_output N f i cell net h e =
    let cells = ident_part (first_net N f) (port_of N) f (ident_number N f) in
    let many = (logic_lengths (first_net N f) (port_of N) f (ident_number N f)).ident in
    let low = slice_get_within cells h.place cell h.at in
    let start = (numbers N f).ident in
    let is = h.is in
    let net_is : net ≡ first_net N f + ident_from f + h.place =
    output_is cell net _ (turn_at (first_net N f + ident_from f) cells h.place cell (logic_turns (first_net N f) (port_of N) f (ident_number N f)).ident h.at) e in
    logic_out (ident_from f + h.place) (omega arith) (omega arith) (omega arith)

row_output : (N : NetlistView) (f : Fitted) (i : ℕ) (cell : CellView) (net k : ℕ) (row : FitRow) → slice_get f.rows k ≡ Some row → IsAt i (row_number N f k) (gates_of_row N f k row) cell
    → cell.output ≡ Some (record { 0 = net }) → OutputOf N f i net cell
row_output N f i cell net k row there h e =
    let cells = gates_of_row N f k row in
    let many = (row_lengths N f k row).gates in
    let low = slice_get_within cells h.place cell h.at in
    let drive = rows_drive N f k row in
    elim (cases_lt h.place (row_nets N.ports row)) [
      | inl own ↦ row_out k row h.place there own h.is (output_is cell net _ (drive.own h.place cell h.at own) e)
      | inr past ↦ elim (choices (site_of N.ports row)) [
        | inl none ↦ absurd (omega arith)
        | inr one ↦ (let last : h.place ≡ row_nets N.ports row = omega arith in
            let is = h.is in
            let at : slice_get cells (row_nets N.ports row) ≡ Some cell = ap (slice_get cells) (sym last) ∙ h.at in
            into_out k row there one (omega arith) (output_is cell net _ (drive.into cell at) e))
      ]
    ]

driver_output : (N : NetlistView) (f : Fitted) (i : ℕ) (cell : CellView) (net k : ℕ) (row : FitRow) → slice_get f.rows k ≡ Some row → IsAt i (driver_number N f k row) (drivers_of_row N f k row) cell
    → cell.output ≡ Some (record { 0 = net }) → OutputOf N f i net cell
driver_output N f i cell net k row there h e =
    let many = (row_lengths N f k row).drivers in
    let low = slice_get_within (drivers_of_row N f k row) h.place cell h.at in
    let is = h.is in
    elim (drivers (site_of N.ports row)) [
      | inl none ↦ absurd (omega arith)
      | inr one ↦ driver_out k row there one (omega arith) (output_is cell net _ ((rows_drive N f k row).driver h.place cell h.at) e)
    ]

tdo_output : (N : NetlistView) (f : Fitted) (i : ℕ) (cell : CellView) (net : ℕ)
    → IsAt i (tdo_number N f) (tdo_part (boundary_at N f) (first_net N f) (port_of N) f (tdo_number N f)) cell → cell.output ≡ Some (record { 0 = net }) → OutputOf N f i net cell
tdo_output N f i cell net h e =
    let first : ℕ = first_net N f in
    let port = port_of N in
    let given = tdo_given (tap_at first port) (instruction_at first port f) (bypass_at first f) (ident_at first port f) (boundary_last (boundary_at N f) first port f) in
    let cells = part_cells TDO given (tdo_net N f) (tdo_number N f) in
    let last : CellView = tdo_driver (tdo_net N f) port.tdo (tdo_number N f + 6) in
    let six : length cells ≡ 6 = refl in
    let low : h.place < 7 = slice_get_within (cells ++ last ∷ []) h.place cell h.at in
    let turn = tdo_turn (tdo_net N f) (tdo_number N f) (tap_at first port) (instruction_at first port f) (bypass_at first f) (ident_at first port f) (boundary_last (boundary_at N f) first port f) in
    let is = h.is in
    elim (cases_lt h.place 6) [
      | inl own ↦ tdo_out h.place own h.is
          (output_is cell net _ (turn_at (tdo_net N f) cells h.place cell turn (sym (slice_get-append_left cells (last ∷ []) h.place (omega arith)) ∙ h.at)) e)
      | inr past ↦
          (let there : slice_get (cells ++ last ∷ []) h.place ≡ Some last = slice_get-append_right cells (last ∷ []) h.place 0 (omega arith) in
          let one : last ≡ cell = some_same last cell (slice_get (cells ++ last ∷ []) h.place) there h.at in
          tdo_pin (omega arith) (output_is cell net port.tdo (ap (λ (c : CellView). c.output) (sym one)) e))
    ]

pub output_of : (N : NetlistView) (f : Fitted) (i : ℕ) (cell : CellView) (net : ℕ) → CellOf N f i cell → cell.output ≡ Some (record { 0 = net }) → OutputOf N f i net cell
output_of N f i cell net (of_core old live is) e = core_output N f i cell old net live is e
output_of N f i cell net (of_controller h) e = controller_output N f i cell net h e
output_of N f i cell net (of_instruction h) e = instruction_output N f i cell net h e
output_of N f i cell net (of_bypass h) e = bypass_output N f i cell net h e
output_of N f i cell net (of_ident h) e = ident_output N f i cell net h e
output_of N f i cell net (of_row k row there h) e = row_output N f i cell net k row there h e
output_of N f i cell net (of_driver k row there h) e = driver_output N f i cell net k row there h e
output_of N f i cell net (of_tdo h) e = tdo_output N f i cell net h e
