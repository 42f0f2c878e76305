-- Small netlists with their test logic: the core behind its cells, and the boundary register.
-- IEEE Std 1149.1-2001: boundary-scan register; the netlists are those of the examples of fitting.
use Rattle.std.specs.Prelude.{◌≡◌, ℕ, true, false, List, [], ◌∷◌, ◌++◌, map, Option, Some, None}
use Rattle.cell_library.specs.declared.Kind.TheVariants.{And, Not, Buf, Bufif0, Bufif1}
use Rattle.cell_library.specs.declared.codes.BoundaryKind.TheVariants.{Bc1}
use Rattle.netlist_model.specs.declared.NetId.{NetId}
use Rattle.netlist_model.specs.declared.Feed.TheVariants.{Const}
use Rattle.netlist_model.specs.Lists.{CellView, NetlistView}
use Rattle.test_logic.specs.declared.ScanNets.{ScanNets}
use Rattle.surrounded_core.specs.boundary_cells.Cells.{observe_cells, input_cells, output_cells}
use Rattle.surrounded_core.specs.boundary_cells.ThreeState.{control_cells, bidir_cells}
use Rattle.plan_fitting.specs.declared.fitted.FitRow.{FitRow}
use Rattle.plan_fitting.specs.Rows.{rows}
use Rattle.plan_fitting.specs.Examples.{of_net, gate, netlist_k, seen_k, plan_k, netlist_d, seen_d, plan_d, netlist_b, seen_b, plan_b, with_highz}
use Rattle.stitched_netlist.specs.Sites.{Boundary, boundary_of}
use Rattle.stitched_netlist.specs.Sides.{core_cell}
use Rattle.stitched_netlist.specs.ModelRows.{added_driver, rows_cells}

abbrev pub core_of : NetlistView → List FitRow → List (Option CellView)
core_of N rs = map (core_place (boundary_of N rs)) N.cells
  where
    core_place : Boundary → Option CellView → Option CellView
    core_place B None = None
    core_place B (Some cell) = Some (core_cell B cell)

abbrev pub net : ℕ → NetId
net number = record { 0 = number }

-- own: nets of a register that begins at net 100 and cell 200, behind TDI on net 6
abbrev pub register_of : NetlistView → List FitRow → ScanNets → List CellView
register_of N rs scan = rows_cells (boundary_of N rs) scan 100 200 (net 6) (boundary_of N rs).first rs

-- Two-state outputs: `and(y, a, b); not(z, y);` with BC_1 at a, y and z, and BC_4 at b. The test access port
-- has nets 4 to 8.

-- the gates read what the cell at a gives, and drive the nets before the cells of y and z
abbrev pub TwoStateCore : Type 0
TwoStateCore = core_of netlist_k (rows plan_k seen_k) ≡ gate And 10 (of_net 9 ∷ of_net 1 ∷ []) ∷ gate Not 11 (of_net 10 ∷ []) ∷ []

abbrev pub TwoStateRegister : Type 0
TwoStateRegister = (scan : ScanNets) → register_of netlist_k (rows plan_k seen_k) scan
    ≡ output_cells Bc1 100 200 scan (of_net 11) (net 3) (net 6)
    ++ output_cells Bc1 105 206 scan (of_net 10) (net 2) (net 100)
    ++ observe_cells 110 212 scan (net 1) (net 105)
    ++ input_cells 113 215 scan (net 0) (net 9) (net 110)

-- With HIGHZ: the outputs are driven from nets 11 and 14 under the level on net 12, which the constant 1 gives.

abbrev pub DrivenCore : Type 0
DrivenCore = core_of netlist_k (rows (with_highz plan_k) seen_k) ≡ gate And 10 (of_net 9 ∷ of_net 1 ∷ []) ∷ gate Not 13 (of_net 10 ∷ []) ∷ []

abbrev pub DrivenRegister : Type 0
DrivenRegister = (scan : ScanNets) → register_of netlist_k (rows (with_highz plan_k) seen_k) scan
    ≡ (output_cells Bc1 100 200 scan (of_net 13) (net 14) (net 6) ++ added_driver 206 (net 14) (net 12) (net 3) ∷ [])
    ++ control_cells Bc1 105 207 scan (Const true) true (net 12) (net 100)
    ++ (output_cells Bc1 111 214 scan (of_net 10) (net 11) (net 105) ++ added_driver 220 (net 11) (net 12) (net 2) ∷ [])
    ++ observe_cells 116 221 scan (net 1) (net 111)
    ++ input_cells 119 224 scan (net 0) (net 9) (net 116)

-- Drivers of both polarities on one enable: `bufif1(s, p, e); bufif0(t, p, e);` with BC_4 at e and p.

-- each takes its data and its control from its cells
abbrev pub DriverCore : Type 0
DriverCore = core_of netlist_d (rows plan_d seen_d) ≡ gate Bufif1 2 (of_net 9 ∷ of_net 10 ∷ []) ∷ gate Bufif0 3 (of_net 11 ∷ of_net 12 ∷ []) ∷ []

abbrev pub DriverRegister : Type 0
DriverRegister = (scan : ScanNets) → register_of netlist_d (rows plan_d seen_d) scan
    ≡ control_cells Bc1 100 200 scan (of_net 0) false (net 12) (net 6)
    ++ output_cells Bc1 106 207 scan (of_net 1) (net 11) (net 100)
    ++ control_cells Bc1 111 213 scan (of_net 0) true (net 10) (net 106)
    ++ output_cells Bc1 117 220 scan (of_net 1) (net 9) (net 111)
    ++ observe_cells 122 226 scan (net 1) (net 117)
    ++ observe_cells 125 229 scan (net 0) (net 122)

-- An inout: `bufif1(io, p, e); buf(r, io);` with BC_1 at p, e and r, BC_7 at io, and HIGHZ.

-- the driver's operands stand behind cells, and the reader of io stays on the pin
abbrev pub InoutCore : Type 0
InoutCore = core_of netlist_b (rows plan_b seen_b) ≡ gate Bufif1 2 (of_net 11 ∷ of_net 12 ∷ []) ∷ gate Buf 13 (of_net 2 ∷ []) ∷ []

-- the cells at p and e give the core nets 9 and 10, which the cell of io and its control cell take
abbrev pub InoutRegister : Type 0
InoutRegister = (scan : ScanNets) → register_of netlist_b (rows plan_b seen_b) scan
    ≡ control_cells Bc1 100 200 scan (Const true) true (net 15) (net 6)
    ++ (output_cells Bc1 106 207 scan (of_net 13) (net 14) (net 100) ++ added_driver 213 (net 14) (net 15) (net 3) ∷ [])
    ++ control_cells Bc1 111 214 scan (of_net 10) true (net 12) (net 106)
    ++ bidir_cells 117 221 scan (of_net 9) (of_net 10) true (net 2) (net 11) (net 111)
    ++ input_cells 124 229 scan (net 1) (net 10) (net 117)
    ++ input_cells 129 235 scan (net 0) (net 9) (net 124)
