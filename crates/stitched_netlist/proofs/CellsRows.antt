-- Each cell of the boundary register is one of a row.
use Rattle.std.proofs.Common.{◌≡◌, ◌⊎◌, inl, inr, ℕ, zero, suc, ◌+◌, List, [], ◌∷◌, ◌++◌, take, drop, length, refl, sym, subst, Some, arith}
use Rattle.std.specs.Prelude.{slice_get}
use Rattle.netlist_model.specs.declared.NetId.{NetId}
use Rattle.netlist_model.specs.Lists.{PortView, CellView, NetlistView}
use Rattle.test_logic.specs.declared.ScanNets.{ScanNets}
use Rattle.plan_fitting.specs.declared.fitted.FitRow.{FitRow}
use Rattle.plan_fitting.specs.declared.fitted.Fitted.{Fitted}
use Rattle.stitched_netlist.specs.Sites.{Boundary, site_of, row_sides, sides_of}
use Rattle.stitched_netlist.specs.ModelRows.{rows_cells}
use Rattle.stitched_netlist.specs.Stitched.{boundary_at, first_net, rows_part}
use Rattle.stitched_netlist.proofs.ModelMoves.{sides_cons}
use Rattle.stitched_netlist.specs.PlacesLaws.{port_of, scan_of, register_number, register_net, row_first, row_side, row_number, row_next}
use Rattle.stitched_netlist.proofs.PlacesParts.{by_kind, cells_there}
use Rattle.stitched_netlist.specs.CellsLaws.{IsAt, gates_of_row, driver_number, drivers_of_row}
use Rattle.stitched_netlist.proofs.Split.{split, front, back, same_list}

abbrev there_number : Boundary → ScanNets → ℕ → ℕ → NetId → List FitRow → ℕ → ℕ
there_number B scan first number tdi rows after = number + length (rows_cells B scan first number tdi after rows)

-- A cell of the register.

record InRow (B : Boundary) (scan : ScanNets) (first number : ℕ) (tdi : NetId) (side : ℕ) (rows : List FitRow) (i : ℕ) (cell : CellView) : Type 0 where
  k : ℕ
  row : FitRow
  here : ℕ
  after : ℕ
  there : slice_get rows k ≡ Some row
  here_is : here ≡ side + sides_of B.ports (take k rows)
  after_is : after ≡ side + sides_of B.ports (take (suc k) rows)
  at : IsAt i (there_number B scan first number tdi (drop (suc k) rows) after) (cells_there B scan first number tdi (drop (suc k) rows) row here after) cell

in_row : (B : Boundary) (scan : ScanNets) (first number : ℕ) (tdi : NetId) (side : ℕ) (rows : List FitRow) (i : ℕ) (cell : CellView)
    → IsAt i number (rows_cells B scan first number tdi side rows) cell → InRow B scan first number tdi side rows i cell
in_row B scan first number tdi side [] i cell h = absurd (let at = h.at in cc)
in_row B scan first number tdi side (r ∷ rows) i cell h =
    let after : ℕ = side + row_sides B.ports r in
    elim (split i number (rows_cells B scan first number tdi after rows) (cells_there B scan first number tdi rows r side after) cell h) [
      | inl early ↦ (let rest = in_row B scan first number tdi after rows i cell early in
          record {
            k = suc rest.k;
            row = rest.row;
            here = rest.here;
            after = rest.after;
            there = rest.there;
            here_is = let one = sides_cons B.ports r (take rest.k rows) in let is = rest.here_is in omega arith;
            after_is = let one = sides_cons B.ports r (take (suc rest.k) rows) in let is = rest.after_is in omega arith;
            at = rest.at;
          })
      | inr last ↦ record {
        k = 0;
        row = r;
        here = side;
        after = after;
        there = refl;
        here_is = none_before B.ports side;
        after_is = one_before B.ports side r;
        at = last;
      }
    ]
  where
    none_before : (ports : List PortView) (side : ℕ) → side ≡ side + sides_of ports []
    none_before ports side = let none : sides_of ports [] ≡ 0 = refl in omega arith

    one_before : (ports : List PortView) (side : ℕ) (row : FitRow) → side + row_sides ports row ≡ side + sides_of ports (row ∷ [])
    one_before ports side row = let none : sides_of ports [] ≡ 0 = refl in let one = sides_cons ports row [] in omega arith

-- A cell of a row.

from_row : (B : Boundary) (scan : ScanNets) (first number : ℕ) (tdi : NetId) (side : ℕ) (rows : List FitRow) (i : ℕ) (cell : CellView) (k : ℕ) (row : FitRow) (here after : ℕ)
    → slice_get rows k ≡ Some row → here ≡ side + sides_of B.ports (take k rows) → after ≡ side + sides_of B.ports (take (suc k) rows)
    → IsAt i (there_number B scan first number tdi (drop (suc k) rows) after) (cells_there B scan first number tdi (drop (suc k) rows) row here after) cell
    → IsAt i number (rows_cells B scan first number tdi side rows) cell
from_row B scan first number tdi side [] i cell k row here after e here_is after_is at = absurd (cc)
from_row B scan first number tdi side (r ∷ rows) i cell zero row here after e here_is after_is at =
    let same : row ≡ r = cc in
    let none : sides_of B.ports [] ≡ 0 = refl in
    let one = sides_cons B.ports r [] in
    let a : here ≡ side = omega arith in
    let b : after ≡ side + row_sides B.ports r = omega arith in
    back i number (rows_cells B scan first number tdi (side + row_sides B.ports r) rows) (cells_there B scan first number tdi rows r side (side + row_sides B.ports r)) cell
    (moved_row B scan first number tdi rows row r here side after (side + row_sides B.ports r) i cell same a b at)
  where
    moved_row : (B : Boundary) (scan : ScanNets) (first number : ℕ) (tdi : NetId) (rows : List FitRow) (row r : FitRow) (here side after next i : ℕ) (cell : CellView)
        → row ≡ r → here ≡ side → after ≡ next
        → IsAt i (there_number B scan first number tdi rows after) (cells_there B scan first number tdi rows row here after) cell
        → IsAt i (there_number B scan first number tdi rows next) (cells_there B scan first number tdi rows r side next) cell
    moved_row B scan first number tdi rows row r here side after next i cell same a b at =
        subst (λ (n : ℕ). IsAt i (there_number B scan first number tdi rows n) (cells_there B scan first number tdi rows r side n) cell) b
        (subst (λ (n : ℕ). IsAt i (there_number B scan first number tdi rows after) (cells_there B scan first number tdi rows r n after) cell) a
        (subst (λ (x : FitRow). IsAt i (there_number B scan first number tdi rows after) (cells_there B scan first number tdi rows x here after) cell) same at))
from_row B scan first number tdi side (r ∷ rows) i cell (suc k) row here after e here_is after_is at =
    let one = sides_cons B.ports r (take k rows) in
    let two = sides_cons B.ports r (take (suc k) rows) in
    front i number (rows_cells B scan first number tdi (side + row_sides B.ports r) rows) (cells_there B scan first number tdi rows r side (side + row_sides B.ports r)) cell
    (from_row B scan first number tdi (side + row_sides B.ports r) rows i cell k row here after e (omega arith) (omega arith) at)

-- By the kind of the row.

abbrev row_at : NetlistView → Fitted → ℕ → FitRow → ℕ → ℕ → List CellView
row_at N f k row here after = cells_there (boundary_at N f) (scan_of N f) (register_net N f) (register_number N f) (port_of N).tdi (drop (suc k) f.rows) row here after

abbrev number_at : NetlistView → Fitted → ℕ → ℕ → ℕ
number_at N f k after = there_number (boundary_at N f) (scan_of N f) (register_net N f) (register_number N f) (port_of N).tdi (drop (suc k) f.rows) after

kinds : (N : NetlistView) (f : Fitted) (k : ℕ) (row : FitRow) → row_at N f k row (row_side N f k) (row_side N f (suc k)) ≡ gates_of_row N f k row ++ drivers_of_row N f k row
kinds N f k row = by_kind (boundary_at N f) (scan_of N f) (row_first N f k) (row_number N f k) (row_side N f k) row (row_next N f k) (site_of N.ports row)

-- a cell of the register is a gate of a row, or the driver that is added behind one
pub record IsOfRow (N : NetlistView) (f : Fitted) (i : ℕ) (cell : CellView) : Type 0 where
  pub k : ℕ
  pub row : FitRow
  pub there : slice_get f.rows k ≡ Some row
  pub at : IsAt i (row_number N f k) (gates_of_row N f k row) cell ⊎ IsAt i (driver_number N f k row) (drivers_of_row N f k row) cell

pub of_rows : (N : NetlistView) (f : Fitted) (i : ℕ) (cell : CellView)
    → IsAt i (register_number N f) (rows_part (boundary_at N f) (first_net N f) (port_of N) f (register_number N f)) cell → IsOfRow N f i cell
of_rows N f i cell h =
    let B : Boundary = boundary_at N f in
    let r = in_row B (scan_of N f) (register_net N f) (register_number N f) (port_of N).tdi B.first f.rows i cell h in
    let a : IsAt i (number_at N f r.k (row_side N f (suc r.k))) (row_at N f r.k r.row r.here (row_side N f (suc r.k))) cell =
    subst (λ (n : ℕ). IsAt i (number_at N f r.k n) (row_at N f r.k r.row r.here n) cell) r.after_is r.at in
    let b : IsAt i (row_number N f r.k) (row_at N f r.k r.row (row_side N f r.k) (row_side N f (suc r.k))) cell =
    subst (λ (n : ℕ). IsAt i (row_number N f r.k) (row_at N f r.k r.row n (row_side N f (suc r.k))) cell) r.here_is a in
    record {
      k = r.k;
      row = r.row;
      there = r.there;
      at = split i (row_number N f r.k) (gates_of_row N f r.k r.row) (drivers_of_row N f r.k r.row) cell (same_list i (row_number N f r.k) _ _ cell (kinds N f r.k r.row) b);
    }

pub in_rows : (N : NetlistView) (f : Fitted) (i : ℕ) (cell : CellView) (k : ℕ) (row : FitRow) → slice_get f.rows k ≡ Some row
    → IsAt i (row_number N f k) (gates_of_row N f k row) cell ⊎ IsAt i (driver_number N f k row) (drivers_of_row N f k row) cell
    → IsAt i (register_number N f) (rows_part (boundary_at N f) (first_net N f) (port_of N) f (register_number N f)) cell
in_rows N f i cell k row there at =
    let B : Boundary = boundary_at N f in
    let both : IsAt i (row_number N f k) (gates_of_row N f k row ++ drivers_of_row N f k row) cell = elim at [
      | inl gate ↦ front i (row_number N f k) (gates_of_row N f k row) (drivers_of_row N f k row) cell gate
      | inr driver ↦ back i (row_number N f k) (gates_of_row N f k row) (drivers_of_row N f k row) cell driver
    ] in
    from_row B (scan_of N f) (register_net N f) (register_number N f) (port_of N).tdi B.first f.rows i cell k row (row_side N f k) (row_side N f (suc k)) there refl refl
    (same_list i (row_number N f k) _ _ cell (sym (kinds N f k row)) both)
