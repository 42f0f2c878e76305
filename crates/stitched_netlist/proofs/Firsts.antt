-- The net between the core and a row, and the operands of a driver behind one, are those of the row that stands at the net.
use Rattle.std.proofs.Common.{◌≡◌, ℕ, zero, suc, ◌+◌, ◌<◌, true, false, List, [], ◌∷◌, take, refl, ap, ◌∙◌, Some, arith}
use Rattle.std.specs.Prelude.{slice_get}
use Rattle.netlist_model.specs.Lists.{PortView}
use Rattle.plan_fitting.specs.declared.fitted.FitRow.{FitRow}
use Rattle.stitched_netlist.specs.Sites.{Boundary, row_sides, sides_of}
use Rattle.stitched_netlist.specs.Sides.{moves, side_from, drives, driver_feeds, feeds_from}
use Rattle.stitched_netlist.proofs.ModelMoves.{sides_cons, moved_here, moved_on, fed_here, fed_on}

-- the first row that moves a net decides which net it becomes
pub side_is : (ports : List PortView) (net side : ℕ) (rows : List FitRow) (k : ℕ) (row : FitRow) → slice_get rows k ≡ Some row → moves ports net row ≡ true
    → ((j : ℕ) (other : FitRow) → j < k → slice_get rows j ≡ Some other → moves ports net other ≡ false) → side_from ports net side rows ≡ side + sides_of ports (take k rows)
side_is ports net side [] k row at is before = absurd (cc)
side_is ports net side (r ∷ rows) zero row at is before =
    let same : r ≡ row = cc in
    let here : moves ports net r ≡ true = ap (moves ports net) same ∙ is in
    let none : sides_of ports [] ≡ 0 = refl in
    let first = moved_here ports net side r rows here in
    omega arith
side_is ports net side (r ∷ rows) (suc k) row at is before =
    let here : moves ports net r ≡ false = before 0 r (omega arith) refl in
    let on = moved_on ports net side r rows here in
    let rest : side_from ports net (side + row_sides ports r) rows ≡ side + row_sides ports r + sides_of ports (take k rows)
    = side_is ports net (side + row_sides ports r) rows k row at is (λ j other less there. before (suc j) other (omega arith) there) in
    let sum = sides_cons ports r (take k rows) in
    omega arith

-- and the first that is of its driver decides the driver's operands
pub feeds_are : (B : Boundary) (net side : ℕ) (rows : List FitRow) (k : ℕ) (row : FitRow) → slice_get rows k ≡ Some row → drives B.ports net row ≡ true
    → ((j : ℕ) (other : FitRow) → j < k → slice_get rows j ≡ Some other → drives B.ports net other ≡ false)
    → feeds_from B net side rows ≡ Some (driver_feeds B (side + sides_of B.ports (take k rows)) row)
feeds_are B net side [] k row at is before = absurd (cc)
feeds_are B net side (r ∷ rows) zero row at is before =
    let same : r ≡ row = cc in
    let here : drives B.ports net r ≡ true = ap (drives B.ports net) same ∙ is in
    let none : side ≡ side + sides_of B.ports [] = omega arith in
    fed_here B net side r rows here ∙ ap (λ (x : FitRow). Some (driver_feeds B side x)) same ∙ ap (λ (n : ℕ). Some (driver_feeds B n row)) none
feeds_are B net side (r ∷ rows) (suc k) row at is before =
    let here : drives B.ports net r ≡ false = before 0 r (omega arith) refl in
    let on = fed_on B net side r rows here in
    let rest = feeds_are B net (side + row_sides B.ports r) rows k row at is (λ j other less there. before (suc j) other (omega arith) there) in
    let sum = sides_cons B.ports r (take k rows) in
    let sides : side + row_sides B.ports r + sides_of B.ports (take k rows) ≡ side + sides_of B.ports (take (suc k) (r ∷ rows)) = omega arith in
    on ∙ rest ∙ ap (λ (n : ℕ). Some (driver_feeds B n row)) sides
