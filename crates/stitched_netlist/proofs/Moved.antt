-- What the rows of the boundary register make of the core's nets and drivers: nothing, or what the first row says that is of the net.
use Rattle.std.proofs.Common.{◌≡◌, ℕ, zero, suc, ◌+◌, ◌≤◌, ◌⊎◌, inl, inr, true, false, List, [], ◌∷◌, take, refl, sym, ap, ◌∙◌, Option, Some, None, arith, eqb-true, slice_get}
use Rattle.std.specs.Prelude.{unwrap_or}
use Rattle.std.proofs.lemmas.List.Sums.{sum_by-cons}
use Rattle.list_laws.proofs.Tests.{true_or_false}
use Rattle.netlist_model.specs.declared.NetId.{NetId}
use Rattle.netlist_model.specs.Lists.{PortView}
use Rattle.netlist_model.specs.Settled.{is_output}
use Rattle.plan_fitting.specs.declared.fitted.FitRow.{FitRow}
use Rattle.stitched_netlist.specs.Sites.{Boundary, row_net, row_sides, sides_of}
use Rattle.stitched_netlist.specs.Sides.{moves, side_from, drives, driver_feeds, feeds_from}
use Rattle.stitched_netlist.specs.ModelRows.{net_at}
use Rattle.stitched_netlist.proofs.ModelMoves.{moved_here, moved_on, fed_here, fed_on}

output_is : (o : Option NetId) (other : NetId) (net : ℕ) → is_output o net ≡ true → (unwrap_or o other).0 ≡ net
output_is None other net e = absurd (cc)
output_is (Some id) other net e = eqb-true id.0 net e

-- a row of this net
pub net_at_is : (B : Boundary) (row : FitRow) (net : ℕ) → is_output (row_net B.ports row) net ≡ true → (net_at B row).0 ≡ net
net_at_is B row net e = output_is (row_net B.ports row) (record { 0 = 0 }) net e

-- the sides of the rows before one
pub sides_next : (ports : List PortView) (side k : ℕ) (row : FitRow) (rows : List FitRow)
    → side + row_sides ports row + sides_of ports (take k rows) ≡ side + sides_of ports (take (suc k) (row ∷ rows))
sides_next ports side k row rows = let one = sum_by-cons (row_sides ports) row (take k rows) in omega arith

pub sides_zero : (ports : List PortView) (side : ℕ) (rows : List FitRow) → side ≡ side + sides_of ports (take 0 rows)
sides_zero ports side rows = let none : sides_of ports (take 0 rows) ≡ 0 = refl in omega arith

-- Nets.

pub record StaysBy (ports : List PortView) (net side : ℕ) (rows : List FitRow) : Type 0 where
  pub same : side_from ports net side rows ≡ net
  pub none : (k : ℕ) (row : FitRow) → slice_get rows k ≡ Some row → moves ports net row ≡ false

pub record MovedBy (ports : List PortView) (net side : ℕ) (rows : List FitRow) : Type 0 where
  pub k : ℕ
  pub row : FitRow
  pub there : slice_get rows k ≡ Some row
  pub moved : moves ports net row ≡ true
  pub is : side_from ports net side rows ≡ side + sides_of ports (take k rows)

none_of : (ports : List PortView) (net : ℕ) (row : FitRow) (rows : List FitRow) → moves ports net row ≡ false
    → ((k : ℕ) (r : FitRow) → slice_get rows k ≡ Some r → moves ports net r ≡ false) → (k : ℕ) (r : FitRow) → slice_get (row ∷ rows) k ≡ Some r → moves ports net r ≡ false
none_of ports net row rows e none zero r there = let same : row ≡ r = cc in ap (moves ports net) (sym same) ∙ e
none_of ports net row rows e none (suc k) r there = none k r there

pub moved_or_stays : (ports : List PortView) (net side : ℕ) (rows : List FitRow) → StaysBy ports net side rows ⊎ MovedBy ports net side rows
moved_or_stays ports net side [] = inl (record { same = refl; none = λ k row there. absurd (cc) })
moved_or_stays ports net side (row ∷ rows) = elim (true_or_false (moves ports net row)) [
  | inl e ↦ inr (record { k = 0; row = row; there = refl; moved = e; is = moved_here ports net side row rows e ∙ sides_zero ports side (row ∷ rows) })
  | inr e ↦ (let on = moved_on ports net side row rows e in elim (moved_or_stays ports net (side + row_sides ports row) rows) [
    | inl stays ↦ inl (record { same = on ∙ stays.same; none = none_of ports net row rows e stays.none })
    | inr by ↦ inr (record { k = suc by.k; row = by.row; there = by.there; moved = by.moved; is = on ∙ by.is ∙ sides_next ports side by.k row rows })
  ])
]

-- a net that some row moves goes to one between the core and the cells
pub moved_past : (ports : List PortView) (net side : ℕ) (rows : List FitRow) (k : ℕ) (row : FitRow) → slice_get rows k ≡ Some row → moves ports net row ≡ true
    → side ≤ side_from ports net side rows
moved_past ports net side rows k row there moved = elim (moved_or_stays ports net side rows) [
  | inl stays ↦ absurd (let none = stays.none k row there in cc)
  | inr by ↦ (let is = by.is in omega arith)
]

-- Drivers.

pub record DrivenBy (B : Boundary) (net side : ℕ) (rows : List FitRow) : Type 0 where
  pub k : ℕ
  pub row : FitRow
  pub there : slice_get rows k ≡ Some row
  pub drives : drives B.ports net row ≡ true
  pub is : feeds_from B net side rows ≡ Some (driver_feeds B (side + sides_of B.ports (take k rows)) row)

pub driven_or_not : (B : Boundary) (net side : ℕ) (rows : List FitRow) → (feeds_from B net side rows ≡ None) ⊎ DrivenBy B net side rows
driven_or_not B net side [] = inl refl
driven_or_not B net side (row ∷ rows) = elim (true_or_false (drives B.ports net row)) [
  | inl e ↦ inr (record {
    k = 0;
    row = row;
    there = refl;
    drives = e;
    is = fed_here B net side row rows e ∙ ap (λ (s : ℕ). Some (driver_feeds B s row)) (sides_zero B.ports side (row ∷ rows));
  })
  | inr e ↦ (let on = fed_on B net side row rows e in elim (driven_or_not B net (side + row_sides B.ports row) rows) [
    | inl none ↦ inl (on ∙ none)
    | inr by ↦ inr (record {
      k = suc by.k;
      row = by.row;
      there = by.there;
      drives = by.drives;
      is = on ∙ by.is ∙ ap (λ (s : ℕ). Some (driver_feeds B s by.row)) (sides_next B.ports side by.k row rows);
    })
  ])
]
