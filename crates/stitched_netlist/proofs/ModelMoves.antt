-- The nets between the core and the cells of some rows, and what the rows make of a net and of its driver.
use Rattle.std.proofs.Common.{◌≡◌, ℕ, suc, zero, ◌+◌, ◌*◌, ◌<◌, ◌≤◌, ◌⊎◌, inl, inr, true, false, List, [], ◌∷◌, length, take, refl, ◌∙◌, ap, eqb-true, Option, Some, None, slice_get, arith}
use Rattle.std.proofs.lemmas.List.Sums.{sum_by-cons}
use Rattle.list_laws.proofs.Tests.{both_true, true_or_false}
use Rattle.netlist_model.specs.declared.NetId.{NetId}
use Rattle.netlist_model.specs.Lists.{PortView}
use Rattle.netlist_model.specs.Settled.{is_output}
use Rattle.plan_fitting.specs.declared.fitted.FitRow.{FitRow}
use Rattle.stitched_netlist.specs.declared.model.Site.{Site}
use Rattle.stitched_netlist.specs.declared.model.Site.TheVariants as site
use Rattle.stitched_netlist.specs.Sites.{Boundary, row_net, site_of, side_count, row_sides, sides_of}
use Rattle.stitched_netlist.specs.Sides.{is_moved, moves, side_from, drives, driver_feeds, feeds_from}

-- the bit of a row that is on a net has it
pub output_is : (output : Option NetId) (net : ℕ) → is_output output net ≡ true → output ≡ Some (record { 0 = net })
output_is None net e = absurd (cc)
output_is (Some output) net e =
    let wrap : ℕ → Option NetId = λ n. Some (record { 0 = n }) in ap wrap (eqb-true output.0 net e)

-- How many.

pub sides_cons : (ports : List PortView) (row : FitRow) (rows : List FitRow) → sides_of ports (row ∷ rows) ≡ row_sides ports row + sides_of ports rows
sides_cons ports row rows = sum_by-cons (row_sides ports) row rows

pub count_few : (at : Site) → side_count at ≤ 2
count_few site.Observed = omega arith
count_few site.Input = omega arith
count_few site.Output = omega arith
count_few site.AddedDriver = omega arith
count_few site.Driver = omega arith
count_few site.Inout = omega arith
count_few site.Control = omega arith

-- two for a row at most
pub sides_few : (ports : List PortView) (rows : List FitRow) → sides_of ports rows ≤ 2 * length rows
sides_few ports [] = omega arith
sides_few ports (row ∷ rows) =
    let more = sides_cons ports row rows in
    let few = count_few (site_of ports row) in
    let rest = sides_few ports rows in omega (arith, more, few, rest)

-- those of a row are among them
pub sides_within : (ports : List PortView) (rows : List FitRow) (k : ℕ) (row : FitRow) → slice_get rows k ≡ Some row
    → sides_of ports (take k rows) + row_sides ports row ≤ sides_of ports rows
sides_within ports [] k row at = absurd (cc)
sides_within ports (r ∷ rs) zero row at =
    let same : r ≡ row = grind arith in
    let more = sides_cons ports r rs in rw (← same) (omega (arith, more))
sides_within ports (r ∷ rs) (suc k) row at =
    let rest = sides_within ports rs k row at in
    let more = sides_cons ports r rs in
    let front = sides_cons ports r (take k rs) in omega (arith, rest, more, front)

-- a row that moves a net has a net between
pub moved_counts : (at : Site) → is_moved at ≡ true → 0 < side_count at
moved_counts site.Observed e = absurd (cc)
moved_counts site.Input e = omega arith
moved_counts site.Output e = omega arith
moved_counts site.AddedDriver e = omega arith
moved_counts site.Driver e = absurd (cc)
moved_counts site.Inout e = absurd (cc)
moved_counts site.Control e = absurd (cc)

pub moves_some : (ports : List PortView) (net : ℕ) (row : FitRow) → moves ports net row ≡ true → (0 < row_sides ports row) × (is_output (row_net ports row) net ≡ true)
moves_some ports net row e =
    let both = both_true (is_moved (site_of ports row)) (is_output (row_net ports row) net) e in (moved_counts (site_of ports row) both.0, both.1)

-- The net in the place of another: the first row that moves it decides.

pub moved_here : (ports : List PortView) (net side : ℕ) (row : FitRow) (rows : List FitRow) → moves ports net row ≡ true → side_from ports net side (row ∷ rows) ≡ side
moved_here ports net side row rows e = rw e refl

pub moved_on : (ports : List PortView) (net side : ℕ) (row : FitRow) (rows : List FitRow) → moves ports net row ≡ false
    → side_from ports net side (row ∷ rows) ≡ side_from ports net (side + row_sides ports row) rows
moved_on ports net side row rows e = rw e refl

-- it is the net, or one of those between
pub side_range : (ports : List PortView) (net side : ℕ) (rows : List FitRow)
    → (side_from ports net side rows ≡ net) ⊎ ((side ≤ side_from ports net side rows) × (side_from ports net side rows < side + sides_of ports rows))
side_range ports net side [] = inl refl
side_range ports net side (row ∷ rows) = elim (true_or_false (moves ports net row)) [
  | inl e ↦
      (let here = moved_here ports net side row rows e in
      let some = (moves_some ports net row e).0 in
      let more = sides_cons ports row rows in inr (omega (arith, here), omega (arith, here, some, more)))
  | inr e ↦
      (let on = moved_on ports net side row rows e in
      let more = sides_cons ports row rows in
      elim (side_range ports net (side + row_sides ports row) rows) [
        | inl stays ↦ inl (on ∙ stays)
        | inr past ↦
            (let low = past.0 in
            let high = past.1 in inr (omega (arith, on, low), omega (arith, on, high, more)))
      ])
]

-- no row moves it
pub side_stays : (ports : List PortView) (net side : ℕ) (rows : List FitRow) → ((k : ℕ) (row : FitRow) → slice_get rows k ≡ Some row → moves ports net row ≡ false)
    → side_from ports net side rows ≡ net
side_stays ports net side [] none = refl
side_stays ports net side (row ∷ rows) none =
    moved_on ports net side row rows (none 0 row refl) ∙ side_stays ports net (side + row_sides ports row) rows (λ k r e. none (suc k) r e)

-- The operands of a driver: the first row that is of it decides.

pub fed_here : (B : Boundary) (net side : ℕ) (row : FitRow) (rows : List FitRow) → drives B.ports net row ≡ true → feeds_from B net side (row ∷ rows) ≡ Some (driver_feeds B side row)
fed_here B net side row rows e = rw e refl

pub fed_on : (B : Boundary) (net side : ℕ) (row : FitRow) (rows : List FitRow) → drives B.ports net row ≡ false
    → feeds_from B net side (row ∷ rows) ≡ feeds_from B net (side + row_sides B.ports row) rows
fed_on B net side row rows e = rw e refl

-- no row is of it
pub feeds_none : (B : Boundary) (net side : ℕ) (rows : List FitRow) → ((k : ℕ) (row : FitRow) → slice_get rows k ≡ Some row → drives B.ports net row ≡ false)
    → feeds_from B net side rows ≡ None
feeds_none B net side [] none = refl
feeds_none B net side (row ∷ rows) none =
    fed_on B net side row rows (none 0 row refl) ∙ feeds_none B net (side + row_sides B.ports row) rows (λ k r e. none (suc k) r e)
