-- What stands behind a net between: the pair of its row.
use Rattle.std.proofs.Common.{◌≡◌, ◌≢◌, ℕ, ◌+◌, ◌<◌, ◌≤◌, ◌⊎◌, inl, inr, true, false, List, [], ◌∷◌, ◌++◌, refl, ◌∙◌, eq-eqb, ne_eqb, Some, None, arith, ◌==◌}
use Rattle.std.specs.Option.{unwrap_or}
use Rattle.list_laws.proofs.Tests.{both_true, true_or_false}
use Rattle.netlist_model.specs.declared.Feed.{Feed}
use Rattle.netlist_model.specs.declared.Feed.TheVariants.{Net}
use Rattle.netlist_model.specs.Settled.{is_output}
use Rattle.plan_fitting.specs.declared.fitted.FitRow.{FitRow}
use Rattle.stitched_netlist.specs.declared.model.Site.{Site}
use Rattle.stitched_netlist.specs.declared.model.Site.TheVariants as site
use Rattle.stitched_netlist.specs.Sites.{Boundary, row_net, site_of, side_count, row_sides, sides_of}
use Rattle.stitched_netlist.specs.Sides.{is_moved, moves, side_from, core_feed}
use Rattle.stitched_netlist.specs.ModelRows.{net_at}
use Rattle.stitched_netlist.proofs.ModelMoves.{output_is, moved_here, moved_on, side_range}
use Rattle.strip_model.specs.Pairs.{Pair, pair, pair_at, pairs_from, find_pair}

-- A pair before others.

pub find_here : (net : ℕ) (core : Feed) (pairs : List Pair) → find_pair net (pair net core ++ pairs) ≡ Some core
find_here net core pairs =
    let same : net == net ≡ true = eq-eqb net net refl in rw same refl

find_on : (net other : ℕ) (core : Feed) (pairs : List Pair) → net ≢ other → find_pair net (pair other core ++ pairs) ≡ find_pair net pairs
find_on net other core pairs apart =
    let differs : net == other ≡ false = ne_eqb net other apart in rw differs refl

-- a net that isn't the first between of the row, where it has one
pub find_past : (B : Boundary) (net side : ℕ) (row : FitRow) (at : Site) (pairs : List Pair) → (0 < side_count at → net ≢ side)
    → find_pair net (pair_at B side row at ++ pairs) ≡ find_pair net pairs
find_past B net side row site.Observed pairs apart = refl
find_past B net side row site.Input pairs apart = find_on net side (Net (net_at B row)) pairs (apart (omega arith))
find_past B net side row site.Output pairs apart = find_on net side (Net (net_at B row)) pairs (apart (omega arith))
find_past B net side row site.AddedDriver pairs apart = find_on net side (Net (net_at B row)) pairs (apart (omega arith))
find_past B net side row site.Driver pairs apart = find_on net side (core_feed B row) pairs (apart (omega arith))
find_past B net side row site.Inout pairs apart = find_on net side (core_feed B row) pairs (apart (omega arith))
find_past B net side row site.Control pairs apart = find_on net side (core_feed B row) pairs (apart (omega arith))

-- Nets before those between.

pub find_below : (B : Boundary) (net side : ℕ) (rows : List FitRow) → net < side → find_pair net (pairs_from B side rows) ≡ None
find_below B net side [] low = refl
find_below B net side (row ∷ rows) low =
    find_past B net side row (site_of B.ports row) (pairs_from B (side + row_sides B.ports row) rows) (λ some same. omega (arith, low, same))
    ∙ find_below B net (side + row_sides B.ports row) rows (omega (arith, low))

-- Nets that moved.

-- where a row moves the net, it has the pair of the net
moved_pair : (B : Boundary) (net side : ℕ) (row : FitRow) (at : Site) (pairs : List Pair) → is_moved at ≡ true → find_pair side (pair_at B side row at ++ pairs) ≡ Some (Net (net_at B row))
moved_pair B net side row site.Observed pairs e = absurd (cc)
moved_pair B net side row site.Input pairs e = find_here side (Net (net_at B row)) pairs
moved_pair B net side row site.Output pairs e = find_here side (Net (net_at B row)) pairs
moved_pair B net side row site.AddedDriver pairs e = find_here side (Net (net_at B row)) pairs
moved_pair B net side row site.Driver pairs e = absurd (cc)
moved_pair B net side row site.Inout pairs e = absurd (cc)
moved_pair B net side row site.Control pairs e = absurd (cc)

net_is : (B : Boundary) (net : ℕ) (row : FitRow) → is_output (row_net B.ports row) net ≡ true → net_at B row ≡ record { 0 = net }
net_is B net row e =
    let at = output_is (row_net B.ports row) net e in rw at refl

pub moved_found : (B : Boundary) (net side : ℕ) (rows : List FitRow) → net < side
    → unwrap_or (find_pair (side_from B.ports net side rows) (pairs_from B side rows)) (Net (record { 0 = side_from B.ports net side rows })) ≡ Net (record { 0 = net })
moved_found B net side [] low = refl
moved_found B net side (row ∷ rows) low = elim (true_or_false (moves B.ports net row)) [
  | inl e ↦
      (let both = both_true (is_moved (site_of B.ports row)) (is_output (row_net B.ports row) net) e in
      let here = moved_here B.ports net side row rows e in
      let found = moved_pair B net side row (site_of B.ports row) (pairs_from B (side + row_sides B.ports row) rows) both.0 in
      let is = net_is B net row both.1 in
      rw (here, found, is) refl)
  | inr e ↦
      (let next : ℕ = side + row_sides B.ports row in
      let to : ℕ = side_from B.ports net next rows in
      let on = moved_on B.ports net side row rows e in
      let past : find_pair to (pairs_from B side (row ∷ rows)) ≡ find_pair to (pairs_from B next rows) =
      find_past B to side row (site_of B.ports row) (pairs_from B next rows) (apart to (side_range B.ports net next rows)) in
      let rest = moved_found B net next rows (omega (arith, low)) in
      rw (on, past) rest)
]
  where
    apart : (to : ℕ) → (to ≡ net) ⊎ ((side + row_sides B.ports row ≤ to) × (to < side + row_sides B.ports row + sides_of B.ports rows)) → 0 < row_sides B.ports row → to ≢ side
    apart to is some same = elim is [
      | inl stays ↦ absurd (omega (arith, low, stays, same))
      | inr past ↦ (let from = past.0 in absurd (omega (arith, from, some, same)))
    ]
