-- Each cell of the core behind its boundary cells, undone by the pairs of the rows.
use Rattle.std.proofs.Common.{◌≡◌, ℕ, suc, zero, ◌+◌, inl, inr, true, List, [], ◌∷◌, take, map, refl, sym, ◌∙◌, ap, Option, Some, None, slice_get, arith, option_map, option_and_then}
use Rattle.std.specs.Option.{unwrap_or}
use Rattle.list_laws.proofs.Tests.{both_true, true_or_false}
use Rattle.netlist_model.specs.declared.NetId.{NetId}
use Rattle.netlist_model.specs.declared.Feed.{Feed}
use Rattle.netlist_model.specs.declared.Feed.TheVariants.{Net, Const}
use Rattle.netlist_model.specs.Lists.{CellView}
use Rattle.netlist_model.specs.Nested.{renamed_net, renamed_feed}
use Rattle.plan_fitting.specs.declared.fitted.FitRow.{FitRow}
use Rattle.stitched_netlist.specs.declared.model.Site.{Site}
use Rattle.stitched_netlist.specs.declared.model.Site.TheVariants as site
use Rattle.stitched_netlist.specs.Sites.{Boundary, site_of, row_sides, sides_of, side_at}
use Rattle.stitched_netlist.specs.Sides.{is_driven, drives, level_net, driver_feeds, feeds_from, feeds_behind, core_side, core_cell, core_feed}
use Rattle.stitched_netlist.proofs.ModelMoves.{sides_cons, fed_here, fed_on}
use Rattle.strip_model.specs.Pairs.{pair, pair_at, pairs_from, pairs_of, find_pair, once, twice, IsUndone, IsFeedUnder, CanBeUndone}
use Rattle.strip_model.proofs.FoundPairs.{find_here, find_past, find_below, moved_found}

-- Operands.

once_moved : (B : Boundary) (feed : Feed) → IsFeedUnder B.first feed → once (pairs_of B) (renamed_feed (core_side B) feed) ≡ feed
once_moved B (Net net) low = moved_found B net.0 B.first B.rows low
once_moved B (Const value) low = refl

once_own : (B : Boundary) (feed : Feed) → IsFeedUnder B.first feed → once (pairs_of B) feed ≡ feed
once_own B (Net net) low =
    let none = find_below B net.0 B.first B.rows low in rw none refl
once_own B (Const value) low = refl

pub twice_moved : (B : Boundary) (feed : Feed) → IsFeedUnder B.first feed → twice (pairs_of B) (renamed_feed (core_side B) feed) ≡ feed
twice_moved B feed low = ap (once (pairs_of B)) (once_moved B feed low) ∙ once_own B feed low

all_moved : (B : Boundary) (feeds : List Feed) → ((place : ℕ) (feed : Feed) → slice_get feeds place ≡ Some feed → IsFeedUnder B.first feed) → map (twice (pairs_of B)) (map (renamed_feed (core_side B)) feeds) ≡ feeds
all_moved B [] low = refl
all_moved B (feed ∷ feeds) low =
    let here = twice_moved B feed (low 0 feed refl) in
    let rest = all_moved B feeds (λ place one at. low (suc place) one at) in rw (here, rest) refl

-- The operands of a driver.

-- the pair of a row that has what the core gives it
pair_found : (B : Boundary) (side : ℕ) (rows : List FitRow) (k : ℕ) (row : FitRow) → slice_get rows k ≡ Some row
    → ((at : ℕ) → pair_at B at row (site_of B.ports row) ≡ pair at (core_feed B row))
    → find_pair (side + sides_of B.ports (take k rows)) (pairs_from B side rows) ≡ Some (core_feed B row)
pair_found B side [] k row at has = absurd (cc)
pair_found B side (r ∷ rs) zero row at has =
    let same : r ≡ row = grind arith in
    let none : side + sides_of B.ports (take 0 (r ∷ rs)) ≡ side = omega arith in
    let here = find_here side (core_feed B row) (pairs_from B (side + row_sides B.ports row) rs) in
    let own = has side in
    rw (none, same, own) here
pair_found B side (r ∷ rs) (suc k) row at has =
    let net : ℕ = side + sides_of B.ports (take (suc k) (r ∷ rs)) in
    let more = sides_cons B.ports r (take k rs) in
    let same : net ≡ side + row_sides B.ports r + sides_of B.ports (take k rs) = omega (arith, more) in
    let past = find_past B net side r (site_of B.ports r) (pairs_from B (side + row_sides B.ports r) rs) (λ some e. omega (arith, more, some, e)) in
    past ∙ ap (λ (n : ℕ). find_pair n (pairs_from B (side + row_sides B.ports r) rs)) same ∙ pair_found B (side + row_sides B.ports r) rs k row at has

-- a row of a driver, and of a control cell, is one
driven_pair : (B : Boundary) (row : FitRow) (at : Site) → is_driven at ≡ true → (side : ℕ) → pair_at B side row at ≡ pair side (core_feed B row)
driven_pair B row site.Observed e side = absurd (cc)
driven_pair B row site.Input e side = absurd (cc)
driven_pair B row site.Output e side = absurd (cc)
driven_pair B row site.AddedDriver e side = absurd (cc)
driven_pair B row site.Driver e side = refl
driven_pair B row site.Inout e side = refl
driven_pair B row site.Control e side = absurd (cc)

-- the row that gives a driver its operands
pub record IsFedBy (B : Boundary) (net side : ℕ) (rows : List FitRow) (feeds : List Feed) : Type 0 where
  pub number : ℕ
  pub row : FitRow
  pub there : slice_get rows number ≡ Some row
  pub drives : drives B.ports net row ≡ true
  pub feeds_are : feeds ≡ driver_feeds B (side + sides_of B.ports (take number rows)) row

some_is : (a b : List Feed) → ◌≡◌ {A = Option (List Feed)} (Some a) (Some b) → a ≡ b
some_is a b e = cc

pub fed_by : (B : Boundary) (net side : ℕ) (rows : List FitRow) (feeds : List Feed) → feeds_from B net side rows ≡ Some feeds → IsFedBy B net side rows feeds
fed_by B net side [] feeds e = absurd (cc)
fed_by B net side (row ∷ rows) feeds e = elim (true_or_false (drives B.ports net row)) [
  | inl d ↦
      (let is = some_is (driver_feeds B side row) feeds (sym (fed_here B net side row rows d) ∙ e) in
      let none : side + sides_of B.ports (take 0 (row ∷ rows)) ≡ side = omega arith in
      record { number = 0; row = row; there = refl; drives = d; feeds_are = rw none (sym is) })
  | inr d ↦
      (let rest = fed_by B net (side + row_sides B.ports row) rows feeds (sym (fed_on B net side row rows d) ∙ e) in
      let more = sides_cons B.ports row (take rest.number rows) in
      let same : side + row_sides B.ports row + sides_of B.ports (take rest.number rows) ≡ side + sides_of B.ports (take (suc rest.number) (row ∷ rows)) = omega (arith, more) in
      record {
        number = suc rest.number;
        row = rest.row;
        there = rest.there;
        drives = rest.drives;
        feeds_are = rest.feeds_are ∙ ap (λ (at : ℕ). driver_feeds B at rest.row) same;
      })
]

-- what the core gives, undone
core_twice : (B : Boundary) (row : FitRow) (datum : Feed) (net : ℕ) → find_pair net (pairs_of B) ≡ Some (core_feed B row) → row.core ≡ Some datum → IsFeedUnder B.first datum
    → twice (pairs_of B) (Net (record { 0 = net })) ≡ datum
core_twice B row datum net found core low =
    let is : core_feed B row ≡ renamed_feed (core_side B) datum = rw core refl in
    let once_is : once (pairs_of B) (Net (record { 0 = net })) ≡ renamed_feed (core_side B) datum = rw (found) is in
    ap (once (pairs_of B)) once_is ∙ once_moved B datum low

driver_undone : (B : Boundary) (cell : CellView) (net : NetId) (feeds : List Feed) → CanBeUndone B cell → cell.output ≡ Some net → feeds_behind B net ≡ Some feeds
    → map (twice (pairs_of B)) feeds ≡ cell.feeds
driver_undone B cell net feeds can out e =
    let fed = fed_by B net.0 B.first B.rows feeds e in
    let of = can.driver fed.number fed.row net fed.there out fed.drives in
    let site_driven = (both_true (is_driven (site_of B.ports fed.row)) _ fed.drives).0 in
    let low : (place : ℕ) (feed : Feed) → slice_get (of.datum ∷ of.operand ∷ []) place ≡ Some feed → IsFeedUnder B.first feed = rw (← of.feeds) can.feeds in
    let value = pair_found B B.first B.rows fed.number fed.row fed.there (driven_pair B fed.row (site_of B.ports fed.row) site_driven) in
    let level = pair_found B B.first B.rows of.number of.control of.there (control_pair B of.control of.is) in
    let at : (level_net B fed.row).0 ≡ side_at B of.number = rw of.names refl in
    let one = core_twice B fed.row of.datum (B.first + sides_of B.ports (take fed.number B.rows)) value of.core (low 0 of.datum refl) in
    let two = core_twice B of.control of.operand (B.first + sides_of B.ports (take of.number B.rows)) level of.takes (low 1 of.operand refl) in
    rw (fed.feeds_are, of.feeds, at) (rw (one, two) refl)
  where
    control_pair : (B : Boundary) (row : FitRow) → site_of B.ports row ≡ site.Control → (side : ℕ) → pair_at B side row (site_of B.ports row) ≡ pair side (core_feed B row)
    control_pair B row is side = rw is refl

-- Cells.

pub cell_undone : (B : Boundary) (cell : CellView) → CanBeUndone B cell → IsUndone (pairs_of B) (core_cell B cell) cell
cell_undone B cell can = record { kind = refl; name = refl; feeds = feeds cell.output refl; output = output cell.output refl }
  where
    by : (net : NetId) → cell.output ≡ Some net → (found : Option (List Feed)) → feeds_behind B net ≡ found
        → map (twice (pairs_of B)) (unwrap_or found (map (renamed_feed (core_side B)) cell.feeds)) ≡ cell.feeds
    by net out None e = all_moved B cell.feeds can.feeds
    by net out (Some fed) e = driver_undone B cell net fed can out e

    feeds : (out : Option NetId) → cell.output ≡ out
        → map (twice (pairs_of B)) (unwrap_or (option_and_then (feeds_behind B) cell.output) (map (renamed_feed (core_side B)) cell.feeds)) ≡ cell.feeds
    feeds None e = rw e (all_moved B cell.feeds can.feeds)
    feeds (Some net) e = rw e (by net e (feeds_behind B net) refl)

    output : (out : Option NetId) → cell.output ≡ out
        → option_map (λ (net : NetId). twice (pairs_of B) (Net net)) (option_map (renamed_net (core_side B)) cell.output) ≡ option_map (λ (net : NetId). Net net) cell.output
    output None e = rw e refl
    output (Some net) e = rw e (ap Some (twice_moved B (Net net) (can.output net e)))
