-- A row that stands at its site has numbers as it needs, and so has a driver of the core.
use Rattle.std.proofs.Common.{◌≡◌, ◌≢◌, ℕ, suc, ◌+◌, ◌<◌, ◌≤◌, true, false, List, [], ◌∷◌, map, take, refl, sym, ap, ◌∙◌, subst, inl, inr, Option, Some, None, option_map, arith, slice_get}
use Rattle.std.specs.Prelude.{option_and_then, unwrap_or, ⊤}
use Rattle.std.specs.Option.{option_map_or}
use Rattle.list_laws.proofs.Tests.{both_true, and_true}
use Rattle.cell_library.specs.declared.listed.ListedCell.{ListedCell}
use Rattle.cell_library.specs.Gates.{is_flop}
use Rattle.netlist_model.specs.declared.NetId.{NetId}
use Rattle.netlist_model.specs.declared.Dir.{Dir}
use Rattle.netlist_model.specs.declared.Dir.TheVariants.{Input, Output, Inout}
use Rattle.netlist_model.specs.declared.Feed.{Feed}
use Rattle.netlist_model.specs.declared.Feed.TheVariants.{Net, Const}
use Rattle.netlist_model.specs.Lists.{CellView, direction}
use Rattle.netlist_model.specs.Settled.{is_output}
use Rattle.netlist_model.specs.Formed.{FeedsBelow}
use Rattle.gate_parts.specs.Levels.{AreFeedsUpTo}
use Rattle.netlist_model.specs.Nested.{renamed_net, renamed_feed}
use Rattle.surrounded_core.specs.Above.{StandsOn}
use Rattle.plan_fitting.specs.declared.fitted.FitRow.{FitRow}
use Rattle.stitched_netlist.specs.declared.model.Site.{Site}
use Rattle.stitched_netlist.specs.declared.model.Site.TheVariants as site
use Rattle.stitched_netlist.specs.Sites.{Boundary, row_net, site_of, sides_of, side_at}
use Rattle.stitched_netlist.specs.Sides.{is_moved, core_side, is_driven, level_net, core_feed, feeds_behind, core_cell}
use Rattle.stitched_netlist.specs.ModelRows.{net_at, enable_of}
use Rattle.stitched_netlist.proofs.RanksPlaces.{StandAt, first_at}
use Rattle.stitched_netlist.proofs.RanksLaws.{net_rank, feed_rank, sides_at, sides_ranks, total}
use Rattle.stitched_netlist.proofs.RowsAbove.{RowFits, up_to_more}
use Rattle.stitched_netlist.proofs.Moved.{net_at_is, driven_or_not}
use Rattle.stitched_netlist.proofs.CoreRanks.{side_there, row_in_total, AreCoreRanks, core_up, core_high, IsCoreFeed, feed_up, pin_high}
use Rattle.stitched_netlist.proofs.Placed.{IsUnder, IsPin, HasControl, IsDriverRow, Placed}

-- Operands of the core.

core_feed_up : (rank alone : ℕ → ℕ) (low : ℕ) (B : Boundary) (count : ℕ) → AreCoreRanks rank alone low B count → (core : Option Feed) → IsCoreFeed count core
    → AreFeedsUpTo rank (feed_rank alone low core) (renamed_feed (core_side B) (unwrap_or core (Const false)) ∷ [])
core_feed_up rank alone low B count are None inside = tt
core_feed_up rank alone low B count are (Some feed) inside = feed_up rank alone low B count are feed inside

-- four numbers apart
under_rank : (alone : ℕ → ℕ) (low net : ℕ) (core : Option Feed) → IsUnder alone core (alone net) → feed_rank alone low core + 4 ≤ net_rank alone low net
under_rank alone low net None below = omega arith
under_rank alone low net (Some (Const b)) below = omega arith
under_rank alone low net (Some (Net other)) below = omega arith

-- Control cells.

level_at : (B : Boundary) (row : FitRow) (number : ℕ) → row.control ≡ Some number → (level_net B row).0 ≡ B.first + sides_of B.ports (take number B.rows)
level_at B row number e = ap (λ (o : Option ℕ). option_map_or (side_at B) o B.first) e

level_rank : (rank alone : ℕ → ℕ) (low : ℕ) (B : Boundary) (count : ℕ) → AreCoreRanks rank alone low B count → (row : FitRow) (bound : ℕ) (c : HasControl alone B count row bound)
    → rank (level_net B row).0 ≡ feed_rank alone low c.control.core + 2
level_rank rank alone low B count are row bound c =
    let there = side_there rank alone low B B.first B.rows are.sides c.number c.control c.there in
    let here : StandAt rank (B.first + sides_of B.ports (take c.number B.rows)) (sides_at alone low B c.control site.Control) =
    subst (λ (at : Site). StandAt rank (B.first + sides_of B.ports (take c.number B.rows)) (sides_at alone low B c.control at)) c.at there in
    ap rank (level_at B row c.number c.names)
    ∙ first_at rank (B.first + sides_of B.ports (take c.number B.rows)) (feed_rank alone low c.control.core + 2) (sides_at alone low B c.control site.Control) here refl

level_total : (alone : ℕ → ℕ) (low : ℕ) (B : Boundary) (count : ℕ) (row : FitRow) (bound : ℕ) (c : HasControl alone B count row bound)
    → feed_rank alone low c.control.core + 2 ≤ total (sides_ranks alone low B B.rows)
level_total alone low B count row bound c =
    let part = row_in_total alone low B B.rows c.number c.control c.there in
    let whole : total (sides_at alone low B c.control site.Control) ≤ total (sides_ranks alone low B B.rows) =
    subst (λ (at : Site). total (sides_at alone low B c.control at) ≤ total (sides_ranks alone low B B.rows)) c.at part in
    omega arith

-- Rows.

input_zero : (rank alone : ℕ → ℕ) (low : ℕ) (B : Boundary) (count : ℕ) → AreCoreRanks rank alone low B count → (row : FitRow) → IsPin B count row Input → rank (net_at B row).0 ≡ 0
input_zero rank alone low B count are row pin = are.pins (net_at B row).0 pin.inside ∙ rw pin.side_is refl

inout_own : (rank alone : ℕ → ℕ) (low : ℕ) (B : Boundary) (count : ℕ) → AreCoreRanks rank alone low B count → (row : FitRow) → IsPin B count row Inout
    → rank (net_at B row).0 ≡ net_rank alone low (net_at B row).0
inout_own rank alone low B count are row pin = are.pins (net_at B row).0 pin.inside ∙ rw pin.side_is refl

output_top : (rank alone : ℕ → ℕ) (low : ℕ) (B : Boundary) (count : ℕ) → AreCoreRanks rank alone low B count → (k : ℕ) (row : FitRow) → slice_get B.rows k ≡ Some row
    → (at : Site) → site_of B.ports row ≡ at → is_moved at ≡ true → IsPin B count row Output → rank (net_at B row).0 ≡ suc (total (sides_ranks alone low B B.rows))
output_top rank alone low B count are k row there at is moved pin =
    pin_high rank alone low B count are (net_at B row).0 pin.inside pin.side_is k row there
    (and_true (is_moved (site_of B.ports row)) (is_output (row_net B.ports row) (net_at B row).0) (ap is_moved is ∙ moved) pin.own)

enable_is : (B : Boundary) (row control : FitRow) (number : ℕ) → row.control ≡ Some number → slice_get B.rows number ≡ Some control → enable_of B row ≡ core_feed B control
enable_is B row control number names there =
    ap (λ (o : Option ℕ). option_map_or (core_feed B) (option_and_then (slice_get B.rows) o) (Const false)) names
    ∙ ap (λ (o : Option FitRow). option_map_or (core_feed B) o (Const false)) there

pub row_fits : (rank alone : ℕ → ℕ) (low : ℕ) (B : Boundary) (count : ℕ) → 0 < low → AreCoreRanks rank alone low B count → (k : ℕ) (row : FitRow) → slice_get B.rows k ≡ Some row
    → (at : Site) → site_of B.ports row ≡ at → Placed alone B count row at → RowFits rank alone low B row at
row_fits rank alone low B count some are k row there site.Observed is placed = let zeroth = input_zero rank alone low B count are row placed in omega arith
row_fits rank alone low B count some are k row there site.Input is placed = let zeroth = input_zero rank alone low B count are row placed in omega arith
row_fits rank alone low B count some are k row there site.Output is placed =
    let top = output_top rank alone low B count are k row there site.Output is refl placed in
    let part = row_in_total alone low B B.rows k row there in
    let whole : total (sides_at alone low B row site.Output) ≤ total (sides_ranks alone low B B.rows) =
    subst (λ (at : Site). total (sides_at alone low B row at) ≤ total (sides_ranks alone low B B.rows)) is part in
    omega arith
row_fits rank alone low B count some are k row there site.AddedDriver is placed =
    let top = output_top rank alone low B count are k row there site.AddedDriver is refl placed.0 in
    let part = row_in_total alone low B B.rows k row there in
    let whole : total (sides_at alone low B row site.AddedDriver) ≤ total (sides_ranks alone low B B.rows) =
    subst (λ (at : Site). total (sides_at alone low B row at) ≤ total (sides_ranks alone low B B.rows)) is part in
    let level = level_rank rank alone low B count are row (alone (net_at B row).0) placed.1 in
    let less = level_total alone low B count row (alone (net_at B row).0) placed.1 in
    (omega arith, omega arith)
row_fits rank alone low B count some are k row there site.Driver is placed = core_feed_up rank alone low B count are row.core placed.inside
row_fits rank alone low B count some are k row there site.Inout is placed =
    let c = placed.control in
    let under = under_rank alone low (net_at B row).0 row.core placed.below in
    let under' = under_rank alone low (net_at B row).0 c.control.core c.below in
    let own = inout_own rank alone low B count are row placed.pin in
    record {
      core = core_feed_up rank alone low B count are row.core placed.inside;
      less = omega arith;
      enable = subst (λ (f : Feed). AreFeedsUpTo rank (net_rank alone low (net_at B row).0) (f ∷ [])) (sym (enable_is B row c.control c.number c.names c.there))
          (up_to_more rank (feed_rank alone low c.control.core) (net_rank alone low (net_at B row).0) (core_feed B c.control) (omega arith)
          (core_feed_up rank alone low B count are c.control.core c.inside));
      pin = omega arith;
    }
row_fits rank alone low B count some are k row there site.Control is placed = core_feed_up rank alone low B count are row.core placed

-- Drivers of the core.

-- what the driver of a row takes has a smaller number than its net
record AreDriverFeeds (rank alone : ℕ → ℕ) (low : ℕ) (B : Boundary) (side net : ℕ) (row : FitRow) : Type 0 where
  side_below : rank side < net_rank alone low net
  level_below : rank (level_net B row).0 < net_rank alone low net

driver_below : (rank alone : ℕ → ℕ) (low : ℕ) (B : Boundary) (count : ℕ) → AreCoreRanks rank alone low B count → (side : ℕ) (row : FitRow) (way : Dir) → IsDriverRow alone B count row way
    → rank side ≡ feed_rank alone low row.core + 1 → AreDriverFeeds rank alone low B side (net_at B row).0 row
driver_below rank alone low B count are side row way placed e =
    let c = placed.control in
    let under = under_rank alone low (net_at B row).0 row.core placed.below in
    let under' = under_rank alone low (net_at B row).0 c.control.core c.below in
    let level = level_rank rank alone low B count are row (alone (net_at B row).0) c in
    record { side_below = omega arith; level_below = omega arith }

driver_feeds_below : (rank alone : ℕ → ℕ) (low : ℕ) (B : Boundary) (count : ℕ) → AreCoreRanks rank alone low B count → (side : ℕ) (row : FitRow) (at : Site) → is_driven at ≡ true
    → StandAt rank side (sides_at alone low B row at) → Placed alone B count row at → AreDriverFeeds rank alone low B side (net_at B row).0 row
driver_feeds_below rank alone low B count are side row site.Observed d there placed = absurd (cc)
driver_feeds_below rank alone low B count are side row site.Input d there placed = absurd (cc)
driver_feeds_below rank alone low B count are side row site.Output d there placed = absurd (cc)
driver_feeds_below rank alone low B count are side row site.AddedDriver d there placed = absurd (cc)
driver_feeds_below rank alone low B count are side row site.Driver d there placed =
    driver_below rank alone low B count are side row Output placed (first_at rank side (feed_rank alone low row.core + 1) (sides_at alone low B row site.Driver) there refl)
driver_feeds_below rank alone low B count are side row site.Inout d there placed =
    driver_below rank alone low B count are side row Inout placed (first_at rank side (feed_rank alone low row.core + 1) (sides_at alone low B row site.Inout) there refl)
driver_feeds_below rank alone low B count are side row site.Control d there placed = absurd (cc)

-- Cells of the core.

-- what a cell reads in the core
abbrev pub ReadsInside : ℕ → List Feed → Type 0
ReadsInside count [] = ⊤
ReadsInside count (Net net ∷ feeds) = (net.0 < count) × ReadsInside count feeds
ReadsInside count (Const b ∷ feeds) = ReadsInside count feeds

feeds_below : (rank alone : ℕ → ℕ) (low : ℕ) (B : Boundary) (count : ℕ) → AreCoreRanks rank alone low B count → (net bound : ℕ) → net_rank alone low net ≤ bound
    → (feeds : List Feed) → ReadsInside count feeds → FeedsBelow alone feeds (alone net) → FeedsBelow rank (map (renamed_feed (core_side B)) feeds) bound
feeds_below rank alone low B count are net bound high [] inside below = tt
feeds_below rank alone low B count are net bound high (Net other ∷ feeds) inside below =
    let up = core_up rank alone low B count are other.0 inside.0 in
    let less = below.0 in
    (omega arith, feeds_below rank alone low B count are net bound high feeds inside.1 below.1)
feeds_below rank alone low B count are net bound high (Const b ∷ feeds) inside below = feeds_below rank alone low B count are net bound high feeds inside below

-- a gate of the core, where what it reads alone has smaller numbers than its net, which isn't an input's
pub record IsCoreGate (alone : ℕ → ℕ) (B : Boundary) (count : ℕ) (feeds : List Feed) (net : ℕ) : Type 0 where
  pub inside : net < count
  pub reads : ReadsInside count feeds
  pub below : FeedsBelow alone feeds (alone net)
  pub driven : direction B.ports net ≢ Some Input

abbrev pub AllPlaced : (ℕ → ℕ) → Boundary → ℕ → Type 0
AllPlaced alone B count = (k : ℕ) (row : FitRow) → slice_get B.rows k ≡ Some row → Placed alone B count row (site_of B.ports row)

inputs_of : (alone : ℕ → ℕ) (B : Boundary) (count : ℕ) → AllPlaced alone B count → (k : ℕ) (row : FitRow) → slice_get B.rows k ≡ Some row → site_of B.ports row ≡ site.Input
    → direction B.ports (net_at B row).0 ≡ Some Input
inputs_of alone B count placed k row there is =
    let pin : IsPin B count row Input = subst (λ (at : Site). Placed alone B count row at) is (placed k row there) in pin.side_is

pub core_above : (library : List ListedCell) (rank alone : ℕ → ℕ) (low : ℕ) (B : Boundary) (count : ℕ) → AreCoreRanks rank alone low B count → AllPlaced alone B count → (cell : CellView)
    → ((net : ℕ) → cell.output ≡ Some (record { 0 = net }) → is_flop library cell.kind ≡ false → IsCoreGate alone B count cell.feeds net)
    → is_flop library (core_cell B cell).kind ≡ false → StandsOn rank (core_cell B cell).feeds (core_cell B cell).output
core_above library rank alone low B count are placed cell gate is = by cell.output (λ net e. gate net e is)
  where
    by : (o : Option NetId) → ((net : ℕ) → o ≡ Some (record { 0 = net }) → IsCoreGate alone B count cell.feeds net)
        → StandsOn rank (unwrap_or (option_and_then (feeds_behind B) o) (map (renamed_feed (core_side B)) cell.feeds)) (option_map (renamed_net (core_side B)) o)
    by None gate' = tt
    by (Some id) gate' =
        let net : ℕ = id.0 in
        let g = gate' net refl in
        let high : net_rank alone low net ≤ rank (core_side B net) = core_high rank alone low B count are net g.inside g.driven (inputs_of alone B count placed) in
        elim (driven_or_not B net B.first B.rows) [
          | inl none ↦ rw none (feeds_below rank alone low B count are net (rank (core_side B net)) high cell.feeds g.reads g.below)
          | inr d ↦ (let both = both_true (is_driven (site_of B.ports d.row)) (is_output (row_net B.ports d.row) net) d.drives in
              let side : ℕ = B.first + sides_of B.ports (take d.k B.rows) in
              let at : (net_at B d.row).0 ≡ net = net_at_is B d.row net both.1 in
              let here = driver_feeds_below rank alone low B count are side d.row (site_of B.ports d.row) both.0
              (side_there rank alone low B B.first B.rows are.sides d.k d.row d.there) (placed d.k d.row d.there) in
              let mine : AreDriverFeeds rank alone low B side net d.row = subst (λ (n : ℕ). AreDriverFeeds rank alone low B side n d.row) at here in
              let a = mine.side_below in
              let b = mine.level_below in
              rw d.is (omega arith, (omega arith, tt)))
        ]
