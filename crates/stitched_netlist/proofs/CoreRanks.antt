-- The numbers of the core's nets behind the boundary cells, and of the nets between.
use Rattle.std.proofs.Common.{◌≡◌, ◌≢◌, ℕ, zero, suc, ◌+◌, ◌<◌, ◌≤◌, inl, inr, ◌==◌, Bool, true, false, List, [], ◌∷◌, ◌++◌, take, refl, sym, ap, ◌∙◌, subst, Option, Some, None, arith, eq-eqb, slice_get}
use Rattle.std.proofs.lemmas.List.Sums.{sum_by-cons}
use Rattle.list_laws.proofs.Tests.{both_true}
use Rattle.netlist_model.specs.declared.Dir.{Dir}
use Rattle.netlist_model.specs.declared.Dir.TheVariants.{Input, Output, Inout}
use Rattle.netlist_model.specs.declared.Feed.{Feed}
use Rattle.netlist_model.specs.declared.Feed.TheVariants.{Net, Const}
use Rattle.netlist_model.specs.Lists.{direction}
use Rattle.netlist_model.specs.Settled.{is_output}
use Rattle.gate_parts.specs.Levels.{AreFeedsUpTo}
use Rattle.netlist_model.specs.Nested.{renamed_feed}
use Rattle.plan_fitting.specs.declared.fitted.FitRow.{FitRow}
use Rattle.stitched_netlist.specs.declared.model.Site.{Site}
use Rattle.stitched_netlist.specs.declared.model.Site.TheVariants as site
use Rattle.stitched_netlist.specs.Sites.{Boundary, row_net, site_of, row_sides, sides_of}
use Rattle.stitched_netlist.specs.Sides.{is_moved, moves, core_side}
use Rattle.stitched_netlist.specs.ModelRows.{net_at}
use Rattle.stitched_netlist.proofs.RanksPlaces.{StandAt, moved_at, first_at}
use Rattle.stitched_netlist.proofs.RanksLaws.{net_rank, feed_rank, sides_at, sides_ranks, total, pin_by, pin_rank}
use Rattle.stitched_netlist.proofs.RowsAbove.{sides_front, sides_behind}
use Rattle.stitched_netlist.proofs.Moved.{net_at_is, moved_or_stays, moved_past}

-- The nets between.

pub side_there : (rank alone : ℕ → ℕ) (low : ℕ) (B : Boundary) (side : ℕ) (rows : List FitRow) → StandAt rank side (sides_ranks alone low B rows)
    → (k : ℕ) (row : FitRow) → slice_get rows k ≡ Some row → StandAt rank (side + sides_of B.ports (take k rows)) (sides_at alone low B row (site_of B.ports row))
side_there rank alone low B side [] at k row there = absurd (cc)
side_there rank alone low B side (r ∷ rows) at zero row there =
    let same : r ≡ row = cc in
    let none : sides_of B.ports (take 0 (r ∷ rows)) ≡ 0 = refl in
    moved_at rank side (side + sides_of B.ports (take 0 (r ∷ rows))) (sides_at alone low B row (site_of B.ports row)) (omega arith)
    (subst (λ (x : FitRow). StandAt rank side (sides_at alone low B x (site_of B.ports x))) same (sides_front rank alone low B side r rows at))
side_there rank alone low B side (r ∷ rows) at (suc k) row there =
    let one = sum_by-cons (row_sides B.ports) r (take k rows) in
    moved_at rank (side + row_sides B.ports r + sides_of B.ports (take k rows)) (side + sides_of B.ports (take (suc k) (r ∷ rows))) (sides_at alone low B row (site_of B.ports row)) (omega arith)
    (side_there rank alone low B (side + row_sides B.ports r) rows (sides_behind rank alone low B side r rows at) k row there)

-- one of a list is no more than all
pub in_total : (xs : List ℕ) (k x : ℕ) → slice_get xs k ≡ Some x → x ≤ total xs
in_total [] k x h = absurd (cc)
in_total (y ∷ ys) zero x h = let same : y ≡ x = cc in omega arith
in_total (y ∷ ys) (suc k) x h = let more = in_total ys k x h in omega arith

pub total_back : (xs ys : List ℕ) → total ys ≤ total (xs ++ ys)
total_back [] ys = omega arith
total_back (x ∷ xs) ys = let more = total_back xs ys in omega arith

pub total_front : (xs ys : List ℕ) → total xs ≤ total (xs ++ ys)
total_front [] ys = omega arith
total_front (x ∷ xs) ys = let more = total_front xs ys in omega arith

pub row_in_total : (alone : ℕ → ℕ) (low : ℕ) (B : Boundary) (rows : List FitRow) (k : ℕ) (row : FitRow) → slice_get rows k ≡ Some row
    → total (sides_at alone low B row (site_of B.ports row)) ≤ total (sides_ranks alone low B rows)
row_in_total alone low B [] k row there = absurd (cc)
row_in_total alone low B (r ∷ rows) zero row there =
    let same : r ≡ row = cc in
    subst (λ (x : FitRow). total (sides_at alone low B x (site_of B.ports x)) ≤ total (sides_ranks alone low B (r ∷ rows))) same
    (total_front (sides_at alone low B r (site_of B.ports r)) (sides_ranks alone low B rows))
row_in_total alone low B (r ∷ rows) (suc k) row there =
    let more = row_in_total alone low B rows k row there in
    let back = total_back (sides_at alone low B r (site_of B.ports r)) (sides_ranks alone low B rows) in
    omega arith

-- The numbers of pins and of the nets between, taken together.

pub record AreCoreRanks (rank alone : ℕ → ℕ) (low : ℕ) (B : Boundary) (count : ℕ) : Type 0 where
  pub first : count ≤ B.first
  pub pins : (net : ℕ) → net < count → rank net ≡ pin_rank alone low B net
  pub sides : StandAt rank B.first (sides_ranks alone low B B.rows)

stays_by : (dir : Option Dir) (own top : ℕ) → pin_by dir true own top ≤ own
stays_by None own top = omega arith
stays_by (Some Input) own top = omega arith
stays_by (Some Inout) own top = omega arith
stays_by (Some Output) own top = omega arith

driven_by : (dir : Option Dir) (own top : ℕ) → dir ≢ Some Input → pin_by dir true own top ≡ own
driven_by None own top other = refl
driven_by (Some Input) own top other = absurd (other refl)
driven_by (Some Inout) own top other = refl
driven_by (Some Output) own top other = refl

-- what a row that moves a net gives it
moved_up : (alone : ℕ → ℕ) (low : ℕ) (B : Boundary) (row : FitRow) (net : ℕ) (at : Site) → is_moved at ≡ true → (net_at B row).0 ≡ net
    → (x : ℕ) × (slice_get (sides_at alone low B row at) 0 ≡ Some x) × (x ≤ net_rank alone low net)
moved_up alone low B row net site.Observed m e = absurd (cc)
moved_up alone low B row net site.Input m e = (low, refl, omega arith)
moved_up alone low B row net site.Output m e =
    let same : alone (net_at B row).0 ≡ alone net = ap alone e in (net_rank alone low (net_at B row).0, refl, omega arith)
moved_up alone low B row net site.AddedDriver m e =
    let same : alone (net_at B row).0 ≡ alone net = ap alone e in (net_rank alone low (net_at B row).0, refl, omega arith)
moved_up alone low B row net site.Driver m e = absurd (cc)
moved_up alone low B row net site.Inout m e = absurd (cc)
moved_up alone low B row net site.Control m e = absurd (cc)

-- unless it stands at an input
moved_high : (alone : ℕ → ℕ) (low : ℕ) (B : Boundary) (row : FitRow) (net : ℕ) (at : Site) → is_moved at ≡ true → at ≢ site.Input → (net_at B row).0 ≡ net
    → slice_get (sides_at alone low B row at) 0 ≡ Some (net_rank alone low net)
moved_high alone low B row net site.Observed m other e = absurd (cc)
moved_high alone low B row net site.Input m other e = absurd (other refl)
moved_high alone low B row net site.Output m other e = ap (λ (n : ℕ). Some (net_rank alone low n)) e
moved_high alone low B row net site.AddedDriver m other e = ap (λ (n : ℕ). Some (net_rank alone low n)) e
moved_high alone low B row net site.Driver m other e = absurd (cc)
moved_high alone low B row net site.Inout m other e = absurd (cc)
moved_high alone low B row net site.Control m other e = absurd (cc)

stays_rank : (alone : ℕ → ℕ) (low : ℕ) (B : Boundary) (net : ℕ) → core_side B net ≡ net
    → pin_rank alone low B net ≡ pin_by (direction B.ports net) true (net_rank alone low net) (suc (total (sides_ranks alone low B B.rows)))
stays_rank alone low B net e =
    ap (λ (b : Bool). pin_by (direction B.ports net) b (net_rank alone low net) (suc (total (sides_ranks alone low B B.rows)))) (eq-eqb (core_side B net) net e)

-- behind the boundary cells a net of the core has no greater number than its own
pub core_up : (rank alone : ℕ → ℕ) (low : ℕ) (B : Boundary) (count : ℕ) → AreCoreRanks rank alone low B count → (net : ℕ) → net < count
    → rank (core_side B net) ≤ net_rank alone low net
core_up rank alone low B count are net inside = elim (moved_or_stays B.ports net B.first B.rows) [
  | inl stays ↦
      (let same : rank (core_side B net) ≡ rank net = ap rank stays.same in
      let pin = are.pins net inside in
      let is = stays_rank alone low B net stays.same in
      let up = stays_by (direction B.ports net) (net_rank alone low net) (suc (total (sides_ranks alone low B B.rows))) in
      omega arith)
  | inr by ↦
      (let both = both_true (is_moved (site_of B.ports by.row)) (is_output (row_net B.ports by.row) net) by.moved in
      let up = moved_up alone low B by.row net (site_of B.ports by.row) both.0 (net_at_is B by.row net both.1) in
      let same : rank (core_side B net) ≡ rank (B.first + sides_of B.ports (take by.k B.rows)) = ap rank by.is in
      let here = first_at rank (B.first + sides_of B.ports (take by.k B.rows)) up.0 (sides_at alone low B by.row (site_of B.ports by.row))
      (side_there rank alone low B B.first B.rows are.sides by.k by.row by.there) up.1 in
      let less = up.2 in
      omega arith)
]

-- and no smaller one, unless it is an input's
pub core_high : (rank alone : ℕ → ℕ) (low : ℕ) (B : Boundary) (count : ℕ) → AreCoreRanks rank alone low B count → (net : ℕ) → net < count → direction B.ports net ≢ Some Input
    → ((k : ℕ) (row : FitRow) → slice_get B.rows k ≡ Some row → site_of B.ports row ≡ site.Input → direction B.ports (net_at B row).0 ≡ Some Input)
    → net_rank alone low net ≤ rank (core_side B net)
core_high rank alone low B count are net inside driven inputs = elim (moved_or_stays B.ports net B.first B.rows) [
  | inl stays ↦
      (let same : rank (core_side B net) ≡ rank net = ap rank stays.same in
      let pin = are.pins net inside in
      let is = stays_rank alone low B net stays.same in
      let up = driven_by (direction B.ports net) (net_rank alone low net) (suc (total (sides_ranks alone low B B.rows))) driven in
      omega arith)
  | inr by ↦
      (let both = both_true (is_moved (site_of B.ports by.row)) (is_output (row_net B.ports by.row) net) by.moved in
      let at : (net_at B by.row).0 ≡ net = net_at_is B by.row net both.1 in
      let other : site_of B.ports by.row ≢ site.Input = λ e. driven (ap (direction B.ports) (sym at) ∙ inputs by.k by.row by.there e) in
      let up = moved_high alone low B by.row net (site_of B.ports by.row) both.0 other at in
      let same : rank (core_side B net) ≡ rank (B.first + sides_of B.ports (take by.k B.rows)) = ap rank by.is in
      let here = first_at rank (B.first + sides_of B.ports (take by.k B.rows)) (net_rank alone low net) (sides_at alone low B by.row (site_of B.ports by.row))
      (side_there rank alone low B B.first B.rows are.sides by.k by.row by.there) up in
      omega arith)
]

-- an operand of the core, where its net is one of the core's
abbrev pub IsCoreFeed : ℕ → Option Feed → Type 0
IsCoreFeed count None = Unit {0}
IsCoreFeed count (Some (Const b)) = Unit {0}
IsCoreFeed count (Some (Net net)) = net.0 < count

pub feed_up : (rank alone : ℕ → ℕ) (low : ℕ) (B : Boundary) (count : ℕ) → AreCoreRanks rank alone low B count → (feed : Feed) → IsCoreFeed count (Some feed)
    → AreFeedsUpTo rank (feed_rank alone low (Some feed)) (renamed_feed (core_side B) feed ∷ [])
feed_up rank alone low B count are (Net net) inside = (core_up rank alone low B count are net.0 inside, tt)
feed_up rank alone low B count are (Const b) inside = tt

-- an output that is moved: its pin stands above all nets between
pub pin_high : (rank alone : ℕ → ℕ) (low : ℕ) (B : Boundary) (count : ℕ) → AreCoreRanks rank alone low B count → (net : ℕ) → net < count → direction B.ports net ≡ Some Output
    → (k : ℕ) (row : FitRow) → slice_get B.rows k ≡ Some row → moves B.ports net row ≡ true → rank net ≡ suc (total (sides_ranks alone low B B.rows))
pin_high rank alone low B count are net inside out k row there moved =
    let first = are.first in
    let past : B.first ≤ core_side B net = moved_past B.ports net B.first B.rows k row there moved in
    let top : ℕ = suc (total (sides_ranks alone low B B.rows)) in
    let other : core_side B net == net ≡ false = greater net (core_side B net) (omega arith) in
    are.pins net inside ∙ ap (λ (d : Option Dir). pin_by d (core_side B net == net) (net_rank alone low net) top) out
    ∙ ap (λ (b : Bool). pin_by (Some Output) b (net_rank alone low net) top) other
  where
    greater : (a b : ℕ) → a < b → b == a ≡ false
    greater a b less = grind (arith, less)
