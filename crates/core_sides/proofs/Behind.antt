-- The core behind the first of the rows, and behind one row more.
use Rattle.std.proofs.Common.{◌≡◌, ◌≢◌, ℕ, suc, zero, ◌+◌, ◌<◌, ◌≤◌, inl, inr, ◌&&◌, Bool, true, false, List, [], ◌∷◌, ◌++◌, length, map, refl, sym, ◌∙◌, ap, Option, Some, None, option_map, slice_get, if◌then◌else◌, ◌==◌, eqb-true, arith}
use Rattle.std.specs.Option.{option_or}
use Rattle.list_laws.proofs.Tests.{never_true}
use Rattle.netlist_model.specs.declared.NetId.{NetId}
use Rattle.netlist_model.specs.declared.Feed.{Feed}
use Rattle.netlist_model.specs.declared.Feed.TheVariants.{Net}
use Rattle.netlist_model.specs.Lists.{CellView, NetlistView, live_cell, cell_at, Drives, IsUndriven}
use Rattle.netlist_model.specs.Settled.{is_output}
use Rattle.netlist_model.specs.Nested.{renamed_net, renamed_feed}
use Rattle.netlist_arena.specs.Moves.{moved_feed, with_moved_feeds, with_moved_output, moved_readers, moved_driver}
use Rattle.stitched_netlist.specs.plan_fitting.declared.fitted.FitRow.{FitRow}
use Rattle.stitched_netlist.specs.declared.model.Site.{Site}
use Rattle.stitched_netlist.specs.declared.model.Site.TheVariants as site
use Rattle.stitched_netlist.specs.Sites.{Boundary, row_net, site_of, sides_of}
use Rattle.stitched_netlist.specs.Sides.{is_moved, moves, side_from, is_driven, drives, level_net, feeds_from}
use Rattle.stitched_netlist.proofs.ModelMoves.{side_range}
use Rattle.core_sides.specs.Ready.{HasDriver, IsDrivenAt}
use Rattle.core_sides.specs.Steps.{with_driver_feeds, fed_driver, stood_at, stood_by}
use Rattle.core_sides.proofs.MovesCells.{cell_with, net_is, cell_same, moved_cell, moved_reader, fed_cell, or_none, mapped_same, mapped_twice}
use Rattle.core_sides.proofs.MovesSides.{side_more, feeds_more, feeds_keep}

-- own: a cell of the core behind the first rows
abbrev pub cell_behind : Boundary → List FitRow → CellView → CellView
cell_behind B done cell = cell_with (λ net. side_from B.ports net B.first done) (λ net. feeds_from B net.0 B.first done) cell

abbrev pub behind_rows : Boundary → List FitRow → NetlistView → NetlistView
behind_rows B done N = record N { cells = map (option_map (cell_behind B done)) N.cells }

-- own: the rows before haven't touched the net
pub record IsNext (B : Boundary) (done : List FitRow) (net : ℕ) : Type 0 where
  pub low : net < B.first
  pub stays : side_from B.ports net B.first done ≡ net
  pub unfed : feeds_from B net B.first done ≡ None

-- Tests of a row.

moves_is : (B : Boundary) (row : FitRow) (net : NetId) → is_moved (site_of B.ports row) ≡ true → row_net B.ports row ≡ Some net → (other : ℕ) → moves B.ports other row ≡ (net.0 == other)
moves_is B row net moved at other = rw (moved, at) refl

drives_is : (B : Boundary) (row : FitRow) (net : NetId) → is_driven (site_of B.ports row) ≡ true → row_net B.ports row ≡ Some net → (other : ℕ) → drives B.ports other row ≡ (net.0 == other)
drives_is B row net driven at other = rw (driven, at) refl

moves_none : (B : Boundary) (row : FitRow) → is_moved (site_of B.ports row) ≡ false → (other : ℕ) → moves B.ports other row ≡ false
moves_none B row still other = rw still refl

drives_none : (B : Boundary) (row : FitRow) → is_driven (site_of B.ports row) ≡ false → (other : ℕ) → drives B.ports other row ≡ false
drives_none B row still other = rw still refl

low_misses : (net other first : ℕ) → net < first → first ≤ other → (net == other) ≡ false
low_misses net other first low high = never_true (net == other) (λ e. let same = eqb-true net other e in absurd (omega arith))

-- Nets and operands with one row more.

same_sides : (B : Boundary) (done : List FitRow) (row : FitRow) → ((other : ℕ) → moves B.ports other row ≡ false) → (net : ℕ)
    → side_from B.ports net B.first (done ++ row ∷ []) ≡ side_from B.ports net B.first done
same_sides B done row still net =
    side_more B.ports net B.first done row (λ other h. still other) ∙ rw (still (side_from B.ports net B.first done)) refl

same_feeds : (B : Boundary) (done : List FitRow) (row : FitRow) → ((other : ℕ) → drives B.ports other row ≡ false) → (net : NetId)
    → feeds_from B net.0 B.first (done ++ row ∷ []) ≡ feeds_from B net.0 B.first done
same_feeds B done row still net =
    feeds_more B net.0 B.first done row ∙ rw (still net.0) (or_none (feeds_from B net.0 B.first done))

-- own: the next net between
abbrev pub next_side : Boundary → List FitRow → NetId
next_side B done = record { 0 = B.first + sides_of B.ports done }

-- a row that moves this net
one_moves : (B : Boundary) (done : List FitRow) (row : FitRow) (net : NetId) → net.0 < B.first → is_moved (site_of B.ports row) ≡ true → row_net B.ports row ≡ Some net → (other : ℕ)
    → side_from B.ports other B.first (done ++ row ∷ []) ≡ (if net.0 == side_from B.ports other B.first done then (next_side B done).0 else side_from B.ports other B.first done)
one_moves B done row net low moved at other =
    let misses : (far : ℕ) → B.first ≤ far → moves B.ports far row ≡ false
    = λ far h. moves_is B row net moved at far ∙ low_misses net.0 far B.first low h in
    let test = moves_is B row net moved at (side_from B.ports other B.first done) in
    side_more B.ports other B.first done row misses ∙ rw test refl

-- a row that is of this net's driver
one_feeds_it : (B : Boundary) (done : List FitRow) (row : FitRow) (net : NetId) → is_driven (site_of B.ports row) ≡ true → row_net B.ports row ≡ Some net → (other : NetId)
    → feeds_from B other.0 B.first (done ++ row ∷ []) ≡ option_or (feeds_from B other.0 B.first done)
    (if net.0 == other.0 then Some (Net (next_side B done) ∷ Net (level_net B row) ∷ []) else None)
one_feeds_it B done row net driven at other =
    let test = drives_is B row net driven at other.0 in
    feeds_more B other.0 B.first done row ∙ rw test refl

-- the operands that drivers have already stay
operands_keep : (B : Boundary) (done : List FitRow) (net side : NetId) → net.0 < B.first → (other : NetId) (feeds : List Feed) → feeds_from B other.0 B.first done ≡ Some feeds
    → map (moved_feed net side) feeds ≡ feeds
operands_keep B done net side low other feeds e = feeds_keep B (moved_feed net side) past other.0 B.first done (omega arith) feeds e
  where
    past : (far : NetId) → B.first ≤ far.0 → moved_feed net side (Net far) ≡ Net far
    past far h =
        let misses : (far.0 == net.0) ≡ false = never_true (far.0 == net.0) (λ e. let same = eqb-true far.0 net.0 e in absurd (omega arith)) in
        rw misses refl

-- The cells with one row more.

rest_alike : (B : Boundary) (done : List FitRow) (row : FitRow) → ((other : ℕ) → moves B.ports other row ≡ false) → ((other : ℕ) → drives B.ports other row ≡ false) → (cell : CellView)
    → cell_behind B (done ++ row ∷ []) cell ≡ cell_behind B done cell
rest_alike B done row still free cell =
    cell_same (λ net. side_from B.ports net B.first done) (λ net. side_from B.ports net B.first (done ++ row ∷ []))
    (λ net. feeds_from B net.0 B.first done) (λ net. feeds_from B net.0 B.first (done ++ row ∷ []))
    (same_sides B done row still) (same_feeds B done row free) cell

reader_moves : (B : Boundary) (done : List FitRow) (row : FitRow) (net : NetId) → net.0 < B.first → is_moved (site_of B.ports row) ≡ true → is_driven (site_of B.ports row) ≡ false
    → row_net B.ports row ≡ Some net → (cell : CellView) → (cell_behind B done cell).output ≢ Some net
    → cell_behind B (done ++ row ∷ []) cell ≡ with_moved_feeds net (next_side B done) (cell_behind B done cell)
reader_moves B done row net low moved free at cell apart =
    moved_reader (λ other. side_from B.ports other B.first done) (λ other. side_from B.ports other B.first (done ++ row ∷ []))
    (λ other. feeds_from B other.0 B.first done) (λ other. feeds_from B other.0 B.first (done ++ row ∷ [])) net (next_side B done)
    (one_moves B done row net low moved at) (same_feeds B done row (drives_none B row free)) (operands_keep B done net (next_side B done) low) cell apart

cell_moves : (B : Boundary) (done : List FitRow) (row : FitRow) (net : NetId) → net.0 < B.first → is_moved (site_of B.ports row) ≡ true → is_driven (site_of B.ports row) ≡ false
    → row_net B.ports row ≡ Some net → (cell : CellView)
    → cell_behind B (done ++ row ∷ []) cell ≡ with_moved_feeds net (next_side B done) (with_moved_output net (next_side B done) (cell_behind B done cell))
cell_moves B done row net low moved free at cell =
    moved_cell (λ other. side_from B.ports other B.first done) (λ other. side_from B.ports other B.first (done ++ row ∷ []))
    (λ other. feeds_from B other.0 B.first done) (λ other. feeds_from B other.0 B.first (done ++ row ∷ [])) net (next_side B done)
    (one_moves B done row net low moved at) (same_feeds B done row (drives_none B row free)) (operands_keep B done net (next_side B done) low) cell

-- only the net itself has its number
alone : (B : Boundary) (done : List FitRow) (net other : ℕ) → net < B.first → side_from B.ports other B.first done ≡ net → other ≡ net
alone B done net other low e = elim (side_range B.ports other B.first done) [
  | inl stays ↦ sym stays ∙ e
  | inr past ↦ (let far = past.0 in absurd (omega (arith, far, e)))
]

driver_fed : (B : Boundary) (done : List FitRow) (row : FitRow) (net : NetId) → IsNext B done net.0 → is_moved (site_of B.ports row) ≡ false → is_driven (site_of B.ports row) ≡ true
    → row_net B.ports row ≡ Some net → (cell : CellView)
    → cell_behind B (done ++ row ∷ []) cell ≡ with_driver_feeds net (Net (next_side B done) ∷ Net (level_net B row) ∷ []) (cell_behind B done cell)
driver_fed B done row net next still driven at cell =
    fed_cell (λ other. side_from B.ports other B.first done) (λ other. side_from B.ports other B.first (done ++ row ∷ []))
    (λ other. feeds_from B other.0 B.first done) (λ other. feeds_from B other.0 B.first (done ++ row ∷ [])) net (Net (next_side B done) ∷ Net (level_net B row) ∷ [])
    (same_sides B done row (moves_none B row still)) (one_feeds_it B done row net driven at) next.unfed next.stays
    (λ other e. alone B done net.0 other next.low e) cell

-- The netlist with one row more.

with_cells : (N : NetlistView) (one other : List (Option CellView)) → one ≡ other → record N { cells = one } ≡ record N { cells = other }
with_cells N one other e = ap (λ (cs : List (Option CellView)). record N { cells = cs }) e

pub mapped_at : (f : CellView → CellView) (cells : List (Option CellView)) (i : ℕ) → live_cell (slice_get (map (option_map f) cells) i) ≡ option_map f (live_cell (slice_get cells i))
mapped_at f [] i = refl
mapped_at f (p ∷ ps) zero = refl
mapped_at f (p ∷ ps) (suc i) = mapped_at f ps i

both_moved : (B : Boundary) (N : NetlistView) (done : List FitRow) (row : FitRow) (net : NetId) → net.0 < B.first → is_moved (site_of B.ports row) ≡ true → is_driven (site_of B.ports row) ≡ false
    → row_net B.ports row ≡ Some net
    → behind_rows B (done ++ row ∷ []) N ≡ moved_readers net (next_side B done) (moved_driver net (next_side B done) (behind_rows B done N))
both_moved B N done row net low moved free at =
    let outputs = mapped_twice (λ cell. with_moved_output net (next_side B done) (cell_behind B done cell)) (with_moved_output net (next_side B done)) (cell_behind B done) N.cells (λ i cell e. refl) in
    let all = mapped_twice (cell_behind B (done ++ row ∷ [])) (with_moved_feeds net (next_side B done)) (λ cell. with_moved_output net (next_side B done) (cell_behind B done cell)) N.cells
    (λ i cell e. cell_moves B done row net low moved free at cell) in
    with_cells N _ _ (all ∙ ap (map (option_map (with_moved_feeds net (next_side B done)))) outputs)

readers_moved : (B : Boundary) (N : NetlistView) (done : List FitRow) (row : FitRow) (net : NetId) → net.0 < B.first → is_moved (site_of B.ports row) ≡ true → is_driven (site_of B.ports row) ≡ false
    → row_net B.ports row ≡ Some net → IsUndriven (behind_rows B done N) net.0
    → behind_rows B (done ++ row ∷ []) N ≡ moved_readers net (next_side B done) (behind_rows B done N)
readers_moved B N done row net low moved free at undriven =
    let here : (i : ℕ) (cell : CellView) → live_cell (slice_get N.cells i) ≡ Some cell → cell_at (behind_rows B done N) i ≡ Some (cell_behind B done cell)
    = λ i cell e. mapped_at (cell_behind B done) N.cells i ∙ ap (option_map (cell_behind B done)) e in
    with_cells N _ _ (mapped_twice (cell_behind B (done ++ row ∷ [])) (with_moved_feeds net (next_side B done)) (cell_behind B done) N.cells
    (λ i cell e. reader_moves B done row net low moved free at cell (undriven i (cell_behind B done cell) (here i cell e))))

operands_given : (B : Boundary) (N : NetlistView) (done : List FitRow) (row : FitRow) (net : NetId) → IsNext B done net.0 → is_moved (site_of B.ports row) ≡ false → is_driven (site_of B.ports row) ≡ true
    → row_net B.ports row ≡ Some net
    → behind_rows B (done ++ row ∷ []) N ≡ fed_driver net (Net (next_side B done) ∷ Net (level_net B row) ∷ []) (behind_rows B done N)
operands_given B N done row net next still driven at =
    with_cells N _ _ (mapped_twice (cell_behind B (done ++ row ∷ [])) (with_driver_feeds net (Net (next_side B done) ∷ Net (level_net B row) ∷ [])) (cell_behind B done) N.cells
    (λ i cell e. driver_fed B done row net next still driven at cell))

unchanged : (B : Boundary) (N : NetlistView) (done : List FitRow) (row : FitRow) → ((other : ℕ) → moves B.ports other row ≡ false) → ((other : ℕ) → drives B.ports other row ≡ false)
    → behind_rows B (done ++ row ∷ []) N ≡ behind_rows B done N
unchanged B N done row still free =
    with_cells N _ _ (mapped_same (cell_behind B (done ++ row ∷ [])) (cell_behind B done) N.cells (rest_alike B done row still free))

-- by the site of the row
row_at : (B : Boundary) (N : NetlistView) (done : List FitRow) (row : FitRow) (net : NetId) (at : Site) → site_of B.ports row ≡ at → row_net B.ports row ≡ Some net → IsNext B done net.0
    → IsDrivenAt (behind_rows B done N) at net.0
    → behind_rows B (done ++ row ∷ []) N ≡ stood_at at (next_side B done) (level_net B row) net (behind_rows B done N)
row_at B N done row net site.Observed is has next driven = unchanged B N done row (moves_none B row (ap is_moved is)) (drives_none B row (ap is_driven is))
row_at B N done row net site.Input is has next driven = readers_moved B N done row net next.low (ap is_moved is) (ap is_driven is) has driven
row_at B N done row net site.Output is has next driven = both_moved B N done row net next.low (ap is_moved is) (ap is_driven is) has
row_at B N done row net site.AddedDriver is has next driven = both_moved B N done row net next.low (ap is_moved is) (ap is_driven is) has
row_at B N done row net site.Driver is has next driven = operands_given B N done row net next (ap is_moved is) (ap is_driven is) has
row_at B N done row net site.Inout is has next driven = operands_given B N done row net next (ap is_moved is) (ap is_driven is) has
row_at B N done row net site.Control is has next driven = unchanged B N done row (moves_none B row (ap is_moved is)) (drives_none B row (ap is_driven is))

-- a row without a net changes nothing
never_there : (b : Bool) (net : Option NetId) (other : ℕ) → net ≡ None → (b && is_output net other) ≡ false
never_there true net other none = rw none refl
never_there false net other none = refl

-- own: the core behind one row more is what the step makes of it
pub row_more : (B : Boundary) (N : NetlistView) (done : List FitRow) (row : FitRow) (bit : Option NetId) → row_net B.ports row ≡ bit
    → ((net : NetId) → bit ≡ Some net → IsNext B done net.0 × IsDrivenAt (behind_rows B done N) (site_of B.ports row) net.0)
    → behind_rows B (done ++ row ∷ []) N ≡ stood_by bit (site_of B.ports row) (next_side B done) (level_net B row) (behind_rows B done N)
row_more B N done row None has each =
    unchanged B N done row (λ other. never_there (is_moved (site_of B.ports row)) (row_net B.ports row) other has)
    (λ other. never_there (is_driven (site_of B.ports row)) (row_net B.ports row) other has)
row_more B N done row (Some net) has each =
    let here = each net refl in row_at B N done row net (site_of B.ports row) refl has here.0 here.1

-- What drives a net stays.

inside : (a b : CellView) → ◌≡◌ {A = Option CellView} (Some a) (Some b) → a ≡ b
inside a b e = cc

-- the cell whose place this was
pub was_cell : (B : Boundary) (N : NetlistView) (done : List FitRow) (i : ℕ) (cell : CellView) → cell_at (behind_rows B done N) i ≡ Some cell
    → (old : CellView) × (cell_at N i ≡ Some old) × (cell ≡ cell_behind B done old)
was_cell B N done i cell here = by (cell_at N i) refl (sym (mapped_at (cell_behind B done) N.cells i) ∙ here)
  where
    by : (found : Option CellView) → cell_at N i ≡ found → option_map (cell_behind B done) found ≡ Some cell
        → (old : CellView) × (cell_at N i ≡ Some old) × (cell ≡ cell_behind B done old)
    by None e f = absurd (cc)
    by (Some old) e f = (old, e, sym (inside (cell_behind B done old) cell f))

-- the net that it drove
was_net : (to : ℕ → ℕ) (output : Option NetId) (net : ℕ) → option_map (renamed_net to) output ≡ Some (record { 0 = net }) → (old : NetId) × (output ≡ Some old) × (to old.0 ≡ net)
was_net to None net e = absurd (cc)
was_net to (Some old) net e = (old, refl, ap (λ (o : Option NetId). number o) e)
  where
    number : Option NetId → ℕ
    number None = 0
    number (Some n) = n.0

pub was_driver : (B : Boundary) (N : NetlistView) (done : List FitRow) (i : ℕ) (cell : CellView) (net : ℕ) → Drives (behind_rows B done N) i cell net
    → (old : CellView) × (was : NetId) × Drives N i old was.0 × (side_from B.ports was.0 B.first done ≡ net)
was_driver B N done i cell net drives =
    let at = was_cell B N done i cell drives.live in
    let out : option_map (renamed_net (λ n. side_from B.ports n B.first done)) at.0.output ≡ Some (record { 0 = net })
    = ap (λ (c : CellView). c.output) (sym at.2) ∙ drives.output in
    let drove = was_net (λ n. side_from B.ports n B.first done) at.0.output net out in
    (at.0, drove.0, record { live = at.1; output = drove.1 }, drove.2)

still_undriven : (B : Boundary) (N : NetlistView) (done : List FitRow) (net : ℕ) → IsNext B done net → IsUndriven N net → IsUndriven (behind_rows B done N) net
still_undriven B N done net next undriven i cell here drives =
    let was = was_driver B N done i cell net (record { live = here; output = drives }) in
    let same = alone B done net was.1.0 next.low was.3 in
    undriven i was.0 was.2.live (was.2.output ∙ ap (λ (n : NetId). Some n) (net_is was.1 (record { 0 = net }) same))

still_drives : (B : Boundary) (N : NetlistView) (done : List FitRow) (net i : ℕ) (cell : CellView) → IsNext B done net → Drives N i cell net
    → Drives (behind_rows B done N) i (cell_behind B done cell) net
still_drives B N done net i cell next drives = record {
  live = mapped_at (cell_behind B done) N.cells i ∙ ap (option_map (cell_behind B done)) drives.live;
  output = ap (option_map (renamed_net (λ n. side_from B.ports n B.first done))) drives.output ∙ ap (λ (n : NetId). Some n) (net_is _ (record { 0 = net }) next.stays);
}

as_many : (f : Feed → Feed) (feeds : List Feed) → length (map f feeds) ≡ length feeds
as_many f [] = refl
as_many f (feed ∷ feeds) = ap suc (as_many f feeds)

still_driver : (B : Boundary) (N : NetlistView) (done : List FitRow) (net : ℕ) → IsNext B done net → HasDriver N net → HasDriver (behind_rows B done N) net
still_driver B N done net next has = record {
  number = has.number;
  cell = cell_behind B done has.cell;
  drives = still_drives B N done net has.number has.cell next has.drives;
  operands = rw (has.drives.output, next.unfed) (as_many (renamed_feed (λ n. side_from B.ports n B.first done)) has.cell.feeds ∙ has.operands);
  inside = has.inside;
}

pub still_driven : (B : Boundary) (N : NetlistView) (done : List FitRow) (net : ℕ) (at : Site) → IsNext B done net → IsDrivenAt N at net → IsDrivenAt (behind_rows B done N) at net
still_driven B N done net site.Observed next driven = tt
still_driven B N done net site.Input next driven = still_undriven B N done net next driven
still_driven B N done net site.Output next driven = record { number = driven.number; cell = cell_behind B done driven.cell; drives = still_drives B N done net driven.number driven.cell next driven.drives }
still_driven B N done net site.AddedDriver next driven = record { number = driven.number; cell = cell_behind B done driven.cell; drives = still_drives B N done net driven.number driven.cell next driven.drives }
still_driven B N done net site.Driver next driven = still_driver B N done net next driven
still_driven B N done net site.Inout next driven = still_driver B N done net next driven
still_driven B N done net site.Control next driven = tt
