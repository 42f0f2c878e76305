-- The driver of a net, whose operands are connected one after the other.
use Rattle.std.proofs.Common.{◌≡◌, ◌≢◌, ℕ, suc, zero, ◌<◌, Bool, true, false, List, [], ◌∷◌, length, map, set, refl, sym, ◌∙◌, ap, Option, Some, None, IsSome, option_map, slice_get, eq-eqb, arith}
use Rattle.netlist_model.specs.declared.NetId.{NetId}
use Rattle.netlist_model.specs.declared.Feed.{Feed}
use Rattle.netlist_model.specs.declared.Feed.TheVariants.{Net}
use Rattle.netlist_model.specs.Lists.{CellView, NetlistView, live_cell, cell_at, Drives}
use Rattle.netlist_model.specs.Settled.{is_output}
use Rattle.netlist_arena.specs.Looks.{IsDrivenOnce, feed_at}
use Rattle.netlist_arena.specs.Moves.{with_feed, connected}
use Rattle.stitched_netlist.proofs.ModelMoves.{output_is}
use Rattle.core_sides.specs.Ready.{HasDriver}
use Rattle.core_sides.specs.Steps.{with_driver_feeds, fed_driver}

-- the cell that drives the net has two operands
pub driver_operands : (N : NetlistView) (net number : ℕ) (cell : CellView) → IsDrivenOnce N → HasDriver N net → Drives N number cell net → length cell.feeds ≡ 2
driver_operands N net number cell once has drives =
    let number_is = once number has.number cell has.cell net drives has.drives in
    let same : Some cell ≡ Some has.cell = sym drives.live ∙ (ap (cell_at N) number_is ∙ has.drives.live) in
    let cells : cell ≡ has.cell = inside cell has.cell same in
    ap (λ (c : CellView). length c.feeds) cells ∙ has.operands
  where
    inside : (a b : CellView) → ◌≡◌ {A = Option CellView} (Some a) (Some b) → a ≡ b
    inside a b h = cc

some_feed : (feeds : List Feed) (place : ℕ) → place < length feeds → IsSome (slice_get feeds place)
some_feed [] place h = absurd (omega arith)
some_feed (f ∷ fs) zero h = refl
some_feed (f ∷ fs) (suc place) h = some_feed fs place (omega arith)

pub operand_there : (N : NetlistView) (net number place : ℕ) (cell : CellView) → Drives N number cell net → place < length cell.feeds → IsSome (feed_at N number place)
operand_there N net number place cell drives h = rw drives.live (some_feed cell.feeds place h)

-- Both operands.

both_set : (feeds : List Feed) (a b : Feed) → length feeds ≡ 2 → set (set feeds 0 a) 1 b ≡ a ∷ b ∷ []
both_set [] a b two = absurd (omega arith)
both_set (x ∷ []) a b two = absurd (omega arith)
both_set (x ∷ y ∷ []) a b two = refl
both_set (x ∷ y ∷ z ∷ more) a b two = absurd (omega arith)

place_stays : (f : CellView → CellView) (place : Option CellView) → ((other : CellView) → place ≡ Some other → f other ≡ other) → place ≡ option_map f place
place_stays f None stays = refl
place_stays f (Some cell) stays = ap (λ (c : CellView). Some c) (sym (stays cell refl))

places_stay : (f : CellView → CellView) (cells : List (Option CellView)) → ((i : ℕ) (other : CellView) → live_cell (slice_get cells i) ≡ Some other → f other ≡ other)
    → cells ≡ map (option_map f) cells
places_stay f [] stays = refl
places_stay f (p ∷ ps) stays =
    rw (← place_stays f p (stays 0), ← places_stay f ps (λ i other e. stays (suc i) other e)) refl

-- the operand at a place of the cell with this number
abbrev with_one : ℕ → ℕ → Feed → List (Option CellView) → List (Option CellView)
with_one number place feed cells = set cells number (option_map (with_feed place feed) (live_cell (slice_get cells number)))

both_in : (f : CellView → CellView) (a b : Feed) (cells : List (Option CellView)) (number : ℕ) (cell : CellView) → live_cell (slice_get cells number) ≡ Some cell
    → with_feed 1 b (with_feed 0 a cell) ≡ f cell
    → ((i : ℕ) (other : CellView) → live_cell (slice_get cells i) ≡ Some other → i ≢ number → f other ≡ other)
    → with_one number 1 b (with_one number 0 a cells) ≡ map (option_map f) cells
both_in f a b [] number cell live here others = absurd (cc)
both_in f a b (p ∷ ps) zero cell live here others =
    let rest = places_stay f ps (λ i other e. others (suc i) other e (λ same. absurd (omega arith))) in
    rw (live, ← rest) (ap (λ (c : CellView). Some c ∷ ps) here)
both_in f a b (p ∷ ps) (suc number) cell live here others =
    let first = place_stays f p (λ other e. others 0 other e (λ same. absurd (omega arith))) in
    let rest = both_in f a b ps number cell live here (λ i other e apart. others (suc i) other e (λ same. apart (omega arith))) in
    rw (← first) (ap (λ (qs : List (Option CellView)). p ∷ qs) rest)

pub connected_twice : (N : NetlistView) (number : ℕ) (cell : CellView) (net value level : NetId) → IsDrivenOnce N → Drives N number cell net.0 → length cell.feeds ≡ 2
    → connected number 1 (Net level) (connected number 0 (Net value) N) ≡ fed_driver net (Net value ∷ Net level ∷ []) N
connected_twice N number cell net value level once drives two =
    let feeds = Net value ∷ Net level ∷ [] in
    let set_both : with_feed 1 (Net level) (with_feed 0 (Net value) cell) ≡ record cell { feeds = feeds }
    = ap (λ (fs : List Feed). record cell { feeds = fs }) (both_set cell.feeds (Net value) (Net level) two) in
    let drives_it : is_output cell.output net.0 ≡ true = rw drives.output (eq-eqb net.0 net.0 refl) in
    let here : record cell { feeds = feeds } ≡ with_driver_feeds net feeds cell = rw drives_it refl in
    let cells = both_in (with_driver_feeds net feeds) (Net value) (Net level) N.cells number cell drives.live (set_both ∙ here)
    (λ i other live apart. stays other (λ e. apart (once i number other cell net.0 (record { live = live; output = output_is other.output net.0 e }) drives))) in
    ap (λ (cs : List (Option CellView)). record N { cells = cs }) cells
  where
    stays : (other : CellView) → (is_output other.output net.0 ≡ true → ⊥) → with_driver_feeds net (Net value ∷ Net level ∷ []) other ≡ other
    stays other undriven = by (is_output other.output net.0) refl
      where
        by : (b : Bool) → is_output other.output net.0 ≡ b → with_driver_feeds net (Net value ∷ Net level ∷ []) other ≡ other
        by true e = absurd (undriven e)
        by false e = rw e refl

-- The cell with one operand more stands under its number.

live_at_set : (cells : List (Option CellView)) (number : ℕ) (cell new : CellView) → live_cell (slice_get cells number) ≡ Some cell
    → live_cell (slice_get (set cells number (Some new)) number) ≡ Some new
live_at_set [] number cell new live = absurd (cc)
live_at_set (p ∷ ps) zero cell new live = refl
live_at_set (p ∷ ps) (suc number) cell new live = live_at_set ps number cell new live

pub driver_kept : (N : NetlistView) (net number place : ℕ) (feed : Feed) (cell : CellView) → Drives N number cell net
    → Drives (connected number place feed N) number (with_feed place feed cell) net
driver_kept N net number place feed cell drives = record {
  live = rw drives.live (live_at_set N.cells number cell (with_feed place feed cell) drives.live);
  output = drives.output;
}
