-- One operand of one cell is another.
use Rattle.std.proofs.Common.{◌≡◌, ◌≢◌, ℕ, zero, suc, ◌+◌, List, [], ◌∷◌, set, Option, Some, None, refl, ap, sym, ◌∙◌, arith, option_map, if◌then◌else◌}
use Rattle.std.specs.Prelude.{slice_get, count_by, is_some}
use Rattle.std.proofs.lemmas.List.Sums.{sum_by-cons}
use Rattle.netlist_model.specs.declared.Feed.{Feed}
use Rattle.netlist_model.specs.Lists.{CellView, NetlistView, live_cell, cell_at, cell_count}
use Rattle.netlist_arena.specs.Moves.{with_feed, connected}

set_other : (cells : List (Option CellView)) (number other : ℕ) (place : Option CellView) → other ≢ number → live_cell (slice_get (set cells number place) other) ≡ live_cell (slice_get cells other)
set_other [] number other place apart = refl
set_other (p ∷ ps) zero zero place apart = absurd (apart refl)
set_other (p ∷ ps) zero (suc other) place apart = refl
set_other (p ∷ ps) (suc number) zero place apart = refl
set_other (p ∷ ps) (suc number) (suc other) place apart = set_other ps number other place (λ e. apart (ap suc e))

set_same : (cells : List (Option CellView)) (number : ℕ) (cell new : CellView) → live_cell (slice_get cells number) ≡ Some cell
    → live_cell (slice_get (set cells number (Some new)) number) ≡ Some new
set_same [] number cell new live = absurd (cc)
set_same (p ∷ ps) zero cell new live = refl
set_same (p ∷ ps) (suc number) cell new live = set_same ps number cell new live

pub connected_other : (N : NetlistView) (number place other : ℕ) (feed : Feed) → other ≢ number → cell_at (connected number place feed N) other ≡ cell_at N other
connected_other N number place other feed apart = set_other N.cells number other (option_map (with_feed place feed) (live_cell (slice_get N.cells number))) apart

pub connected_at : (N : NetlistView) (number place : ℕ) (feed : Feed) (cell : CellView) → cell_at N number ≡ Some cell → cell_at (connected number place feed N) number ≡ Some (with_feed place feed cell)
connected_at N number place feed cell live = rw live (set_same N.cells number cell (with_feed place feed cell) live)

-- How many cells there are.

counts_live : (c : CellView) (places : List (Option CellView)) → count_by is_some (Some c ∷ places) ≡ suc (count_by is_some places)
counts_live c places = let e = sum_by-cons (λ (x : Option CellView). if is_some x then 1 else 0) (Some c) places in omega (arith, e)

counts_empty : (places : List (Option CellView)) → count_by is_some (None ∷ places) ≡ count_by is_some places
counts_empty places = let e = sum_by-cons (λ (x : Option CellView). if is_some x then 1 else 0) None places in omega (arith, e)

set_count : (cells : List (Option CellView)) (number : ℕ) (cell new : CellView) → live_cell (slice_get cells number) ≡ Some cell
    → count_by is_some (set cells number (Some new)) ≡ count_by is_some cells
set_count [] number cell new live = absurd (cc)
set_count (None ∷ ps) zero cell new live = absurd (cc)
set_count (Some c ∷ ps) zero cell new live = counts_live new ps ∙ sym (counts_live c ps)
set_count (None ∷ ps) (suc number) cell new live = counts_empty (set ps number (Some new)) ∙ set_count ps number cell new live ∙ sym (counts_empty ps)
set_count (Some c ∷ ps) (suc number) cell new live = counts_live c (set ps number (Some new)) ∙ ap suc (set_count ps number cell new live) ∙ sym (counts_live c ps)

pub connected_count : (N : NetlistView) (number place : ℕ) (feed : Feed) (cell : CellView) → cell_at N number ≡ Some cell → cell_count (connected number place feed N) ≡ cell_count N
connected_count N number place feed cell live = rw live (set_count N.cells number cell (with_feed place feed cell) live)
