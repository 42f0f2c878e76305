-- What stands under each number.
use Rattle.std.proofs.Common.{◌≡◌, ℕ, zero, suc, ◌<◌, ◌⊎◌, inl, inr, List, [], ◌∷◌, ◌++◌, map, length, refl, sym, ◌∙◌, Option, Some, None, true, false, if◌then◌else◌, arith}
use Rattle.std.specs.Prelude.{slice_get, count_by, filter_map, is_some, IsSome}
use Rattle.std.proofs.lemmas.List.Sums.{sum_by-cons}
use Rattle.netlist_model.specs.declared.NetId.{NetId}
use Rattle.netlist_model.specs.Lists.{CellView, NetlistView, live_cell, cell_at, cell_count}
use Rattle.netlist_model.specs.Contained.{IsDense}
use Rattle.plan_fitting.specs.declared.fitted.Fitted.{Fitted}
use Rattle.stitched_netlist.specs.declared.model.TapNames.{TapNames}
use Rattle.stitched_netlist.specs.Sides.{core_cell}
use Rattle.stitched_netlist.specs.Stitched.{same_place, live_cells, boundary_at, first_net, tap_port, test_logic_cells_by, test_logic_cells, stitched_cells_by, stitched}
use Rattle.stitched_netlist.specs.Places.{StitchedKeeps}

-- A list of cells without gaps.

pub listed_at : (cells : List CellView) (k : ℕ) → live_cell (slice_get (map Some cells) k) ≡ slice_get cells k
listed_at [] k = refl
listed_at (cell ∷ cells) zero = refl
listed_at (cell ∷ cells) (suc k) = listed_at cells k

front_at : (xs ys : List CellView) (k : ℕ) (cell : CellView) → slice_get xs k ≡ Some cell → slice_get (xs ++ ys) k ≡ Some cell
front_at [] ys k cell e = absurd (cc)
front_at (x ∷ xs) ys zero cell e = e
front_at (x ∷ xs) ys (suc k) cell e = front_at xs ys k cell e

pub mapped_at : (to : CellView → CellView) (xs : List CellView) (k : ℕ) (cell : CellView) → slice_get xs k ≡ Some cell → slice_get (map to xs) k ≡ Some (to cell)
mapped_at to [] k cell e = absurd (cc)
mapped_at to (x ∷ xs) zero cell e = let same : x ≡ cell = cc in rw same refl
mapped_at to (x ∷ xs) (suc k) cell e = mapped_at to xs k cell e

-- The live cells of a netlist without gaps.

pub counts_live : (c : CellView) (places : List (Option CellView)) → count_by is_some (Some c ∷ places) ≡ suc (count_by is_some places)
counts_live c places = let e = sum_by-cons (λ (x : Option CellView). if is_some x then 1 else 0) (Some c) places in omega arith

pub counts_empty : (places : List (Option CellView)) → count_by is_some (None ∷ places) ≡ count_by is_some places
counts_empty places = let e = sum_by-cons (λ (x : Option CellView). if is_some x then 1 else 0) None places in omega arith

-- behind the last live cell there is none
none_live : (places : List (Option CellView)) (i : ℕ) → count_by is_some places ≡ 0 → live_cell (slice_get places i) ≡ None
none_live [] i e = refl
none_live (Some c ∷ places) i e = absurd (let more = counts_live c places in omega arith)
none_live (None ∷ places) zero e = refl
none_live (None ∷ places) (suc i) e = none_live places i (sym (counts_empty places) ∙ e)

none_or_some : (n : ℕ) → (n ≡ 0) ⊎ (0 < n)
none_or_some zero = inl refl
none_or_some (suc n) = inr (omega arith)

pub live_at : (places : List (Option CellView)) → ((i : ℕ) → i < count_by is_some places → IsSome (live_cell (slice_get places i)))
    → (i : ℕ) (cell : CellView) → live_cell (slice_get places i) ≡ Some cell → slice_get (filter_map same_place places) i ≡ Some cell
live_at [] dense i cell e = absurd (cc)
live_at (Some c ∷ places) dense zero cell e = e
live_at (Some c ∷ places) dense (suc i) cell e =
    live_at places (λ j less. dense (suc j) (let more = counts_live c places in omega arith)) i cell e
live_at (None ∷ places) dense zero cell e = absurd (cc)
live_at (None ∷ places) dense (suc i) cell e = elim (none_or_some (count_by is_some places)) [
  | inl empty ↦ absurd (let past = none_live places i empty in cc)
  | inr some ↦ absurd (let h : false ≡ true = dense 0 (let same = counts_empty places in omega arith) in cc)
]

-- The netlist with the test logic built in.

-- a cell of the core stands under its number, behind the boundary cells
pub core_stands : (N : NetlistView) (names : TapNames) (f : Fitted) → IsDense N → (i : ℕ) (cell : CellView) → cell_at N i ≡ Some cell
    → cell_at (stitched N names f) i ≡ Some (core_cell (boundary_at N f) cell)
core_stands N names f dense i cell e =
    let cells : List CellView = map (core_cell (boundary_at N f)) (live_cells N) in
    let added : List CellView = test_logic_cells (boundary_at N f) (first_net N f) (cell_count N) (tap_port (length N.nets)) f in
    listed_at (cells ++ added) i ∙ front_at cells added i _ (mapped_at (core_cell (boundary_at N f)) (live_cells N) i cell (live_at N.cells dense i cell e))

-- so it does in every netlist that has these cells under their numbers
pub core_there : (M N : NetlistView) (f : Fitted) (shown : NetId) → IsDense N
    → ((k : ℕ) (cell : CellView) → slice_get (stitched_cells_by shown N f) k ≡ Some cell → cell_at M k ≡ Some cell) → (i : ℕ) (cell : CellView) → cell_at N i ≡ Some cell
    → cell_at M i ≡ Some (core_cell (boundary_at N f) cell)
core_there M N f shown dense there i cell e =
    let cells : List CellView = map (core_cell (boundary_at N f)) (live_cells N) in
    let added : List CellView = test_logic_cells_by shown (boundary_at N f) (first_net N f) (cell_count N) (tap_port (length N.nets)) f in
    there i (core_cell (boundary_at N f) cell) (front_at cells added i _ (mapped_at (core_cell (boundary_at N f)) (live_cells N) i cell (live_at N.cells dense i cell e)))

pub keeps : StitchedKeeps
keeps N names f dense = record {
  library = refl;
  ports = refl;
  cells = λ number cell e. record { found = core_cell (boundary_at N f) cell; there = core_stands N names f dense number cell e; kind = refl; name = refl };
}
