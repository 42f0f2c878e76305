-- What is new in a netlist that grew: a net that nothing names, and a cell with a number of its own.
use Rattle.std.proofs.Common.{◌≡◌, ℕ, suc, zero, ◌<◌, ◌≤◌, List, [], ◌∷◌, refl, arith, Option, Some, None, false}
use Rattle.std.specs.Option.{MatchOption}
use Rattle.std.specs.List.{All, slice_get}
use Rattle.std.proofs.lemmas.List.Elements.{All-head, All-tail}
use Rattle.linked_cells.specs.cell_library.declared.listed.ListedCell.{ListedCell}
use Rattle.linked_cells.specs.netlist_model.declared.NetId.{NetId}
use Rattle.linked_cells.specs.netlist_model.Lists.{PortView, CellView, NetlistView, live_cell, is_among, direction, IsUndriven}
use Rattle.linked_cells.specs.netlist_model.Below.{IsNetBelow}
use Rattle.netlist_arena.specs.Arena.{HasItsOperands, IsPlaceBelow, IsPortBelow}

-- a live cell names nets that are there
pub place_at : (n : ℕ) (cells : List (Option CellView)) (i : ℕ) (cell : CellView) → All (IsPlaceBelow n) cells → live_cell (slice_get cells i) ≡ Some cell → IsPlaceBelow n (Some cell)
place_at n [] i cell below here = absurd (cc)
place_at n (p ∷ ps) zero cell below here = rw here at (All-head (IsPlaceBelow n) p ps below)
place_at n (p ∷ ps) (suc i) cell below here = place_at n ps i cell (All-tail (IsPlaceBelow n) p ps below) here

-- a live cell has a count of operands that its kind takes
pub count_at : (library : List ListedCell) (cells : List (Option CellView)) (i : ℕ) (cell : CellView) → All (HasItsOperands library) cells → live_cell (slice_get cells i) ≡ Some cell → HasItsOperands library (Some cell)
count_at library [] i cell counts here = absurd (cc)
count_at library (p ∷ ps) zero cell counts here = rw here at (All-head (HasItsOperands library) p ps counts)
count_at library (p ∷ ps) (suc i) cell counts here = count_at library ps i cell (All-tail (HasItsOperands library) p ps counts) here

pub output_below : (n net : ℕ) (output : Option NetId) → MatchOption output (Unit {0}) (IsNetBelow n) → output ≡ Some (record { 0 = net }) → net < n
output_below n net output below is = rw is at below

-- no cell drives a net past those that are there
pub undriven_past : (N : NetlistView) (n net : ℕ) → All (IsPlaceBelow n) N.cells → n ≤ net → IsUndriven N net
undriven_past N n net below past i cell here drives =
    let there = place_at n N.cells i cell below here in
    let low = output_below n net cell.output there.1 drives in absurd (omega arith)

among_below : (n net : ℕ) (nets : List NetId) → All (IsNetBelow n) nets → n ≤ net → is_among net nets ≡ false
among_below n net [] below past = refl
among_below n net (m ∷ ms) below past =
    let head = All-head (IsNetBelow n) m ms below in
    let rest = among_below n net ms (All-tail (IsNetBelow n) m ms below) past in
    grind (arith)

-- no port bit has a net past those that are there
pub direction_past : (ports : List PortView) (n net : ℕ) → All (IsPortBelow n) ports → n ≤ net → direction ports net ≡ None
direction_past [] n net below past = refl
direction_past (p ∷ ps) n net below past =
    let head = All-head (IsPortBelow n) p ps below in
    let out = among_below n net p.nets head.there past in
    let rest = direction_past ps n net (All-tail (IsPortBelow n) p ps below) past in
    rw out rest
