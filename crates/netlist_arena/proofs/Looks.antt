-- What stands in a place, as the lists have it.
use Rattle.std.proofs.Common.{◌≡◌, ℕ, suc, zero, ◌<◌, List, [], ◌∷◌, length, refl, ◌∙◌, arith, ap, Option, Some, None, true, false, option_map}
use Rattle.std.specs.Option.{IsSome, MatchOption}
use Rattle.std.specs.List.{slice_get}
use Rattle.std.proofs.lemmas.List.{length-map}
use Rattle.std.proofs.lemmas.Option.{slice_get-map, slice_get_within}
use Rattle.linked_cells.proofs.list_laws.Options.{some_there}
use Rattle.linked_cells.specs.netlist_model.declared.CellId.{CellId}
use Rattle.linked_cells.specs.netlist_model.Lists.{CellView, NetlistView, live_cell, cell_at, Drives, IsUndriven}
use Rattle.netlist_arena.specs.Looks.{feed_at}
use Rattle.linked_cells.specs.declared.Slot.{Slot}
use Rattle.linked_cells.specs.PlacesLaws.{there_at, place_at}
use Rattle.linked_cells.specs.Views.{CellSlots}
use Rattle.linked_cells.specs.declared.Net.{Net}
use Rattle.linked_cells.specs.Cells.{cell_view, cells_of, net_view, nets_of}
use Rattle.netlist_arena.specs.Drivers.{AreDrivers}
use Rattle.netlist_arena.proofs.Lists.{AllThere}
use Rattle.netlist_arena.proofs.Single.{live_below}

pub cell_of_place : (items : List (Option CellSlots)) (i : ℕ) → live_cell (slice_get (cells_of items) i) ≡ option_map cell_view (place_at items i)
cell_of_place items i = slice_is (slice_get-map (option_map cell_view) items i) ∙ go (slice_get items i)
  where
    slice_is : {a b : Option (Option CellView)} → a ≡ b → live_cell a ≡ live_cell b
    slice_is e = ap live_cell e

    go : (o : Option (Option CellSlots)) → live_cell (option_map (option_map cell_view) o) ≡ option_map cell_view (there_at o)
    go None = refl
    go (Some None) = refl
    go (Some (Some c)) = refl

-- no live cell stands in an empty place
pub no_cell : (items : List (Option CellSlots)) (i : ℕ) → IsSome (live_cell (slice_get (cells_of items) i)) → place_at items i ≡ None → ⊥
no_cell items i live none =
    let gone : live_cell (slice_get (cells_of items) i) ≡ None = cell_of_place items i ∙ ap (option_map cell_view) none in
    let no_value : false ≡ true = rw gone at live in absurd (cc)

pub net_of_place : (nets : List (Option Net)) (k : ℕ) → AllThere nets → slice_get (nets_of nets) k ≡ option_map net_view (place_at nets k)
net_of_place [] k there = refl
net_of_place (None ∷ nets) k there = let no_value : false ≡ true = there 0 (omega arith) in absurd (cc)
net_of_place (Some n ∷ nets) zero there = refl
net_of_place (Some n ∷ nets) (suc k) there = net_of_place nets k (λ j low. there (suc j) (omega arith))

-- a net that is there stands in its place
pub no_net : (nets : List (Option Net)) (k : ℕ) → IsSome (place_at nets k) → place_at nets k ≡ None → ⊥
no_net nets k there none = let no_value : false ≡ true = rw none at there in absurd (cc)

pub net_found : (nets : List (Option Net)) (k : ℕ) (net : Net) → AllThere nets → place_at nets k ≡ Some net → slice_get (nets_of nets) k ≡ Some (net_view net)
net_found nets k net there at = net_of_place nets k there ∙ ap (option_map net_view) at

-- live cells stand below the end of the places
pub number_below : (items : List (Option CellSlots)) (i : ℕ) → IsSome (live_cell (slice_get (cells_of items) i)) → i < length items
number_below items i live =
    let low = live_below (cells_of items) i live in
    let len = length-map items (option_map cell_view) in omega (arith, low, len)

-- operands and slots
pub operand_within : (N : NetlistView) (i place : ℕ) (cell : CellSlots) → cell_at N i ≡ Some (cell_view cell) → IsSome (feed_at N i place) → place < length cell.slots
operand_within N i place cell at there =
    let some = rw at at there in
    let found = some_there (slice_get (cell_view cell).feeds place) some in
    let low = slice_get_within (cell_view cell).feeds place found.0 found.1 in
    let len = length-map cell.slots (λ (s : Slot). s.feed) in omega (arith, low, len)

pub slot_feed : (cell : CellSlots) (place : ℕ) (slot : Slot) → slice_get cell.slots place ≡ Some slot → slice_get (cell_view cell).feeds place ≡ Some slot.feed
slot_feed cell place slot at = slice_get-map (λ (s : Slot). s.feed) cell.slots place ∙ (rw at refl)

pub operand_is : (N : NetlistView) (i place : ℕ) (cell : CellSlots) (slot : Slot) → cell_at N i ≡ Some (cell_view cell) → slice_get cell.slots place ≡ Some slot → feed_at N i place ≡ Some slot.feed
operand_is N i place cell slot at here = rw at (slot_feed cell place slot here)

pub operand_count : (cell : CellSlots) → length (cell_view cell).feeds ≡ length cell.slots
operand_count cell = length-map cell.slots (λ (s : Slot). s.feed)

-- the drivers that nets name
driver_is : (N : NetlistView) (d : ℕ → Option CellId) (net : ℕ) (id : CellId) → AreDrivers d N.cells → d net ≡ Some id → (cell : CellView) × Drives N id.0 cell net
driver_is N d net id are at = let drives = are.named net id at in (drives.cell, record { live = drives.live; output = drives.output })

driver_none : (N : NetlistView) (d : ℕ → Option CellId) (net : ℕ) → AreDrivers d N.cells → d net ≡ None → IsUndriven N net
driver_none N d net are none i cell live output =
    let known = are.each i net (record { cell = cell; live = live; output = output }) in absurd (cc)

-- the driver that a net names, as what drives it
pub driven_as : (N : NetlistView) (d : ℕ → Option CellId) (net : ℕ) (o : Option CellId) → AreDrivers d N.cells → d net ≡ o → MatchOption o (IsUndriven N net) (λ id. (cell : CellView) × Drives N id.0 cell net)
driven_as N d net None are e = driver_none N d net are e
driven_as N d net (Some id) are e = driver_is N d net id are e
