-- What is known where a cell is removed.
use Rattle.std.proofs.Common.{◌≡◌, ℕ, ◌<◌, List, [], length, refl, sym, ◌∙◌, arith, ap, Option, Some, None, option_map, set, false}
use Rattle.std.specs.Option.{IsSome, IfSome, MatchOption}
use Rattle.std.specs.Bool.{⊤}
use Rattle.std.specs.List.{slice_get, All}
use Rattle.std.proofs.lemmas.List.{length-map, map-set}
use Rattle.linked_cells.proofs.list_laws.Options.{some_there}
use Rattle.linked_cells.specs.netlist_model.declared.NetId.{NetId}
use Rattle.linked_cells.specs.netlist_model.declared.Feed.{Feed}
use Rattle.linked_cells.specs.netlist_model.declared.Feed.TheVariants.{Const as Fixed}
use Rattle.linked_cells.specs.netlist_model.Lists.{CellView, live_cell}
use Rattle.linked_cells.specs.netlist_model.Below.{IsNetBelow}
use Rattle.netlist_arena.specs.Arena.{IsPlaceBelow}
use Rattle.netlist_arena.proofs.Growth.{place_at as found_below}
use Rattle.netlist_arena.proofs.Single.{live_below}
use Rattle.linked_cells.specs.PlacesLaws.{place_at}
use Rattle.linked_cells.specs.declared.Slot.{Slot}
use Rattle.linked_cells.specs.Views.{CellSlots}
use Rattle.linked_cells.specs.Cells.{cell_view, cells_of, given_upto, feed_in}
use Rattle.netlist_arena.proofs.CellPlaces.{live_place, place_view, taken_blank}

pub record Removing (old mid new : List (Option CellSlots)) (number : ℕ) (output : Option NetId) : Type 0 where
  pub cell : CellView
  pub live : live_cell (slice_get (cells_of old) number) ≡ Some cell
  pub output_is : output ≡ cell.output
  pub below : number < length (cells_of old)
  pub blank : (place : ℕ) (feed : Feed) → feed_in (cells_of mid) number place ≡ Some feed → feed ≡ Fixed false
  pub there : IsSome (place_at mid number)
  pub mid_below : number < length mid
  pub cells : new ≡ set mid number None → cells_of new ≡ set (cells_of old) number None

pub removing : (old mid new : List (Option CellSlots)) (number count : ℕ) (output : Option NetId) → IsSome (live_cell (slice_get (cells_of old) number)) → IfSome (place_at old number) (λ (c : CellSlots). count ≡ length c.slots)
    → IfSome (place_at old number) (λ (c : CellSlots). output ≡ c.output) → cells_of mid ≡ given_upto number [] count (cells_of old) → Removing old mid new number output
removing old mid new number count output live counted driven cleared =
    let view = some_there (live_cell (slice_get (cells_of old) number)) live in
    let place = some_there (place_at old number) (live_place old number view.0 view.1) in
    let at = place.1 in
    let count_is : count ≡ length place.0.slots = rw at at counted in
    let output_is : output ≡ place.0.output = rw at at driven in
    let lives = place_view old number place.0 at in
    let feeds = length-map place.0.slots (λ (s : Slot). s.feed) in
    let all : count ≡ length (cell_view place.0).feeds = count_is ∙ sym feeds in
    let cleared' : cells_of mid ≡ given_upto number [] (length (cell_view place.0).feeds) (cells_of old) = cleared ∙ ap (λ (k : ℕ). given_upto number [] k (cells_of old)) all in
    let taken = taken_blank (cells_of old) number (cell_view place.0) (cells_of mid) lives cleared' in
    let low_mid = live_below (cells_of mid) number (rw taken.3 refl) in
    let len = length-map mid (option_map cell_view) in
    record {
      cell = cell_view place.0;
      live = lives;
      output_is = output_is;
      below = live_below (cells_of old) number live;
      blank = taken.0;
      there = live_place mid number taken.2 taken.3;
      mid_below = omega (arith, low_mid, len);
      cells = λ is. rw is (map-set (option_map cell_view) mid number None ∙ taken.1);
    }

pub output_of_live : (n : ℕ) (cells : List (Option CellView)) (number : ℕ) (cell : CellView) → All (IsPlaceBelow n) cells → live_cell (slice_get cells number) ≡ Some cell → MatchOption cell.output ⊤ (IsNetBelow n)
output_of_live n cells number cell below live = (found_below n cells number cell below live).1
