-- A cell that is put in a place.
use Rattle.std.proofs.Common.{◌≡◌, ◌≢◌, inl, inr, ℕ, suc, zero, ◌<◌, List, [], ◌∷◌, ◌++◌, length, map, refl, sym, ◌∙◌, arith, ap, Option, Some, None, option_map, set, false, count_by, cond, replicate}
use Rattle.std.specs.Option.{IsSome, is_some}
use Rattle.std.specs.List.{slice_get}
use Rattle.std.proofs.lemmas.Bool.{cases_eq}
use Rattle.std.proofs.lemmas.List.{map-set, map-append, length-map, set-set, length-replicate}
use Rattle.std.proofs.lemmas.List.Sums.{sum_by-cons}
use Rattle.std.proofs.lemmas.Option.{slice_get-map, slice_get_within, slice_get_past}
use Rattle.linked_cells.proofs.list_laws.Lists.{slice_get-set_same, slice_get-set_other, last_push}
use Rattle.linked_cells.specs.netlist_model.declared.Reader.{Reader}
use Rattle.linked_cells.specs.netlist_model.declared.Feed.{Feed}
use Rattle.linked_cells.specs.netlist_model.declared.Feed.TheVariants.{Net as OnNet, Const as Fixed}
use Rattle.linked_cells.specs.netlist_model.Lists.{CellView, live_cell}
use Rattle.netlist_arena.specs.Adds.{PutsCell}
use Rattle.netlist_arena.proofs.Places.{slice_get-push_other}
use Rattle.linked_cells.specs.declared.Slot.{Slot}
use Rattle.linked_cells.specs.Links.{Threaded}
use Rattle.linked_cells.proofs.Threads.{threaded_loosely}
use Rattle.linked_cells.specs.PlacesLaws.{there_at, place_at, Puts}
use Rattle.linked_cells.specs.Views.{CellSlots}
use Rattle.linked_cells.specs.Cells.{cell_view, cells_of, slot_at, blank_slot, given_upto, feed_in}
use Rattle.linked_cells.proofs.Operands.{all_given, all_taken, feed_found}

-- what stands where, after a value was put
pub record PutAt {X : Type 0} (old new : List (Option X)) (number : ℕ) (value : X) : Type 0 where
  pub fresh : place_at old number ≡ None
  pub here : place_at new number ≡ Some value
  pub others : (k : ℕ) → k ≢ number → place_at new k ≡ place_at old k

pub put_at : {X : Type 0} (old new : List (Option X)) (free number : ℕ) (value : X) → Puts old new free number value → PutAt old new number value
put_at {X = X} old new free number value (inl fills) =
    let places = fills.places in
    let is = fills.is in
    let within = slice_get_within old free None fills.empty in
    record {
      fresh = rw is (ap (λ (o : Option (Option X)). there_at o) fills.empty);
      here = rw (places, is) (ap (λ (o : Option (Option X)). there_at o) (slice_get-set_same old free (Some value) within));
      others = λ k differ. rw places (ap (λ (o : Option (Option X)). there_at o) (slice_get-set_other old free k (Some value) (λ e. differ (e ∙ sym is))));
    }
put_at {X = X} old new free number value (inr follows) =
    let places = follows.places in
    let is = follows.is in
    record {
      fresh = let past : slice_get old number ≡ None = slice_get_past old number (omega arith) in ap (λ (o : Option (Option X)). there_at o) past;
      here = rw (places, is) (ap (λ (o : Option (Option X)). there_at o) (last_push old (Some value)));
      others = λ k differ. rw places (ap (λ (o : Option (Option X)). there_at o) (slice_get-push_other old (Some value) k (λ e. differ (e ∙ sym is))));
    }

blank_feed : (count k : ℕ) (slot : Slot) → slice_get (replicate count blank_slot) k ≡ Some slot → slot ≡ blank_slot
blank_feed zero k slot at = absurd (cc)
blank_feed (suc count) zero slot at = cc
blank_feed (suc count) (suc k) slot at = blank_feed count k slot at

-- a cell that is put with blank slots leaves the links
pub put_threaded : (old new : List (Option CellSlots)) (first : ℕ → Option Reader) (number count : ℕ) (cell : CellSlots) → cell.slots ≡ replicate count blank_slot → PutAt old new number cell → Threaded (slot_at old) first
    → Threaded (slot_at new) first
unfolding slot_at
put_threaded old new first number count cell blank put threaded =
    threaded_loosely (slot_at old) (slot_at new) first first threaded (λ n. refl)
    (λ r slot n at on. elim (cases_eq r.cell.0 number) [
      | inl same ↦ (let none : place_at old r.cell.0 ≡ None = rw same put.fresh in let gone : slot_at old r ≡ None = rw none refl in absurd (cc))
      | inr other ↦ (let stays = put.others r.cell.0 other in rw stays refl)
    ])
    (λ r slot n at on. elim (cases_eq r.cell.0 number) [
      | inl same ↦ (let there : place_at new r.cell.0 ≡ Some cell = rw same put.here in
          let in_cell : slot_at new r ≡ slice_get cell.slots r.place = rw there refl in
          let found : slice_get (replicate count blank_slot) r.place ≡ Some slot = rw (← blank) (sym in_cell ∙ at) in
          let is = blank_feed count r.place slot found in
          let feed : Fixed false ≡ OnNet n = sym (ap (λ (s : Slot). s.feed) is) ∙ on in absurd (cc))
      | inr other ↦ (let stays = put.others r.cell.0 other in rw stays refl)
    ])

blank_feeds : (count : ℕ) → map (λ (s : Slot). s.feed) (replicate count blank_slot) ≡ replicate count (Fixed false)
blank_feeds zero = refl
blank_feeds (suc count) = ap (λ (l : List Feed). Fixed false ∷ l) (blank_feeds count)

replicate_at : (count k : ℕ) (feed : Feed) → k < count → slice_get (replicate count feed) k ≡ Some feed
replicate_at zero k feed below = absurd (omega arith)
replicate_at (suc count) zero feed below = refl
replicate_at (suc count) (suc k) feed below = replicate_at count k feed (omega arith)

live_put : (old new : List (Option CellSlots)) (number : ℕ) (cell : CellSlots) → PutAt old new number cell → live_cell (slice_get (cells_of new) number) ≡ Some (cell_view cell)
live_put old new number cell put =
    let found = slice_get-map (option_map cell_view) new number in
    rw found (go (slice_get new number) put.here)
  where
    go : (o : Option (Option CellSlots)) → there_at o ≡ Some cell → live_cell (option_map (option_map cell_view) o) ≡ Some (cell_view cell)
    go None e = absurd (cc)
    go (Some None) e = absurd (cc)
    go (Some (Some x)) e = let is : x ≡ cell = cc in ap (λ (c : CellSlots). Some (cell_view c)) is

-- its operands are the constant 0
pub put_blank : (old new : List (Option CellSlots)) (number count place : ℕ) (cell : CellSlots) → cell.slots ≡ replicate count blank_slot → PutAt old new number cell → place < count
    → feed_in (cells_of new) number place ≡ Some (Fixed false)
put_blank old new number count place cell blank put below =
    let live = live_put old new number cell put in
    let feeds : (cell_view cell).feeds ≡ replicate count (Fixed false) = rw blank (blank_feeds count) in
    rw (live, feeds) (replicate_at count place (Fixed false) below)

pub count_cells : (items : List (Option CellSlots)) → count_by is_some (cells_of items) ≡ count_by is_some items
count_cells [] = refl
count_cells (None ∷ items) =
    let a = sum_by-cons (λ (o : Option CellView). cond (is_some o) 1 0) None (cells_of items) in
    let b = sum_by-cons (λ (o : Option CellSlots). cond (is_some o) 1 0) None items in
    let rest = count_cells items in omega (arith, a, b, rest)
count_cells (Some c ∷ items) =
    let a = sum_by-cons (λ (o : Option CellView). cond (is_some o) 1 0) (Some (cell_view c)) (cells_of items) in
    let b = sum_by-cons (λ (o : Option CellSlots). cond (is_some o) 1 0) (Some c) items in
    let rest = count_cells items in omega (arith, a, b, rest)

set_last : (xs : List (Option CellView)) (x y : Option CellView) → set (xs ++ x ∷ []) (length xs) y ≡ xs ++ y ∷ []
set_last [] x y = refl
set_last (z ∷ xs) x y = ap (λ (l : List (Option CellView)). z ∷ l) (set_last xs x y)

no_value : (items : List (Option CellSlots)) (k : ℕ) → slice_get (cells_of items) k ≡ Some None → slice_get items k ≡ Some None
no_value [] k e = absurd (cc)
no_value (None ∷ items) zero e = refl
no_value (Some c ∷ items) zero e = absurd (cc)
no_value (c ∷ items) (suc k) e = no_value items k e

-- the cells where one was put, and then given its operands
pub put_given : (old mid : List (Option CellSlots)) (number count : ℕ) (cell : CellSlots) (feeds : List Feed) (new : List (Option CellView)) → cell.slots ≡ replicate (length feeds) blank_slot
    → Puts old mid (count_by is_some old) number cell → new ≡ given_upto number feeds (length feeds) (cells_of mid)
    → PutsCell (cells_of old) new (count_by is_some (cells_of old)) number (record { kind = cell.kind; name = cell.name; feeds = feeds; output = cell.output })
put_given old mid number count cell feeds new blank puts given =
    let put = put_at old mid (count_by is_some old) number cell puts in
    let live = live_put old mid number cell put in
    let view_feeds : (cell_view cell).feeds ≡ replicate (length feeds) (Fixed false) = rw blank (blank_feeds (length feeds)) in
    let same_length : length feeds ≡ length (cell_view cell).feeds = rw view_feeds (sym (length-replicate (length feeds) (Fixed false))) in
    let all = all_given number feeds (cells_of mid) (cell_view cell) live same_length in
    by_case puts (given ∙ all)
  where
    final : CellView
    final = record { kind = cell.kind; name = cell.name; feeds = feeds; output = cell.output }

    by_case : Puts old mid (count_by is_some old) number cell → new ≡ set (cells_of mid) number (Some final) → PutsCell (cells_of old) new (count_by is_some (cells_of old)) number final
    by_case (inl fills) is =
        let counts = count_cells old in
        let places = fills.places in
        let number_is = fills.is in
        let empty : slice_get (cells_of old) (count_by is_some old) ≡ Some None = slice_get-map (option_map cell_view) old (count_by is_some old) ∙ (let e = fills.empty in rw e refl) in
        let mapped : cells_of mid ≡ set (cells_of old) (count_by is_some old) (Some (cell_view cell)) = rw places (map-set (option_map cell_view) old (count_by is_some old) (Some cell)) in
        inl (record {
          empty = rw counts empty;
          is = number_is ∙ sym counts;
          places = is ∙ (rw (mapped, number_is, counts) (set-set (cells_of old) (count_by is_some old) (Some (cell_view cell)) (Some final)));
        })
    by_case (inr follows) is =
        let counts = count_cells old in
        let places = follows.places in
        let number_is = follows.is in
        let len = length-map old (option_map cell_view) in
        let mapped : cells_of mid ≡ cells_of old ++ Some (cell_view cell) ∷ [] = rw places (map-append (option_map cell_view) old (Some cell ∷ [])) in
        inr (record {
          taken = λ e. follows.taken (no_value old (count_by is_some old) (rw counts at e));
          is = number_is ∙ sym len;
          places = is ∙ (rw (mapped, number_is, ← len) (set_last (cells_of old) (Some (cell_view cell)) (Some final)));
        })

-- the value of a live cell
pub live_place : (items : List (Option CellSlots)) (i : ℕ) (cell : CellView) → live_cell (slice_get (cells_of items) i) ≡ Some cell → IsSome (place_at items i)
live_place items i cell at =
    let found = slice_get-map (option_map cell_view) items i in
    go (slice_get items i) (ap live_cell (sym found) ∙ at)
  where
    go : (o : Option (Option CellSlots)) → live_cell (option_map (option_map cell_view) o) ≡ Some cell → IsSome (there_at o)
    go None e = absurd (cc)
    go (Some None) e = absurd (cc)
    go (Some (Some x)) e = refl

pub place_view : (items : List (Option CellSlots)) (i : ℕ) (cell : CellSlots) → place_at items i ≡ Some cell → live_cell (slice_get (cells_of items) i) ≡ Some (cell_view cell)
place_view items i cell at = let found = slice_get-map (option_map cell_view) items i in rw found (go (slice_get items i) at)
  where
    go : (o : Option (Option CellSlots)) → there_at o ≡ Some cell → live_cell (option_map (option_map cell_view) o) ≡ Some (cell_view cell)
    go None e = absurd (cc)
    go (Some None) e = absurd (cc)
    go (Some (Some x)) e = let is : x ≡ cell = cc in ap (λ (c : CellSlots). Some (cell_view c)) is

-- a cell whose operands are all constant goes, and leaves the links
pub remove_threaded : (mid : List (Option CellSlots)) (first : ℕ → Option Reader) (number : ℕ) → number < length mid → ((place : ℕ) (feed : Feed) → feed_in (cells_of mid) number place ≡ Some feed → feed ≡ Fixed false)
    → Threaded (slot_at mid) first → Threaded (slot_at (set mid number None)) first
unfolding slot_at
remove_threaded mid first number below blank threaded =
    threaded_loosely (slot_at mid) (slot_at (set mid number None)) first first threaded (λ n. refl)
    (λ r slot n at on. elim (cases_eq r.cell.0 number) [
      | inl same ↦ (let feed = feed_found mid r slot (OnNet n) at on in
          let here : feed_in (cells_of mid) number r.place ≡ Some (OnNet n) = rw same at feed in
          let is = blank r.place (OnNet n) here in absurd (cc))
      | inr other ↦ (let stays = slice_get-set_other mid number r.cell.0 None other in rw stays refl)
    ])
    (λ r slot n at on. elim (cases_eq r.cell.0 number) [
      | inl same ↦ (let gone : slice_get (set mid number None) r.cell.0 ≡ Some None = rw same (slice_get-set_same mid number None below) in
          let none : slot_at (set mid number None) r ≡ None = rw gone refl in absurd (cc))
      | inr other ↦ (let stays = slice_get-set_other mid number r.cell.0 None other in rw stays refl)
    ])

pub taken_blank : (old : List (Option CellView)) (number : ℕ) (cell : CellView) (new : List (Option CellView)) → live_cell (slice_get old number) ≡ Some cell → new ≡ given_upto number [] (length cell.feeds) old
    → ((place : ℕ) (feed : Feed) → feed_in new number place ≡ Some feed → feed ≡ Fixed false) × (set new number None ≡ set old number None) × (live : CellView) × (live_cell (slice_get new number) ≡ Some live)
taken_blank old number cell new at is =
    let all = all_taken number old cell at in
    let whole : new ≡ set old number (Some (record cell { feeds = all.0 })) = is ∙ all.1 in
    let below = within old number at in
    let here : slice_get new number ≡ Some (Some (record cell { feeds = all.0 })) = rw whole (slice_get-set_same old number (Some (record cell { feeds = all.0 })) below) in (
      λ place feed e. all.2 place feed (let found : feed_in new number place ≡ slice_get all.0 place = rw here refl in sym found ∙ e),
      rw whole (set-set old number (Some (record cell { feeds = all.0 })) None),
      record cell { feeds = all.0 },
      ap live_cell here,
    )
  where
    within : (cells : List (Option CellView)) (number : ℕ) → live_cell (slice_get cells number) ≡ Some cell → number < length cells
    within [] number e = absurd (cc)
    within (c ∷ cells) zero e = omega arith
    within (c ∷ cells) (suc number) e = let rest = within cells number e in omega arith
