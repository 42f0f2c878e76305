-- The lists of a netlist whose cells and nets stand in places.
use Rattle.std.proofs.Common.{◌≡◌, ◌⊎◌, inl, inr, ℕ, suc, zero, ◌<◌, ◌≤◌, ◌==◌, List, [], ◌∷◌, ◌++◌, length, map, refl, sym, ◌∙◌, arith, ap, Option, Some, None, Bool, true, false, cond, option_map, eqb-true, count_by, get_or}
use Rattle.std.specs.Option.{IsSome, is_some, option_and_then, MatchOption}
use Rattle.std.specs.Bool.{⊤}
use Rattle.std.specs.List.{slice_get, All}
use Rattle.std.proofs.lemmas.List.{length-map, map-append}
use Rattle.std.proofs.lemmas.List.Sums.{sum_by-cons}
use Rattle.std.proofs.lemmas.List.Elements.{All-set}
use Rattle.std.proofs.lemmas.Option.{slice_get-map, slice_get_within}
use Rattle.linked_cells.specs.cell_library.declared.listed.ListedCell.{ListedCell}
use Rattle.linked_cells.specs.netlist_model.declared.NetId.{NetId}
use Rattle.linked_cells.specs.netlist_model.declared.Reader.{Reader}
use Rattle.linked_cells.specs.netlist_model.declared.Feed.{Feed}
use Rattle.linked_cells.specs.netlist_model.declared.Feed.TheVariants.{Net as OnNet, Const as Fixed}
use Rattle.linked_cells.specs.netlist_model.Lists.{PortView, NetView, CellView, NetlistView, live_cell}
use Rattle.linked_cells.specs.netlist_model.Below.{IsFeedBelow, IsNetBelow}
use Rattle.netlist_arena.specs.Arena.{HasItsOperands, IsPlaceBelow, IsPortBelow}
use Rattle.netlist_arena.specs.Adds.{CanDrive}
use Rattle.netlist_arena.specs.Walks.{IsReader, IsWalk}
use Rattle.netlist_arena.proofs.Growth.{place_at as found_below, count_at}
use Rattle.netlist_arena.proofs.Laid.{feed_below}
use Rattle.netlist_arena.proofs.Changes.{with_feed_below, with_feed_count}
use Rattle.linked_cells.specs.Links.{Threaded}
use Rattle.linked_cells.proofs.Threads.{visits_once}
use Rattle.linked_cells.specs.PlacesLaws.{there_at, place_at, Puts}
use Rattle.linked_cells.specs.Views.{CellSlots}
use Rattle.linked_cells.specs.declared.Net.{Net}
use Rattle.linked_cells.specs.Cells.{cells_of, net_view, values, nets_of, slot_at, first_at, driver_at, KeepsNets, with_feed, with_slot_feed, feed_in, IsFeedThere, moved_feed, with_moved_feeds}
use Rattle.linked_cells.proofs.Writes.{kept_there}
use Rattle.linked_cells.proofs.Operands.{slot_of_feed, feed_found}

abbrev pub AllThere : List (Option Net) → Type 0
AllThere nets = (k : ℕ) → k < length nets → IsSome (place_at nets k)

pub length_nets : (nets : List (Option Net)) → AllThere nets → length (nets_of nets) ≡ length nets
length_nets [] there = refl
length_nets (None ∷ nets) there = let no_value : false ≡ true = there 0 (omega arith) in absurd (cc)
length_nets (Some n ∷ nets) there = ap (λ (k : ℕ). suc k) (length_nets nets (λ k below. there (suc k) (omega arith)))

pub feed_there : (nets : List (Option Net)) (feed : Feed) → AllThere nets → IsFeedBelow (length (nets_of nets)) feed → IsFeedThere nets feed
feed_there nets (OnNet net) there below = let len = length_nets nets there in there net.0 (omega (arith, len, below))
feed_there nets (Fixed b) there below = tt

pub net_there : (nets : List (Option Net)) (net : ℕ) → AllThere nets → net < length (nets_of nets) → IsSome (place_at nets net)
net_there nets net there below = let len = length_nets nets there in there net (omega (arith, len, below))

pub operand_below : (n : ℕ) (cells : List (Option CellView)) (i place : ℕ) (net : NetId) → All (IsPlaceBelow n) cells → feed_in cells i place ≡ Some (OnNet net) → net.0 < n
operand_below n cells i place net below at = go (live_cell (slice_get cells i)) refl at
  where
    go : (o : Option CellView) → live_cell (slice_get cells i) ≡ o → option_and_then (λ (c : CellView). slice_get c.feeds place) o ≡ Some (OnNet net) → net.0 < n
    go None e at = absurd (cc)
    go (Some cell) e at = let there = found_below n cells i cell below e in feed_below n cell.feeds place (OnNet net) there.0 at

pub operand_there : (nets : List (Option Net)) (cells : List (Option CellView)) (i place : ℕ) (net : NetId) → AllThere nets → All (IsPlaceBelow (length (nets_of nets))) cells → feed_in cells i place ≡ Some (OnNet net)
    → IsSome (place_at nets net.0)
operand_there nets cells i place net there below at = net_there nets net.0 there (operand_below (length (nets_of nets)) cells i place net below at)

pub connected_below : (n number place : ℕ) (feed : Feed) (cells : List (Option CellView)) → IsFeedBelow n feed → All (IsPlaceBelow n) cells → All (IsPlaceBelow n) (with_slot_feed number place feed cells)
connected_below n number place feed cells new below =
    All-set (IsPlaceBelow n) cells number (option_map (with_feed place feed) (live_cell (slice_get cells number)))
    (with_feed_below n place feed (live_cell (slice_get cells number)) new (live (slice_get cells number) refl)) below
  where
    live : (o : Option (Option CellView)) → slice_get cells number ≡ o → IsPlaceBelow n (live_cell o)
    live None e = tt
    live (Some None) e = tt
    live (Some (Some cell)) e = found_below n cells number cell below (rw e refl)

pub connected_counts : (library : List ListedCell) (number place : ℕ) (feed : Feed) (cells : List (Option CellView)) → All (HasItsOperands library) cells → All (HasItsOperands library) (with_slot_feed number place feed cells)
connected_counts library number place feed cells counts =
    All-set (HasItsOperands library) cells number (option_map (with_feed place feed) (live_cell (slice_get cells number))) (with_feed_count library place feed (live_cell (slice_get cells number)) (live (slice_get cells number) refl)) counts
  where
    live : (o : Option (Option CellView)) → slice_get cells number ≡ o → HasItsOperands library (live_cell o)
    live None e = tt
    live (Some None) e = tt
    live (Some (Some cell)) e = count_at library cells number cell counts (rw e refl)

-- readers that move to their own net
pub moved_nowhere : (from to : NetId) (cells : List (Option CellView)) → from.0 ≡ to.0 → map (option_map (with_moved_feeds from to)) cells ≡ cells
moved_nowhere from to [] same = refl
moved_nowhere from to (None ∷ cells) same = ap (λ (l : List (Option CellView)). None ∷ l) (moved_nowhere from to cells same)
moved_nowhere from to (Some cell ∷ cells) same =
    let feeds = kept cell.feeds in
    let rest = moved_nowhere from to cells same in
    rw (feeds, rest) refl
  where
    by_test : (net : NetId) (b : Bool) → net.0 == from.0 ≡ b → cond b (OnNet to) (OnNet net) ≡ OnNet net
    by_test net true test =
        let is : to.0 ≡ net.0 = sym same ∙ sym (eqb-true net.0 from.0 test) in
        let wrap : ℕ → Feed = λ n. OnNet (record { 0 = n }) in ap wrap is
    by_test net false test = refl

    one_kept : (feed : Feed) → moved_feed from to feed ≡ feed
    one_kept (OnNet net) = by_test net (net.0 == from.0) refl
    one_kept (Fixed b) = refl

    kept : (feeds : List Feed) → map (moved_feed from to) feeds ≡ feeds
    kept [] = refl
    kept (feed ∷ feeds) = let head = one_kept feed in let rest = kept feeds in rw (head, rest) refl

-- the walk along the links is a walk over the operands on the net
pub links_walk : (N : NetlistView) (items : List (Option CellSlots)) (first : ℕ → Option Reader) (net : ℕ) → N.cells ≡ cells_of items → (threaded : Threaded (slot_at items) first) → IsWalk N net (threaded.walk net)
links_walk N items first net cells threaded =
    let visits = visits_once (slot_at items) first threaded.walk net threaded.threads in
    record {
      only = λ k reader at. let found = visits.only k reader at in
          reads (feed_found items reader found.0 (OnNet (record { 0 = net })) found.1 found.2);
      each = λ reader is. let slot = slot_of_feed items reader (OnNet (record { 0 = net })) (feed_is reader is) in
          visits.each reader slot.0 slot.1 slot.2;
      once = visits.once;
    }
  where
    reads : {reader : Reader} → feed_in (cells_of items) reader.cell.0 reader.place ≡ Some (OnNet (record { 0 = net })) → IsReader N net reader
    reads {reader = reader} at = go (live_cell (slice_get (cells_of items) reader.cell.0)) refl at
      where
        go : (o : Option CellView) → live_cell (slice_get (cells_of items) reader.cell.0) ≡ o → option_and_then (λ (c : CellView). slice_get c.feeds reader.place) o ≡ Some (OnNet (record { 0 = net })) → IsReader N net reader
        go None e at = absurd (cc)
        go (Some cell) e at = record { cell = cell; reads = record { live = rw cells e; operand = at } }

    feed_is : (reader : Reader) → IsReader N net reader → feed_in (cells_of items) reader.cell.0 reader.place ≡ Some (OnNet (record { 0 = net }))
    feed_is reader is =
        let live : live_cell (slice_get (cells_of items) reader.cell.0) ≡ Some is.cell = rw cells at is.reads.live in
        rw live is.reads.operand

-- a net more
values_push : (xs : List (Option NetView)) (x : NetView) → values (xs ++ Some x ∷ []) ≡ values xs ++ x ∷ []
values_push [] x = refl
values_push (None ∷ xs) x = values_push xs x
values_push (Some y ∷ xs) x = ap (λ (l : List NetView). y ∷ l) (values_push xs x)

all_count : (nets : List (Option Net)) → AllThere nets → count_by is_some nets ≡ length nets
all_count [] there = refl
all_count (None ∷ nets) there = let no_value : false ≡ true = there 0 (omega arith) in absurd (cc)
all_count (Some n ∷ nets) there =
    let here = sum_by-cons (λ (o : Option Net). cond (is_some o) 1 0) (Some n) nets in
    let rest = all_count nets (λ k below. there (suc k) (omega arith)) in omega (arith, here, rest)

-- where a net was put
pub record NetAdded (old new : List (Option Net)) (number : ℕ) (net : Net) : Type 0 where
  pub is : number ≡ length old
  pub items : new ≡ old ++ Some net ∷ []

pub net_added : (old new : List (Option Net)) (number : ℕ) (net : Net) → AllThere old → Puts old new (count_by is_some old) number net → NetAdded old new number net
net_added old new number net there (inl fills) =
    let count = all_count old there in
    let within = slice_get_within old (count_by is_some old) None fills.empty in absurd (omega (arith, count, within))
net_added old new number net there (inr follows) = record { is = follows.is; items = follows.places }

pub nets_added : (old : List (Option Net)) (net : Net) → nets_of (old ++ Some net ∷ []) ≡ nets_of old ++ net_view net ∷ []
nets_added old net = ap (λ (l : List (Option NetView)). values l) (map-append (option_map net_view) old (Some net ∷ [])) ∙ values_push (map (option_map net_view) old) (net_view net)

place_push : (old : List (Option Net)) (net : Net) (k : ℕ) → ((k < length old) × (place_at (old ++ Some net ∷ []) k ≡ place_at old k)) ⊎ ((length old ≤ k) × (place_at old k ≡ None))
place_push [] net k = inr (omega arith, refl)
place_push (x ∷ old) net zero = inl (omega arith, refl)
place_push (x ∷ old) net (suc k) = elim (place_push old net k) [
  | inl h ↦ (let low = h.0 in inl (omega arith, h.1))
  | inr h ↦ (let high = h.0 in inr (omega arith, h.1))
]

last_place : (old : List (Option Net)) (net : Net) (k : ℕ) → length old ≤ k → (place_at (old ++ Some net ∷ []) k ≡ Some net) ⊎ (place_at (old ++ Some net ∷ []) k ≡ None)
last_place [] net zero high = inl refl
last_place [] net (suc k) high = inr refl
last_place (x ∷ old) net zero high = absurd (omega arith)
last_place (x ∷ old) net (suc k) high = last_place old net k (omega arith)

pub first_pushed : (old : List (Option Net)) (net : Net) (k : ℕ) → net.first ≡ None → first_at (old ++ Some net ∷ []) k ≡ first_at old k
unfolding first_at
first_pushed old net k none = elim (place_push old net k) [
  | inl h ↦ (let same = h.1 in rw same refl)
  | inr h ↦ (let absent = h.1 in rw absent (elim (last_place old net k h.0) [
    | inl last ↦ rw last none
    | inr past ↦ rw past refl
  ]))
]

pub there_pushed : (old : List (Option Net)) (net : Net) → AllThere old → AllThere (old ++ Some net ∷ [])
there_pushed [] net there zero below = refl
there_pushed [] net there (suc k) below = absurd (omega arith)
there_pushed (x ∷ old) net there zero below = there 0 (omega arith)
there_pushed (x ∷ old) net there (suc k) below = there_pushed old net (λ j b. there (suc j) (omega arith)) k (omega arith)

pub ports_more : (n : ℕ) (ports : List PortView) (m : ℕ) → n ≤ m → All (IsPortBelow n) ports → All (IsPortBelow m) ports
ports_more n ports m more below = λ k d low.
    let port = below k d low in
    record { width = port.width; there = λ j e there. let net = port.there j e there in omega (arith, net, more) }

pub below_more : (n : ℕ) (cells : List (Option CellView)) (m : ℕ) → n ≤ m → All (IsPlaceBelow n) cells → All (IsPlaceBelow m) cells
below_more n cells m more below = λ k d low. place_more (get_or cells k d) (below k d low)
  where
    feed_more : (feed : Feed) → IsFeedBelow n feed → IsFeedBelow m feed
    feed_more (OnNet net) low = omega (arith, low, more)
    feed_more (Fixed b) low = tt

    output_more : (output : Option NetId) → MatchOption output ⊤ (IsNetBelow n) → MatchOption output ⊤ (IsNetBelow m)
    output_more None low = tt
    output_more (Some net) low = omega (arith, low, more)

    place_more : (place : Option CellView) → IsPlaceBelow n place → IsPlaceBelow m place
    place_more None low = tt
    place_more (Some cell) low = (λ k d within. feed_more (get_or cell.feeds k d) (low.0 k d within), output_more cell.output low.1)

pub driver_pushed : (old : List (Option Net)) (net : Net) (k : ℕ) → net.driver ≡ None → driver_at (old ++ Some net ∷ []) k ≡ driver_at old k
unfolding driver_at
driver_pushed old net k none = elim (place_push old net k) [
  | inl h ↦ (let same = h.1 in rw same refl)
  | inr h ↦ (let absent = h.1 in rw absent (elim (last_place old net k h.0) [
    | inl last ↦ rw last none
    | inr past ↦ rw past refl
  ]))
]

pub output_there : (old new : List (Option Net)) (N : NetlistView) (output : Option NetId) → N.nets ≡ nets_of old → AllThere old → KeepsNets old new → CanDrive N output → MatchOption output ⊤ (λ net. IsSome (place_at new net.0))
output_there old new N None nets there kept can = tt
output_there old new N (Some net) nets there kept can = kept_there old new net.0 kept (net_there old net.0 there (rw nets at can.0))

pub output_in_range : (n : ℕ) (N : NetlistView) (output : Option NetId) → length N.nets ≡ n → CanDrive N output → MatchOption output ⊤ (IsNetBelow n)
output_in_range n N None len can = tt
output_in_range n N (Some net) len can = rw len at can.0

pub views_same : (old new : List (Option Net)) → map (option_map net_view) new ≡ map (option_map net_view) old → nets_of new ≡ nets_of old
views_same old new same = ap (λ (l : List (Option NetView)). values l) same

pub views_there : (old new : List (Option Net)) (k : ℕ) → map (option_map net_view) new ≡ map (option_map net_view) old → (k < length old → IsSome (place_at old k)) → k < length new → IsSome (place_at new k)
views_there old new k same there below =
    let len = sym (length-map new (option_map net_view)) ∙ ap (λ (l : List (Option NetView)). length l) same ∙ length-map old (option_map net_view) in
    let at_old = slice_get-map (option_map net_view) old k in
    let at_new = slice_get-map (option_map net_view) new k in
    let at = ap (λ (l : List (Option NetView)). slice_get l k) same in
    go (slice_get old k) (slice_get new k) (sym at_new ∙ at ∙ at_old) (there (omega (arith, len, below)))
  where
    go : (a b : Option (Option Net)) → option_map (option_map net_view) b ≡ option_map (option_map net_view) a → IsSome (there_at a) → IsSome (there_at b)
    go None b same there = let no_value : false ≡ true = there in absurd (cc)
    go (Some None) b same there = let no_value : false ≡ true = there in absurd (cc)
    go (Some (Some x)) None same there = absurd (cc)
    go (Some (Some x)) (Some None) same there = absurd (cc)
    go (Some (Some x)) (Some (Some y)) same there = refl

pub output_place : (old new : List (Option Net)) (output : Option NetId) → AllThere old → KeepsNets old new → MatchOption output ⊤ (IsNetBelow (length (nets_of old))) → MatchOption output ⊤ (λ net. IsSome (place_at new net.0))
output_place old new None there kept below = tt
output_place old new (Some net) there kept below = kept_there old new net.0 kept (net_there old net.0 there below)

pub still_there : (old new : List (Option Net)) (k : ℕ) → map (option_map net_view) new ≡ map (option_map net_view) old → IsSome (place_at old k) → IsSome (place_at new k)
still_there old new k same there =
    let len = sym (length-map new (option_map net_view)) ∙ ap (λ (l : List (Option NetView)). length l) same ∙ length-map old (option_map net_view) in
    let low = within old k there in
    views_there old new k same (λ _. there) (omega (arith, len, low))
  where
    within : (nets : List (Option Net)) (k : ℕ) → IsSome (place_at nets k) → k < length nets
    within [] k there = let no_value : false ≡ true = there in absurd (cc)
    within (x ∷ nets) zero there = omega arith
    within (x ∷ nets) (suc k) there = let rest = within nets k there in omega arith
