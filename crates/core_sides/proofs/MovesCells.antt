-- A cell whose nets are renamed and whose operands may be a driver's, and what one step more makes of it.
use Rattle.std.proofs.Common.{◌≡◌, ◌≢◌, ℕ, suc, Bool, true, false, List, [], ◌∷◌, map, refl, sym, ◌∙◌, ap, Option, Some, None, option_map, option_and_then, slice_get, if◌then◌else◌, ◌==◌, eqb-true, eq-eqb}
use Rattle.std.specs.Option.{unwrap_or, option_or}
use Rattle.list_laws.proofs.Numbers.{eqb-sym}
use Rattle.netlist_model.specs.declared.NetId.{NetId}
use Rattle.netlist_model.specs.declared.Feed.{Feed}
use Rattle.netlist_model.specs.declared.Feed.TheVariants.{Net, Const}
use Rattle.netlist_model.specs.Lists.{CellView, live_cell}
use Rattle.netlist_model.specs.Settled.{is_output}
use Rattle.netlist_model.specs.Nested.{renamed_net, renamed_feed}
use Rattle.netlist_arena.specs.Moves.{moved_feed, with_moved_feeds, moved_output, with_moved_output}
use Rattle.core_sides.specs.Steps.{with_driver_feeds}

-- the cell by other nets, and with these operands if it is a driver that has them
abbrev pub cell_with : (ℕ → ℕ) → (NetId → Option (List Feed)) → CellView → CellView
cell_with to driven cell = record {
  kind = cell.kind;
  name = cell.name;
  feeds = unwrap_or (option_and_then driven cell.output) (map (renamed_feed to) cell.feeds);
  output = option_map (renamed_net to) cell.output;
}

pub net_is : (a b : NetId) → a.0 ≡ b.0 → a ≡ b
net_is a b e = let wrap : ℕ → NetId = λ n. record { 0 = n } in ap wrap e

-- Nets.

map_same : (f g : Feed → Feed) → ((feed : Feed) → f feed ≡ g feed) → (feeds : List Feed) → map f feeds ≡ map g feeds
map_same f g same [] = refl
map_same f g same (feed ∷ feeds) = rw (same feed, map_same f g same feeds) refl

map_after : (f g h : Feed → Feed) → ((feed : Feed) → f feed ≡ g (h feed)) → (feeds : List Feed) → map f feeds ≡ map g (map h feeds)
map_after f g h same [] = refl
map_after f g h same (feed ∷ feeds) = rw (same feed, map_after f g h same feeds) refl

feed_same : (to other : ℕ → ℕ) → ((net : ℕ) → to net ≡ other net) → (feed : Feed) → renamed_feed to feed ≡ renamed_feed other feed
feed_same to other same (Net net) = let wrap : ℕ → Feed = λ n. Net (record { 0 = n }) in ap wrap (same net.0)
feed_same to other same (Const b) = refl

output_same : (to other : ℕ → ℕ) → ((net : ℕ) → to net ≡ other net) → (output : Option NetId) → option_map (renamed_net to) output ≡ option_map (renamed_net other) output
output_same to other same None = refl
output_same to other same (Some net) = let wrap : ℕ → Option NetId = λ n. Some (record { 0 = n }) in ap wrap (same net.0)

feeds_same : (driven other : NetId → Option (List Feed)) → ((net : NetId) → driven net ≡ other net) → (output : Option NetId) → option_and_then driven output ≡ option_and_then other output
feeds_same driven other same None = refl
feeds_same driven other same (Some net) = same net

pub cell_same : (to to' : ℕ → ℕ) (driven driven' : NetId → Option (List Feed)) → ((net : ℕ) → to' net ≡ to net) → ((net : NetId) → driven' net ≡ driven net)
    → (cell : CellView) → cell_with to' driven' cell ≡ cell_with to driven cell
cell_same to to' driven driven' nets drivers cell =
    rw (feeds_same driven' driven drivers cell.output, map_same (renamed_feed to') (renamed_feed to) (feed_same to' to nets) cell.feeds, output_same to' to nets cell.output) refl

-- where no net has another, and there is no driver
pub cell_alone : (cell : CellView) → cell_with (λ net. net) (λ net. None) cell ≡ cell
cell_alone cell = rw (feeds cell.output, output cell.output) refl
  where
    own : (feed : Feed) → renamed_feed (λ net. net) feed ≡ feed
    own (Net net) = refl
    own (Const b) = refl

    all_own : (feeds : List Feed) → map (renamed_feed (λ net. net)) feeds ≡ feeds
    all_own [] = refl
    all_own (feed ∷ feeds) = rw (own feed, all_own feeds) refl

    feeds : (output : Option NetId) → unwrap_or (option_and_then (λ net. None) output) (map (renamed_feed (λ net. net)) cell.feeds) ≡ cell.feeds
    feeds None = all_own cell.feeds
    feeds (Some net) = all_own cell.feeds

    output : (found : Option NetId) → option_map (renamed_net (λ net. net)) found ≡ found
    output None = refl
    output (Some net) = refl

-- A net is moved.

-- to the one net from the other
abbrev Moves : (ℕ → ℕ) → (ℕ → ℕ) → NetId → NetId → Type 0
Moves to to' from side = (net : ℕ) → to' net ≡ (if from.0 == to net then side.0 else to net)

moved_net : (to to' : ℕ → ℕ) (from side : NetId) → Moves to to' from side → (net : NetId) → renamed_net to' net ≡ (if (renamed_net to net).0 == from.0 then side else renamed_net to net)
moved_net to to' from side moves net = by (from.0 == to net.0) refl
  where
    by : (b : Bool) → from.0 == to net.0 ≡ b → renamed_net to' net ≡ (if to net.0 == from.0 then side else renamed_net to net)
    by true e = let f = moves net.0 in rw (← eqb-sym from.0 (to net.0), e) (net_is (renamed_net to' net) side (rw e at f))
    by false e = let f = moves net.0 in rw (← eqb-sym from.0 (to net.0), e) (net_is (renamed_net to' net) (renamed_net to net) (rw e at f))

choice : (b : Bool) (one other : NetId) → Net (if b then one else other) ≡ (if b then Net one else Net other)
choice true one other = refl
choice false one other = refl

moved_operand : (to to' : ℕ → ℕ) (from side : NetId) → Moves to to' from side → (feed : Feed) → renamed_feed to' feed ≡ moved_feed from side (renamed_feed to feed)
moved_operand to to' from side moves (Net net) =
    ap (λ (n : NetId). Net n) (moved_net to to' from side moves net) ∙ choice (to net.0 == from.0) side (renamed_net to net)
moved_operand to to' from side moves (Const b) = refl

moved_out : (to to' : ℕ → ℕ) (from side : NetId) → Moves to to' from side → (output : Option NetId)
    → option_map (renamed_net to') output ≡ moved_output from side (option_map (renamed_net to) output)
moved_out to to' from side moves None = refl
moved_out to to' from side moves (Some net) = ap (λ (n : NetId). Some n) (moved_net to to' from side moves net)

-- the operands of a driver stay
abbrev Keeps : (NetId → Option (List Feed)) → NetId → NetId → Type 0
Keeps driven from side = (net : NetId) (feeds : List Feed) → driven net ≡ Some feeds → map (moved_feed from side) feeds ≡ feeds

moved_operands : (to to' : ℕ → ℕ) (driven driven' : NetId → Option (List Feed)) (from side : NetId) → Moves to to' from side → ((net : NetId) → driven' net ≡ driven net)
    → Keeps driven from side → (feeds : List Feed) (output : Option NetId)
    → unwrap_or (option_and_then driven' output) (map (renamed_feed to') feeds) ≡ map (moved_feed from side) (unwrap_or (option_and_then driven output) (map (renamed_feed to) feeds))
moved_operands to to' driven driven' from side moves drivers keeps feeds None =
    map_after (renamed_feed to') (moved_feed from side) (renamed_feed to) (moved_operand to to' from side moves) feeds
moved_operands to to' driven driven' from side moves drivers keeps feeds (Some net) = rw (drivers net) (by (driven net) refl)
  where
    by : (found : Option (List Feed)) → driven net ≡ found
        → unwrap_or found (map (renamed_feed to') feeds) ≡ map (moved_feed from side) (unwrap_or found (map (renamed_feed to) feeds))
    by None e = map_after (renamed_feed to') (moved_feed from side) (renamed_feed to) (moved_operand to to' from side moves) feeds
    by (Some fs) e = sym (keeps net fs e)

-- the readers of the net and its driver
pub moved_cell : (to to' : ℕ → ℕ) (driven driven' : NetId → Option (List Feed)) (from side : NetId) → Moves to to' from side → ((net : NetId) → driven' net ≡ driven net)
    → Keeps driven from side → (cell : CellView)
    → cell_with to' driven' cell ≡ with_moved_feeds from side (with_moved_output from side (cell_with to driven cell))
moved_cell to to' driven driven' from side moves drivers keeps cell =
    rw (moved_operands to to' driven driven' from side moves drivers keeps cell.feeds cell.output, moved_out to to' from side moves cell.output) refl

output_stays : (from side : NetId) (cell : CellView) → cell.output ≢ Some from → with_moved_output from side cell ≡ cell
output_stays from side cell apart = ap (λ (o : Option NetId). record cell { output = o }) (stays cell.output apart)
  where
    stays : (output : Option NetId) → output ≢ Some from → moved_output from side output ≡ output
    stays None other = refl
    stays (Some net) other = by (net.0 == from.0) refl
      where
        by : (b : Bool) → net.0 == from.0 ≡ b → Some (if net.0 == from.0 then side else net) ≡ Some net
        by true e = absurd (other (ap (λ (n : NetId). Some n) (net_is net from (eqb-true net.0 from.0 e))))
        by false e = rw e refl

-- the readers alone, where no cell drives the net
pub moved_reader : (to to' : ℕ → ℕ) (driven driven' : NetId → Option (List Feed)) (from side : NetId) → Moves to to' from side → ((net : NetId) → driven' net ≡ driven net)
    → Keeps driven from side → (cell : CellView) → (cell_with to driven cell).output ≢ Some from
    → cell_with to' driven' cell ≡ with_moved_feeds from side (cell_with to driven cell)
moved_reader to to' driven driven' from side moves drivers keeps cell apart =
    moved_cell to to' driven driven' from side moves drivers keeps cell ∙ ap (with_moved_feeds from side) (output_stays from side (cell_with to driven cell) apart)

-- A driver gets its operands.

-- the driver of the net has these, unless it has operands already
abbrev Feeds : (NetId → Option (List Feed)) → (NetId → Option (List Feed)) → NetId → List Feed → Type 0
Feeds driven driven' from feeds = (net : NetId) → driven' net ≡ option_or (driven net) (if from.0 == net.0 then Some feeds else None)

pub or_none : (found : Option (List Feed)) → option_or found None ≡ found
or_none None = refl
or_none (Some feeds) = refl

pub fed_cell : (to to' : ℕ → ℕ) (driven driven' : NetId → Option (List Feed)) (from : NetId) (feeds : List Feed) → ((net : ℕ) → to' net ≡ to net) → Feeds driven driven' from feeds
    → driven from ≡ None → to from.0 ≡ from.0 → ((net : ℕ) → to net ≡ from.0 → net ≡ from.0) → (cell : CellView)
    → cell_with to' driven' cell ≡ with_driver_feeds from feeds (cell_with to driven cell)
fed_cell to to' driven driven' from feeds nets drivers none stays alone cell = at cell.output refl
  where
    other_nets : cell_with to' driven' cell ≡ cell_with to driven' cell
    other_nets = cell_same to to' driven' driven' nets (λ net. refl) cell

    at : (output : Option NetId) → cell.output ≡ output → cell_with to' driven' cell ≡ with_driver_feeds from feeds (cell_with to driven cell)
    at None e = other_nets ∙ rw e refl
    at (Some net) e = other_nets ∙ by (from.0 == net.0) refl
      where
        by : (b : Bool) → from.0 == net.0 ≡ b → cell_with to driven' cell ≡ with_driver_feeds from feeds (cell_with to driven cell)
        by true f =
            let same : from ≡ net = net_is from net (eqb-true from.0 net.0 f) in
            let gets : driven' net ≡ Some feeds = rw (drivers net, f, ← same, none) refl in
            let drives : is_output (Some (renamed_net to net)) from.0 ≡ true = eq-eqb (to net.0) from.0 (rw (← same) stays) in
            rw (e, gets, drives) refl
        by false f =
            let keeps : driven' net ≡ driven net = drivers net ∙ (rw f (or_none (driven net))) in
            let misses : is_output (Some (renamed_net to net)) from.0 ≡ false = missed (to net.0 == from.0) refl in
            rw (e, keeps, misses) refl
          where
            missed : (b : Bool) → to net.0 == from.0 ≡ b → to net.0 == from.0 ≡ false
            missed true g = let h = eq-eqb from.0 net.0 (sym (alone net.0 (eqb-true (to net.0) from.0 g))) in absurd (cc)
            missed false g = g

-- All cells.

pub mapped_twice : (f g h : CellView → CellView) (cells : List (Option CellView)) → ((i : ℕ) (cell : CellView) → live_cell (slice_get cells i) ≡ Some cell → f cell ≡ g (h cell))
    → map (option_map f) cells ≡ map (option_map g) (map (option_map h) cells)
mapped_twice f g h [] same = refl
mapped_twice f g h (None ∷ ps) same = rw (mapped_twice f g h ps (λ i cell e. same (suc i) cell e)) refl
mapped_twice f g h (Some cell ∷ ps) same = rw (same 0 cell refl, mapped_twice f g h ps (λ i other e. same (suc i) other e)) refl

pub mapped_same : (f h : CellView → CellView) (cells : List (Option CellView)) → ((cell : CellView) → f cell ≡ h cell) → map (option_map f) cells ≡ map (option_map h) cells
mapped_same f h [] same = refl
mapped_same f h (None ∷ ps) same = rw (mapped_same f h ps same) refl
mapped_same f h (Some cell ∷ ps) same = rw (same cell, mapped_same f h ps same) refl

pub mapped_alone : (f : CellView → CellView) (cells : List (Option CellView)) → ((cell : CellView) → f cell ≡ cell) → map (option_map f) cells ≡ cells
mapped_alone f [] same = refl
mapped_alone f (None ∷ ps) same = rw (mapped_alone f ps same) refl
mapped_alone f (Some cell ∷ ps) same = rw (same cell, mapped_alone f ps same) refl
