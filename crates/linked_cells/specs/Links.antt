-- Operand slots that are linked to the slots before and after them among the readers of their net.
use Rattle.std.specs.Prelude.{◌≡◌, ◌≢◌, ◌⊎◌, ℕ, ◌≤◌, length, zero, suc, List, [], ◌∷◌, ◌++◌, slice_get, Option, Some, None, option_and_then, ⊤}
use Rattle.netlist_model.specs.declared.NetId.{NetId}
use Rattle.netlist_model.specs.declared.Feed.{Feed}
use Rattle.netlist_model.specs.declared.Feed.TheVariants.{Net}
use Rattle.netlist_model.specs.declared.Reader.{Reader}
pub use Rattle.linked_cells.specs.declared.Slot.{Slot}

-- own: the slot at a reader, if there is one
abbrev pub Slots : Type 0
Slots = Reader → Option Slot

-- own: the first of a list, or else what comes after it
abbrev pub first_or : List Reader → Option Reader → Option Reader
first_or [] after = after
first_or (r ∷ rs) after = Some r

-- own: the last of a list, or else what comes before it
abbrev pub last_or : Option Reader → List Reader → Option Reader
last_or before [] = before
last_or before (r ∷ rs) = last_or (Some r) rs

abbrev pub slot_on : ℕ → Option Reader → Option Reader → Slot
slot_on net before after = record { feed = Net (record { 0 = net }); before = before; after = after }

-- own: these slots are on the net, each linked to the one after it and back to the one before it
abbrev pub Chain : Slots → ℕ → Option Reader → List Reader → Option Reader → Type 0
Chain slots net before [] after = ⊤
Chain slots net before (r ∷ rs) after = (slots r ≡ Some (slot_on net before (first_or rs after))) × Chain slots net (Some r) rs after

-- own: the reader stands in the list
pub record Stands (list : List Reader) (reader : Reader) : Type 0 where
  pub front : List Reader
  pub back : List Reader
  pub is : list ≡ front ++ reader ∷ back

-- own: for each net the links from its first reader visit exactly the slots on it, and the links back undo
-- the links forward
pub record AreThreaded (slots : Slots) (first : ℕ → Option Reader) (walk : ℕ → List Reader) : Type 0 where
  pub starts : (net : ℕ) → first net ≡ first_or (walk net) None
  pub linked : (net : ℕ) → Chain slots net None (walk net) None
  pub each : (reader : Reader) (net : NetId) (slot : Slot) → slots reader ≡ Some slot → slot.feed ≡ Net net → Stands (walk net.0) reader

-- own: the walk from a slot along the links, over so many slots at most
abbrev pub walk_from : Slots → ℕ → Option Reader → List Reader
walk_from slots zero at = []
walk_from slots (suc fuel) None = []
walk_from slots (suc fuel) (Some r) = r ∷ walk_from slots fuel (option_and_then (λ (slot : Slot). slot.after) (slots r))

-- own: one slot is written
pub record Writes (old new : Slots) (reader : Reader) (slot : Slot) : Type 0 where
  pub here : new reader ≡ Some slot
  pub others : (other : Reader) → other ≢ reader → new other ≡ old other

-- own: the link back of a slot is written, or the link forward
pub record WritesBefore (old new : Slots) (reader : Reader) (before : Option Reader) : Type 0 where
  pub slot : Slot
  pub was : old reader ≡ Some slot
  pub writes : Writes old new reader (record slot { before = before })

pub record WritesAfter (old new : Slots) (reader : Reader) (after : Option Reader) : Type 0 where
  pub slot : Slot
  pub was : old reader ≡ Some slot
  pub writes : Writes old new reader (record slot { after = after })

-- own: no slot changes
abbrev pub Same : Slots → Slots → Type 0
Same old new = (reader : Reader) → new reader ≡ old reader

-- own: the link back of the slot, if there is one, is written
abbrev pub SetsBefore : Slots → Slots → Option Reader → Option Reader → Type 0
SetsBefore old new None before = Same old new
SetsBefore old new (Some reader) before = WritesBefore old new reader before

-- own: the link forward of the slot, if there is one, is written
abbrev pub SetsAfter : Slots → Slots → Option Reader → Option Reader → Type 0
SetsAfter old new None after = Same old new
SetsAfter old new (Some reader) after = WritesAfter old new reader after

-- own: the first reader of one net is written
pub record WritesFirst (old new : ℕ → Option Reader) (net : ℕ) (first : Option Reader) : Type 0 where
  pub here : new net ≡ first
  pub others : (other : ℕ) → other ≢ net → new other ≡ old other

-- own: the first reader of the net is written where nothing comes before
abbrev pub SetsFirst : (ℕ → Option Reader) → (ℕ → Option Reader) → ℕ → Option Reader → Option Reader → Type 0
SetsFirst old new net None first = WritesFirst old new net first
SetsFirst old new net (Some before) first = (other : ℕ) → new other ≡ old other

-- own: some walks are those of the links
pub record Threaded (slots : Slots) (first : ℕ → Option Reader) : Type 0 where
  pub walk : ℕ → List Reader
  pub threads : AreThreaded slots first walk

-- own: some of the readers of a net have moved to another, and the walk stands at the first that hasn't
pub record IsMoving (old now : Slots) (from to : ℕ) (start at last : Option Reader) (fuel : ℕ) : Type 0 where
  pub moved : List Reader
  pub rest : List Reader
  pub was : Chain old from None (moved ++ rest) None
  pub start_is : start ≡ first_or (moved ++ rest) None
  pub done : Chain now to None moved (first_or rest None)
  pub left : Chain now from (last_or None moved) rest None
  pub same : (q : Reader) → (Stands (moved ++ rest) q → ⊥) → now q ≡ old q
  pub at_is : at ≡ first_or rest None
  pub last_is : last ≡ last_or None moved
  pub short : length (moved ++ rest) ≤ fuel

-- own: the feed of a slot where the readers of a net moved to another
abbrev pub MovesFeed : NetId → NetId → Feed → Feed → Type 0
MovesFeed from to was now = ((was ≡ Net from) × (now ≡ Net to)) ⊎ ((was ≢ Net from) × (now ≡ was))

-- own: the slots on a net stand in its walk once, and no other does
pub record VisitsOnce (slots : Slots) (net : ℕ) (walk : List Reader) : Type 0 where
  pub only : (k : ℕ) (reader : Reader) → slice_get walk k ≡ Some reader → (slot : Slot) × (slots reader ≡ Some slot) × (slot.feed ≡ Net (record { 0 = net }))
  pub each : (reader : Reader) (slot : Slot) → slots reader ≡ Some slot → slot.feed ≡ Net (record { 0 = net }) → (k : ℕ) × (slice_get walk k ≡ Some reader)
  pub once : (j k : ℕ) (reader : Reader) → slice_get walk j ≡ Some reader → slice_get walk k ≡ Some reader → j ≡ k

abbrev pub LinksVisitOnce : Type 0
LinksVisitOnce = (slots : Slots) (first : ℕ → Option Reader) (walk : ℕ → List Reader) (net : ℕ) → AreThreaded slots first walk → VisitsOnce slots net (walk net)
