-- Places of live cells.
use Rattle.std.proofs.Common.{◌≡◌, ℕ, zero, suc, ◌+◌, ◌<◌, true, false, List, [], ◌∷◌, length, map, refl, ap, subst, Option, Some, None, arith}
use Rattle.std.specs.Prelude.{slice_get, IsSome}
use Rattle.std.specs.Option.{option_map}
use Rattle.netlist_model.specs.Lists.{CellView, live_cell}
use Rattle.netlist_model.specs.LawsContained.{DenseNumbers}
use Rattle.link_model.specs.Cells.{NamedCell}
use Rattle.netlist_unlink.specs.Trees.{Naming}
use Rattle.netlist_unlink.specs.Renumbered.{cells_from, new_cell, new_feed, new_net}
use Rattle.netlist_unlink.specs.ImagesLaws.{new_place, DenseKeepsPlaces}

-- the number of the live cell at a place
abbrev pub number_of : List (Option CellView) → ℕ → ℕ
number_of [] place = 0
number_of (None ∷ places) place = suc (number_of places place)
number_of (Some cell ∷ places) zero = 0
number_of (Some cell ∷ places) (suc place) = suc (number_of places place)

pub place_back : (places : List (Option CellView)) (i : ℕ) (cell : CellView) → live_cell (slice_get places i) ≡ Some cell → number_of places (new_place places i) ≡ i
place_back [] i cell e = absurd (let h : None ≡ Some cell = e in cc)
place_back (None ∷ places) zero cell e = absurd (let h : None ≡ Some cell = e in cc)
place_back (Some c ∷ places) zero cell e = refl
place_back (None ∷ places) (suc i) cell e = ap suc (place_back places i cell e)
place_back (Some c ∷ places) (suc i) cell e = ap suc (place_back places i cell e)

-- the named cell is this one by new numbers
pub record IsNewOf (order : List ℕ) (cell : CellView) (named : NamedCell) : Type 0 where
  pub kind : named.kind ≡ cell.kind
  pub feeds : named.feeds ≡ map (new_feed order) cell.feeds
  pub output : named.output ≡ option_map (new_net order) cell.output

pub record HasNew (order : List ℕ) (cells : List NamedCell) (place : ℕ) (cell : CellView) : Type 0 where
  pub named : NamedCell
  pub there : slice_get cells place ≡ Some named
  pub is : IsNewOf order cell named

pub new_at : (naming : Naming) (order : List ℕ) (number : ℕ) (places : List (Option CellView)) (k : ℕ) (cell : CellView) → live_cell (slice_get places k) ≡ Some cell
    → HasNew order (cells_from naming order number places) (new_place places k) cell
new_at naming order number [] k cell e = absurd (let h : None ≡ Some cell = e in cc)
new_at naming order number (None ∷ places) zero cell e = absurd (let h : None ≡ Some cell = e in cc)
new_at naming order number (Some c ∷ places) zero cell e =
    let same : c ≡ cell = cc in
    let here : HasNew order (cells_from naming order number (Some c ∷ places)) 0 c
    = record { named = new_cell naming order number c; there = refl; is = record { kind = refl; feeds = refl; output = refl } } in
    let P : CellView → Type 0 = λ x. HasNew order (cells_from naming order number (Some c ∷ places)) 0 x in
    subst P same here
new_at naming order number (None ∷ places) (suc k) cell e =
    let rest = new_at naming order (number + 1) places k cell e in record { named = rest.named; there = rest.there; is = rest.is }
new_at naming order number (Some c ∷ places) (suc k) cell e =
    let rest = new_at naming order (number + 1) places k cell e in record { named = rest.named; there = rest.there; is = rest.is }

-- the live cell that stands at a place of the new ones
pub record HasOld (places : List (Option CellView)) (place : ℕ) : Type 0 where
  pub old : ℕ
  pub cell : CellView
  pub live : live_cell (slice_get places old) ≡ Some cell
  pub same : new_place places old ≡ place

pub old_at : (naming : Naming) (order : List ℕ) (number : ℕ) (places : List (Option CellView)) (j : ℕ) → j < length (cells_from naming order number places) → HasOld places j
old_at naming order number [] j less = absurd (omega arith)
old_at naming order number (None ∷ places) j less =
    let rest = old_at naming order (number + 1) places j less in record { old = suc rest.old; cell = rest.cell; live = rest.live; same = rest.same }
old_at naming order number (Some c ∷ places) zero less = record { old = 0; cell = c; live = refl; same = refl }
old_at naming order number (Some c ∷ places) (suc j) less =
    let rest = old_at naming order (number + 1) places j (omega arith) in record { old = suc rest.old; cell = rest.cell; live = rest.live; same = ap suc rest.same }

-- where no place before is empty, the place is the number
all_before : (places : List (Option CellView)) (i : ℕ) → ((k : ℕ) → k < i → IsSome (live_cell (slice_get places k))) → i < length places → new_place places i ≡ i
all_before [] i front less = absurd (omega arith)
all_before (place ∷ places) zero front less = refl
all_before (None ∷ places) (suc i) front less = absurd (let h : false ≡ true = front 0 (omega arith) in cc)
all_before (Some c ∷ places) (suc i) front less = ap suc (all_before places i (λ k h. front (suc k) (omega arith)) (omega arith))

within : (places : List (Option CellView)) (i : ℕ) → IsSome (live_cell (slice_get places i)) → i < length places
within [] i some = absurd (let h : false ≡ true = some in cc)
within (place ∷ places) zero some = omega arith
within (place ∷ places) (suc i) some = let h = within places i some in omega arith

pub dense_keeps_places : DenseNumbers → DenseKeepsPlaces
dense_keeps_places numbers N dense i some =
    let less = numbers N dense i some in all_before N.cells i (λ k h. dense k (omega arith)) (within N.cells i some)
