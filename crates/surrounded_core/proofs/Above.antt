-- A table of levels shows that the gates of a table stand above what they read.
use Rattle.std.proofs.Common.{◌≡◌, ℕ, suc, zero, ◌+◌, ◌<◌, ◌≤◌, ◌&&◌, ◌||◌, List, [], ◌∷◌, map, refl, arith, ap, false, IsTrue, nat_lt, length, Some}
use Rattle.std.specs.List.{list_all, slice_get, slice_index}
use Rattle.list_laws.proofs.Tests.{both_hold, other_holds}
use Rattle.cell_library.specs.Gates.{is_flop}
use Rattle.netlist_model.specs.declared.Feed.{Feed}
use Rattle.netlist_model.specs.Formed.{FeedsBelow}
use Rattle.gate_parts.specs.declared.Pin.{Pin}
use Rattle.gate_parts.specs.declared.Pin.TheVariants.{Own, Given}
use Rattle.gate_parts.specs.declared.Gate.{Gate}
use Rattle.gate_parts.specs.Parts.{is_flop_kind, feed_of, pins_of, cells_from, part_cells}
use Rattle.gate_parts.specs.Levels.{AreFeedsUpTo}
use Rattle.gate_parts.proofs.LevelProofs.{feed_below}
use Rattle.gate_parts.proofs.PinCounts.{no_flop_kind}
use Rattle.surrounded_core.specs.Above.{StandsOn, IsAbove, AreAbove, StandsByPlace, PartsStandAbove, is_low_pin, fits_from, fits, AreRanked}

pins_below : (rank : ℕ → ℕ) (first base level bound count : ℕ) (levels : List ℕ) (given : List Feed) (pins : List Pin)
    → ((j : ℕ) → j < count → rank (first + j) ≤ base + slice_index levels j) → AreFeedsUpTo rank base given → base + level ≤ bound
    → IsTrue (list_all (is_low_pin count levels level) pins) → FeedsBelow rank (map (feed_of first given) pins) bound
pins_below rank first base level bound count levels given [] own up is low = tt
pins_below rank first base level bound count levels given (Own j ∷ pins) own up is low =
    let parts = both_hold (nat_lt j count && nat_lt (slice_index levels j) level) (list_all (is_low_pin count levels level) pins) low in
    let pin = both_hold (nat_lt j count) (nat_lt (slice_index levels j) level) parts.0 in
    let inside : j < count = grind (arith, pin.0) in
    let below : slice_index levels j < level = grind (arith, pin.1) in
    let here = own j inside in
    (omega arith, pins_below rank first base level bound count levels given pins own up is parts.1)
pins_below rank first base level bound count levels given (Given k ∷ pins) own up is low =
    let parts = both_hold (nat_lt 0 level) (list_all (is_low_pin count levels level) pins) low in
    let above : 0 < level = grind (arith, parts.0) in
    feed_below rank bound base given k (map (feed_of first given) pins) up (omega arith) (pins_below rank first base level bound count levels given pins own up is parts.1)

above_from : (rank : ℕ → ℕ) (first number base count : ℕ) (levels : List ℕ) (given : List Feed) (k net : ℕ) (gates : List Gate) → net ≡ first + k
    → ((j : ℕ) → j < count → rank (first + j) ≤ base + slice_index levels j)
    → ((i : ℕ) (gate : Gate) → slice_get gates i ≡ Some gate → is_flop_kind gate.kind ≡ false → base + slice_index levels (k + i) ≤ rank (first + (k + i)))
    → AreFeedsUpTo rank base given → IsTrue (fits_from count levels k gates) → AreAbove rank (cells_from first given number net gates)
above_from rank first number base count levels given k net [] at own from up low = tt
above_from rank first number base count levels given k net (gate ∷ gates) at own from up low =
    let parts = both_hold (is_flop_kind gate.kind || list_all (is_low_pin count levels (slice_index levels k)) (pins_of gate.pins)) (fits_from count levels (suc k) gates) low in
    let z : k + 0 ≡ k = omega arith in
    let same : rank net ≡ rank (first + k) = ap rank at in (
      (λ is. let here : base + slice_index levels (k + 0) ≤ rank (first + (k + 0)) = from 0 gate refl is in
          let here' : base + slice_index levels k ≤ rank (first + k) = rw z at here in
          pins_below rank first base (slice_index levels k) (rank net) count levels given (pins_of gate.pins) own up (rw same here') (other_holds _ _ parts.0 is)),
      above_from rank first (suc number) base count levels given (suc k) (suc net) gates (omega arith) own
          (λ i other there is. let e : k + suc i ≡ suc k + i = omega arith in
          let here : base + slice_index levels (k + suc i) ≤ rank (first + (k + suc i)) = from (suc i) other there is in rw e at here) up parts.1,
    )

-- own: where what is handed in has numbers up to the base, the gates stand above what they read
pub tables : (rank : ℕ → ℕ) (first number base : ℕ) (levels : List ℕ) (gates : List Gate) (given : List Feed) → IsTrue (fits levels gates)
    → AreRanked rank first base levels gates → AreFeedsUpTo rank base given → AreAbove rank (part_cells gates given first number)
tables = λ rank first number base levels gates given low ranked up.
    above_from rank first number base (length gates) levels given 0 first gates (omega arith) ranked.up_to
    (λ i gate there is. let z : 0 + i ≡ i = omega arith in rw z (ranked.from i gate there is)) up low

pub joined : PartsStandAbove
joined rank [] back a b = b
joined rank (cell ∷ front) back a b = (a.0, joined rank front back a.1 b)

pub by_place : StandsByPlace
by_place library rank [] [] core parts k cell net at output is = absurd (cc)
by_place library rank [] (x ∷ xs) core parts zero cell net at output is =
    let same : x ≡ cell = cc in
    let here : IsAbove rank cell = rw same at parts.0 in
    let stands : StandsOn rank cell.feeds cell.output = here (no_flop_kind library cell.kind is) in
    rw output at stands
by_place library rank [] (x ∷ xs) core parts (suc k) cell net at output is = by_place library rank [] xs tt parts.1 k cell net at output is
by_place library rank (x ∷ xs) ys core parts zero cell net at output is =
    let same : x ≡ cell = cc in
    let here : is_flop library cell.kind ≡ false → StandsOn rank cell.feeds cell.output = rw same at core.0 in
    let stands : StandsOn rank cell.feeds cell.output = here is in
    rw output at stands
by_place library rank (x ∷ xs) ys core parts (suc k) cell net at output is = by_place library rank xs ys core.1 parts k cell net at output is
