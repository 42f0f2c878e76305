-- The cells of a table of the test logic.
use Rattle.std.proofs.Common.{◌≡◌, ℕ, zero, suc, ◌+◌, ◌<◌, ◌&&◌, not, true, false, Bool, IsTrue, List, [], ◌∷◌, ◌++◌, map, length, refl, ap, sym, subst, ◌∙◌, arith, Option, unwrap_or}
use Rattle.std.specs.Prelude.{Some, None, slice_get}
use Rattle.std.specs.List.{list_all}
use Rattle.std.proofs.lemmas.Bool.{eqb-true}
use Rattle.std.proofs.lemmas.List.{length-map}
use Rattle.list_laws.proofs.Tests.{both_hold, then_holds}
use Rattle.cell_library.specs.declared.Kind.{Kind}
use Rattle.cell_library.specs.declared.Kind.TheVariants.{Flop, Listed}
use Rattle.cell_library.specs.declared.listed.ListedCell.{ListedCell}
use Rattle.cell_library.specs.Gates.{is_three_state, is_flop, Takes}
use Rattle.netlist_model.specs.declared.Feed.{Feed}
use Rattle.netlist_model.specs.declared.Feed.TheVariants.{Net, Const}
use Rattle.netlist_model.specs.declared.NetId.{NetId}
use Rattle.netlist_model.specs.Lists.{CellView}
use Rattle.gate_parts.specs.declared.Pin.{Pin}
use Rattle.gate_parts.specs.declared.Pin.TheVariants.{Own, Given}
use Rattle.gate_parts.specs.declared.Gate.{Gate}
use Rattle.gate_parts.specs.Parts.{feed_of, pins_of, gate_cell, cells_from, part_cells, takes_few, is_sound_pin, is_sound_gate}
use Rattle.gate_parts.proofs.PinCounts.{takes_by, pins_few}
use Rattle.stitched_netlist.specs.Gates.{EachCell, DriveInTurn, FeedsAre, may_keep, IsLogicCell, is_given_at, is_clocked_by, is_logic_gate, is_logic_table, is_plain_gate}

-- Lists of cells.

pub each_append : (P : CellView → Type 0) (xs ys : List CellView) → EachCell P xs → EachCell P ys → EachCell P (xs ++ ys)
each_append P [] ys a b = b
each_append P (x ∷ xs) ys a b = (a.0, each_append P xs ys a.1 b)

pub each_at : (P : CellView → Type 0) (xs : List CellView) (k : ℕ) (cell : CellView) → EachCell P xs → slice_get xs k ≡ Some cell → P cell
each_at P [] k cell each at = absurd (cc)
each_at P (x ∷ xs) zero cell each at = let same : x ≡ cell = cc in subst P same each.0
each_at P (x ∷ xs) (suc k) cell each at = each_at P xs k cell each.1 at

pub turn_append : (net : ℕ) (xs ys : List CellView) → DriveInTurn net xs → DriveInTurn (net + length xs) ys → DriveInTurn net (xs ++ ys)
turn_append net [] ys a b = subst (λ (n : ℕ). DriveInTurn n ys) (omega arith) b
turn_append net (x ∷ xs) ys a b = (a.0, turn_append (suc net) xs ys a.1 (subst (λ (n : ℕ). DriveInTurn n ys) (omega arith) b))

pub turn_moved : (m n : ℕ) (xs : List CellView) → m ≡ n → DriveInTurn m xs → DriveInTurn n xs
turn_moved m n xs e h = subst (λ (k : ℕ). DriveInTurn k xs) e h

pub turn_at : (net : ℕ) (xs : List CellView) (k : ℕ) (cell : CellView) → DriveInTurn net xs → slice_get xs k ≡ Some cell → cell.output ≡ Some (record { 0 = net + k })
turn_at net [] k cell turn at = absurd (cc)
turn_at net (x ∷ xs) zero cell turn at =
    let same : x ≡ cell = cc in
    let e : net + 0 ≡ net = omega arith in
    rw e (ap (λ (c : CellView). c.output) (sym same) ∙ turn.0)
turn_at net (x ∷ xs) (suc k) cell turn at = let e : net + suc k ≡ suc net + k = omega arith in rw e (turn_at (suc net) xs k cell turn.1 at)

-- Operands.

pub feeds_append : (P : ℕ → Type 0) (xs ys : List Feed) → FeedsAre P xs → FeedsAre P ys → FeedsAre P (xs ++ ys)
feeds_append P [] ys a b = b
feeds_append P (Net net ∷ xs) ys a b = (a.0, feeds_append P xs ys a.1 b)
feeds_append P (Const c ∷ xs) ys a b = feeds_append P xs ys a b

pub feed_cons : (P : ℕ → Type 0) (feed : Feed) (feeds : List Feed) → FeedsAre P (feed ∷ []) → FeedsAre P feeds → FeedsAre P (feed ∷ feeds)
feed_cons P (Net net) feeds a b = (a.0, b)
feed_cons P (Const c) feeds a b = b

pub feed_head : (P : ℕ → Type 0) (feed : Feed) (feeds : List Feed) → FeedsAre P (feed ∷ feeds) → FeedsAre P (feed ∷ [])
feed_head P (Net net) feeds a = (a.0, tt)
feed_head P (Const c) feeds a = tt

pub feed_tail : (P : ℕ → Type 0) (feed : Feed) (feeds : List Feed) → FeedsAre P (feed ∷ feeds) → FeedsAre P feeds
feed_tail P (Net net) feeds a = a.1
feed_tail P (Const c) feeds a = a

pub feeds_at : (P : ℕ → Type 0) (feeds : List Feed) (place net : ℕ) → FeedsAre P feeds → slice_get feeds place ≡ Some (Net (record { 0 = net })) → P net
feeds_at P [] place net are at = absurd (cc)
feeds_at P (f ∷ fs) zero net are at =
    let same : f ≡ Net (record { 0 = net }) = cc in
    let here : FeedsAre P (Net (record { 0 = net }) ∷ []) = subst (λ (x : Feed). FeedsAre P (x ∷ [])) same (feed_head P f fs are) in
    here.0
feeds_at P (f ∷ fs) (suc place) net are at = feeds_at P fs place net (feed_tail P f fs are) at

given_feed : (P : ℕ → Type 0) (given : List Feed) (k : ℕ) → FeedsAre P given → FeedsAre P (unwrap_or (slice_get given k) (Const false) ∷ [])
given_feed P [] k are = tt
given_feed P (f ∷ fs) zero are = feed_head P f fs are
given_feed P (f ∷ fs) (suc k) are = given_feed P fs k (feed_tail P f fs are)

-- One gate.

not_true : (a : Bool) → IsTrue (not a) → a ≡ false
not_true true is = absurd (cc)
not_true false is = refl

pub pin_feed : (P : ℕ → Type 0) (first count : ℕ) (given : List Feed) (pin : Pin) → ((j : ℕ) → j < count → P (first + j)) → FeedsAre P given
    → IsTrue (is_sound_pin count (length given) pin) → FeedsAre P (feed_of first given pin ∷ [])
pin_feed P first count given (Own j) own are sound = let low : j < count = grind (arith, sound) in (own j low, tt)
pin_feed P first count given (Given k) own are sound = given_feed P given k are

pins_feeds : (P : ℕ → Type 0) (first count : ℕ) (given : List Feed) (pins : List Pin) → ((j : ℕ) → j < count → P (first + j)) → FeedsAre P given
    → IsTrue (list_all (is_sound_pin count (length given)) pins) → FeedsAre P (map (feed_of first given) pins)
pins_feeds P first count given [] own are sound = tt
pins_feeds P first count given (pin ∷ pins) own are sound =
    let parts = both_hold (is_sound_pin count (length given) pin) (list_all (is_sound_pin count (length given)) pins) sound in
    feed_cons P (feed_of first given pin) (map (feed_of first given) pins) (pin_feed P first count given pin own are parts.0) (pins_feeds P first count given pins own are parts.1)

given_at : (first : ℕ) (given : List Feed) (place : ℕ) (net : NetId) (pin : Option Pin) → IsTrue (is_given_at place pin) → slice_get given place ≡ Some (Net net)
    → (p : Pin) × (pin ≡ Some p) × (feed_of first given p ≡ Net net)
given_at first given place net None is at = absurd (cc)
given_at first given place net (Some (Own k)) is at = absurd (cc)
given_at first given place net (Some (Given k)) is at =
    let same : k ≡ place = eqb-true k place is in
    let here : slice_get given k ≡ Some (Net net) = ap (slice_get given) same ∙ at in
    (Given k, refl, ap (λ (o : Option Feed). unwrap_or o (Const false)) here)

mapped : (to : Pin → Feed) (pins : List Pin) (k : ℕ) (pin : Pin) → slice_get pins k ≡ Some pin → slice_get (map to pins) k ≡ Some (to pin)
mapped to [] k pin at = absurd (cc)
mapped to (p ∷ pins) zero pin at = let same : p ≡ pin = cc in ap (λ (x : Pin). Some (to x)) same
mapped to (p ∷ pins) (suc k) pin at = mapped to pins k pin at

steered : (first : ℕ) (given : List Feed) (place at_place : ℕ) (net : NetId) (pins : List Pin) → IsTrue (is_given_at place (slice_get pins at_place))
    → slice_get given place ≡ Some (Net net) → slice_get (map (feed_of first given) pins) at_place ≡ Some (Net net)
steered first given place at_place net pins is at =
    let p = given_at first given place net (slice_get pins at_place) is at in
    mapped (feed_of first given) pins at_place p.0 p.1 ∙ ap (λ (x : Feed). Some x) p.2

pub gate_is : (tck trst : NetId) (P : ℕ → Type 0) (count first number net clock reset : ℕ) (given : List Feed) (gate : Gate)
    → IsTrue (is_logic_gate count (length given) clock reset gate) → slice_get given clock ≡ Some (Net tck) → slice_get given reset ≡ Some (Net trst)
    → FeedsAre P given → ((j : ℕ) → j < count → P (first + j)) → IsLogicCell tck trst P (gate_cell first given number net gate)
gate_is tck trst P count first number net clock reset given gate right is_clock is_reset are own =
    let pins : List Pin = pins_of gate.pins in
    let parts = both_hold (is_sound_gate count (length given) gate) (not (is_three_state gate.kind) && is_clocked_by clock reset gate) right in
    let sound = both_hold (takes_few gate.kind (length pins)) (list_all (is_sound_pin count (length given)) pins) parts.0 in
    let rest = both_hold (not (is_three_state gate.kind)) (is_clocked_by clock reset gate) parts.1 in
    record {
      takes = λ library. subst (λ (n : ℕ). Takes library gate.kind n) (sym (length-map pins (feed_of first given))) (takes_by library gate.kind (length pins) sound.0 (pins_few gate.pins));
      two_state = not_true (is_three_state gate.kind) rest.0;
      reads = pins_feeds P first count given pins own are sound.1;
      clock = λ flop. steered first given clock 1 tck pins (both_hold _ _ (then_holds (may_keep gate.kind) _ rest.1 flop)).0 is_clock;
      reset = λ flop. steered first given reset 2 trst pins (both_hold _ _ (then_holds (may_keep gate.kind) _ rest.1 flop)).1 is_reset;
    }

-- A table.

pub keeps_may : (library : List ListedCell) (kind : Kind) → is_flop library kind ≡ true → may_keep kind ≡ true
keeps_may library (Flop kind) flop = refl
keeps_may library (Listed number) flop = refl
keeps_may library kind flop = absurd (let e : false ≡ true = flop in cc)

gates_are : (tck trst : NetId) (P : ℕ → Type 0) (count first number net clock reset : ℕ) (given : List Feed) (gates : List Gate)
    → IsTrue (list_all (is_logic_gate count (length given) clock reset) gates) → slice_get given clock ≡ Some (Net tck) → slice_get given reset ≡ Some (Net trst)
    → FeedsAre P given → ((j : ℕ) → j < count → P (first + j)) → EachCell (IsLogicCell tck trst P) (cells_from first given number net gates)
gates_are tck trst P count first number net clock reset given [] right is_clock is_reset are own = tt
gates_are tck trst P count first number net clock reset given (gate ∷ gates) right is_clock is_reset are own =
    let parts = both_hold (is_logic_gate count (length given) clock reset gate) (list_all (is_logic_gate count (length given) clock reset) gates) right in (
      gate_is tck trst P count first number net clock reset given gate parts.0 is_clock is_reset are own,
      gates_are tck trst P count first (suc number) (suc net) clock reset given gates parts.1 is_clock is_reset are own,
    )

pub gates_turn : (first : ℕ) (given : List Feed) (number net : ℕ) (gates : List Gate) → DriveInTurn net (cells_from first given number net gates)
gates_turn first given number net [] = tt
gates_turn first given number net (gate ∷ gates) = (refl, gates_turn first given (suc number) (suc net) gates)

pub table_turn : (gates : List Gate) (given : List Feed) (first number : ℕ) → DriveInTurn first (part_cells gates given first number)
table_turn gates given first number = gates_turn first given number first gates

pub table_logic : (gates : List Gate) (given : List Feed) (first number clock reset : ℕ) (tck trst : NetId) (P : ℕ → Type 0) → IsTrue (is_logic_table gates (length given) clock reset)
    → slice_get given clock ≡ Some (Net tck) → slice_get given reset ≡ Some (Net trst) → FeedsAre P given → ((j : ℕ) → j < length gates → P (first + j))
    → EachCell (IsLogicCell tck trst P) (part_cells gates given first number)
table_logic gates given first number clock reset tck trst P right is_clock is_reset are own =
    gates_are tck trst P (length gates) first number first clock reset given gates right is_clock is_reset are own

-- without flip-flops nothing clocks

plain_is : (tck trst : NetId) (P : ℕ → Type 0) (count first number net : ℕ) (given : List Feed) (gate : Gate) → IsTrue (is_plain_gate count (length given) gate)
    → FeedsAre P given → ((j : ℕ) → j < count → P (first + j)) → IsLogicCell tck trst P (gate_cell first given number net gate)
plain_is tck trst P count first number net given gate right are own =
    let pins : List Pin = pins_of gate.pins in
    let parts = both_hold (is_sound_gate count (length given) gate) (not (is_three_state gate.kind) && not (may_keep gate.kind)) right in
    let sound = both_hold (takes_few gate.kind (length pins)) (list_all (is_sound_pin count (length given)) pins) parts.0 in
    let rest = both_hold (not (is_three_state gate.kind)) (not (may_keep gate.kind)) parts.1 in
    let no_flop : may_keep gate.kind ≡ false = not_true (may_keep gate.kind) rest.1 in
    record {
      takes = λ library. subst (λ (n : ℕ). Takes library gate.kind n) (sym (length-map pins (feed_of first given))) (takes_by library gate.kind (length pins) sound.0 (pins_few gate.pins));
      two_state = not_true (is_three_state gate.kind) rest.0;
      reads = pins_feeds P first count given pins own are sound.1;
      clock = λ flop. absurd (cc);
      reset = λ flop. absurd (cc);
    }

plain_are : (tck trst : NetId) (P : ℕ → Type 0) (count first number net : ℕ) (given : List Feed) (gates : List Gate) → IsTrue (list_all (is_plain_gate count (length given)) gates)
    → FeedsAre P given → ((j : ℕ) → j < count → P (first + j)) → EachCell (IsLogicCell tck trst P) (cells_from first given number net gates)
plain_are tck trst P count first number net given [] right are own = tt
plain_are tck trst P count first number net given (gate ∷ gates) right are own =
    let parts = both_hold (is_plain_gate count (length given) gate) (list_all (is_plain_gate count (length given)) gates) right in
    (plain_is tck trst P count first number net given gate parts.0 are own, plain_are tck trst P count first (suc number) (suc net) given gates parts.1 are own)

pub plain_logic : (gates : List Gate) (given : List Feed) (first number : ℕ) (tck trst : NetId) (P : ℕ → Type 0) → IsTrue (list_all (is_plain_gate (length gates) (length given)) gates)
    → FeedsAre P given → ((j : ℕ) → j < length gates → P (first + j)) → EachCell (IsLogicCell tck trst P) (part_cells gates given first number)
plain_logic gates given first number tck trst P right are own = plain_are tck trst P (length gates) first number first given gates right are own
