-- A row of a plan that fits is the one of its bit; each bit of the netlist's own ports has one, and no hidden bit.
use Rattle.std.proofs.Common.{◌≡◌, ℕ, zero, suc, ◌+◌, ◌<◌, ◌≤◌, ◌==◌, Bool, true, false, List, [], ◌∷◌, length, slice_get, Option, Some, None, option_map, refl, sym, ap, ◌∙◌, inl, inr, arith, eqb-true, eq-eqb}
use Rattle.std.specs.Prelude.{option_and_then, count_by}
use Rattle.std.specs.Option.{option_map_or}
use Rattle.std.proofs.lemmas.Option.{slice_get-map, slice_get_within}
use Rattle.list_laws.proofs.Tests.{and_left, and_right, and_true}
use Rattle.list_laws.proofs.Options.{some_same}
use Rattle.list_laws.proofs.Lists.{any_at}
use Rattle.netlist_model.specs.declared.NetId.{NetId}
use Rattle.netlist_model.specs.declared.PinBit.{PinBit}
use Rattle.netlist_model.specs.Lists.{PortView, bit_net}
use Rattle.netlist_model.specs.Formed.{width_of}
use Rattle.netlist_model.specs.Ports.{BitHasDirection}
use Rattle.netlist_model.specs.Drivers.{DriverIsFound}
use Rattle.netlist_unlink.specs.netlist_link.Linked.{LinkedView}
use Rattle.netlist_unlink.specs.netlist_link.PinWords.{pin_at}
use Rattle.bsdl_device.specs.declared.values.CellRow.{CellRow}
use Rattle.wrapped_chip.specs.Cells.{Numbered, is_net, net_of_row, row_of}
use Rattle.plan_texts.specs.declared.plan.Plan.{Plan}
use Rattle.plan_texts.specs.declared.plan.PinLine.{PinLine}
use Rattle.plan_fitting.specs.declared.fitted.FitRow.{FitRow}
use Rattle.plan_fitting.specs.Pins.{PinSeen, same_bit}
use Rattle.plan_fitting.specs.Rows.{rows, has_highz}
use Rattle.plan_fitting.specs.Devices.{fitted_of, cell_row, device_of}
use Rattle.plan_fitting.specs.FittingPlan.{IsFitting}
use Rattle.plan_fitting.specs.DevicesLaws.{IsRowOf, RowsStandAtBits, BitsHaveRows, HiddenBitsHaveNone}
use Rattle.plan_fitting.proofs.Lined.{IsLined}
use Rattle.plan_fitting.proofs.Rows.{IsDataRow}
use Rattle.plan_fitting.proofs.OwnPorts.{own_from}
use Rattle.plan_fitting.proofs.RowCounts.{sits, weigh, count-cons, count_some, count_at}
use Rattle.plan_fitting.proofs.Indices.{IsBit, bit_there}
use Rattle.plan_fitting.proofs.DeviceRows.{lined_bit}
use Rattle.plan_fitting.proofs.DeviceBits.{bit_has_line, one_row, same_self}
use Rattle.plan_fitting.proofs.DevicesFacts.{Facts, facts_of}
use Rattle.plan_fitting.proofs.NetRows.{row_at, is_net_at, net_of_data, row_is_found, sits_by}

-- Once.

-- where one passes at most, two places that pass are one
once_at : {X : Type 0} (p : X → Bool) (xs : List X) (j k : ℕ) (x y : X) → count_by p xs ≤ 1 → slice_get xs j ≡ Some x → slice_get xs k ≡ Some y → p x ≡ true → p y ≡ true → j ≡ k
once_at p [] j k x y one a b s t = absurd (cc)
once_at p (z ∷ xs) zero zero x y one a b s t = refl
once_at {X = X} p (z ∷ xs) zero (suc k) x y one a b s t =
    let same : z ≡ x = some_same z x (Some z) refl a in
    let first : count_by p (z ∷ xs) ≡ 1 + count_by p xs = count-cons p z xs ∙ ap (λ (c : Bool). weigh c + count_by p xs) (ap p same ∙ s) in
    let rest : 1 ≤ count_by p xs = count_some p xs (any_at p xs k y b t) in
    absurd (omega arith)
once_at {X = X} p (z ∷ xs) (suc j) zero x y one a b s t =
    let same : z ≡ y = some_same z y (Some z) refl b in
    let first : count_by p (z ∷ xs) ≡ 1 + count_by p xs = count-cons p z xs ∙ ap (λ (c : Bool). weigh c + count_by p xs) (ap p same ∙ t) in
    let rest : 1 ≤ count_by p xs = count_some p xs (any_at p xs j x a s) in
    absurd (omega arith)
once_at p (z ∷ xs) (suc j) (suc k) x y one a b s t =
    let first : count_by p (z ∷ xs) ≡ weigh (p z) + count_by p xs = count-cons p z xs in
    ap suc (once_at p xs j k x y (omega arith) a b s t)

same_net : (a b : NetId) → a.0 ≡ b.0 → a ≡ b
same_net a b e = ap (λ (n : ℕ). let net : NetId = record { 0 = n } in net) e

same_pin : (x y : PinBit) → same_bit x y ≡ true → y ≡ x
same_pin x y h =
    let p : x.port.0 ≡ y.port.0 = eqb-true x.port.0 y.port.0 (and_left (x.port.0 == y.port.0) (x.bit == y.bit) h) in
    let q : x.bit ≡ y.bit = eqb-true x.bit y.bit (and_right (x.port.0 == y.port.0) (x.bit == y.bit) h) in
    ap (λ (n : ℕ). let pin : PinBit = record { port = record { 0 = n }; bit = y.bit } in pin) (sym p) ∙ ap (λ (n : ℕ). let pin : PinBit = record { port = x.port; bit = n } in pin) (sym q)

-- Rows.

pub net_of_line : (L : LinkedView) (line : PinLine) (one : PinSeen) → IsLined L line one → bit_net L.arena.lists one.pin.port.0 one.pin.bit ≡ Some one.net
net_of_line L line one is = ap (λ (o : Option PortView). option_and_then (λ (q : PortView). slice_get q.nets one.pin.bit) o) is.seen.there ∙ is.seen.net

net_of_line_is : (L : LinkedView) (line : PinLine) (one : PinSeen) → IsLined L line one → (net : NetId) → one.net ≡ net → bit_net L.arena.lists one.pin.port.0 one.pin.bit ≡ Some net
net_of_line_is L line one is net e = net_of_line L line one is ∙ ap (λ (n : NetId). Some n) e

sits_at : (x : PinBit) (r : FitRow) (y : PinBit) → r.pin ≡ Some y → same_bit x y ≡ true → sits x r ≡ true
sits_at x r y pin same = ap (λ (o : Option PinBit). option_map_or (same_bit x) o false) pin ∙ same

data_stands : (L : LinkedView) (p : Plan) (seen : List PinSeen) → IsFitting L p seen → Facts L p seen → (number : ℕ) (r : FitRow) (pin : PinBit) → slice_get (rows p seen) number ≡ Some r → r.pin ≡ Some pin
    → IsDataRow (IsLined L) (has_highz p.opcodes) (rows p seen) r → IsRowOf L p seen number r pin
unfolding row_of
data_stands L p seen fits facts number r pin at is d =
    let N = L.arena.lists in
    let f = fitted_of L p seen in
    let x = d.one.pin in
    let mine : x ≡ pin = some_same x pin r.pin d.pin is in
    let cells : slice_get (device_of L p seen).cells number ≡ Some (cell_row f r) = slice_get-map (cell_row f) (rows p seen) number ∙ ap (option_map (cell_row f)) at in
    let stands : is_net d.one.net.0 (net_of_row N (cell_row f r)) ≡ true = is_net_at d.one.net.0 (net_of_row N (cell_row f r)) d.one.net (net_of_data L p seen fits.wide r d) refl in
    let found = row_is_found N d.one.net.0 0 (device_of L p seen).cells number (cell_row f r) cells stands in
    let other = row_at L p seen fits facts d.one.net.0 found.0 found.1 in
    let y = other.line.one.pin in
    let net : other.line.one.net ≡ d.one.net = same_net other.line.one.net d.one.net other.same in
    let apart = fits.formed.bits_apart y.port.0 x.port.0 y.bit x.bit d.one.net (net_of_line_is L other.line.line other.line.one other.line.on d.one.net net) (net_of_line L d.line d.one d.on) in
    let same : same_bit x y ≡ true = and_true (x.port.0 == y.port.0) (x.bit == y.bit) (eq-eqb x.port.0 y.port.0 (sym apart.0)) (eq-eqb x.bit y.bit (sym apart.1)) in
    let b : IsBit L x = lined_bit L fits.wide d.line d.one d.on in
    let line = bit_has_line L seen facts.lined.each x.port.0 d.on.seen.port x.bit (own_from L x.port.0 d.on.seen.port d.on.seen.named.1 d.on.seen.there) (slice_get_within d.on.seen.port.nets x.bit d.one.net d.on.seen.net) in
    let one : count_by (sits x) (rows p seen) ≡ 1 = (one_row L p seen fits.wide fits.are_seen.count facts.each facts.makes facts.once.bits x b line).0 in
    let place : found.0.number ≡ number =
    once_at (sits x) (rows p seen) found.0.number number other.row r (omega arith) other.there at (sits_at x other.row y other.line.pin same) (sits_at x r x d.pin (same_self x)) in
    let row : other.row ≡ r = some_same other.row r (slice_get (rows p seen) number) (ap (slice_get (rows p seen)) (sym place) ∙ other.there) at in
    let last : found.0.row ≡ cell_row f r = sym other.is ∙ ap (cell_row f) row in
    record {
      net = d.one.net;
      at = ap (λ (q : PinBit). bit_net N q.port.0 q.bit) (sym mine) ∙ net_of_line L d.line d.one d.on;
      found = found.1
          ∙ ap (λ (n : ℕ). Some (let one : Numbered = record { number = n; row = found.0.row } in one)) place
          ∙ ap (λ (c : CellRow). Some (let one : Numbered = record { number = number; row = c } in one)) last;
    }

pub rows_stand_at_bits : BitHasDirection → DriverIsFound → RowsStandAtBits
rows_stand_at_bits has driven L p seen fits number r pin at is =
    let facts = facts_of has driven L p seen fits in
    elim (facts.each number r at) [
      | inl d ↦ data_stands L p seen fits facts number r pin at is d
      | inr c ↦ absurd (let none : None ≡ Some pin = sym c.pin ∙ is in cc)
    ]

-- Bits.

port_of_net : (L : LinkedView) (bit : ℕ) (net : NetId) (o : Option PortView) → option_and_then (λ (q : PortView). slice_get q.nets bit) o ≡ Some net
    → (port : PortView) × (o ≡ Some port) × (slice_get port.nets bit ≡ Some net)
port_of_net L bit net None h = absurd (cc)
port_of_net L bit net (Some port) h = (port, refl, h)

pin_moved : (o : Option PinBit) (a b : PinBit) → o ≡ Some a → a ≡ b → o ≡ Some b
pin_moved o a b e f = e ∙ ap (λ (q : PinBit). Some q) f

pub bits_have_rows : BitHasDirection → DriverIsFound → BitsHaveRows
bits_have_rows has driven L p seen fits number bit net own h =
    let facts = facts_of has driven L p seen fits in
    let x = pin_at number bit in
    let port = port_of_net L bit net (slice_get L.arena.lists.ports number) h in
    let inside : bit < length port.0.nets = slice_get_within port.0.nets bit net port.2 in
    let many : length port.0.nets ≡ width_of port.0.range = fits.wide number port.0 port.1 in
    let b : IsBit L x = record { port = port.0; there = port.1; own = own; within = omega arith } in
    let line = bit_has_line L seen facts.lined.each number port.0 bit (bit_there L x b) inside in
    let one : count_by (sits x) (rows p seen) ≡ 1 = (one_row L p seen fits.wide fits.are_seen.count facts.each facts.makes facts.once.bits x b line).0 in
    let at = count_at (sits x) (rows p seen) (omega arith) in
    let pin = sits_by x at.1.pin at.3 in
    record { number = at.0; row = at.1; there = at.2; at = pin_moved at.1.pin pin.0 x pin.1 (same_pin x pin.0 pin.2) }

none_unless : (o : Option Numbered) → ((found : Numbered) → o ≡ Some found → ⊥) → o ≡ None
none_unless None never = refl
none_unless (Some found) never = absurd (never found refl)

-- a row's bit isn't hidden, and no two bits have one net
pub hidden_bits_have_none : BitHasDirection → DriverIsFound → HiddenBitsHaveNone
hidden_bits_have_none has driven L p seen fits number bit net hidden h =
    let facts = facts_of has driven L p seen fits in
    none_unless (row_of (device_of L p seen) L.arena.lists net.0) (λ found is.
    let at = row_at L p seen fits facts net.0 found is in
    let pin = at.line.one.pin in
    let own : pin.port.0 < L.straight.first = at.line.on.seen.named.1 in
    let here = net_of_line_is L at.line.line at.line.one at.line.on net (same_net at.line.one.net net at.same) in
    let same : pin.port.0 ≡ number = (fits.formed.bits_apart pin.port.0 number pin.bit bit net here h).0 in
    absurd (omega arith))
