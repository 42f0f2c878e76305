-- The cell of a net's bit in the device of a plan that fits: the data cell of the bit's line.
use Rattle.std.proofs.Common.{◌≡◌, ℕ, zero, suc, ◌+◌, ◌<◌, ◌==◌, Bool, true, false, List, [], ◌∷◌, length, slice_get, if◌then◌else◌, Option, Some, None, option_map, refl, sym, ap, ◌∙◌, subst, inl, inr, arith, eqb-true, eq-eqb}
use Rattle.std.specs.Prelude.{option_and_then, count_by}
use Rattle.std.specs.Option.{option_map_or}
use Rattle.std.proofs.lemmas.Option.{slice_get-map, slice_get_within}
use Rattle.list_laws.proofs.Tests.{and_left, and_right}
use Rattle.list_laws.proofs.Options.{some_same}
use Rattle.netlist_model.specs.declared.NetId.{NetId}
use Rattle.netlist_model.specs.declared.Dir.{Dir}
use Rattle.netlist_model.specs.declared.PinBit.{PinBit}
use Rattle.netlist_model.specs.Lists.{PortView, NetlistView}
use Rattle.netlist_model.specs.Formed.{width_of}
use Rattle.netlist_model.specs.Ports.{IsBitOf}
use Rattle.netlist_unlink.specs.netlist_link.Linked.{LinkedView}
use Rattle.netlist_unlink.specs.netlist_link.PinWords.{pin_at}
use Rattle.bsdl_device.specs.declared.values.CellRow.{CellRow}
use Rattle.wrapped_chip.specs.Cells.{Numbered, is_net, net_of_bit, net_of_row, row_from, row_of}
use Rattle.plan_texts.specs.declared.plan.Plan.{Plan}
use Rattle.plan_fitting.specs.declared.fitted.FitRow.{FitRow}
use Rattle.plan_fitting.specs.Pins.{PinSeen, same_bit}
use Rattle.plan_fitting.specs.Rows.{rows, has_highz}
use Rattle.plan_fitting.specs.Devices.{fitted_of, dev_bit, cell_row, device_of}
use Rattle.plan_fitting.specs.FittingPlan.{IsFitting, HasWidths}
use Rattle.plan_fitting.proofs.Tests.{true_not_false}
use Rattle.plan_fitting.proofs.DevicesLists.{none_there}
use Rattle.plan_fitting.proofs.Lined.{IsLined}
use Rattle.plan_fitting.proofs.Rows.{IsDataRow}
use Rattle.plan_fitting.proofs.RowCounts.{sits, count_at}
use Rattle.plan_fitting.proofs.Indices.{IsBit, bit_there, net_of_dev_bit}
use Rattle.plan_fitting.proofs.DeviceRows.{lined_bit, mapped_at}
use Rattle.plan_fitting.proofs.DeviceBits.{bit_has_line, one_row}
use Rattle.plan_fitting.proofs.DevicesFacts.{Facts}

-- The first row of a net.

pub row_is_found : (N : NetlistView) (net n : ℕ) (rs : List CellRow) (k : ℕ) (row : CellRow) → slice_get rs k ≡ Some row → is_net net (net_of_row N row) ≡ true → (found : Numbered) × (row_from N net n rs ≡ Some found)
row_is_found N net n [] k row at is = absurd (cc)
row_is_found N net n (x ∷ rs) zero row at is =
    let same : row ≡ x = cc in
    let here : is_net net (net_of_row N x) ≡ true = ap (λ (r : CellRow). is_net net (net_of_row N r)) (sym same) ∙ is in
    (record { number = n; row = x }, ap (λ (b : Bool). if b then Some (record { number = n; row = x }) else row_from N net (suc n) rs) here)
row_is_found N net n (x ∷ rs) (suc k) row at is = by (is_net net (net_of_row N x)) (row_is_found N net (suc n) rs k row at is)
  where
    by : (b : Bool) → (found : Numbered) × (row_from N net (suc n) rs ≡ Some found) → (found : Numbered) × ((if b then Some (let one : Numbered = record { number = n; row = x } in one) else row_from N net (suc n) rs) ≡ Some found)
    by true more = (record { number = n; row = x }, refl)
    by false more = more

-- a row whose bit has the net, with its number, where the first has this one
pub record IsFound (N : NetlistView) (net n : ℕ) (rs : List CellRow) (found : Numbered) : Type 0 where
  pub place : ℕ
  pub number : found.number ≡ n + place
  pub there : slice_get rs place ≡ Some found.row
  pub is : is_net net (net_of_row N found.row) ≡ true

found_is : (N : NetlistView) (net n : ℕ) (rs : List CellRow) (found : Numbered) → row_from N net n rs ≡ Some found → IsFound N net n rs found
found_is N net n [] found h = absurd (cc)
found_is N net n (x ∷ rs) found h = by (is_net net (net_of_row N x)) refl h (λ k. found_is N net (suc n) rs found k)
  where
    by : (b : Bool) → is_net net (net_of_row N x) ≡ b → (if b then Some (let one : Numbered = record { number = n; row = x } in one) else row_from N net (suc n) rs) ≡ Some found
        → (row_from N net (suc n) rs ≡ Some found → IsFound N net (suc n) rs found) → IsFound N net n (x ∷ rs) found
    by true e k more =
        let one : Numbered = record { number = n; row = x } in
        let same : one ≡ found = cc in
        subst (λ (f : Numbered). IsFound N net n (x ∷ rs) f) same (record { place = 0; number = omega arith; there = refl; is = e })
    by false e k more =
        let rest = more k in
        let number : found.number ≡ suc n + rest.place = rest.number in
        record { place = suc rest.place; number = omega arith; there = rest.there; is = rest.is }

-- The row of a bit.

pub is_net_at : (net : ℕ) (o : Option NetId) (id : NetId) → o ≡ Some id → id.0 ≡ net → is_net net o ≡ true
is_net_at net o id e f = ap (is_net net) e ∙ eq-eqb id.0 net f

net_at_is : (net : ℕ) (o : Option NetId) (id : NetId) → o ≡ Some id → is_net net o ≡ true → id.0 ≡ net
net_at_is net o id e f = eqb-true id.0 net (sym (ap (is_net net) e) ∙ f)

abbrev net_by : LinkedView → Plan → List PinSeen → Option PinBit → Option NetId
net_by L p seen pin = option_and_then (net_of_bit L.arena.lists) (option_map (dev_bit (fitted_of L p seen)) pin)

-- the net of a data cell's bit
pub net_of_data : (L : LinkedView) (p : Plan) (seen : List PinSeen) → HasWidths L.arena.lists → (r : FitRow) (d : IsDataRow (IsLined L) (has_highz p.opcodes) (rows p seen) r)
    → net_of_row L.arena.lists (cell_row (fitted_of L p seen) r) ≡ Some d.one.net
unfolding lined_bit
net_of_data L p seen wide r d =
    ap (net_by L p seen) d.pin
    ∙ net_of_dev_bit L p seen d.one.pin (lined_bit L wide d.line d.one d.on)
    ∙ d.on.seen.net

-- the cell of a net is the data cell of a line at its bit
pub record RowAt (L : LinkedView) (p : Plan) (seen : List PinSeen) (net : ℕ) (found : Numbered) : Type 0 where
  pub row : FitRow
  pub there : slice_get (rows p seen) found.number ≡ Some row
  pub is : cell_row (fitted_of L p seen) row ≡ found.row
  pub line : IsDataRow (IsLined L) (has_highz p.opcodes) (rows p seen) row
  pub same : line.one.net.0 ≡ net

pub row_at : (L : LinkedView) (p : Plan) (seen : List PinSeen) → IsFitting L p seen → Facts L p seen → (net : ℕ) (found : Numbered) → row_of (device_of L p seen) L.arena.lists net ≡ Some found → RowAt L p seen net found
unfolding row_of
row_at L p seen fits facts net found h =
    let N = L.arena.lists in
    let f = fitted_of L p seen in
    let is = found_is N net 0 (device_of L p seen).cells found h in
    let at = mapped_at (cell_row f) (rows p seen) is.place found.row is.there in
    let number : is.place ≡ found.number = (let e : found.number ≡ 0 + is.place = is.number in omega arith) in
    let stands : is_net net (net_of_row N (cell_row f at.0)) ≡ true = ap (λ (r : CellRow). is_net net (net_of_row N r)) at.2 ∙ is.is in
    elim (facts.each is.place at.0 at.1) [
      | inl d ↦ record {
        row = at.0;
        there = ap (slice_get (rows p seen)) (sym number) ∙ at.1;
        is = at.2;
        line = d;
        same = net_at_is net (net_of_row N (cell_row f at.0)) d.one.net (net_of_data L p seen fits.wide at.0 d) stands;
      }
      | inr c ↦ absurd (true_not_false (is_net net (net_of_row N (cell_row f at.0))) stands (ap (λ (x : Option PinBit). is_net net (net_by L p seen x)) c.pin))
    ]

pub sits_by : (x : PinBit) (pin : Option PinBit) → option_map_or (same_bit x) pin false ≡ true → (y : PinBit) × (pin ≡ Some y) × (same_bit x y ≡ true)
sits_by x None h = absurd (cc)
sits_by x (Some y) h = (y, refl, h)

-- a bit's net by the place of its port and its own
net_there : (L : LinkedView) (x y : PinBit) (port other : PortView) (net last : NetId) → same_bit x y ≡ true → slice_get L.arena.lists.ports x.port.0 ≡ Some port → slice_get port.nets x.bit ≡ Some net
    → slice_get L.arena.lists.ports y.port.0 ≡ Some other → slice_get other.nets y.bit ≡ Some last → last ≡ net
net_there L x y port other net last same a b c d =
    let p : x.port.0 ≡ y.port.0 = eqb-true x.port.0 y.port.0 (and_left (x.port.0 == y.port.0) (x.bit == y.bit) same) in
    let q : x.bit ≡ y.bit = eqb-true x.bit y.bit (and_right (x.port.0 == y.port.0) (x.bit == y.bit) same) in
    let one : other ≡ port = some_same other port (slice_get L.arena.lists.ports y.port.0) c (ap (slice_get L.arena.lists.ports) (sym p) ∙ a) in
    some_same last net (slice_get port.nets y.bit) (ap (λ (o : PortView). slice_get o.nets y.bit) (sym one) ∙ d) (ap (slice_get port.nets) (sym q) ∙ b)

same_moved : (x a b : PinBit) → a ≡ b → same_bit x b ≡ true → same_bit x a ≡ true
same_moved x a b e h = ap (same_bit x) e ∙ h

-- the net of a bit of the netlist's own ports has a row
pub own_row : (L : LinkedView) (p : Plan) (seen : List PinSeen) → IsFitting L p seen → Facts L p seen → (side : Dir) (id : NetId) (bit : IsBitOf L.arena.lists side id) → bit.number < L.straight.first
    → (found : Numbered) × (row_of (device_of L p seen) L.arena.lists id.0 ≡ Some found)
unfolding row_of
own_row L p seen fits facts side id bit own =
    let N = L.arena.lists in
    let net = id.0 in
    let f = fitted_of L p seen in
    let x = pin_at bit.number bit.bit in
    let inside : bit.bit < length bit.port.nets = slice_get_within bit.port.nets bit.bit id bit.has in
    let many : length bit.port.nets ≡ width_of bit.port.range = fits.wide bit.number bit.port bit.stands in
    let b : IsBit L x = record { port = bit.port; there = bit.stands; own = own; within = omega arith } in
    let line = bit_has_line L seen facts.lined.each bit.number bit.port bit.bit (bit_there L x b) inside in
    let one : count_by (sits x) (rows p seen) ≡ 1 = (one_row L p seen fits.wide fits.are_seen.count facts.each facts.makes facts.once.bits x b line).0 in
    let at = count_at (sits x) (rows p seen) (omega arith) in
    let pin = sits_by x at.1.pin at.3 in
    let cells : slice_get (device_of L p seen).cells at.0 ≡ Some (cell_row f at.1) = slice_get-map (cell_row f) (rows p seen) at.0 ∙ ap (option_map (cell_row f)) at.2 in
    elim (facts.each at.0 at.1 at.2) [
      | inl d ↦
          (let mine : d.one.pin ≡ pin.0 = some_same d.one.pin pin.0 at.1.pin d.pin pin.1 in
          let same : same_bit x d.one.pin ≡ true = same_moved x d.one.pin pin.0 mine pin.2 in
          let net_is : d.one.net ≡ id = net_there L x d.one.pin bit.port d.on.seen.port id d.one.net same bit.stands bit.has d.on.seen.there d.on.seen.net in
          let stands : is_net net (net_of_row N (cell_row f at.1)) ≡ true =
          is_net_at net (net_of_row N (cell_row f at.1)) d.one.net (net_of_data L p seen fits.wide at.1 d) (ap (λ (n : NetId). n.0) net_is) in
          row_is_found N net 0 (device_of L p seen).cells at.0 (cell_row f at.1) cells stands)
      | inr c ↦ absurd (none_there at.1.pin pin.0 c.pin pin.1)
    ]
