-- Bits by the place and the index: in the device, in the netlist, and back.
use Rattle.std.proofs.Common.{◌≡◌, ℕ, ◌+◌, ◌-◌, ◌<◌, ◌≤◌, ◌==◌, ◌&&◌, Bool, true, false, cond, List, ◌++◌, map, length, slice_get, Option, Some, None, option_map, refl, sym, ap, ◌∙◌, subst, arith, le-leb, leb-true, eqb-true, eq-eqb}
use Rattle.std.specs.Prelude.{◌||◌, nat_le, option_and_then}
use Rattle.std.specs.List.{enumerate_from}
use Rattle.std.proofs.lemmas.List.{length-map}
use Rattle.std.proofs.lemmas.List.FromFn.{length-enumerate_from}
use Rattle.std.proofs.lemmas.Option.{slice_get-map, slice_get_within}
use Rattle.list_laws.proofs.Lists.{slice_get-append_left}
use Rattle.list_laws.proofs.Tests.{and_true, or_more}
use Rattle.list_laws.proofs.Options.{some_same}
use Rattle.netlist_model.specs.declared.Range.{Range}
use Rattle.netlist_model.specs.declared.PinBit.{PinBit}
use Rattle.netlist_model.specs.Lists.{PortView}
use Rattle.netlist_model.specs.Formed.{width_of}
use Rattle.netlist_unlink.specs.netlist_link.Linked.{LinkedView, own_ports}
use Rattle.netlist_unlink.specs.netlist_link.Hidden.{EndsHidden}
use Rattle.netlist_unlink.specs.netlist_link.WellNamed.{index_from}
use Rattle.bsdl_device.specs.declared.values.PortMode.TheVariants as mode
use Rattle.bsdl_device.specs.declared.values.DevBit.{DevBit}
use Rattle.bsdl_device.specs.Ports.{has_bit, is_within, same_index}
use Rattle.wrapped_chip.specs.Cells.{bit_place, net_of_bit}
use Rattle.plan_texts.specs.declared.plan.Plan.{Plan}
use Rattle.plan_fitting.specs.declared.fitted.FitPort.{FitPort}
use Rattle.plan_fitting.specs.Pins.{PinSeen, same_bit}
use Rattle.plan_fitting.specs.Devices.{fit_port, fitted_of, dev_port, port_range, scalar_port, tap_ports, dev_ports, range_at, dev_bit}
use Rattle.plan_fitting.proofs.Tests.{true_not_false}
use Rattle.plan_fitting.proofs.DevicesLists.{enumerated_at}
use Rattle.plan_fitting.proofs.OwnPorts.{own_count, own_from}

-- Ports.

pub fit_port_at : (L : LinkedView) (p : Plan) (seen : List PinSeen) (k : ℕ) (port : PortView) → slice_get (own_ports L) k ≡ Some port
    → slice_get (fitted_of L p seen).ports k ≡ Some (fit_port L p seen (k, port))
fit_port_at L p seen k port there =
    let at : 0 + k ≡ k = omega arith in
    slice_get-map (fit_port L p seen) (enumerate_from 0 (own_ports L)) k
    ∙ ap (option_map (fit_port L p seen)) (enumerated_at 0 (own_ports L) k port there)
    ∙ ap (λ (n : ℕ). Some (fit_port L p seen (n, port))) at

pub count_of_own : (L : LinkedView) (p : Plan) (seen : List PinSeen) → length (fitted_of L p seen).ports ≡ length (own_ports L)
count_of_own L p seen = length-map (enumerate_from 0 (own_ports L)) (fit_port L p seen) ∙ length-enumerate_from 0 (own_ports L)

pub count_of_ports : (L : LinkedView) (p : Plan) (seen : List PinSeen) → EndsHidden L → length (fitted_of L p seen).ports ≡ L.straight.first
count_of_ports L p seen ends = count_of_own L p seen ∙ own_count L ends

-- the netlist's own ports come first, in their order
pub dev_port_at : (L : LinkedView) (p : Plan) (seen : List PinSeen) (k : ℕ) (port : PortView) → slice_get (own_ports L) k ≡ Some port
    → slice_get (dev_ports (fitted_of L p seen)) k ≡ Some (dev_port (fit_port L p seen (k, port)))
dev_port_at L p seen k port there =
    let f = fitted_of L p seen in
    let inside : k < length (own_ports L) = slice_get_within (own_ports L) k port there in
    let many : length (map dev_port f.ports) ≡ length f.ports = length-map f.ports dev_port in
    let same : length f.ports ≡ length (own_ports L) = count_of_own L p seen in
    slice_get-append_left (map dev_port f.ports) (tap_ports f ++ map (scalar_port mode.Linkage) f.linkage) k (omega arith)
    ∙ slice_get-map dev_port f.ports k
    ∙ ap (option_map dev_port) (fit_port_at L p seen k port there)

-- Indices.

falls : (a b : ℕ) → nat_le a b ≡ false → b < a
falls a b h = grind arith

same_test : (x y a b : ℕ) → (x ≡ y → a ≡ b) → (a ≡ b → x ≡ y) → x == y ≡ a == b
same_test x y a b to from = by (x == y) (a == b) refl refl
  where
    by : (s t : Bool) → x == y ≡ s → a == b ≡ t → s ≡ t
    by true true e f = refl
    by false false e f = refl
    by true false e f = absurd (true_not_false (a == b) (eq-eqb a b (to (eqb-true x y e))) f)
    by false true e f = absurd (true_not_false (x == y) (eq-eqb x y (from (eqb-true a b f))) e)

pub has_index : (range : Option Range) (bit : ℕ) → bit < width_of range → has_bit (option_map port_range range) (index_from range bit) ≡ true
has_index None bit low = refl
has_index (Some r) bit low = by (nat_le r.left r.right) refl
  where
    rising : (i : ℕ) → r.left ≤ i → i ≤ r.right → is_within (port_range r) i ≡ true
    rising i a b = ap (λ (x : Bool). x || (nat_le r.right i && nat_le i r.left)) (and_true (nat_le r.left i) (nat_le i r.right) (le-leb r.left i a) (le-leb i r.right b))

    falling : (i : ℕ) → r.right ≤ i → i ≤ r.left → is_within (port_range r) i ≡ true
    falling i a b = or_more (nat_le r.left i && nat_le i r.right) (nat_le r.right i && nat_le i r.left) (and_true (nat_le r.right i) (nat_le i r.left) (le-leb r.right i a) (le-leb i r.left b))

    by : (b : Bool) → nat_le r.left r.right ≡ b → is_within (port_range r) (cond b (r.left + bit) (r.left - bit)) ≡ true
    by true e = let up : r.left ≤ r.right = leb-true r.left r.right e in rising (r.left + bit) (omega arith) (omega arith)
    by false e = let down : r.right < r.left = falls r.left r.right e in falling (r.left - bit) (omega arith) (omega arith)

pub place_of_index : (range : Option Range) (bit : ℕ) → bit < width_of range → bit_place range (index_from range bit) ≡ bit
place_of_index None bit low = omega arith
place_of_index (Some r) bit low = by (nat_le r.left r.right) refl
  where
    by : (b : Bool) → nat_le r.left r.right ≡ b → (r.left - cond b (r.left + bit) (r.left - bit)) + (cond b (r.left + bit) (r.left - bit) - r.left) ≡ bit
    by true e = omega arith
    by false e = let down : r.right < r.left = falls r.left r.right e in omega arith

pub same_index-place : (range : Option Range) (a b : ℕ) → a < width_of range → b < width_of range → same_index (index_from range a) (index_from range b) ≡ a == b
same_index-place None a b low high =
    let x : a ≡ 0 = omega arith in
    let y : b ≡ 0 = omega arith in
    sym (eq-eqb a b (omega arith))
same_index-place (Some r) a b low high = by (nat_le r.left r.right) refl
  where
    by : (t : Bool) → nat_le r.left r.right ≡ t → (cond t (r.left + a) (r.left - a) == cond t (r.left + b) (r.left - b)) ≡ a == b
    by true e = same_test (r.left + a) (r.left + b) a b (λ h. omega arith) (λ h. omega arith)
    by false e = let down : r.right < r.left = falls r.left r.right e in same_test (r.left - a) (r.left - b) a b (λ h. omega arith) (λ h. omega arith)

-- Bits.

-- a bit of a port of the netlist that isn't hidden
pub record IsBit (L : LinkedView) (pin : PinBit) : Type 0 where
  pub port : PortView
  pub there : slice_get L.arena.lists.ports pin.port.0 ≡ Some port
  pub own : pin.port.0 < L.straight.first
  pub within : pin.bit < width_of port.range

pub bit_there : (L : LinkedView) (pin : PinBit) (b : IsBit L pin) → slice_get (own_ports L) pin.port.0 ≡ Some b.port
bit_there L pin b = own_from L pin.port.0 b.port b.own b.there

pub range_there : (L : LinkedView) (p : Plan) (seen : List PinSeen) (pin : PinBit) (b : IsBit L pin) → range_at (fitted_of L p seen) pin ≡ b.port.range
range_there L p seen pin b = ap (λ (o : Option FitPort). option_and_then (λ (q : FitPort). q.range) o) (fit_port_at L p seen pin.port.0 b.port (bit_there L pin b))

-- the net of a bit of the device is that of the bit there
pub net_of_dev_bit : (L : LinkedView) (p : Plan) (seen : List PinSeen) (pin : PinBit) (b : IsBit L pin) → net_of_bit L.arena.lists (dev_bit (fitted_of L p seen) pin) ≡ slice_get b.port.nets pin.bit
net_of_dev_bit L p seen pin b =
    ap (λ (r : Option Range). option_and_then (λ (q : PortView). slice_get q.nets (bit_place q.range (index_from r pin.bit))) (slice_get L.arena.lists.ports pin.port.0)) (range_there L p seen pin b)
    ∙ ap (λ (o : Option PortView). option_and_then (λ (q : PortView). slice_get q.nets (bit_place q.range (index_from b.port.range pin.bit))) o) b.there
    ∙ ap (λ (n : ℕ). slice_get b.port.nets n) (place_of_index b.port.range pin.bit b.within)

abbrev pub same_dev_bit : DevBit → DevBit → Bool
same_dev_bit a b = a.port == b.port && same_index a.index b.index

-- two bits are one in the device just where they are one here
pub same_in_device : (L : LinkedView) (p : Plan) (seen : List PinSeen) (x y : PinBit) → IsBit L x → IsBit L y
    → same_dev_bit (dev_bit (fitted_of L p seen) x) (dev_bit (fitted_of L p seen) y) ≡ same_bit x y
same_in_device L p seen x y a b = by (x.port.0 == y.port.0) refl
  where
    by : (t : Bool) → x.port.0 == y.port.0 ≡ t → (t && same_index (index_from (range_at (fitted_of L p seen) x) x.bit) (index_from (range_at (fitted_of L p seen) y) y.bit)) ≡ (t && x.bit == y.bit)
    by false e = refl
    by true e =
        let port : x.port.0 ≡ y.port.0 = eqb-true x.port.0 y.port.0 e in
        let one : b.port ≡ a.port = some_same b.port a.port (slice_get L.arena.lists.ports y.port.0) b.there (ap (slice_get L.arena.lists.ports) (sym port) ∙ a.there) in
        let within : y.bit < width_of a.port.range = subst (λ (q : PortView). y.bit < width_of q.range) one b.within in
        ap (λ (r : Option Range). same_index (index_from r x.bit) (index_from (range_at (fitted_of L p seen) y) y.bit)) (range_there L p seen x a)
        ∙ ap (λ (r : Option Range). same_index (index_from a.port.range x.bit) (index_from r y.bit)) (range_there L p seen y b ∙ ap (λ (q : PortView). q.range) one)
        ∙ same_index-place a.port.range x.bit y.bit a.within within
