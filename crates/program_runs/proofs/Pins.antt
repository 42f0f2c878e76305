-- The pins that the words of a device name in a netlist with its ports.
use Rattle.std.proofs.Common.{◌≡◌, ◌≢◌, ℕ, zero, suc, ◌+◌, ◌-◌, ◌<◌, ◌≤◌, nat_lt, nat_le, Bool, true, false, ◌&&◌, ◌||◌, if◌then◌else◌, List, [], slice_get, Option, Some, None, option_map, refl, sym, ap, ◌∙◌, subst, arith, ltb-true, ltb-false}
use Rattle.std.specs.Prelude.{unwrap_or}
use Rattle.std.specs.Option.{option_map_or}
use Rattle.std.proofs.lemmas.Option.{slice_get-map}
use Rattle.list_laws.proofs.Options.{some_same}
use Rattle.list_laws.proofs.Lists.{slice_get-counted_from}
use Rattle.netlist_model.specs.declared.Dir.{Dir}
use Rattle.netlist_model.specs.declared.Dir.TheVariants.{Input, Output, Inout}
use Rattle.netlist_model.specs.declared.NetId.{NetId}
use Rattle.netlist_model.specs.declared.PinBit.{PinBit}
use Rattle.netlist_model.specs.declared.Range.{Range}
use Rattle.netlist_model.specs.Lists.{PortView, NetlistView, bit_net}
use Rattle.netlist_model.specs.Formed.{width_of}
use Rattle.link_model.specs.Denoted.{name_bytes}
use Rattle.netlist_link.specs.Linked.{LinkedView, is_straight}
use Rattle.netlist_link.specs.PinWords.{pin_at}
use Rattle.netlist_link.specs.WellNamed.{index_from}
use Rattle.bsdl_device.specs.declared.values.PortMode.{PortMode}
use Rattle.bsdl_device.specs.declared.values.PortMode.TheVariants as mode
use Rattle.bsdl_device.specs.declared.values.DevPort.{DevPort}
use Rattle.bsdl_device.specs.declared.values.Device.{Device}
use Rattle.bsdl_device.specs.Ports.{counted_from, index_at, indices, width, is_mode}
use Rattle.wrapped_chip.specs.Cells.{bit_place}
use Rattle.plan_fitting.specs.Devices.{mode_of_side, port_range}
use Rattle.plan_fitting.proofs.Indices.{place_of_index}
use Rattle.scan_vectors.specs.Pins.{Names}
use Rattle.sim_runs.specs.Runs.{net_number}
use Rattle.scan_programs.specs.Pins.{bit_word, port_word, takes_start}
use Rattle.conformance_report.specs.Agreement.{IsSamePort}
use Rattle.program_runs.specs.ScriptsWords.{WordsNameBits}
use Rattle.program_runs.specs.Beside.{place_there, HasScalarPort, IsDescribed}

-- Indices.

record IsCounted (first n k x : ℕ) : Type 0 where
  is : x ≡ first + k
  within : k < n

counted_at : (first n k x : ℕ) → slice_get (counted_from first n) k ≡ Some x → IsCounted first n k x
counted_at first zero k x h = absurd (cc)
counted_at first (suc n) zero x h = let same : first ≡ x = cc in record { is = omega (arith, same); within = omega arith }
counted_at first (suc n) (suc k) x h = let more = counted_at (suc first) n k x h in record { is = omega (arith, more.is); within = omega (arith, more.within) }

-- the device's port has this index at the bit of the netlist's port
pub record IsIndexAt (range : Option Range) (bit : ℕ) (index : Option ℕ) : Type 0 where
  pub within : bit < width_of range
  pub is : index_from range bit ≡ index

index_by : (r : Range) (bit : ℕ) (index : Option ℕ) (o : Option ℕ) → slice_get (counted_from 0 (width (Some (port_range r)))) bit ≡ o
    → option_map (λ (place : ℕ). Some (index_at (port_range r) place)) o ≡ Some index → IsIndexAt (Some r) bit index
index_by r bit index None e h = absurd (cc)
index_by r bit index (Some x) e h =
    let at = counted_at 0 (width (Some (port_range r))) bit x e in
    let same : x ≡ bit = at.is ∙ (let e : 0 + bit ≡ bit = omega arith in e) in
    let one : Some (index_at (port_range r) x) ≡ index = some_same (Some (index_at (port_range r) x)) index (Some (Some (index_at (port_range r) x))) refl h in
    record { within = at.within; is = ap (index_from (Some r)) (sym same) ∙ one }

pub index_at_bit : (range : Option Range) (bit : ℕ) (index : Option ℕ) → slice_get (indices (option_map port_range range)) bit ≡ Some index → IsIndexAt range bit index
index_at_bit None zero index h = record { within = omega arith; is = let same : None ≡ index = some_same None index (Some None) refl h in same }
index_at_bit None (suc bit) index h = absurd (cc)
index_at_bit (Some r) bit index h =
    index_by r bit index (slice_get (counted_from 0 (width (Some (port_range r)))) bit) refl
    (sym (slice_get-map (λ (place : ℕ). Some (index_at (port_range r) place)) (counted_from 0 (width (Some (port_range r)))) bit) ∙ h)

pub index_there : (range : Option Range) (bit : ℕ) → bit < width_of range → slice_get (indices (option_map port_range range)) bit ≡ Some (index_from range bit)
index_there None zero low = refl
index_there None (suc bit) low = absurd (omega (arith, low))
index_there (Some r) bit low =
    slice_get-map (λ (place : ℕ). Some (index_at (port_range r) place)) (counted_from 0 (width (Some (port_range r)))) bit
    ∙ ap (option_map (λ (place : ℕ). Some (index_at (port_range r) place))) (slice_get-counted_from 0 (width (Some (port_range r))) bit low ∙ ap (λ (x : ℕ). Some x) (let e : 0 + bit ≡ bit = omega arith in e))

-- it stands at that place
pub place_is : (range : Option Range) (bit : ℕ) (index : Option ℕ) → IsIndexAt range bit index → bit_place range index ≡ bit
place_is range bit index at = ap (bit_place range) (sym at.is) ∙ place_of_index range bit at.within

pub index_within : (range : Option Range) (bit : ℕ) (index : Option ℕ) → IsIndexAt range bit index → bit_place range index < width_of range
index_within range bit index at = subst (λ (n : ℕ). n < width_of range) (sym (place_is range bit index at)) at.within

none_within : (range : Option Range) → bit_place range None < width_of range
none_within None = omega arith
none_within (Some r) = let some : 0 < (r.left - r.right) + (r.right - r.left) + 1 = omega arith in some

place_none : (range : Option Range) → bit_place range None ≡ 0
place_none None = refl
place_none (Some r) = refl

-- Directions.

pub side_is : (dir : Dir) → mode_of_side dir ≢ mode.Linkage
side_is Input e = cc
side_is Output e = cc
side_is Inout e = cc

pub side_of_input : (dir : Dir) → mode_of_side dir ≡ mode.Input → dir ≡ Input
side_of_input Input e = refl
side_of_input Output e = absurd (cc)
side_of_input Inout e = absurd (cc)

pub start_is_inside : (port : DevPort) → takes_start port ≡ true → port.mode ≢ mode.Linkage
start_is_inside port takes e = absurd (let no : false ≡ true = sym (takes_none port.mode e) ∙ takes in cc)
  where
    takes_none : (m : PortMode) → m ≡ mode.Linkage → (is_mode mode.Input m || is_mode mode.Inout m) ≡ false
    takes_none m h = ap (λ (k : PortMode). is_mode mode.Input k || is_mode mode.Inout k) h

-- Pins.

pub number_is : (M : NetlistView) (pin : PinBit) (net : ℕ) → bit_net M pin.port.0 pin.bit ≡ Some (record { 0 = net }) → net_number M pin ≡ net
number_is M pin net e = ap (λ (o : Option NetId). unwrap_or (option_map (λ (n : NetId). n.0) o) 0) e

-- Places.

below_hidden : (first count n : ℕ) → n < first → (nat_le first n && nat_lt n (first + count)) ≡ false
below_hidden first count n low = grind arith

behind_hidden : (first count n : ℕ) → first + count ≤ n → (nat_le first n && nat_lt n (first + count)) ≡ false
behind_hidden first count n high = grind arith

-- no port of the device is hidden
pub place_own : (L : LinkedView) (place : ℕ) → is_straight L (place_there L place) ≡ false
place_own L place = by (nat_lt place L.straight.first) refl
  where
    by : (b : Bool) → nat_lt place L.straight.first ≡ b → is_straight L (if b then place else place + L.straight.count) ≡ false
    by true e = below_hidden L.straight.first L.straight.count place (ltb-true place L.straight.first e)
    by false e =
        let high : L.straight.first ≤ place = ltb-false place L.straight.first e in
        behind_hidden L.straight.first L.straight.count (place + L.straight.count) (omega (arith, high))

once_by : (first count one other : ℕ) (b c : Bool) → nat_lt one first ≡ b → nat_lt other first ≡ c → (if b then one else one + count) ≡ (if c then other else other + count) → one ≡ other
once_by first count one other true true e f h = h
once_by first count one other true false e f h =
    let low : one < first = ltb-true one first e in
    let high : first ≤ other = ltb-false other first f in
    absurd (omega (arith, low, high, h))
once_by first count one other false true e f h =
    let high : first ≤ one = ltb-false one first e in
    let low : other < first = ltb-true other first f in
    absurd (omega (arith, low, high, h))
once_by first count one other false false e f h = omega (arith, h)

-- and no two of them are one there
pub place_once : (L : LinkedView) (one other : ℕ) → place_there L one ≡ place_there L other → one ≡ other
place_once L one other same =
    once_by L.straight.first L.straight.count one other (nat_lt one L.straight.first) (nat_lt other L.straight.first) refl refl same

-- The ports of the device.

-- the word of a bit of a port that both have names that bit
pub names_bit : WordsNameBits → (L : LinkedView) (B : Device) → IsDescribed L B → (place : ℕ) (other : DevPort) (port : PortView) → IsSamePort L (place_there L place) other
    → slice_get L.arena.lists.ports (place_there L place) ≡ Some port → (index : Option ℕ) → bit_place port.range index < width_of port.range → (word : List ℕ) → word ≡ bit_word other.name index
    → (pin : PinBit) → Names L word pin → pin ≡ pin_at (place_there L place) (bit_place port.range index)
names_bit law L B described place other port same there index within word is pin names =
    let number = place_there L place in
    let one : same.port ≡ port = some_same same.port port (slice_get L.arena.lists.ports number) same.there there in
    let named : name_bytes L.names port.name ≡ Some other.name = subst (λ (p : PortView). name_bytes L.names p.name ≡ Some other.name) one same.name in
    law L described.named described.plain described.open_names number port other.name (place_own L place) (record { there = there; named = named }) index within pin
    (subst (λ (w : List ℕ). Names L w pin) is names)

scalar_range : (o : Option Range) → option_map port_range o ≡ None → o ≡ None
scalar_range None e = refl
scalar_range (Some r) e = absurd (cc)

-- a scalar port of the netlist
pub record IsScalarPin (L : LinkedView) (number : ℕ) (side : PortMode) : Type 0 where
  pub port : PortView
  pub there : slice_get L.arena.lists.ports number ≡ Some port
  pub dir : side ≡ mode_of_side port.dir
  pub scalar : port.range ≡ None

pub scalar_pin : (L : LinkedView) (B : Device) → IsDescribed L B → (place : ℕ) (side : PortMode) → side ≢ mode.Linkage → HasScalarPort B place side → IsScalarPin L (place_there L place) side
scalar_pin L B described place side inside has =
    let same = described.ports place has.port has.there (λ e. inside (sym has.mode_is ∙ e)) in
    record { port = same.port; there = same.there; dir = sym has.mode_is ∙ same.mode; scalar = scalar_range same.port.range (sym same.range ∙ has.scalar) }

-- its word names its bit
pub names_scalar : WordsNameBits → (L : LinkedView) (B : Device) → IsDescribed L B → (place : ℕ) (side : PortMode) → side ≢ mode.Linkage → HasScalarPort B place side
    → (word : List ℕ) → word ≡ port_word B place → (pin : PinBit) → Names L word pin → pin ≡ pin_at (place_there L place) 0
names_scalar law L B described place side inside has word is pin names =
    let same = described.ports place has.port has.there (λ e. inside (sym has.mode_is ∙ e)) in
    let spelled : word ≡ bit_word has.port.name None = is ∙ ap (λ (o : Option DevPort). option_map_or (λ (p : DevPort). p.name) o []) has.there in
    names_bit law L B described place has.port same.port same same.there None (none_within same.port.range) word spelled pin names
    ∙ ap (pin_at (place_there L place)) (place_none same.port.range)
