-- The pins of the core and the inputs of the test access port.
use Rattle.std.proofs.Common.{◌≡◌, ℕ, zero, suc, ◌+◌, ◌-◌, ◌<◌, nat_lt, Bool, true, false, List, length, refl, ap, ◌∙◌, Option, Some, None, if◌then◌else◌, arith, slice_get}
use Rattle.std.specs.Prelude.{option_and_then}
use Rattle.list_laws.proofs.Lists.{slice_get-append_left, slice_get-append_right}
use Rattle.list_laws.proofs.Options.{some_same}
use Rattle.netlist_model.specs.declared.NetId.{NetId}
use Rattle.netlist_model.specs.declared.Dir.{Dir}
use Rattle.netlist_model.specs.Lists.{PortView, NetlistView, bit_net, direction}
use Rattle.netlist_model.specs.Settled.{follows_pin}
use Rattle.netlist_model.specs.Formed.{IsLaidOut}
use Rattle.netlist_model.specs.Ports.{DirectionHasBit}
use Rattle.test_logic.specs.declared.TapInput.{TapInput}
use Rattle.test_logic.specs.declared.TapInput.TheVariants.{Tck, Tms, Tdi, Trst}
use Rattle.wrapped_chip.specs.Realises.{SameBit, tap_place, IsTapNet}
use Rattle.wrapped_chip.specs.Beside.{PinOf, of_bit, of_tap, of_none}
use Rattle.plan_fitting.specs.declared.fitted.Fitted.{Fitted}
use Rattle.stitched_netlist.specs.declared.model.TapNames.{TapNames}
use Rattle.stitched_netlist.specs.Stitched.{tap_port, tap_ports, stitched}
use Rattle.stitched_netlist.specs.RanksLaws.{StitchedHasPins}
use Rattle.std.proofs.lemmas.Option.{slice_get_within}

-- Bits.

port_inside : (ports : List PortView) (number bit : ℕ) (net : NetId) → option_and_then (λ (p : PortView). slice_get p.nets bit) (slice_get ports number) ≡ Some net → number < length ports
port_inside ports number bit net h = by (slice_get ports number) refl h
  where
    by : (o : Option PortView) → slice_get ports number ≡ o → option_and_then (λ (p : PortView). slice_get p.nets bit) o ≡ Some net → number < length ports
    by None e k = absurd (cc)
    by (Some port) e k = slice_get_within ports number port e

-- a bit of the core is there
pub bit_there : (N : NetlistView) (names : TapNames) (f : Fitted) (number bit : ℕ) (net : NetId) → bit_net N number bit ≡ Some net → bit_net (stitched N names f) number bit ≡ Some net
bit_there N names f number bit net h =
    let more : List PortView = tap_ports names (tap_port (length N.nets)) in
    ap (option_and_then (λ (p : PortView). slice_get p.nets bit)) (slice_get-append_left N.ports more number (port_inside N.ports number bit net h)) ∙ h

net_same : (a b : ℕ) (o : Option NetId) → o ≡ Some (record { 0 = a }) → o ≡ Some (record { 0 = b }) → a ≡ b
net_same a b o e f = ap (λ (n : NetId). n.0) (some_same (let one : NetId = record { 0 = a } in one) (let other : NetId = record { 0 = b } in other) o e f)

-- at the same net
pub same_bit_net : (N : NetlistView) (names : TapNames) (f : Fitted) (net other : ℕ) → SameBit (stitched N names f) N net other → other ≡ net
same_bit_net N names f net other same =
    net_same other net (bit_net (stitched N names f) same.port same.place) same.there (bit_there N names f same.port same.place (record { 0 = net }) same.here)

-- each net with a direction is that of a bit
pub bit_of : DirectionHasBit → (N : NetlistView) (names : TapNames) (f : Fitted) (side : Dir) (net : ℕ) → direction N.ports net ≡ Some side → SameBit (stitched N names f) N net net
bit_of law N names f side net h =
    let id : NetId = record { 0 = net } in
    let bit = law N side id h in
    let here : bit_net N bit.number bit.bit ≡ Some id = ap (option_and_then (λ (p : PortView). slice_get p.nets bit.bit)) bit.stands ∙ bit.has in
    record { port = bit.number; place = bit.bit; here = here; there = bit_there N names f bit.number bit.bit id here }

pub pin_bit : DirectionHasBit → (N : NetlistView) (names : TapNames) (f : Fitted) (net : ℕ) → follows_pin (direction N.ports net) ≡ true → SameBit (stitched N names f) N net net
pin_bit law N names f net h = by (direction N.ports net) refl h
  where
    by : (o : Option Dir) → direction N.ports net ≡ o → follows_pin o ≡ true → SameBit (stitched N names f) N net net
    by None e k = absurd (cc)
    by (Some side) e k = bit_of law N names f side net e

pub pin_inside : DirectionHasBit → (N : NetlistView) (names : TapNames) (f : Fitted) → IsLaidOut N → (net : ℕ) → follows_pin (direction N.ports net) ≡ true → net < length N.nets
pin_inside law N names f laid net h = let same = pin_bit law N names f net h in laid.port_nets same.port same.place (record { 0 = net }) same.here

-- The test access port.

tap_there : (names : TapNames) (count : ℕ) (input : TapInput) → option_and_then (λ (p : PortView). slice_get p.nets 0) (slice_get (tap_ports names (tap_port count)) (tap_place input)) ≡ Some (record { 0 = count + tap_place input })
tap_there names count Tck = let e : count ≡ count + 0 = omega arith in ap (λ (n : ℕ). let net : NetId = record { 0 = n } in Some net) e
tap_there names count Tms = refl
tap_there names count Tdi = refl
tap_there names count Trst = refl

pub tap_is : (N : NetlistView) (names : TapNames) (f : Fitted) (input : TapInput) → IsTapNet (stitched N names f) N (tap_place input) (length N.nets + tap_place input)
tap_is N names f input =
    let more : List PortView = tap_ports names (tap_port (length N.nets)) in
    ap (option_and_then (λ (p : PortView). slice_get p.nets 0)) (slice_get-append_right N.ports more (length N.ports + tap_place input) (tap_place input) refl)
    ∙ tap_there names (length N.nets) input

pub tap_once : (N : NetlistView) (names : TapNames) (f : Fitted) (input : TapInput) (other : ℕ) → IsTapNet (stitched N names f) N (tap_place input) other → other ≡ length N.nets + tap_place input
tap_once N names f input other h = net_same other (length N.nets + tap_place input) (bit_net (stitched N names f) (length N.ports + tap_place input) 0) h (tap_is N names f input)

-- Back.

abbrev input_at : ℕ → PinOf
input_at zero = of_tap Tck
input_at (suc zero) = of_tap Tms
input_at (suc (suc zero)) = of_tap Tdi
input_at (suc (suc (suc zero))) = of_none
input_at (suc (suc (suc (suc zero)))) = of_tap Trst
input_at (suc (suc (suc (suc (suc more))))) = of_none

abbrev pin_back : ℕ → ℕ → PinOf
pin_back count net = if nat_lt net count then of_bit net else input_at (net - count)

back_bit : (count net : ℕ) → net < count → pin_back count net ≡ of_bit net
back_bit count net less = let e : nat_lt net count ≡ true = grind (arith, less) in ap (λ (b : Bool). if b then of_bit net else input_at (net - count)) e

back_input : (input : TapInput) → input_at (tap_place input) ≡ of_tap input
back_input Tck = refl
back_input Tms = refl
back_input Tdi = refl
back_input Trst = refl

back_tap : (count : ℕ) (input : TapInput) → pin_back count (count + tap_place input) ≡ of_tap input
back_tap count input =
    let e : nat_lt (count + tap_place input) count ≡ false = not_less count (tap_place input) in
    let d : count + tap_place input - count ≡ tap_place input = omega arith in
    ap (λ (b : Bool). if b then of_bit (count + tap_place input) else input_at (count + tap_place input - count)) e ∙ ap input_at d ∙ back_input input
  where
    not_less : (n j : ℕ) → nat_lt (n + j) n ≡ false
    not_less n j = grind (arith)

pub has_pins : DirectionHasBit → StitchedHasPins
has_pins law N names f laid = record {
  there = λ net. net;
  tap = λ input. length N.nets + tap_place input;
  back = pin_back (length N.nets);
  bits = pin_bit law N names f;
  bits_once = λ net other same follows. same_bit_net N names f net other same;
  bits_apart = λ net follows. back_bit (length N.nets) net (pin_inside law N names f laid net follows);
  taps = tap_is N names f;
  taps_once = λ input other h. tap_once N names f input other h;
  taps_apart = back_tap (length N.nets);
}
