-- The port bits of the netlist with the test logic: those of the core, and the five of the test access port.
use Rattle.std.proofs.Common.{◌≡◌, ◌⊎◌, inl, inr, ℕ, zero, suc, ◌+◌, ◌<◌, List, [], ◌∷◌, ◌++◌, length, refl, sym, ap, ◌∙◌, arith, Option, Some, None}
use Rattle.std.specs.Prelude.{slice_get}
use Rattle.std.specs.Option.{option_and_then}
use Rattle.list_laws.proofs.Options.{some_same}
use Rattle.netlist_model.specs.declared.Dir.TheVariants.{Input, Output}
use Rattle.netlist_model.specs.declared.NetId.{NetId}
use Rattle.netlist_model.specs.Lists.{PortView, NetlistView, bit_net}
use Rattle.plan_fitting.specs.declared.fitted.Fitted.{Fitted}
use Rattle.stitched_netlist.specs.declared.model.TapNames.{TapNames}
use Rattle.stitched_netlist.specs.Stitched.{scalar, tap_ports, tap_port, stitched}
use Rattle.stitched_netlist.specs.PlacesLaws.{port_of}
use Rattle.stitched_netlist.proofs.FormedContext.{FitsWell}
use Rattle.std.proofs.lemmas.Option.{slice_get_within}

-- A port with its bit.

pub record IsBit (ports : List PortView) (p j : ℕ) (net : NetId) : Type 0 where
  pub port : PortView
  pub there : slice_get ports p ≡ Some port
  pub has : slice_get port.nets j ≡ Some net

bit_by : (ports : List PortView) (p j : ℕ) (net : NetId) (o : Option PortView) → slice_get ports p ≡ o → option_and_then (λ (x : PortView). slice_get x.nets j) o ≡ Some net → IsBit ports p j net
bit_by ports p j net None is e = absurd (cc)
bit_by ports p j net (Some port) is e = record { port = port; there = is; has = e }

-- a port of two lists is one of the first, or one of the second
pub record IsLater (ports more : List PortView) (p : ℕ) (port : PortView) : Type 0 where
  pub place : ℕ
  pub is : p ≡ length ports + place
  pub there : slice_get more place ≡ Some port

pub port_cases : (ports more : List PortView) (p : ℕ) (port : PortView) → slice_get (ports ++ more) p ≡ Some port → (slice_get ports p ≡ Some port) ⊎ IsLater ports more p port
port_cases [] more p port e = inr (record { place = p; is = omega arith; there = e })
port_cases (x ∷ xs) more zero port e = inl e
port_cases (x ∷ xs) more (suc p) port e = elim (port_cases xs more p port e) [
  | inl early ↦ inl early
  | inr late ↦ inr (record { place = late.place; is = let is = late.is in omega arith; there = late.there })
]

-- a bit of the test access port is the only one of its port
pub record IsTapBit (n place j : ℕ) (net : NetId) : Type 0 where
  pub low : place < 5
  pub bit : j ≡ 0
  pub is : net.0 ≡ n + place

one_bit : (at net : NetId) (j : ℕ) → slice_get (at ∷ []) j ≡ Some net → (j ≡ 0) × (at.0 ≡ net.0)
one_bit at net zero e = (refl, ap (λ (n : NetId). n.0) (some_same at net (slice_get (at ∷ []) 0) refl e))
one_bit at net (suc j) e = absurd (cc)

tap_by : (n place j : ℕ) (at net : NetId) (port one : PortView) → one.nets ≡ at ∷ [] → at.0 ≡ n + place → place < 5 → Some one ≡ Some port → slice_get port.nets j ≡ Some net
    → IsTapBit n place j net
tap_by n place j at net port one nets is low same has =
    let port_is : one ≡ port = cc in
    let only : slice_get (at ∷ []) j ≡ Some net = ap (λ (ns : List NetId). slice_get ns j) (sym nets) ∙ ap (λ (x : PortView). slice_get x.nets j) port_is ∙ has in
    let bit = one_bit at net j only in
    record { low = low; bit = bit.0; is = sym bit.1 ∙ is }

pub tap_bit : (n : ℕ) (names : TapNames) (place j : ℕ) (port : PortView) (net : NetId) → slice_get (tap_ports names (tap_port n)) place ≡ Some port → slice_get port.nets j ≡ Some net
    → IsTapBit n place j net
tap_bit n names zero j port net e has = tap_by n 0 j (tap_port n).tck net port (scalar names.tck Input (tap_port n).tck) refl (omega arith) (omega arith) e has
tap_bit n names (suc zero) j port net e has = tap_by n 1 j (tap_port n).tms net port (scalar names.tms Input (tap_port n).tms) refl (omega arith) (omega arith) e has
tap_bit n names (suc (suc zero)) j port net e has = tap_by n 2 j (tap_port n).tdi net port (scalar names.tdi Input (tap_port n).tdi) refl (omega arith) (omega arith) e has
tap_bit n names (suc (suc (suc zero))) j port net e has = tap_by n 3 j (tap_port n).tdo net port (scalar names.tdo Output (tap_port n).tdo) refl (omega arith) (omega arith) e has
tap_bit n names (suc (suc (suc (suc zero)))) j port net e has = tap_by n 4 j (tap_port n).trst net port (scalar names.trst Input (tap_port n).trst) refl (omega arith) (omega arith) e has
tap_bit n names (suc (suc (suc (suc (suc place))))) j port net e has = absurd (cc)

-- The bits.

pub record IsCoreBit (N : NetlistView) (p j : ℕ) (net : NetId) : Type 0 where
  pub at : bit_net N p j ≡ Some net
  pub low : p < length N.ports

pub record IsTapPort (N : NetlistView) (p j : ℕ) (net : NetId) : Type 0 where
  pub place : ℕ
  pub is : p ≡ length N.ports + place
  pub bit : IsTapBit (length N.nets) place j net

pub bit_cases : (N : NetlistView) (names : TapNames) (f : Fitted) (p j : ℕ) (net : NetId) → bit_net (stitched N names f) p j ≡ Some net → IsCoreBit N p j net ⊎ IsTapPort N p j net
bit_cases N names f p j net e =
    let more : List PortView = tap_ports names (port_of N) in
    let bit = bit_by (N.ports ++ more) p j net (slice_get (N.ports ++ more) p) refl e in
    elim (port_cases N.ports more p bit.port bit.there) [
      | inl early ↦ inl (record { at = ap (option_and_then (λ (x : PortView). slice_get x.nets j)) early ∙ bit.has; low = slice_get_within N.ports p bit.port early })
      | inr late ↦ inr (record { place = late.place; is = late.is; bit = tap_bit (length N.nets) names late.place j bit.port net late.there bit.has })
    ]

pub bits_apart : (N : NetlistView) (names : TapNames) (f : Fitted) → FitsWell N f → (p q j k : ℕ) (net : NetId) → bit_net (stitched N names f) p j ≡ Some net
    → bit_net (stitched N names f) q k ≡ Some net → (p ≡ q) × (j ≡ k)
bits_apart N names f well p q j k net a b = elim (bit_cases N names f p j net a) [
  | inl one ↦ elim (bit_cases N names f q k net b) [
    | inl other ↦ well.formed.bits_apart p q j k net one.at other.at
    | inr tap ↦ absurd (let low = well.laid.port_nets p j net one.at in let is = tap.bit.is in omega arith)
  ]
  | inr tap ↦ elim (bit_cases N names f q k net b) [
    | inl other ↦ absurd (let low = well.laid.port_nets q k net other.at in let is = tap.bit.is in omega arith)
    | inr tap' ↦ (
      (let x = tap.bit.is in let y = tap'.bit.is in let u = tap.is in let v = tap'.is in omega arith),
      tap.bit.bit ∙ sym tap'.bit.bit,
    )
  ]
]

pub port_nets : (N : NetlistView) (names : TapNames) (f : Fitted) → FitsWell N f → (p j : ℕ) (net : NetId) → bit_net (stitched N names f) p j ≡ Some net → net.0 < length N.nets + 5
port_nets N names f well p j net e = elim (bit_cases N names f p j net e) [
  | inl one ↦ (let low = well.laid.port_nets p j net one.at in omega arith)
  | inr tap ↦ (let is = tap.bit.is in let low = tap.bit.low in omega arith)
]
