-- The input bits of hidden ports: each is one, they stand in order, and none is left out.
use Rattle.std.proofs.Common.{◌≡◌, subst, ℕ, zero, suc, ◌+◌, ◌<◌, ◌≤◌, ◌⊎◌, inl, inr, ◌&&◌, Bool, true, false, List, [], ◌∷◌, ◌++◌, map, refl, ap, sym, ◌∙◌, Some, arith}
use Rattle.std.specs.Prelude.{slice_get, option_and_then, if◌then◌else◌, ⊤}
use Rattle.std.specs.List.{AllByRecursion, enumerate_from, flat_map}
use Rattle.std.specs.Option.{option_map}
use Rattle.std.proofs.lemmas.List.Concat.{flat_map-cons}
use Rattle.std.proofs.lemmas.Option.{same_Some, option_and_then_some}
use Rattle.list_laws.proofs.Lists.{all_append, all_mapped}
use Rattle.netlist_model.specs.declared.Dir.{Dir}
use Rattle.netlist_model.specs.declared.Dir.TheVariants as dir
use Rattle.netlist_model.specs.declared.NetId.{NetId}
use Rattle.netlist_model.specs.declared.PinBit.{PinBit}
use Rattle.netlist_model.specs.Lists.{PortView}
use Rattle.netlist_link.specs.Linked.{LinkedView, is_straight}
use Rattle.netlist_link.specs.PinWords.{pin_at}
use Rattle.scan_vectors.specs.Pins.{Names, net_of}
use Rattle.default_starts.specs.Starts.{HiddenBit, hidden_bit, bits_of, is_input, is_hidden_input, inputs_of, hidden_inputs}
use Rattle.default_starts.specs.Words.{HasHiddenWords}
use Rattle.default_starts.specs.OwnRules.{IsHiddenInput}
use Rattle.default_starts.proofs.WordsNamed.{hidden_named}

-- Each is one.

pub record IsBit (L : LinkedView) (bit : HiddenBit) : Type 0 where
  pub hidden : IsHiddenInput L bit.pin
  pub net_is : net_of L.arena.lists bit.pin ≡ Some bit.net
  pub named : Names L bit.word bit.pin

-- what holds of each element and its number
enumerated : {X : Type 0} (P : ℕ → X → Type 0) (n : ℕ) (xs : List X) → ((k : ℕ) (x : X) → slice_get xs k ≡ Some x → P (n + k) x) → AllByRecursion (λ (row : ℕ × X). P row.0 row.1) (enumerate_from n xs)
enumerated P n [] each = tt
enumerated P n (x ∷ xs) each = (
  let e : n + 0 ≡ n = omega arith in subst (λ (m : ℕ). P m x) e (each 0 x refl),
  enumerated P (n + 1) xs (λ k y at. let e : n + suc k ≡ n + 1 + k = omega arith in subst (λ (m : ℕ). P m y) e (each (suc k) y at)),
)

all_flat : {X Y : Type 0} (Q : Y → Type 0) (f : X → List Y) (xs : List X) → AllByRecursion (λ x. AllByRecursion Q (f x)) xs → AllByRecursion Q (flat_map f xs)
all_flat Q f [] all = tt
all_flat Q f (x ∷ xs) all = subst (AllByRecursion Q) (sym (flat_map-cons f x xs)) (all_append Q (f x) (flat_map f xs) all.0 (all_flat Q f xs all.1))

both : (a b : Bool) → (a && b) ≡ true → (a ≡ true) × (b ≡ true)
both true true e = (refl, refl)
both true false e = absurd (cc)
both false b e = absurd (cc)

input_dir : (d : Dir) → is_input d ≡ true → d ≡ dir.Input
input_dir dir.Input e = refl
input_dir dir.Output e = absurd (cc)
input_dir dir.Inout e = absurd (cc)

port_bit : (L : LinkedView) → HasHiddenWords L → (number bit : ℕ) (port : PortView) (net : NetId) → slice_get L.arena.lists.ports number ≡ Some port → is_hidden_input L number port ≡ true
    → slice_get port.nets bit ≡ Some net → IsBit L (hidden_bit L number port (bit, net))
port_bit L words number bit port net there is at =
    let two = both (is_straight L number) (is_input port.dir) is in
    record {
      hidden = record { hidden = two.0; input = ap (option_map (λ (p : PortView). p.dir)) there ∙ ap (λ (d : Dir). Some d) (input_dir port.dir two.1) };
      net_is = ap (option_and_then (λ (p : PortView). slice_get p.nets bit)) there ∙ at;
      named = hidden_named L words number bit port net two.0 there at;
    }

port_bits : (L : LinkedView) → HasHiddenWords L → (number : ℕ) (port : PortView) → slice_get L.arena.lists.ports number ≡ Some port → AllByRecursion (IsBit L) (inputs_of L (number, port))
port_bits L words number port there = by (is_hidden_input L number port) refl
  where
    by : (b : Bool) → is_hidden_input L number port ≡ b → AllByRecursion (IsBit L) (if b then bits_of L number port else [])
    by true e =
        all_mapped (IsBit L) (hidden_bit L number port) (enumerate_from 0 port.nets)
        (enumerated (λ (bit : ℕ) (net : NetId). IsBit L (hidden_bit L number port (bit, net))) 0 port.nets
        (λ k net at. port_bit L words number (0 + k) port net there e (let z : k ≡ 0 + k = omega arith in subst (λ (m : ℕ). slice_get port.nets m ≡ Some net) z at)))
    by false e = tt

pub bits_are : (L : LinkedView) → HasHiddenWords L → AllByRecursion (IsBit L) (hidden_inputs L)
bits_are L words =
    all_flat (IsBit L) (inputs_of L) (enumerate_from 0 L.arena.lists.ports)
    (enumerated (λ (number : ℕ) (port : PortView). AllByRecursion (IsBit L) (inputs_of L (number, port))) 0 L.arena.lists.ports
    (λ k port at. port_bits L words (0 + k) port (let z : k ≡ 0 + k = omega arith in subst (λ (m : ℕ). slice_get L.arena.lists.ports m ≡ Some port) z at)))

-- They stand in order.

-- the bit is this one of this port, or a later one
abbrev pub IsFrom : ℕ → ℕ → PinBit → Type 0
IsFrom port bit pin = (port < pin.port.0) ⊎ ((port ≡ pin.port.0) × (bit ≤ pin.bit))

abbrev pub Ascend : ℕ → ℕ → List HiddenBit → Type 0
Ascend port bit [] = ⊤
Ascend port bit (x ∷ xs) = IsFrom port bit x.pin × Ascend x.pin.port.0 (x.pin.bit + 1) xs

pub later : (port bit : ℕ) (one two : PinBit) → IsFrom port bit one → IsFrom one.port.0 (one.bit + 1) two → IsFrom port bit two
later port bit one two (inl low) (inl less) = inl (omega (arith, low, less))
later port bit one two (inl low) (inr here) = inl (let e = here.0 in omega (arith, low, e))
later port bit one two (inr at) (inl less) = inl (let e = at.0 in omega (arith, e, less))
later port bit one two (inr at) (inr here) = let e = at.0 in let f = here.0 in let g = at.1 in let h = here.1 in inr (e ∙ f, omega (arith, g, h))

next_port : (port bit : ℕ) (pin : PinBit) → IsFrom (port + 1) 0 pin → IsFrom port bit pin
next_port port bit pin (inl low) = inl (omega (arith, low))
next_port port bit pin (inr here) = inl (let e = here.0 in omega (arith, e))

from_next : (port bit : ℕ) (xs : List HiddenBit) → Ascend (port + 1) 0 xs → Ascend port bit xs
from_next port bit [] up = tt
from_next port bit (x ∷ xs) up = (next_port port bit x.pin up.0, up.1)

block : (L : LinkedView) (number bit : ℕ) (port : PortView) (nets : List NetId) (rest : List HiddenBit) → Ascend (number + 1) 0 rest
    → Ascend number bit (map (hidden_bit L number port) (enumerate_from bit nets) ++ rest)
block L number bit port [] rest up = from_next number bit rest up
block L number bit port (net ∷ nets) rest up = (inr (refl, omega arith), block L number (bit + 1) port nets rest up)

ports_ascend : (L : LinkedView) (n : ℕ) (ports : List PortView) → Ascend n 0 (flat_map (inputs_of L) (enumerate_from n ports))
ports_ascend L n [] = tt
ports_ascend L n (port ∷ ports) =
    let rest = ports_ascend L (n + 1) ports in
    subst (Ascend n 0) (sym (flat_map-cons (inputs_of L) (n, port) (enumerate_from (n + 1) ports))) (by (is_hidden_input L n port) rest)
  where
    by : (b : Bool) → Ascend (n + 1) 0 (flat_map (inputs_of L) (enumerate_from (n + 1) ports))
        → Ascend n 0 ((if b then bits_of L n port else []) ++ flat_map (inputs_of L) (enumerate_from (n + 1) ports))
    by true up = block L n 0 port port.nets (flat_map (inputs_of L) (enumerate_from (n + 1) ports)) up
    by false up = from_next n 0 (flat_map (inputs_of L) (enumerate_from (n + 1) ports)) up

pub bits_ascend : (L : LinkedView) → Ascend 0 0 (hidden_inputs L)
bits_ascend L = ports_ascend L 0 L.arena.lists.ports

-- None is left out.

pub data Stands (pin : PinBit) : List HiddenBit → Type 0 where
  here : {bit : HiddenBit} {bits : List HiddenBit} → bit.pin ≡ pin → Stands pin (bit ∷ bits)
  behind : {bit : HiddenBit} {bits : List HiddenBit} → Stands pin bits → Stands pin (bit ∷ bits)

stands_left : (pin : PinBit) (xs ys : List HiddenBit) → Stands pin xs → Stands pin (xs ++ ys)
stands_left pin xs ys (here e) = here e
stands_left pin xs ys (behind {bits = rest} s) = behind (stands_left pin rest ys s)

stands_right : (pin : PinBit) (xs ys : List HiddenBit) → Stands pin ys → Stands pin (xs ++ ys)
stands_right pin [] ys s = s
stands_right pin (x ∷ xs) ys s = behind (stands_right pin xs ys s)

in_port : (L : LinkedView) (number bit k : ℕ) (port : PortView) (nets : List NetId) (net : NetId) → slice_get nets k ≡ Some net
    → Stands (pin_at number (bit + k)) (map (hidden_bit L number port) (enumerate_from bit nets))
in_port L number bit k port [] net at = absurd (cc)
in_port L number bit zero port (x ∷ nets) net at = here (let e : bit ≡ bit + 0 = omega arith in ap (pin_at number) e)
in_port L number bit (suc k) port (x ∷ nets) net at =
    let e : bit + 1 + k ≡ bit + suc k = omega arith in
    behind (subst (λ (b : ℕ). Stands (pin_at number b) (map (hidden_bit L number port) (enumerate_from (bit + 1) nets))) e (in_port L number (bit + 1) k port nets net at))

in_ports : (L : LinkedView) (n k : ℕ) (ports : List PortView) (port : PortView) (pin : PinBit) → slice_get ports k ≡ Some port → Stands pin (inputs_of L (n + k, port))
    → Stands pin (flat_map (inputs_of L) (enumerate_from n ports))
in_ports L n k [] port pin at s = absurd (cc)
in_ports L n zero (x ∷ ports) port pin at s =
    let e : n + 0 ≡ n = omega arith in
    subst (Stands pin) (sym (flat_map-cons (inputs_of L) (n, x) (enumerate_from (n + 1) ports)))
    (stands_left pin (inputs_of L (n, x)) (flat_map (inputs_of L) (enumerate_from (n + 1) ports))
    (subst (λ (p : PortView). Stands pin (inputs_of L (n, p))) (sym (same_Some x port at)) (subst (λ (m : ℕ). Stands pin (inputs_of L (m, port))) e s)))
in_ports L n (suc k) (x ∷ ports) port pin at s =
    let e : n + suc k ≡ n + 1 + k = omega arith in
    subst (Stands pin) (sym (flat_map-cons (inputs_of L) (n, x) (enumerate_from (n + 1) ports)))
    (stands_right pin (inputs_of L (n, x)) (flat_map (inputs_of L) (enumerate_from (n + 1) ports))
    (in_ports L (n + 1) k ports port pin at (subst (λ (m : ℕ). Stands pin (inputs_of L (m, port))) e s)))

is_one : (L : LinkedView) (number : ℕ) (port : PortView) → is_straight L number ≡ true → slice_get L.arena.lists.ports number ≡ Some port
    → option_map (λ (p : PortView). p.dir) (slice_get L.arena.lists.ports number) ≡ Some dir.Input → is_hidden_input L number port ≡ true
is_one L number port hidden there side =
    let same : port.dir ≡ dir.Input = same_Some port.dir dir.Input (ap (option_map (λ (p : PortView). p.dir)) (sym there) ∙ side) in
    ap (λ (b : Bool). b && is_input port.dir) hidden ∙ ap is_input same

pub hidden_stands : (L : LinkedView) (pin : PinBit) (net : NetId) → IsHiddenInput L pin → net_of L.arena.lists pin ≡ Some net → Stands pin (hidden_inputs L)
hidden_stands L pin net is there =
    option_and_then_some (λ (p : PortView). slice_get p.nets pin.bit) (slice_get L.arena.lists.ports pin.port.0) net there (λ port at has.
    let one = is_one L pin.port.0 port is.hidden at is.input in
    let z : 0 + pin.bit ≡ pin.bit = omega arith in
    let y : pin.port.0 ≡ 0 + pin.port.0 = omega arith in
    let bits : Stands pin (bits_of L pin.port.0 port)
    = subst (λ (b : ℕ). Stands (pin_at pin.port.0 b) (bits_of L pin.port.0 port)) z (in_port L pin.port.0 0 pin.bit port port.nets net has) in
    let here : Stands pin (inputs_of L (pin.port.0, port)) = subst (λ (b : Bool). Stands pin (if b then bits_of L pin.port.0 port else [])) (sym one) bits in
    in_ports L 0 pin.port.0 L.arena.lists.ports port pin at (subst (λ (m : ℕ). Stands pin (inputs_of L (m, port))) y here))
