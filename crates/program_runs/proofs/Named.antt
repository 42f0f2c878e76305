-- The words of a device's bits name them, in a netlist with its ports.
use Rattle.std.proofs.Common.{◌≡◌, ℕ, ◌+◌, ◌-◌, ◌<◌, ◌≤◌, ◌^◌, Bool, true, false, cond, List, [], ◌∷◌, ◌++◌, Option, Some, None, refl, sym, ap, ◌∙◌, subst, arith, leb-true, lit<, append_assoc}
use Rattle.std.specs.Prelude.{IfSome, nat_le}
use Rattle.std.specs.Fmt.{decimal}
use Rattle.std.proofs.lemmas.Fmt.{decimal_nonempty, length-decimal-le}
use Rattle.verilog_lexicon.specs.Pieces.{IsNumber, value_from}
use Rattle.netlist_model.specs.declared.Range.{Range}
use Rattle.netlist_model.specs.Lists.{PortView}
use Rattle.netlist_model.specs.Formed.{width_of}
use Rattle.netlist_link.specs.Linked.{LinkedView}
use Rattle.netlist_link.specs.PinWords.{IsPortNamed, pin_at}
use Rattle.netlist_link.specs.PinWords.IsPinWord.{scalar, vector}
use Rattle.netlist_link.specs.WellNamed.{IsShortRange, index_from}
use Rattle.bsdl_device.specs.declared.values.DevPort.{DevPort}
use Rattle.bsdl_device.specs.declared.values.Device.{Device}
use Rattle.scan_vectors.specs.Pins.{Names}
use Rattle.scan_programs.specs.Pins.{bit_word}
use Rattle.conformance_report.specs.Agreement.{IsSamePort}
use Rattle.program_runs.specs.Beside.{IsDescribed}
use Rattle.program_runs.proofs.ScriptsWords.{no_scalar, decimal_value, digits_are}

-- Digits.

number_there : (n : ℕ) → n < 10 ^ 9 → IsNumber (decimal n)
number_there n low = let fits : n < 2 ^ 64 = omega (arith, low) in (decimal_nonempty n fits, length-decimal-le 9 n (lit< tt) low fits, digits_are n)

short_index : (r : Range) (bit : ℕ) (b : Bool) → nat_le r.left r.right ≡ b → r.left < 10 ^ 9 → r.right < 10 ^ 9 → bit < width_of (Some r) → cond b (r.left + bit) (r.left - bit) < 10 ^ 9
short_index r bit true e left right low = let up : r.left ≤ r.right = leb-true r.left r.right e in omega (arith, up, left, right, low)
short_index r bit false e left right low = omega (arith, left)

-- Words.

-- the bit of a vector
vector_named : (L : LinkedView) (B : Device) → IsDescribed L B → (place : ℕ) (port : PortView) (name : List ℕ) → IsPortNamed L.names L.arena.lists place port name → (r : Range) → port.range ≡ Some r
    → (bit : ℕ) → bit < width_of (Some r) → Names L (bit_word name (index_from (Some r) bit)) (pin_at place bit)
vector_named L B described place port name named r range bit low =
    let short : IsShortRange r = subst (λ (o : Option Range). IfSome o IsShortRange) range (described.named.port_ranges place port named.there) in
    let index : ℕ = cond (nat_le r.left r.right) (r.left + bit) (r.left - bit) in
    let few : index < 10 ^ 9 = short_index r bit (nat_le r.left r.right) refl short.left short.right low in
    let value : index ≡ value_from 0 (decimal index) = sym (decimal_value index (let fits : index < 2 ^ 64 = omega (arith, few) in fits)) in
    vector (no_scalar L described.plain described.open_names name index) (record {
      name = name;
      index = index;
      indexed = record { digits = decimal index; number = number_there index few; spelled = sym (append_assoc name (91 ∷ decimal index) (93 ∷ [])); value = value };
      of = record {
        named = record { port = port; named = named };
        indexed = record { port = port; there = named.there; range = r; vector = range; at = record { within = low; at = refl } };
      };
    })

pub bit_named : (L : LinkedView) (B : Device) → IsDescribed L B → (place : ℕ) (port : PortView) (name : List ℕ) → IsPortNamed L.names L.arena.lists place port name → (bit : ℕ) → bit < width_of port.range
    → Names L (bit_word name (index_from port.range bit)) (pin_at place bit)
bit_named L B described place port name named bit low = by port.range refl low
  where
    by : (o : Option Range) → port.range ≡ o → bit < width_of o → Names L (bit_word name (index_from o bit)) (pin_at place bit)
    by None e h =
        let none : 0 ≡ bit = omega (arith, h) in
        subst (λ (n : ℕ). Names L name (pin_at place n)) none (scalar (record { port = port; named = named; scalar = e }))
    by (Some r) e h = vector_named L B described place port name named r e bit h

-- the word of a port of the device
pub port_named : (L : LinkedView) (B : Device) → IsDescribed L B → (place : ℕ) (other : DevPort) (same : IsSamePort L place other) → (bit : ℕ) (index : Option ℕ) → bit < width_of same.port.range
    → index_from same.port.range bit ≡ index → (word : List ℕ) → word ≡ bit_word other.name index → Names L word (pin_at place bit)
port_named L B described place other same bit index low at word is =
    let names = bit_named L B described place same.port other.name (record { there = same.there; named = same.name }) bit low in
    subst (λ (w : List ℕ). Names L w (pin_at place bit)) (ap (bit_word other.name) at ∙ sym is) names
