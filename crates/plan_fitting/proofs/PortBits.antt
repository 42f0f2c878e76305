-- The bits of a netlist's own ports: each has a line of a plan that fits, and no two are the same.
use Rattle.std.proofs.Common.{◌≡◌, ℕ, zero, suc, ◌+◌, ◌<◌, ◌≤◌, Bool, true, false, ◌&&◌, ◌==◌, List, [], ◌∷◌, map, length, if◌then◌else◌, codes, Some, None, refl, sym, ap, ◌∙◌, arith, leb-true, le-leb}
use Rattle.std.specs.Prelude.{nat_le}
use Rattle.std.specs.List.{list_any, list_all, flat_map, enumerate_from}
use Rattle.std.proofs.lemmas.List.Folds.{list_all-append}
use Rattle.list_laws.proofs.Tests.{and_left, and_right, and_true, neither}
use Rattle.list_laws.proofs.Numbers.{eqb_less}
use Rattle.list_laws.proofs.Options.{or_else-parts}
use Rattle.link_model.specs.Nets.{counted_from}
use Rattle.bsdl_device.specs.Checks.{any_pair}
use Rattle.netlist_model.specs.Lists.{PortView}
use Rattle.netlist_unlink.specs.netlist_link.Linked.{LinkedView, own_ports}
use Rattle.texts.specs.First.{first_in}
use Rattle.plan_fitting.specs.declared.fault.FitFault.{FitFault}
use Rattle.plan_fitting.specs.declared.fault.FitFault.TheVariants as fault
use Rattle.plan_fitting.specs.Pins.{PinSeen, same_bit}
use Rattle.plan_fitting.specs.Names.{NamedBit, named_bit, bits_of_port, port_bits}
use Rattle.plan_fitting.specs.Fits.{has_line, bit_fault, missing_fault}
use Rattle.plan_fitting.proofs.DevicesLists.{false_left, false_right}
use Rattle.plan_fitting.proofs.Pairs.{any_across, pair_joined}

-- Lines.

lined : (b : Bool) (f : FitFault) → (if b then None else Some f) ≡ None → b ≡ true
lined true f h = refl
lined false f h = absurd (cc)

all_lined : (seen : List PinSeen) (bits : List NamedBit) → first_in (bit_fault seen) bits ≡ None → list_all (λ (b : NamedBit). has_line seen b.pin) bits ≡ true
all_lined seen [] h = refl
all_lined seen (b ∷ bits) h =
    let t = or_else-parts (bit_fault seen b) (first_in (bit_fault seen) bits) h in
    and_true (has_line seen b.pin) (list_all (λ (x : NamedBit). has_line seen x.pin) bits) (lined (has_line seen b.pin) (fault.PlanPortMissing b.word) t.0) (all_lined seen bits t.1)

-- there is a port, and each bit has a line
pub record AreLined (L : LinkedView) (seen : List PinSeen) : Type 0 where
  pub some : 0 < length (own_ports L)
  pub each : list_all (λ (b : NamedBit). has_line seen b.pin) (port_bits L) ≡ true

-- where there is a port
pub missing_is : (L : LinkedView) (seen : List PinSeen) (port : PortView) (ports : List PortView) → own_ports L ≡ port ∷ ports → missing_fault L seen ≡ first_in (bit_fault seen) (port_bits L)
missing_is L seen port ports is = rw is (ap (λ (ps : List PortView). first_in (bit_fault seen) (flat_map (bits_of_port L) (enumerate_from 0 ps))) is)

pub are_lined : (L : LinkedView) (seen : List PinSeen) → missing_fault L seen ≡ None → AreLined L seen
are_lined L seen none = by (own_ports L) refl
  where
    no_port : own_ports L ≡ [] → missing_fault L seen ≡ Some (fault.PlanPortMissing (codes "pin"))
    no_port is = rw is refl

    by : (ports : List PortView) → own_ports L ≡ ports → AreLined L seen
    by [] is = absurd (let told : Some (fault.PlanPortMissing (codes "pin")) ≡ None = sym (no_port is) ∙ none in cc)
    by (port ∷ ports) is =
        let many : length (own_ports L) ≡ length (port ∷ ports) = ap length is in
        record { some = omega arith; each = all_lined seen (port_bits L) (sym (missing_is L seen port ports is) ∙ none) }

-- No two bits are the same.

abbrev pub same_named : NamedBit → NamedBit → Bool
same_named a b = same_bit a.pin b.pin

port_alone : (L : LinkedView) (n : ℕ) (port : PortView) (k first count : ℕ) → k < first → list_any (same_named (named_bit L n port k)) (map (named_bit L n port) (counted_from first count)) ≡ false
port_alone L n port k first zero below = refl
port_alone L n port k first (suc count) below =
    neither (n == n && k == first) (list_any (same_named (named_bit L n port k)) (map (named_bit L n port) (counted_from (suc first) count)))
    (false_right (n == n) (k == first) (eqb_less k first below)) (port_alone L n port k (suc first) count (omega arith))

port_apart : (L : LinkedView) (n : ℕ) (port : PortView) (first count : ℕ) → any_pair same_named (map (named_bit L n port) (counted_from first count)) ≡ false
port_apart L n port first zero = refl
port_apart L n port first (suc count) =
    neither (list_any (same_named (named_bit L n port first)) (map (named_bit L n port) (counted_from (suc first) count))) (any_pair same_named (map (named_bit L n port) (counted_from (suc first) count)))
    (port_alone L n port first (suc first) count (omega arith)) (port_apart L n port (suc first) count)

-- bits of ports from this number on
abbrev from_port : ℕ → NamedBit → Bool
from_port n b = nat_le n b.pin.port.0

bits_at : (L : LinkedView) (m n : ℕ) (port : PortView) (first count : ℕ) → m ≤ n → list_all (from_port m) (map (named_bit L n port) (counted_from first count)) ≡ true
bits_at L m n port first zero low = refl
bits_at L m n port first (suc count) low = and_true (nat_le m n) (list_all (from_port m) (map (named_bit L n port) (counted_from (suc first) count))) (le-leb m n low) (bits_at L m n port (suc first) count low)

bits_on : (L : LinkedView) (m n : ℕ) (ports : List PortView) → m ≤ n → list_all (from_port m) (flat_map (bits_of_port L) (enumerate_from n ports)) ≡ true
bits_on L m n [] low = refl
bits_on L m n (port ∷ ports) low =
    list_all-append (from_port m) (bits_of_port L (n, port)) (flat_map (bits_of_port L) (enumerate_from (n + 1) ports))
    ∙ and_true (list_all (from_port m) (bits_of_port L (n, port))) (list_all (from_port m) (flat_map (bits_of_port L) (enumerate_from (n + 1) ports)))
    (bits_at L m n port 0 (length port.nets) low) (bits_on L m (n + 1) ports (omega arith))

other_port : (L : LinkedView) (n : ℕ) (port : PortView) (k : ℕ) (bits : List NamedBit) → list_all (from_port (n + 1)) bits ≡ true → list_any (same_named (named_bit L n port k)) bits ≡ false
other_port L n port k [] h = refl
other_port L n port k (b ∷ bits) h =
    let above : n + 1 ≤ b.pin.port.0 = leb-true (n + 1) b.pin.port.0 (and_left (from_port (n + 1) b) (list_all (from_port (n + 1)) bits) h) in
    neither (n == b.pin.port.0 && k == b.pin.bit) (list_any (same_named (named_bit L n port k)) bits)
    (false_left (n == b.pin.port.0) (k == b.pin.bit) (eqb_less n b.pin.port.0 (omega arith)))
    (other_port L n port k bits (and_right (from_port (n + 1) b) (list_all (from_port (n + 1)) bits) h))

other_ports : (L : LinkedView) (n : ℕ) (port : PortView) (first count : ℕ) (bits : List NamedBit) → list_all (from_port (n + 1)) bits ≡ true
    → any_across same_named (map (named_bit L n port) (counted_from first count)) bits ≡ false
other_ports L n port first zero bits h = refl
other_ports L n port first (suc count) bits h =
    neither (list_any (same_named (named_bit L n port first)) bits) (any_across same_named (map (named_bit L n port) (counted_from (suc first) count)) bits)
    (other_port L n port first bits h) (other_ports L n port (suc first) count bits h)

ports_apart : (L : LinkedView) (n : ℕ) (ports : List PortView) → any_pair same_named (flat_map (bits_of_port L) (enumerate_from n ports)) ≡ false
ports_apart L n [] = refl
ports_apart L n (port ∷ ports) =
    pair_joined same_named (bits_of_port L (n, port)) (flat_map (bits_of_port L) (enumerate_from (n + 1) ports)) (record {
      front = port_apart L n port 0 (length port.nets);
      back = ports_apart L (n + 1) ports;
      across = other_ports L n port 0 (length port.nets) (flat_map (bits_of_port L) (enumerate_from (n + 1) ports)) (bits_on L (n + 1) (n + 1) ports (omega arith));
    })

pub bits_are_apart : (L : LinkedView) → any_pair same_named (port_bits L) ≡ false
bits_are_apart L = ports_apart L 0 (own_ports L)
