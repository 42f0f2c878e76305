-- Names, bits, pins and ports of a device, by its conditions and in its canonical text.
use Rattle.std.proofs.Common.{◌≡◌, ℕ, ◌+◌, ◌≤◌, List, [], ◌∷◌, ◌++◌, Bool, true, false, Option, Some, None, map, length, find, refl, sym, ap, ◌∙◌, arith, eq-eqb, eqb-true, le-leb, leb-true}
use Rattle.std.specs.Prelude.{◌==◌, ◌||◌, ◌&&◌, not, nat_le, count_by, sum_by, IfSome}
use Rattle.std.specs.List.{list_any, list_all, flat_map, AllByRecursion}
use Rattle.std.specs.Option.{option_map, option_map_or}
use Rattle.std.proofs.lemmas.List.Sums.{sum_by-cons}
use Rattle.list_laws.proofs.Tests.{and_left, and_right, not_false, and_true, neither}
use Rattle.list_laws.proofs.Lists.{any_map, each_fails, none_passes}
use Rattle.cell_library.specs.declared.codes.Bits.{Bits}
use Rattle.bsdl_lexicon.specs.Names.{is_same_name}
use Rattle.bsdl_lexicon.specs.Pieces.{IsIdentifier}
use Rattle.bsdl_lexicon.proofs.SameNames.{same_turned}
use Rattle.bsdl_device.specs.declared.values.PortRange.{PortRange}
use Rattle.bsdl_device.specs.declared.values.DevPort.{DevPort}
use Rattle.bsdl_device.specs.declared.values.Device.{Device}
use Rattle.bsdl_device.specs.declared.written.DeclaredPort.{DeclaredPort}
use Rattle.bsdl_device.specs.declared.entries.PinEntry.{PinEntry}
use Rattle.bsdl_device.specs.Patterns.{is_filled}
use Rattle.bsdl_device.specs.Grammar.{has_pins}
use Rattle.bsdl_device.specs.Ports as declared
use Rattle.bsdl_device.specs.Ports.{port_bits, width}
use Rattle.bsdl_device.specs.Checks.{is_repeated, entry_pins, has_pins_for, port_not_mapped_once, entry_misfits, all_pins}
use Rattle.bsdl_device.specs.Denoted.{port_of}
use Rattle.bsdl_device.specs.Canonical.{bits_text}
use Rattle.bsdl_device.specs.IsDevice.{IsDeviceName, IsBits, IsDeviceRange, IsDevicePin, IsDevicePort, AreDevicePorts, names_of}
use Rattle.bsdl_device.proofs.Totals.{weigh, tally, count_by-tally}
use Rattle.bsdl_device.proofs.RoundTripNames.{at_most_one, found_each, found_some, find_same, all_to}
use Rattle.bsdl_device.proofs.RoundTripIdentifiers.{name_test}
use Rattle.bsdl_device.proofs.Rebuilt.{mapped, entry_of, as_declared}
use Rattle.bsdl_device.proofs.PinMaps.{find-map, pins_are_there}
use Rattle.bsdl_device.proofs.Good.{GoodBits, GoodPin}
use Rattle.bsdl_device.proofs.ContentAtoms.{bits_digits, good_below}
use Rattle.bsdl_device.proofs.ContentTexts.{IsPort, HasOne}
use Rattle.bsdl_device.proofs.RoundTripHeld.{IsFileName, IsSmallRange, IsDeclared}
use Rattle.bsdl_device.proofs.RoundTripPlaces.{AreNamed}

-- Names and bits.

pub name_good : (name : List ℕ) → IsDeviceName name → IsFileName name
name_good name is = (is.identifier, is.free)

pub name_is : (name : List ℕ) → IsFileName name → IsDeviceName name
name_is name good = record { identifier = good.0; free = good.1 }

pub bits_good : (bits : Bits) → IsBits bits → GoodBits bits
bits_good bits is =
    let text = bits_text bits.len bits.value in
    let of = bits_digits bits.len bits.value is.value in
    record {
      run = text;
      is = ap (λ (n : ℕ). nat_le 1 n && nat_le n 32 && list_all (λ b. b == 48 || b == 49) text) of.many
          ∙ and_true (nat_le 1 bits.len && nat_le bits.len 32) (list_all (λ b. b == 48 || b == 49) text) (and_true (nat_le 1 bits.len) (nat_le bits.len 32) (le-leb 1 bits.len is.some) (le-leb bits.len 32 is.few)) of.digits;
      len = sym of.many;
      value = sym of.value;
    }

pub bits_are : (bits : Bits) → GoodBits bits → IsBits bits
bits_are bits g =
    let within = and_left (nat_le 1 (length g.run) && nat_le (length g.run) 32) (list_all (λ b. b == 48 || b == 49) g.run) g.is in
    let len : bits.len ≡ length g.run = g.len in
    let least : 1 ≤ length g.run = leb-true 1 (length g.run) (and_left (nat_le 1 (length g.run)) (nat_le (length g.run) 32) within) in
    let most : length g.run ≤ 32 = leb-true (length g.run) 32 (and_right (nat_le 1 (length g.run)) (nat_le (length g.run) 32) within) in
    record { some = omega arith; few = omega arith; value = good_below bits g }

-- Ports.

range_good : (range : Option PortRange) → IfSome range IsDeviceRange → IsSmallRange range
range_good None is = tt
range_good (Some r) is = (is.left, is.right)

range_is : (range : Option PortRange) → IsSmallRange range → IfSome range IsDeviceRange
range_is None small = tt
range_is (Some r) small = record { left = small.0; right = small.1 }

one_good : (range : Option PortRange) (pins : List (List ℕ)) → length pins ≡ width range → HasOne range pins
one_good None [] each = absurd (omega arith)
one_good None (pin ∷ []) each = tt
one_good None (pin ∷ other ∷ more) each = absurd (omega arith)
one_good (Some r) pins each = tt

pub declared_good : (ports : List DevPort) → AllByRecursion IsDevicePort ports → AllByRecursion IsDeclared ports
declared_good ports all = all_to ports (λ p (is : IsDevicePort p). record { name = name_good p.name is.name; range = range_good p.range is.range }) all

pub ports_good : (ports : List DevPort) → AllByRecursion IsDevicePort ports → AllByRecursion IsPort ports
ports_good ports all = all_to ports (λ p (is : IsDevicePort p). record {
  name = name_test p.name (name_good p.name is.name);
  pins = all_to p.pins (λ pin (k : IsDevicePin pin). record { short = k.short; bytes = k.bytes }) is.pins;
  one = one_good p.range p.pins is.each;
}) all

name_filled : (name : List ℕ) → IsIdentifier name → is_filled name ≡ true
name_filled [] is = absurd is
name_filled (b ∷ bytes) is = refl

pub ports_named : (ports : List DevPort) → AllByRecursion IsDeclared ports → is_repeated (names_of ports) ≡ false → AreNamed ports
ports_named ports all distinct = record { filled = all_to ports (λ p (is : IsDeclared p). name_filled p.name is.name.0) all; distinct = distinct }

pub names_same : (ports : List DevPort) → declared.port_names (map as_declared ports) ≡ names_of ports
names_same [] = refl
names_same (p ∷ ps) = ap (λ (l : List (List ℕ)). p.name ∷ l) (names_same ps)

pub widths_same : (ports : List DevPort) → port_bits (map as_declared ports) ≡ sum_by (λ (p : DevPort). width p.range) ports
widths_same [] = refl
widths_same (p ∷ ps) =
    sum_by-cons (λ (q : DeclaredPort). width q.range) (as_declared p) (map as_declared ps)
    ∙ ap (λ (n : ℕ). width p.range + n) (widths_same ps)
    ∙ sym (sum_by-cons (λ (q : DevPort). width q.range) p ps)

-- The pin map.

-- a pin for each bit
abbrev pub AreWide : List DevPort → Type 0
AreWide ports = AllByRecursion (λ (p : DevPort). length p.pins ≡ width p.range) ports

pins_right : (range : Option PortRange) (pins : List (List ℕ)) → length pins ≡ width range → has_pins_for range (mapped range pins) ≡ true
pins_right None [] each = absurd (omega arith)
pins_right None (pin ∷ []) each = refl
pins_right None (pin ∷ other ∷ more) each = absurd (omega arith)
pins_right (Some r) pins each = eq-eqb (length pins) (width (Some r)) each

pins_wide : (range : Option PortRange) (pins : List (List ℕ)) → HasOne range pins → has_pins_for range (mapped range pins) ≡ true → length pins ≡ width range
pins_wide None [] one h = absurd one
pins_wide None (pin ∷ []) one h = refl
pins_wide None (pin ∷ other ∷ more) one h = absurd one
pins_wide (Some r) pins one h = eqb-true (length pins) (width (Some r)) h

pins_own : (range : Option PortRange) (pins : List (List ℕ)) → length pins ≡ width range → entry_pins (mapped range pins) ≡ pins
pins_own None [] each = absurd (omega arith)
pins_own None (pin ∷ []) each = refl
pins_own None (pin ∷ other ∷ more) each = absurd (omega arith)
pins_own (Some r) pins each = refl

pub ports_filled : (ports : List DevPort) → AreWide ports → list_all (λ (e : PinEntry). has_pins e.pins) (map entry_of ports) ≡ true
ports_filled [] all = refl
ports_filled (p ∷ ps) all = and_true (has_pins (mapped p.range p.pins)) (list_all (λ (e : PinEntry). has_pins e.pins) (map entry_of ps)) (pins_are_there p.range (mapped p.range p.pins) (pins_right p.range p.pins all.0)) (ports_filled ps all.1)

pub pins_same : (ports : List DevPort) → AreWide ports → all_pins (map entry_of ports) ≡ flat_map (λ (p : DevPort). p.pins) ports
pins_same [] all = refl
pins_same (p ∷ ps) all = ap (λ (l : List (List ℕ)). l ++ all_pins (map entry_of ps)) (pins_own p.range p.pins all.0) ∙ ap (λ (l : List (List ℕ)). p.pins ++ l) (pins_same ps all.1)

-- each port is found by its name
abbrev AreFound : List DevPort → List DevPort → Type 0
AreFound ports ps = AllByRecursion (λ (p : DevPort). find (λ (q : DevPort). is_same_name p.name q.name) ports ≡ Some p) ps

are_found : (ports : List DevPort) → AreNamed ports → AreFound ports ports
are_found ports n = found_each (λ (p : DevPort). p.name) ports n.distinct

entry_once : (ports : List DevPort) → AreNamed ports → (p : DevPort) → find (λ (q : DevPort). is_same_name p.name q.name) ports ≡ Some p → not (count_by (λ (e : PinEntry). is_same_name e.port p.name) (map entry_of ports) == 1) ≡ false
entry_once ports n p found =
    let most : tally (λ (q : DevPort). is_same_name p.name q.name) ports ≤ 1 = at_most_one (λ (q : DevPort). q.name) ports n.distinct p.name in
    let least : 1 ≤ tally (λ (q : DevPort). is_same_name p.name q.name) ports = found_some (λ (q : DevPort). is_same_name p.name q.name) ports p found in
    let one : tally (λ (q : DevPort). is_same_name p.name q.name) ports ≡ 1 = omega arith in
    ap (λ (k : ℕ). not (k == 1)) (count_by-tally (λ (e : PinEntry). is_same_name e.port p.name) (map entry_of ports) ∙ over ports ∙ one)
  where
    over : (qs : List DevPort) → tally (λ (e : PinEntry). is_same_name e.port p.name) (map entry_of qs) ≡ tally (λ (q : DevPort). is_same_name p.name q.name) qs
    over [] = refl
    over (q ∷ qs) = ap (λ (b : Bool). weigh b 1 + tally (λ (e : PinEntry). is_same_name e.port p.name) (map entry_of qs)) (same_turned q.name p.name) ∙ ap (λ (k : ℕ). weigh (is_same_name p.name q.name) 1 + k) (over qs)

pub mapped_once : (ports : List DevPort) → AreNamed ports → port_not_mapped_once (map as_declared ports) (map entry_of ports) ≡ false
mapped_once ports n =
    any_map (λ (p : DeclaredPort). not (count_by (λ (e : PinEntry). is_same_name e.port p.name) (map entry_of ports) == 1)) as_declared ports
    ∙ none_passes (λ (p : DevPort). not (count_by (λ (e : PinEntry). is_same_name e.port p.name) (map entry_of ports) == 1)) ports (all_to ports (entry_once ports n) (are_found ports n))

misfit_same : (ports : List DevPort) (p : DevPort) → find (λ (q : DevPort). is_same_name p.name q.name) ports ≡ Some p → entry_misfits (map as_declared ports) (entry_of p) ≡ not (has_pins_for p.range (mapped p.range p.pins))
misfit_same ports p found = ap (λ (o : Option DeclaredPort). option_map_or (λ (q : DeclaredPort). not (has_pins_for q.range (mapped p.range p.pins))) o true)
    (find-map (λ (q : DeclaredPort). is_same_name p.name q.name) as_declared ports ∙ ap (option_map as_declared) found)

pub entries_fit : (ports : List DevPort) → AreNamed ports → AreWide ports → list_any (entry_misfits (map as_declared ports)) (map entry_of ports) ≡ false
entries_fit ports n wide = any_map (entry_misfits (map as_declared ports)) entry_of ports ∙ over ports (are_found ports n) wide
  where
    over : (ps : List DevPort) → AreFound ports ps → AreWide ps → list_any (λ (p : DevPort). entry_misfits (map as_declared ports) (entry_of p)) ps ≡ false
    over [] found w = refl
    over (p ∷ ps) found w =
        neither (entry_misfits (map as_declared ports) (entry_of p)) (list_any (λ (q : DevPort). entry_misfits (map as_declared ports) (entry_of q)) ps)
        (misfit_same ports p found.0 ∙ ap not (pins_right p.range p.pins w.0))
        (over ps found.1 w.1)

pub entries_wide : (ports : List DevPort) → AreNamed ports → AllByRecursion IsPort ports → list_any (entry_misfits (map as_declared ports)) (map entry_of ports) ≡ false → AreWide ports
entries_wide ports n is h = over ports (are_found ports n) is (each_fails (λ (p : DevPort). entry_misfits (map as_declared ports) (entry_of p)) ports (sym (any_map (entry_misfits (map as_declared ports)) entry_of ports) ∙ h))
  where
    over : (ps : List DevPort) → AreFound ports ps → AllByRecursion IsPort ps → AllByRecursion (λ (p : DevPort). entry_misfits (map as_declared ports) (entry_of p) ≡ false) ps → AreWide ps
    over [] found k fits = tt
    over (p ∷ ps) found k fits = (pins_wide p.range p.pins k.0.one (not_false (has_pins_for p.range (mapped p.range p.pins)) (sym (misfit_same ports p found.0) ∙ fits.0)), over ps found.1 k.1 fits.1)

-- The ports again.

pub own_ports_again : (ports : List DevPort) → AreNamed ports → AreWide ports → map (port_of (map entry_of ports)) (map as_declared ports) ≡ ports
own_ports_again ports n wide = over ports (are_found ports n) wide
  where
    here : (p : DevPort) → find (λ (q : DevPort). is_same_name p.name q.name) ports ≡ Some p → find (λ (e : PinEntry). is_same_name e.port p.name) (map entry_of ports) ≡ Some (entry_of p)
    here p found =
        find-map (λ (e : PinEntry). is_same_name e.port p.name) entry_of ports
        ∙ ap (option_map entry_of) (find_same (λ (q : DevPort). is_same_name q.name p.name) (λ (q : DevPort). is_same_name p.name q.name) (λ q. same_turned q.name p.name) ports ∙ found)

    over : (ps : List DevPort) → AreFound ports ps → AreWide ps → map (port_of (map entry_of ports)) (map as_declared ps) ≡ ps
    over [] found w = refl
    over (p ∷ ps) found w =
        ap (λ (l : List (List ℕ)). record { name = p.name; mode = p.mode; range = p.range; pins = l } ∷ map (port_of (map entry_of ports)) (map as_declared ps))
        (ap (λ (o : Option PinEntry). option_map_or (λ (e : PinEntry). entry_pins e.pins) o []) (here p found.0) ∙ pins_own p.range p.pins w.0)
        ∙ ap (λ (l : List DevPort). p ∷ l) (over ps found.1 w.1)

-- The conditions on ports.

pub are_wide : (d : Device) → AreDevicePorts d → AreWide d.ports
are_wide d is = all_to d.ports (λ p (k : IsDevicePort p). k.each) is.each

pub ports_are : (ports : List DevPort) → AllByRecursion IsDeclared ports → AllByRecursion IsPort ports → AreWide ports → AllByRecursion IsDevicePort ports
ports_are [] named good wide = tt
ports_are (p ∷ ps) named good wide = (
  record {
    name = name_is p.name named.0.name;
    range = range_is p.range named.0.range;
    pins = all_to p.pins (λ pin (k : GoodPin pin). record { short = k.short; bytes = k.bytes }) good.0.pins;
    each = wide.0;
  },
  ports_are ps named.1 good.1 wide.1,
)
