-- The ports of the device of a plan that fits.
use Rattle.std.proofs.Common.{◌≡◌, ℕ, zero, suc, ◌+◌, ◌<◌, Bool, true, false, ◌&&◌, List, [], ◌∷◌, ◌++◌, map, length, filter_map, Option, Some, None, option_map, refl, sym, ap, ◌∙◌, subst, arith}
use Rattle.std.proofs.lemmas.List.{length-map, map-append}
use Rattle.std.proofs.lemmas.Grind.{flat_map-append}
use Rattle.std.specs.Prelude.{◌||◌, IfSome, sum_by, unwrap_or}
use Rattle.std.specs.List.{list_any, list_all, flat_map, enumerate_from, cons_option, AllByRecursion}
use Rattle.std.proofs.lemmas.Simd.{map-map}
use Rattle.std.proofs.lemmas.List.Folds.{list_all-append}
use Rattle.std.proofs.lemmas.List.Sums.{sum_by-cons, sum_by-append}
use Rattle.list_laws.proofs.Tests.{and_left, and_right, or_first, or_second, neither}
use Rattle.list_laws.proofs.Lists.{all_append, length-counted_from, slice_get_there, all_at}
use Rattle.link_model.specs.Nets.{counted_from}
use Rattle.link_model.specs.Denoted.{name_bytes}
use Rattle.bsdl_lexicon.specs.Names.{is_same_name}
use Rattle.bsdl_device.specs.declared.values.PortMode.{PortMode}
use Rattle.bsdl_device.specs.declared.values.PortMode.TheVariants as mode
use Rattle.bsdl_device.specs.declared.values.DevPort.{DevPort}
use Rattle.bsdl_device.specs.Ports.{width}
use Rattle.bsdl_device.specs.Checks.{is_repeated}
use Rattle.bsdl_device.specs.IsDevice as device
use Rattle.bsdl_device.specs.IsDevice.{IsDeviceName, IsDeviceRange, IsDevicePin, IsDevicePort, AreDevicePorts}
use Rattle.netlist_model.specs.declared.Range.{Range}
use Rattle.netlist_model.specs.declared.Name.{Name}
use Rattle.netlist_model.specs.declared.Name.TheVariants.{Original}
use Rattle.netlist_model.specs.Lists.{PortView}
use Rattle.netlist_model.specs.Formed.{width_of}
use Rattle.netlist_arena.specs.Arena.{bit_count}
use Rattle.netlist_unlink.specs.netlist_link.Linked.{LinkedView, own_ports}
use Rattle.netlist_unlink.specs.netlist_link.PinWords.{pin_at}
use Rattle.netlist_unlink.specs.netlist_link.WellNamed.{IsShortRange, IsWellNamed}
use Rattle.bsdl_lexicon.proofs.SameNames.{same_turned}
use Rattle.plan_texts.specs.declared.plan.Plan.{Plan}
use Rattle.plan_texts.specs.declared.plan.TapLine.{TapLine}
use Rattle.plan_texts.specs.declared.plan.PinLine.{PinLine}
use Rattle.plan_fitting.specs.Pins.{PinSeen}
use Rattle.plan_fitting.specs.Names.{NamedBit, port_name, port_names, named_bit, bits_of_port, port_bits}
use Rattle.plan_fitting.specs.Fits.{has_line, tap_lines, names_of}
use Rattle.plan_fitting.specs.Devices.{pin_for, pins_of_port, fit_port, fitted_of, dev_port, port_range, scalar_port, tap_ports, dev_ports, device_of}
use Rattle.plan_fitting.specs.FittingPlan.{IsFitting, HasRoom}
use Rattle.plan_fitting.proofs.DevicesNames.{NamesFit}
use Rattle.plan_fitting.proofs.DevicesLists.{all_from_places}
use Rattle.plan_fitting.proofs.OwnPorts.{own_there}
use Rattle.plan_fitting.proofs.PlanPins.{HasPins}
use Rattle.plan_fitting.proofs.PortBits.{bits_are_apart, AreLined}
use Rattle.plan_fitting.proofs.PortPins.{bit_pins, pins_once, pins_are_right}
use Rattle.plan_fitting.proofs.Taken.{TakenOnce}

-- Pins.

port_pins : (L : LinkedView) (p : Plan) (seen : List PinSeen) (port : ℕ × PortView) → pins_of_port p seen port ≡ bit_pins p seen (bits_of_port L port)
port_pins L p seen port = sym (map-map (λ (b : NamedBit). pin_for p.pins seen b.pin) (named_bit L port.0 port.1) (counted_from 0 (length port.1.nets)))

pub own_pins : (L : LinkedView) (p : Plan) (seen : List PinSeen) (ps : List (ℕ × PortView))
    → flat_map (λ (q : DevPort). q.pins) (map dev_port (map (fit_port L p seen) ps)) ≡ bit_pins p seen (flat_map (bits_of_port L) ps)
own_pins L p seen [] = refl
own_pins L p seen (port ∷ ps) =
    ap (λ (l : List (List ℕ)). l ++ flat_map (λ (q : DevPort). q.pins) (map dev_port (map (fit_port L p seen) ps))) (port_pins L p seen port)
    ∙ ap (λ (l : List (List ℕ)). bit_pins p seen (bits_of_port L port) ++ l) (own_pins L p seen ps)
    ∙ sym (map-append (λ (b : NamedBit). pin_for p.pins seen b.pin) (bits_of_port L port) (flat_map (bits_of_port L) ps))

linkage_pins : (lines : List TapLine) → flat_map (λ (q : DevPort). q.pins) (map (scalar_port mode.Linkage) lines) ≡ map (λ (line : TapLine). line.pin) lines
linkage_pins [] = refl
linkage_pins (line ∷ lines) = ap (λ (l : List (List ℕ)). line.pin ∷ l) (linkage_pins lines)

flat-append : (xs ys : List DevPort) → flat_map (λ (q : DevPort). q.pins) (xs ++ ys) ≡ flat_map (λ (q : DevPort). q.pins) xs ++ flat_map (λ (q : DevPort). q.pins) ys
flat-append xs ys = flat_map-append (λ (q : DevPort). q.pins) xs ys

-- the pins of the ports' bits, of the test access port, and of linkage
pub device_pins : (L : LinkedView) (p : Plan) (seen : List PinSeen)
    → flat_map (λ (q : DevPort). q.pins) (dev_ports (fitted_of L p seen))
    ≡ bit_pins p seen (port_bits L) ++ (map (λ (line : TapLine). line.pin) (tap_lines p) ++ map (λ (line : TapLine). line.pin) p.linkage)
device_pins L p seen =
    flat-append (map dev_port (fitted_of L p seen).ports) (tap_ports (fitted_of L p seen) ++ map (scalar_port mode.Linkage) p.linkage)
    ∙ ap (λ (l : List (List ℕ)). l ++ (map (λ (line : TapLine). line.pin) (tap_lines p) ++ flat_map (λ (q : DevPort). q.pins) (map (scalar_port mode.Linkage) p.linkage)))
    (own_pins L p seen (enumerate_from 0 (own_ports L)))
    ∙ ap (λ (l : List (List ℕ)). bit_pins p seen (port_bits L) ++ (map (λ (line : TapLine). line.pin) (tap_lines p) ++ l)) (linkage_pins p.linkage)

-- Names.

-- the name's bytes
pub record HasBytes (L : LinkedView) (port : PortView) : Type 0 where
  pub bytes : List ℕ
  pub is : name_bytes L.names port.name ≡ Some bytes

bytes_there : (table : List (List ℕ)) (number : ℕ) (name : Name) → name ≡ Original number → number < length table → (bytes : List ℕ) × (name_bytes table name ≡ Some bytes)
bytes_there table number name e below =
    let at = slice_get_there table number below in
    (at.0, ap (name_bytes table) e ∙ at.1)

pub ports_have_bytes : (L : LinkedView) → IsWellNamed L.names L.arena.lists → AllByRecursion (HasBytes L) L.arena.lists.ports
ports_have_bytes L named = all_from_places (HasBytes L) L.arena.lists.ports (λ k port there.
    let name = named.port_names k port there in
    let at = bytes_there L.names name.0 port.name name.1 name.2 in
    record { bytes = at.0; is = at.1 })

named_same : (L : LinkedView) (ports : List PortView) → AllByRecursion (HasBytes L) ports → map (port_name L) ports ≡ filter_map (λ (q : PortView). name_bytes L.names q.name) ports
named_same L [] all = refl
named_same L (port ∷ ports) all =
    ap (λ (o : Option (List ℕ)). unwrap_or o [] ∷ map (port_name L) ports) all.0.is
    ∙ ap (λ (l : List (List ℕ)). all.0.bytes ∷ l) (named_same L ports all.1)
    ∙ sym (ap (λ (o : Option (List ℕ)). cons_option o (filter_map (λ (q : PortView). name_bytes L.names q.name) ports)) all.0.is)

own_names : (L : LinkedView) (p : Plan) (seen : List PinSeen) (n : ℕ) (ports : List PortView) → map (λ (q : DevPort). q.name) (map dev_port (map (fit_port L p seen) (enumerate_from n ports))) ≡ map (port_name L) ports
own_names L p seen n [] = refl
own_names L p seen n (port ∷ ports) = ap (λ (l : List (List ℕ)). port_name L port ∷ l) (own_names L p seen (n + 1) ports)

linkage_names : (lines : List TapLine) → map (λ (q : DevPort). q.name) (map (scalar_port mode.Linkage) lines) ≡ names_of lines
linkage_names [] = refl
linkage_names (line ∷ lines) = ap (λ (l : List (List ℕ)). line.name ∷ l) (linkage_names lines)

own_have_bytes : (L : LinkedView) → IsWellNamed L.names L.arena.lists → AllByRecursion (HasBytes L) (own_ports L)
own_have_bytes L named = all_from_places (HasBytes L) (own_ports L) (λ k port there. all_at (HasBytes L) L.arena.lists.ports k port (ports_have_bytes L named) (own_there L k port there))

pub device_names : (L : LinkedView) (p : Plan) (seen : List PinSeen) → AllByRecursion (HasBytes L) (own_ports L)
    → device.names_of (dev_ports (fitted_of L p seen)) ≡ port_names L ++ (names_of (tap_lines p) ++ names_of p.linkage)
device_names L p seen all =
    map-append (λ (q : DevPort). q.name) (map dev_port (fitted_of L p seen).ports) (tap_ports (fitted_of L p seen) ++ map (scalar_port mode.Linkage) p.linkage)
    ∙ ap (λ (l : List (List ℕ)). l ++ (names_of (tap_lines p) ++ map (λ (q : DevPort). q.name) (map (scalar_port mode.Linkage) p.linkage)))
    (own_names L p seen 0 (own_ports L) ∙ named_same L (own_ports L) all)
    ∙ ap (λ (l : List (List ℕ)). port_names L ++ (names_of (tap_lines p) ++ l)) (linkage_names p.linkage)

apart_from : (a b : List ℕ) (names : List (List ℕ)) → list_any (is_same_name a) names ≡ false → list_any (is_same_name b) names ≡ false
    → list_any (λ name. is_same_name name a || is_same_name name b) names ≡ false
apart_from a b [] h k = refl
apart_from a b (name ∷ names) h k =
    neither (is_same_name name a || is_same_name name b) (list_any (λ n. is_same_name n a || is_same_name n b) names)
    (neither (is_same_name name a) (is_same_name name b)
    (same_turned name a ∙ or_first (is_same_name a name) (list_any (is_same_name a) names) h) (same_turned name b ∙ or_first (is_same_name b name) (list_any (is_same_name b) names) k))
    (apart_from a b names (or_second (is_same_name a name) (list_any (is_same_name a) names) h) (or_second (is_same_name b name) (list_any (is_same_name b) names) k))

-- Each port.

pub record IsRightPort (L : LinkedView) (port : PortView) : Type 0 where
  pub name : IsDeviceName (port_name L port)
  pub short : IfSome port.range IsShortRange
  pub wide : length port.nets ≡ width_of port.range

right_range : (range : Option Range) → IfSome range IsShortRange → IfSome (option_map port_range range) IsDeviceRange
right_range None h = tt
right_range (Some r) h = record { left = h.left; right = h.right }

same_width : (range : Option Range) → width_of range ≡ width (option_map port_range range)
same_width None = refl
same_width (Some r) = refl

pins_each : (L : LinkedView) (p : Plan) (seen : List PinSeen) (n : ℕ) (port : PortView) (first count : ℕ) → length seen ≡ length p.pins → AllByRecursion (λ (line : PinLine). IsDevicePin line.pin) p.pins
    → list_all (λ (b : NamedBit). has_line seen b.pin) (map (named_bit L n port) (counted_from first count)) ≡ true
    → AllByRecursion IsDevicePin (map (λ (bit : ℕ). pin_for p.pins seen (pin_at n bit)) (counted_from first count))
pins_each L p seen n port first zero many right lined = tt
pins_each L p seen n port first (suc count) many right lined =
    let rest = list_all (λ (b : NamedBit). has_line seen b.pin) (map (named_bit L n port) (counted_from (suc first) count)) in (
      pins_are_right p.pins seen (pin_at n first) many right (and_left (has_line seen (pin_at n first)) rest lined),
      pins_each L p seen n port (suc first) count many right (and_right (has_line seen (pin_at n first)) rest lined),
    )

own_each : (L : LinkedView) (p : Plan) (seen : List PinSeen) (n : ℕ) (ports : List PortView) → length seen ≡ length p.pins → AllByRecursion (λ (line : PinLine). IsDevicePin line.pin) p.pins
    → AllByRecursion (IsRightPort L) ports → list_all (λ (b : NamedBit). has_line seen b.pin) (flat_map (bits_of_port L) (enumerate_from n ports)) ≡ true
    → AllByRecursion IsDevicePort (map dev_port (map (fit_port L p seen) (enumerate_from n ports)))
own_each L p seen n [] many pins right lined = tt
own_each L p seen n (port ∷ ports) many pins right lined =
    let test : NamedBit → Bool = λ b. has_line seen b.pin in
    let rest = flat_map (bits_of_port L) (enumerate_from (n + 1) ports) in
    let parts : (list_all test (bits_of_port L (n, port)) && list_all test rest) ≡ true = sym (list_all-append test (bits_of_port L (n, port)) rest) ∙ lined in (
      record {
        name = right.0.name;
        range = right_range port.range right.0.short;
        pins = pins_each L p seen n port 0 (length port.nets) many pins (and_left (list_all test (bits_of_port L (n, port))) (list_all test rest) parts);
        each = length-map (counted_from 0 (length port.nets)) (λ (bit : ℕ). pin_for p.pins seen (pin_at n bit)) ∙ length-counted_from 0 (length port.nets) ∙ right.0.wide ∙ same_width port.range;
      },
      own_each L p seen (n + 1) ports many pins right.1 (and_right (list_all test (bits_of_port L (n, port))) (list_all test rest) parts),
    )

right_scalar : (m : PortMode) (line : TapLine) → IsDeviceName line.name → IsDevicePin line.pin → IsDevicePort (scalar_port m line)
right_scalar m line name pin = record { name = name; range = tt; pins = (pin, tt); each = refl }

right_scalars : (m : PortMode) (lines : List TapLine) → AllByRecursion IsDeviceName (names_of lines) → AllByRecursion (λ (line : TapLine). IsDevicePin line.pin) lines
    → AllByRecursion IsDevicePort (map (scalar_port m) lines)
right_scalars m [] names pins = tt
right_scalars m (line ∷ lines) names pins = (right_scalar m line names.0 pins.0, right_scalars m lines names.1 pins.1)

right_names : (L : LinkedView) (ports : List PortView) → AllByRecursion IsDeviceName (map (port_name L) ports) → AllByRecursion (λ (port : PortView). IsDeviceName (port_name L port)) ports
right_names L [] all = tt
right_names L (port ∷ ports) all = (all.0, right_names L ports all.1)

-- Widths.

own_width : (L : LinkedView) (p : Plan) (seen : List PinSeen) (n : ℕ) (ports : List PortView) → AllByRecursion (IsRightPort L) ports
    → sum_by (λ (q : DevPort). width q.range) (map dev_port (map (fit_port L p seen) (enumerate_from n ports))) ≡ bit_count ports
own_width L p seen n [] all = refl
own_width L p seen n (port ∷ ports) all =
    sum_by-cons (λ (q : DevPort). width q.range) (dev_port (fit_port L p seen (n, port))) (map dev_port (map (fit_port L p seen) (enumerate_from (n + 1) ports)))
    ∙ ap (λ (k : ℕ). k + sum_by (λ (q : DevPort). width q.range) (map dev_port (map (fit_port L p seen) (enumerate_from (n + 1) ports)))) (sym (same_width port.range) ∙ sym all.0.wide)
    ∙ ap (λ (k : ℕ). length port.nets + k) (own_width L p seen (n + 1) ports all.1)
    ∙ sym (sum_by-cons (λ (q : PortView). length q.nets) port ports)

scalars_width : (ports : List DevPort) → AllByRecursion (λ (q : DevPort). width q.range ≡ 1) ports → sum_by (λ (q : DevPort). width q.range) ports ≡ length ports
scalars_width [] all = refl
scalars_width (q ∷ ports) all =
    let one : width q.range ≡ 1 = all.0 in
    let more : sum_by (λ (x : DevPort). width x.range) ports ≡ length ports = scalars_width ports all.1 in
    sum_by-cons (λ (x : DevPort). width x.range) q ports ∙ omega arith

linkage_width : (lines : List TapLine) → AllByRecursion (λ (q : DevPort). width q.range ≡ 1) (map (scalar_port mode.Linkage) lines)
linkage_width [] = tt
linkage_width (line ∷ lines) = (refl, linkage_width lines)

-- The whole.

pub right_ports : (L : LinkedView) (p : Plan) (seen : List PinSeen) → IsFitting L p seen → NamesFit L p → AllByRecursion (IsRightPort L) (own_ports L)
right_ports L p seen fits names =
    let bytes = own_have_bytes L fits.named in
    let named = right_names L (own_ports L) (subst (λ (l : List (List ℕ)). AllByRecursion IsDeviceName l) (sym (named_same L (own_ports L) bytes)) names.unit.1.1) in
    all_from_places (IsRightPort L) (own_ports L) (λ k port there. record {
      name = all_at (λ (q : PortView). IsDeviceName (port_name L q)) (own_ports L) k port named there;
      short = fits.named.port_ranges k port (own_there L k port there);
      wide = fits.wide k port (own_there L k port there);
    })

pub device_ports : (L : LinkedView) (p : Plan) (seen : List PinSeen) → IsFitting L p seen → HasRoom L p → NamesFit L p → HasPins p → TakenOnce p seen → AreLined L seen
    → AllByRecursion (IsRightPort L) (own_ports L) → AreDevicePorts (device_of L p seen)
device_ports L p seen fits room names pins once lined right =
    let more = map (scalar_port mode.Linkage) p.linkage in
    let taps = tap_ports (fitted_of L p seen) in
    let bytes = own_have_bytes L fits.named in
    let rest = port_names L ++ (names_of (tap_lines p) ++ names_of p.linkage) in
    let same = device_names L p seen bytes in
    let of_entity : list_any (is_same_name p.entity) (p.«package» ∷ rest) ≡ false = or_first (list_any (is_same_name p.entity) (p.«package» ∷ rest)) (is_repeated (p.«package» ∷ rest)) names.distinct in
    let of_package : is_repeated (p.«package» ∷ rest) ≡ false = or_second (list_any (is_same_name p.entity) (p.«package» ∷ rest)) (is_repeated (p.«package» ∷ rest)) names.distinct in
    let own : sum_by (λ (q : DevPort). width q.range) (map dev_port (fitted_of L p seen).ports) ≡ bit_count (own_ports L) = own_width L p seen 0 (own_ports L) right in
    let scalars : sum_by (λ (q : DevPort). width q.range) (taps ++ more) ≡ length (taps ++ more) = scalars_width (taps ++ more) (refl, (refl, (refl, (refl, (refl, linkage_width p.linkage))))) in
    let count : length more ≡ length p.linkage = length-map p.linkage (scalar_port mode.Linkage) in
    let sum : sum_by (λ (q : DevPort). width q.range) (dev_ports (fitted_of L p seen))
    ≡ sum_by (λ (q : DevPort). width q.range) (map dev_port (fitted_of L p seen).ports) + sum_by (λ (q : DevPort). width q.range) (taps ++ more) =
    sum_by-append (λ (q : DevPort). width q.range) (map dev_port (fitted_of L p seen).ports) (taps ++ more) in
    record {
      each = all_append IsDevicePort (map dev_port (fitted_of L p seen).ports) (taps ++ more)
          (own_each L p seen 0 (own_ports L) fits.are_seen.count pins.pin_lines right lined.each) (
            right_scalar mode.Input p.tck names.tap.0 pins.taps.0,
            (
              right_scalar mode.Input p.tms names.tap.1.0 pins.taps.1.0,
              (
                right_scalar mode.Input p.tdi names.tap.1.1.0 pins.taps.1.1.0,
                (
                  right_scalar mode.Output p.tdo names.tap.1.1.1.0 pins.taps.1.1.1.0,
                  (
                    right_scalar mode.Input p.trst names.tap.1.1.1.1.0 pins.taps.1.1.1.1.0,
                    right_scalars mode.Linkage p.linkage names.linkage pins.linkages,
                  ),
                ),
              ),
            ),
          );
      distinct = ap is_repeated same ∙ or_second (list_any (is_same_name p.«package») rest) (is_repeated rest) of_package;
      apart = ap (list_any (λ name. is_same_name name p.entity || is_same_name name p.«package»)) same
          ∙ apart_from p.entity p.«package» rest (or_second (is_same_name p.entity p.«package») (list_any (is_same_name p.entity) rest) of_entity) (or_first (list_any (is_same_name p.«package») rest) (is_repeated rest) of_package);
      pins = ap is_repeated (device_pins L p seen) ∙ pins_once p seen (port_bits L) fits.are_seen.count once.pins lined.each (bits_are_apart L);
      few = omega arith;
    }
