-- The pin map of the canonical text breaks no rule and maps the ports as before.
use Rattle.std.proofs.Common.{◌≡◌, ℕ, ◌+◌, ◌≤◌, List, [], ◌∷◌, ◌++◌, Bool, true, false, cond, Option, Some, None, map, find, refl, sym, ap, ◌∙◌, arith, eqb-true}
use Rattle.std.specs.Prelude.{◌==◌, ◌||◌, not, count_by}
use Rattle.std.specs.List.{list_any, list_all, filter_map, cons_option, AllByRecursion}
use Rattle.std.specs.Option.{option_map, option_map_or}
use Rattle.list_laws.proofs.Tests.{not_false}
use Rattle.list_laws.proofs.Options.{found}
use Rattle.list_laws.proofs.Lists.{each_fails, none_passes}
use Rattle.bsdl_lexicon.specs.Names.{same_name, is_same_name}
use Rattle.bsdl_lexicon.proofs.SameNames.{same_name-true, same_turned}
use Rattle.bsdl_device.specs.declared.values.PortRange.{PortRange}
use Rattle.bsdl_device.specs.declared.values.DevPort.{DevPort}
use Rattle.bsdl_device.specs.declared.written.DeclaredPort.{DeclaredPort}
use Rattle.bsdl_device.specs.declared.entries.MappedPins.{MappedPins}
use Rattle.bsdl_device.specs.declared.entries.MappedPins.TheVariants as pins
use Rattle.bsdl_device.specs.declared.entries.PinEntry.{PinEntry}
use Rattle.bsdl_device.specs.Grammar.{has_pins}
use Rattle.bsdl_device.specs.Ports.{port_named, port_names, width}
use Rattle.bsdl_device.specs.Checks.{is_repeated, entry_pins, has_pins_for, port_not_mapped_once, entry_misfits, all_pins}
use Rattle.bsdl_device.specs.Denoted.{pins_of, port_of}
use Rattle.bsdl_device.proofs.Totals.{total, weigh, tally, total-flat_map, count_by-tally, Shuffled}
use Rattle.bsdl_device.proofs.Chosen.{chosen_shuffled}
use Rattle.bsdl_device.proofs.RoundTripNames.{same_left, find_same, at_most_one, repeats_shuffled, found_each, found_is_none_of, some_found, found_some, all_to, all_both}
use Rattle.bsdl_device.proofs.Rebuilt.{mapped}

-- Pins of one port.

-- the pins in the form of the port are those that were written
mapped_again : (range : Option PortRange) (m : MappedPins) → has_pins_for range m ≡ true → mapped range (entry_pins m) ≡ m
mapped_again None (pins.One pin) h = refl
mapped_again None (pins.Several list) h = absurd (cc)
mapped_again (Some r) (pins.One pin) h = absurd (cc)
mapped_again (Some r) (pins.Several list) h = refl

pub pins_are_there : (range : Option PortRange) (m : MappedPins) → has_pins_for range m ≡ true → has_pins m ≡ true
pins_are_there None (pins.One pin) h = refl
pins_are_there None (pins.Several list) h = absurd (cc)
pins_are_there (Some r) (pins.One pin) h = absurd (cc)
pins_are_there (Some r) (pins.Several []) h = let same : 0 ≡ width (Some r) = eqb-true 0 (width (Some r)) h in absurd (omega arith)
pins_are_there (Some r) (pins.Several (pin ∷ list)) h = refl

-- Ports.

-- how a port is mapped: by one entry, which has the pins that it wants
pub record PortMapped (ports : List DeclaredPort) (entries : List PinEntry) (p : DeclaredPort) : Type 0 where
  pub self : port_named ports p.name ≡ Some p
  pub one : tally (λ (e : PinEntry). is_same_name e.port p.name) entries ≡ 1
  pub entry : PinEntry
  pub found : find (λ (e : PinEntry). is_same_name e.port p.name) entries ≡ Some entry
  pub fits : has_pins_for p.range entry.pins ≡ true

port_mapped : (ports : List DeclaredPort) (entries : List PinEntry) → list_any (entry_misfits ports) entries ≡ false → (p : DeclaredPort)
    → (port_named ports p.name ≡ Some p) × (not (count_by (λ (e : PinEntry). is_same_name e.port p.name) entries == 1) ≡ false) → PortMapped ports entries p
port_mapped ports entries fit p h =
    let one : tally (λ (e : PinEntry). is_same_name e.port p.name) entries ≡ 1 = sym (count_by-tally (λ (e : PinEntry). is_same_name e.port p.name) entries) ∙ eqb-true (count_by (λ (e : PinEntry). is_same_name e.port p.name) entries) 1 (not_false (count_by (λ (e : PinEntry). is_same_name e.port p.name) entries == 1) h.1) in
    let seen = some_found (λ (e : PinEntry). is_same_name e.port p.name) entries (omega arith) in
    let named : same_name seen.0.port p.name = same_name-true seen.0.port p.name (found (λ (e : PinEntry). is_same_name e.port p.name) entries seen.0 seen.1) in
    let here : port_named ports seen.0.port ≡ Some p = find_same (λ (q : DeclaredPort). is_same_name seen.0.port q.name) (λ (q : DeclaredPort). is_same_name p.name q.name) (λ q. same_left seen.0.port p.name q.name named) ports ∙ h.0 in
    let right : entry_misfits ports seen.0 ≡ false = found_is_none_of (λ (e : PinEntry). is_same_name e.port p.name) (entry_misfits ports) entries seen.0 fit seen.1 in
    record {
      self = h.0;
      one = one;
      entry = seen.0;
      found = seen.1;
      fits = not_false (has_pins_for p.range seen.0.pins) (sym (ap (λ (o : Option DeclaredPort). option_map_or (λ (q : DeclaredPort). not (has_pins_for q.range seen.0.pins)) o true) here) ∙ right);
    }

-- what a file's pin map keeps
pub record MapsPorts (ports : List DeclaredPort) (entries : List PinEntry) : Type 0 where
  pub distinct : is_repeated (port_names ports) ≡ false
  pub once : port_not_mapped_once ports entries ≡ false
  pub fit : list_any (entry_misfits ports) entries ≡ false
  pub apart : is_repeated (all_pins entries) ≡ false

pub ports_mapped : (ports : List DeclaredPort) (entries : List PinEntry) → MapsPorts ports entries → AllByRecursion (PortMapped ports entries) ports
ports_mapped ports entries m = all_to ports (port_mapped ports entries m.fit)
    (all_both (λ (p : DeclaredPort). port_named ports p.name ≡ Some p) (λ (p : DeclaredPort). not (count_by (λ (e : PinEntry). is_same_name e.port p.name) entries == 1) ≡ false) ports
    (found_each (λ (p : DeclaredPort). p.name) ports m.distinct)
    (each_fails (λ (p : DeclaredPort). not (count_by (λ (e : PinEntry). is_same_name e.port p.name) entries == 1)) ports m.once))

-- The entries of the canonical text.

-- the entry of a port
abbrev pub entry_again : List PinEntry → DeclaredPort → PinEntry
entry_again entries p = record { port = p.name; pins = mapped p.range (pins_of entries p.name) }

pub pins_found : (ports : List DeclaredPort) (entries : List PinEntry) (p : DeclaredPort) → (m : PortMapped ports entries p) → pins_of entries p.name ≡ entry_pins m.entry.pins
pins_found ports entries p m = ap (λ (o : Option PinEntry). option_map_or (λ (e : PinEntry). entry_pins e.pins) o []) m.found

mapped_found : (ports : List DeclaredPort) (entries : List PinEntry) (p : DeclaredPort) → (m : PortMapped ports entries p) → mapped p.range (pins_of entries p.name) ≡ m.entry.pins
mapped_found ports entries p m = ap (mapped p.range) (pins_found ports entries p m) ∙ mapped_again p.range m.entry.pins m.fits

-- each port has one entry of its own
counts_again : (ports : List DeclaredPort) (entries : List PinEntry) → is_repeated (port_names ports) ≡ false → (p : DeclaredPort) → PortMapped ports entries p → (not (count_by (λ (e : PinEntry). is_same_name e.port p.name) (map (entry_again entries) ports) == 1)) ≡ false
counts_again ports entries distinct p m =
    let most : tally (λ (q : DeclaredPort). is_same_name p.name q.name) ports ≤ 1 = at_most_one (λ (q : DeclaredPort). q.name) ports distinct p.name in
    let least : 1 ≤ tally (λ (q : DeclaredPort). is_same_name p.name q.name) ports = found_some (λ (q : DeclaredPort). is_same_name p.name q.name) ports p m.self in
    let one : count_by (λ (e : PinEntry). is_same_name e.port p.name) (map (entry_again entries) ports) ≡ 1 =
    count_by-tally (λ (e : PinEntry). is_same_name e.port p.name) (map (entry_again entries) ports) ∙ over ports ∙ omega arith in
    ap (λ (n : ℕ). not (n == 1)) one
  where
    over : (qs : List DeclaredPort) → tally (λ (e : PinEntry). is_same_name e.port p.name) (map (entry_again entries) qs) ≡ tally (λ (q : DeclaredPort). is_same_name p.name q.name) qs
    over [] = refl
    over (q ∷ qs) = ap (λ (b : Bool). weigh b 1 + tally (λ (e : PinEntry). is_same_name e.port p.name) (map (entry_again entries) qs)) (same_turned q.name p.name) ∙ ap (λ (n : ℕ). weigh (is_same_name p.name q.name) 1 + n) (over qs)

fits_again : (ports : List DeclaredPort) (entries : List PinEntry) (p : DeclaredPort) → PortMapped ports entries p → entry_misfits ports (entry_again entries p) ≡ false
fits_again ports entries p m =
    ap (λ (o : Option DeclaredPort). option_map_or (λ (q : DeclaredPort). not (has_pins_for q.range (mapped p.range (pins_of entries p.name)))) o true) m.self
    ∙ ap (λ (l : MappedPins). not (has_pins_for p.range l)) (mapped_found ports entries p m)
    ∙ ap not m.fits

all_map : {A B : Type 0} (bad : B → Bool) (g : A → B) (xs : List A) → AllByRecursion (λ x. bad (g x) ≡ false) xs → list_any bad (map g xs) ≡ false
all_map bad g [] all = refl
all_map bad g (x ∷ xs) all = ap (λ (b : Bool). b || list_any bad (map g xs)) all.0 ∙ all_map bad g xs all.1

-- the pins are those of the entries that the ports choose
pins_again : (ports : List DeclaredPort) (entries : List PinEntry) (ps : List DeclaredPort) → AllByRecursion (PortMapped ports entries) ps → all_pins (map (entry_again entries) ps) ≡ all_pins (filter_map (λ (p : DeclaredPort). find (λ (e : PinEntry). is_same_name e.port p.name) entries) ps)
pins_again ports entries [] all = refl
pins_again ports entries (p ∷ ps) all =
    ap (λ (m : MappedPins). entry_pins m ++ all_pins (map (entry_again entries) ps)) (mapped_found ports entries p all.0)
    ∙ ap (λ (l : List (List ℕ)). entry_pins all.0.entry.pins ++ l) (pins_again ports entries ps all.1)
    ∙ sym (ap (λ (o : Option PinEntry). all_pins (cons_option o (filter_map (λ (q : DeclaredPort). find (λ (e : PinEntry). is_same_name e.port q.name) entries) ps))) all.0.found)

-- each entry is that of one port
one_port : (ports : List DeclaredPort) → is_repeated (port_names ports) ≡ false → (e : PinEntry) → entry_misfits ports e ≡ false → tally (λ (p : DeclaredPort). is_same_name e.port p.name) ports ≡ 1
one_port ports distinct e fit =
    let most : tally (λ (p : DeclaredPort). is_same_name e.port p.name) ports ≤ 1 = at_most_one (λ (p : DeclaredPort). p.name) ports distinct e.port in
    let least : 1 ≤ tally (λ (p : DeclaredPort). is_same_name e.port p.name) ports = by (port_named ports e.port) refl fit in omega arith
  where
    by : (o : Option DeclaredPort) → port_named ports e.port ≡ o → option_map_or (λ (p : DeclaredPort). not (has_pins_for p.range e.pins)) o true ≡ false → 1 ≤ tally (λ (p : DeclaredPort). is_same_name e.port p.name) ports
    by None is k = absurd (cc)
    by (Some p) is k = found_some (λ (q : DeclaredPort). is_same_name e.port q.name) ports p is

pins_shuffled : (ports : List DeclaredPort) (entries : List PinEntry) → MapsPorts ports entries → Shuffled (all_pins (filter_map (λ (p : DeclaredPort). find (λ (e : PinEntry). is_same_name e.port p.name) entries) ports)) (all_pins entries)
pins_shuffled ports entries m =
    let s = chosen_shuffled (λ (p : DeclaredPort) (e : PinEntry). is_same_name e.port p.name) ports entries
    (all_to ports (λ p (k : PortMapped ports entries p). k.one) (ports_mapped ports entries m))
    (all_to entries (one_port ports m.distinct) (each_fails (entry_misfits ports) entries m.fit)) in
    record {
      same = λ weight.
          total-flat_map weight (λ (e : PinEntry). entry_pins e.pins) (filter_map (λ (p : DeclaredPort). find (λ (e : PinEntry). is_same_name e.port p.name) entries) ports)
          ∙ s.same (λ (e : PinEntry). total weight (entry_pins e.pins))
          ∙ sym (total-flat_map weight (λ (e : PinEntry). entry_pins e.pins) entries);
    }

-- the pin map of the canonical text keeps the rules
pub maps_again : (ports : List DeclaredPort) (entries : List PinEntry) → MapsPorts ports entries → MapsPorts ports (map (entry_again entries) ports)
maps_again ports entries m =
    let all : AllByRecursion (PortMapped ports entries) ports = ports_mapped ports entries m in record {
      distinct = m.distinct;
      once = none_passes (λ (p : DeclaredPort). not (count_by (λ (e : PinEntry). is_same_name e.port p.name) (map (entry_again entries) ports) == 1)) ports (all_to ports (counts_again ports entries m.distinct) all);
      fit = all_map (entry_misfits ports) (entry_again entries) ports (all_to ports (fits_again ports entries) all);
      apart = ap is_repeated (pins_again ports entries ports all) ∙ repeats_shuffled _ (all_pins entries) (pins_shuffled ports entries m) m.apart;
    }

-- and each of its entries has a pin
pub pins_filled : (ports : List DeclaredPort) (entries : List PinEntry) → MapsPorts ports entries → list_all (λ (e : PinEntry). has_pins e.pins) (map (entry_again entries) ports) ≡ true
pins_filled ports entries m = over ports (ports_mapped ports entries m)
  where
    over : (ps : List DeclaredPort) → AllByRecursion (PortMapped ports entries) ps → list_all (λ (e : PinEntry). has_pins e.pins) (map (entry_again entries) ps) ≡ true
    over [] all = refl
    over (p ∷ ps) all = let here : has_pins (mapped p.range (pins_of entries p.name)) ≡ true = ap has_pins (mapped_found ports entries p all.0) ∙ pins_are_there p.range all.0.entry.pins all.0.fits in rw here (over ps all.1)

-- The ports again.

pub find-map : {A B : Type 0} (test : B → Bool) (g : A → B) (xs : List A) → find test (map g xs) ≡ option_map g (find (λ x. test (g x)) xs)
find-map test g [] = refl
find-map {A} {B} test g (x ∷ xs) = ap (λ (o : Option B). cond (test (g x)) (Some (g x)) o) (find-map test g xs) ∙ by (test (g x))
  where
    by : (b : Bool) → cond b (Some (g x)) (option_map g (find (λ y. test (g y)) xs)) ≡ option_map g (cond b (Some x) (find (λ y. test (g y)) xs))
    by true = refl
    by false = refl

port_again : (ports : List DeclaredPort) (entries : List PinEntry) (p : DeclaredPort) → PortMapped ports entries p → port_of (map (entry_again entries) ports) p ≡ port_of entries p
port_again ports entries p m =
    let here : find (λ (e : PinEntry). is_same_name e.port p.name) (map (entry_again entries) ports) ≡ Some (entry_again entries p) =
    find-map (λ (e : PinEntry). is_same_name e.port p.name) (entry_again entries) ports
    ∙ ap (option_map (entry_again entries)) (find_same (λ (q : DeclaredPort). is_same_name q.name p.name) (λ (q : DeclaredPort). is_same_name p.name q.name) (λ q. same_turned q.name p.name) ports ∙ m.self) in
    ap (λ (l : List (List ℕ)). record { name = p.name; mode = p.mode; range = p.range; pins = l })
    (ap (λ (o : Option PinEntry). option_map_or (λ (e : PinEntry). entry_pins e.pins) o []) here
    ∙ ap entry_pins (mapped_found ports entries p m)
    ∙ sym (pins_found ports entries p m))

pub ports_again : (ports : List DeclaredPort) (entries : List PinEntry) → MapsPorts ports entries → map (port_of (map (entry_again entries) ports)) ports ≡ map (port_of entries) ports
ports_again ports entries m = over ports (ports_mapped ports entries m)
  where
    over : (ps : List DeclaredPort) → AllByRecursion (PortMapped ports entries) ps → map (port_of (map (entry_again entries) ports)) ps ≡ map (port_of entries) ps
    over [] all = refl
    over (p ∷ ps) all = ap (λ (q : DevPort). q ∷ map (port_of (map (entry_again entries) ports)) ps) (port_again ports entries p all.0) ∙ ap (λ (l : List DevPort). port_of entries p ∷ l) (over ps all.1)
