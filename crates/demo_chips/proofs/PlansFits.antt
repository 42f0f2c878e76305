-- No fault of fitting stands in the plan at a demonstration netlist.
use Rattle.std.proofs.Common.{◌≡◌, ℕ, ◌+◌, Bool, true, false, not, ◌&&◌, ◌||◌, List, [], ◌∷◌, ◌++◌, map, length, codes, bytes_eq, take, Option, Some, None, refl, ap, ◌∙◌, arith, leb-true}
use Rattle.std.specs.Prelude.{nat_eq, nat_le, if◌then◌else◌}
use Rattle.std.specs.Fmt.{digits}
use Rattle.std.specs.List.{list_any, list_all, starts_with}
use Rattle.list_laws.specs.Lists.{AreAll}
use Rattle.list_laws.specs.Options.{or_else, first_in}
use Rattle.list_laws.proofs.Lists.{AreAll-length, AreAll-right}
use Rattle.list_laws.proofs.Options.{or_else-parts}
use Rattle.list_laws.proofs.Tests.{and_left, and_right}
use Rattle.link_model.specs.Denoted.{IsPort}
use Rattle.cell_library.specs.declared.codes.BoundaryKind.{BoundaryKind}
use Rattle.cell_library.specs.declared.codes.BoundaryKind.TheVariants as kind
use Rattle.netlist_model.specs.declared.Dir.{Dir}
use Rattle.netlist_model.specs.declared.Dir.TheVariants as dir
use Rattle.netlist_model.specs.declared.PinBit.{PinBit}
use Rattle.netlist_model.specs.Lists.{PortView}
use Rattle.netlist_model.specs.Drivers.{DriverDrives}
use Rattle.netlist_link.specs.Linked.{LinkedView, HidesNone, own_ports}
use Rattle.netlist_link.specs.Links.{IsLinkOf}
use Rattle.netlist_link.specs.WellNamed.{IsWellNamed}
use Rattle.texts.specs.Repeated.{has_name}
use Rattle.bsdl_lexicon.specs.Names.{is_same_name}
use Rattle.bsdl_lexicon.specs.Reserved.{is_reserved}
use Rattle.bsdl_device.specs.Runs.{is_identifier}
use Rattle.plan_texts.specs.declared.plan.PinLine.{PinLine}
use Rattle.plan_fitting.specs.declared.fault.FitFault.{FitFault}
use Rattle.plan_fitting.specs.declared.fault.FitFault.TheVariants as fault
use Rattle.plan_fitting.specs.Pins.{PinSeen, AreSeen, same_bit}
use Rattle.plan_fitting.specs.Names.{port_names, net_names, cell_names, hidden_names, NamedBit, port_bits}
use Rattle.plan_fitting.specs.Fits.{has_line, bit_fault, missing_fault, Taken, PhysicalPin, PortBit, taken_alone, taken_by, tap_lines, twice_after, twice_fault, suits_port, cell_fault, is_barred, barred_after, names_of, unit_names, name_fault, begun_fault, prefix_fault, fault_with}
use Rattle.plan_fitting.proofs.NoneHidden.{all_own, all_named, no_hidden_names}
use Rattle.plan_fitting.proofs.PortBits.{missing_is}
use Rattle.demo_chips.specs.Netlists.{demo_module}
use Rattle.demo_chips.specs.Plans.{demo_plan, pin_lines}
use Rattle.demo_chips.specs.PlansLaws.{HasNoFitFault}
use Rattle.demo_chips.proofs.PlansLists.{same_mapped, tests_append}
use Rattle.demo_chips.proofs.PlansCells.{is_apart}
use Rattle.demo_chips.proofs.Views.{chip_ports, ports_are, port_names_are, pins_are, net_names_apart, cell_names_apart}
use Rattle.demo_chips.proofs.Pins.{Spot, IsSpot, StandsAt, chip_spots, lines_stand, seen_are}

both_none : (a b : Option FitFault) → a ≡ None → b ≡ None → or_else a b ≡ None
both_none a b one two = ap (λ (o : Option FitFault). or_else o b) one ∙ two

true_not_false : (b : Bool) → b ≡ true → not b ≡ true → ⊥
true_not_false true e h = absurd (cc)
true_not_false false e h = absurd (cc)

abbrev chip_pins : List PinBit
chip_pins = map (λ (s : Spot). s.pin) chip_spots

same_pins : (seen : List PinSeen) → AreAll IsSpot seen chip_spots → map (λ (one : PinSeen). one.pin) seen ≡ chip_pins
same_pins seen are = same_mapped IsSpot (λ (one : PinSeen). one.pin) (λ (s : Spot). s.pin) (λ one s is. is.pin) seen chip_spots are

-- Each bit has a line.

abbrev has_pin : List PinBit → PinBit → Bool
has_pin pins pin = list_any (λ (p : PinBit). same_bit p pin) pins

line_by_pin : (seen : List PinSeen) (pin : PinBit) → has_line seen pin ≡ has_pin (map (λ (one : PinSeen). one.pin) seen) pin
line_by_pin [] pin = refl
line_by_pin (one ∷ seen) pin = ap (λ (b : Bool). same_bit one.pin pin || b) (line_by_pin seen pin)

none_missing : (seen : List PinSeen) (pins : List PinBit) (bits : List NamedBit) → map (λ (one : PinSeen). one.pin) seen ≡ pins → list_all (has_pin pins) (map (λ (b : NamedBit). b.pin) bits) ≡ true → first_in (bit_fault seen) bits ≡ None
none_missing seen pins [] same all = refl
none_missing seen pins (bit ∷ bits) same all =
    let here : has_line seen bit.pin ≡ true = line_by_pin seen bit.pin ∙ ap (λ (ps : List PinBit). has_pin ps bit.pin) same ∙ and_left (has_pin pins bit.pin) (list_all (has_pin pins) (map (λ (b : NamedBit). b.pin) bits)) all in
    ap (λ (t : Bool). or_else (if t then None else Some (fault.PlanPortMissing bit.word)) (first_in (bit_fault seen) bits)) here
    ∙ none_missing seen pins bits same (and_right (has_pin pins bit.pin) (list_all (has_pin pins) (map (λ (b : NamedBit). b.pin) bits)) all)

no_missing : (number : ℕ) (L : LinkedView) → IsLinkOf (demo_module number) L → HidesNone L → (seen : List PinSeen) → AreAll IsSpot seen chip_spots → missing_fault L seen ≡ None
no_missing number L links none seen are = by (own_ports L) refl
  where
    every : list_all (has_pin chip_pins) (map (λ (b : NamedBit). b.pin) (port_bits L)) ≡ true
    every = ap (list_all (has_pin chip_pins)) (pins_are number L links none)

    by : (ports : List PortView) → own_ports L ≡ ports → missing_fault L seen ≡ None
    by [] is =
        let many : length (own_ports L) ≡ 4 = ap length (all_own L none) ∙ AreAll-length (IsPort L.names) L.arena.lists.ports chip_ports (ports_are number L links) in
        absurd (omega (arith, many, ap length is))
    by (port ∷ ports) is = missing_is L seen port ports is ∙ none_missing seen chip_pins (port_bits L) (same_pins seen are) every

-- Nothing stands twice.

abbrev taken_from : List PinLine → List PinBit → List Taken
taken_from [] pins = []
taken_from (line ∷ lines) [] = []
taken_from (line ∷ lines) (pin ∷ pins) = PortBit pin line.port ∷ PhysicalPin line.pin ∷ taken_from lines pins

taken_same : (lines : List PinLine) (seen : List PinSeen) → taken_by lines seen ≡ taken_from lines (map (λ (one : PinSeen). one.pin) seen)
taken_same [] seen = refl
taken_same (line ∷ lines) [] = refl
taken_same (line ∷ lines) (one ∷ seen) = ap (λ (t : List Taken). PortBit one.pin line.port ∷ PhysicalPin line.pin ∷ t) (taken_same lines seen)

no_twice : (seen : List PinSeen) → AreAll IsSpot seen chip_spots → twice_fault demo_plan seen ≡ None
unfolding digits
no_twice seen are =
    let taken : taken_by pin_lines seen ≡ taken_from pin_lines chip_pins = taken_same pin_lines seen ∙ ap (taken_from pin_lines) (same_pins seen are) in
    ap (λ (t : List Taken). twice_after [] (map taken_alone (tap_lines demo_plan) ++ (t ++ []))) taken

-- Each kind of cell suits.

suits_any : (k : BoundaryKind) (d : Dir) (c : Bool) → suits_port k d true ≡ true → suits_port k d c ≡ true
suits_any k d true h = h
suits_any kind.Bc1 dir.Input false h = refl
suits_any kind.Bc1 dir.Output false h = refl
suits_any kind.Bc1 dir.Inout false h = absurd (cc)
suits_any kind.Bc2 dir.Input false h = absurd (cc)
suits_any kind.Bc2 dir.Output false h = refl
suits_any kind.Bc2 dir.Inout false h = absurd (cc)
suits_any kind.Bc4 dir.Input false h = refl
suits_any kind.Bc4 dir.Output false h = absurd (cc)
suits_any kind.Bc4 dir.Inout false h = absurd (cc)
suits_any kind.Bc7 dir.Input false h = absurd (cc)
suits_any kind.Bc7 dir.Output false h = absurd (cc)
suits_any kind.Bc7 dir.Inout false h = refl

-- by any control, or where the net is no clock's and no clear's
abbrev suits_spot : PinLine → Spot → Bool
suits_spot line s = if nat_le 2 s.net then suits_port line.cell s.side false else suits_port line.cell s.side true

abbrev all_suit : List PinLine → List Spot → Bool
all_suit [] spots = true
all_suit (line ∷ lines) [] = true
all_suit (line ∷ lines) (s ∷ spots) = suits_spot line s && all_suit lines spots

one_suits : (line : PinLine) (one : PinSeen) (s : Spot) → IsSpot one s → suits_spot line s ≡ true → suits_port line.cell one.side one.control ≡ true
one_suits line one s is h = ap (λ (d : Dir). suits_port line.cell d one.control) is.side ∙ by (nat_le 2 s.net) refl h
  where
    by : (b : Bool) → nat_le 2 s.net ≡ b → (if b then suits_port line.cell s.side false else suits_port line.cell s.side true) ≡ true → suits_port line.cell s.side one.control ≡ true
    by true e suits = ap (suits_port line.cell s.side) (is.control (leb-true 2 s.net e)) ∙ suits
    by false e suits = suits_any line.cell s.side one.control suits

cells_suit : (lines : List PinLine) (seen : List PinSeen) (spots : List Spot) → AreAll IsSpot seen spots → all_suit lines spots ≡ true → cell_fault lines seen ≡ None
cells_suit [] seen spots are all = refl
cells_suit (line ∷ lines) [] spots are all = refl
cells_suit (line ∷ lines) (one ∷ seen) [] are all = absurd are
cells_suit (line ∷ lines) (one ∷ seen) (s ∷ spots) are all =
    ap (λ (t : Bool). if t then cell_fault lines seen else Some (fault.PlanCell line.port)) (one_suits line one s are.0 (and_left (suits_spot line s) (all_suit lines spots) all))
    ∙ cells_suit lines seen spots are.1 (and_right (suits_spot line s) (all_suit lines spots) all)

-- No name is barred.

none_named : (others : List (List ℕ)) (rest : List ℕ) → list_all is_apart others ≡ true → has_name others (84 ∷ rest) ≡ false
none_named [] rest all = refl
none_named ([] ∷ others) rest all = absurd (cc)
none_named ((b ∷ bytes) ∷ others) rest all = by (nat_eq 84 b) refl (and_left (is_apart (b ∷ bytes)) (list_all is_apart others) all)
    (none_named others rest (and_right (is_apart (b ∷ bytes)) (list_all is_apart others) all))
  where
    by : (t : Bool) → nat_eq 84 b ≡ t → is_apart (b ∷ bytes) ≡ true → has_name others (84 ∷ rest) ≡ false → has_name ((b ∷ bytes) ∷ others) (84 ∷ rest) ≡ false
    by true e apart more = absurd (true_not_false (nat_eq 84 b) e (and_left (not (nat_eq 84 b)) (not (nat_eq 98 b)) apart))
    by false e apart more = ap (λ (t : Bool). (t && bytes_eq rest bytes) || has_name others (84 ∷ rest)) e ∙ more

-- a name that is none of the others, and isn't barred by itself or by those before it
barred_step : (others before names : List (List ℕ)) (name : List ℕ) → has_name others name ≡ false → is_barred [] before name ≡ false → barred_after others (before ++ name ∷ []) names ≡ None
    → barred_after others before (name ∷ names) ≡ None
barred_step others before names name none alone more =
    let same : is_barred others before name ≡ is_barred [] before name = ap (λ (t : Bool). not (is_identifier name) || is_reserved name || list_any (is_same_name name) before || t) none in
    ap (λ (t : Bool). if t then Some (fault.PlanName name) else barred_after others (before ++ name ∷ []) names) (same ∙ alone) ∙ more

abbrev unit : List (List ℕ)
unit = codes "demo_chip" ∷ codes "PK" ∷ codes "clk" ∷ codes "rn" ∷ codes "d" ∷ codes "q" ∷ []

taps_free : (others : List (List ℕ)) → list_all is_apart others ≡ true → barred_after others unit (names_of (tap_lines demo_plan)) ≡ None
unfolding is_reserved
taps_free others all =
    let tms = unit ++ codes "TCK" ∷ [] in
    let tdi = tms ++ codes "TMS" ∷ [] in
    let tdo = tdi ++ codes "TDI" ∷ [] in
    let trst = tdo ++ codes "TDO" ∷ [] in
    barred_step others unit (codes "TMS" ∷ codes "TDI" ∷ codes "TDO" ∷ codes "TRST" ∷ []) (codes "TCK") (none_named others (codes "CK") all) refl
    (barred_step others tms (codes "TDI" ∷ codes "TDO" ∷ codes "TRST" ∷ []) (codes "TMS") (none_named others (codes "MS") all) refl
    (barred_step others tdi (codes "TDO" ∷ codes "TRST" ∷ []) (codes "TDI") (none_named others (codes "DI") all) refl
    (barred_step others tdo (codes "TRST" ∷ []) (codes "TDO") (none_named others (codes "DO") all) refl
    (barred_step others trst [] (codes "TRST") (none_named others (codes "RST") all) refl refl))))

unit_free : barred_after [] [] unit ≡ None
unfolding is_reserved
unit_free = refl

no_name : (number : ℕ) (L : LinkedView) → IsLinkOf (demo_module number) L → HidesNone L → name_fault L demo_plan ≡ None
no_name number L links none =
    let others = net_names L ++ (cell_names L ++ hidden_names L) in
    let names : unit_names L demo_plan ≡ unit = ap (λ (l : List (List ℕ)). codes "demo_chip" ∷ codes "PK" ∷ l) (port_names_are number L links none) in
    let inner = tests_append is_apart (cell_names L) (hidden_names L) (cell_names_apart number L links) (ap (list_all is_apart) (no_hidden_names L none)) in
    let apart = tests_append is_apart (net_names L) (cell_names L ++ hidden_names L) (net_names_apart number L links none) inner in
    let alone : barred_after [] [] (unit_names L demo_plan) ≡ None = ap (barred_after [] []) names ∙ unit_free in
    let taps : barred_after others (unit_names L demo_plan) (names_of (tap_lines demo_plan)) ≡ None =
    ap (λ (l : List (List ℕ)). barred_after others l (names_of (tap_lines demo_plan))) names ∙ taps_free others apart in
    both_none (barred_after [] [] (unit_names L demo_plan)) _ alone (both_none (barred_after others (unit_names L demo_plan) (names_of (tap_lines demo_plan))) None taps refl)

-- No name begins with the prefix.

none_begins : (names : List (List ℕ)) → list_all is_apart names ≡ true → first_in (begun_fault (codes "bs_")) names ≡ None
none_begins [] all = refl
none_begins ([] ∷ names) all = absurd (cc)
none_begins ((b ∷ bytes) ∷ names) all = by (nat_eq 98 b) refl (and_left (is_apart (b ∷ bytes)) (list_all is_apart names) all)
    (none_begins names (and_right (is_apart (b ∷ bytes)) (list_all is_apart names) all))
  where
    by : (t : Bool) → nat_eq 98 b ≡ t → is_apart (b ∷ bytes) ≡ true → first_in (begun_fault (codes "bs_")) names ≡ None → first_in (begun_fault (codes "bs_")) ((b ∷ bytes) ∷ names) ≡ None
    by true e apart more = absurd (true_not_false (nat_eq 98 b) e (and_right (not (nat_eq 84 b)) (not (nat_eq 98 b)) apart))
    by false e apart more =
        let begins : starts_with nat_eq (b ∷ bytes) (codes "bs_") ≡ false = ap (λ (t : Bool). t && bytes_eq (codes "s_") (take 2 bytes)) e in
        ap (λ (t : Bool). or_else (if t then Some (fault.PrefixTaken (b ∷ bytes)) else None) (first_in (begun_fault (codes "bs_")) names)) begins ∙ more

none_begin : (test : List ℕ → Option FitFault) (xs ys : List (List ℕ)) → first_in test xs ≡ None → first_in test ys ≡ None → first_in test (xs ++ ys) ≡ None
none_begin test [] ys one two = two
none_begin test (x ∷ xs) ys one two = let t = or_else-parts (test x) (first_in test xs) one in ap (λ (o : Option FitFault). or_else o (first_in test (xs ++ ys))) t.0 ∙ none_begin test xs ys t.1 two

no_prefix : (number : ℕ) (L : LinkedView) → IsLinkOf (demo_module number) L → HidesNone L → prefix_fault L demo_plan ≡ None
no_prefix number L links none =
    let test = begun_fault (codes "bs_") in
    let taps : List (List ℕ) = names_of (tap_lines demo_plan) in
    none_begin test (port_names L) (net_names L ++ (cell_names L ++ (hidden_names L ++ taps))) (ap (first_in test) (port_names_are number L links none))
    (none_begin test (net_names L) (cell_names L ++ (hidden_names L ++ taps)) (none_begins (net_names L) (net_names_apart number L links none))
    (none_begin test (cell_names L) (hidden_names L ++ taps) (none_begins (cell_names L) (cell_names_apart number L links))
    (none_begin test (hidden_names L) taps (ap (first_in test) (no_hidden_names L none)) refl)))

-- The whole.

faultless : DriverDrives → (number : ℕ) (L : LinkedView) → IsLinkOf (demo_module number) L → HidesNone L → IsWellNamed L.names L.arena.lists → (seen : List PinSeen) → AreSeen L demo_plan.pins seen → fault_with L demo_plan seen ≡ None
faultless law number L links none well seen are =
    let spots = seen_are law number L links well seen are in
    both_none (missing_fault L seen) _ (no_missing number L links none seen spots)
    (both_none (twice_fault demo_plan seen) _ (no_twice seen spots)
    (both_none (cell_fault demo_plan.pins seen) _ (cells_suit pin_lines seen chip_spots spots refl)
    (both_none (name_fault L demo_plan) (prefix_fault L demo_plan) (no_name number L links none) (no_prefix number L links none))))

pub plan_fits : DriverDrives → (number : ℕ) (L : LinkedView) → IsLinkOf (demo_module number) L → HidesNone L → IsWellNamed L.names L.arena.lists → HasNoFitFault L
plan_fits law number L links none well = record {
  named = λ place line there. (let stands = AreAll-right (StandsAt L) pin_lines chip_spots place line (lines_stand number L links) there in (stands.0.pin, all_named L none line.port stands.0.pin stands.2.named));
  faultless = faultless law number L links none well;
}
