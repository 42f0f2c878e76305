-- Hidden ports that no three-state gate drives.
use Rattle.std.proofs.Common.{◌≡◌, ◌≢◌, ℕ, ◌+◌, ◌<◌, ◌==◌, ◌&&◌, Bool, true, false, List, suc, [], ◌∷◌, refl, ap, sym, ◌∙◌, Option, Some, None, arith, eqb-true, get_or}
use Rattle.std.specs.Prelude.{slice_get, nat_le, nat_lt, if◌then◌else◌}
use Rattle.std.specs.List.{position, list_any}
use Rattle.std.specs.Option.{option_map, option_map_or}
use Rattle.std.proofs.lemmas.List.Quantifiers.{position-Some}
use Rattle.std.proofs.lemmas.Bool.{lt-ltb, le-leb}
use Rattle.std.proofs.lemmas.Option.{get_or_from_slice_get}
use Rattle.list_laws.proofs.Lists.{any_at, position_none, slice_get_there}
use Rattle.list_laws.proofs.Options.{first_in-at}
use Rattle.list_laws.proofs.Numbers.{eqb_same}
use Rattle.list_laws.proofs.Tests.{and_left, and_right, and_true}
use Rattle.list_laws.specs.Options.{or_else, first_in}
use Rattle.cell_library.specs.Gates.{is_three_state}
use Rattle.netlist_model.specs.declared.Dir.{Dir}
use Rattle.netlist_model.specs.declared.Dir.TheVariants.{Input, Output, Inout}
use Rattle.netlist_model.specs.declared.NetId.{NetId}
use Rattle.netlist_model.specs.Lists.{CellView, NetlistView, PortView, Drives}
use Rattle.netlist_model.specs.Settled.{driver_of}
use Rattle.netlist_model.specs.Drivers.{DriverDrives, DriverIsFound}
use Rattle.netlist_model.specs.Formed.{IsWellFormed}
use Rattle.netlist_model.specs.Ports.{BitHasDirection}
use Rattle.link_model.specs.declared.fault.BitName.{BitName}
use Rattle.link_model.specs.Faults.{is_output}
use Rattle.netlist_link.specs.Hidden.{AreStraight}
use Rattle.netlist_link.specs.Linked.{LinkedView, hidden_ports, is_straight}
use Rattle.box_links.specs.BoxFaults.{bit_of}
use Rattle.box_links.specs.ThreeState.{first_hidden, has_gate, is_gate_on, named_port, output_bit}
use Rattle.box_links.proofs.Firsts.{part_at, part_back}
use Rattle.box_links.proofs.HiddenPorts.{place_of}
use Rattle.box_links.proofs.Named.{gate_at, gate_there}

-- A driver, and a gate on the net.

on_net : (N : NetlistView) (number net : ℕ) (cell : CellView) → Drives N number cell net → is_three_state cell.kind ≡ true → is_gate_on net (Some cell) ≡ true
on_net N number net cell drives three =
    ap (λ (o : Option NetId). option_map_or (λ (n : NetId). n.0 == net) o false && is_three_state cell.kind) drives.output
    ∙ ap (λ (b : Bool). b && is_three_state cell.kind) (eqb_same net)
    ∙ three

-- a gate on the net drives it
drives_net : (net : ℕ) (cell : CellView) → is_gate_on net (Some cell) ≡ true → (cell.output ≡ Some (record { 0 = net })) × (is_three_state cell.kind ≡ true)
drives_net net cell gate = (by cell.output (and_left _ _ gate), and_right _ _ gate)
  where
    by : (o : Option NetId) → option_map_or (λ (n : NetId). n.0 == net) o false ≡ true → o ≡ Some (record { 0 = net })
    by None equal = absurd (cc)
    by (Some out) equal = ap (λ (n : ℕ). Some (record { 0 = n })) (eqb-true out.0 net equal)

-- the cell that is found drives the net
found_drives : DriverDrives → (N : NetlistView) (net : ℕ) (cell : CellView) → driver_of N.cells net ≡ Some cell → (i : ℕ) × Drives N i cell net
found_drives law N net cell is = rw is at (law N net)

-- Where no bit of a hidden output is found.

-- no net of an output passes
none_passes : (L : LinkedView) (test : ℕ → Bool) (port : PortView) (bit : ℕ) (net : NetId) → output_bit L.names test port ≡ None → port.dir ≡ Output → slice_get port.nets bit ≡ Some net → test net.0 ≡ false
none_passes L test port bit net none out at = by (test net.0) refl
  where
    by : (b : Bool) → test net.0 ≡ b → test net.0 ≡ false
    by false e = e
    by true e =
        let bits : option_map (bit_of (named_port L.names port)) (position (λ (n : NetId). test n.0) port.nets) ≡ None =
        sym (ap (λ (d : Dir). if is_output (Some d) then option_map (bit_of (named_port L.names port)) (position (λ (n : NetId). test n.0) port.nets) else None) out) ∙ none in
        let no : list_any (λ (n : NetId). test n.0) port.nets ≡ false = position_none (λ (n : NetId). test n.0) port.nets (unmapped (bit_of (named_port L.names port)) (position (λ (n : NetId). test n.0) port.nets) bits) in
        let yes = any_at (λ (n : NetId). test n.0) port.nets bit net at e in
        absurd (cc)
      where
        unmapped : {X Y : Type 0} (f : X → Y) (o : Option X) → option_map f o ≡ None → o ≡ None
        unmapped f None e = refl
        unmapped f (Some x) e = absurd (cc)

pub are_straight : DriverDrives → BitHasDirection → (L : LinkedView) → IsWellFormed L.arena.lists
    → ((number : ℕ) (port : PortView) → is_straight L number ≡ true → slice_get L.arena.lists.ports number ≡ Some port → port.dir ≢ Inout)
    → first_hidden L (has_gate L.arena.lists.cells) ≡ None → AreStraight L
are_straight drive direct L formed sides none number bit port net hidden at has = record { side = sides number port hidden at; plain = λ cell found. plain cell found (is_three_state cell.kind) refl }
  where
    plain : (cell : CellView) → driver_of L.arena.lists.cells net.0 ≡ Some cell → (t : Bool) → is_three_state cell.kind ≡ t → is_three_state cell.kind ≡ false
    plain cell found false t = t
    plain cell found true t = absurd (by port.dir refl)
      where
        by : (d : Dir) → port.dir ≡ d → ⊥
        by Inout e = sides number port hidden at e
        by Input e =
            let d = found_drives drive L.arena.lists net.0 cell found in
            formed.inputs_free d.0 cell net.0 d.1 (direct L.arena.lists formed Input net (record { number = number; port = port; bit = bit; stands = at; has = has; same = e }))
        by Output e =
            let d = found_drives drive L.arena.lists net.0 cell found in
            let place = place_of L.straight.first L.straight.count number hidden in
            let there : slice_get L.arena.lists.ports (L.straight.first + place.place) ≡ Some port = ap (λ (n : ℕ). slice_get L.arena.lists.ports n) (sym place.is) ∙ at in
            let among : slice_get (hidden_ports L) place.place ≡ Some port = part_at L.arena.lists.ports L.straight.first L.straight.count place.place port place.less there in
            let missing = first_in-at (output_bit L.names (has_gate L.arena.lists.cells)) (hidden_ports L) place.place port none among in
            let no : has_gate L.arena.lists.cells net.0 ≡ false = none_passes L (has_gate L.arena.lists.cells) port bit net missing e has in
            let yes : has_gate L.arena.lists.cells net.0 ≡ true = gate_there L.arena.lists net.0 d.0 cell d.1.live (on_net L.arena.lists d.0 net.0 cell d.1 t) in
            cc

-- Where one is found.

-- an element for which the test tells it
found_first : {X Y : Type 0} (test : X → Option Y) (xs : List X) (y : Y) → first_in test xs ≡ Some y → (place : ℕ) × (x : X) × (slice_get xs place ≡ Some x) × (test x ≡ Some y)
found_first test [] y is = absurd (cc)
found_first {X} {Y} test (x ∷ xs) y is = by (test x) refl is (found_first test xs y)
  where
    Told : List X → Type 0
    Told zs = (place : ℕ) × (z : X) × (slice_get zs place ≡ Some z) × (test z ≡ Some y)

    by : (o : Option Y) → test x ≡ o → or_else o (first_in test xs) ≡ Some y → (first_in test xs ≡ Some y → Told xs) → Told (x ∷ xs)
    by None e more back = let rest = back more in (suc rest.0, rest.1, rest.2, rest.3)
    by (Some z) e more back = (0, x, refl, e ∙ more)

-- a bit that passes
record IsFoundBit (test : ℕ → Bool) (port : PortView) : Type 0 where
  bit : ℕ
  net : NetId
  out : port.dir ≡ Output
  at : slice_get port.nets bit ≡ Some net
  passes : test net.0 ≡ true

found_bit : (L : LinkedView) (test : ℕ → Bool) (port : PortView) (name : BitName) → output_bit L.names test port ≡ Some name → IsFoundBit test port
found_bit L test port name is = by port.dir refl is
  where
    at_place : port.dir ≡ Output → (o : Option ℕ) → position (λ (n : NetId). test n.0) port.nets ≡ o → option_map (bit_of (named_port L.names port)) o ≡ Some name → IsFoundBit test port
    at_place out None e told = absurd (cc)
    at_place out (Some bit) e told =
        let some = position-Some (λ (n : NetId). test n.0) port.nets bit (record { 0 = 0 }) e in
        let there = slice_get_there port.nets bit some.0 in
        let same : get_or port.nets bit (record { 0 = 0 }) ≡ there.0 = get_or_from_slice_get port.nets bit there.0 (record { 0 = 0 }) there.1 in
        record { bit = bit; net = there.0; out = out; at = there.1; passes = ap (λ (n : NetId). test n.0) (sym same) ∙ some.1 }

    by : (d : Dir) → port.dir ≡ d → (if is_output (Some d) then option_map (bit_of (named_port L.names port)) (position (λ (n : NetId). test n.0) port.nets) else None) ≡ Some name → IsFoundBit test port
    by Output e told = at_place e (position (λ (n : NetId). test n.0) port.nets) refl told
    by Input e told = absurd (cc)
    by Inout e told = absurd (cc)

-- a three-state gate at a hidden output contradicts that it is straight
pub not_straight : DriverIsFound → (L : LinkedView) → IsWellFormed L.arena.lists → AreStraight L → (name : BitName) → first_hidden L (has_gate L.arena.lists.cells) ≡ Some name → ⊥
not_straight found_is L formed plain name is =
    let first = found_first (output_bit L.names (has_gate L.arena.lists.cells)) (hidden_ports L) name is in
    let place = part_back L.arena.lists.ports L.straight.first L.straight.count first.0 first.1 first.2 in
    let bit = found_bit L (has_gate L.arena.lists.cells) first.1 name first.3 in
    let gate = gate_at L.arena.lists bit.net.0 bit.passes in
    let on = drives_net bit.net.0 gate.cell gate.gate in
    let driver = found_is L.arena.lists formed.one_driver gate.number gate.cell bit.net.0 (record { live = gate.live; output = on.0 }) in
    let hidden = within L.straight.first L.straight.count first.0 place.0 in
    let straight = plain (L.straight.first + first.0) bit.bit first.1 bit.net hidden place.1 bit.at in
    let no : true ≡ false = sym on.1 ∙ straight.plain gate.cell driver in
    cc
  where
    within : (start count place : ℕ) → place < count → (nat_le start (start + place) && nat_lt (start + place) (start + count)) ≡ true
    within start count place less = and_true _ _ (le-leb start (start + place) (omega arith)) (lt-ltb (start + place) (start + count) (omega arith))
