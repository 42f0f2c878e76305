-- A link view of a demonstration netlist: its ports, the names in it, its cells, and how many there are.
use Rattle.std.proofs.Common.{◌≡◌, ℕ, ◌+◌, ◌-◌, Bool, true, ◌&&◌, List, [], ◌∷◌, ◌++◌, map, length, codes, slice_get, Option, Some, None, IsSome, flat_map, refl, sym, ap, ◌∙◌, subst, arith}
use Rattle.std.specs.Prelude.{option_and_then}
use Rattle.std.specs.List.{list_all, AllByRecursion, enumerate_from}
use Rattle.std.proofs.lemmas.List.{length-map, length-append}
use Rattle.list_laws.specs.Lists.{AreAll, counted_from}
use Rattle.list_laws.proofs.Lists.{AreAll-length, length-counted_from, slice_get_there, all_at}
use Rattle.netlist_model.specs.declared.Name.{Name}
use Rattle.netlist_model.specs.declared.NetId.{NetId}
use Rattle.netlist_model.specs.declared.PinBit.{PinBit}
use Rattle.netlist_model.specs.Lists.{PortView, NetView, CellView, NetlistView, live_cell, cell_at}
use Rattle.netlist_arena.specs.Arena.{bit_count}
use Rattle.link_model.specs.Nets.{NetDeclaration, width, declared_nets, nets_in, net_at}
use Rattle.link_model.specs.Cells.{NamedCell}
use Rattle.link_model.specs.Denoted.{NamedPort, IsPort, IsNet, IsName, IsCell, IsLive, ports_from, name_bytes, denoted}
use Rattle.link_model.specs.Nets as nets
use Rattle.netlist_link.specs.Linked.{LinkedView, HidesNone}
use Rattle.netlist_link.specs.Links.{IsLinkOf}
use Rattle.netlist_link.specs.PinWords.{pin_at}
use Rattle.plan_fitting.specs.Names.{port_names, net_names, name_of_cell, cell_names, NamedBit, bits_of_port, named_bit, port_bits}
use Rattle.plan_fitting.proofs.NoneHidden.{all_port_names, all_port_bits, all_net_names}
use Rattle.demo_chips.specs.Netlists.{demo_ports, demo_module}
use Rattle.demo_chips.specs.PlansLaws.{net_count}
use Rattle.demo_chips.proofs.PlansLists.{same_listed, tests_flat, tests_mapped, tests_listed}
use Rattle.demo_chips.proofs.PlansCells.{is_apart, named_apart, IsDemoCell, cells_are}

abbrev pub chip_ports : List NamedPort
chip_ports = ports_from 0 demo_ports

-- Ports.

pub ports_are : (number : ℕ) (L : LinkedView) → IsLinkOf (demo_module number) L → AreAll (IsPort L.names) L.arena.lists.ports chip_ports
ports_are number L links = links.denoted.ports

pub port_names_are : (number : ℕ) (L : LinkedView) → IsLinkOf (demo_module number) L → HidesNone L → port_names L ≡ codes "clk" ∷ codes "rn" ∷ codes "d" ∷ codes "q" ∷ []
port_names_are number L links none =
    all_port_names L none
    ∙ same_listed (IsPort L.names) (λ (p : PortView). name_bytes L.names p.name) (λ (p : NamedPort). p.name) (λ p named is. is.name) L.arena.lists.ports chip_ports (ports_are number L links)

four_counted : (table : List (List ℕ)) (ports : List PortView) (a b c d : NamedPort) → AreAll (IsPort table) ports (a ∷ b ∷ c ∷ d ∷ []) → bit_count ports ≡ length a.nets + length b.nets + length c.nets + length d.nets
four_counted table [] a b c d are = absurd are
four_counted table (w ∷ []) a b c d are = absurd are.1
four_counted table (w ∷ x ∷ []) a b c d are = absurd are.1.1
four_counted table (w ∷ x ∷ y ∷ []) a b c d are = absurd are.1.1.1
four_counted table (w ∷ x ∷ y ∷ z ∷ v ∷ ports) a b c d are = absurd are.1.1.1.1
four_counted table (w ∷ x ∷ y ∷ z ∷ []) a b c d are =
    let one : length w.nets ≡ length a.nets = ap length are.0.nets in
    let two : length x.nets ≡ length b.nets = ap length are.1.0.nets in
    let three : length y.nets ≡ length c.nets = ap length are.1.1.0.nets in
    let four : length z.nets ≡ length d.nets = ap length are.1.1.1.0.nets in
    let sum : bit_count (w ∷ x ∷ y ∷ z ∷ []) ≡ 0 + length w.nets + length x.nets + length y.nets + length z.nets = refl in
    omega arith

pub bit_count_is : (number : ℕ) (L : LinkedView) → IsLinkOf (demo_module number) L → bit_count L.arena.lists.ports ≡ 34
bit_count_is number L links = four_counted L.names L.arena.lists.ports _ _ _ _ (ports_are number L links)

-- the bits of ports, where the first has this number
abbrev pub pins_from : ℕ → List NamedPort → List PinBit
pins_from number [] = []
pins_from number (p ∷ named) = map (pin_at number) (counted_from 0 (length p.nets)) ++ pins_from (number + 1) named

port_pins : (L : LinkedView) (number : ℕ) (port : PortView) (bits : List ℕ) → map (λ (b : NamedBit). b.pin) (map (named_bit L number port) bits) ≡ map (pin_at number) bits
port_pins L number port [] = refl
port_pins L number port (bit ∷ bits) = ap (λ (pins : List PinBit). pin_at number bit ∷ pins) (port_pins L number port bits)

map-append : {X Y : Type 0} (f : X → Y) (xs ys : List X) → map f (xs ++ ys) ≡ map f xs ++ map f ys
map-append f [] ys = refl
map-append {Y = Y} f (x ∷ xs) ys = ap (λ (l : List Y). f x ∷ l) (map-append f xs ys)

pins_of_ports : (L : LinkedView) (number : ℕ) (ports : List PortView) (named : List NamedPort) → AreAll (IsPort L.names) ports named
    → map (λ (b : NamedBit). b.pin) (flat_map (bits_of_port L) (enumerate_from number ports)) ≡ pins_from number named
pins_of_ports L number [] [] are = refl
pins_of_ports L number [] (p ∷ named) are = absurd are
pins_of_ports L number (port ∷ ports) [] are = absurd are
pins_of_ports L number (port ∷ ports) (p ∷ named) are =
    map-append (λ (b : NamedBit). b.pin) (bits_of_port L (number, port)) (flat_map (bits_of_port L) (enumerate_from (number + 1) ports))
    ∙ ap (λ (pins : List PinBit). pins ++ map (λ (b : NamedBit). b.pin) (flat_map (bits_of_port L) (enumerate_from (number + 1) ports))) (port_pins L number port (counted_from 0 (length port.nets)))
    ∙ ap (λ (ns : List NetId). map (pin_at number) (counted_from 0 (length ns)) ++ map (λ (b : NamedBit). b.pin) (flat_map (bits_of_port L) (enumerate_from (number + 1) ports))) are.0.nets
    ∙ ap (λ (pins : List PinBit). map (pin_at number) (counted_from 0 (length p.nets)) ++ pins) (pins_of_ports L (number + 1) ports named are.1)

pub pins_are : (number : ℕ) (L : LinkedView) → IsLinkOf (demo_module number) L → HidesNone L → map (λ (b : NamedBit). b.pin) (port_bits L) ≡ pins_from 0 chip_ports
pins_are number L links none = ap (map (λ (b : NamedBit). b.pin)) (all_port_bits L none) ∙ pins_of_ports L 0 L.arena.lists.ports chip_ports (ports_are number L links)

-- Nets.

nets_apart : (ds : List NetDeclaration) → AllByRecursion (λ (n : NetDeclaration). is_apart n.name ≡ true) ds → list_all (λ (n : nets.NamedNet). is_apart n.name) (nets_in ds) ≡ true
nets_apart ds all =
    tests_flat (λ (n : nets.NamedNet). is_apart n.name) (λ (n : NetDeclaration). map (net_at n) (counted_from 0 (width n.range))) ds (each ds all)
  where
    each : (ns : List NetDeclaration) → AllByRecursion (λ (n : NetDeclaration). is_apart n.name ≡ true) ns
        → AllByRecursion (λ (n : NetDeclaration). list_all (λ (m : nets.NamedNet). is_apart m.name) (map (net_at n) (counted_from 0 (width n.range))) ≡ true) ns
    each [] all = tt
    each (n ∷ ns) all = (tests_mapped (λ (m : nets.NamedNet). is_apart m.name) (net_at n) (λ bit. all.0) (counted_from 0 (width n.range)), each ns all.1)

list_all-map_names : (ns : List nets.NamedNet) → list_all is_apart (map (λ (n : nets.NamedNet). n.name) ns) ≡ list_all (λ (n : nets.NamedNet). is_apart n.name) ns
list_all-map_names [] = refl
list_all-map_names (n ∷ ns) = ap (λ (t : Bool). is_apart n.name && t) (list_all-map_names ns)

pub net_names_apart : (number : ℕ) (L : LinkedView) → IsLinkOf (demo_module number) L → HidesNone L → list_all is_apart (net_names L) ≡ true
net_names_apart number L links none =
    let listed = same_listed (IsNet L.names) (λ (n : NetView). name_bytes L.names n.name) (λ (n : nets.NamedNet). n.name) (λ n named is. is.name) L.arena.lists.nets (nets_in (declared_nets (demo_module number))) links.denoted.nets in
    ap (list_all is_apart) (all_net_names L none ∙ listed) ∙ list_all-map_names (nets_in (declared_nets (demo_module number)))
    ∙ nets_apart (declared_nets (demo_module number)) (refl, (refl, (refl, (refl, (refl, (refl, tt))))))

abbrev widths : List NetDeclaration → ℕ
widths [] = 0
widths (n ∷ ns) = width n.range + widths ns

nets_counted : (ds : List NetDeclaration) → length (nets_in ds) ≡ widths ds
nets_counted [] = refl
nets_counted (n ∷ ns) =
    let more = nets_counted ns in
    let here : length (map (net_at n) (counted_from 0 (width n.range))) ≡ width n.range = length-map (counted_from 0 (width n.range)) (net_at n) ∙ length-counted_from 0 (width n.range) in
    length-append (map (net_at n) (counted_from 0 (width n.range))) (nets_in ns) ∙ ap (λ (k : ℕ). k + length (nets_in ns)) here ∙ ap (λ (k : ℕ). width n.range + k) more

pub nets_are_counted : (number : ℕ) (L : LinkedView) → IsLinkOf (demo_module number) L → length L.arena.lists.nets ≡ net_count number
nets_are_counted number L links =
    let same = AreAll-length (IsNet L.names) L.arena.lists.nets (nets_in (declared_nets (demo_module number))) links.denoted.nets in
    let count : length (nets_in (declared_nets (demo_module number))) ≡ widths (declared_nets (demo_module number)) = nets_counted (declared_nets (demo_module number)) in
    same ∙ count ∙ (omega arith)

-- Cells.

cell_there : (N : NetlistView) (k : ℕ) (cell : CellView) → slice_get N.cells k ≡ Some (Some cell) → cell_at N k ≡ Some cell
cell_there N k cell at = ap live_cell at

some_same : {X : Type 0} (x y : X) → ◌≡◌ {A = Option X} (Some x) (Some y) → x ≡ y
some_same x y e = cc

-- a live cell is one of the module's
pub record IsOneOf (table : List (List ℕ)) (cell : CellView) : Type 0 where
  pub named : NamedCell
  pub is : IsCell table cell named
  pub demo : IsDemoCell named

live_is : (table : List (List ℕ)) (o : Option CellView) (cell : CellView) (named : NamedCell) → o ≡ Some cell → IsLive table o named → IsCell table cell named
live_is table None cell named e live = absurd live
live_is table (Some other) cell named e live = subst (λ (c : CellView). IsCell table c named) (some_same other cell e) live

pub cell_is : (number : ℕ) (L : LinkedView) → IsLinkOf (demo_module number) L → (i : ℕ) (cell : CellView) → cell_at L.arena.lists i ≡ Some cell → IsOneOf L.names cell
cell_is number L links i cell at =
    let within = links.denoted.cells.only i (subst (λ (o : Option CellView). IsSome o) (sym at) refl) in
    let there = slice_get_there (denoted L.arena.lists.library (demo_module number)).cells i within in
    record {
      named = there.0;
      is = live_is L.names (cell_at L.arena.lists i) cell there.0 at (links.denoted.cells.each i there.0 there.1);
      demo = all_at IsDemoCell (denoted L.arena.lists.library (demo_module number)).cells i there.0 (cells_are L.arena.lists.library number) there.1;
    }

name_is : (table : List (List ℕ)) (view : Option Name) (named : Option (List ℕ)) (bytes : List ℕ) → IsName table view named → named_apart named ≡ true → option_and_then (name_bytes table) view ≡ Some bytes → is_apart bytes ≡ true
name_is table None named bytes is apart e = absurd (cc)
name_is table (Some name) None bytes is apart e = absurd is
name_is table (Some name) (Some other) bytes is apart e = let same : other ≡ bytes = some_same other bytes (sym is ∙ e) in subst (λ (b : List ℕ). is_apart b ≡ true) same apart

pub cell_names_apart : (number : ℕ) (L : LinkedView) → IsLinkOf (demo_module number) L → list_all is_apart (cell_names L) ≡ true
cell_names_apart number L links = tests_listed is_apart (name_of_cell L.names) L.arena.lists.cells each
  where
    each : (k : ℕ) (place : Option CellView) (bytes : List ℕ) → slice_get L.arena.lists.cells k ≡ Some place → name_of_cell L.names place ≡ Some bytes → is_apart bytes ≡ true
    each k None bytes at e = absurd (cc)
    each k (Some cell) bytes at e =
        let one = cell_is number L links k cell (cell_there L.arena.lists k cell at) in
        name_is L.names cell.name one.named.name bytes one.is.name one.demo.name e
