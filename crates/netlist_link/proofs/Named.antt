-- The netlist that a module denotes is well named.
use Rattle.std.proofs.Common.{◌≡◌, subst, ℕ, zero, suc, ◌+◌, ◌-◌, ◌<◌, ◌≤◌, inl, inr, List, [], ◌∷◌, ◌++◌, length, map, refl, ap, sym, ◌∙◌, Option, Some, None, arith, length-append, zero-add}
use Rattle.std.specs.Prelude.{slice_get, IsSome, IfSome, unwrap_or}
use Rattle.std.specs.List.{filter_map}
use Rattle.std.specs.Option.{option_map}
use Rattle.std.proofs.lemmas.Grind.{flat_map-append}
use Rattle.std.proofs.lemmas.Bool.{cases_lt}
use Rattle.std.proofs.lemmas.List.{length-map}
use Rattle.std.proofs.lemmas.Option.{slice_get-map, slice_get_within, same_Some}
use Rattle.list_laws.proofs.Lists.{all_at, slice_get-append_left, slice_get-append_right, AreAll-right, AreAll-left}
use Rattle.verilog_tree.specs.declared.tree.Module.{Module}
use Rattle.verilog_tree.specs.declared.tree.Port.{Port}
use Rattle.verilog_tree.specs.declared.tree.Wire.{Wire}
use Rattle.verilog_tree.specs.declared.tree.Item.{Item}
use Rattle.verilog_tree.specs.declared.tree.Item.TheVariants as item
use Rattle.verilog_tree.specs.declared.tree.Range as tree
use Rattle.verilog_tree.specs.IsTree.{IsTree, IsTreeRange, IsTreePort, IsTreeWire}
use Rattle.verilog_tree.specs.declared.tree.Instance.{Instance}
use Rattle.cell_library.specs.declared.listed.ListedCell.{ListedCell}
use Rattle.cell_library.specs.declared.Kind.{Kind}
use Rattle.cell_library.specs.declared.Kind.TheVariants as kind
use Rattle.cell_library.specs.Library.{cell_name, kind_named}
use Rattle.cell_library.specs.Sound.{IsLibrary}
use Rattle.netlist_model.specs.declared.Name.{Name}
use Rattle.netlist_model.specs.declared.Name.TheVariants.{Original, Added}
use Rattle.netlist_model.specs.declared.NetId.{NetId}
use Rattle.netlist_model.specs.Lists.{PortView, NetView, CellView, NetlistView, cell_at}
use Rattle.netlist_model.specs.Formed.{width_of}
use Rattle.link_names.specs.link_model.Nets.{NamedNet, NetDeclaration, width, index_at, net_at, port_nets, wire_nets, declared_nets, declared_names, nets_in}
use Rattle.link_names.specs.link_model.Cells.{NamedCell, cell_of, kind_of_gate}
use Rattle.link_names.specs.link_model.declared.fault.LinkFault.TheVariants as fault
use Rattle.link_names.specs.link_model.Faults.{names_of, item_name, cells_in, text_fault, cell_unknown}
use Rattle.link_names.specs.link_model.Denoted.{IsNamed, IsNet, IsPort, IsCell, IsName, AreAll, denoted, name_bytes, range_of, ports_from}
use Rattle.link_arena.specs.link_rules.DriversLaws.{dir_at}
use Rattle.netlist_link.specs.WellNamed.{IsKnown, IsWireNet, IsWireName, IsWellNamed, IsShortRange, index_from}
use Rattle.netlist_link.proofs.LibraryKinds.{gate_unnamed, gate_no_assign, library_kind, known_cells}
use Rattle.netlist_link.proofs.Ports.{bits_of, nets_in-first, nets_in-rest, port_bit}
use Rattle.link_arena.proofs.link_rules.ClocksCells.{named_at}
use Rattle.netlist_link.proofs.Spelled.{spelled_names}
use Rattle.netlist_link.proofs.Formed.{direction_is}

abbrev pub Once : {X : Type 0} → List X → Type 0
Once {X} xs = (j k : ℕ) (x : X) → slice_get xs j ≡ Some x → slice_get xs k ≡ Some x → j ≡ k

-- Names in a table.

-- an original name with these bytes
pub record HasBytes (table : List (List ℕ)) (name : Name) (bytes : List ℕ) : Type 0 where
  pub number : ℕ
  pub original : name ≡ Original number
  pub at : slice_get table number ≡ Some bytes

pub has_bytes : (table : List (List ℕ)) (name : Name) (bytes : List ℕ) → name_bytes table name ≡ Some bytes → HasBytes table name bytes
has_bytes table (Original number) bytes e = record { number = number; original = refl; at = e }
has_bytes table (Added number) bytes e = absurd (cc)

-- names with the same bytes are the same
pub same_name : (table : List (List ℕ)) (name other : Name) (bytes : List ℕ) → Once table → name_bytes table name ≡ Some bytes → name_bytes table other ≡ Some bytes → name ≡ other
same_name table name other bytes once e f =
    let one = has_bytes table name bytes e in
    let two = has_bytes table other bytes f in
    one.original ∙ ap Original (once one.number two.number bytes one.at two.at) ∙ sym two.original

known : (table : List (List ℕ)) (name : Name) (bytes : List ℕ) → name_bytes table name ≡ Some bytes → IsKnown table name
known table (Original number) bytes e = slice_get_within table number bytes e
known table (Added number) bytes e = tt

-- Declarations.

-- the first net of a declaration
abbrev pub start : List NetDeclaration → ℕ → ℕ
start [] d = 0
start (net ∷ nets) zero = 0
start (net ∷ nets) (suc d) = width net.range + start nets d

pub record Bit (nets : List NetDeclaration) (k : ℕ) (named : NamedNet) : Type 0 where
  pub d : ℕ
  pub declaration : NetDeclaration
  pub there : slice_get nets d ≡ Some declaration
  pub bit : ℕ
  pub within : bit < width declaration.range
  pub at : k ≡ start nets d + bit
  pub is : named ≡ net_at declaration bit

pub bit_in : (nets : List NetDeclaration) (k : ℕ) (named : NamedNet) → slice_get (nets_in nets) k ≡ Some named → Bit nets k named
bit_in [] k named e = absurd (cc)
bit_in (net ∷ nets) k named e =
    elim (cases_lt k (width net.range)) [
      | inl less ↦
          let here : slice_get (nets_in (net ∷ nets)) k ≡ Some (net_at net k) = nets_in-first net nets k less in
          let same : Some named ≡ Some (net_at net k) = sym e ∙ here in
          record { d = 0; declaration = net; there = refl; bit = k; within = less; at = omega arith; is = grind arith }
      | inr more ↦
          let there = nets_in-rest net nets k (k - width net.range) (omega arith) in
          let rest = bit_in nets (k - width net.range) named (sym there ∙ e) in
          record { d = suc rest.d; declaration = rest.declaration; there = rest.there; bit = rest.bit; within = rest.within; at = let r = rest.at in omega arith; is = rest.is }
    ]

pub bit_of : (nets : List NetDeclaration) (d : ℕ) (net : NetDeclaration) (bit : ℕ) → slice_get nets d ≡ Some net → bit < width net.range
    → slice_get (nets_in nets) (start nets d + bit) ≡ Some (net_at net bit)
bit_of [] d net bit e less = absurd (cc)
bit_of (n ∷ nets) zero net bit e less =
    let same : n ≡ net = grind arith in
    let within : bit < width n.range = rw same less in
    nets_in-first n nets (0 + bit) (omega arith) ∙ ap (λ k. Some (net_at n k)) (omega arith) ∙ ap (λ (x : NetDeclaration). Some (net_at x bit)) same
bit_of (n ∷ nets) (suc d) net bit e less =
    nets_in-rest n nets (width n.range + start nets d + bit) (start nets d + bit) (omega arith) ∙ bit_of nets d net bit e less

-- Names of a module by the place where they stand.

pub port_name_at : (m : Module) (p : ℕ) (port : Port) → slice_get m.ports p ≡ Some port → (p < length m.ports) × (slice_get (names_of m) p ≡ Some port.name)
port_name_at m p port at =
    let less = slice_get_within m.ports p port at in
    let names : List (List ℕ) = map (λ (x : Port). x.name) m.ports in
    let wires : List (List ℕ) = map (λ (w : Wire). w.name) m.wires in
    let items : List (List ℕ) = filter_map item_name m.items in
    let count = length-map m.ports (λ (x : Port). x.name) in
    let first : p < length names = omega arith in
    let second : p < length (names ++ wires) = omega (arith, length-append names wires) in
    (less, slice_get-append_left (names ++ wires) items p second ∙ slice_get-append_left names wires p first ∙ slice_get-map (λ (x : Port). x.name) m.ports p ∙ ap (option_map (λ (x : Port). x.name)) at)

pub wire_name_at : (m : Module) (w : ℕ) (wire : Wire) → slice_get m.wires w ≡ Some wire → (w < length m.wires) × (slice_get (names_of m) (length m.ports + w) ≡ Some wire.name)
wire_name_at m w wire at =
    let less = slice_get_within m.wires w wire at in
    let names : List (List ℕ) = map (λ (x : Port). x.name) m.ports in
    let wires : List (List ℕ) = map (λ (x : Wire). x.name) m.wires in
    let items : List (List ℕ) = filter_map item_name m.items in
    let count = length-map m.ports (λ (x : Port). x.name) in
    let wire_count = length-map m.wires (λ (x : Wire). x.name) in
    let place : length m.ports + w < length (names ++ wires) = omega (arith, length-append names wires) in (
      less,
      slice_get-append_left (names ++ wires) items (length m.ports + w) place ∙ slice_get-append_right names wires (length m.ports + w) w (omega arith)
          ∙ slice_get-map (λ (x : Wire). x.name) m.wires w ∙ ap (option_map (λ (x : Wire). x.name)) at,
    )

item_place : (items : List Item) (i : ℕ) (item : Item) (name : List ℕ) → slice_get items i ≡ Some item → item_name item ≡ Some name → (r : ℕ) × (slice_get (filter_map item_name items) r ≡ Some name)
item_place [] i item name at named = absurd (cc)
item_place (x ∷ items) zero item name at named =
    let same : x ≡ item = grind arith in
    let here : item_name x ≡ Some name = ap item_name same ∙ named in
    (0, rw here refl)
item_place (x ∷ items) (suc i) item name at named = later (item_name x) refl (item_place items i item name at named)
  where
    later : (o : Option (List ℕ)) → item_name x ≡ o → (r : ℕ) × (slice_get (filter_map item_name items) r ≡ Some name) → (r : ℕ) × (slice_get (filter_map item_name (x ∷ items)) r ≡ Some name)
    later None e rest = (rest.0, rw e rest.1)
    later (Some first) e rest = (suc rest.0, rw e rest.1)

pub item_name_at : (m : Module) (i : ℕ) (item : Item) (name : List ℕ) → slice_get m.items i ≡ Some item → item_name item ≡ Some name
    → (r : ℕ) × (slice_get (names_of m) (length m.ports + length m.wires + r) ≡ Some name)
item_name_at m i item name at named =
    let r = item_place m.items i item name at named in
    let names : List (List ℕ) = map (λ (x : Port). x.name) m.ports in
    let wires : List (List ℕ) = map (λ (x : Wire). x.name) m.wires in
    let count = length-map m.ports (λ (x : Port). x.name) in
    let wire_count = length-map m.wires (λ (x : Wire). x.name) in
    (r.0, slice_get-append_right (names ++ wires) (filter_map item_name m.items) (length m.ports + length m.wires + r.0) r.0 (omega (arith, length-append names wires)) ∙ r.1)

once_rest : {X : Type 0} (x : X) (xs : List X) → Once (x ∷ xs) → Once xs
once_rest x xs once = λ j k y at other. let e : suc j ≡ suc k = once (suc j) (suc k) y at other in omega arith

once_right : {X : Type 0} (xs ys : List X) → Once (xs ++ ys) → Once ys
once_right [] ys once = once
once_right (x ∷ xs) ys once = once_right xs ys (once_rest x (xs ++ ys) once)

once_items : (x : Item) (items : List Item) → Once (filter_map item_name (x ∷ items)) → Once (filter_map item_name items)
once_items x items once = go (item_name x) refl
  where
    go : (o : Option (List ℕ)) → item_name x ≡ o → Once (filter_map item_name items)
    go None e = rw e at once
    go (Some name) e = once_rest name (filter_map item_name items) (rw e at once)

-- the first item has a name that no later one has
first_apart : (x : Item) (items : List Item) (name : List ℕ) (j : ℕ) (item : Item) → Once (filter_map item_name (x ∷ items)) → item_name x ≡ Some name
    → slice_get items j ≡ Some item → item_name item ≡ Some name → ⊥
first_apart x items name j item once here at named =
    let r = item_place items j item name at named in
    let one : Once (name ∷ filter_map item_name items) = rw here at once in
    let e : 0 ≡ suc r.0 = one 0 (suc r.0) name refl r.1 in
    omega arith

items_apart : (items : List Item) (i j : ℕ) (item other : Item) (name : List ℕ) → Once (filter_map item_name items) → slice_get items i ≡ Some item → slice_get items j ≡ Some other
    → item_name item ≡ Some name → item_name other ≡ Some name → i ≡ j
items_apart [] i j item other name once at there named also = absurd (cc)
items_apart (x ∷ items) zero zero item other name once at there named also = refl
items_apart (x ∷ items) zero (suc j) item other name once at there named also =
    let same : x ≡ item = grind arith in absurd (first_apart x items name j other once (ap item_name same ∙ named) there also)
items_apart (x ∷ items) (suc i) zero item other name once at there named also =
    let same : x ≡ other = grind arith in absurd (first_apart x items name i item once (ap item_name same ∙ also) at named)
items_apart (x ∷ items) (suc i) (suc j) item other name once at there named also =
    ap suc (items_apart items i j item other name (once_items x items once) at there named also)

-- What is known of a netlist that a module denotes, with its names in the table.
pub record Denotes (table : List (List ℕ)) (N : NetlistView) (m : Module) : Type 0 where
  pub is : IsNamed table N (denoted N.library m)
  pub library : IsLibrary N.library
  pub names : table ≡ names_of m
  pub once : Once table

once_names : (table : List (List ℕ)) (N : NetlistView) (m : Module) → Denotes table N m → Once (names_of m)
once_names table N m d = let P : List (List ℕ) → Type 0 = Once in subst P d.names d.once

-- a port is one of the tree
record PortAt (table : List (List ℕ)) (m : Module) (p : ℕ) (view : PortView) : Type 0 where
  port : Port
  there : slice_get m.ports p ≡ Some port
  name : name_bytes table view.name ≡ Some port.name
  range : view.range ≡ option_map range_of port.range

port_in : (table : List (List ℕ)) (first : ℕ) (views : List PortView) (ports : List Port) (p : ℕ) (view : PortView) → AreAll (IsPort table) views (ports_from first ports)
    → slice_get views p ≡ Some view → (port : Port) × (slice_get ports p ≡ Some port) × (name_bytes table view.name ≡ Some port.name) × (view.range ≡ option_map range_of port.range)
port_in table first [] ports p view all at = absurd (cc)
port_in table first (v ∷ views) [] p view all at = absurd all
port_in table first (v ∷ views) (t ∷ ports) zero view all at =
    let same : v ≡ view = grind arith in
    (t, refl, ap (λ (x : PortView). name_bytes table x.name) (sym same) ∙ all.0.name, ap (λ (x : PortView). x.range) (sym same) ∙ all.0.range)
port_in table first (v ∷ views) (t ∷ ports) (suc p) view all at = port_in table (first + width t.range) views ports p view all.1 at

port_at : (table : List (List ℕ)) (N : NetlistView) (m : Module) (p : ℕ) (view : PortView) → Denotes table N m → slice_get N.ports p ≡ Some view → PortAt table m p view
port_at table N m p view d at =
    let found = port_in table 0 N.ports m.ports p view d.is.ports at in record { port = found.0; there = found.1; name = found.2; range = found.3 }

-- a cell is that of an item
record CellAt (table : List (List ℕ)) (library : List ListedCell) (m : Module) (i : ℕ) (cell : CellView) : Type 0 where
  item : Item
  there : slice_get m.items i ≡ Some item
  is : IsCell table cell (cell_of library (declared_names m) item)

cell_in : (table : List (List ℕ)) (N : NetlistView) (m : Module) (i : ℕ) (cell : CellView) → Denotes table N m → cell_at N i ≡ Some cell → CellAt table N.library m i cell
cell_in table N m i cell d at =
    let n = named_at table N (cells_in N.library m) i cell d.is.cells at in
    go n.named n.is (slice_get m.items i) refl (sym (slice_get-map (cell_of N.library (declared_names m)) m.items i) ∙ n.there)
  where
    go : (named : NamedCell) → IsCell table cell named → (o : Option Item) → slice_get m.items i ≡ o → option_map (cell_of N.library (declared_names m)) o ≡ Some named → CellAt table N.library m i cell
    go named is None e map_is = absurd (cc)
    go named is (Some item) e map_is =
        let same : cell_of N.library (declared_names m) item ≡ named = same_Some (cell_of N.library (declared_names m) item) named map_is in
        let P : NamedCell → Type 0 = IsCell table cell in
        record { item = item; there = e; is = subst P (sym same) is }

-- the name of a cell is that of its item
pub cell_name_is : (library : List ListedCell) (m : Module) (item : Item) → (cell_of library (declared_names m) item).name ≡ item_name item
cell_name_is library m (item.Gate g) = refl
cell_name_is library m (item.Instance i) = refl
cell_name_is library m (item.Assign output input) = refl

name_is : (table : List (List ℕ)) (mine : Option Name) (bytes : Option (List ℕ)) (name : Name) → IsName table mine bytes → mine ≡ Some name
    → (b : List ℕ) × (bytes ≡ Some b) × (name_bytes table name ≡ Some b)
name_is table None bytes name is e = absurd (cc)
name_is table (Some own) None name is e = absurd is
name_is table (Some own) (Some b) name is e = let same : own ≡ name = same_Some own name e in (b, refl, ap (name_bytes table) (sym same) ∙ is)

cell_bytes : (table : List (List ℕ)) (library : List ListedCell) (m : Module) (i : ℕ) (cell : CellView) (name : Name) (c : CellAt table library m i cell) → cell.name ≡ Some name
    → (b : List ℕ) × (item_name c.item ≡ Some b) × (name_bytes table name ≡ Some b)
cell_bytes table library m i cell name c e =
    let found = name_is table cell.name (cell_of library (declared_names m) c.item).name name c.is.name e in
    (found.0, sym (cell_name_is library m c.item) ∙ found.1, found.2)

-- a net under its declaration
record NetAt (table : List (List ℕ)) (m : Module) (net : ℕ) (view : NetView) : Type 0 where
  named : NamedNet
  there : slice_get (nets_in (declared_nets m)) net ≡ Some named
  bit : Bit (declared_nets m) net named
  is : IsNet table view named

net_in : (table : List (List ℕ)) (N : NetlistView) (m : Module) (net : ℕ) (view : NetView) → Denotes table N m → slice_get N.nets net ≡ Some view → NetAt table m net view
net_in table N m net view d at =
    let right = AreAll-right (IsNet table) N.nets (nets_in (declared_nets m)) net view d.is.nets at in
    record { named = right.0; there = right.1; bit = bit_in (declared_nets m) net right.0 right.1; is = right.2 }

-- the net of a bit of a declaration, under a name with the declaration's bytes
bit_view : (table : List (List ℕ)) (N : NetlistView) (m : Module) (k : ℕ) (net : NetDeclaration) (bit : ℕ) (name : Name) → Denotes table N m
    → slice_get (nets_in (declared_nets m)) k ≡ Some (net_at net bit) → name_bytes table name ≡ Some net.name
    → slice_get N.nets k ≡ Some (record { name = name; index = index_at net.range bit })
bit_view table N m k net bit name d at named =
    let left = AreAll-left (IsNet table) N.nets (nets_in (declared_nets m)) k (net_at net bit) d.is.nets at in
    let same : left.0.name ≡ name = same_name table left.0.name name net.name d.once left.2.name named in
    left.1 ∙ ap (λ (n : Name). Some (record { name = n; index = left.0.index })) same ∙ ap (λ i. Some (record { name = name; index = i })) left.2.index

index_from_is : (range : Option tree.Range) (place : ℕ) → index_from (option_map range_of range) place ≡ index_at range place
index_from_is None place = refl
index_from_is (Some range) place = refl

width_of_is : (range : Option tree.Range) → width_of (option_map range_of range) ≡ width range
width_of_is None = refl
width_of_is (Some range) = refl

-- a declaration without a direction is a wire's
record WireAt (m : Module) (d : ℕ) (net : NetDeclaration) : Type 0 where
  w : ℕ
  wire : Wire
  there : slice_get m.wires w ≡ Some wire
  place : d ≡ length m.ports + w
  is : net ≡ wire_nets wire

wire_at : (m : Module) (d : ℕ) (net : NetDeclaration) → slice_get (declared_nets m) d ≡ Some net → net.dir ≡ None → WireAt m d net
wire_at m d net at none =
    let ports : List NetDeclaration = map port_nets m.ports in
    let count = length-map m.ports port_nets in
    elim (cases_lt d (length ports)) [
      | inl less ↦
          let here : slice_get ports d ≡ Some net = sym (slice_get-append_left ports (map wire_nets m.wires) d less) ∙ at in
          absurd (of_port (slice_get m.ports d) (sym (slice_get-map port_nets m.ports d) ∙ here))
      | inr more ↦
          let w = d - length ports in
          let here : slice_get (map wire_nets m.wires) w ≡ Some net = sym (slice_get-append_right ports (map wire_nets m.wires) d w (omega arith)) ∙ at in
          of_wire w (omega arith) (slice_get m.wires w) refl (sym (slice_get-map wire_nets m.wires w) ∙ here)
    ]
  where
    of_port : (o : Option Port) → option_map port_nets o ≡ Some net → ⊥
    of_port None e = cc
    of_port (Some p) e = let dir : Some (port_nets p).dir ≡ Some net.dir = ap (option_map (λ (n : NetDeclaration). n.dir)) e in let two : Some (port_nets p).dir ≡ Some None = dir ∙ ap Some none in cc

    of_wire : (w : ℕ) → d ≡ length m.ports + w → (o : Option Wire) → slice_get m.wires w ≡ o → option_map wire_nets o ≡ Some net → WireAt m d net
    of_wire w place None e is = absurd (cc)
    of_wire w place (Some wire) e is = record { w = w; wire = wire; there = e; place = place; is = sym (same_Some (wire_nets wire) net is) }

-- a net under an original name that no port has
record WireNetAt (table : List (List ℕ)) (N : NetlistView) (m : Module) (net number : ℕ) : Type 0 where
  named : NamedNet
  bit : Bit (declared_nets m) net named
  wire : WireAt m bit.d bit.declaration
  name : slice_get table number ≡ Some bit.declaration.name

wire_net_at : (table : List (List ℕ)) (N : NetlistView) (m : Module) (net number : ℕ) → Denotes table N m → IsWireNet N net (Original number) → WireNetAt table N m net number
wire_net_at table N m net number d w =
    let n = net_in table N m net w.view d w.there in
    let found : dir_at (nets_in (declared_nets m)) net ≡ n.named.dir = rw n.there refl in
    let none : n.named.dir ≡ None = sym found ∙ sym (direction_is table N m net d.is) ∙ w.outside in
    let declared : n.bit.declaration.dir ≡ None = ap (λ (x : NamedNet). x.dir) (sym n.bit.is) ∙ none in
    let name : name_bytes table (Original number) ≡ Some n.bit.declaration.name =
    ap (name_bytes table) (sym w.named) ∙ n.is.name ∙ ap (λ (x : NamedNet). Some x.name) n.bit.is in
    record { named = n.named; bit = n.bit; wire = wire_at m n.bit.d n.bit.declaration n.bit.there declared; name = name }

wire_name_of : (table : List (List ℕ)) (N : NetlistView) (m : Module) (net number : ℕ) → Denotes table N m → (w : WireNetAt table N m net number)
    → (slice_get (names_of m) w.bit.d ≡ Some w.bit.declaration.name) × (length m.ports ≤ w.bit.d) × (w.bit.d < length m.ports + length m.wires)
wire_name_of table N m net number d w =
    let at = wire_name_at m w.wire.w w.wire.wire w.wire.there in
    let place : w.bit.d ≡ length m.ports + w.wire.w = w.wire.place in
    let less : w.wire.w < length m.wires = at.0 in
    (ap (slice_get (names_of m)) place ∙ at.1 ∙ ap (λ (x : NetDeclaration). Some x.name) (sym w.wire.is), omega arith, omega arith)

-- nets under one name are of one declaration
same_declaration : (table : List (List ℕ)) (N : NetlistView) (m : Module) (net other number : ℕ) → Denotes table N m → (w : WireNetAt table N m net number) → (v : WireNetAt table N m other number)
    → w.bit.d ≡ v.bit.d
same_declaration table N m net other number d w v =
    let one = wire_name_of table N m net number d w in
    let two = wire_name_of table N m other number d v in
    let same : Some v.bit.declaration.name ≡ Some w.bit.declaration.name = sym v.name ∙ w.name in
    once_names table N m d w.bit.d v.bit.d w.bit.declaration.name one.0 (two.0 ∙ same)

short_range : (range : Option tree.Range) → IfSome range IsTreeRange → IfSome (option_map range_of range) IsShortRange
short_range None is = tt
short_range (Some range) is = record { left = is.left; right = is.right }

wire_of : (table : List (List ℕ)) (N : NetlistView) (m : Module) (net number : ℕ) → IsTree m → Denotes table N m → IsWireNet N net (Original number) → IsWireName N number
wire_of table N m net number tree d is =
    let w = wire_net_at table N m net number d is in
    let nets = declared_nets m in
    let declaration = w.bit.declaration in
    let first = start nets w.bit.d in
    let width_is = width_of_is declaration.range in
    let at : (place : ℕ) → place < width_of (option_map range_of declaration.range) → slice_get (nets_in nets) (first + place) ≡ Some (net_at declaration place) =
    λ place less. bit_of nets w.bit.d declaration place w.bit.there (rw (sym width_is) less) in
    record {
      first = first;
      range = option_map range_of declaration.range;
      wire = record {
        bits = λ place less.
            bit_view table N m (first + place) declaration place (Original number) d (at place less) w.name
            ∙ ap (λ i. Some (record { name = Original number; index = i })) (sym (index_from_is declaration.range place));
        outside = λ place less.
            direction_is table N m (first + place) d.is ∙ rw (at place less) (ap (λ (x : NetDeclaration). x.dir) w.wire.is);
        only = λ other named.
            let v = wire_net_at table N m other number d named in
            let same = same_declaration table N m net other number d w v in
            let here : slice_get nets w.bit.d ≡ Some v.bit.declaration = ap (slice_get nets) same ∙ v.bit.there in
            let one : declaration ≡ v.bit.declaration = same_Some declaration v.bit.declaration (sym w.bit.there ∙ here) in
            let place : other ≡ first + v.bit.bit = v.bit.at ∙ ap (λ k. start nets k + v.bit.bit) (sym same) in
            let less : v.bit.bit < width declaration.range = rw one v.bit.within in
            let wide : width_of (option_map range_of declaration.range) ≡ width declaration.range = width_is in
            (omega arith, omega arith);
        short = short_range declaration.range (rw w.wire.is (all_at (λ (x : Wire). IsTreeWire x) m.wires w.wire.w w.wire.wire tree.wires w.wire.there).range);
      };
    }

-- Cells.

kind_unnamed : (library : List ListedCell) (kind : Kind) → cell_name library kind ≡ None → IsSome (cell_name library kind) → ⊥
kind_unnamed library kind none some = let no : IsSome {T = List ℕ} None = rw none at some in cc

some_name : (table : List (List ℕ)) (mine : Option Name) (bytes : List ℕ) → IsName table mine (Some bytes) → IsSome mine
some_name table None bytes is = absurd is
some_name table (Some name) bytes is = refl

no_name : (table : List (List ℕ)) (mine : Option Name) → IsName table mine None → mine ≡ None
no_name table None is = refl
no_name table (Some name) is = absurd is

named_cell : (table : List (List ℕ)) (library : List ListedCell) (m : Module) (cell : CellView) (x : Item) → IsCell table cell (cell_of library (declared_names m) x) → IsSome (cell_name library cell.kind) → IsSome cell.name
named_cell table library m cell (item.Gate g) is named =
    absurd (kind_unnamed library (kind_of_gate g.kind) (gate_unnamed library g.kind) (rw (sym is.kind) named))
named_cell table library m cell (item.Instance i) is named = some_name table cell.name i.name is.name
named_cell table library m cell (item.Assign output input) is named = let no : IsSome {T = List ℕ} None = rw is.kind at named in absurd (cc)

instance_no_assign : (library : List ListedCell) (name : List ℕ) (o : Option Kind) → kind_named library name ≡ o → unwrap_or o kind.Buf ≡ kind.Assign → ⊥
instance_no_assign library name None e is = cc
instance_no_assign library name (Some k) e is =
    let some = library_kind library name k e in
    let no : IsSome {T = List ℕ} None = rw is at some in cc

assign_cell : (table : List (List ℕ)) (library : List ListedCell) (m : Module) (cell : CellView) (x : Item) → IsCell table cell (cell_of library (declared_names m) x) → cell.kind ≡ kind.Assign → cell.name ≡ None
assign_cell table library m cell (item.Gate g) is assign = absurd (gate_no_assign g.kind (sym is.kind ∙ assign))
assign_cell table library m cell (item.Instance i) is assign = absurd (instance_no_assign library i.cell (kind_named library i.cell) refl (sym is.kind ∙ assign))
assign_cell table library m cell (item.Assign output input) is assign = no_name table cell.name is.name

connected_instance : (library : List ListedCell) (i : Instance) (o : Option Kind) → kind_named library i.cell ≡ o → cell_unknown library (item.Instance i) ≡ None → cell_name library (unwrap_or o kind.Buf) ≡ None → ⊥
connected_instance library i None e known none = let no : Some (fault.CellUnknown i.cell) ≡ None = rw e at known in cc
connected_instance library i (Some k) e known none = kind_unnamed library k none (library_kind library i.cell k e)

connected_cell : (table : List (List ℕ)) (library : List ListedCell) (m : Module) (cell : CellView) (x : Item) → IsCell table cell (cell_of library (declared_names m) x) → cell_unknown library x ≡ None
    → cell_name library cell.kind ≡ None → IsSome cell.output
connected_cell table library m cell (item.Gate g) is known none = rw is.output refl
connected_cell table library m cell (item.Instance i) is known none =
    absurd (connected_instance library i (kind_named library i.cell) refl known (ap (cell_name library) (sym is.kind) ∙ none))
connected_cell table library m cell (item.Assign output input) is known none = rw is.output refl

port_bit_view : (table : List (List ℕ)) (N : NetlistView) (m : Module) (p bit : ℕ) (view : PortView) (net : NetId) (t : PortAt table m p view) → Denotes table N m
    → slice_get N.ports p ≡ Some view → slice_get view.nets bit ≡ Some net → slice_get N.nets net.0 ≡ Some (record { name = view.name; index = index_from view.range bit })
port_bit_view table N m p bit view net t d at bit_at =
    let b = port_bit table 0 N.ports m.ports p bit view net d.is.ports at bit_at in
    let ports : List NetDeclaration = map port_nets m.ports in
    let joined : nets_in (declared_nets m) ≡ nets_in ports ++ nets_in (map wire_nets m.wires) = flat_map-append bits_of ports (map wire_nets m.wires) in
    let same : b.port ≡ t.port = same_Some b.port t.port (sym b.there ∙ t.there) in
    let number : net.0 ≡ b.k = b.number ∙ zero-add b.k in
    let here : slice_get (nets_in (declared_nets m)) net.0 ≡ Some (net_at (port_nets t.port) bit) =
    ap (λ nets. slice_get nets net.0) joined ∙ ap (slice_get (nets_in ports ++ nets_in (map wire_nets m.wires))) number
    ∙ slice_get-append_left (nets_in ports) (nets_in (map wire_nets m.wires)) b.k (slice_get_within (nets_in ports) b.k (net_at (port_nets b.port) bit) b.at) ∙ b.at
    ∙ ap (λ (x : Port). Some (net_at (port_nets x) bit)) same in
    bit_view table N m net.0 (port_nets t.port) bit view.name d here t.name
    ∙ ap (λ i. Some (record { name = view.name; index = i })) (sym (index_from_is t.port.range bit) ∙ ap (λ r. index_from r bit) (sym t.range))

-- the netlist of a module without faults of its text
pub well_named : (table : List (List ℕ)) (N : NetlistView) (m : Module) → IsTree m → text_fault N.library m ≡ None → Denotes table N m → IsWellNamed table N
well_named table N m tree text d =
    let names_once = once_names table N m d in
    let port : (p : ℕ) (view : PortView) → slice_get N.ports p ≡ Some view → PortAt table m p view = λ p view at. port_at table N m p view d at in
    let cell : (i : ℕ) (view : CellView) → cell_at N i ≡ Some view → CellAt table N.library m i view = λ i view at. cell_in table N m i view d at in
    record {
      library = d.library;
      once = d.once;
      spelled = λ number name at. spelled_names m number name tree (ap (λ (names : List (List ℕ)). slice_get names number) (sym d.names) ∙ at);
      net_names = λ net view at. let n = net_in table N m net view d at in known table view.name n.named.name n.is.name;
      cell_names = λ i view name at named. let b = cell_bytes table N.library m i view name (cell i view at) named in known table name b.0 b.2;
      port_names = λ p view at.
          let t = port p view at in
          let h = has_bytes table view.name t.port.name t.name in
          (h.number, h.original, slice_get_within table h.number t.port.name h.at);
      port_ranges = λ p view at.
          let t = port p view at in
          rw t.range (short_range t.port.range (all_at (λ (x : Port). IsTreePort x) m.ports p t.port tree.ports t.there).range);
      port_bits = λ p bit view net at bit_at.
          let t = port p view at in
          port_bit_view table N m p bit view net t d at bit_at;
      wires = λ net number is. wire_of table N m net number tree d is;
      added = λ net number view at is.
          let n = net_in table N m net view d at in
          absurd (let no : name_bytes table (Added number) ≡ Some n.named.name = ap (name_bytes table) (sym is) ∙ n.is.name in cc);
      ports_apart = λ p q one other at there same.
          let t = port p one at in
          let u = port q other there in
          let bytes : Some u.port.name ≡ Some t.port.name = sym u.name ∙ ap (name_bytes table) (sym same) ∙ t.name in
          names_once p q t.port.name (port_name_at m p t.port t.there).1 ((port_name_at m q u.port u.there).1 ∙ bytes);
      cells_apart = λ i j number one other at there named also.
          let c = cell i one at in
          let e = cell j other there in
          let b = cell_bytes table N.library m i one (Original number) c named in
          let f = cell_bytes table N.library m j other (Original number) e also in
          let bytes : Some f.0 ≡ Some b.0 = sym f.2 ∙ b.2 in
          items_apart m.items i j c.item e.item b.0 (once_right (map (λ (x : Port). x.name) m.ports ++ map (λ (w : Wire). w.name) m.wires) (filter_map item_name m.items) names_once)
          c.there e.there b.1 (f.1 ∙ bytes);
      port_or_cell = λ p i view one at there named.
          let t = port p view at in
          let c = cell i one there in
          let b = cell_bytes table N.library m i one view.name c named in
          let place = port_name_at m p t.port t.there in
          let r = item_name_at m i c.item b.0 c.there b.1 in
          let bytes : Some b.0 ≡ Some t.port.name = sym b.2 ∙ t.name in
          let less : p < length m.ports = place.0 in
          let same : p ≡ length m.ports + length m.wires + r.0 = names_once p (length m.ports + length m.wires + r.0) t.port.name place.1 (r.1 ∙ bytes) in
          omega arith;
      port_or_wire = λ p net view at is.
          let t = port p view at in
          let h = has_bytes table view.name t.port.name t.name in
          let wire : IsWireNet N net (Original h.number) = record { view = is.view; there = is.there; outside = is.outside; named = is.named ∙ h.original } in
          let w = wire_net_at table N m net h.number d wire in
          let n = wire_name_of table N m net h.number d w in
          let place = port_name_at m p t.port t.there in
          let bytes : Some w.bit.declaration.name ≡ Some t.port.name = sym w.name ∙ h.at in
          let less : p < length m.ports = place.0 in
          let low : length m.ports ≤ w.bit.d = n.1 in
          let same : p ≡ w.bit.d = names_once p w.bit.d t.port.name place.1 (n.0 ∙ bytes) in
          omega arith;
      cell_or_wire = λ i net number one at named is.
          let c = cell i one at in
          let b = cell_bytes table N.library m i one (Original number) c named in
          let w = wire_net_at table N m net number d is in
          let n = wire_name_of table N m net number d w in
          let r = item_name_at m i c.item b.0 c.there b.1 in
          let bytes : Some w.bit.declaration.name ≡ Some b.0 = sym w.name ∙ b.2 in
          let high : w.bit.d < length m.ports + length m.wires = n.2 in
          let same : length m.ports + length m.wires + r.0 ≡ w.bit.d = names_once (length m.ports + length m.wires + r.0) w.bit.d b.0 r.1 (n.0 ∙ bytes) in
          omega arith;
      library_named = λ i one at library. let c = cell i one at in named_cell table N.library m one c.item c.is library;
      assign_unnamed = λ i one at assign. let c = cell i one at in assign_cell table N.library m one c.item c.is assign;
      connected = λ i one at none. let c = cell i one at in connected_cell table N.library m one c.item c.is (known_cells N.library m text i c.item c.there) none;
    }
