-- The modules of a hierarchy keep the conditions of trees, and so what its entries are made of does.
use Rattle.std.proofs.Common.{◌≡◌, ℕ, ◌+◌, ◌-◌, ◌<◌, Bool, true, false, cond, nat_le, List, [], ◌∷◌, ◌++◌, map, find, zero, suc, Option, Some, None, IfSome, refl, arith, leb-true}
use Rattle.std.specs.List.{flat_map, AllByRecursion}
use Rattle.std.specs.Map.{lookup}
use Rattle.std.specs.Option.{option_map, option_map_or, option_and_then}
use Rattle.std.specs.Str.{bytes_eq}
use Rattle.list_laws.proofs.Lists.{all_append}
use Rattle.verilog_tree.specs.declared.tree.Dir.{Dir}
use Rattle.verilog_tree.specs.declared.tree.Range.{Range}
use Rattle.verilog_tree.specs.declared.tree.Bit.{Bit}
use Rattle.verilog_tree.specs.declared.tree.Operand.{Operand}
use Rattle.verilog_tree.specs.declared.tree.Operand.TheVariants as operand
use Rattle.verilog_tree.specs.declared.tree.Link.{Link}
use Rattle.verilog_tree.specs.declared.tree.Port.{Port}
use Rattle.verilog_tree.specs.declared.tree.Wire.{Wire}
use Rattle.verilog_tree.specs.declared.tree.Instance.{Instance}
use Rattle.verilog_tree.specs.declared.tree.Item.{Item}
use Rattle.verilog_tree.specs.declared.tree.Item.TheVariants as item
use Rattle.verilog_tree.specs.declared.tree.Module.{Module}
use Rattle.verilog_tree.specs.IsTree.{IsVisible, IsTreeName, IsTreeNumber, IsTreeRange, IsTreeBit, IsTreeOperand, IsTreePort, IsTreeWire, IsTreeLink, IsTreeInstance, IsTreeItem, IsTree}
use Rattle.link_model.specs.Nets.{Declared, NetDeclaration, port_nets, wire_nets, width, counted_from, index_at, declared_nets, declared_names, declared_as, names_from}
use Rattle.link_model.specs.Cells.{linked_operand}
use Rattle.hier_model.specs.Visits.{Turn, keeps, opens, closes, Visit, visit, module_named, opened_by, item_visits, visits}
use Rattle.hier_model.specs.Entries.{Place, place, inner_place, turn_places, Entry, stays, carries, visit_entries, turn_entries, links_in, inwards, outwards, bits_of, spread, spread_net, is_in, is_out}
use Rattle.hier_laws.proofs.OwnLinks.{counted_below}
use Rattle.hier_laws.proofs.SolutionsPlaces.{made, opened_in}

-- Occurrences.

abbrev pub IsPath : List (List ℕ) → Type 0
IsPath at = AllByRecursion (λ (name : List ℕ). AllByRecursion IsVisible name) at

path_more : (at : List (List ℕ)) (name : List ℕ) → IsPath at → IsTreeName name → IsPath (at ++ name ∷ [])
path_more at name p t = all_append (λ (n : List ℕ). AllByRecursion IsVisible n) at (name ∷ []) p (t.visible, tt)

-- Visits.

abbrev pub TurnTree : Turn → Type 0
TurnTree (keeps i) = IsTreeItem i
TurnTree (opens i c) = IsTreeInstance i × IsTree c
TurnTree (closes i c) = IsTreeInstance i × IsTree c

abbrev pub VisitTree : Visit → Type 0
VisitTree v = IsPath v.at × (IsTree v.within × TurnTree v.turn)

pub named_tree : (modules : List Module) (name : List ℕ) → AllByRecursion IsTree modules → IfSome (module_named modules name) IsTree
named_tree [] name ts = tt
named_tree (m ∷ ms) name ts = go (bytes_eq name m.name) (named_tree ms name ts.1)
  where
    go : (b : Bool) → IfSome (find (λ (x : Module). bytes_eq name x.name) ms) IsTree → IfSome (cond b (Some m) (find (λ (x : Module). bytes_eq name x.name) ms)) IsTree
    go true rest = ts.0
    go false rest = rest

abbrev OpenedTree : Option (Instance × Module) → Type 0
OpenedTree o = IfSome o (λ (p : Instance × Module). IsTreeInstance p.0 × IsTree p.1)

opened_tree : (modules : List Module) (i : Item) → AllByRecursion IsTree modules → IsTreeItem i → OpenedTree (opened_by modules i)
opened_tree modules (item.Gate g) ts t = tt
opened_tree modules (item.Instance i) ts t = go (module_named modules i.cell) (named_tree modules i.cell ts)
  where
    go : (o : Option Module) → IfSome o IsTree → OpenedTree (option_map (λ child. (i, child)) o)
    go None e = tt
    go (Some c) e = (t, e)
opened_tree modules (item.Assign output input) ts t = tt

abbrev Under : (List (List ℕ) → Module → List Visit) → Type 0
Under below = (a : List (List ℕ)) (c : Module) → IsPath a → IsTree c → AllByRecursion VisitTree (below a c)

made_tree : (below : List (List ℕ) → Module → List Visit) (at : List (List ℕ)) (m : Module) (i : Item) (o : Option (Instance × Module)) → IsPath at → IsTree m → IsTreeItem i → OpenedTree o → Under below
    → AllByRecursion VisitTree (made below at m i o)
made_tree below at m i None p t x opened under = ((p, (t, x)), tt)
made_tree below at m i (Some (j, c)) p t x opened under =
    ((p, (t, opened)), all_append VisitTree (below (at ++ j.name ∷ []) c) (visit at m (closes j c) ∷ []) (under (at ++ j.name ∷ []) c (path_more at j.name p opened.0.name) opened.1) ((p, (t, opened)), tt))

items_tree : (below : List (List ℕ) → Module → List Visit) (modules : List Module) (at : List (List ℕ)) (m : Module) (is : List Item) → AllByRecursion IsTree modules → IsPath at → IsTree m → AllByRecursion IsTreeItem is → Under below
    → AllByRecursion VisitTree (flat_map (item_visits below modules at m) is)
items_tree below modules at m [] ts p t all under = tt
items_tree below modules at m (i ∷ is) ts p t all under =
    all_append VisitTree (item_visits below modules at m i) (flat_map (item_visits below modules at m) is)
    (made_tree below at m i (opened_by modules i) p t all.0 (opened_tree modules i ts all.0) under) (items_tree below modules at m is ts p t all.1 under)

pub visits_tree : (levels : ℕ) (modules : List Module) (at : List (List ℕ)) (m : Module) → AllByRecursion IsTree modules → IsPath at → IsTree m → AllByRecursion VisitTree (visits levels modules at m)
visits_tree zero modules at m ts p t = tt
visits_tree (suc levels) modules at m ts p t = items_tree (λ a c. visits levels modules a c) modules at m m.items ts p t t.items (λ a c q s. visits_tree levels modules a c ts q s)

-- Places.

abbrev pub PlaceTree : Place → Type 0
PlaceTree p = IsPath p.at × IsTree p.here

pub places_tree : (vs : List Visit) → AllByRecursion VisitTree vs → AllByRecursion PlaceTree (opened_in vs)
places_tree [] h = tt
places_tree (v ∷ vs) h = all_append PlaceTree (turn_places v.at v.turn) (opened_in vs) (go v.turn h.0.1.1) (places_tree vs h.1)
  where
    go : (t : Turn) → TurnTree t → AllByRecursion PlaceTree (turn_places v.at t)
    go (keeps i) e = tt
    go (opens i c) e = ((path_more v.at i.name h.0.0 e.0.name, e.1), tt)
    go (closes i c) e = tt

-- Bits of whole nets.

index_small : (range : Option Range) (k : ℕ) → k < width range → IfSome range IsTreeRange → IfSome (index_at range k) IsTreeNumber
index_small None k less t = tt
index_small (Some r) k less t = by (nat_le r.left r.right) refl
  where
    by : (b : Bool) → nat_le r.left r.right ≡ b → IsTreeNumber (cond b (r.left + k) (r.left - k))
    by true e = let low = leb-true r.left r.right e in let high = t.right in omega (arith, low, high, less)
    by false e = let high = t.left in omega (arith, high)

bits_tree : (name : List ℕ) (range : Option Range) → IsTreeName name → IfSome range IsTreeRange → AllByRecursion IsTreeBit (bits_of name range)
bits_tree name range n t = go (counted_from 0 (width range)) (counted_below 0 (width range) (width range) (omega arith))
  where
    go : (ks : List ℕ) → AllByRecursion (λ (k : ℕ). k < width range) ks → AllByRecursion IsTreeBit (map (λ k. record { net = name; index = index_at range k }) ks)
    go [] h = tt
    go (k ∷ ks) h = (record { net = n; index = index_small range k h.0 t }, go ks h.1)

abbrev RangeTree : NetDeclaration → Type 0
RangeTree n = IfSome n.range IsTreeRange

ports_ranges : (ports : List Port) → AllByRecursion IsTreePort ports → AllByRecursion RangeTree (map port_nets ports)
ports_ranges [] t = tt
ports_ranges (p ∷ ports) t = (t.0.range, ports_ranges ports t.1)

wires_ranges : (wires : List Wire) → AllByRecursion IsTreeWire wires → AllByRecursion RangeTree (map wire_nets wires)
wires_ranges [] t = tt
wires_ranges (w ∷ wires) t = (t.0.range, wires_ranges wires t.1)

abbrev DeclaredTree : Option Declared → Type 0
DeclaredTree o = IfSome o (λ (d : Declared). IfSome d.range IsTreeRange)

look_tree : (first : ℕ) (nets : List NetDeclaration) (name : List ℕ) → AllByRecursion RangeTree nets → DeclaredTree (declared_as (names_from first nets) name)
look_tree first [] name t = tt
look_tree first (n ∷ nets) name t = go (bytes_eq name n.name) (look_tree (first + width n.range) nets name t.1)
  where
    go : (b : Bool) → DeclaredTree (lookup (bytes_eq name) (names_from (first + width n.range) nets)) → DeclaredTree (cond b (Some (record { first = first; range = n.range })) (lookup (bytes_eq name) (names_from (first + width n.range) nets)))
    go true rest = t.0
    go false rest = rest

declared_tree : (m : Module) (name : List ℕ) → IsTree m → DeclaredTree (declared_as (declared_names m) name)
declared_tree m name t = look_tree 0 (declared_nets m) name (all_append RangeTree (map port_nets m.ports) (map wire_nets m.wires) (ports_ranges m.ports t.ports) (wires_ranges m.wires t.wires))

spread_tree : (m : Module) (o : Operand) → IsTree m → IsTreeOperand o → AllByRecursion IsTreeOperand (spread m o)
spread_tree m (operand.Const value) t e = (tt, tt)
spread_tree m (operand.Bit b) t e = go b.index (declared_as (declared_names m) b.net) (declared_tree m b.net t)
  where
    wires_of : (bs : List Bit) → AllByRecursion IsTreeBit bs → AllByRecursion IsTreeOperand (map (λ c. operand.Bit c) bs)
    wires_of [] h = tt
    wires_of (x ∷ bs) h = (h.0, wires_of bs h.1)

    go : (index : Option ℕ) (d : Option Declared) → DeclaredTree d → AllByRecursion IsTreeOperand (option_map_or (λ i. operand.Bit b ∷ []) index (spread_net b d))
    go (Some i) d h = (e, tt)
    go None None h = (e, tt)
    go None (Some d) h = wires_of (bits_of b.net d.range) (bits_tree b.net d.range e.net h)

-- Entries.

abbrev pub EntryTree : Entry → Type 0
EntryTree (stays p i) = IsPath p.at × IsTreeItem i
EntryTree (carries p b q o) = (IsPath p.at × IsTreeBit b) × (IsPath q.at × IsTreeOperand o)

inwards_tree : (outer inner : Place) (bs : List Bit) (os : List Operand) → IsPath outer.at → IsPath inner.at → AllByRecursion IsTreeBit bs → AllByRecursion IsTreeOperand os → AllByRecursion EntryTree (inwards outer inner bs os)
inwards_tree outer inner [] os p q a b = tt
inwards_tree outer inner (x ∷ bs) [] p q a b = tt
inwards_tree outer inner (x ∷ bs) (o ∷ os) p q a b = (((q, a.0), (p, b.0)), inwards_tree outer inner bs os p q a.1 b.1)

outwards_tree : (outer inner : Place) (bs : List Bit) (os : List Operand) → IsPath outer.at → IsPath inner.at → AllByRecursion IsTreeBit bs → AllByRecursion IsTreeOperand os → AllByRecursion EntryTree (outwards outer inner bs os)
outwards_tree outer inner [] os p q a b = tt
outwards_tree outer inner (x ∷ bs) [] p q a b = tt
outwards_tree outer inner (x ∷ bs) (operand.Bit c ∷ os) p q a b = (((p, b.0), (q, a.0)), outwards_tree outer inner bs os p q a.1 b.1)
outwards_tree outer inner (x ∷ bs) (operand.Const v ∷ os) p q a b = outwards_tree outer inner bs os p q a.1 b.1

linked_tree : (links : List Link) (port : List ℕ) → AllByRecursion IsTreeLink links → IfSome (linked_operand links port) IsTreeOperand
linked_tree [] port t = tt
linked_tree (l ∷ links) port t = go (bytes_eq l.port port) (linked_tree links port t.1)
  where
    go : (b : Bool) → IfSome (linked_operand links port) IsTreeOperand → IfSome (option_and_then (λ (k : Link). k.operand) (cond b (Some l) (find (λ (k : Link). bytes_eq k.port port) links))) IsTreeOperand
    go true rest = t.0.operand
    go false rest = rest

links_tree : (test : Dir → Bool) (join : List Bit → List Operand → List Entry) (m : Module) (i : Instance) (ports : List Port)
    → ((bs : List Bit) (os : List Operand) → AllByRecursion IsTreeBit bs → AllByRecursion IsTreeOperand os → AllByRecursion EntryTree (join bs os))
    → IsTree m → IsTreeInstance i → AllByRecursion IsTreePort ports → AllByRecursion EntryTree (links_in test join m i ports)
links_tree test join m i [] each t x ps = tt
links_tree test join m i (p ∷ ports) each t x ps = all_append EntryTree _ (links_in test join m i ports) (go (test p.dir) (linked_operand i.links p.name) (linked_tree i.links p.name x.links)) (links_tree test join m i ports each t x ps.1)
  where
    go : (b : Bool) (o : Option Operand) → IfSome o IsTreeOperand → AllByRecursion EntryTree (cond b (option_map_or (λ y. join (bits_of p.name p.range) (spread m y)) o []) [])
    go false o e = tt
    go true None e = tt
    go true (Some o) e = each (bits_of p.name p.range) (spread m o) (bits_tree p.name p.range ps.0.name ps.0.range) (spread_tree m o t e)

turn_tree : (at : List (List ℕ)) (m : Module) (t : Turn) → IsPath at → IsTree m → TurnTree t → AllByRecursion EntryTree (turn_entries at m t)
turn_tree at m (keeps i) p t x = ((p, x), tt)
turn_tree at m (opens i c) p t x =
    links_tree is_in (inwards (place at m) (inner_place at i c)) m i c.ports (λ bs os a b. inwards_tree (place at m) (inner_place at i c) bs os p (path_more at i.name p x.0.name) a b) t x.0 x.1.ports
turn_tree at m (closes i c) p t x =
    links_tree is_out (outwards (place at m) (inner_place at i c)) m i c.ports (λ bs os a b. outwards_tree (place at m) (inner_place at i c) bs os p (path_more at i.name p x.0.name) a b) t x.0 x.1.ports

pub entries_tree : (vs : List Visit) → AllByRecursion VisitTree vs → AllByRecursion EntryTree (flat_map visit_entries vs)
entries_tree [] h = tt
entries_tree (v ∷ vs) h = all_append EntryTree (visit_entries v) (flat_map visit_entries vs) (turn_tree v.at v.within v.turn h.0.0 h.0.1.0 h.0.1.1) (entries_tree vs h.1)
