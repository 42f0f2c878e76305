-- The written module that the canonical text spells: an ansi header, and each wire and item of its own.
use Rattle.std.proofs.Common.{◌≡◌, ◌<◌, List, [], ◌∷◌, ◌++◌, length, map, filter, Bool, true, false, Some, refl, sym, ap, ◌∙◌, arith}
use Rattle.std.specs.Prelude.{not}
use Rattle.std.specs.Bool.{IsFalse}
use Rattle.std.specs.List.{flat_map, list_all, AllByRecursion}
use Rattle.std.proofs.lemmas.List.{append-nil}
use Rattle.std.proofs.lemmas.List.Concat.{flat_map-append}
use Rattle.std.proofs.lemmas.Bool.{and_from}
use Rattle.verilog_tree.specs.declared.tree.Operand.{Operand}
use Rattle.verilog_tree.specs.declared.tree.Operand.TheVariants as operand
use Rattle.verilog_tree.specs.declared.tree.Port.{Port}
use Rattle.verilog_tree.specs.declared.tree.Wire.{Wire}
use Rattle.verilog_tree.specs.declared.tree.Gate.{Gate}
use Rattle.verilog_tree.specs.declared.tree.Item.{Item}
use Rattle.verilog_tree.specs.declared.tree.Item.TheVariants as item
use Rattle.verilog_tree.specs.declared.tree.Module.{Module}
use Rattle.verilog_tree.specs.Sources.{DeclarationHead, PortSource, Header, empty, ansi, GateSource, ItemSource, wires, assigns, gates, instances, Source}
use Rattle.verilog_tree.specs.Trees.{ports_after, declared_by, declarations, header_ports, header_names, takes_inputs, gate_inputs, item_fits, IsSource, is_port_net, item_wires, item_items, ports_of, tree_of}
use Rattle.verilog_tree.specs.IsTree.{IsTreeItem, IsTree}

abbrev pub head_of : Port → DeclarationHead
head_of port = record { dir = port.dir; wire = false; range = port.range }

abbrev pub port_source : Port → PortSource
port_source port = record { head = Some (head_of port); name = port.name }

abbrev pub header_of : List Port → Header
header_of [] = empty
header_of (port ∷ ports) = ansi (head_of port) port.name (map port_source ports)

abbrev pub wire_source : Wire → ItemSource
wire_source wire = wires wire.range wire.name []

-- the first input; a gate of a tree has one
abbrev pub first_of : List Operand → Operand
first_of [] = operand.Const false
first_of (x ∷ xs) = x

abbrev pub others_of : List Operand → List Operand
others_of [] = []
others_of (x ∷ xs) = xs

abbrev pub gate_source : Gate → GateSource
gate_source gate = record { name = gate.name; output = gate.output; first = first_of gate.inputs; more = others_of gate.inputs }

abbrev pub item_source : Item → ItemSource
item_source (item.Gate gate) = gates gate.kind (gate_source gate) []
item_source (item.Instance instance) = instances instance.cell (record { name = instance.name; links = instance.links }) []
item_source (item.Assign output input) = assigns (record { output = output; input = input }) []

abbrev pub item_sources : List Wire → List Item → List ItemSource
item_sources ws is = map wire_source ws ++ map item_source is

abbrev pub written : Module → Source
written tree = record { name = tree.name; header = header_of tree.ports; items = item_sources tree.wires tree.items }

-- Its ports.

ports_after-port_source : (head : DeclarationHead) (ports : List Port) → ports_after head (map port_source ports) ≡ ports
ports_after-port_source head [] = refl
ports_after-port_source head (port ∷ ports) = ap (λ (l : List Port). port ∷ l) (ports_after-port_source (head_of port) ports)

header_ports-header_of : (ports declared : List Port) → header_ports (header_of ports) declared ≡ ports
header_ports-header_of [] declared = refl
header_ports-header_of (port ∷ ports) declared = ap (λ (l : List Port). port ∷ l) (ports_after-port_source (head_of port) ports)

header_names-header_of : (ports : List Port) → header_names (header_of ports) ≡ []
header_names-header_of [] = refl
header_names-header_of (port ∷ ports) = refl

-- Its items.

pub first_and_others : (inputs : List Operand) → 0 < length inputs → first_of inputs ∷ others_of inputs ≡ inputs
first_and_others [] reads = absurd (omega arith)
first_and_others (x ∷ xs) reads = refl

item_items-item_source : (i : Item) → IsTreeItem i → item_items (item_source i) ≡ i ∷ []
item_items-item_source (item.Gate gate) is = ap (λ (inputs : List Operand). item.Gate (record { kind = gate.kind; name = gate.name; output = gate.output; inputs = inputs }) ∷ []) (first_and_others gate.inputs is.reads)
item_items-item_source (item.Instance instance) is = refl
item_items-item_source (item.Assign output input) is = refl

items_of_wires : (ws : List Wire) → flat_map item_items (map wire_source ws) ≡ []
items_of_wires [] = refl
items_of_wires (w ∷ ws) = items_of_wires ws

items_of_items : (is : List Item) → AllByRecursion IsTreeItem is → flat_map item_items (map item_source is) ≡ is
items_of_items [] all = refl
items_of_items (i ∷ is) all =
    ap (λ (l : List Item). l ++ flat_map item_items (map item_source is)) (item_items-item_source i all.0)
    ∙ ap (λ (l : List Item). i ∷ l) (items_of_items is all.1)

items_of_sources : (ws : List Wire) (is : List Item) → AllByRecursion IsTreeItem is → flat_map item_items (item_sources ws is) ≡ is
items_of_sources ws is all =
    flat_map-append item_items (map wire_source ws) (map item_source is)
    ∙ ap (λ (l : List Item). l ++ flat_map item_items (map item_source is)) (items_of_wires ws)
    ∙ items_of_items is all

-- Its wires.

wires_of_wires : (ws : List Wire) → flat_map item_wires (map wire_source ws) ≡ ws
wires_of_wires [] = refl
wires_of_wires (w ∷ ws) = ap (λ (l : List Wire). w ∷ l) (wires_of_wires ws)

item_wires-item_source : (i : Item) → item_wires (item_source i) ≡ []
item_wires-item_source (item.Gate gate) = refl
item_wires-item_source (item.Instance instance) = refl
item_wires-item_source (item.Assign output input) = refl

wires_of_items : (is : List Item) → flat_map item_wires (map item_source is) ≡ []
wires_of_items [] = refl
wires_of_items (i ∷ is) =
    ap (λ (l : List Wire). l ++ flat_map item_wires (map item_source is)) (item_wires-item_source i)
    ∙ wires_of_items is

wires_of_sources : (ws : List Wire) (is : List Item) → flat_map item_wires (item_sources ws is) ≡ ws
wires_of_sources ws is =
    flat_map-append item_wires (map wire_source ws) (map item_source is)
    ∙ ap (λ (l : List Wire). flat_map item_wires (map wire_source ws) ++ l) (wires_of_items is)
    ∙ append-nil (flat_map item_wires (map wire_source ws))
    ∙ wires_of_wires ws

filter-none : {A : Type 0} (p : A → Bool) (xs : List A) → AllByRecursion (λ x. IsFalse (p x)) xs → filter (λ x. not (p x)) xs ≡ xs
filter-none p [] all = refl
filter-none {A} p (x ∷ xs) all = grind (arith, all.0, filter-none p xs all.1)

-- It has no direction items.

declared_by-item_source : (i : Item) → declared_by (item_source i) ≡ []
declared_by-item_source (item.Gate gate) = refl
declared_by-item_source (item.Instance instance) = refl
declared_by-item_source (item.Assign output input) = refl

declared_by_items : (is : List Item) → flat_map declared_by (map item_source is) ≡ []
declared_by_items [] = refl
declared_by_items (i ∷ is) =
    ap (λ (l : List Port). l ++ flat_map declared_by (map item_source is)) (declared_by-item_source i)
    ∙ declared_by_items is

declared_by_sources : (ws : List Wire) (is : List Item) → flat_map declared_by (item_sources ws is) ≡ []
declared_by_sources [] is = declared_by_items is
declared_by_sources (w ∷ ws) is = declared_by_sources ws is

-- Each item fits.

item_fits-item_source : (i : Item) → IsTreeItem i → item_fits (item_source i) ≡ true
item_fits-item_source (item.Gate gate) is =
    and_from (takes_inputs gate.kind (length (gate_inputs (gate_source gate)))) true (ap (λ (inputs : List Operand). takes_inputs gate.kind (length inputs)) (first_and_others gate.inputs is.reads) ∙ is.takes) refl
item_fits-item_source (item.Instance instance) is = refl
item_fits-item_source (item.Assign output input) is = refl

items_fit : (ws : List Wire) (is : List Item) → AllByRecursion IsTreeItem is → list_all item_fits (item_sources ws is) ≡ true
items_fit [] [] all = refl
items_fit [] (i ∷ is) all = and_from (item_fits (item_source i)) (list_all item_fits (map item_source is)) (item_fits-item_source i all.0) (items_fit [] is all.1)
items_fit (w ∷ ws) is all = items_fit ws is all

pub written_keeps_rules : (tree : Module) → IsTree tree → IsSource (written tree)
written_keeps_rules tree is = record {
  fits = items_fit tree.wires tree.items is.items;
  declares = rw (header_names-header_of tree.ports, declared_by_sources tree.wires tree.items) refl;
  complete = rw (header_names-header_of tree.ports) refl;
}

pub tree_of-written : (tree : Module) → IsTree tree → tree ≡ tree_of (written tree)
tree_of-written tree is =
    let ports : ports_of (written tree) ≡ tree.ports = header_ports-header_of tree.ports (declarations (written tree)) in
    let nets : filter (λ wire. not (is_port_net (ports_of (written tree)) wire)) (flat_map item_wires (item_sources tree.wires tree.items)) ≡ tree.wires =
    ap (λ (l : List Wire). filter (λ wire. not (is_port_net (ports_of (written tree)) wire)) l) (wires_of_sources tree.wires tree.items)
    ∙ ap (λ (l : List Port). filter (λ wire. not (is_port_net l wire)) tree.wires) ports
    ∙ filter-none (is_port_net tree.ports) tree.wires is.own_nets in
    sym (ap (λ (l : List Port). let t : Module = record { name = tree.name; ports = l; wires = filter (λ wire. not (is_port_net (ports_of (written tree)) wire)) (flat_map item_wires (item_sources tree.wires tree.items)); items = flat_map item_items (item_sources tree.wires tree.items) } in t) ports
    ∙ ap (λ (l : List Wire). let t : Module = record { name = tree.name; ports = tree.ports; wires = l; items = flat_map item_items (item_sources tree.wires tree.items) } in t) nets
    ∙ ap (λ (l : List Item). let t : Module = record { name = tree.name; ports = tree.ports; wires = tree.wires; items = l } in t) (items_of_sources tree.wires tree.items is.items))
