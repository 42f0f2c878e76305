-- The tree of a linked netlist denotes it with new numbers.
use Rattle.std.proofs.Common.{◌≡◌, ℕ, suc, ◌+◌, ◌<◌, List, [], ◌∷◌, ◌++◌, length, map, refl, ap, sym, ◌∙◌, subst, Option, Some, None, arith, cond, length-append}
use Rattle.std.specs.Prelude.{slice_get, count_by}
use Rattle.std.specs.Option.{is_some, option_map}
use Rattle.std.proofs.lemmas.List.{length-map}
use Rattle.std.proofs.lemmas.List.Sums.{sum_by-cons}
use Rattle.std.proofs.lemmas.Option.{slice_get-map, slice_get_within}
use Rattle.list_laws.proofs.Lists.{slice_get-append_left, slice_get-append_right}
use Rattle.list_laws.proofs.Options.{none_along}
use Rattle.verilog_tree.specs.declared.tree.Bit.{Bit}
use Rattle.verilog_tree.specs.declared.tree.Item.{Item}
use Rattle.verilog_tree.specs.declared.tree.Module.{Module}
use Rattle.netlist_model.specs.declared.NetId.{NetId}
use Rattle.netlist_model.specs.declared.Range.{Range}
use Rattle.netlist_model.specs.declared.What.TheVariants as what
use Rattle.netlist_model.specs.Lists.{CellView, NetlistView, PortView, cell_at, cell_count}
use Rattle.link_model.specs.declared.fault.LinkFault.{LinkFault}
use Rattle.link_model.specs.declared.fault.LinkFault.TheVariants as fault
use Rattle.link_model.specs.Lists.{first_in, or_else}
use Rattle.link_model.specs.Nets.{Declared, NamedNet, dir_of as net_dir_of, bits_in, counted_from, declared_names, declared_nets, port_nets, width}
use Rattle.link_model.specs.Cells.{cell_of}
use Rattle.link_model.specs.Denoted as link
use Rattle.link_model.specs.Denoted.{NamedNetlist, NamedPort, denoted, net_id, ports_from}
use Rattle.link_model.specs.Faults.{at_bit, at_instance, bit_faults, bit_outside, cell_unknown, first_bit, gate_operands, instance_faults, item_bits, item_width, names_of, name_twice, name_unknown, port_missing, port_twice, port_unknown, text_fault, too_many, too_many_in}
use Rattle.netlist_link.proofs.link_names.NetCounts.{length-nets_in}
use Rattle.netlist_link.specs.Linked.{LinkedView}
use Rattle.netlist_unlink.specs.Trees.{Naming, bit_of, dir_of, item_of, items_from, naming_of, port_of, port_text, range_of, tree_of}
use Rattle.netlist_unlink.specs.Renumbered.{added_test, named_net, net_order, new_cell, new_net, new_port, numbers_from, passed_limit, place_of, port_numbers, renumbered, wire_test}
use Rattle.netlist_unlink.proofs.Apart.{none_repeated}
use Rattle.netlist_unlink.proofs.Bits.{bit_found, each_once, order_once}
use Rattle.netlist_unlink.proofs.Keys.{CanName, names_apart}
use Rattle.netlist_unlink.proofs.Members.{map_counted, place_found}
use Rattle.netlist_unlink.proofs.Nets.{PortFits, dir_is, nets_are, port_bits, port_fits}
use Rattle.netlist_unlink.proofs.NewCells.{NamesNets, cell_is, cells_are}
use Rattle.netlist_unlink.proofs.NoFaults.{AreNarrow, HasNoItemFault, bits_of_item, item_fits, none_of_items}
use Rattle.netlist_unlink.proofs.NetOrder.{net_number}

-- Ports.

range_back : (range : Option Range) → option_map link.range_of (option_map range_of range) ≡ range
range_back None = refl
range_back (Some range) = refl

pub same_port : (a b : NamedPort) → a.name ≡ b.name → a.dir ≡ b.dir → a.range ≡ b.range → a.nets ≡ b.nets → a ≡ b
same_port a b n d r s =
    ap (λ x. record { name = x; dir = a.dir; range = a.range; nets = a.nets }) n ∙ ap (λ x. record { name = b.name; dir = x; range = a.range; nets = a.nets }) d
    ∙ ap (λ x. record { name = b.name; dir = b.dir; range = x; nets = a.nets }) r ∙ ap (λ x. record { name = b.name; dir = b.dir; range = b.range; nets = x }) s

-- the nets of ports have the numbers from this one on
ports_are : (table : List (List ℕ)) (prefix : List ℕ) (N : NetlistView) (order : List ℕ) (first : ℕ) (ports : List PortView)
    → ((p : ℕ) (port : PortView) → slice_get ports p ≡ Some port → PortFits table prefix N port)
    → ((k net : ℕ) → slice_get (port_numbers ports) k ≡ Some net → place_of order net ≡ first + k)
    → ports_from first (map (port_of table) ports) ≡ map (new_port table order) ports
ports_are table prefix N order first [] fits places = refl
ports_are table prefix N order first (port ∷ ports) fits places =
    let many = (fits 0 port refl).many in
    let mine : List ℕ = map net_number port.nets in
    let count = length-map port.nets net_number in
    let counted : map net_id (counted_from first (length port.nets)) ≡ map (new_net order) port.nets =
    map_counted net_id (new_net order) first port.nets (λ k net at.
    let less = slice_get_within port.nets k net at in
    let here : slice_get mine k ≡ Some net.0 = slice_get-map net_number port.nets k ∙ ap (option_map net_number) at in
    ap net_id (sym (places k net.0 (slice_get-append_left mine (port_numbers ports) k (omega arith) ∙ here)))) in
    let nets : map net_id (counted_from first (width (option_map range_of port.range))) ≡ map (new_net order) port.nets = ap (λ (n : ℕ). map net_id (counted_from first n)) (sym many) ∙ counted in
    let here = same_port (record { name = port_text table port.name; dir = net_dir_of (dir_of port.dir); range = option_map link.range_of (option_map range_of port.range); nets = map net_id (counted_from first (width (option_map range_of port.range))) })
    (new_port table order port) refl (dir_is port.dir) (range_back port.range) nets in
    let rest = ports_are table prefix N order (first + width (option_map range_of port.range)) ports (λ p other at. fits (suc p) other at)
    (λ k net at. places (length mine + k) net (slice_get-append_right mine (port_numbers ports) (length mine + k) k refl ∙ at) ∙ omega arith) in
    ap (λ (p : NamedPort). p ∷ ports_from (first + width (option_map range_of port.range)) (map (port_of table) ports)) here ∙ ap (λ (ps : List NamedPort). new_port table order port ∷ ps) rest

-- The whole netlist.

pub same_netlist : (a b : NamedNetlist) → a.ports ≡ b.ports → a.nets ≡ b.nets → a.cells ≡ b.cells → a ≡ b
same_netlist a b p n c =
    ap (λ x. record { ports = x; nets = a.nets; cells = a.cells }) p ∙ ap (λ x. record { ports = b.ports; nets = x; cells = a.cells }) n ∙ ap (λ x. record { ports = b.ports; nets = b.nets; cells = x }) c

names_nets : (linked : LinkedView) (prefix : List ℕ) → CanName linked prefix
    → NamesNets linked.arena.lists (naming_of linked prefix) (net_order linked.arena.lists) (declared_names (tree_of linked prefix))
names_nets linked prefix w net less = (bit_found linked prefix net w less).is

-- a net of a port has its place among the nets of ports
port_place : (linked : LinkedView) (prefix : List ℕ) (k net : ℕ) → CanName linked prefix → slice_get (port_numbers linked.arena.lists.ports) k ≡ Some net → place_of (net_order linked.arena.lists) net ≡ 0 + k
port_place linked prefix k net w at =
    let N : NetlistView = linked.arena.lists in
    let ports : List ℕ = port_numbers N.ports in
    let wires : List ℕ = numbers_from (wire_test N.ports) 0 N.nets in
    let added : List ℕ = numbers_from added_test 0 N.nets in
    let less = slice_get_within ports k net at in
    let here : slice_get (net_order N) k ≡ Some net = slice_get-append_left (ports ++ wires) added k (omega (arith, length-append ports wires)) ∙ slice_get-append_left ports wires k less ∙ at in
    order_once linked prefix (place_of (net_order N) net) k net w (place_found (net_order N) k net here) here ∙ omega arith

pub denotes : (linked : LinkedView) (prefix : List ℕ) → CanName linked prefix → denoted linked.arena.lists.library (tree_of linked prefix) ≡ renumbered (naming_of linked prefix) linked.arena.lists
denotes linked prefix w =
    let N : NetlistView = linked.arena.lists in
    let naming : Naming = naming_of linked prefix in
    let order : List ℕ = net_order N in
    let names : List (List ℕ × Declared) = declared_names (tree_of linked prefix) in
    same_netlist (denoted N.library (tree_of linked prefix)) (renumbered naming N)
    (ports_are linked.names prefix N order 0 N.ports (λ p port at. port_fits linked.names prefix N p port w.are at) (λ k net at. port_place linked prefix k net w at))
    (nets_are linked prefix w.are)
    (cells_are N naming order names 0 N.cells (λ k cell at.
    let zeroth : k ≡ 0 + k = omega arith in
    let P : ℕ → Type 0 = λ n. cell_of N.library names (item_of naming n cell) ≡ new_cell naming order n cell in
    subst P zeroth (cell_is N naming order names k cell refl w.are (names_nets linked prefix w) at)))

-- Faults of the text.

-- a fault that no item has
none_of_tree : (linked : LinkedView) (prefix : List ℕ) (test : Item → Option LinkFault)
    → ((i : ℕ) (cell : CellView) → cell_at linked.arena.lists i ≡ Some cell → test (item_of (naming_of linked prefix) i cell) ≡ None) → first_in test (tree_of linked prefix).items ≡ None
none_of_tree linked prefix test each =
    none_of_items test (naming_of linked prefix) 0 linked.arena.lists.cells (λ k cell at.
    let zeroth : k ≡ 0 + k = omega arith in
    let P : ℕ → Type 0 = λ n. test (item_of (naming_of linked prefix) n cell) ≡ None in
    subst P zeroth (each k cell at))

-- a fault that no bit of a net has
none_of_bits : (linked : LinkedView) (prefix : List ℕ) (test : Bit → Option Declared → Option LinkFault) → CanName linked prefix
    → ((net : NetId) → net.0 < length linked.arena.lists.nets → at_bit test (declared_names (tree_of linked prefix)) (bit_of (naming_of linked prefix) net) ≡ None) → first_bit test (tree_of linked prefix) ≡ None
none_of_bits linked prefix test w each =
    let names : List (List ℕ × Declared) = declared_names (tree_of linked prefix) in
    none_of_tree linked prefix (λ i. first_in (at_bit test names) (item_bits i)) (λ i cell at.
    none_along (at_bit test names) (item_bits (item_of (naming_of linked prefix) i cell))
    (bits_of_item linked.arena.lists (naming_of linked prefix) (λ (bit : Bit). at_bit test names bit ≡ None) i cell refl w.are each at))

first_none : {X : Type 0} (a b : Option X) → a ≡ None → or_else a b ≡ b
first_none a b e = rw e refl

last_none : {X : Type 0} (a b : Option X) → b ≡ None → or_else a b ≡ a
last_none None b e = e
last_none (Some x) b e = refl

live-cons : (p : Option CellView) (ps : List (Option CellView)) → count_by is_some (p ∷ ps) ≡ cond (is_some p) 1 0 + count_by is_some ps
live-cons p ps = sum_by-cons (λ (x : Option CellView). cond (is_some x) 1 0) p ps

-- how many items there are
pub items_count : (naming : Naming) (number : ℕ) (cells : List (Option CellView)) → length (items_from naming number cells) ≡ count_by is_some cells
items_count naming number [] = refl
items_count naming number (None ∷ cells) = let rest = items_count naming (number + 1) cells in let here = live-cons None cells in rest ∙ omega arith
items_count naming number (Some cell ∷ cells) = let rest = items_count naming (number + 1) cells in let here = live-cons (Some cell) cells in ap suc rest ∙ omega arith

limits_are : (linked : LinkedView) (prefix : List ℕ) → CanName linked prefix → first_in (λ (i : Item). too_many what.Operands 256 (gate_operands i)) (tree_of linked prefix).items ≡ None
    → too_many_in (tree_of linked prefix) ≡ passed_limit linked.arena.lists
limits_are linked prefix w none =
    let N : NetlistView = linked.arena.lists in
    let tree : Module = tree_of linked prefix in
    let named : ℕ → NamedNet = named_net (naming_of linked prefix) N.ports in
    let cells : length tree.items ≡ cell_count N = items_count (naming_of linked prefix) 0 N.cells in
    let nets : bits_in (declared_nets tree) ≡ length N.nets =
    sym (length-nets_in (declared_nets tree)) ∙ ap (λ (xs : List NamedNet). length xs) (nets_are linked prefix w.are) ∙ length-map (net_order N) named ∙ (each_once linked prefix w).many in
    let ports : bits_in (map port_nets tree.ports) ≡ length (port_numbers N.ports) =
    sym (length-nets_in (map port_nets tree.ports))
    ∙ ap (λ (xs : List NamedNet). length xs) (port_bits linked.names prefix N N.ports (λ p port at. port_fits linked.names prefix N p port w.are at)) ∙ length-map (port_numbers N.ports) named in
    let operands : Option LinkFault = first_in (λ (i : Item). too_many what.Operands 256 (gate_operands i)) tree.items in
    let last : or_else (too_many what.Ports 4096 (bits_in (map port_nets tree.ports))) operands ≡ too_many what.Ports 4096 (length (port_numbers N.ports)) =
    last_none (too_many what.Ports 4096 (bits_in (map port_nets tree.ports))) operands none ∙ ap (too_many what.Ports 4096) ports in
    ap (λ (o : Option LinkFault). or_else (too_many what.Cells 262144 (length tree.items)) (or_else (too_many what.Nets 524288 (bits_in (declared_nets tree))) o)) last
    ∙ ap (λ (n : ℕ). or_else (too_many what.Cells 262144 (length tree.items)) (or_else (too_many what.Nets 524288 n) (too_many what.Ports 4096 (length (port_numbers N.ports))))) nets
    ∙ ap (λ (n : ℕ). or_else (too_many what.Cells 262144 n) (or_else (too_many what.Nets 524288 (length N.nets)) (too_many what.Ports 4096 (length (port_numbers N.ports))))) cells

pub text_is : (linked : LinkedView) (prefix : List ℕ) → CanName linked prefix → text_fault linked.arena.lists.library (tree_of linked prefix) ≡ passed_limit linked.arena.lists
text_is linked prefix w =
    let N : NetlistView = linked.arena.lists in
    let naming : Naming = naming_of linked prefix in
    let tree : Module = tree_of linked prefix in
    let names : List (List ℕ × Declared) = declared_names tree in
    let narrow : AreNarrow N naming names = λ net less. (bit_found linked prefix net w less).narrow in
    let fits : (i : ℕ) (cell : CellView) → cell_at N i ≡ Some cell → HasNoItemFault N.library names (item_of naming i cell) = λ i cell at. item_fits N naming names i cell refl w.are narrow at in
    let twice : name_twice tree ≡ None = ap (option_map fault.NameTwice) (none_repeated (names_of tree) (names_apart linked prefix w)) in
    let unknown : first_bit name_unknown tree ≡ None = none_of_bits linked prefix name_unknown w (λ net less. (bit_found linked prefix net w less).known) in
    let outside : first_bit bit_outside tree ≡ None = none_of_bits linked prefix bit_outside w (λ net less. (bit_found linked prefix net w less).inside) in
    let cells : first_in (cell_unknown N.library) tree.items ≡ None = none_of_tree linked prefix (cell_unknown N.library) (λ i cell at. (fits i cell at).cell) in
    let ports : first_in (at_instance N.library (port_unknown N.library)) tree.items ≡ None = none_of_tree linked prefix (at_instance N.library (port_unknown N.library)) (λ i cell at. (fits i cell at).unknown) in
    let missing : first_in (at_instance N.library (port_missing N.library)) tree.items ≡ None = none_of_tree linked prefix (at_instance N.library (port_missing N.library)) (λ i cell at. (fits i cell at).missing) in
    let again : first_in (at_instance N.library port_twice) tree.items ≡ None = none_of_tree linked prefix (at_instance N.library port_twice) (λ i cell at. (fits i cell at).twice) in
    let widths : first_in (item_width N.library names) tree.items ≡ None = none_of_tree linked prefix (item_width N.library names) (λ i cell at. (fits i cell at).width) in
    let operands = none_of_tree linked prefix (λ (i : Item). too_many what.Operands 256 (gate_operands i)) (λ i cell at. (fits i cell at).operands) in
    let bits : bit_faults tree ≡ None = first_none (first_bit name_unknown tree) (first_bit bit_outside tree) unknown ∙ outside in
    let three : or_else (first_in (at_instance N.library (port_missing N.library)) tree.items) (first_in (at_instance N.library port_twice) tree.items) ≡ None =
    first_none (first_in (at_instance N.library (port_missing N.library)) tree.items) (first_in (at_instance N.library port_twice) tree.items) missing ∙ again in
    let two : or_else (first_in (at_instance N.library (port_unknown N.library)) tree.items) (or_else (first_in (at_instance N.library (port_missing N.library)) tree.items) (first_in (at_instance N.library port_twice) tree.items)) ≡ None =
    first_none (first_in (at_instance N.library (port_unknown N.library)) tree.items) (or_else (first_in (at_instance N.library (port_missing N.library)) tree.items) (first_in (at_instance N.library port_twice) tree.items)) ports ∙ three in
    let instances : instance_faults N.library tree ≡ None =
    first_none (first_in (cell_unknown N.library) tree.items) (or_else (first_in (at_instance N.library (port_unknown N.library)) tree.items) (or_else (first_in (at_instance N.library (port_missing N.library)) tree.items) (first_in (at_instance N.library port_twice) tree.items))) cells ∙ two in
    let rest : or_else (name_twice tree) (or_else (bit_faults tree) (or_else (instance_faults N.library tree) (first_in (item_width N.library names) tree.items))) ≡ None =
    first_none (name_twice tree) (or_else (bit_faults tree) (or_else (instance_faults N.library tree) (first_in (item_width N.library names) tree.items))) twice
    ∙ first_none (bit_faults tree) (or_else (instance_faults N.library tree) (first_in (item_width N.library names) tree.items)) bits
    ∙ first_none (instance_faults N.library tree) (first_in (item_width N.library names) tree.items) instances ∙ widths in
    last_none (too_many_in tree) (or_else (name_twice tree) (or_else (bit_faults tree) (or_else (instance_faults N.library tree) (first_in (item_width N.library names) tree.items)))) rest ∙ limits_are linked prefix w operands
