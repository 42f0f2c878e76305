-- All of it: the items regrouped, and what each part tells.
use Rattle.std.proofs.Common.{◌≡◌, ℕ, ◌+◌, true, List, [], ◌∷◌, ◌++◌, map, reverse, length, drop, refl, sym, ◌∙◌, ap, Some, arith, append_assoc}
use Rattle.std.specs.Fmt.{decimal}
use Rattle.std.proofs.lemmas.List.{reverse-append, length-reverse}
use Rattle.std.proofs.Math.Seq.{drop-append_seam}
use Rattle.list_laws.proofs.Lists.{begins_joined}
use Rattle.netlist_model.specs.Lists.{CellView, NetlistView, cell_count}
use Rattle.netlist_link.specs.Linked.{LinkedView}
use Rattle.verilog_tree.specs.declared.tree.Item.{Item}
use Rattle.register_gates.specs.Tdo.{tdo_given, tdo_driver}
use Rattle.register_gates.specs.declared.tdo.TheConstants.{TDO}
use Rattle.gate_parts.specs.Parts.{part_cells}
use Rattle.plan_fitting.specs.declared.fitted.Fitted.{Fitted}
use Rattle.plan_fitting.specs.Devices.{cell_row}
use Rattle.netlist_unlink.specs.Trees.{Naming, added, item_of, items_from, naming_of, tree_of}
use Rattle.stitched_netlist.specs.declared.model.TapNames.{TapNames}
use Rattle.stitched_netlist.specs.declared.model.TapPort.{TapPort}
use Rattle.stitched_netlist.specs.Sites.{Boundary}
use Rattle.stitched_netlist.specs.Sides.{core_cell}
use Rattle.stitched_netlist.specs.ModelLogic.{logic_size, logic_cells, tap_at, instruction_at, bypass_at, ident_at}
use Rattle.stitched_netlist.specs.ModelRows.{nets_of_rows}
use Rattle.stitched_netlist.specs.Stitched.{live_cells, boundary_at, first_net, tap_port, tap_ports, rows_part, tdo_part, boundary_last, test_logic_cells}
use Rattle.strip_model.specs.Sides.{sides_in, sides}
use Rattle.strip_model.specs.Core.{is_added, before_added, core_item, core_module}
use Rattle.strip_model.specs.Prefix.{prefix_of}
use Rattle.strip_model.specs.Pairs.{pairs_of}
use Rattle.strip_model.proofs.Walk.{items_joined, items_counted, chain_read}
use Rattle.strip_model.specs.NetlistsTold.{CanBeTold, with_logic, inserted_tree, told_sides, IsTold}
use Rattle.strip_model.proofs.NetlistsCells.{core_told, core_first, prefix_told}
use Rattle.strip_model.proofs.NetlistsWhole.{wider_own}
use Rattle.strip_model.proofs.Final.{net_between, are_nets, all_told, ports_told, all_wires}

-- The first item behind the core is an added one.

pub record BeginsAdded (naming : Naming) (items : List Item) : Type 0 where
  pub first : Item
  pub more : List Item
  pub is : items ≡ first ∷ more
  pub added : is_added naming.prefix first ≡ true

logic_first : (naming : Naming) (n : ℕ) (B : Boundary) (first number : ℕ) (port : TapPort) (f : Fitted) → BeginsAdded naming (items_from naming n (map Some (test_logic_cells B first number port f)))
logic_first naming n B first number port f = record { first = _; more = _; is = refl; added = begins_joined naming.prefix (99 ∷ decimal n) }

-- The parts.

abbrev front_part : LinkedView → Fitted → List CellView
front_part L f = map (core_cell (boundary_at L.arena.lists f)) (live_cells L.arena.lists)
    ++ logic_cells (first_net L.arena.lists f) (cell_count L.arena.lists) (tap_port (length L.arena.lists.nets)) f

-- TDO's gates but the driver
abbrev tdo_gates : Boundary → ℕ → TapPort → Fitted → ℕ → List CellView
tdo_gates B first port f number =
    part_cells TDO (tdo_given (tap_at first port) (instruction_at first port f) (bypass_at first f) (ident_at first port f) (boundary_last B first port f))
    (first + logic_size f + nets_of_rows B.ports B.rows) number

abbrev driver_of_tdo : Boundary → ℕ → TapPort → Fitted → ℕ → CellView
driver_of_tdo B first port f number = tdo_driver (first + logic_size f + nets_of_rows B.ports B.rows) port.tdo (number + 6)

assoc_four : (a b c d : List CellView) → a ++ ((b ++ c) ++ d) ≡ ((a ++ b) ++ c) ++ d
assoc_four a b c d = sym (append_assoc a (b ++ c) d) ∙ ap (λ (xs : List CellView). xs ++ d) (sym (append_assoc a b c))

assoc_last : (a b c : List CellView) (d : CellView) → a ++ (b ++ (c ++ d ∷ [])) ≡ (a ++ (b ++ c)) ++ d ∷ []
assoc_last a b c d = ap (λ (xs : List CellView). a ++ xs) (sym (append_assoc b c (d ∷ []))) ∙ sym (append_assoc a (b ++ c) (d ∷ []))

-- All of it.

pub is_told : (L : LinkedView) (table : List (List ℕ)) (names : TapNames) (f : Fitted) (prefix : List ℕ) → CanBeTold L table names f prefix → IsTold L table names f prefix
is_told L table names f prefix can = record { prefix_is = prefix_is; sides_are = sides_are; core_is = core_is }
  where
    N : NetlistView
    N = L.arena.lists

    B : Boundary
    B = boundary_at N f

    naming : Naming
    naming = naming_of (with_logic L table names f) prefix

    port : TapPort
    port = tap_port (length N.nets)

    core : List CellView
    core = map (core_cell B) (live_cells N)

    logic : List CellView
    logic = logic_cells (first_net N f) (cell_count N) port f

    register : List CellView
    register = rows_part B (first_net N f) port f (cell_count N + length logic)

    last_part : List CellView
    last_part = tdo_part B (first_net N f) port f (cell_count N + length (logic ++ register))

    all : List CellView
    all = core ++ ((logic ++ register) ++ last_part)

    items : List Item
    items = items_from naming 0 (map Some all)

    -- the nets between

    front_items : List Item
    front_items = items_from naming 0 (map Some (core ++ logic))

    register_items : List Item
    register_items = items_from naming (0 + length (core ++ logic)) (map Some register)

    last_items : List Item
    last_items = items_from naming (0 + length ((core ++ logic) ++ register)) (map Some last_part)

    split : items ≡ (front_items ++ register_items) ++ last_items
    split =
        ap (λ (cells : List CellView). items_from naming 0 (map Some cells)) (assoc_four core logic register last_part)
        ∙ items_joined naming 0 ((core ++ logic) ++ register) last_part
        ∙ ap (λ (front : List Item). front ++ last_items) (items_joined naming 0 (core ++ logic) register)

    seven : length (reverse last_items) ≡ 7
    seven = length-reverse last_items ∙ items_counted naming (0 + length ((core ++ logic) ++ register)) last_part

    left : drop 7 (reverse items) ≡ reverse register_items ++ reverse front_items
    left =
        ap (λ (xs : List Item). drop 7 (reverse xs)) split
        ∙ ap (drop 7) (reverse-append (front_items ++ register_items) last_items)
        ∙ ap (λ (n : ℕ). drop n (reverse last_items ++ reverse (front_items ++ register_items))) (sym seven)
        ∙ drop-append_seam (reverse last_items) (reverse (front_items ++ register_items))
        ∙ reverse-append front_items register_items

    sides_are : sides (map (cell_row f) f.rows) items ≡ Some (told_sides L table names f prefix)
    sides_are =
        ap (sides_in (map (cell_row f) f.rows)) left
        ∙ chain_read naming B f (instruction_at (first_net N f) port f).scan (first_net N f + logic_size f) (cell_count N + length logic) (0 + length (core ++ logic)) B.first port.tdi f.rows
        (reverse front_items) (λ net low high. net_between N names f net low high)

    -- the prefix

    gates : List CellView
    gates = tdo_gates B (first_net N f) port f (cell_count N + length (logic ++ register))

    driver : CellView
    driver = driver_of_tdo B (first_net N f) port f (cell_count N + length (logic ++ register))

    before : List CellView
    before = core ++ ((logic ++ register) ++ gates)

    whole : items ≡ items_from naming 0 (map Some before) ++ item_of naming (0 + length before) driver ∷ []
    whole = ap (λ (cells : List CellView). items_from naming 0 (map Some cells)) (assoc_last core (logic ++ register) gates driver) ∙ items_joined naming 0 before (driver ∷ [])

    prefix_is : prefix_of items ≡ Some prefix
    prefix_is =
        let count : 0 + length before ≡ length (items_from naming 0 (map Some before)) = omega (arith, items_counted naming 0 before) in
        ap prefix_of whole
        ∙ prefix_told naming (items_from naming 0 (map Some before)) (item_of naming (0 + length before) driver) (ap (λ (n : ℕ). Some (added prefix 99 n)) count)

    -- the core

    core_items : before_added prefix items ≡ items_from naming 0 (map Some core)
    core_items =
        let next : List Item = items_from naming (0 + length core) (map Some (test_logic_cells B (first_net N f) (cell_count N) port f)) in
        let begins = logic_first naming (0 + length core) B (first_net N f) (cell_count N) port f in
        ap (before_added prefix) (items_joined naming 0 core (test_logic_cells B (first_net N f) (cell_count N) port f) ∙ ap (λ (more : List Item). items_from naming 0 (map Some core) ++ more) begins.is)
        ∙ core_first naming B 0 N.cells begins.first begins.more can.filled (λ i cell name at e. wider_own L.names table prefix can.kept name (can.cells i cell name at e)) begins.added

    items_told : map (core_item (told_sides L table names f prefix)) (before_added prefix items) ≡ items_from (naming_of L prefix) 0 N.cells
    items_told =
        ap (map (core_item (told_sides L table names f prefix))) core_items
        ∙ core_told naming (naming_of L prefix) (pairs_of B) (are_nets L table names f prefix can) B 0 0 N.cells (all_told L table names f prefix can)

    core_is : core_module prefix (told_sides L table names f prefix) (inserted_tree L table names f prefix) ≡ tree_of L prefix
    core_is =
        let ports = ports_told L table names f prefix can (tap_ports names port) refl in
        let wires = all_wires L table names f prefix can port in
        rw (ports, wires, items_told) refl
