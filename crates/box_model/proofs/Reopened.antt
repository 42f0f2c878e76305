-- Opening a closed module gives it back, where it is in shape.
use Rattle.std.proofs.Common.{◌≡◌, ℕ, ◌+◌, ◌≤◌, Bool, true, false, not, cond, ◌&&◌, ◌||◌, List, [], ◌∷◌, ◌++◌, map, take, drop, Option, Some, None, refl, sym, ap, subst, ◌∙◌, arith, append-nil}
use Rattle.std.specs.Prelude.{filter}
use Rattle.std.specs.List.{AllByRecursion, flat_map, filter_map, list_any}
use Rattle.std.specs.Option.{option_map_or}
use Rattle.std.specs.Str.{bytes_eq}
use Rattle.std.proofs.lemmas.List.Elements.{filter-append}
use Rattle.std.proofs.lemmas.Slice.Eq.{bytes_eq-Decides}
use Rattle.list_laws.proofs.Bytes.{bytes_eq-same}
use Rattle.list_laws.proofs.Lists.{all_append, none_passes}
use Rattle.list_laws.proofs.Tests.{or_more, neither}
use Rattle.verilog_tree.specs.declared.tree.Bit.{Bit}
use Rattle.verilog_tree.specs.declared.tree.Operand.{Operand}
use Rattle.verilog_tree.specs.declared.tree.Gate.{Gate}
use Rattle.verilog_tree.specs.declared.tree.Port.{Port}
use Rattle.verilog_tree.specs.declared.tree.Wire.{Wire}
use Rattle.verilog_tree.specs.declared.tree.Instance.{Instance}
use Rattle.verilog_tree.specs.declared.tree.Item.{Item}
use Rattle.verilog_tree.specs.declared.tree.Item.TheVariants as item
use Rattle.verilog_tree.specs.declared.tree.Module.{Module}
use Rattle.box_model.specs.declared.boxes.BoxLibrary.{BoxLibrary}
use Rattle.box_model.specs.declared.boxes.BoxPort.{BoxPort}
use Rattle.box_model.specs.Ports.{cut_ports, hidden_name, linked_to}
use Rattle.box_model.specs.Opened.{is_joined, opened_item, item_ports, hidden_at, joins_port, joins_item, is_kept_wire}
use Rattle.box_model.specs.Closed.{whole_net, present_at, item_present, own_ports, added_wires, closed_items, closed}
use Rattle.box_model.specs.Laws.{IsInShape, OpenedIsBack}
use Rattle.box_model.proofs.Counting.{all_to, all_both, times, each_there}
use Rattle.box_model.proofs.Between.{filter_all}
use Rattle.box_model.proofs.Returned.{all_unmapped}
use Rattle.box_model.proofs.Assigns.{IsAssign, assigns_add}
use Rattle.box_model.proofs.Items.{opened_none, closed_none}
use Rattle.box_model.proofs.Whole.{added_none, added_some}
use Rattle.box_model.proofs.Ways.{Way, Linked, Wired, way_port, collect, ways, closing_ways}
use Rattle.box_model.proofs.WaysItems.{way_items, ways_are_assigns, is_there, ways_ports}
use Rattle.box_model.proofs.WaysLinks.{way_name, way_operand, way_link, closed_as, IsLaid, IsFine, way_linked, absent_linked, instance_opened, ports_present, ways_to}
use Rattle.box_model.proofs.Pieces.{taken, closed_cut, piece, AllTails, tails_of, tails_both, by_pieces, of_ways}
use Rattle.box_model.proofs.Lost.{wired_names, linked_names}
use Rattle.box_model.proofs.Told.{wire_name}
use Rattle.box_model.proofs.Shape.{counted_of, LaidAt, all_laid, WayIsTold, AtCut, AreFine, all_fine}

-- an instance's ways are fine, and it is laid
abbrev pub IsReady : BoxLibrary → Module → Item → List Item → Type 0
IsReady B m x rest = LaidAt B m x × AtCut (AreFine B m) B m x rest

pub all_ready : (B : BoxLibrary) (k : ℕ) (m : Module) → IsInShape B k m → AllTails (IsReady B m) m.items
all_ready B k m shape = tails_both (λ x rest. LaidAt B m x) (AtCut (AreFine B m) B m) m.items (tails_of (LaidAt B m) m.items (all_laid B m (counted_of B k m shape) shape.bare)) (all_fine B k m shape)

-- Items.

abbrev ItemsBack : BoxLibrary → Module → List Item → Type 0
ItemsBack B m items = flat_map (opened_item B (closed B m)) (closed_items B m 0 items) ≡ items

items_back : (B : BoxLibrary) (m : Module) (items : List Item) → AllTails (IsReady B m) items → ItemsBack B m items
items_back B m items all = by_pieces B m (IsReady B m) (ItemsBack B m) (record { none = refl; gate = gate; assign = assign; plain = plain; cut = cut }) items all
  where
    gate : (g : Gate) (xs : List Item) → ItemsBack B m xs → ItemsBack B m (item.Gate g ∷ xs)
    gate g xs rest = ap (λ (ys : List Item). item.Gate g ∷ ys) rest

    assign : (output : Bit) (input : Operand) (xs : List Item) → ItemsBack B m xs → ItemsBack B m (item.Assign output input ∷ xs)
    assign output input xs rest = ap (λ (ys : List Item). item.Assign output input ∷ ys) rest

    plain : (i : Instance) (xs : List Item) → cut_ports B i ≡ None → ItemsBack B m xs → ItemsBack B m (item.Instance i ∷ xs)
    plain i xs e rest =
        ap (flat_map (opened_item B (closed B m))) (closed_none B m i xs e)
        ∙ ap (λ (ys : List Item). ys ++ flat_map (opened_item B (closed B m)) (closed_items B m 0 xs)) (opened_none B (closed B m) i e)
        ∙ ap (λ (ys : List Item). item.Instance i ∷ ys) rest

    cut : (i : Instance) (ports : List BoxPort) (xs : List Item) → cut_ports B i ≡ Some ports → IsReady B m (item.Instance i) xs → ItemsBack B m (drop (taken m i ports xs) xs) → ItemsBack B m (item.Instance i ∷ xs)
    cut i ports xs e ready rest =
        let ws = ways m i false ports xs in
        let left = drop (taken m i ports xs) xs in
        let fine = ready.1 ports e in
        ap (flat_map (opened_item B (closed B m))) (closed_cut B m i ports xs e)
        ∙ ap (λ (ys : List Item). ys ++ flat_map (opened_item B (closed B m)) (closed_items B m 0 left)) (instance_opened B m (closed B m) i ports xs e (ready.0 ports e) fine.fine)
        ∙ ap (λ (ys : List Item). item.Instance i ∷ (flat_map (way_items i) ws ++ ys)) rest
        ∙ ap (λ (ys : List Item). item.Instance i ∷ ys) (piece B m i ports xs e)

-- Hidden ports.

skipped_present : (B : BoxLibrary) (m : Module) (xs rest : List Item) → AllByRecursion IsAssign xs → flat_map (item_present B m) (xs ++ rest) ≡ flat_map (item_present B m) rest
skipped_present B m [] rest all = refl
skipped_present B m (item.Assign output input ∷ xs) rest all = skipped_present B m xs rest all.1
skipped_present B m (item.Gate g ∷ xs) rest all = absurd all.0
skipped_present B m (item.Instance i ∷ xs) rest all = absurd all.0

abbrev PortsBack : BoxLibrary → Module → List Item → Type 0
PortsBack B m items = flat_map (item_ports B) (closed_items B m 0 items) ≡ flat_map (item_present B m) items

ports_back : (B : BoxLibrary) (m : Module) (items : List Item) → AllTails (IsReady B m) items → PortsBack B m items
ports_back B m items all = by_pieces B m (IsReady B m) (PortsBack B m) (record { none = refl; gate = λ g xs rest. rest; assign = λ output input xs rest. rest; plain = plain; cut = cut }) items all
  where
    plain : (i : Instance) (xs : List Item) → cut_ports B i ≡ None → PortsBack B m xs → PortsBack B m (item.Instance i ∷ xs)
    plain i xs e rest =
        ap (flat_map (item_ports B)) (closed_none B m i xs e)
        ∙ ap (λ (o : Option (List BoxPort)). option_map_or (filter_map (hidden_at i)) o [] ++ flat_map (item_ports B) (closed_items B m 0 xs)) e
        ∙ rest
        ∙ ap (λ (o : Option (List BoxPort)). option_map_or (present_at m i) o [] ++ flat_map (item_present B m) xs) (sym e)

    cut : (i : Instance) (ports : List BoxPort) (xs : List Item) → cut_ports B i ≡ Some ports → IsReady B m (item.Instance i) xs → PortsBack B m (drop (taken m i ports xs) xs) → PortsBack B m (item.Instance i ∷ xs)
    cut i ports xs e ready rest =
        let ws = ways m i false ports xs in
        let left = drop (taken m i ports xs) xs in
        let behind : flat_map (item_present B m) left ≡ flat_map (item_present B m) xs =
        sym (skipped_present B m (flat_map (way_items i) ws) left (ways_are_assigns i ws)) ∙ ap (flat_map (item_present B m)) (piece B m i ports xs e) in
        ap (flat_map (item_ports B)) (closed_cut B m i ports xs e)
        ∙ ap (λ (o : Option (List BoxPort)). option_map_or (filter_map (hidden_at (closed_as i ws))) o [] ++ flat_map (item_ports B) (closed_items B m 0 left)) e
        ∙ ap (λ (ps : List Port). ps ++ flat_map (item_ports B) (closed_items B m 0 left)) (ports_present m i ports xs (ready.0 ports e))
        ∙ ap (λ (ps : List Port). present_at m i ports ++ ps) (rest ∙ behind)
        ∙ ap (λ (o : Option (List BoxPort)). option_map_or (present_at m i) o [] ++ flat_map (item_present B m) xs) (sym e)

-- Wires that are kept.

pub all_if : {X : Type 0} (P : X → Type 0) (test : X → Bool) (xs : List X) → AllByRecursion P (filter test xs) → AllByRecursion (λ x. test x ≡ true → P x) xs
all_if P test [] all = tt
all_if P test (x ∷ xs) all = by (test x) refl (all_if P test xs) all
  where
    by : (b : Bool) → test x ≡ b → (AllByRecursion P (filter test xs) → AllByRecursion (λ y. test y ≡ true → P y) xs) → AllByRecursion P (cond b (x ∷ filter test xs) (filter test xs)) → AllByRecursion (λ y. test y ≡ true → P y) (x ∷ xs)
    by true e more rest = (λ passes. rest.0, more rest.1)
    by false e more rest = (λ passes. absurd (let no_way : true ≡ false = sym passes ∙ e in cc), more rest)

-- a name that no way has joins no port
joins_none : (B : BoxLibrary) (m : Module) (w : Wire) → times w.name (of_ways B m wired_names m.items) + times w.name (of_ways B m linked_names m.items) ≡ 0 → (i : Instance) (ports : List BoxPort) (xs : List Item) → IsLaid m i ports
    → AllByRecursion (WayIsTold B m i) (ways m i false ports xs) → list_any (joins_port (closed B m) w (closed_as i (ways m i false ports xs))) ports ≡ false
joins_none B m w none i ports xs laid told =
    none_passes (joins_port (closed B m) w (closed_as i (ways m i false ports xs))) ports
    (all_to ports one (all_both (λ p. is_there m i p ≡ false → linked_to (i.links ++ map (way_link i) (ways m i false ports xs)) p.name ≡ None)
    (λ p. is_there m i p ≡ true → 1 ≤ times (hidden_name i.name p.name) (of_ways B m wired_names m.items) + times (hidden_name i.name p.name) (of_ways B m linked_names m.items)) ports
    (absent_linked m i ports xs laid)
    (all_if (λ p. 1 ≤ times (hidden_name i.name p.name) (of_ways B m wired_names m.items) + times (hidden_name i.name p.name) (of_ways B m linked_names m.items)) (is_there m i) ports
    (ways_to (λ p. 1 ≤ times (hidden_name i.name p.name) (of_ways B m wired_names m.items) + times (hidden_name i.name p.name) (of_ways B m linked_names m.items)) m i ports xs
    (all_to (ways m i false ports xs) way told)))))
  where
    way : (v : Way) → WayIsTold B m i v → 1 ≤ times (hidden_name i.name (way_name v)) (of_ways B m wired_names m.items) + times (hidden_name i.name (way_name v)) (of_ways B m linked_names m.items)
    way (Linked p os o) is = let here = is.0 in omega arith
    way (Wired p) is = let here = is.0 in omega arith

    one : (p : BoxPort) → (is_there m i p ≡ false → linked_to (i.links ++ map (way_link i) (ways m i false ports xs)) p.name ≡ None)
        × (is_there m i p ≡ true → 1 ≤ times (hidden_name i.name p.name) (of_ways B m wired_names m.items) + times (hidden_name i.name p.name) (of_ways B m linked_names m.items))
        → joins_port (closed B m) w (closed_as i (ways m i false ports xs)) p ≡ false
    one p both = by (is_there m i p) refl
      where
        and_false : (a : Bool) → (a && false) ≡ false
        and_false true = refl
        and_false false = refl

        named : (b : Bool) → bytes_eq w.name (hidden_name i.name p.name) ≡ b → 1 ≤ times (hidden_name i.name p.name) (of_ways B m wired_names m.items) + times (hidden_name i.name p.name) (of_ways B m linked_names m.items) → b ≡ false
        named true e there =
            absurd (let same = ap (λ (n : List ℕ). times n (of_ways B m wired_names m.items) + times n (of_ways B m linked_names m.items)) ((bytes_eq-Decides w.name (hidden_name i.name p.name)).0 e) in omega arith)
        named false e there = refl

        by : (t : Bool) → is_there m i p ≡ t
            → (bytes_eq w.name (hidden_name i.name p.name) && option_map_or (is_joined (closed B m) i p) (linked_to (i.links ++ map (way_link i) (ways m i false ports xs)) p.name) false) ≡ false
        by true e = ap (λ (b : Bool). b && option_map_or (is_joined (closed B m) i p) (linked_to (i.links ++ map (way_link i) (ways m i false ports xs)) p.name) false)
            (named (bytes_eq w.name (hidden_name i.name p.name)) refl (both.1 e))
        by false e = ap (λ (o : Option Operand). bytes_eq w.name (hidden_name i.name p.name) && option_map_or (is_joined (closed B m) i p) o false) (both.0 e) ∙ and_false (bytes_eq w.name (hidden_name i.name p.name))

abbrev JoinsNone : BoxLibrary → Module → Wire → List Item → Type 0
JoinsNone B m w items = list_any (joins_item B (closed B m) w) (closed_items B m 0 items) ≡ false

none_joined : (B : BoxLibrary) (m : Module) (w : Wire) → times w.name (of_ways B m wired_names m.items) + times w.name (of_ways B m linked_names m.items) ≡ 0 → (items : List Item) → AllTails (IsReady B m) items
    → JoinsNone B m w items
none_joined B m w none items all = by_pieces B m (IsReady B m) (JoinsNone B m w) (record { none = refl; gate = λ g xs rest. rest; assign = λ output input xs rest. rest; plain = plain; cut = cut }) items all
  where
    plain : (i : Instance) (xs : List Item) → cut_ports B i ≡ None → JoinsNone B m w xs → JoinsNone B m w (item.Instance i ∷ xs)
    plain i xs e rest =
        ap (list_any (joins_item B (closed B m) w)) (closed_none B m i xs e)
        ∙ ap (λ (o : Option (List BoxPort)). option_map_or (list_any (joins_port (closed B m) w i)) o false || list_any (joins_item B (closed B m) w) (closed_items B m 0 xs)) e
        ∙ rest

    cut : (i : Instance) (ports : List BoxPort) (xs : List Item) → cut_ports B i ≡ Some ports → IsReady B m (item.Instance i) xs → JoinsNone B m w (drop (taken m i ports xs) xs) → JoinsNone B m w (item.Instance i ∷ xs)
    cut i ports xs e ready rest =
        let ws = ways m i false ports xs in
        let left = drop (taken m i ports xs) xs in
        let fine = ready.1 ports e in
        ap (list_any (joins_item B (closed B m) w)) (closed_cut B m i ports xs e)
        ∙ ap (λ (o : Option (List BoxPort)). option_map_or (list_any (joins_port (closed B m) w (closed_as i ws))) o false || list_any (joins_item B (closed B m) w) (closed_items B m 0 left)) e
        ∙ neither (list_any (joins_port (closed B m) w (closed_as i ws)) ports) (list_any (joins_item B (closed B m) w) (closed_items B m 0 left)) (joins_none B m w none i ports xs (ready.0 ports e) fine.told) rest

-- Wires that are added join their ports.

each_way : (ws : List Way) → AllByRecursion (λ w. (test : BoxPort → Bool) → test (way_port w) ≡ true → list_any test (map way_port ws) ≡ true) ws
each_way [] = tt
each_way (v ∷ ws) = (
  λ test there. ap (λ (b : Bool). b || list_any test (map way_port ws)) there,
  all_to ws (λ w below test there. or_more (test (way_port v)) (list_any test (map way_port ws)) (below test there)) (each_way ws),
)

any_of_kept : {X : Type 0} (test keep : X → Bool) (xs : List X) → list_any test (filter keep xs) ≡ true → list_any test xs ≡ true
any_of_kept test keep [] h = h
any_of_kept test keep (x ∷ xs) h = by (keep x) h (any_of_kept test keep xs)
  where
    first : (a : Bool) → (list_any test (filter keep xs) ≡ true → list_any test xs ≡ true) → (a || list_any test (filter keep xs)) ≡ true → (a || list_any test xs) ≡ true
    first true rest k = refl
    first false rest k = rest k

    by : (b : Bool) → list_any test (cond b (x ∷ filter keep xs) (filter keep xs)) ≡ true → (list_any test (filter keep xs) ≡ true → list_any test xs ≡ true) → (test x || list_any test xs) ≡ true
    by true k rest = first (test x) rest k
    by false k rest = or_more (test x) (list_any test xs) (rest k)

wires_join : (B : BoxLibrary) (m : Module) (i : Instance) (ports : List BoxPort) (xs : List Item) → IsLaid m i ports → AllByRecursion (IsFine (closed B m) i) (ways m i false ports xs)
    → AllByRecursion (λ w. list_any (joins_port (closed B m) w (closed_as i (ways m i false ports xs))) ports ≡ true) (collect i (ways m i false ports xs)).wires
wires_join B m i ports xs laid fine = walk (ways m i false ports xs) (way_linked m i ports xs laid) fine (each_way (ways m i false ports xs))
  where
    joins : (p : BoxPort) → linked_to (i.links ++ map (way_link i) (ways m i false ports xs)) p.name ≡ Some (whole_net (hidden_name i.name p.name)) → is_joined (closed B m) i p (whole_net (hidden_name i.name p.name)) ≡ true
        → joins_port (closed B m) (record { name = hidden_name i.name p.name; range = p.range }) (closed_as i (ways m i false ports xs)) p ≡ true
    joins p linked joined =
        let name = hidden_name i.name p.name in
        ap (λ (b : Bool). b && option_map_or (is_joined (closed B m) i p) (linked_to (i.links ++ map (way_link i) (ways m i false ports xs)) p.name) false) (bytes_eq-same name)
        ∙ ap (λ (o : Option Operand). option_map_or (is_joined (closed B m) i p) o false) linked
        ∙ joined

    there : (test : BoxPort → Bool) → list_any test (map way_port (ways m i false ports xs)) ≡ true → list_any test ports ≡ true
    there test found = any_of_kept test (is_there m i) ports (ap (list_any test) (sym (ways_ports m i false ports xs)) ∙ found)

    walk : (ws : List Way) → AllByRecursion (λ w. linked_to (i.links ++ map (way_link i) (ways m i false ports xs)) (way_name w) ≡ Some (way_operand i w)) ws → AllByRecursion (IsFine (closed B m) i) ws
        → AllByRecursion (λ w. (test : BoxPort → Bool) → test (way_port w) ≡ true → list_any test (map way_port (ways m i false ports xs)) ≡ true) ws
        → AllByRecursion (λ w. list_any (joins_port (closed B m) w (closed_as i (ways m i false ports xs))) ports ≡ true) (collect i ws).wires
    walk [] linked all each = tt
    walk (Linked p os o ∷ ws) linked all each = walk ws linked.1 all.1 each.1
    walk (Wired p ∷ ws) linked all each =
        let w : Wire = record { name = hidden_name i.name p.name; range = p.range } in
        let test = joins_port (closed B m) w (closed_as i (ways m i false ports xs)) in
        (there test (each.0 test (joins p linked.0 all.0)), walk ws linked.1 all.1 each.1)

abbrev AddedJoin : BoxLibrary → Module → List Item → Type 0
AddedJoin B m items = AllByRecursion (λ w. list_any (joins_item B (closed B m) w) (closed_items B m 0 items) ≡ true) (added_wires B m items)

added_join : (B : BoxLibrary) (m : Module) (items : List Item) → AllTails (IsReady B m) items → AddedJoin B m items
added_join B m items all = by_pieces B m (IsReady B m) (AddedJoin B m) (record { none = tt; gate = λ g xs rest. rest; assign = λ output input xs rest. rest; plain = plain; cut = cut }) items all
  where
    plain : (i : Instance) (xs : List Item) → cut_ports B i ≡ None → AddedJoin B m xs → AddedJoin B m (item.Instance i ∷ xs)
    plain i xs e rest =
        let closes = closed_none B m i xs e in
        subst (AllByRecursion (λ w. list_any (joins_item B (closed B m) w) (closed_items B m 0 (item.Instance i ∷ xs)) ≡ true)) (sym (added_none B m i xs e))
        (all_to (added_wires B m xs) (λ w there. ap (list_any (joins_item B (closed B m) w)) closes
        ∙ or_more (joins_item B (closed B m) w (item.Instance i)) (list_any (joins_item B (closed B m) w) (closed_items B m 0 xs)) there) rest)

    cut : (i : Instance) (ports : List BoxPort) (xs : List Item) → cut_ports B i ≡ Some ports → IsReady B m (item.Instance i) xs → AddedJoin B m (drop (taken m i ports xs) xs) → AddedJoin B m (item.Instance i ∷ xs)
    cut i ports xs e ready rest =
        let ws = ways m i false ports xs in
        let left = drop (taken m i ports xs) xs in
        let fine = ready.1 ports e in
        let closes = closed_cut B m i ports xs e in
        let Joins : Wire → Type 0 = λ w. list_any (joins_item B (closed B m) w) (closed_items B m 0 (item.Instance i ∷ xs)) ≡ true in
        let behind : added_wires B m left ≡ added_wires B m xs = sym (assigns_add B m (flat_map (way_items i) ws) left (ways_are_assigns i ws)) ∙ ap (added_wires B m) (piece B m i ports xs e) in
        let mine : AllByRecursion Joins (collect i ws).wires = all_to (collect i ws).wires (λ w joins.
        ap (list_any (joins_item B (closed B m) w)) closes
        ∙ ap (λ (o : Option (List BoxPort)). option_map_or (list_any (joins_port (closed B m) w (closed_as i ws))) o false || list_any (joins_item B (closed B m) w) (closed_items B m 0 left)) e
        ∙ ap (λ (b : Bool). b || list_any (joins_item B (closed B m) w) (closed_items B m 0 left)) joins) (wires_join B m i ports xs (ready.0 ports e) fine.fine) in
        let more : AllByRecursion Joins (added_wires B m left) = all_to (added_wires B m left) (λ w there.
        ap (list_any (joins_item B (closed B m) w)) closes
        ∙ or_more (joins_item B (closed B m) w (item.Instance (closed_as i ws))) (list_any (joins_item B (closed B m) w) (closed_items B m 0 left)) there) rest in
        subst (AllByRecursion Joins) (sym (added_some B m i ports (collect i ws) xs e (closing_ways m i false ports xs)))
        (all_append Joins (collect i ws).wires (added_wires B m xs) mine (subst (AllByRecursion Joins) behind more))

filter_nothing : {X : Type 0} (test : X → Bool) (xs : List X) → AllByRecursion (λ x. test x ≡ false) xs → filter test xs ≡ []
filter_nothing test [] all = refl
filter_nothing test (x ∷ xs) all = rw all.0 (filter_nothing test xs all.1)

wires_back : (B : BoxLibrary) (k : ℕ) (m : Module) → IsInShape B k m → filter (is_kept_wire B (closed B m)) (closed B m).wires ≡ m.wires
wires_back B k m shape =
    let ready = all_ready B k m shape in
    let counted = counted_of B k m shape in
    let kept = all_to m.wires one (all_unmapped (λ n. 1 ≤ times n (map wire_name m.wires)) wire_name m.wires (each_there (map wire_name m.wires))) in
    filter-append (is_kept_wire B (closed B m)) m.wires (added_wires B m m.items)
    ∙ ap (λ (ws : List Wire). ws ++ filter (is_kept_wire B (closed B m)) (added_wires B m m.items)) (filter_all (is_kept_wire B (closed B m)) m.wires kept)
    ∙ ap (λ (ws : List Wire). m.wires ++ ws) (filter_nothing (is_kept_wire B (closed B m)) (added_wires B m m.items) (all_to (added_wires B m m.items) (λ w joins. ap not joins) (added_join B m m.items ready)))
    ∙ append-nil m.wires
  where
    one : (w : Wire) → 1 ≤ times w.name (map wire_name m.wires) → is_kept_wire B (closed B m) w ≡ true
    one w there =
        let counted = counted_of B k m shape in
        let all = counted.once w.name in
        ap not (none_joined B m w (omega arith) m.items (all_ready B k m shape))

pub opened_is_back : OpenedIsBack
opened_is_back B k m shape =
    let c = closed B m in
    let ready = all_ready B k m shape in
    let W = filter (is_kept_wire B c) c.wires in
    let I = flat_map (opened_item B c) c.items in
    let own = own_ports B m in
    let by_ports : List Port → Module = λ ps. record { name = m.name; ports = ps; wires = W; items = I } in
    let by_wires : List Wire → Module = λ ws. record { name = m.name; ports = m.ports; wires = ws; items = I } in
    let by_items : List Item → Module = λ is. record { name = m.name; ports = m.ports; wires = m.wires; items = is } in
    ap by_ports (ap (λ (ps : List Port). take k own ++ (ps ++ drop k own)) (ports_back B m m.items ready) ∙ sym shape.ports)
    ∙ ap by_wires (wires_back B k m shape)
    ∙ ap by_items (items_back B m m.items ready)
