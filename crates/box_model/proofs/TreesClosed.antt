-- A closed module is a tree that some text spells, where the module is one.
use Rattle.std.proofs.Common.{◌≡◌, ℕ, zero, suc, Bool, true, false, not, ◌&&◌, ◌||◌, List, [], ◌∷◌, ◌++◌, Option, Some, None, refl, sym, ap, subst, ◌∙◌, if◌then◌else◌, ◌==◌}
use Rattle.std.specs.Prelude.{IfSome, filter, option_and_then}
use Rattle.std.specs.Bool.{IsFalse}
use Rattle.std.specs.List.{AllByRecursion, list_any}
use Rattle.std.specs.Option.{option_map, option_map_or}
use Rattle.std.specs.Str.{bytes_eq}
use Rattle.std.proofs.lemmas.Slice.Eq.{bytes_eq-Decides}
use Rattle.list_laws.proofs.Bytes.{bytes_eq-sym}
use Rattle.list_laws.proofs.Lists.{all_append, each_fails, none_passes}
use Rattle.list_laws.proofs.Tests.{or_first, or_second}
use Rattle.verilog_tree.specs.declared.tree.Bit.{Bit}
use Rattle.verilog_tree.specs.declared.tree.Operand.{Operand}
use Rattle.verilog_tree.specs.declared.tree.Operand.TheVariants as operand
use Rattle.verilog_tree.specs.declared.tree.Port.{Port}
use Rattle.verilog_tree.specs.declared.tree.Wire.{Wire}
use Rattle.verilog_tree.specs.declared.tree.Instance.{Instance}
use Rattle.verilog_tree.specs.declared.tree.Item.{Item}
use Rattle.verilog_tree.specs.declared.tree.Item.TheVariants as item
use Rattle.verilog_tree.specs.declared.tree.Module.{Module}
use Rattle.verilog_tree.specs.Trees.{is_port_net, range_eq}
use Rattle.verilog_tree.specs.IsTree.{IsTreeName, IsTreeRange, IsTreeBit, IsTreeOperand, IsTreePort, IsTreeWire, IsTreeLink, IsTreeInstance, IsTreeItem}
use Rattle.link_model.specs.Nets.{Declared, width, declared_names, declared_as}
use Rattle.box_model.specs.declared.boxes.BoxLibrary.{BoxLibrary}
use Rattle.box_model.specs.declared.boxes.BoxPort.{BoxPort}
use Rattle.box_model.specs.declared.boxes.BoxDir.{BoxDir}
use Rattle.box_model.specs.declared.boxes.BoxDir.TheVariants.{Takes, Gives}
use Rattle.box_model.specs.Sound.{IsSoundLibrary}
use Rattle.box_model.specs.Ports.{cut_ports, hidden_name, hidden_bits, bits_of}
use Rattle.box_model.specs.Closed.{same_bit, other_side, and_more, run_of, times_named, own_run, are_bits, whole_if, whole_of, joint, Closing, closing, with_links, closed_item, closed_items, added_wires, hides, is_own, own_ports}
use Rattle.box_model.specs.Laws.{ClosedIsTree}
use Rattle.box_model.proofs.Counting.{all_to, all_drop}
use Rattle.box_model.proofs.Ways.{Way, Linked, Wired, collect, ways, closing_ways, Holds, all_ways}
use Rattle.box_model.proofs.TreeNames.{IsTreeBoxPort, cut_tree, all_kept}

-- Other sides of assigns.

side_tree : (d : BoxDir) (b : Bit) (x : Item) (o : Operand) → IsTreeItem x → other_side d b x ≡ Some o → IsTreeOperand o
side_tree d b (item.Gate g) o is h = elim d as (λ e. other_side e b (item.Gate g) ≡ Some o → IsTreeOperand o) [ Takes ↦ λ k. absurd (cc) | Gives ↦ λ k. absurd (cc) ] h
side_tree d b (item.Instance i) o is h = elim d as (λ e. other_side e b (item.Instance i) ≡ Some o → IsTreeOperand o) [ Takes ↦ λ k. absurd (cc) | Gives ↦ λ k. absurd (cc) ] h
side_tree Takes b (item.Assign output input) o is h = by (same_bit output b) h
  where
    by : (t : Bool) → (if t then Some input else None) ≡ Some o → IsTreeOperand o
    by true k = let it : input ≡ o = cc in subst IsTreeOperand it is.read
    by false k = absurd (cc)
side_tree Gives b (item.Assign output (operand.Const value)) o is h = absurd (cc)
side_tree Gives b (item.Assign output (operand.Bit c)) o is h = by (same_bit c b) h
  where
    by : (t : Bool) → (if t then Some (operand.Bit output) else None) ≡ Some o → IsTreeOperand o
    by true k = let it : operand.Bit output ≡ o = cc in subst IsTreeOperand it is.written
    by false k = absurd (cc)

run_tree : (d : BoxDir) (bs : List Bit) (items : List Item) (os : List Operand) → AllByRecursion IsTreeItem items → run_of d bs items ≡ Some os → AllByRecursion IsTreeOperand os
run_tree d [] items os all h = let it : [] ≡ os = cc in subst (AllByRecursion IsTreeOperand) it tt
run_tree d (b ∷ bs) [] os all h = absurd (cc)
run_tree d (b ∷ bs) (x ∷ items) os all h = by (other_side d b x) refl (run_of d bs items) refl (λ more is. run_tree d bs items more all.1 is) h
  where
    by : (s : Option Operand) → other_side d b x ≡ s → (r : Option (List Operand)) → run_of d bs items ≡ r → ((more : List Operand) → run_of d bs items ≡ Some more → AllByRecursion IsTreeOperand more)
        → option_and_then (λ o. and_more o r) s ≡ Some os → AllByRecursion IsTreeOperand os
    by None e r f rest k = absurd (cc)
    by (Some o) e None f rest k = absurd (cc)
    by (Some o) e (Some more) f rest k = let it : o ∷ more ≡ os = cc in subst (AllByRecursion IsTreeOperand) it (side_tree d b x o all.0 e, rest more f)

own_run_tree : (m : Module) (i : Instance) (p : BoxPort) (items : List Item) (os : List Operand) → AllByRecursion IsTreeItem items → own_run m i p items ≡ Some os → AllByRecursion IsTreeOperand os
own_run_tree m i p items os all h = by (times_named m (hidden_name i.name p.name) == width p.range) h
  where
    by : (t : Bool) → (if t then run_of p.dir (hidden_bits i p) items else None) ≡ Some os → AllByRecursion IsTreeOperand os
    by true k = run_tree p.dir (hidden_bits i p) items os all k
    by false k = absurd (cc)

-- A link's operand.

whole_tree : (m : Module) (b : Bit) (os : List Operand) (o : Operand) → IsTreeBit b → whole_of m (operand.Bit b ∷ os) ≡ Some o → IsTreeOperand o
whole_tree m b os o is h = by (declared_as (declared_names m) b.net) h
  where
    chosen : (t : Bool) → (if t then Some (operand.Bit (record { net = b.net; index = None })) else None) ≡ Some o → IsTreeOperand o
    chosen true k = let it : operand.Bit (record { net = b.net; index = None }) ≡ o = cc in subst IsTreeOperand it (record { net = is.net; index = tt })
    chosen false k = absurd (cc)

    by : (d : Option Declared) → option_and_then (whole_if b.net (operand.Bit b ∷ os)) d ≡ Some o → IsTreeOperand o
    by None k = absurd (cc)
    by (Some d) k = chosen (are_bits (bits_of b.net d.range) (operand.Bit b ∷ os)) k

joint_tree : (m : Module) (parted : Bool) (os : List Operand) (o : Operand) → AllByRecursion IsTreeOperand os → joint m parted os ≡ Some o → IsTreeOperand o
joint_tree m parted [] o all h = absurd (cc)
joint_tree m parted (x ∷ []) o all h = let it : x ≡ o = cc in subst IsTreeOperand it all.0
joint_tree m true (x ∷ y ∷ os) o all h = absurd (cc)
joint_tree m false (operand.Bit b ∷ y ∷ os) o all h = whole_tree m b (y ∷ os) o all.0 h
joint_tree m false (operand.Const value ∷ y ∷ os) o all h = absurd (cc)

-- An instance's links and wires.

abbrev IsTreeWay : Instance → Way → Type 0
IsTreeWay i (Linked p os o) = IsTreeName p.name × IsTreeOperand o
IsTreeWay i (Wired p) = IsTreeName p.name × IsTreeName (hidden_name i.name p.name) × IfSome p.range IsTreeRange

record IsTreeClosing (c : Closing) : Type 0 where
  links : AllByRecursion IsTreeLink c.links
  wires : AllByRecursion IsTreeWire c.wires

collected_tree : (i : Instance) (ws : List Way) → AllByRecursion (IsTreeWay i) ws → IsTreeClosing (collect i ws)
collected_tree i [] all = record { links = tt; wires = tt }
collected_tree i (Linked p os o ∷ ws) all = let more = collected_tree i ws all.1 in record { links = (record { port = all.0.0; operand = all.0.1 }, more.links); wires = more.wires }
collected_tree i (Wired p ∷ ws) all =
    let more = collected_tree i ws all.1 in
    record {
      links = (record { port = all.0.0; operand = record { net = all.0.1; index = tt } }, more.links);
      wires = (record { name = all.0.1; range = all.0.2 }, more.wires);
    }

-- a port that stands there has a name that a tree can have
port_named_tree : (ports : List Port) (name : List ℕ) → AllByRecursion IsTreePort ports → list_any (λ (p : Port). bytes_eq p.name name) ports ≡ true → IsTreeName name
port_named_tree [] name all h = absurd (cc)
port_named_tree (p ∷ ports) name all h = by (bytes_eq p.name name) refl (port_named_tree ports name all.1) h
  where
    by : (b : Bool) → bytes_eq p.name name ≡ b → (list_any (λ (q : Port). bytes_eq q.name name) ports ≡ true → IsTreeName name) → (b || list_any (λ (q : Port). bytes_eq q.name name) ports) ≡ true → IsTreeName name
    by true e rest k = subst IsTreeName ((bytes_eq-Decides p.name name).0 e) all.0.name
    by false e rest k = rest k

closing_tree : (m : Module) (i : Instance) (ports : List BoxPort) (items : List Item) → AllByRecursion IsTreePort m.ports → AllByRecursion IsTreeBoxPort ports → AllByRecursion IsTreeItem items
    → IsTreeClosing (closing m i false ports items)
closing_tree m i ports items named sound all = subst IsTreeClosing (sym (closing_ways m i false ports items))
    (collected_tree i (ways m i false ports items) (all_ways (IsTreeWay i) (AllByRecursion IsTreeItem) (λ n xs left. all_drop IsTreeItem n xs left) m i false ports items (all_to ports one sound) all))
  where
    one : (p : BoxPort) → IsTreeBoxPort p → Holds (IsTreeWay i) (AllByRecursion IsTreeItem) m i p
    one p is = record {
      wired = λ there. (is.name, port_named_tree m.ports (hidden_name i.name p.name) named there, is.range);
      linked = λ there parted xs os o left run joins. (is.name, joint_tree m parted os o (own_run_tree m i p xs os left run) joins);
    }

-- The items.

closed_instance : (i : Instance) (c : Closing) (more : List Item) → IsTreeInstance i → IsTreeClosing c → AllByRecursion IsTreeItem more → AllByRecursion IsTreeItem (with_links c.links (item.Instance i) ∷ more)
closed_instance i c more is closes all = (record { cell = is.cell; name = is.name; links = all_append IsTreeLink i.links c.links is.links closes.links }, all)

items_tree : (B : BoxLibrary) (m : Module) → IsSoundLibrary B → AllByRecursion IsTreePort m.ports → (gone : ℕ) (items : List Item) → AllByRecursion IsTreeItem items → AllByRecursion IsTreeItem (closed_items B m gone items)
items_tree B m sound named gone [] all = tt
items_tree B m sound named (suc gone) (x ∷ items) all = items_tree B m sound named gone items all.1
items_tree B m sound named zero (item.Gate g ∷ items) all = (all.0, items_tree B m sound named zero items all.1)
items_tree B m sound named zero (item.Assign output input ∷ items) all = (all.0, items_tree B m sound named zero items all.1)
items_tree B m sound named zero (item.Instance i ∷ items) all = by (cut_ports B i) refl (λ gone. items_tree B m sound named gone items all.1)
  where
    by : (o : Option (List BoxPort)) → cut_ports B i ≡ o → ((gone : ℕ) → AllByRecursion IsTreeItem (closed_items B m gone items))
        → AllByRecursion IsTreeItem (closed_item (item.Instance i) (λ gone. closed_items B m gone items) (option_map (λ ports. closing m i false ports items) o))
    by None e more = (all.0, more zero)
    by (Some ports) e more =
        let c = closing m i false ports items in
        closed_instance i c (closed_items B m c.gone items) all.0 (closing_tree m i ports items named (cut_tree B sound i ports e) all.1) (more c.gone)

wires_tree : (B : BoxLibrary) (m : Module) → IsSoundLibrary B → AllByRecursion IsTreePort m.ports → (items : List Item) → AllByRecursion IsTreeItem items → AllByRecursion IsTreeWire (added_wires B m items)
wires_tree B m sound named [] all = tt
wires_tree B m sound named (item.Gate g ∷ items) all = wires_tree B m sound named items all.1
wires_tree B m sound named (item.Assign output input ∷ items) all = wires_tree B m sound named items all.1
wires_tree B m sound named (item.Instance i ∷ items) all = by (cut_ports B i) refl (wires_tree B m sound named items all.1)
  where
    by : (o : Option (List BoxPort)) → cut_ports B i ≡ o → AllByRecursion IsTreeWire (added_wires B m items)
        → AllByRecursion IsTreeWire (option_map_or (λ (c : Closing). c.wires) (option_map (λ ports. closing m i false ports items) o) [] ++ added_wires B m items)
    by None e more = more
    by (Some ports) e more =
        let closes = closing_tree m i ports items named (cut_tree B sound i ports e) all.1 in
        all_append IsTreeWire (closing m i false ports items).wires (added_wires B m items) closes.wires more

-- Wires that are no ports' nets.

-- the wire's name is none of these ports'
abbrev IsApart : List Port → Wire → Type 0
IsApart ports w = AllByRecursion (λ (q : Port). bytes_eq w.name q.name ≡ false) ports

apart_net : (ports : List Port) (w : Wire) → IsApart ports w → IsFalse (is_port_net ports w)
apart_net ports w apart = none_passes (λ (q : Port). bytes_eq q.name w.name && range_eq q.range w.range) ports (all_to ports one apart)
  where
    one : (q : Port) → bytes_eq w.name q.name ≡ false → (bytes_eq q.name w.name && range_eq q.range w.range) ≡ false
    one q never = ap (λ (b : Bool). b && range_eq q.range w.range) (bytes_eq-sym q.name w.name ∙ never)

abbrev WayIsApart : Instance → List Port → Way → Type 0
WayIsApart i own (Linked p os o) = Unit {0}
WayIsApart i own (Wired p) = AllByRecursion (λ (q : Port). bytes_eq (hidden_name i.name p.name) q.name ≡ false) own

collected_apart : (i : Instance) (own : List Port) (ws : List Way) → AllByRecursion (WayIsApart i own) ws → AllByRecursion (IsApart own) (collect i ws).wires
collected_apart i own [] all = tt
collected_apart i own (Linked p os o ∷ ws) all = collected_apart i own ws all.1
collected_apart i own (Wired p ∷ ws) all = (all.0, collected_apart i own ws all.1)

closing_apart : (m : Module) (i : Instance) (own : List Port) (ports : List BoxPort) (items : List Item)
    → AllByRecursion (λ (q : Port). list_any (λ (p : BoxPort). bytes_eq (hidden_name i.name p.name) q.name) ports ≡ false) own → AllByRecursion (IsApart own) (closing m i false ports items).wires
closing_apart m i own ports items never = subst (λ (c : Closing). AllByRecursion (IsApart own) c.wires) (sym (closing_ways m i false ports items))
    (collected_apart i own (ways m i false ports items) (all_ways (WayIsApart i own) (λ xs. Unit {0}) (λ n xs left. tt) m i false ports items (along ports never) tt))
  where
    along : (ps : List BoxPort) → AllByRecursion (λ (q : Port). list_any (λ (p : BoxPort). bytes_eq (hidden_name i.name p.name) q.name) ps ≡ false) own
        → AllByRecursion (Holds (WayIsApart i own) (λ xs. Unit {0}) m i) ps
    along [] all = tt
    along (p ∷ ps) all = (
      record {
        wired = λ there. all_to own (λ q fails. or_first (bytes_eq (hidden_name i.name p.name) q.name) (list_any (λ (r : BoxPort). bytes_eq (hidden_name i.name r.name) q.name) ps) fails) all;
        linked = λ there parted xs os o left run joins. tt;
      },
      along ps (all_to own (λ q fails. or_second (bytes_eq (hidden_name i.name p.name) q.name) (list_any (λ (r : BoxPort). bytes_eq (hidden_name i.name r.name) q.name) ps) fails) all),
    )

added_apart : (B : BoxLibrary) (m : Module) (own : List Port) (items : List Item) → AllByRecursion (λ (q : Port). list_any (hides B q.name) items ≡ false) own → AllByRecursion (IsApart own) (added_wires B m items)
added_apart B m own [] never = tt
added_apart B m own (x ∷ items) never =
    one x (all_to own (λ q fails. or_first (hides B q.name x) (list_any (hides B q.name) items) fails) never)
    (added_apart B m own items (all_to own (λ q fails. or_second (hides B q.name x) (list_any (hides B q.name) items) fails) never))
  where
    cut : (i : Instance) (o : Option (List BoxPort)) → AllByRecursion (λ (q : Port). option_map_or (list_any (λ (p : BoxPort). bytes_eq (hidden_name i.name p.name) q.name)) o false ≡ false) own
        → AllByRecursion (IsApart own) (added_wires B m items)
        → AllByRecursion (IsApart own) (option_map_or (λ (c : Closing). c.wires) (option_map (λ ports. closing m i false ports items) o) [] ++ added_wires B m items)
    cut i None all more = more
    cut i (Some ports) all more = all_append (IsApart own) (closing m i false ports items).wires (added_wires B m items) (closing_apart m i own ports items all) more

    one : (y : Item) → AllByRecursion (λ (q : Port). hides B q.name y ≡ false) own → AllByRecursion (IsApart own) (added_wires B m items) → AllByRecursion (IsApart own) (added_wires B m (y ∷ items))
    one (item.Gate g) all more = more
    one (item.Assign output input) all more = more
    one (item.Instance i) all more = cut i (cut_ports B i) all more

own_all : (B : BoxLibrary) (m : Module) (ports : List Port) → AllByRecursion (λ (q : Port). list_any (hides B q.name) m.items ≡ false) (filter (is_own B m) ports)
own_all B m [] = tt
own_all B m (p ∷ ports) = by (list_any (hides B p.name) m.items) refl (own_all B m ports)
  where
    by : (b : Bool) → list_any (hides B p.name) m.items ≡ b → AllByRecursion (λ (q : Port). list_any (hides B q.name) m.items ≡ false) (filter (is_own B m) ports)
        → AllByRecursion (λ (q : Port). list_any (hides B q.name) m.items ≡ false) (if not b then p ∷ filter (is_own B m) ports else filter (is_own B m) ports)
    by true e rest = rest
    by false e rest = (e, rest)

any_kept : {X : Type 0} (test keep : X → Bool) (xs : List X) → list_any test xs ≡ false → list_any test (filter keep xs) ≡ false
any_kept test keep xs none = none_passes test (filter keep xs) (all_kept (λ x. test x ≡ false) keep xs (each_fails test xs none))

pub closed_is_tree : ClosedIsTree
closed_is_tree B m sound is = record {
  name = is.name;
  ports = all_kept IsTreePort (is_own B m) m.ports is.ports;
  wires = all_append IsTreeWire m.wires (added_wires B m m.items) is.wires (wires_tree B m sound is.ports m.items is.items);
  items = items_tree B m sound is.ports 0 m.items is.items;
  own_nets = all_append (λ wire. IsFalse (is_port_net (own_ports B m) wire)) m.wires (added_wires B m m.items)
      (all_to m.wires (λ w none. any_kept (λ (q : Port). bytes_eq q.name w.name && range_eq q.range w.range) (is_own B m) m.ports none) is.own_nets)
      (all_to (added_wires B m m.items) (apart_net (own_ports B m)) (added_apart B m (own_ports B m) m.items (own_all B m m.ports)));
}
