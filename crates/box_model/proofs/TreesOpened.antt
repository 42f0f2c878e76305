-- An opened module is a tree that some text spells, where the module is one and its boxes are without fault.
use Rattle.std.proofs.Common.{◌≡◌, ℕ, zero, suc, ◌+◌, ◌-◌, ◌<◌, ◌≤◌, Bool, true, false, not, cond, ◌&&◌, List, [], ◌∷◌, ◌++◌, map, Option, Some, None, refl, sym, ap, subst, ◌∙◌, arith, leb-true, if◌then◌else◌, ◌==◌}
use Rattle.std.specs.Prelude.{IfSome, filter, nat_le}
use Rattle.std.specs.Bool.{IsFalse}
use Rattle.std.specs.List.{AllByRecursion, flat_map, filter_map, cons_option, list_any}
use Rattle.std.specs.Map.{lookup}
use Rattle.std.specs.Option.{option_map, option_map_or, option_or}
use Rattle.std.specs.Str.{bytes_eq}
use Rattle.std.proofs.lemmas.Slice.Eq.{bytes_eq-Decides}
use Rattle.list_laws.proofs.Bytes.{bytes_eq-sym}
use Rattle.list_laws.proofs.Lists.{all_append, all_front, all_back, all_mapped, each_fails, none_passes}
use Rattle.list_laws.proofs.Tests.{or_first, or_second, not_true}
use Rattle.verilog_tree.specs.declared.tree.Range.{Range}
use Rattle.verilog_tree.specs.declared.tree.Bit.{Bit}
use Rattle.verilog_tree.specs.declared.tree.Operand.{Operand}
use Rattle.verilog_tree.specs.declared.tree.Operand.TheVariants as operand
use Rattle.verilog_tree.specs.declared.tree.Link.{Link}
use Rattle.verilog_tree.specs.declared.tree.Port.{Port}
use Rattle.verilog_tree.specs.declared.tree.Wire.{Wire}
use Rattle.verilog_tree.specs.declared.tree.Instance.{Instance}
use Rattle.verilog_tree.specs.declared.tree.Item.{Item}
use Rattle.verilog_tree.specs.declared.tree.Item.TheVariants as item
use Rattle.verilog_tree.specs.declared.tree.Module.{Module}
use Rattle.verilog_tree.specs.Trees.{is_port_net, range_eq}
use Rattle.verilog_tree.specs.IsTree.{IsTreeName, IsTreeNumber, IsTreeRange, IsTreeBit, IsTreeOperand, IsTreePort, IsTreeWire, IsTreeLink, IsTreeItem, IsTree}
use Rattle.link_model.specs.Lists.{has_name}
use Rattle.link_model.specs.Nets.{Declared, NetDeclaration, port_nets, wire_nets, declared_nets, declared_names, declared_as, names_from, width, counted_from, index_at}
use Rattle.box_model.specs.declared.boxes.BoxLibrary.{BoxLibrary}
use Rattle.box_model.specs.declared.boxes.BoxPort.{BoxPort}
use Rattle.box_model.specs.declared.boxes.BoxDir.{BoxDir}
use Rattle.box_model.specs.declared.boxes.BoxDir.TheVariants.{Takes, Gives}
use Rattle.box_model.specs.Sound.{IsSoundLibrary}
use Rattle.box_model.specs.Ports.{cut_ports, hidden_name, hidden_port, hidden_bits, bits_of, linked_to, is_port_of}
use Rattle.box_model.specs.Opened.{is_joined, whole_bits, link_bits, assigns, port_items, opened_instance, opened_item, hidden_at, item_ports, hidden_ports, joins_port, joins_item, is_kept_wire, opened}
use Rattle.link_model.specs.Faults.{item_name}
use Rattle.box_model.specs.Faults.{named_by, used_names, hidden_of, item_hidden}
use Rattle.box_model.specs.Laws.{OpenedIsTree}
use Rattle.box_model.proofs.Counting.{all_to, all_both, times, some_times, times-append, each_there}
use Rattle.box_model.proofs.Between.{between}
use Rattle.box_model.proofs.Clear.{IsFree, IsClear, clear_of}
use Rattle.box_model.proofs.TreeNames.{IsTreeBoxPort, cut_tree, all_kept, hidden_tree_name}

all_between : {X : Type 0} (P : X → Type 0) (k : ℕ) (xs ys : List X) → AllByRecursion P xs → AllByRecursion P ys → AllByRecursion P (between k xs ys)
all_between P zero xs ys outer inner = all_append P ys xs inner outer
all_between P (suc k) [] ys outer inner = all_append P ys [] inner tt
all_between P (suc k) (x ∷ xs) ys outer inner = (outer.0, all_between P k xs ys outer.1 inner)

-- Bits.

counted_all : (P : ℕ → Type 0) (first n : ℕ) → ((k : ℕ) → k < first + n → P k) → AllByRecursion P (counted_from first n)
counted_all P first zero each = tt
counted_all P first (suc n) each = (each first (omega arith), counted_all P (suc first) n (λ k low. each k (omega arith)))

index_tree : (range : Option Range) → IfSome range IsTreeRange → (k : ℕ) → k < width range → IfSome (index_at range k) IsTreeNumber
index_tree None is k low = tt
index_tree (Some r) is k low = by (nat_le r.left r.right) refl
  where
    by : (b : Bool) → nat_le r.left r.right ≡ b → IsTreeNumber (if b then r.left + k else r.left - k)
    by true e = let up = leb-true r.left r.right e in let right = is.right in omega arith
    by false e = let left = is.left in omega arith

bits_tree : (name : List ℕ) (range : Option Range) → IsTreeName name → IfSome range IsTreeRange → AllByRecursion IsTreeBit (bits_of name range)
bits_tree name range named is =
    all_mapped IsTreeBit (λ (k : ℕ). record { net = name; index = index_at range k }) (counted_from 0 (width range))
    (counted_all (λ k. IsTreeBit (record { net = name; index = index_at range k })) 0 (width range) (λ k low. record { net = named; index = index_tree range is k (omega arith) }))

-- what is declared has a range that a tree can have
looked_up : (nets : List NetDeclaration) (first : ℕ) (name : List ℕ) (d : Declared) → AllByRecursion (λ (n : NetDeclaration). IfSome n.range IsTreeRange) nets → lookup (bytes_eq name) (names_from first nets) ≡ Some d
    → IfSome d.range IsTreeRange
looked_up [] first name d all h = absurd (cc)
looked_up (n ∷ nets) first name d all h = by (bytes_eq name n.name) (looked_up nets (first + width n.range) name d all.1) h
  where
    by : (b : Bool) → (lookup (bytes_eq name) (names_from (first + width n.range) nets) ≡ Some d → IfSome d.range IsTreeRange)
        → cond b (Some (record { first = first; range = n.range })) (lookup (bytes_eq name) (names_from (first + width n.range) nets)) ≡ Some d → IfSome d.range IsTreeRange
    by true rest k = let it : n.range ≡ d.range = cc in subst (λ (r : Option Range). IfSome r IsTreeRange) it all.0
    by false rest k = rest k

declared_tree : (m : Module) → IsTree m → (name : List ℕ) (d : Declared) → declared_as (declared_names m) name ≡ Some d → IfSome d.range IsTreeRange
declared_tree m is name d h = looked_up (declared_nets m) 0 name d
    (all_append (λ (n : NetDeclaration). IfSome n.range IsTreeRange) (map port_nets m.ports) (map wire_nets m.wires)
    (all_mapped (λ (n : NetDeclaration). IfSome n.range IsTreeRange) port_nets m.ports (all_to m.ports (λ p port. port.range) is.ports))
    (all_mapped (λ (n : NetDeclaration). IfSome n.range IsTreeRange) wire_nets m.wires (all_to m.wires (λ w wire. wire.range) is.wires))) h

-- Operands of a link's bits.

bits_are : (bits : List Bit) → AllByRecursion IsTreeBit bits → AllByRecursion IsTreeOperand (map (λ b. operand.Bit b) bits)
bits_are [] all = tt
bits_are (b ∷ bits) all = (all.0, bits_are bits all.1)

link_tree : (m : Module) → IsTree m → (p : BoxPort) (o : Operand) → IsTreeOperand o → AllByRecursion IsTreeOperand (link_bits m p o)
link_tree m is p (operand.Const value) named = (tt, tt)
link_tree m is p (operand.Bit b) named = by (width p.range == 1)
  where
    whole : (d : Option Declared) → declared_as (declared_names m) b.net ≡ d → AllByRecursion IsTreeOperand (whole_bits b d)
    whole None e = (named, tt)
    whole (Some d) e = bits_are (bits_of b.net d.range) (bits_tree b.net d.range named.net (declared_tree m is b.net d e))

    by : (one : Bool) → AllByRecursion IsTreeOperand (if one then operand.Bit b ∷ [] else whole_bits b (declared_as (declared_names m) b.net))
    by true = (named, tt)
    by false = whole (declared_as (declared_names m) b.net) refl

-- Assigns.

assigns_tree : (d : BoxDir) (bs : List Bit) (os : List Operand) → AllByRecursion IsTreeBit bs → AllByRecursion IsTreeOperand os → AllByRecursion IsTreeItem (assigns d bs os)
assigns_tree d [] os bits all = tt
assigns_tree d (b ∷ bs) [] bits all = tt
assigns_tree Gives (b ∷ bs) (operand.Bit c ∷ os) bits all = (record { written = all.0; read = bits.0 }, assigns_tree Gives bs os bits.1 all.1)
assigns_tree Gives (b ∷ bs) (operand.Const value ∷ os) bits all = assigns_tree Gives bs os bits.1 all.1
assigns_tree Takes (b ∷ bs) (o ∷ os) bits all = (record { written = bits.0; read = all.0 }, assigns_tree Takes bs os bits.1 all.1)

linked_tree : (links : List Link) (name : List ℕ) (o : Operand) → AllByRecursion IsTreeLink links → linked_to links name ≡ Some o → IsTreeOperand o
linked_tree [] name o all h = absurd (cc)
linked_tree (l ∷ links) name o all h = by (bytes_eq l.port name) (linked_tree links name o all.1) h
  where
    here : (x : Option Operand) → IfSome x IsTreeOperand → (linked_to links name ≡ Some o → IsTreeOperand o) → option_or x (linked_to links name) ≡ Some o → IsTreeOperand o
    here None is rest k = rest k
    here (Some x) is rest k = let it : x ≡ o = cc in subst IsTreeOperand it is

    by : (b : Bool) → (linked_to links name ≡ Some o → IsTreeOperand o) → (if b then option_or l.operand (linked_to links name) else linked_to links name) ≡ Some o → IsTreeOperand o
    by true rest k = here l.operand all.0.operand rest k
    by false rest k = rest k

-- Ports of an instance.

-- a port whose hidden name a tree can have
record IsHiddenPort (i : Instance) (p : BoxPort) : Type 0 where
  name : IsTreeName (hidden_name i.name p.name)
  range : IfSome p.range IsTreeRange

hidden_all : (used : List (List ℕ)) (m : Module) (i : Instance) → IsTreeName i.name → (ports : List BoxPort) → AllByRecursion IsTreeBoxPort ports → AllByRecursion (IsFree used) (map (hidden_of m i) ports)
    → AllByRecursion (IsHiddenPort i) ports
hidden_all used m i named [] all free = tt
hidden_all used m i named (p ∷ ports) all free = (record { name = hidden_tree_name i.name p.name named all.0.name free.0.short; range = all.0.range }, hidden_all used m i named ports all.1 free.1)

port_tree : (m : Module) → IsTree m → (i : Instance) → AllByRecursion IsTreeLink i.links → (p : BoxPort) → IsHiddenPort i p → AllByRecursion IsTreeItem (port_items m i p)
port_tree m is i links p hidden = by (linked_to i.links p.name) refl
  where
    chosen : (o : Operand) → IsTreeOperand o → (b : Bool) → AllByRecursion IsTreeItem (if b then [] else assigns p.dir (hidden_bits i p) (link_bits m p o))
    chosen o named true = tt
    chosen o named false = assigns_tree p.dir (hidden_bits i p) (link_bits m p o) (bits_tree (hidden_name i.name p.name) p.range hidden.name hidden.range) (link_tree m is p o named)

    by : (l : Option Operand) → linked_to i.links p.name ≡ l → AllByRecursion IsTreeItem (option_map_or (λ o. if is_joined m i p o then [] else assigns p.dir (hidden_bits i p) (link_bits m p o)) l [])
    by None e = tt
    by (Some o) e = chosen o (linked_tree i.links p.name o links e) (is_joined m i p o)

ports_tree : (m : Module) → IsTree m → (i : Instance) → AllByRecursion IsTreeLink i.links → (ports : List BoxPort) → AllByRecursion (IsHiddenPort i) ports → AllByRecursion IsTreeItem (flat_map (port_items m i) ports)
ports_tree m is i links [] hidden = tt
ports_tree m is i links (p ∷ ports) hidden = all_append IsTreeItem (port_items m i p) (flat_map (port_items m i) ports) (port_tree m is i links p hidden.0) (ports_tree m is i links ports hidden.1)

added_ports : (i : Instance) (ports : List BoxPort) → AllByRecursion (IsHiddenPort i) ports → AllByRecursion IsTreePort (filter_map (hidden_at i) ports)
added_ports i [] hidden = tt
added_ports i (p ∷ ports) hidden = by (linked_to i.links p.name) (added_ports i ports hidden.1)
  where
    by : (o : Option Operand) → AllByRecursion IsTreePort (filter_map (hidden_at i) ports) → AllByRecursion IsTreePort (cons_option (option_map (λ (x : Operand). hidden_port i p) o) (filter_map (hidden_at i) ports))
    by None rest = rest
    by (Some o) rest = (record { name = hidden.0.name; range = hidden.0.range }, rest)

-- The items.

record IsOpenedTree (B : BoxLibrary) (m : Module) (x : Item) : Type 0 where
  items : AllByRecursion IsTreeItem (opened_item B m x)
  ports : AllByRecursion IsTreePort (item_ports B x)

item_tree : (B : BoxLibrary) (m : Module) → IsSoundLibrary B → IsTree m → (used : List (List ℕ)) (x : Item) → IsTreeItem x → AllByRecursion (IsFree used) (item_hidden B m x) → IsOpenedTree B m x
item_tree B m sound is used (item.Gate g) named free = record { items = (named, tt); ports = tt }
item_tree B m sound is used (item.Assign output input) named free = record { items = (named, tt); ports = tt }
item_tree B m sound is used (item.Instance i) named free = record { items = items (cut_ports B i) refl free; ports = ports (cut_ports B i) refl free }
  where
    items : (o : Option (List BoxPort)) → cut_ports B i ≡ o → AllByRecursion (IsFree used) (option_map_or (map (hidden_of m i)) o []) → AllByRecursion IsTreeItem (option_map_or (opened_instance m i) o (item.Instance i ∷ []))
    items None e none = (named, tt)
    items (Some ps) e each = (
      record { cell = named.cell; name = named.name; links = all_kept IsTreeLink (λ l. not (is_port_of ps l)) i.links named.links },
      ports_tree m is i named.links ps (hidden_all used m i named.name ps (cut_tree B sound i ps e) each),
    )

    ports : (o : Option (List BoxPort)) → cut_ports B i ≡ o → AllByRecursion (IsFree used) (option_map_or (map (hidden_of m i)) o []) → AllByRecursion IsTreePort (option_map_or (filter_map (hidden_at i)) o [])
    ports None e none = tt
    ports (Some ps) e each = added_ports i ps (hidden_all used m i named.name ps (cut_tree B sound i ps e) each)

all_items : (B : BoxLibrary) (m : Module) → IsSoundLibrary B → IsTree m → (used : List (List ℕ)) (items : List Item) → AllByRecursion IsTreeItem items → AllByRecursion (IsFree used) (flat_map (item_hidden B m) items)
    → AllByRecursion (IsOpenedTree B m) items
all_items B m sound is used [] named free = tt
all_items B m sound is used (x ∷ items) named free = (
  item_tree B m sound is used x named.0 (all_front (IsFree used) (item_hidden B m x) (flat_map (item_hidden B m) items) free),
  all_items B m sound is used items named.1 (all_back (IsFree used) (item_hidden B m x) (flat_map (item_hidden B m) items) free),
)

pub all_flat : {X Y : Type 0} (P : Y → Type 0) (f : X → List Y) (xs : List X) → AllByRecursion (λ x. AllByRecursion P (f x)) xs → AllByRecursion P (flat_map f xs)
all_flat P f [] all = tt
all_flat P f (x ∷ xs) all = all_append P (f x) (flat_map f xs) all.0 (all_flat P f xs all.1)

-- Wires.

-- a wire that joins no port has no hidden port's name
port_apart : (used : List (List ℕ)) (m : Module) (w : Wire) → has_name used w.name ≡ true → (i : Instance) (p : BoxPort) → joins_port m w i p ≡ false → IsFree used (hidden_of m i p)
    → (rest : List Port) → AllByRecursion (λ (q : Port). bytes_eq q.name w.name ≡ false) rest → AllByRecursion (λ (q : Port). bytes_eq q.name w.name ≡ false) (cons_option (hidden_at i p) rest)
port_apart used m w there i p never free rest all = by (linked_to i.links p.name) never free.free
  where
    other : (o : Operand) (b : Bool) → bytes_eq (hidden_name i.name p.name) w.name ≡ b → (bytes_eq w.name (hidden_name i.name p.name) && is_joined m i p o) ≡ false
        → (has_name used (hidden_name i.name p.name) && not (is_joined m i p o)) ≡ false → b ≡ false
    other o true e apart taken =
        let same = (bytes_eq-Decides (hidden_name i.name p.name) w.name).0 e in
        let named : has_name used (hidden_name i.name p.name) ≡ true = ap (has_name used) same ∙ there in
        let equal : bytes_eq w.name (hidden_name i.name p.name) ≡ true = bytes_eq-sym w.name (hidden_name i.name p.name) ∙ e in
        clash (is_joined m i p o) (sym (ap (λ (t : Bool). t && is_joined m i p o) equal) ∙ apart) (sym (ap (λ (t : Bool). t && not (is_joined m i p o)) named) ∙ taken)
      where
        clash : (j : Bool) → (true && j) ≡ false → (true && not j) ≡ false → true ≡ false
        clash true one two = one
        clash false one two = two
    other o false e apart taken = refl

    by : (l : Option Operand) → (bytes_eq w.name (hidden_name i.name p.name) && option_map_or (is_joined m i p) l false) ≡ false
        → (has_name used (hidden_name i.name p.name) && not (option_map_or (is_joined m i p) l false)) ≡ false
        → AllByRecursion (λ (q : Port). bytes_eq q.name w.name ≡ false) (cons_option (option_map (λ (x : Operand). hidden_port i p) l) rest)
    by None apart taken = all
    by (Some o) apart taken = (other o (bytes_eq (hidden_name i.name p.name) w.name) refl apart taken, all)

ports_apart : (used : List (List ℕ)) (m : Module) (w : Wire) → has_name used w.name ≡ true → (i : Instance) (ports : List BoxPort) → list_any (joins_port m w i) ports ≡ false
    → AllByRecursion (IsFree used) (map (hidden_of m i) ports) → AllByRecursion (λ (q : Port). bytes_eq q.name w.name ≡ false) (filter_map (hidden_at i) ports)
ports_apart used m w there i [] never free = tt
ports_apart used m w there i (p ∷ ports) never free =
    port_apart used m w there i p (or_first (joins_port m w i p) (list_any (joins_port m w i) ports) never) free.0 (filter_map (hidden_at i) ports)
    (ports_apart used m w there i ports (or_second (joins_port m w i p) (list_any (joins_port m w i) ports) never) free.1)

pub items_apart : (B : BoxLibrary) (used : List (List ℕ)) (m : Module) (w : Wire) → has_name used w.name ≡ true → (items : List Item) → list_any (joins_item B m w) items ≡ false
    → AllByRecursion (IsFree used) (flat_map (item_hidden B m) items) → AllByRecursion (λ (q : Port). bytes_eq q.name w.name ≡ false) (flat_map (item_ports B) items)
items_apart B used m w there [] never free = tt
items_apart B used m w there (x ∷ items) never free =
    all_append (λ (q : Port). bytes_eq q.name w.name ≡ false) (item_ports B x) (flat_map (item_ports B) items)
    (one x (or_first (joins_item B m w x) (list_any (joins_item B m w) items) never) (all_front (IsFree used) (item_hidden B m x) (flat_map (item_hidden B m) items) free))
    (items_apart B used m w there items (or_second (joins_item B m w x) (list_any (joins_item B m w) items) never) (all_back (IsFree used) (item_hidden B m x) (flat_map (item_hidden B m) items) free))
  where
    cut : (i : Instance) (o : Option (List BoxPort)) → option_map_or (list_any (joins_port m w i)) o false ≡ false → AllByRecursion (IsFree used) (option_map_or (map (hidden_of m i)) o [])
        → AllByRecursion (λ (q : Port). bytes_eq q.name w.name ≡ false) (option_map_or (filter_map (hidden_at i)) o [])
    cut i None none each = tt
    cut i (Some ports) none each = ports_apart used m w there i ports none each

    one : (y : Item) → joins_item B m w y ≡ false → AllByRecursion (IsFree used) (item_hidden B m y) → AllByRecursion (λ (q : Port). bytes_eq q.name w.name ≡ false) (item_ports B y)
    one (item.Gate g) none each = tt
    one (item.Assign output input) none each = tt
    one (item.Instance i) none each = cut i (cut_ports B i) none each

wire_apart : (B : BoxLibrary) (k : ℕ) (m : Module) (w : Wire) → has_name (used_names m) w.name ≡ true → IsClear B m → IsFalse (is_port_net m.ports w) → is_kept_wire B m w ≡ true
    → IsFalse (is_port_net (opened B k m).ports w)
wire_apart B k m w there clear own kept =
    let test : Port → Bool = λ q. bytes_eq q.name w.name && range_eq q.range w.range in
    let joins = not_true (list_any (joins_item B m w) m.items) kept in
    let apart = items_apart B (used_names m) m w there m.items joins clear.free in
    none_passes test (opened B k m).ports
    (all_between (λ (q : Port). test q ≡ false) k m.ports (hidden_ports B m) (each_fails test m.ports own)
    (all_to (hidden_ports B m) (λ q never. ap (λ (b : Bool). b && range_eq q.range w.range) never) apart))

wire_used : (m : Module) (name : List ℕ) → 1 ≤ times name (map (λ (w : Wire). w.name) m.wires) → 1 ≤ times name (used_names m)
wire_used m name there =
    let names = map (λ (w : Wire). w.name) m.wires in
    omega (
      arith,
      times-append name (map (λ (p : Port). p.name) m.ports) (names ++ (filter_map item_name m.items ++ flat_map named_by m.items)),
      times-append name names (filter_map item_name m.items ++ flat_map named_by m.items),
    )

-- the wires of a module are used
pub wires_used : (m : Module) → AllByRecursion (λ (w : Wire). has_name (used_names m) w.name ≡ true) m.wires
wires_used m = along m.wires (each_there (map (λ (w : Wire). w.name) m.wires))
  where
    along : (ws : List Wire) → AllByRecursion (λ n. 1 ≤ times n (map (λ (w : Wire). w.name) m.wires)) (map (λ (w : Wire). w.name) ws) → AllByRecursion (λ (w : Wire). has_name (used_names m) w.name ≡ true) ws
    along [] all = tt
    along (w ∷ ws) all = (some_times w.name (used_names m) (wire_used m w.name all.0), along ws all.1)

pub kept_wires : {X : Type 0} (P : X → Type 0) (test : X → Bool) (xs : List X) → AllByRecursion (λ x. test x ≡ true → P x) xs → AllByRecursion P (filter test xs)
kept_wires P test [] all = tt
kept_wires P test (x ∷ xs) all = by (test x) refl (kept_wires P test xs all.1)
  where
    by : (b : Bool) → test x ≡ b → AllByRecursion P (filter test xs) → AllByRecursion P (cond b (x ∷ filter test xs) (filter test xs))
    by true e rest = (all.0 e, rest)
    by false e rest = rest

pub opened_is_tree : OpenedIsTree
opened_is_tree B k m sound is clear =
    let whole = clear_of B m clear in
    let all = all_items B m sound is (used_names m) m.items is.items whole.free in
    record {
      name = is.name;
      ports = all_between IsTreePort k m.ports (hidden_ports B m) is.ports (all_flat IsTreePort (item_ports B) m.items (all_to m.items (λ x tree. tree.ports) all));
      wires = all_kept IsTreeWire (is_kept_wire B m) m.wires is.wires;
      items = all_flat IsTreeItem (opened_item B m) m.items (all_to m.items (λ x tree. tree.items) all);
      own_nets = kept_wires (λ w. IsFalse (is_port_net (opened B k m).ports w)) (is_kept_wire B m) m.wires
          (all_to m.wires (λ w both kept. wire_apart B k m w both.0 whole both.1 kept)
          (all_both (λ (w : Wire). has_name (used_names m) w.name ≡ true) (λ w. IsFalse (is_port_net m.ports w)) m.wires (wires_used m) is.own_nets));
    }
