-- Cuts and hidden names of a closed module are without fault, and so are its boxes.
use Rattle.std.proofs.Common.{◌≡◌, ℕ, ◌+◌, ◌≤◌, Bool, true, false, not, ◌&&◌, ◌||◌, List, [], ◌∷◌, ◌++◌, map, drop, length, Option, Some, None, refl, sym, ap, subst, ◌∙◌, arith, append_assoc, if◌then◌else◌}
use Rattle.std.specs.Prelude.{nat_lt}
use Rattle.std.specs.List.{AllByRecursion, flat_map, filter_map, cons_option, list_any}
use Rattle.std.specs.Option.{option_map, option_map_or}
use Rattle.list_laws.proofs.Lists.{all_append, all_mapped}
use Rattle.list_laws.proofs.Tests.{neither}
use Rattle.list_laws.proofs.Options.{none_along}
use Rattle.verilog_tree.specs.declared.tree.Bit.{Bit}
use Rattle.verilog_tree.specs.declared.tree.Operand.{Operand}
use Rattle.verilog_tree.specs.declared.tree.Gate.{Gate}
use Rattle.verilog_tree.specs.declared.tree.Link.{Link}
use Rattle.verilog_tree.specs.declared.tree.Port.{Port}
use Rattle.verilog_tree.specs.declared.tree.Instance.{Instance}
use Rattle.verilog_tree.specs.declared.tree.Item.{Item}
use Rattle.verilog_tree.specs.declared.tree.Item.TheVariants as item
use Rattle.verilog_tree.specs.declared.tree.Module.{Module}
use Rattle.link_model.specs.Lists.{or_else, first_in, has_name, repeated}
use Rattle.link_model.specs.Faults.{item_name, names_of}
use Rattle.link_model.specs.declared.fault.LinkFault.TheVariants as fault
use Rattle.box_model.specs.declared.boxes.BoxLibrary.{BoxLibrary}
use Rattle.box_model.specs.declared.boxes.BoxPort.{BoxPort}
use Rattle.box_model.specs.declared.fault.BoxFault.{BoxFault}
use Rattle.box_model.specs.declared.fault.BoxFault.TheVariants.{BoxUnknown, BoxName}
use Rattle.box_model.specs.Ports.{cut_ports, hidden_name, linked_to}
use Rattle.box_model.specs.Opened.{is_joined}
use Rattle.box_model.specs.Closed.{has_port, own_ports, present_ports, closed, closed_items}
use Rattle.box_model.specs.Faults.{is_flop_of, unknown_cut, link_fault, named_by, used_names, is_bit_word, Hidden, hidden_of, item_hidden, is_bad_name, name_fault}
use Rattle.box_model.specs.Laws.{standing_of, item_standing, IsEmptyBox, IsInShape, ClosedIsClear}
use Rattle.box_model.proofs.Counting.{all_to, all_parts, passing, at_head, there_holds, times, times-append, times_none, none_times, AreOnce, once_of}
use Rattle.box_model.proofs.Between.{times_between}
use Rattle.box_model.proofs.Clear.{name_of, IsFree, all_none, names_free, names_once}
use Rattle.box_model.proofs.Returned.{all_unmapped, map_none}
use Rattle.box_model.proofs.Named.{port_name}
use Rattle.box_model.proofs.Halves.{map-flat_map}
use Rattle.box_model.proofs.Assigns.{IsAssign}
use Rattle.box_model.proofs.Items.{closed_none}
use Rattle.box_model.proofs.TreeNames.{all_kept}
use Rattle.box_model.proofs.Ways.{Way, Linked, Wired, way_port, ways}
use Rattle.box_model.proofs.WaysItems.{way_items, ways_are_assigns, is_there}
use Rattle.box_model.proofs.WaysLinks.{way_name, way_operand, way_link, closed_as, IsFine, way_linked, absent_linked, ways_from, ways_to}
use Rattle.box_model.proofs.Pieces.{taken, closed_cut, piece, AllTails, tails_of, tails_both, by_pieces, of_ways}
use Rattle.box_model.proofs.Lost.{wired_names, linked_names, all_lost}
use Rattle.box_model.proofs.Told.{wire_name, present_names}
use Rattle.box_model.proofs.Shape.{counted_of, every_tail, WayIsTold, Unnamed, all_unnamed, wires_times}
use Rattle.box_model.proofs.Reopened.{IsReady, all_ready, all_if}
use Rattle.box_model.proofs.GoodBits.{IsGoodItem, denotes_of}
use Rattle.box_model.proofs.ClosedLinks.{standings, PortsOnce, all_once, links_clear}

-- What the pieces keep.

-- a list that assigns give nothing to
keeps : {X : Type 0} (B : BoxLibrary) (m : Module) (f : Item → List X) → ((x : Item) → IsAssign x → f x ≡ []) → ((i : Instance) (ws : List Way) → f (item.Instance (closed_as i ws)) ≡ f (item.Instance i))
    → (items : List Item) → flat_map f (closed_items B m 0 items) ≡ flat_map f items
keeps {X = X} B m f none same items = by_pieces B m (λ x rest. Unit {0}) (λ xs. flat_map f (closed_items B m 0 xs) ≡ flat_map f xs) (record { none = refl; gate = gate; assign = assign; plain = plain; cut = cut }) items (every_tail items)
  where
    gate : (g : Gate) (xs : List Item) → flat_map f (closed_items B m 0 xs) ≡ flat_map f xs → flat_map f (closed_items B m 0 (item.Gate g ∷ xs)) ≡ flat_map f (item.Gate g ∷ xs)
    gate g xs rest = ap (λ (ys : List X). f (item.Gate g) ++ ys) rest

    assign : (output : Bit) (input : Operand) (xs : List Item) → flat_map f (closed_items B m 0 xs) ≡ flat_map f xs → flat_map f (closed_items B m 0 (item.Assign output input ∷ xs)) ≡ flat_map f (item.Assign output input ∷ xs)
    assign output input xs rest = ap (λ (ys : List X). f (item.Assign output input) ++ ys) rest

    plain : (i : Instance) (xs : List Item) → cut_ports B i ≡ None → flat_map f (closed_items B m 0 xs) ≡ flat_map f xs → flat_map f (closed_items B m 0 (item.Instance i ∷ xs)) ≡ flat_map f (item.Instance i ∷ xs)
    plain i xs e rest = ap (flat_map f) (closed_none B m i xs e) ∙ ap (λ (ys : List X). f (item.Instance i) ++ ys) rest

    skipped : (xs rest : List Item) → AllByRecursion IsAssign xs → flat_map f (xs ++ rest) ≡ flat_map f rest
    skipped [] rest all = refl
    skipped (x ∷ xs) rest all = ap (λ (ys : List X). ys ++ flat_map f (xs ++ rest)) (none x all.0) ∙ skipped xs rest all.1

    cut : (i : Instance) (ports : List BoxPort) (xs : List Item) → cut_ports B i ≡ Some ports → Unit {0} → flat_map f (closed_items B m 0 (drop (taken m i ports xs) xs)) ≡ flat_map f (drop (taken m i ports xs) xs)
        → flat_map f (closed_items B m 0 (item.Instance i ∷ xs)) ≡ flat_map f (item.Instance i ∷ xs)
    cut i ports xs e fact rest =
        let ws = ways m i false ports xs in
        let left = drop (taken m i ports xs) xs in
        ap (flat_map f) (closed_cut B m i ports xs e)
        ∙ ap (λ (ys : List X). ys ++ flat_map f (closed_items B m 0 left)) (same i ws)
        ∙ ap (λ (ys : List X). f (item.Instance i) ++ ys) (rest ∙ sym (skipped (flat_map (way_items i) ws) left (ways_are_assigns i ws)) ∙ ap (flat_map f) (piece B m i ports xs e))

-- Cuts.

-- an assign is no flip-flop, so it may be left out
abbrev flop_marks : BoxLibrary → List ℕ → Item → List Bool
flop_marks B name (item.Instance i) = is_flop_of B name (item.Instance i) ∷ []
flop_marks B name (item.Gate g) = []
flop_marks B name (item.Assign output input) = []

marks_flop : (B : BoxLibrary) (name : List ℕ) (items : List Item) → list_any (λ (b : Bool). b) (flat_map (flop_marks B name) items) ≡ list_any (is_flop_of B name) items
marks_flop B name [] = refl
marks_flop B name (item.Instance i ∷ items) = ap (λ (b : Bool). is_flop_of B name (item.Instance i) || b) (marks_flop B name items)
marks_flop B name (item.Gate g ∷ items) = marks_flop B name items
marks_flop B name (item.Assign output input ∷ items) = marks_flop B name items

flops_kept : (B : BoxLibrary) (m : Module) (name : List ℕ) → list_any (is_flop_of B name) (closed B m).items ≡ list_any (is_flop_of B name) m.items
flops_kept B m name =
    sym (marks_flop B name (closed B m).items)
    ∙ ap (list_any (λ (b : Bool). b)) (keeps B m (flop_marks B name) none (λ i ws. refl) m.items)
    ∙ marks_flop B name m.items
  where
    none : (x : Item) → IsAssign x → flop_marks B name x ≡ []
    none (item.Assign output input) is = refl
    none (item.Gate g) is = refl
    none (item.Instance i) is = absurd is

cuts_known : (B : BoxLibrary) (m : Module) → first_in (unknown_cut B m) B.cuts ≡ None → first_in (unknown_cut B (closed B m)) B.cuts ≡ None
cuts_known B m known = none_along (unknown_cut B (closed B m)) B.cuts (all_to B.cuts one (all_none (unknown_cut B m) B.cuts known))
  where
    one : (name : List ℕ) → unknown_cut B m name ≡ None → unknown_cut B (closed B m) name ≡ None
    one name k = ap (λ (b : Bool). if b then None else Some (BoxUnknown name)) (flops_kept B m name) ∙ k

-- Names of items.

abbrev item_names : Item → List (List ℕ)
item_names x = cons_option (item_name x) []

names_flat : (items : List Item) → filter_map item_name items ≡ flat_map item_names items
names_flat [] = refl
names_flat (item.Instance i ∷ items) = ap (λ (ns : List (List ℕ)). i.name ∷ ns) (names_flat items)
names_flat (item.Assign output input ∷ items) = names_flat items
names_flat (item.Gate g ∷ items) = by g.name (names_flat items)
  where
    by : (o : Option (List ℕ)) → filter_map item_name items ≡ flat_map item_names items → cons_option o (filter_map item_name items) ≡ cons_option o [] ++ flat_map item_names items
    by None rest = rest
    by (Some name) rest = ap (λ (ns : List (List ℕ)). name ∷ ns) rest

item_names_kept : (B : BoxLibrary) (m : Module) → filter_map item_name (closed B m).items ≡ filter_map item_name m.items
item_names_kept B m = names_flat (closed B m).items ∙ keeps B m item_names none (λ i ws. refl) m.items ∙ sym (names_flat m.items)
  where
    none : (x : Item) → IsAssign x → item_names x ≡ []
    none (item.Assign output input) is = refl
    none (item.Gate g) is = absurd is
    none (item.Instance i) is = absurd is

-- Hidden names.

-- names of an item's cut ports, whatever they are linked to
abbrev cut_names : BoxLibrary → Item → List (List ℕ)
cut_names B (item.Instance i) = option_map_or (map (λ (p : BoxPort). hidden_name i.name p.name)) (cut_ports B i) []
cut_names B (item.Gate g) = []
cut_names B (item.Assign output input) = []

names_mapped : {X : Type 0} (f : BoxPort → X) (g : X → List ℕ) (h : BoxPort → List ℕ) → ((p : BoxPort) → g (f p) ≡ h p) → (ports : List BoxPort) → map g (map f ports) ≡ map h ports
names_mapped f g h same [] = refl
names_mapped f g h same (p ∷ ports) = ap (λ (n : List ℕ). n ∷ map g (map f ports)) (same p) ∙ ap (λ (ns : List (List ℕ)). h p ∷ ns) (names_mapped f g h same ports)

hidden_cut : (B : BoxLibrary) (c : Module) (x : Item) → map name_of (item_hidden B c x) ≡ cut_names B x
hidden_cut B c (item.Gate g) = refl
hidden_cut B c (item.Assign output input) = refl
hidden_cut B c (item.Instance i) = by (cut_ports B i)
  where
    by : (o : Option (List BoxPort)) → map name_of (option_map_or (map (hidden_of c i)) o []) ≡ option_map_or (map (λ (p : BoxPort). hidden_name i.name p.name)) o []
    by None = refl
    by (Some ports) = names_mapped (hidden_of c i) name_of (λ (p : BoxPort). hidden_name i.name p.name) (λ p. refl) ports

standing_cut : (B : BoxLibrary) (m : Module) (x : Item) → map name_of (item_standing B m x) ≡ cut_names B x
standing_cut B m (item.Gate g) = refl
standing_cut B m (item.Assign output input) = refl
standing_cut B m (item.Instance i) = by (cut_ports B i)
  where
    by : (o : Option (List BoxPort)) → map name_of (option_map_or (map (standing_of B m i)) o []) ≡ option_map_or (map (λ (p : BoxPort). hidden_name i.name p.name)) o []
    by None = refl
    by (Some ports) = names_mapped (standing_of B m i) name_of (λ (p : BoxPort). hidden_name i.name p.name) (λ p. refl) ports

flat_same : {X Y : Type 0} (f g : X → List Y) → ((x : X) → f x ≡ g x) → (xs : List X) → flat_map f xs ≡ flat_map g xs
flat_same f g same [] = refl
flat_same {Y = Y} f g same (x ∷ xs) = ap (λ (ys : List Y). ys ++ flat_map f xs) (same x) ∙ ap (λ (ys : List Y). g x ++ ys) (flat_same f g same xs)

hidden_names : (B : BoxLibrary) (m : Module) → map name_of (flat_map (item_hidden B (closed B m)) (closed B m).items) ≡ standings B m
hidden_names B m =
    map-flat_map name_of (item_hidden B (closed B m)) (closed B m).items
    ∙ flat_same (λ x. map name_of (item_hidden B (closed B m) x)) (cut_names B) (hidden_cut B (closed B m)) (closed B m).items
    ∙ keeps B m (cut_names B) none (λ i ws. refl) m.items
    ∙ sym (flat_same (λ x. map name_of (item_standing B m x)) (cut_names B) (standing_cut B m) m.items)
    ∙ sym (map-flat_map name_of (item_standing B m) m.items)
  where
    none : (x : Item) → IsAssign x → cut_names B x ≡ []
    none (item.Assign output input) is = refl
    none (item.Gate g) is = refl
    none (item.Instance i) is = absurd is

-- Names that are used.

used_split : (m : Module) (name : List ℕ)
    → times name (used_names m) ≡ times name (map port_name m.ports) + (times name (map wire_name m.wires) + (times name (filter_map item_name m.items) + times name (flat_map named_by m.items)))
used_split m name =
    omega (
      arith,
      times-append name (map port_name m.ports) (map wire_name m.wires ++ (filter_map item_name m.items ++ flat_map named_by m.items)),
      times-append name (map wire_name m.wires) (filter_map item_name m.items ++ flat_map named_by m.items),
      times-append name (filter_map item_name m.items) (flat_map named_by m.items),
    )

-- a name stands once among a module's ports, wires and items
pub record IsApart (m : Module) : Type 0 where
  pub once : (name : List ℕ) → times name (map port_name m.ports) + times name (map wire_name m.wires) + times name (filter_map item_name m.items) ≤ 1

apart_of : (m : Module) → option_map fault.NameTwice (repeated (names_of m)) ≡ None → IsApart m
apart_of m h = record {
  once = λ name.
      let all = once_of (names_of m) (map_none fault.NameTwice (repeated (names_of m)) h) name in
      omega (arith, times-append name (map port_name m.ports ++ map wire_name m.wires) (filter_map item_name m.items), times-append name (map port_name m.ports) (map wire_name m.wires));
}

-- a port that comes back by a link is used no longer
linked_unused : (B : BoxLibrary) (k : ℕ) (m : Module) → IsInShape B k m → IsApart m → (name : List ℕ) → 1 ≤ times name (of_ways B m linked_names m.items) → Unnamed B m name → times name (used_names (closed B m)) ≡ 0
linked_unused B k m shape apart name there unnamed =
    let all = (counted_of B k m shape).once name in
    let names = apart.once name in
    let ports = ap (λ (ps : List Port). times name (map port_name ps)) shape.ports ∙ times_between name port_name k (own_ports B m) (present_ports B m) in
    omega (arith, used_split (closed B m) name, wires_times B m name, ports, present_names name B m m.items, ap (times name) (item_names_kept B m))

-- so is one that doesn't stand there and isn't used
absent_unused : (B : BoxLibrary) (k : ℕ) (m : Module) → IsInShape B k m → (name : List ℕ) → times name (used_names m) ≡ 0 → times name (used_names (closed B m)) ≡ 0
absent_unused B k m shape name none =
    let used = used_split m name in
    let ports = ap (λ (ps : List Port). times name (map port_name ps)) shape.ports ∙ times_between name port_name k (own_ports B m) (present_ports B m) in
    let wired : times name (of_ways B m wired_names m.items) ≡ 0 = omega (arith, used, ports, present_names name B m m.items) in
    let lost = all_lost B m name m.items (every_tail m.items) wired in
    omega (arith, used, ports, used_split (closed B m) name, wires_times B m name, ap (times name) (item_names_kept B m))

-- Free names.

way_free : (B : BoxLibrary) (k : ℕ) (m : Module) → IsInShape B k m → IsApart m → (i : Instance) (links : List Link) (w : Way) → linked_to links (way_name w) ≡ Some (way_operand i w) → WayIsTold B m i w → IsFine (closed B m) i w
    → AllByRecursion (Unnamed B m) (linked_names i (w ∷ [])) → has_port m (hidden_name i.name (way_name w)) ≡ true → IsFree (used_names m) (standing_of B m i (way_port w))
    → IsFree (used_names (closed B m)) (hidden_of (closed B m) (record i { links = links }) (way_port w))
way_free B k m shape apart i links (Wired p) linked told fine unnamed there free = record {
  short = free.short;
  apart = ap (λ (o : Option Operand). option_map_or (λ (y : Operand). list_any (is_bit_word (hidden_name i.name p.name) p.range) (own_ports B m)) o false) linked
      ∙ sym (ap (λ (b : Bool). b && list_any (is_bit_word (hidden_name i.name p.name) p.range) (own_ports B m)) there) ∙ free.apart;
  free = ap (λ (b : Bool). has_name (used_names (closed B m)) (hidden_name i.name p.name) && not b) (ap (λ (o : Option Operand). option_map_or (is_joined (closed B m) i p) o false) linked ∙ fine)
      ∙ never (has_name (used_names (closed B m)) (hidden_name i.name p.name));
}
  where
    never : (b : Bool) → (b && false) ≡ false
    never true = refl
    never false = refl
way_free B k m shape apart i links (Linked p os o) linked told fine unnamed there free = record {
  short = free.short;
  apart = ap (λ (l : Option Operand). option_map_or (λ (y : Operand). list_any (is_bit_word (hidden_name i.name p.name) p.range) (own_ports B m)) l false) linked
      ∙ sym (ap (λ (b : Bool). b && list_any (is_bit_word (hidden_name i.name p.name) p.range) (own_ports B m)) there) ∙ free.apart;
  free =
      let none = none_times (hidden_name i.name p.name) (used_names (closed B m)) (linked_unused B k m shape apart (hidden_name i.name p.name) told.0 unnamed.0) in
      ap (λ (b : Bool). b && not (option_map_or (is_joined (closed B m) i p) (linked_to links p.name) false)) none;
}

absent_free : (B : BoxLibrary) (k : ℕ) (m : Module) → IsInShape B k m → (i : Instance) (links : List Link) (p : BoxPort) → linked_to links p.name ≡ None → has_port m (hidden_name i.name p.name) ≡ false
    → IsFree (used_names m) (standing_of B m i p) → IsFree (used_names (closed B m)) (hidden_of (closed B m) (record i { links = links }) p)
absent_free B k m shape i links p linked never free =
    let name = hidden_name i.name p.name in
    let alone : has_name (used_names m) name ≡ false = one (has_name (used_names m) name) (sym (ap (λ (b : Bool). has_name (used_names m) name && not b) never) ∙ free.free) in
    let none = none_times name (used_names (closed B m)) (absent_unused B k m shape name (times_none name (used_names m) alone)) in
    record {
      short = free.short;
      apart = ap (λ (o : Option Operand). option_map_or (λ (y : Operand). list_any (is_bit_word name p.range) (own_ports B m)) o false) linked;
      free = ap (λ (b : Bool). b && not (option_map_or (is_joined (closed B m) i p) (linked_to links p.name) false)) none;
    }
  where
    one : (b : Bool) → (b && true) ≡ false → b ≡ false
    one true k = k
    one false k = refl

-- An instance's hidden names.

abbrev IsNamed : BoxLibrary → Module → Item → List Item → Type 0
IsNamed B m x rest = IsReady B m x rest × AllByRecursion (IsFree (used_names m)) (item_standing B m x)

ways_unnamed : (B : BoxLibrary) (m : Module) → AllByRecursion (Unnamed B m) (of_ways B m linked_names m.items) → (i : Instance) (ws : List Way) → AllByRecursion (WayIsTold B m i) ws
    → AllByRecursion (λ w. AllByRecursion (Unnamed B m) (linked_names i (w ∷ []))) ws
ways_unnamed B m all i [] told = tt
ways_unnamed B m all i (Wired p ∷ ws) told = (tt, ways_unnamed B m all i ws told.1)
ways_unnamed B m all i (Linked p os o ∷ ws) told = ((there_holds (Unnamed B m) (hidden_name i.name p.name) (of_ways B m linked_names m.items) all told.0.0, tt), ways_unnamed B m all i ws told.1)

ways_free : (B : BoxLibrary) (k : ℕ) (m : Module) → IsInShape B k m → IsApart m → (i : Instance) (links : List Link) (ws : List Way) → AllByRecursion (λ w. linked_to links (way_name w) ≡ Some (way_operand i w)) ws
    → AllByRecursion (WayIsTold B m i) ws → AllByRecursion (IsFine (closed B m) i) ws → AllByRecursion (λ w. AllByRecursion (Unnamed B m) (linked_names i (w ∷ []))) ws
    → AllByRecursion (λ w. is_there m i (way_port w) ≡ true) ws → AllByRecursion (λ w. IsFree (used_names m) (standing_of B m i (way_port w))) ws
    → AllByRecursion (λ w. IsFree (used_names (closed B m)) (hidden_of (closed B m) (record i { links = links }) (way_port w))) ws
ways_free B k m shape apart i links [] linked told fine unnamed there standing = tt
ways_free B k m shape apart i links (w ∷ ws) linked told fine unnamed there standing =
    (way_free B k m shape apart i links w linked.0 told.0 fine.0 unnamed.0 there.0 standing.0, ways_free B k m shape apart i links ws linked.1 told.1 fine.1 unnamed.1 there.1 standing.1)

every_free : (B : BoxLibrary) (k : ℕ) (m : Module) → IsInShape B k m → (i : Instance) (links : List Link) (ports : List BoxPort) → AllByRecursion (λ (p : BoxPort). is_there m i p ≡ false → linked_to links p.name ≡ None) ports
    → AllByRecursion (λ p. is_there m i p ≡ true → IsFree (used_names (closed B m)) (hidden_of (closed B m) (record i { links = links }) p)) ports
    → AllByRecursion (λ p. IsFree (used_names m) (standing_of B m i p)) ports → AllByRecursion (λ p. IsFree (used_names (closed B m)) (hidden_of (closed B m) (record i { links = links }) p)) ports
every_free B k m shape i links [] absent there standing = tt
every_free B k m shape i links (p ∷ ports) absent there standing = (by (is_there m i p) refl, every_free B k m shape i links ports absent.1 there.1 standing.1)
  where
    by : (b : Bool) → is_there m i p ≡ b → IsFree (used_names (closed B m)) (hidden_of (closed B m) (record i { links = links }) p)
    by true e = there.0 e
    by false e = absent_free B k m shape i links p (absent.0 e) e standing.0

cut_free : (B : BoxLibrary) (k : ℕ) (m : Module) → IsInShape B k m → IsApart m → (i : Instance) (ports : List BoxPort) (xs : List Item) → cut_ports B i ≡ Some ports → IsNamed B m (item.Instance i) xs
    → AllByRecursion (λ p. IsFree (used_names (closed B m)) (hidden_of (closed B m) (closed_as i (ways m i false ports xs)) p)) ports
cut_free B k m shape apart i ports xs e named =
    let ws = ways m i false ports xs in
    let links = i.links ++ map (way_link i) ws in
    let laid = named.0.0 ports e in
    let fine = named.0.1 ports e in
    let Here : BoxPort → Type 0 = λ p. IsFree (used_names (closed B m)) (hidden_of (closed B m) (closed_as i ws) p) in
    let standing = all_unmapped (IsFree (used_names m)) (standing_of B m i) ports
    (subst (λ (o : Option (List BoxPort)). AllByRecursion (IsFree (used_names m)) (option_map_or (map (standing_of B m i)) o [])) e named.1) in
    let unnamed = ways_unnamed B m (all_unnamed B m (counted_of B k m shape)) i ws fine.told in
    let there = ways_from (λ p. is_there m i p ≡ true) m i ports xs (passing (is_there m i) ports) in
    let stands = ways_from (λ p. IsFree (used_names m) (standing_of B m i p)) m i ports xs (all_kept (λ p. IsFree (used_names m) (standing_of B m i p)) (is_there m i) ports standing) in
    every_free B k m shape i links ports (absent_linked m i ports xs laid)
    (all_if Here (is_there m i) ports (ways_to Here m i ports xs (ways_free B k m shape apart i links ws (way_linked m i ports xs laid) fine.told fine.fine unnamed there stands)))
    standing

abbrev NamesFree : BoxLibrary → Module → List Item → Type 0
NamesFree B m items = AllByRecursion (IsFree (used_names (closed B m))) (flat_map (item_hidden B (closed B m)) (closed_items B m 0 items))

names_clear : (B : BoxLibrary) (k : ℕ) (m : Module) → IsInShape B k m → IsApart m → (items : List Item) → AllTails (IsNamed B m) items → NamesFree B m items
names_clear B k m shape apart items all = by_pieces B m (IsNamed B m) (NamesFree B m) (record { none = tt; gate = λ g xs rest. rest; assign = λ output input xs rest. rest; plain = plain; cut = cut }) items all
  where
    plain : (i : Instance) (xs : List Item) → cut_ports B i ≡ None → NamesFree B m xs → NamesFree B m (item.Instance i ∷ xs)
    plain i xs e rest =
        subst (λ (ys : List Item). AllByRecursion (IsFree (used_names (closed B m))) (flat_map (item_hidden B (closed B m)) ys)) (sym (closed_none B m i xs e))
        (subst (λ (o : Option (List BoxPort)). AllByRecursion (IsFree (used_names (closed B m))) (option_map_or (map (hidden_of (closed B m) i)) o [] ++ flat_map (item_hidden B (closed B m)) (closed_items B m 0 xs))) (sym e) rest)

    cut : (i : Instance) (ports : List BoxPort) (xs : List Item) → cut_ports B i ≡ Some ports → IsNamed B m (item.Instance i) xs → NamesFree B m (drop (taken m i ports xs) xs) → NamesFree B m (item.Instance i ∷ xs)
    cut i ports xs e named rest =
        let ws = ways m i false ports xs in
        let left = drop (taken m i ports xs) xs in
        let more = flat_map (item_hidden B (closed B m)) (closed_items B m 0 left) in
        let mine = map (hidden_of (closed B m) (closed_as i ws)) ports in
        subst (λ (ys : List Item). AllByRecursion (IsFree (used_names (closed B m))) (flat_map (item_hidden B (closed B m)) ys)) (sym (closed_cut B m i ports xs e))
        (subst (λ (o : Option (List BoxPort)). AllByRecursion (IsFree (used_names (closed B m))) (option_map_or (map (hidden_of (closed B m) (closed_as i ws))) o [] ++ more)) (sym e)
        (all_append (IsFree (used_names (closed B m))) mine more (all_mapped (IsFree (used_names (closed B m))) (hidden_of (closed B m) (closed_as i ws)) ports (cut_free B k m shape apart i ports xs e named)) rest))

-- free names that stand once are no fault
free_names : (used before : List (List ℕ)) (hs : List Hidden) → AllByRecursion (IsFree used) hs → AreOnce (before ++ map name_of hs) → name_fault used before hs ≡ None
free_names used before [] free once = refl
free_names used before (h ∷ hs) free once =
    let long = nat_lt 255 (length h.name) in
    let taken_name = has_name used h.name && not h.joined in
    let came = has_name before h.name in
    let head = at_head h.name (map name_of hs) in
    let none : times h.name before ≡ 0 = (let all = once h.name in omega (arith, times-append h.name before (h.name ∷ map name_of hs))) in
    let good : is_bad_name used before h ≡ false =
    neither long (h.clashes || (taken_name || came)) free.0.short
    (neither h.clashes (taken_name || came) free.0.apart (neither taken_name came free.0.free (none_times h.name before none))) in
    ap (λ (b : Bool). if b then Some (BoxName h.name) else name_fault used (before ++ h.name ∷ []) hs) good
    ∙ free_names used (before ++ h.name ∷ []) hs free.1 (λ name. subst (λ (l : List (List ℕ)). times name l ≤ 1) (sym (append_assoc before (h.name ∷ []) (map name_of hs))) (once name))

-- The whole.

tails_rest : (P : Item → Type 0) (xs : List Item) → AllByRecursion P xs → AllTails (λ x rest. AllByRecursion P rest) xs
tails_rest P [] all = tt
tails_rest P (x ∷ xs) all = (all.1, tails_rest P xs all.1)

standing_parts : (B : BoxLibrary) (m : Module) (items : List Item) → AllByRecursion (IsFree (used_names m)) (flat_map (item_standing B m) items) → AllByRecursion (λ x. AllByRecursion (IsFree (used_names m)) (item_standing B m x)) items
standing_parts B m items all = all_parts (IsFree (used_names m)) (item_standing B m) items all

pub closed_is_clear : ClosedIsClear
closed_is_clear B k m shape can =
    let denotes = denotes_of B.cells m can.denotes in
    let apart = apart_of m denotes.named in
    let once = names_once (used_names m) [] (flat_map (item_standing B m) m.items) can.names (λ name. omega arith) in
    let free = names_free (used_names m) [] (flat_map (item_standing B m) m.items) can.names in
    let ready = all_ready B k m shape in
    let sound = tails_both (IsReady B m) (λ x rest. AllByRecursion (IsGoodItem m) rest × (IsEmptyBox B x × PortsOnce B x)) m.items ready
    (tails_both (λ x rest. AllByRecursion (IsGoodItem m) rest) (λ x rest. IsEmptyBox B x × PortsOnce B x) m.items (tails_rest (IsGoodItem m) m.items denotes.good)
    (tails_both (λ x rest. IsEmptyBox B x) (λ x rest. PortsOnce B x) m.items (tails_of (IsEmptyBox B) m.items can.empty) (tails_of (PortsOnce B) m.items (all_once B m once)))) in
    let named = tails_both (IsReady B m) (λ x rest. AllByRecursion (IsFree (used_names m)) (item_standing B m x)) m.items ready
    (tails_of (λ x. AllByRecursion (IsFree (used_names m)) (item_standing B m x)) m.items (standing_parts B m m.items free)) in
    let c = closed B m in
    let names = free_names (used_names c) [] (flat_map (item_hidden B c) c.items) (names_clear B k m shape apart m.items named) (λ name. subst (λ (l : List (List ℕ)). times name l ≤ 1) (sym (hidden_names B m)) (once name)) in
    let links = none_along (link_fault B c) c.items (links_clear B k m shape m.items sound) in
    ap (λ (o : Option BoxFault). or_else o (or_else (first_in (link_fault B c) c.items) (name_fault (used_names c) [] (flat_map (item_hidden B c) c.items)))) (cuts_known B m can.cuts)
    ∙ ap (λ (o : Option BoxFault). or_else o (name_fault (used_names c) [] (flat_map (item_hidden B c) c.items))) links
    ∙ names
