-- Cells and nets of an opened module, counted before it is made.
use Rattle.std.proofs.Common.{◌≡◌, ℕ, zero, suc, ◌+◌, ◌≤◌, Bool, true, false, not, cond, ◌&&◌, ◌||◌, List, [], ◌∷◌, ◌++◌, map, length, sum_by, count_by, Option, Some, None, refl, sym, ap, ◌∙◌, arith, length-append, eqb-true, if◌then◌else◌, ◌==◌}
use Rattle.std.specs.Prelude.{filter, slice_get}
use Rattle.std.specs.List.{AllByRecursion, flat_map, filter_map, cons_option, list_any}
use Rattle.std.specs.Option.{option_map, option_map_or}
use Rattle.std.specs.Str.{bytes_eq}
use Rattle.std.proofs.lemmas.List.Folds.{list_any-append}
use Rattle.std.proofs.lemmas.List.Sums.{sum_by-cons, sum_by-append}
use Rattle.std.proofs.lemmas.Slice.Eq.{bytes_eq-Decides}
use Rattle.list_laws.proofs.Bytes.{bytes_eq-same, bytes_eq-sym}
use Rattle.list_laws.proofs.Lists.{all_append}
use Rattle.list_laws.proofs.Tests.{and_left, and_right, or_false}
use Rattle.verilog_tree.specs.declared.tree.Range.{Range}
use Rattle.verilog_tree.specs.declared.tree.Operand.{Operand}
use Rattle.verilog_tree.specs.declared.tree.Port.{Port}
use Rattle.verilog_tree.specs.declared.tree.Wire.{Wire}
use Rattle.verilog_tree.specs.declared.tree.Instance.{Instance}
use Rattle.verilog_tree.specs.declared.tree.Item.{Item}
use Rattle.verilog_tree.specs.declared.tree.Item.TheVariants as item
use Rattle.verilog_tree.specs.declared.tree.Module.{Module}
use Rattle.verilog_tree.specs.Trees.{range_eq}
use Rattle.link_model.specs.Lists.{has_name}
use Rattle.link_model.specs.Nets.{NetDeclaration, port_nets, wire_nets, declared_nets, bits_in, width}
use Rattle.box_model.specs.declared.boxes.BoxLibrary.{BoxLibrary}
use Rattle.box_model.specs.declared.boxes.BoxPort.{BoxPort}
use Rattle.box_model.specs.Ports.{cut_ports, hidden_name, hidden_port, hidden_bits, linked_to}
use Rattle.box_model.specs.Opened.{is_wire_as, names_whole, is_declared_as, is_joined, link_bits, assigns, port_items, opened_instance, opened_item, hidden_at, item_ports, hidden_ports, joins_port, joins_item, is_kept_wire, opened}
use Rattle.box_model.specs.Counts.{parted_at, parted_bits}
use Rattle.box_model.specs.Faults.{fits_operand, hidden_of, item_hidden}
use Rattle.box_model.specs.Laws.{OpenedItemsAreCounted, OpenedNetsAreCounted}
use Rattle.box_model.proofs.Counting.{times, times-map-append, none_times, at_head, AreOnce, weight_of}
use Rattle.box_model.proofs.Between.{between}
use Rattle.box_model.proofs.Clear.{name_of, IsClear, clear_of}
use Rattle.box_model.proofs.LinkFits.{fits_linked, fits_wide, length-bits_of}
use Rattle.box_model.proofs.Back.{as_many}
use Rattle.box_model.proofs.Named.{port_name}
use Rattle.box_model.proofs.Returned.{all_by_places, each_fits}
use Rattle.box_model.proofs.Told.{wire_name, declared_count}
use Rattle.box_model.proofs.Shape.{no_wire}
use Rattle.box_model.proofs.ClosedLinks.{range_is}

-- Items.

-- each linked port of an item fits
abbrev ItemFits : BoxLibrary → Module → Item → Type 0
ItemFits B m (item.Instance i) = (ports : List BoxPort) → cut_ports B i ≡ Some ports → AllByRecursion (λ (p : BoxPort). (o : Operand) → linked_to i.links p.name ≡ Some o → fits_operand m p o ≡ true) ports
ItemFits B m (item.Gate g) = Unit {0}
ItemFits B m (item.Assign output input) = Unit {0}

all_fit : (B : BoxLibrary) (m : Module) → IsClear B m → AllByRecursion (ItemFits B m) m.items
all_fit B m clear = all_by_places (ItemFits B m) m.items one
  where
    one : (k : ℕ) (x : Item) → slice_get m.items k ≡ Some x → ItemFits B m x
    one k (item.Gate g) at = tt
    one k (item.Assign output input) at = tt
    one k (item.Instance i) at = λ ports e. each_fits B m clear k i ports at e

port_items_counted : (m : Module) (i : Instance) (p : BoxPort) → ((o : Operand) → linked_to i.links p.name ≡ Some o → fits_operand m p o ≡ true) → length (port_items m i p) ≡ parted_at m i p
port_items_counted m i p fits = by (linked_to i.links p.name) refl
  where
    chosen : (o : Operand) → fits_operand m p o ≡ true → (b : Bool) → length (if b then [] else assigns p.dir (hidden_bits i p) (link_bits m p o)) ≡ (if b then 0 else width p.range)
    chosen o good true = refl
    chosen o good false =
        as_many p.dir (hidden_bits i p) (link_bits m p o) (fits_linked m p o good) (fits_wide m p o good ∙ sym (length-bits_of (hidden_name i.name p.name) p.range)) ∙ fits_wide m p o good

    by : (l : Option Operand) → linked_to i.links p.name ≡ l
        → length (option_map_or (λ o. if is_joined m i p o then [] else assigns p.dir (hidden_bits i p) (link_bits m p o)) l []) ≡ option_map_or (λ (o : Operand). if is_joined m i p o then 0 else width p.range) l 0
    by None e = refl
    by (Some o) e = chosen o (fits o e) (is_joined m i p o)

ports_counted : (m : Module) (i : Instance) (ports : List BoxPort) → AllByRecursion (λ (p : BoxPort). (o : Operand) → linked_to i.links p.name ≡ Some o → fits_operand m p o ≡ true) ports
    → length (flat_map (port_items m i) ports) ≡ sum_by (parted_at m i) ports
ports_counted m i [] fits = refl
ports_counted m i (p ∷ ports) fits =
    omega (arith, length-append (port_items m i p) (flat_map (port_items m i) ports), port_items_counted m i p fits.0, ports_counted m i ports fits.1, sum_by-cons (parted_at m i) p ports)

item_counted : (B : BoxLibrary) (m : Module) (x : Item) → ItemFits B m x → length (opened_item B m x) ≡ parted_bits B m x + 1
item_counted B m (item.Gate g) fits = refl
item_counted B m (item.Assign output input) fits = refl
item_counted B m (item.Instance i) fits = by (cut_ports B i) refl
  where
    by : (o : Option (List BoxPort)) → cut_ports B i ≡ o → length (option_map_or (opened_instance m i) o (item.Instance i ∷ [])) ≡ option_map_or (λ (ports : List BoxPort). sum_by (parted_at m i) ports) o 0 + 1
    by None e = refl
    by (Some ports) e = omega (arith, ports_counted m i ports (fits ports e))

items_counted : (B : BoxLibrary) (m : Module) (items : List Item) → AllByRecursion (ItemFits B m) items → length (flat_map (opened_item B m) items) ≡ sum_by (parted_bits B m) items + length items
items_counted B m [] fits = refl
items_counted B m (x ∷ items) fits =
    omega (arith, length-append (opened_item B m x) (flat_map (opened_item B m) items), item_counted B m x fits.0, items_counted B m items fits.1, sum_by-cons (parted_bits B m) x items)

pub opened_items_are_counted : OpenedItemsAreCounted
opened_items_are_counted B k m clear = items_counted B m m.items (all_fit B m (clear_of B m clear))

-- Widths.

abbrev ports_wide : List Port → ℕ
ports_wide [] = 0
ports_wide (p ∷ ports) = width p.range + ports_wide ports

abbrev wires_wide : List Wire → ℕ
wires_wide [] = 0
wires_wide (w ∷ wires) = width w.range + wires_wide wires

port_bits_in : (ports : List Port) → bits_in (map port_nets ports) ≡ ports_wide ports
port_bits_in [] = refl
port_bits_in (p ∷ ports) = sum_by-cons (λ (n : NetDeclaration). width n.range) (port_nets p) (map port_nets ports) ∙ ap (λ (n : ℕ). width p.range + n) (port_bits_in ports)

wire_bits_in : (wires : List Wire) → bits_in (map wire_nets wires) ≡ wires_wide wires
wire_bits_in [] = refl
wire_bits_in (w ∷ wires) = sum_by-cons (λ (n : NetDeclaration). width n.range) (wire_nets w) (map wire_nets wires) ∙ ap (λ (n : ℕ). width w.range + n) (wire_bits_in wires)

declared_wide : (ports : List Port) (wires : List Wire) → bits_in (map port_nets ports ++ map wire_nets wires) ≡ ports_wide ports + wires_wide wires
declared_wide ports wires =
    sum_by-append (λ (n : NetDeclaration). width n.range) (map port_nets ports) (map wire_nets wires)
    ∙ ap (λ (n : ℕ). n + bits_in (map wire_nets wires)) (port_bits_in ports) ∙ ap (λ (n : ℕ). ports_wide ports + n) (wire_bits_in wires)

wide-append : (xs ys : List Port) → ports_wide (xs ++ ys) ≡ ports_wide xs + ports_wide ys
wide-append [] ys = omega arith
wide-append (x ∷ xs) ys = omega (arith, wide-append xs ys)

wide_between : (k : ℕ) (xs ys : List Port) → ports_wide (between k xs ys) ≡ ports_wide ys + ports_wide xs
wide_between zero xs ys = wide-append ys xs
wide_between (suc k) [] ys = wide-append ys []
wide_between (suc k) (x ∷ xs) ys = omega (arith, wide_between k xs ys)

-- Ports that are joined.

abbrev joined_at : Module → Instance → BoxPort → List Port
joined_at m i p = if option_map_or (is_joined m i p) (linked_to i.links p.name) false then hidden_port i p ∷ [] else []

abbrev item_joined : BoxLibrary → Module → Item → List Port
item_joined B m (item.Instance i) = option_map_or (flat_map (joined_at m i)) (cut_ports B i) []
item_joined B m (item.Gate g) = []
item_joined B m (item.Assign output input) = []

abbrev joined_ports : BoxLibrary → Module → List Item → List Port
joined_ports B m items = flat_map (item_joined B m) items

-- a hidden port's bits are put behind the instance, or it is joined
ports_split : (m : Module) (i : Instance) (ports : List BoxPort) → ports_wide (filter_map (hidden_at i) ports) ≡ sum_by (parted_at m i) ports + ports_wide (flat_map (joined_at m i) ports)
ports_split m i [] = refl
ports_split m i (p ∷ ports) =
    by (linked_to i.links p.name) (ports_split m i ports)
    ∙ ap (λ (n : ℕ). n + ports_wide (joined_at m i p ++ flat_map (joined_at m i) ports)) (sym (sum_by-cons (parted_at m i) p ports))
  where
    chosen : (b : Bool) (n s j : ℕ) (more : List Port) → n ≡ s + ports_wide more → width p.range + n ≡ (if b then 0 else width p.range) + s + ports_wide ((if b then hidden_port i p ∷ [] else []) ++ more)
    chosen true n s j more e = omega arith
    chosen false n s j more e = omega arith

    by : (l : Option Operand) → ports_wide (filter_map (hidden_at i) ports) ≡ sum_by (parted_at m i) ports + ports_wide (flat_map (joined_at m i) ports)
        → ports_wide (cons_option (option_map (λ (o : Operand). hidden_port i p) l) (filter_map (hidden_at i) ports))
        ≡ option_map_or (λ (o : Operand). if is_joined m i p o then 0 else width p.range) l 0 + sum_by (parted_at m i) ports
        + ports_wide ((if option_map_or (is_joined m i p) l false then hidden_port i p ∷ [] else []) ++ flat_map (joined_at m i) ports)
    by None e = omega (arith, e)
    by (Some o) e = chosen (is_joined m i p o) (ports_wide (filter_map (hidden_at i) ports)) (sum_by (parted_at m i) ports) 0 (flat_map (joined_at m i) ports) e

item_split : (B : BoxLibrary) (m : Module) (x : Item) → ports_wide (item_ports B x) ≡ parted_bits B m x + ports_wide (item_joined B m x)
item_split B m (item.Gate g) = refl
item_split B m (item.Assign output input) = refl
item_split B m (item.Instance i) = by (cut_ports B i)
  where
    by : (o : Option (List BoxPort)) → ports_wide (option_map_or (filter_map (hidden_at i)) o []) ≡ option_map_or (λ (ports : List BoxPort). sum_by (parted_at m i) ports) o 0 + ports_wide (option_map_or (flat_map (joined_at m i)) o [])
    by None = refl
    by (Some ports) = ports_split m i ports

hidden_split : (B : BoxLibrary) (m : Module) (items : List Item) → ports_wide (flat_map (item_ports B) items) ≡ sum_by (parted_bits B m) items + ports_wide (joined_ports B m items)
hidden_split B m [] = refl
hidden_split B m (x ∷ items) =
    omega (
      arith,
      wide-append (item_ports B x) (flat_map (item_ports B) items),
      item_split B m x,
      hidden_split B m items,
      sum_by-cons (parted_bits B m) x items,
      wide-append (item_joined B m x) (joined_ports B m items),
    )

-- Wires that join.

has_named : (qs : List Port) (name : List ℕ) → has_name (map port_name qs) name ≡ list_any (λ (q : Port). bytes_eq name q.name) qs
has_named [] name = refl
has_named (q ∷ qs) name = ap (λ (b : Bool). bytes_eq name q.name || b) (has_named qs name)

port_joins : (m : Module) (w : Wire) (i : Instance) (p : BoxPort) → joins_port m w i p ≡ list_any (λ (q : Port). bytes_eq w.name q.name) (joined_at m i p)
port_joins m w i p = by (option_map_or (is_joined m i p) (linked_to i.links p.name) false) (bytes_eq w.name (hidden_name i.name p.name)) refl
  where
    by : (joined same : Bool) → bytes_eq w.name (hidden_name i.name p.name) ≡ same → (bytes_eq w.name (hidden_name i.name p.name) && joined) ≡ list_any (λ (q : Port). bytes_eq w.name q.name) (if joined then hidden_port i p ∷ [] else [])
    by true true e = rw e refl
    by true false e = rw e refl
    by false true e = rw e refl
    by false false e = rw e refl

-- a wire joins a port exactly where it has its name
joins_named : (B : BoxLibrary) (m : Module) (w : Wire) (items : List Item) → list_any (joins_item B m w) items ≡ has_name (map port_name (joined_ports B m items)) w.name
joins_named B m w items = along items ∙ sym (has_named (joined_ports B m items) w.name)
  where
    ports : (i : Instance) (ps : List BoxPort) → list_any (joins_port m w i) ps ≡ list_any (λ (q : Port). bytes_eq w.name q.name) (flat_map (joined_at m i) ps)
    ports i [] = refl
    ports i (p ∷ ps) =
        ap (λ (b : Bool). b || list_any (joins_port m w i) ps) (port_joins m w i p) ∙ ap (λ (b : Bool). list_any (λ (q : Port). bytes_eq w.name q.name) (joined_at m i p) || b) (ports i ps)
        ∙ sym (list_any-append (λ (q : Port). bytes_eq w.name q.name) (joined_at m i p) (flat_map (joined_at m i) ps))

    cut : (i : Instance) (o : Option (List BoxPort)) → option_map_or (list_any (joins_port m w i)) o false ≡ list_any (λ (q : Port). bytes_eq w.name q.name) (option_map_or (flat_map (joined_at m i)) o [])
    cut i None = refl
    cut i (Some ps) = ports i ps

    one : (x : Item) → joins_item B m w x ≡ list_any (λ (q : Port). bytes_eq w.name q.name) (item_joined B m x)
    one (item.Gate g) = refl
    one (item.Assign output input) = refl
    one (item.Instance i) = cut i (cut_ports B i)

    along : (xs : List Item) → list_any (joins_item B m w) xs ≡ list_any (λ (q : Port). bytes_eq w.name q.name) (joined_ports B m xs)
    along [] = refl
    along (x ∷ xs) =
        ap (λ (b : Bool). b || list_any (joins_item B m w) xs) (one x) ∙ ap (λ (b : Bool). list_any (λ (q : Port). bytes_eq w.name q.name) (item_joined B m x) || b) (along xs)
        ∙ sym (list_any-append (λ (q : Port). bytes_eq w.name q.name) (item_joined B m x) (joined_ports B m xs))

-- the width of the wires that have one of these names
abbrev named_wide : List (List ℕ) → List Wire → ℕ
named_wide names [] = 0
named_wide names (w ∷ wires) = cond (has_name names w.name) (width w.range) 0 + named_wide names wires

abbrev wire_weight : List ℕ → List Wire → ℕ
wire_weight name wires = weight_of wire_name (λ w. width w.range) name wires

wires_split : (names : List (List ℕ)) (wires : List Wire) → wires_wide wires ≡ wires_wide (filter (λ w. not (has_name names w.name)) wires) + named_wide names wires
wires_split names [] = refl
wires_split names (w ∷ wires) = by (has_name names w.name) (wires_split names wires)
  where
    by : (b : Bool) → wires_wide wires ≡ wires_wide (filter (λ v. not (has_name names v.name)) wires) + named_wide names wires
        → width w.range + wires_wide wires
        ≡ wires_wide (cond (not b) (w ∷ filter (λ v. not (has_name names v.name)) wires) (filter (λ v. not (has_name names v.name)) wires)) + (cond b (width w.range) 0 + named_wide names wires)
    by true e = omega (arith, e)
    by false e = omega (arith, e)

named_none : (wires : List Wire) → named_wide [] wires ≡ 0
named_none [] = refl
named_none (w ∷ wires) = omega (arith, named_none wires)

-- one more name
named_more : (name : List ℕ) (names : List (List ℕ)) → times name names ≡ 0 → (wires : List Wire) → named_wide (name ∷ names) wires ≡ wire_weight name wires + named_wide names wires
named_more name names none [] = refl
named_more name names none (w ∷ wires) = by (bytes_eq w.name name) (has_name names w.name) refl refl (bytes_eq-sym name w.name) (named_more name names none wires)
  where
    by : (a b : Bool) → bytes_eq w.name name ≡ a → has_name names w.name ≡ b → bytes_eq name w.name ≡ bytes_eq w.name name → named_wide (name ∷ names) wires ≡ wire_weight name wires + named_wide names wires
        → cond (bytes_eq w.name name || has_name names w.name) (width w.range) 0 + named_wide (name ∷ names) wires
        ≡ cond (bytes_eq name w.name) (width w.range) 0 + wire_weight name wires + (cond (has_name names w.name) (width w.range) 0 + named_wide names wires)
    by true true e f other rest =
        absurd (let here : has_name names name ≡ true = ap (has_name names) (sym ((bytes_eq-Decides w.name name).0 e)) ∙ f in let never = none_times name names none in let no_way : true ≡ false = sym here ∙ never in cc)
    by true false e f other rest = rw (other, e, f) (omega (arith, rest))
    by false b e f other rest = rw (other, e) (omega (arith, rest))

-- where each name is that of one wire
named_all : (wires : List Wire) (qs : List Port) → AreOnce (map port_name qs) → AllByRecursion (λ (q : Port). wire_weight q.name wires ≡ width q.range) qs → named_wide (map port_name qs) wires ≡ ports_wide qs
named_all wires [] once each = named_none wires
named_all wires (q ∷ qs) once each =
    let all = once q.name in
    let head = at_head q.name (map port_name qs) in
    let alone : times q.name (map port_name qs) ≡ 0 = (let same = bytes_eq-same q.name in let two = rw same at all in omega arith) in
    omega (arith, named_more q.name (map port_name qs) alone wires, each.0, named_all wires qs (λ name. let more = once name in omega arith) each.1)

-- Joined ports have one wire each.

no_weight : (name : List ℕ) (wires : List Wire) → times name (map wire_name wires) ≡ 0 → wire_weight name wires ≡ 0
no_weight name [] none = refl
no_weight name (w ∷ wires) none = by (bytes_eq name w.name) none (no_weight name wires)
  where
    by : (b : Bool) → cond b 1 0 + times name (map wire_name wires) ≡ 0 → (times name (map wire_name wires) ≡ 0 → wire_weight name wires ≡ 0) → cond b (width w.range) 0 + wire_weight name wires ≡ 0
    by true k rest = absurd (omega arith)
    by false k rest = let more = rest (omega arith) in omega arith

one_wire : (name : List ℕ) (range : Option Range) (wires : List Wire) → list_any (is_wire_as name range) wires ≡ true → times name (map wire_name wires) ≤ 1 → wire_weight name wires ≡ width range
one_wire name range [] there once = absurd (cc)
one_wire name range (w ∷ wires) there once = by (bytes_eq name w.name) (bytes_eq-sym w.name name) once (one_wire name range wires)
  where
    by : (b : Bool) → bytes_eq w.name name ≡ b → cond b 1 0 + times name (map wire_name wires) ≤ 1
        → (list_any (is_wire_as name range) wires ≡ true → times name (map wire_name wires) ≤ 1 → wire_weight name wires ≡ width range) → cond b (width w.range) 0 + wire_weight name wires ≡ width range
    by true e few rest =
        let none = no_wire name range wires (omega arith) in
        let here : range_eq w.range range ≡ true =
        sym (ap (λ (b : Bool). (b && range_eq w.range range) || list_any (is_wire_as name range) wires) e ∙ ap (λ (b : Bool). range_eq w.range range || b) none ∙ or_false (range_eq w.range range)) ∙ there in
        let same : width w.range ≡ width range = ap width (range_is w.range range here) in
        let less = no_weight name wires (omega arith) in
        omega arith
    by false e few rest =
        let more : list_any (is_wire_as name range) wires ≡ true = sym (ap (λ (b : Bool). (b && range_eq w.range range) || list_any (is_wire_as name range) wires) e) ∙ there in
        let same = rest more (omega arith) in
        omega arith

join_weighs : (m : Module) (i : Instance) (p : BoxPort) (o : Operand) → is_joined m i p o ≡ true → wire_weight (hidden_name i.name p.name) m.wires ≡ width p.range
join_weighs m i p o joined =
    let name = hidden_name i.name p.name in
    let wire = list_any (is_wire_as name p.range) m.wires in
    let once = count_by (is_declared_as name) (declared_nets m) == 1 in
    let parts = and_right (names_whole name o) (wire && once) joined in
    let one = eqb-true (count_by (is_declared_as name) (declared_nets m)) 1 (and_right wire once parts) in
    let few : times name (map wire_name m.wires) ≤ 1 = omega (arith, declared_count name m.ports m.wires) in
    one_wire name p.range m.wires (and_left wire once parts) few

abbrev Weighs : Module → Port → Type 0
Weighs m q = wire_weight q.name m.wires ≡ width q.range

joined_weigh : (B : BoxLibrary) (m : Module) (items : List Item) → AllByRecursion (Weighs m) (joined_ports B m items)
joined_weigh B m [] = tt
joined_weigh B m (x ∷ items) = all_append (Weighs m) (item_joined B m x) (joined_ports B m items) (one x) (joined_weigh B m items)
  where
    port : (i : Instance) (p : BoxPort) → AllByRecursion (Weighs m) (joined_at m i p)
    port i p = by (linked_to i.links p.name)
      where
        chosen : (o : Operand) (b : Bool) → is_joined m i p o ≡ b → AllByRecursion (Weighs m) (if b then hidden_port i p ∷ [] else [])
        chosen o true e = (join_weighs m i p o e, tt)
        chosen o false e = tt

        by : (l : Option Operand) → AllByRecursion (Weighs m) (if option_map_or (is_joined m i p) l false then hidden_port i p ∷ [] else [])
        by None = tt
        by (Some o) = chosen o (is_joined m i p o) refl

    ports : (i : Instance) (ps : List BoxPort) → AllByRecursion (Weighs m) (flat_map (joined_at m i) ps)
    ports i [] = tt
    ports i (p ∷ ps) = all_append (Weighs m) (joined_at m i p) (flat_map (joined_at m i) ps) (port i p) (ports i ps)

    cut : (i : Instance) (o : Option (List BoxPort)) → AllByRecursion (Weighs m) (option_map_or (flat_map (joined_at m i)) o [])
    cut i None = tt
    cut i (Some ps) = ports i ps

    one : (y : Item) → AllByRecursion (Weighs m) (item_joined B m y)
    one (item.Gate g) = tt
    one (item.Assign output input) = tt
    one (item.Instance i) = cut i (cut_ports B i)

-- joined ports have hidden names
joined_few : (name : List ℕ) (B : BoxLibrary) (m : Module) (items : List Item) → times name (map port_name (joined_ports B m items)) ≤ times name (map name_of (flat_map (item_hidden B m) items))
joined_few name B m [] = omega arith
joined_few name B m (x ∷ items) =
    omega (arith, one x, joined_few name B m items, times-map-append name port_name (item_joined B m x) (joined_ports B m items), times-map-append name name_of (item_hidden B m x) (flat_map (item_hidden B m) items))
  where
    port : (i : Instance) (p : BoxPort) → times name (map port_name (joined_at m i p)) ≤ cond (bytes_eq name (hidden_name i.name p.name)) 1 0
    port i p = by (option_map_or (is_joined m i p) (linked_to i.links p.name) false)
      where
        by : (b : Bool) → times name (map port_name (if b then hidden_port i p ∷ [] else [])) ≤ cond (bytes_eq name (hidden_name i.name p.name)) 1 0
        by true = omega arith
        by false = omega arith

    ports : (i : Instance) (ps : List BoxPort) → times name (map port_name (flat_map (joined_at m i) ps)) ≤ times name (map name_of (map (hidden_of m i) ps))
    ports i [] = omega arith
    ports i (p ∷ ps) = omega (arith, port i p, ports i ps, times-map-append name port_name (joined_at m i p) (flat_map (joined_at m i) ps))

    cut : (i : Instance) (o : Option (List BoxPort)) → times name (map port_name (option_map_or (flat_map (joined_at m i)) o [])) ≤ times name (map name_of (option_map_or (map (hidden_of m i)) o []))
    cut i None = omega arith
    cut i (Some ps) = ports i ps

    one : (y : Item) → times name (map port_name (item_joined B m y)) ≤ times name (map name_of (item_hidden B m y))
    one (item.Gate g) = omega arith
    one (item.Assign output input) = omega arith
    one (item.Instance i) = cut i (cut_ports B i)

-- Nets.

filter_same : {X : Type 0} (f g : X → Bool) → ((x : X) → f x ≡ g x) → (xs : List X) → filter f xs ≡ filter g xs
filter_same f g same [] = refl
filter_same {X = X} f g same (x ∷ xs) = ap (λ (b : Bool). cond b (x ∷ filter f xs) (filter f xs)) (same x) ∙ ap (λ (ys : List X). cond (g x) (x ∷ ys) ys) (filter_same f g same xs)

pub opened_nets_are_counted : OpenedNetsAreCounted
opened_nets_are_counted B k m clear =
    let once = (clear_of B m clear).once in
    let joined = joined_ports B m m.items in
    let names = map port_name joined in
    let kept : filter (is_kept_wire B m) m.wires ≡ filter (λ w. not (has_name names w.name)) m.wires =
    filter_same (is_kept_wire B m) (λ w. not (has_name names w.name)) (λ w. ap not (joins_named B m w m.items)) m.wires in
    let few : AreOnce names = λ name. (let all = once name in let less = joined_few name B m m.items in omega arith) in
    omega (
      arith,
      declared_wide (opened B k m).ports (opened B k m).wires,
      declared_wide m.ports m.wires,
      wide_between k m.ports (hidden_ports B m),
      hidden_split B m m.items,
      wires_split names m.wires,
      named_all m.wires joined few (joined_weigh B m m.items),
      ap wires_wide kept,
    )
