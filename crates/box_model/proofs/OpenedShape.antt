-- What is opened is in shape.
use Rattle.std.proofs.Common.{◌≡◌, ℕ, zero, suc, ◌+◌, ◌≤◌, Bool, true, false, not, cond, ◌&&◌, List, [], ◌∷◌, ◌++◌, map, take, drop, count_by, Option, Some, None, is_some, refl, sym, ap, subst, ◌∙◌, arith, append-nil, eqb-true, ◌==◌}
use Rattle.std.specs.Prelude.{filter, slice_get}
use Rattle.std.specs.List.{AllByRecursion, flat_map, filter_map, cons_option, list_any}
use Rattle.std.specs.Option.{option_map, option_map_or}
use Rattle.std.specs.Str.{bytes_eq}
use Rattle.std.proofs.lemmas.List.Concat.{flat_map-append}
use Rattle.list_laws.proofs.Bytes.{bytes_eq-sym}
use Rattle.list_laws.proofs.Lists.{all_append, all_mapped}
use Rattle.list_laws.proofs.Tests.{and_left, and_right, not_true}
use Rattle.verilog_tree.specs.declared.tree.Operand.{Operand}
use Rattle.verilog_tree.specs.declared.tree.Link.{Link}
use Rattle.verilog_tree.specs.declared.tree.Port.{Port}
use Rattle.verilog_tree.specs.declared.tree.Wire.{Wire}
use Rattle.verilog_tree.specs.declared.tree.Instance.{Instance}
use Rattle.verilog_tree.specs.declared.tree.Item.{Item}
use Rattle.verilog_tree.specs.declared.tree.Item.TheVariants as item
use Rattle.verilog_tree.specs.declared.tree.Module.{Module}
use Rattle.link_model.specs.Lists.{has_name, repeated}
use Rattle.link_model.specs.Nets.{declared_nets}
use Rattle.box_model.specs.declared.boxes.BoxLibrary.{BoxLibrary}
use Rattle.box_model.specs.declared.boxes.BoxPort.{BoxPort}
use Rattle.box_model.specs.Ports.{cut_ports, hidden_name, hidden_port, linked_to, is_port_of, other_links}
use Rattle.box_model.specs.Opened.{is_wire_as, names_whole, is_declared_as, is_joined, port_items, opened_instance, opened_item, hidden_at, item_ports, hidden_ports, joins_item, is_kept_wire, opened}
use Rattle.box_model.specs.Closed.{has_port, is_own, own_ports, present_at, item_present, present_ports}
use Rattle.box_model.specs.Faults.{used_names, Hidden, hidden_of, item_hidden}
use Rattle.box_model.specs.Laws.{net_names, IsBare, OpenedIsInShape}
use Rattle.box_model.proofs.Counting.{all_to, all_parts, passing, apart_from, there_holds, kept_times, unrepeated, times, times-append, times_none, none_times, each_there, AreOnce, once_of}
use Rattle.box_model.proofs.Between.{filter_all, filter_between, times_between}
use Rattle.box_model.proofs.Clear.{name_of, hiddens, IsFree, IsClear, clear_of}
use Rattle.box_model.proofs.Returned.{all_by_places, all_unmapped, ports_used, hidden_fails, hidden_at_item, cut_within, port_there}
use Rattle.box_model.proofs.TreesOpened.{items_apart, wires_used, kept_wires, all_flat}
use Rattle.box_model.proofs.Named.{port_name}
use Rattle.box_model.proofs.Halves.{item_linked, item_unlinked, linked_at, unlinked_at, halves, hides-hidden}
use Rattle.box_model.proofs.Assigns.{IsAssign, ports_are, hides-opened}
use Rattle.box_model.proofs.Told.{wire_name, declared_count}
use Rattle.box_model.proofs.Shape.{no_wire}

-- Hidden names are no ports'.

-- what is joined has its one declaration among the wires
joined_outside : (m : Module) (i : Instance) (p : BoxPort) (o : Operand) → is_joined m i p o ≡ true → times (hidden_name i.name p.name) (map port_name m.ports) ≡ 0
joined_outside m i p o joined =
    let name = hidden_name i.name p.name in
    let wire = list_any (is_wire_as name p.range) m.wires in
    let once = count_by (is_declared_as name) (declared_nets m) == 1 in
    let parts = and_right (names_whole name o) (wire && once) joined in
    let one = eqb-true (count_by (is_declared_as name) (declared_nets m)) 1 (and_right wire once parts) in
    some (times name (map wire_name m.wires)) refl (and_left wire once parts) (sym one ∙ declared_count name m.ports m.wires)
  where
    some : (n : ℕ) → times (hidden_name i.name p.name) (map wire_name m.wires) ≡ n → list_any (is_wire_as (hidden_name i.name p.name) p.range) m.wires ≡ true
        → 1 ≡ times (hidden_name i.name p.name) (map port_name m.ports) + times (hidden_name i.name p.name) (map wire_name m.wires) → times (hidden_name i.name p.name) (map port_name m.ports) ≡ 0
    some zero e there one = absurd (let never = no_wire (hidden_name i.name p.name) p.range m.wires e in let no_way : true ≡ false = sym there ∙ never in cc)
    some (suc n) e there one = omega arith

outside : (m : Module) (i : Instance) (p : BoxPort) → IsFree (used_names m) (hidden_of m i p) → times (hidden_name i.name p.name) (map port_name m.ports) ≡ 0
outside m i p free = by (linked_to i.links p.name) free.free
  where
    unused : has_name (used_names m) (hidden_name i.name p.name) ≡ false → times (hidden_name i.name p.name) (map port_name m.ports) ≡ 0
    unused never = let none = times_none (hidden_name i.name p.name) (used_names m) never in omega (arith, ports_used m (hidden_name i.name p.name))

    alone : (b : Bool) → (b && true) ≡ false → b ≡ false
    alone true k = k
    alone false k = refl

    chosen : (o : Operand) (j : Bool) → is_joined m i p o ≡ j → (has_name (used_names m) (hidden_name i.name p.name) && not j) ≡ false → times (hidden_name i.name p.name) (map port_name m.ports) ≡ 0
    chosen o true e k = joined_outside m i p o e
    chosen o false e k = unused (alone (has_name (used_names m) (hidden_name i.name p.name)) k)

    by : (l : Option Operand) → (has_name (used_names m) (hidden_name i.name p.name) && not (option_map_or (is_joined m i p) l false)) ≡ false → times (hidden_name i.name p.name) (map port_name m.ports) ≡ 0
    by None k = unused (alone (has_name (used_names m) (hidden_name i.name p.name)) k)
    by (Some o) k = chosen o (is_joined m i p o) refl k

all_outside : (B : BoxLibrary) (m : Module) → IsClear B m → AllByRecursion (λ (h : Hidden). times h.name (map port_name m.ports) ≡ 0) (hiddens B m)
all_outside B m clear = all_flat (λ (h : Hidden). times h.name (map port_name m.ports) ≡ 0) (item_hidden B m) m.items (all_to m.items one (all_parts (IsFree (used_names m)) (item_hidden B m) m.items clear.free))
  where
    ports : (i : Instance) (ps : List BoxPort) → AllByRecursion (IsFree (used_names m)) (map (hidden_of m i) ps) → AllByRecursion (λ (h : Hidden). times h.name (map port_name m.ports) ≡ 0) (map (hidden_of m i) ps)
    ports i [] free = tt
    ports i (p ∷ ps) free = (outside m i p free.0, ports i ps free.1)

    cut : (i : Instance) (o : Option (List BoxPort)) → AllByRecursion (IsFree (used_names m)) (option_map_or (map (hidden_of m i)) o [])
        → AllByRecursion (λ (h : Hidden). times h.name (map port_name m.ports) ≡ 0) (option_map_or (map (hidden_of m i)) o [])
    cut i None free = tt
    cut i (Some ps) free = ports i ps free

    one : (x : Item) → AllByRecursion (IsFree (used_names m)) (item_hidden B m x) → AllByRecursion (λ (h : Hidden). times h.name (map port_name m.ports) ≡ 0) (item_hidden B m x)
    one (item.Gate g) free = tt
    one (item.Assign output input) free = tt
    one (item.Instance i) free = cut i (cut_ports B i) free

-- Own ports.

own_pass : (B : BoxLibrary) (k : ℕ) (m : Module) → IsClear B m → AllByRecursion (λ (p : Port). is_own B (opened B k m) p ≡ true) m.ports
own_pass B k m clear = all_to m.ports one (all_unmapped (λ (n : List ℕ). 1 ≤ times n (map port_name m.ports)) port_name m.ports (each_there (map port_name m.ports)))
  where
    one : (p : Port) → 1 ≤ times p.name (map port_name m.ports) → is_own B (opened B k m) p ≡ true
    one p there =
        let none = apart_from (map name_of (hiddens B m)) (map port_name m.ports) (all_mapped (λ (n : List ℕ). times n (map port_name m.ports) ≡ 0) name_of (hiddens B m) (all_outside B m clear)) p.name there in
        ap not (hides-opened B m p.name m.items ∙ hides-hidden B m p.name m.items ∙ none_times p.name (map name_of (hiddens B m)) none)

own_is : (B : BoxLibrary) (k : ℕ) (m : Module) → IsClear B m → own_ports B (opened B k m) ≡ m.ports
own_is B k m clear = filter_between (is_own B (opened B k m)) k m.ports (hidden_ports B m) (own_pass B k m clear) (hidden_fails B k m)

-- Hidden ports stand there.

assigns_present : (B : BoxLibrary) (m : Module) (xs : List Item) → AllByRecursion IsAssign xs → flat_map (item_present B m) xs ≡ []
assigns_present B m [] all = refl
assigns_present B m (item.Assign output input ∷ xs) all = assigns_present B m xs all.1
assigns_present B m (item.Gate g ∷ xs) all = absurd all.0
assigns_present B m (item.Instance i ∷ xs) all = absurd all.0

there_at : (c : Module) (i : Instance) (ports : List BoxPort) → AllByRecursion (λ (p : BoxPort). has_port c (hidden_name i.name p.name) ≡ is_some (linked_to i.links p.name)) ports → present_at c i ports ≡ filter_map (hidden_at i) ports
there_at c i [] all = refl
there_at c i (p ∷ ports) all =
    ap (λ (b : Bool). map (hidden_port i) (cond b (p ∷ filter (λ (q : BoxPort). has_port c (hidden_name i.name q.name)) ports) (filter (λ (q : BoxPort). has_port c (hidden_name i.name q.name)) ports))) all.0
    ∙ by (linked_to i.links p.name) (there_at c i ports all.1)
  where
    by : (o : Option Operand) → present_at c i ports ≡ filter_map (hidden_at i) ports
        → map (hidden_port i) (cond (is_some o) (p ∷ filter (λ (q : BoxPort). has_port c (hidden_name i.name q.name)) ports) (filter (λ (q : BoxPort). has_port c (hidden_name i.name q.name)) ports))
        ≡ cons_option (option_map (λ (x : Operand). hidden_port i p) o) (filter_map (hidden_at i) ports)
    by None rest = rest
    by (Some o) rest = ap (λ (qs : List Port). hidden_port i p ∷ qs) rest

present_item : (B : BoxLibrary) (k : ℕ) (m : Module) → IsClear B m → (number : ℕ) (x : Item) → slice_get m.items number ≡ Some x → flat_map (item_present B (opened B k m)) (opened_item B m x) ≡ item_ports B x
present_item B k m clear number (item.Gate g) at = refl
present_item B k m clear number (item.Assign output input) at = refl
present_item B k m clear number (item.Instance i) at = by (cut_ports B i) refl
  where
    stands : (ports : List BoxPort) → cut_ports B i ≡ Some ports → AllByRecursion (λ (p : BoxPort). has_port (opened B k m) (hidden_name i.name p.name) ≡ is_some (linked_to i.links p.name)) ports
    stands ports e = walk ports (hidden_at_item (λ (h : Hidden). times h.name (map port_name m.ports) ≡ 0) B m (all_outside B m clear) number i ports at e)
        (cut_within linked_at (item_linked B) B m number i ports at (ap (λ (o : Option (List BoxPort)). option_map_or (flat_map (linked_at i)) o []) e))
        (cut_within unlinked_at (item_unlinked B) B m number i ports at (ap (λ (o : Option (List BoxPort)). option_map_or (flat_map (unlinked_at i)) o []) e))
      where
        walk : (ps : List BoxPort) → AllByRecursion (λ (p : BoxPort). times (hidden_name i.name p.name) (map port_name m.ports) ≡ 0) ps
            → AllByRecursion (λ p. (name : List ℕ) → times name (linked_at i p) ≤ times name (flat_map (item_linked B) m.items)) ps
            → AllByRecursion (λ p. (name : List ℕ) → times name (unlinked_at i p) ≤ times name (flat_map (item_unlinked B) m.items)) ps
            → AllByRecursion (λ (p : BoxPort). has_port (opened B k m) (hidden_name i.name p.name) ≡ is_some (linked_to i.links p.name)) ps
        walk [] a b d = tt
        walk (p ∷ ps) a b d = (port_there B k m i p clear.once a.0 b.0 d.0, walk ps a.1 b.1 d.1)

    by : (o : Option (List BoxPort)) → cut_ports B i ≡ o → flat_map (item_present B (opened B k m)) (option_map_or (opened_instance m i) o (item.Instance i ∷ [])) ≡ option_map_or (filter_map (hidden_at i)) o []
    by None e = append-nil (item_present B (opened B k m) (item.Instance i)) ∙ ap (λ (o : Option (List BoxPort)). option_map_or (present_at (opened B k m) i) o []) e
    by (Some ports) e =
        let mine = flat_map (port_items m i) ports in
        ap (λ (o : Option (List BoxPort)). option_map_or (present_at (opened B k m) i) o [] ++ flat_map (item_present B (opened B k m)) mine) e
        ∙ ap (λ (qs : List Port). present_at (opened B k m) i ports ++ qs) (assigns_present B (opened B k m) mine (ports_are m i ports))
        ∙ append-nil (present_at (opened B k m) i ports) ∙ there_at (opened B k m) i ports (stands ports e)

flat_at : {X Y : Type 0} (f g : X → List Y) (xs : List X) → AllByRecursion (λ x. f x ≡ g x) xs → flat_map f xs ≡ flat_map g xs
flat_at f g [] all = refl
flat_at {Y = Y} f g (x ∷ xs) all = ap (λ (ys : List Y). ys ++ flat_map f xs) all.0 ∙ ap (λ (ys : List Y). g x ++ ys) (flat_at f g xs all.1)

flat_flat : {X Y Z : Type 0} (g : Y → List Z) (f : X → List Y) (xs : List X) → flat_map g (flat_map f xs) ≡ flat_map (λ x. flat_map g (f x)) xs
flat_flat g f [] = refl
flat_flat {Z = Z} g f (x ∷ xs) = flat_map-append g (f x) (flat_map f xs) ∙ ap (λ (zs : List Z). flat_map g (f x) ++ zs) (flat_flat g f xs)

present_is : (B : BoxLibrary) (k : ℕ) (m : Module) → IsClear B m → present_ports B (opened B k m) ≡ hidden_ports B m
present_is B k m clear =
    let c = opened B k m in
    flat_flat (item_present B c) (opened_item B m) m.items
    ∙ flat_at (λ x. flat_map (item_present B c) (opened_item B m x)) (item_ports B) m.items
    (all_by_places (λ x. flat_map (item_present B c) (opened_item B m x) ≡ item_ports B x) m.items (present_item B k m clear))

-- No box is linked.

assigns_bare : (B : BoxLibrary) (xs : List Item) → AllByRecursion IsAssign xs → AllByRecursion (IsBare B) xs
assigns_bare B [] all = tt
assigns_bare B (item.Assign output input ∷ xs) all = (tt, assigns_bare B xs all.1)
assigns_bare B (item.Gate g ∷ xs) all = absurd all.0
assigns_bare B (item.Instance i ∷ xs) all = absurd all.0

item_bare : (B : BoxLibrary) (m : Module) (x : Item) → AllByRecursion (IsBare B) (opened_item B m x)
item_bare B m (item.Gate g) = (tt, tt)
item_bare B m (item.Assign output input) = (tt, tt)
item_bare B m (item.Instance i) = by (cut_ports B i) refl
  where
    by : (o : Option (List BoxPort)) → cut_ports B i ≡ o → AllByRecursion (IsBare B) (option_map_or (opened_instance m i) o (item.Instance i ∷ []))
    by None e = (λ ports there. absurd (let no_way = sym e ∙ there in cc), tt)
    by (Some ps) e = (
      λ ports there.
          let same : ps ≡ ports = (let both = sym e ∙ there in cc) in
          subst (λ (qs : List BoxPort). other_links qs (other_links ps i.links) ≡ other_links ps i.links) same
          (filter_all (λ (l : Link). not (is_port_of ps l)) (other_links ps i.links) (passing (λ (l : Link). not (is_port_of ps l)) i.links)),
      assigns_bare B (flat_map (port_items m i) ps) (ports_are m i ps),
    )

every_bare : (B : BoxLibrary) (m : Module) (items : List Item) → AllByRecursion (IsBare B) (flat_map (opened_item B m) items)
every_bare B m [] = tt
every_bare B m (x ∷ items) = all_append (IsBare B) (opened_item B m x) (flat_map (opened_item B m) items) (item_bare B m x) (every_bare B m items)

-- Names stand once.

ports_unnamed : (name : List ℕ) (qs : List Port) → AllByRecursion (λ (q : Port). bytes_eq q.name name ≡ false) qs → times name (map port_name qs) ≡ 0
ports_unnamed name [] all = refl
ports_unnamed name (q ∷ qs) all = rw (bytes_eq-sym name q.name, all.0) (let none = ports_unnamed name qs all.1 in omega arith)

wires_unhidden : (B : BoxLibrary) (m : Module) → IsClear B m → AllByRecursion (λ (w : Wire). times w.name (map port_name (hidden_ports B m)) ≡ 0) (filter (is_kept_wire B m) m.wires)
wires_unhidden B m clear = kept_wires (λ (w : Wire). times w.name (map port_name (hidden_ports B m)) ≡ 0) (is_kept_wire B m) m.wires (all_to m.wires one (wires_used m))
  where
    one : (w : Wire) → has_name (used_names m) w.name ≡ true → is_kept_wire B m w ≡ true → times w.name (map port_name (hidden_ports B m)) ≡ 0
    one w there kept = ports_unnamed w.name (hidden_ports B m) (items_apart B (used_names m) m w there m.items (not_true (list_any (joins_item B m w) m.items) kept) clear.free)

nets_once : (B : BoxLibrary) (k : ℕ) (m : Module) → IsClear B m → repeated (net_names m) ≡ None → AreOnce (net_names (opened B k m))
nets_once B k m clear apart name =
    let all = once_of (net_names m) apart name in
    let hidden = clear.once name in
    let kept = kept_times name wire_name (is_kept_wire B m) m.wires in
    let whole = times-append name (map port_name m.ports) (map wire_name m.wires) in
    let opened_whole = times-append name (map port_name (opened B k m).ports) (map wire_name (opened B k m).wires) in
    let ports = times_between name port_name k m.ports (hidden_ports B m) in
    let split = halves name B m m.items in
    by (times name (map port_name (hidden_ports B m))) refl all hidden kept whole opened_whole ports split
  where
    by : (n : ℕ) → times name (map port_name (hidden_ports B m)) ≡ n → times name (net_names m) ≤ 1 → times name (map name_of (hiddens B m)) ≤ 1
        → times name (map wire_name (filter (is_kept_wire B m) m.wires)) ≤ times name (map wire_name m.wires)
        → times name (net_names m) ≡ times name (map port_name m.ports) + times name (map wire_name m.wires)
        → times name (net_names (opened B k m)) ≡ times name (map port_name (opened B k m).ports) + times name (map wire_name (opened B k m).wires)
        → times name (map port_name (opened B k m).ports) ≡ times name (map port_name (hidden_ports B m)) + times name (map port_name m.ports)
        → times name (map name_of (hiddens B m)) ≡ times name (map port_name (hidden_ports B m)) + times name (flat_map (item_unlinked B) m.items)
        → times name (net_names (opened B k m)) ≤ 1
    by zero e all hidden kept whole opened_whole ports split = omega arith
    by (suc n) e all hidden kept whole opened_whole ports split =
        let there : 1 ≤ times name (map port_name (hidden_ports B m)) = omega arith in
        let own : times name (map port_name m.ports) ≡ 0 =
        there_holds (λ (h : List ℕ). times h (map port_name m.ports) ≡ 0) name (map name_of (hiddens B m))
        (all_mapped (λ (h : List ℕ). times h (map port_name m.ports) ≡ 0) name_of (hiddens B m) (all_outside B m clear)) (omega arith) in
        let wires : times name (map wire_name (filter (is_kept_wire B m) m.wires)) ≡ 0 =
        apart_from (map wire_name (filter (is_kept_wire B m) m.wires)) (map port_name (hidden_ports B m))
        (all_mapped (λ (h : List ℕ). times h (map port_name (hidden_ports B m)) ≡ 0) wire_name (filter (is_kept_wire B m) m.wires) (wires_unhidden B m clear)) name there in
        omega arith

pub opened_is_in_shape : OpenedIsInShape
opened_is_in_shape B k m fault apart =
    let clear = clear_of B m fault in
    let c = opened B k m in
    record {
      ports = ap (λ (own : List Port). take k own ++ (hidden_ports B m ++ drop k own)) (sym (own_is B k m clear))
          ∙ ap (λ (hidden : List Port). take k (own_ports B c) ++ (hidden ++ drop k (own_ports B c))) (sym (present_is B k m clear));
      apart = unrepeated [] (net_names c) (nets_once B k m clear apart);
      bare = every_bare B m m.items;
    }
