-- A module in shape: each of its ways is fine in the closed module.
use Rattle.std.proofs.Common.{◌≡◌, ◌⊎◌, inl, inr, ℕ, zero, suc, ◌+◌, ◌≤◌, Bool, true, false, cond, ◌&&◌, ◌||◌, List, [], ◌∷◌, ◌++◌, map, length, Option, Some, None, refl, sym, ap, subst, ◌∙◌, arith, eqb-true, eq-eqb, if◌then◌else◌, ◌==◌}
use Rattle.std.specs.Prelude.{filter, option_and_then, count_by}
use Rattle.std.specs.List.{AllByRecursion, flat_map, list_any}
use Rattle.std.specs.Option.{option_map, option_map_or, option_or}
use Rattle.std.specs.Str.{bytes_eq}
use Rattle.std.proofs.lemmas.List.Folds.{list_any-append}
use Rattle.std.proofs.lemmas.Slice.Eq.{bytes_eq-Decides}
use Rattle.list_laws.proofs.Bytes.{bytes_eq-same, bytes_eq-sym}
use Rattle.list_laws.proofs.Lists.{all_append}
use Rattle.list_laws.proofs.Numbers.{eqb_same}
use Rattle.list_laws.proofs.Tests.{or_more}
use Rattle.verilog_tree.specs.declared.tree.Range.{Range}
use Rattle.verilog_tree.specs.declared.tree.Bit.{Bit}
use Rattle.verilog_tree.specs.declared.tree.Operand.{Operand}
use Rattle.verilog_tree.specs.declared.tree.Operand.TheVariants as operand
use Rattle.verilog_tree.specs.declared.tree.Port.{Port}
use Rattle.verilog_tree.specs.declared.tree.Wire.{Wire}
use Rattle.verilog_tree.specs.declared.tree.Instance.{Instance}
use Rattle.verilog_tree.specs.declared.tree.Item.{Item}
use Rattle.verilog_tree.specs.declared.tree.Item.TheVariants as item
use Rattle.verilog_tree.specs.declared.tree.Module.{Module}
use Rattle.verilog_tree.specs.Trees.{range_eq}
use Rattle.link_model.specs.Nets.{Declared, port_nets, wire_nets, declared_nets, declared_names, declared_as, width}
use Rattle.box_model.specs.declared.boxes.BoxLibrary.{BoxLibrary}
use Rattle.box_model.specs.declared.boxes.BoxPort.{BoxPort}
use Rattle.box_model.specs.Ports.{cut_ports, hidden_name, hidden_port, hidden_bits, bits_of}
use Rattle.box_model.specs.Opened.{is_wire_as, names_whole, is_declared_as, is_joined, whole_bits, link_bits}
use Rattle.box_model.specs.Closed.{are_bits, whole_if, joint, whole_net, Closing, closing, added_wires, present_at, item_present, present_ports, own_ports, closed}
use Rattle.box_model.specs.Faults.{operand_name, named_by}
use Rattle.box_model.specs.Laws.{net_names, IsBare, IsInShape}
use Rattle.box_model.proofs.Counting.{all_to, all_both, times, times-append, times-map-append, count-times, at_head, parts_within, apart_from, once_of}
use Rattle.box_model.proofs.Between.{between, times_between}
use Rattle.box_model.proofs.Ranges.{net_range, net_range-append, ports_absent, wires_absent, range_between, or_none, range_inner}
use Rattle.box_model.proofs.LinkFits.{length-bits_of, SameRange, range_there}
use Rattle.box_model.proofs.Named.{hidden_counted, port_name}
use Rattle.box_model.proofs.Halves.{map-flat_map}
use Rattle.box_model.proofs.Reruns.{bits_are}
use Rattle.box_model.proofs.Ways.{Way, Linked, Wired, collect, ways, closing_ways}
use Rattle.box_model.proofs.WaysItems.{is_there}
use Rattle.box_model.proofs.WaysLinks.{IsLaid, IsFine}
use Rattle.box_model.proofs.Pieces.{AllTails, tails_to, tails_both, gather, gather_within, at_ways, of_ways, at_cut}
use Rattle.box_model.proofs.Lost.{WayIsRead, ways_read, wired_names, linked_names, link_names, lost_names, all_lost, links_stand}
use Rattle.box_model.proofs.Told.{wire_name, added_names, wires_at, wires_within, present_names, ranges_told, wires_behind, declared_count}

-- a name stands once among wires to be, ports that come back by a link, own ports and wires
pub record IsCounted (B : BoxLibrary) (m : Module) : Type 0 where
  pub once : (name : List ℕ) → times name (of_ways B m wired_names m.items) + times name (of_ways B m linked_names m.items) + times name (map port_name (own_ports B m)) + times name (map wire_name m.wires) ≤ 1

pub counted_of : (B : BoxLibrary) (k : ℕ) (m : Module) → IsInShape B k m → IsCounted B m
counted_of B k m shape = record {
  once = λ name.
      let all = once_of (net_names m) shape.apart name in
      let ports = ap (λ (ps : List Port). times name (map port_name ps)) shape.ports ∙ times_between name port_name k (own_ports B m) (present_ports B m) in
      omega (arith, ports, times-append name (map port_name m.ports) (map wire_name m.wires), present_names name B m m.items);
}

pub every_tail : (xs : List Item) → AllTails (λ x rest. Unit {0}) xs
every_tail [] = tt
every_tail (x ∷ xs) = (tt, every_tail xs)

-- Instances are laid.

abbrev pub LaidAt : BoxLibrary → Module → Item → Type 0
LaidAt B m (item.Instance i) = (ports : List BoxPort) → cut_ports B i ≡ Some ports → IsLaid m i ports
LaidAt B m (item.Gate g) = Unit {0}
LaidAt B m (item.Assign output input) = Unit {0}

names_within : (name : List ℕ) (i : Instance) (ps : List BoxPort) → times name (map (λ (p : BoxPort). p.name) ps) ≤ times (hidden_name i.name name) (map port_name (map (hidden_port i) ps))
names_within name i [] = omega arith
names_within name i (p ∷ ps) = by (bytes_eq name p.name) refl (names_within name i ps)
  where
    by : (b : Bool) → bytes_eq name p.name ≡ b → times name (map (λ (q : BoxPort). q.name) ps) ≤ times (hidden_name i.name name) (map port_name (map (hidden_port i) ps))
        → cond b 1 0 + times name (map (λ (q : BoxPort). q.name) ps)
        ≤ cond (bytes_eq (hidden_name i.name name) (hidden_name i.name p.name)) 1 0 + times (hidden_name i.name name) (map port_name (map (hidden_port i) ps))
    by true t less =
        let same : bytes_eq (hidden_name i.name name) (hidden_name i.name p.name) ≡ true =
        ap (λ (n : List ℕ). bytes_eq (hidden_name i.name name) (hidden_name i.name n)) (sym ((bytes_eq-Decides name p.name).0 t)) ∙ bytes_eq-same (hidden_name i.name name) in
        rw same (omega arith)
    by false t less = omega arith

pub all_laid : (B : BoxLibrary) (m : Module) → IsCounted B m → AllByRecursion (IsBare B) m.items → AllByRecursion (LaidAt B m) m.items
all_laid B m counted bare =
    all_to m.items one (all_both (IsBare B) (λ x. (name : List ℕ) → times name (map port_name (item_present B m x)) ≤ times name (flat_map (λ y. map port_name (item_present B m y)) m.items)) m.items bare
    (parts_within (λ y. map port_name (item_present B m y)) m.items))
  where
    cut : (i : Instance) → IsBare B (item.Instance i) → ((name : List ℕ) → times name (map port_name (item_present B m (item.Instance i))) ≤ times name (flat_map (λ y. map port_name (item_present B m y)) m.items))
        → (ports : List BoxPort) → cut_ports B i ≡ Some ports → IsLaid m i ports
    cut i none within ports e = record {
      bare = none ports e;
      once = λ name.
          let hidden = hidden_name i.name name in
          let here : times hidden (map port_name (present_at m i ports)) ≤ times hidden (flat_map (λ y. map port_name (item_present B m y)) m.items) =
          subst (λ (o : Option (List BoxPort)). times hidden (map port_name (option_map_or (present_at m i) o [])) ≤ times hidden (flat_map (λ y. map port_name (item_present B m y)) m.items)) e (within hidden) in
          let flat = ap (times hidden) (map-flat_map port_name (item_present B m) m.items) in
          let all = counted.once hidden in
          omega (arith, here, flat, names_within name i (filter (is_there m i) ports), present_names hidden B m m.items);
    }

    one : (x : Item) → IsBare B x × ((name : List ℕ) → times name (map port_name (item_present B m x)) ≤ times name (flat_map (λ y. map port_name (item_present B m y)) m.items)) → LaidAt B m x
    one (item.Gate g) both = tt
    one (item.Assign output input) both = tt
    one (item.Instance i) both = cut i both.0 both.1

-- What is told of a way.

-- its hidden name stands among those that come back so; a wire is added; and what a link names is named
abbrev pub WayIsTold : BoxLibrary → Module → Instance → Way → Type 0
WayIsTold B m i (Linked p os o) = (1 ≤ times (hidden_name i.name p.name) (of_ways B m linked_names m.items))
    × (width p.range ≤ times (hidden_name i.name p.name) (of_ways B m lost_names m.items))
    × ((name : List ℕ) → times name (operand_name o) ≤ times name (of_ways B m link_names m.items))
WayIsTold B m i (Wired p) = (1 ≤ times (hidden_name i.name p.name) (of_ways B m wired_names m.items)) × (list_any (is_wire_as (hidden_name i.name p.name) p.range) (added_wires B m m.items) ≡ true)

abbrev Within : (Instance → List Way → List (List ℕ)) → BoxLibrary → Module → Instance → List Way → Type 0
Within f B m i ws = (name : List ℕ) → times name (f i ws) ≤ times name (of_ways B m f m.items)

record IsWithin (B : BoxLibrary) (m : Module) (i : Instance) (ws : List Way) : Type 0 where
  wired : Within wired_names B m i ws
  linked : Within linked_names B m i ws
  lost : Within lost_names B m i ws
  named : Within link_names B m i ws
  wires : (test : Wire → Bool) → list_any test (collect i ws).wires ≡ true → list_any test (added_wires B m m.items) ≡ true

fewer : (f : Instance → List Way → List (List ℕ)) (B : BoxLibrary) (m : Module) (i : Instance) (w : Way) (ws : List Way) → ((name : List ℕ) → times name (f i ws) ≤ times name (f i (w ∷ ws))) → Within f B m i (w ∷ ws) → Within f B m i ws
fewer f B m i w ws less all name = let here = less name in let more = all name in omega arith

range_self : (r : Option Range) → range_eq r r ≡ true
range_self None = refl
range_self (Some r) = rw (eqb_same r.left) (eqb_same r.right)

way_told : (B : BoxLibrary) (m : Module) (i : Instance) (w : Way) (ws : List Way) → IsWithin B m i (w ∷ ws) → WayIsTold B m i w
way_told B m i (Wired p) ws is =
    let name = hidden_name i.name p.name in
    let head = at_head name (wired_names i ws) in
    let wired = is.wired name in
    let same : is_wire_as name p.range (record { name = name; range = p.range }) ≡ true = ap (λ (b : Bool). b && range_eq p.range p.range) (bytes_eq-same name) ∙ range_self p.range in
    (omega arith, is.wires (is_wire_as name p.range) (ap (λ (b : Bool). b || list_any (is_wire_as name p.range) (collect i ws).wires) same))
way_told B m i (Linked p os o) ws is =
    let name = hidden_name i.name p.name in
    let head = at_head name (linked_names i ws) in
    let linked = is.linked name in
    let lost = is.lost name in
    let bits : times name (map (λ (b : Bit). b.net) (hidden_bits i p)) ≡ width p.range = hidden_counted name i p ∙ ap (λ (b : Bool). cond b (width p.range) 0) (bytes_eq-same name) in (
      omega arith,
      omega (arith, bits, times-append name (map (λ (b : Bit). b.net) (hidden_bits i p)) (lost_names i ws)),
      λ other. (let named = is.named other in omega (arith, times-append other (operand_name o) (link_names i ws))),
    )

tail_within : (B : BoxLibrary) (m : Module) (i : Instance) (w : Way) (ws : List Way) → IsWithin B m i (w ∷ ws) → IsWithin B m i ws
tail_within B m i (Wired p) ws is = record {
  wired = fewer wired_names B m i (Wired p) ws (λ name. omega arith) is.wired;
  linked = is.linked;
  lost = is.lost;
  named = fewer link_names B m i (Wired p) ws (λ name. omega (arith, times-append name (hidden_name i.name p.name ∷ []) (link_names i ws))) is.named;
  wires = λ test there. is.wires test (or_more (test (record { name = hidden_name i.name p.name; range = p.range })) (list_any test (collect i ws).wires) there);
}
tail_within B m i (Linked p os o) ws is = record {
  wired = is.wired;
  linked = fewer linked_names B m i (Linked p os o) ws (λ name. omega arith) is.linked;
  lost = fewer lost_names B m i (Linked p os o) ws (λ name. omega (arith, times-append name (map (λ (b : Bit). b.net) (hidden_bits i p)) (lost_names i ws))) is.lost;
  named = fewer link_names B m i (Linked p os o) ws (λ name. omega (arith, times-append name (operand_name o) (link_names i ws))) is.named;
  wires = is.wires;
}

ways_told : (B : BoxLibrary) (m : Module) (i : Instance) (ws : List Way) → IsWithin B m i ws → AllByRecursion (WayIsTold B m i) ws
ways_told B m i [] is = tt
ways_told B m i (w ∷ ws) is = (way_told B m i w ws is, ways_told B m i ws (tail_within B m i w ws is))

-- at each instance
abbrev pub AtCut : (Instance → List Way → Type 0) → BoxLibrary → Module → Item → List Item → Type 0
AtCut P B m (item.Instance i) rest = (ports : List BoxPort) → cut_ports B i ≡ Some ports → P i (ways m i false ports rest)
AtCut P B m (item.Gate g) rest = Unit {0}
AtCut P B m (item.Assign output input) rest = Unit {0}

abbrev NamesWithin : (Instance → List Way → List (List ℕ)) → BoxLibrary → Module → Item → List Item → Type 0
NamesWithin f B m x rest = (name : List ℕ) → times name (at_ways B m f x rest) ≤ times name (of_ways B m f m.items)

abbrev WiresWithin : BoxLibrary → Module → Item → List Item → Type 0
WiresWithin B m x rest = (test : Wire → Bool) → list_any test (wires_at B m x rest) ≡ true → list_any test (added_wires B m m.items) ≡ true

all_within : (B : BoxLibrary) (m : Module) → AllTails (AtCut (IsWithin B m) B m) m.items
all_within B m =
    tails_to (λ x rest. NamesWithin wired_names B m x rest × (NamesWithin linked_names B m x rest × (NamesWithin lost_names B m x rest × (NamesWithin link_names B m x rest × WiresWithin B m x rest))))
    (AtCut (IsWithin B m) B m) m.items one
    (tails_both (NamesWithin wired_names B m) (λ x rest. NamesWithin linked_names B m x rest × (NamesWithin lost_names B m x rest × (NamesWithin link_names B m x rest × WiresWithin B m x rest))) m.items
    (gather_within (at_ways B m wired_names) m.items)
    (tails_both (NamesWithin linked_names B m) (λ x rest. NamesWithin lost_names B m x rest × (NamesWithin link_names B m x rest × WiresWithin B m x rest)) m.items
    (gather_within (at_ways B m linked_names) m.items)
    (tails_both (NamesWithin lost_names B m) (λ x rest. NamesWithin link_names B m x rest × WiresWithin B m x rest) m.items
    (gather_within (at_ways B m lost_names) m.items)
    (tails_both (NamesWithin link_names B m) (WiresWithin B m) m.items (gather_within (at_ways B m link_names) m.items) (wires_within B m m.items)))))
  where
    names : (f : Instance → List Way → List (List ℕ)) (i : Instance) (ports : List BoxPort) (rest : List Item) → cut_ports B i ≡ Some ports → NamesWithin f B m (item.Instance i) rest → Within f B m i (ways m i false ports rest)
    names f i ports rest e all name = subst (λ (ns : List (List ℕ)). times name ns ≤ times name (of_ways B m f m.items)) (at_cut B m f i ports rest e) (all name)

    cut : (i : Instance) (rest : List Item)
        → NamesWithin wired_names B m (item.Instance i) rest × (NamesWithin linked_names B m (item.Instance i) rest × (NamesWithin lost_names B m (item.Instance i) rest × (NamesWithin link_names B m (item.Instance i) rest × WiresWithin B m (item.Instance i) rest)))
        → (ports : List BoxPort) → cut_ports B i ≡ Some ports → IsWithin B m i (ways m i false ports rest)
    cut i rest all ports e = record {
      wired = names wired_names i ports rest e all.0;
      linked = names linked_names i ports rest e all.1.0;
      lost = names lost_names i ports rest e all.1.1.0;
      named = names link_names i ports rest e all.1.1.1.0;
      wires = λ test there.
          let same : wires_at B m (item.Instance i) rest ≡ (collect i (ways m i false ports rest)).wires =
          ap (λ (o : Option (List BoxPort)). option_map_or (λ (c : Closing). c.wires) (option_map (λ ps. closing m i false ps rest) o) []) e
          ∙ ap (λ (c : Closing). c.wires) (closing_ways m i false ports rest) in
          all.1.1.1.1 test (ap (list_any test) same ∙ there);
    }

    one : (x : Item) (rest : List Item)
        → NamesWithin wired_names B m x rest × (NamesWithin linked_names B m x rest × (NamesWithin lost_names B m x rest × (NamesWithin link_names B m x rest × WiresWithin B m x rest)))
        → AtCut (IsWithin B m) B m x rest
    one (item.Gate g) rest all = tt
    one (item.Assign output input) rest all = tt
    one (item.Instance i) rest all = cut i rest all

-- Ports that come back by a link are named no longer.

all_gathered : (P : List ℕ → Type 0) (f : Item → List Item → List (List ℕ)) (xs : List Item) → AllTails (λ x rest. AllByRecursion P (f x rest)) xs → AllByRecursion P (gather f xs)
all_gathered P f [] all = tt
all_gathered P f (x ∷ xs) all = all_append P (f x xs) (gather f xs) all.0 (all_gathered P f xs all.1)

abbrev pub Unnamed : BoxLibrary → Module → List ℕ → Type 0
Unnamed B m name = times name (flat_map named_by (closed B m).items) ≡ 0

linked_unnamed : (B : BoxLibrary) (m : Module) → IsCounted B m → (i : Instance) (ws : List Way) → AllByRecursion (WayIsTold B m i) ws → AllByRecursion (WayIsRead m i) ws → AllByRecursion (Unnamed B m) (linked_names i ws)
linked_unnamed B m counted i [] told read = tt
linked_unnamed B m counted i (Wired p ∷ ws) told read = linked_unnamed B m counted i ws told.1 read.1
linked_unnamed B m counted i (Linked p os o ∷ ws) told read =
    let name = hidden_name i.name p.name in
    let all = counted.once name in
    let here = told.0.0 in
    let wide = told.0.1 in
    let lost = all_lost B m name m.items (every_tail m.items) (omega arith) in
    let alone = sym (count-times name (flat_map named_by m.items)) ∙ read.0.alone in
    (omega arith, linked_unnamed B m counted i ws told.1 read.1)

pub all_unnamed : (B : BoxLibrary) (m : Module) → IsCounted B m → AllByRecursion (Unnamed B m) (of_ways B m linked_names m.items)
all_unnamed B m counted = all_gathered (Unnamed B m) (at_ways B m linked_names) m.items
    (tails_to (AtCut (IsWithin B m) B m) (λ x rest. AllByRecursion (Unnamed B m) (at_ways B m linked_names x rest)) m.items one (all_within B m))
  where
    cut : (i : Instance) (rest : List Item) → ((ports : List BoxPort) → cut_ports B i ≡ Some ports → IsWithin B m i (ways m i false ports rest)) → (o : Option (List BoxPort)) → cut_ports B i ≡ o
        → AllByRecursion (Unnamed B m) (option_map_or (λ ports. linked_names i (ways m i false ports rest)) o [])
    cut i rest all None e = tt
    cut i rest all (Some ports) e = linked_unnamed B m counted i (ways m i false ports rest) (ways_told B m i (ways m i false ports rest) (all ports e)) (ways_read m i ports rest)

    one : (x : Item) (rest : List Item) → AtCut (IsWithin B m) B m x rest → AllByRecursion (Unnamed B m) (at_ways B m linked_names x rest)
    one (item.Gate g) rest all = tt
    one (item.Assign output input) rest all = tt
    one (item.Instance i) rest all = cut i rest all (cut_ports B i) refl

-- Ranges.

some_or_none : (n : ℕ) → (n ≡ 0) ⊎ (1 ≤ n)
some_or_none zero = inl refl
some_or_none (suc n) = inr (omega arith)

pub closed_range : (B : BoxLibrary) (m : Module) (name : List ℕ) → net_range name (declared_nets (closed B m))
    ≡ option_or (net_range name (map port_nets (own_ports B m))) (option_or (net_range name (map wire_nets m.wires)) (net_range name (map wire_nets (added_wires B m m.items))))
closed_range B m name =
    net_range-append name (map port_nets (own_ports B m)) (map wire_nets (m.wires ++ added_wires B m m.items))
    ∙ ap (option_or (net_range name (map port_nets (own_ports B m)))) (wires_behind name m.wires (added_wires B m m.items))

-- a name that doesn't come back by a link has the same range in both modules
range_kept : (B : BoxLibrary) (k : ℕ) (m : Module) → IsInShape B k m → IsCounted B m → (name : List ℕ) → times name (of_ways B m linked_names m.items) ≡ 0
    → net_range name (declared_nets (closed B m)) ≡ net_range name (declared_nets m)
range_kept B k m shape counted name unlinked = elim (some_or_none (times name (of_ways B m wired_names m.items))) [ inl none ↦ outer none | inr some ↦ inner some ]
  where
    own_range : net_range name (declared_nets m) ≡ option_or (net_range name (map port_nets (between k (own_ports B m) (present_ports B m)))) (net_range name (map wire_nets m.wires))
    own_range =
        net_range-append name (map port_nets m.ports) (map wire_nets m.wires)
        ∙ ap (λ (ps : List Port). option_or (net_range name (map port_nets ps)) (net_range name (map wire_nets m.wires))) shape.ports

    outer : times name (of_ways B m wired_names m.items) ≡ 0 → net_range name (declared_nets (closed B m)) ≡ net_range name (declared_nets m)
    outer none =
        let absent : times name (map port_name (present_ports B m)) ≡ 0 = omega (arith, present_names name B m m.items) in
        closed_range B m name
        ∙ ap (λ (o : Option (Option Range)). option_or (net_range name (map port_nets (own_ports B m))) (option_or (net_range name (map wire_nets m.wires)) o))
        (wires_absent name (added_wires B m m.items) (ap (times name) (added_names B m m.items) ∙ none))
        ∙ ap (option_or (net_range name (map port_nets (own_ports B m)))) (or_none (net_range name (map wire_nets m.wires)))
        ∙ ap (λ (o : Option (Option Range)). option_or o (net_range name (map wire_nets m.wires))) (sym (range_between name k (own_ports B m) (present_ports B m) absent))
        ∙ sym own_range

    inner : 1 ≤ times name (of_ways B m wired_names m.items) → net_range name (declared_nets (closed B m)) ≡ net_range name (declared_nets m)
    inner some =
        let all = counted.once name in
        let ports : times name (map port_name (own_ports B m)) ≡ 0 = omega arith in
        let wires : times name (map wire_name m.wires) ≡ 0 = omega arith in
        let none_own = ports_absent name (own_ports B m) ports in
        let none_wire = wires_absent name m.wires wires in
        let added = net_range name (map wire_nets (added_wires B m m.items)) in
        closed_range B m name
        ∙ ap (λ (o : Option (Option Range)). option_or o (option_or (net_range name (map wire_nets m.wires)) added)) none_own
        ∙ ap (λ (o : Option (Option Range)). option_or o added) none_wire
        ∙ sym (ranges_told name B m m.items unlinked)
        ∙ sym (range_inner name k (own_ports B m) (present_ports B m) ports)
        ∙ sym (or_none (net_range name (map port_nets (between k (own_ports B m) (present_ports B m)))))
        ∙ ap (option_or (net_range name (map port_nets (between k (own_ports B m) (present_ports B m))))) (sym none_wire)
        ∙ sym own_range

-- Fine ways.

many_bits : (p : BoxPort) (n : ℕ) → suc (suc n) ≡ width p.range → (width p.range == 1) ≡ false
many_bits p n e = by (width p.range == 1) refl
  where
    by : (b : Bool) → (width p.range == 1) ≡ b → b ≡ false
    by true one = absurd (let wide = eqb-true (width p.range) 1 one in omega arith)
    by false one = refl

bits_back : (m c : Module) (i : Instance) (p : BoxPort) (os : List Operand) (o : Operand) → length os ≡ width p.range → (parted : Bool) → joint m parted os ≡ Some o → SameRange m c o → link_bits c p o ≡ os
bits_back m c i p [] o wide parted joins same = absurd (cc)
bits_back m c i p (x ∷ []) o wide parted joins same = let it : x ≡ o = cc in subst (λ (y : Operand). link_bits c p y ≡ x ∷ []) it (single x)
  where
    single : (y : Operand) → link_bits c p y ≡ y ∷ []
    single (operand.Const value) = refl
    single (operand.Bit b) = ap (λ (t : Bool). if t then operand.Bit b ∷ [] else whole_bits b (declared_as (declared_names c) b.net)) (eq-eqb (width p.range) 1 (sym wide))
bits_back m c i p (x ∷ y ∷ os) o wide true joins same = absurd (cc)
bits_back m c i p (operand.Const value ∷ y ∷ os) o wide false joins same = absurd (cc)
bits_back m c i p (operand.Bit b ∷ y ∷ os) o wide false joins same = by (declared_as (declared_names m) b.net) refl joins
  where
    chosen : (d : Declared) → declared_as (declared_names m) b.net ≡ Some d → (t : Bool) → are_bits (bits_of b.net d.range) (operand.Bit b ∷ y ∷ os) ≡ t
        → (if t then Some (operand.Bit (record { net = b.net; index = None })) else None) ≡ Some o → link_bits c p o ≡ operand.Bit b ∷ y ∷ os
    chosen d there false e k = absurd (cc)
    chosen d there true e k =
        let whole : Bit = record { net = b.net; index = None } in
        let it : operand.Bit whole ≡ o = cc in
        let range : net_range b.net (declared_nets c) ≡ net_range b.net (declared_nets m) = subst (SameRange m c) (sym it) same in
        let d' = range_there m c b.net d there range in
        subst (λ (z : Operand). link_bits c p z ≡ operand.Bit b ∷ y ∷ os) it
        (ap (λ (t : Bool). if t then operand.Bit whole ∷ [] else whole_bits whole (declared_as (declared_names c) b.net)) (many_bits p (length os) wide)
        ∙ ap (whole_bits whole) d'.1
        ∙ ap (λ (r : Option Range). map (λ z. operand.Bit z) (bits_of b.net r)) d'.2
        ∙ bits_are (bits_of b.net d.range) (operand.Bit b ∷ y ∷ os) e)

    by : (d : Option Declared) → declared_as (declared_names m) b.net ≡ d → option_and_then (whole_if b.net (operand.Bit b ∷ y ∷ os)) d ≡ Some o → link_bits c p o ≡ operand.Bit b ∷ y ∷ os
    by None e k = absurd (cc)
    by (Some d) e k = chosen d e (are_bits (bits_of b.net d.range) (operand.Bit b ∷ y ∷ os)) refl k

-- no wire of a name
pub no_wire : (name : List ℕ) (range : Option Range) (ws : List Wire) → times name (map wire_name ws) ≡ 0 → list_any (is_wire_as name range) ws ≡ false
no_wire name range [] none = refl
no_wire name range (w ∷ ws) none = by (bytes_eq name w.name) (bytes_eq-sym w.name name) none (no_wire name range ws)
  where
    by : (b : Bool) → bytes_eq w.name name ≡ b → cond b 1 0 + times name (map wire_name ws) ≡ 0 → (times name (map wire_name ws) ≡ 0 → list_any (is_wire_as name range) ws ≡ false)
        → ((bytes_eq w.name name && range_eq w.range range) || list_any (is_wire_as name range) ws) ≡ false
    by true e k rest = absurd (omega arith)
    by false e k rest = rw e (rest (omega arith))

and_none : (a b : Bool) → (a && (false && b)) ≡ false
and_none true b = refl
and_none false b = refl

pub same_in : (B : BoxLibrary) (k : ℕ) (m : Module) → IsInShape B k m → IsCounted B m → (o : Operand) → ((name : List ℕ) → times name (operand_name o) ≤ times name (of_ways B m link_names m.items)) → SameRange m (closed B m) o
same_in B k m shape counted (operand.Const value) named = tt
same_in B k m shape counted (operand.Bit b) named =
    let head = at_head b.net [] in
    let here = named b.net in
    let stands = links_stand B m b.net m.items (every_tail m.items) in
    let unlinked = apart_from (of_ways B m linked_names m.items) (flat_map named_by (closed B m).items) (all_unnamed B m counted) b.net (omega arith) in
    range_kept B k m shape counted b.net unlinked

pub wires_times : (B : BoxLibrary) (m : Module) (name : List ℕ) → times name (map wire_name (closed B m).wires) ≡ times name (map wire_name m.wires) + times name (of_ways B m wired_names m.items)
wires_times B m name = times-map-append name wire_name m.wires (added_wires B m m.items) ∙ ap (λ (ns : List (List ℕ)). times name (map wire_name m.wires) + times name ns) (added_names B m m.items)

-- a port that comes back by a link isn't joined
pub link_apart : (B : BoxLibrary) (m : Module) → IsCounted B m → (i : Instance) (p : BoxPort) (o : Operand) → 1 ≤ times (hidden_name i.name p.name) (of_ways B m linked_names m.items) → is_joined (closed B m) i p o ≡ false
link_apart B m counted i p o there =
    let name = hidden_name i.name p.name in
    let all = counted.once name in
    let none = no_wire name p.range (closed B m).wires (omega (arith, wires_times B m name)) in
    let once = count_by (is_declared_as name) (declared_nets (closed B m)) == 1 in
    ap (λ (b : Bool). names_whole name o && (b && once)) none ∙ and_none (names_whole name o) once

-- and one that comes back by a wire is
pub wire_joins : (B : BoxLibrary) (m : Module) → IsCounted B m → (i : Instance) (p : BoxPort) → 1 ≤ times (hidden_name i.name p.name) (of_ways B m wired_names m.items)
    → list_any (is_wire_as (hidden_name i.name p.name) p.range) (added_wires B m m.items) ≡ true → is_joined (closed B m) i p (whole_net (hidden_name i.name p.name)) ≡ true
wire_joins B m counted i p there wire =
    let name = hidden_name i.name p.name in
    let all = counted.once name in
    let c = closed B m in
    let added : list_any (is_wire_as name p.range) c.wires ≡ true =
    list_any-append (is_wire_as name p.range) m.wires (added_wires B m m.items) ∙ or_more (list_any (is_wire_as name p.range) m.wires) (list_any (is_wire_as name p.range) (added_wires B m m.items)) wire in
    let once : count_by (is_declared_as name) (declared_nets c) ≡ 1 = omega (arith, declared_count name (own_ports B m) c.wires, wires_times B m name) in
    let named : names_whole name (whole_net name) ≡ true = ap (λ (b : Bool). b && true) (bytes_eq-same name) in
    ap (λ (b : Bool). b && (list_any (is_wire_as name p.range) c.wires && (count_by (is_declared_as name) (declared_nets c) == 1))) named
    ∙ ap (λ (b : Bool). b && (count_by (is_declared_as name) (declared_nets c) == 1)) added
    ∙ eq-eqb (count_by (is_declared_as name) (declared_nets c)) 1 once

way_fine : (B : BoxLibrary) (k : ℕ) (m : Module) → IsInShape B k m → IsCounted B m → (i : Instance) (w : Way) → WayIsTold B m i w → WayIsRead m i w → IsFine (closed B m) i w
way_fine B k m shape counted i (Linked p os o) told read = (
  link_apart B m counted i p o told.0,
  bits_back m (closed B m) i p os o (read.wide ∙ length-bits_of (hidden_name i.name p.name) p.range) read.parted read.joins (same_in B k m shape counted o told.2),
)
way_fine B k m shape counted i (Wired p) told read = wire_joins B m counted i p told.0 told.1

ways_fine : (B : BoxLibrary) (k : ℕ) (m : Module) → IsInShape B k m → IsCounted B m → (i : Instance) (ws : List Way) → AllByRecursion (WayIsTold B m i) ws → AllByRecursion (WayIsRead m i) ws → AllByRecursion (IsFine (closed B m) i) ws
ways_fine B k m shape counted i [] told read = tt
ways_fine B k m shape counted i (w ∷ ws) told read = (way_fine B k m shape counted i w told.0 read.0, ways_fine B k m shape counted i ws told.1 read.1)

-- what holds of the ways at an instance
pub record AreFine (B : BoxLibrary) (m : Module) (i : Instance) (ws : List Way) : Type 0 where
  pub fine : AllByRecursion (IsFine (closed B m) i) ws
  pub told : AllByRecursion (WayIsTold B m i) ws

pub all_fine : (B : BoxLibrary) (k : ℕ) (m : Module) → IsInShape B k m → AllTails (AtCut (AreFine B m) B m) m.items
all_fine B k m shape = tails_to (AtCut (IsWithin B m) B m) (AtCut (AreFine B m) B m) m.items one (all_within B m)
  where
    one : (x : Item) (rest : List Item) → AtCut (IsWithin B m) B m x rest → AtCut (AreFine B m) B m x rest
    one (item.Gate g) rest all = tt
    one (item.Assign output input) rest all = tt
    one (item.Instance i) rest all = λ ports e.
        let told = ways_told B m i (ways m i false ports rest) (all ports e) in
        record { fine = ways_fine B k m shape (counted_of B k m shape) i (ways m i false ports rest) told (ways_read m i ports rest); told = told }
