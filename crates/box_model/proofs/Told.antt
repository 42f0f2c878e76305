-- Hidden ports that stand in a module are those that come back by a wire, and those that come back by a link.
use Rattle.std.proofs.Common.{◌≡◌, ℕ, ◌+◌, Bool, true, false, cond, ◌||◌, List, [], ◌∷◌, ◌++◌, map, count_by, Option, Some, None, refl, sym, ap, ◌∙◌, arith}
use Rattle.std.specs.List.{flat_map, list_any}
use Rattle.std.specs.Option.{option_map, option_map_or, option_or}
use Rattle.std.specs.Str.{bytes_eq}
use Rattle.std.proofs.lemmas.List.{map-append}
use Rattle.std.proofs.lemmas.List.Folds.{list_any-append}
use Rattle.std.proofs.lemmas.List.Sums.{sum_by-cons}
use Rattle.list_laws.proofs.Bytes.{bytes_eq-sym}
use Rattle.list_laws.proofs.Tests.{or_more}
use Rattle.verilog_tree.specs.declared.tree.Range.{Range}
use Rattle.verilog_tree.specs.declared.tree.Port.{Port}
use Rattle.verilog_tree.specs.declared.tree.Wire.{Wire}
use Rattle.verilog_tree.specs.declared.tree.Instance.{Instance}
use Rattle.verilog_tree.specs.declared.tree.Item.{Item}
use Rattle.verilog_tree.specs.declared.tree.Item.TheVariants as item
use Rattle.verilog_tree.specs.declared.tree.Module.{Module}
use Rattle.link_model.specs.Nets.{NetDeclaration, port_nets, wire_nets}
use Rattle.box_model.specs.declared.boxes.BoxLibrary.{BoxLibrary}
use Rattle.box_model.specs.declared.boxes.BoxPort.{BoxPort}
use Rattle.box_model.specs.Ports.{cut_ports, hidden_name, hidden_port}
use Rattle.box_model.specs.Opened.{is_declared_as}
use Rattle.box_model.specs.Closed.{Closing, closing, closing_at, added_wires, present_at, item_present}
use Rattle.box_model.proofs.Counting.{times, times-append, times-map-append}
use Rattle.box_model.proofs.Ranges.{net_range, net_range-append}
use Rattle.box_model.proofs.Named.{port_name}
use Rattle.box_model.proofs.Ways.{Way, Linked, Wired, way_port, collect, ways, closing_ways}
use Rattle.box_model.proofs.WaysItems.{ways_ports}
use Rattle.box_model.proofs.Pieces.{AllTails, tails_to, of_ways}
use Rattle.box_model.proofs.Lost.{wired_names, linked_names}

abbrev pub wire_name : Wire → List ℕ
wire_name w = w.name

-- Wires that are added.

wires_named : (i : Instance) (ws : List Way) → map wire_name (collect i ws).wires ≡ wired_names i ws
wires_named i [] = refl
wires_named i (Linked p os o ∷ ws) = wires_named i ws
wires_named i (Wired p ∷ ws) = ap (λ (ns : List (List ℕ)). hidden_name i.name p.name ∷ ns) (wires_named i ws)

pub added_names : (B : BoxLibrary) (m : Module) (items : List Item) → map wire_name (added_wires B m items) ≡ of_ways B m wired_names items
added_names B m [] = refl
added_names B m (item.Gate g ∷ items) = added_names B m items
added_names B m (item.Assign output input ∷ items) = added_names B m items
added_names B m (item.Instance i ∷ items) = by (cut_ports B i) (added_names B m items)
  where
    by : (o : Option (List BoxPort)) → map wire_name (added_wires B m items) ≡ of_ways B m wired_names items
        → map wire_name (option_map_or (λ (c : Closing). c.wires) (option_map (λ ports. closing m i false ports items) o) [] ++ added_wires B m items)
        ≡ option_map_or (λ ports. wired_names i (ways m i false ports items)) o [] ++ of_ways B m wired_names items
    by None rest = rest
    by (Some ports) rest =
        map-append wire_name (closing m i false ports items).wires (added_wires B m items)
        ∙ ap (λ (ns : List (List ℕ)). ns ++ map wire_name (added_wires B m items)) (ap (λ (c : Closing). map wire_name c.wires) (closing_ways m i false ports items) ∙ wires_named i (ways m i false ports items))
        ∙ ap (λ (ns : List (List ℕ)). wired_names i (ways m i false ports items) ++ ns) rest

-- wires that an instance adds stand among all
abbrev pub wires_at : BoxLibrary → Module → Item → List Item → List Wire
wires_at B m x rest = option_map_or (λ (c : Closing). c.wires) (closing_at B m x rest) []

pub wires_within : (B : BoxLibrary) (m : Module) (items : List Item) → AllTails (λ x rest. (test : Wire → Bool) → list_any test (wires_at B m x rest) ≡ true → list_any test (added_wires B m items) ≡ true) items
wires_within B m [] = tt
wires_within B m (x ∷ items) = (
  λ test there. list_any-append test (wires_at B m x items) (added_wires B m items) ∙ ap (λ (b : Bool). b || list_any test (added_wires B m items)) there,
  tails_to (λ y rest. (test : Wire → Bool) → list_any test (wires_at B m y rest) ≡ true → list_any test (added_wires B m items) ≡ true)
      (λ y rest. (test : Wire → Bool) → list_any test (wires_at B m y rest) ≡ true → list_any test (added_wires B m (x ∷ items)) ≡ true) items
      (λ y rest below test there. list_any-append test (wires_at B m x items) (added_wires B m items) ∙ or_more (list_any test (wires_at B m x items)) (list_any test (added_wires B m items)) (below test there)) (wires_within B m items),
)

-- Hidden ports.

both_ways : (name : List ℕ) (i : Instance) (ws : List Way) → times name (map port_name (map (hidden_port i) (map way_port ws))) ≡ times name (wired_names i ws) + times name (linked_names i ws)
both_ways name i [] = refl
both_ways name i (Linked p os o ∷ ws) = omega (arith, both_ways name i ws)
both_ways name i (Wired p ∷ ws) = omega (arith, both_ways name i ws)

pub present_names : (name : List ℕ) (B : BoxLibrary) (m : Module) (items : List Item)
    → times name (map port_name (flat_map (item_present B m) items)) ≡ times name (of_ways B m wired_names items) + times name (of_ways B m linked_names items)
present_names name B m [] = refl
present_names name B m (item.Gate g ∷ items) = present_names name B m items
present_names name B m (item.Assign output input ∷ items) = present_names name B m items
present_names name B m (item.Instance i ∷ items) = by (cut_ports B i) (present_names name B m items)
  where
    by : (o : Option (List BoxPort)) → times name (map port_name (flat_map (item_present B m) items)) ≡ times name (of_ways B m wired_names items) + times name (of_ways B m linked_names items)
        → times name (map port_name (option_map_or (present_at m i) o [] ++ flat_map (item_present B m) items))
        ≡ times name (option_map_or (λ ports. wired_names i (ways m i false ports items)) o [] ++ of_ways B m wired_names items)
        + times name (option_map_or (λ ports. linked_names i (ways m i false ports items)) o [] ++ of_ways B m linked_names items)
    by None rest = rest
    by (Some ports) rest =
        let ws = ways m i false ports items in
        let here : times name (map port_name (present_at m i ports)) ≡ times name (wired_names i ws) + times name (linked_names i ws) =
        ap (λ (ps : List BoxPort). times name (map port_name (map (hidden_port i) ps))) (sym (ways_ports m i false ports items)) ∙ both_ways name i ws in
        omega (
          arith,
          here,
          rest,
          times-map-append name port_name (present_at m i ports) (flat_map (item_present B m) items),
          times-append name (wired_names i ws) (of_ways B m wired_names items),
          times-append name (linked_names i ws) (of_ways B m linked_names items),
        )

-- the range of a hidden port is that of its wire
range_ways : (name : List ℕ) (i : Instance) (ws : List Way) → times name (linked_names i ws) ≡ 0 → net_range name (map port_nets (map (hidden_port i) (map way_port ws))) ≡ net_range name (map wire_nets (collect i ws).wires)
range_ways name i [] none = refl
range_ways name i (Wired p ∷ ws) none = ap (λ (o : Option (Option Range)). cond (bytes_eq name (hidden_name i.name p.name)) (Some p.range) o) (range_ways name i ws none)
range_ways name i (Linked p os o ∷ ws) none = by (bytes_eq name (hidden_name i.name p.name)) none (range_ways name i ws)
  where
    by : (b : Bool) → cond b 1 0 + times name (linked_names i ws) ≡ 0
        → (times name (linked_names i ws) ≡ 0 → net_range name (map port_nets (map (hidden_port i) (map way_port ws))) ≡ net_range name (map wire_nets (collect i ws).wires))
        → cond b (Some p.range) (net_range name (map port_nets (map (hidden_port i) (map way_port ws)))) ≡ net_range name (map wire_nets (collect i ws).wires)
    by true e rest = absurd (omega arith)
    by false e rest = rest (omega arith)

ports_behind : (name : List ℕ) (xs ys : List Port) → net_range name (map port_nets (xs ++ ys)) ≡ option_or (net_range name (map port_nets xs)) (net_range name (map port_nets ys))
ports_behind name xs ys = ap (net_range name) (map-append port_nets xs ys) ∙ net_range-append name (map port_nets xs) (map port_nets ys)

pub wires_behind : (name : List ℕ) (xs ys : List Wire) → net_range name (map wire_nets (xs ++ ys)) ≡ option_or (net_range name (map wire_nets xs)) (net_range name (map wire_nets ys))
wires_behind name xs ys = ap (net_range name) (map-append wire_nets xs ys) ∙ net_range-append name (map wire_nets xs) (map wire_nets ys)

pub ranges_told : (name : List ℕ) (B : BoxLibrary) (m : Module) (items : List Item) → times name (of_ways B m linked_names items) ≡ 0
    → net_range name (map port_nets (flat_map (item_present B m) items)) ≡ net_range name (map wire_nets (added_wires B m items))
ranges_told name B m [] none = refl
ranges_told name B m (item.Gate g ∷ items) none = ranges_told name B m items none
ranges_told name B m (item.Assign output input ∷ items) none = ranges_told name B m items none
ranges_told name B m (item.Instance i ∷ items) none = by (cut_ports B i) none (ranges_told name B m items)
  where
    by : (o : Option (List BoxPort)) → times name (option_map_or (λ ports. linked_names i (ways m i false ports items)) o [] ++ of_ways B m linked_names items) ≡ 0
        → (times name (of_ways B m linked_names items) ≡ 0 → net_range name (map port_nets (flat_map (item_present B m) items)) ≡ net_range name (map wire_nets (added_wires B m items)))
        → net_range name (map port_nets (option_map_or (present_at m i) o [] ++ flat_map (item_present B m) items))
        ≡ net_range name (map wire_nets (option_map_or (λ (c : Closing). c.wires) (option_map (λ ports. closing m i false ports items) o) [] ++ added_wires B m items))
    by None e rest = rest e
    by (Some ports) e rest =
        let ws = ways m i false ports items in
        let split = times-append name (linked_names i ws) (of_ways B m linked_names items) in
        let here : net_range name (map port_nets (present_at m i ports)) ≡ net_range name (map wire_nets (closing m i false ports items).wires) =
        ap (λ (ps : List BoxPort). net_range name (map port_nets (map (hidden_port i) ps))) (sym (ways_ports m i false ports items))
        ∙ range_ways name i ws (omega arith)
        ∙ ap (λ (c : Closing). net_range name (map wire_nets c.wires)) (sym (closing_ways m i false ports items)) in
        ports_behind name (present_at m i ports) (flat_map (item_present B m) items)
        ∙ ap (λ (o : Option (Option Range)). option_or o (net_range name (map port_nets (flat_map (item_present B m) items)))) here
        ∙ ap (option_or (net_range name (map wire_nets (closing m i false ports items).wires))) (rest (omega arith))
        ∙ sym (wires_behind name (closing m i false ports items).wires (added_wires B m items))

-- Declarations are counted.

declared_times : (name : List ℕ) (nets : List NetDeclaration) → count_by (is_declared_as name) nets ≡ times name (map (λ (n : NetDeclaration). n.name) nets)
declared_times name [] = refl
declared_times name (n ∷ nets) =
    sum_by-cons (λ y. cond (is_declared_as name y) 1 0) n nets
    ∙ ap (λ (b : Bool). cond b 1 0 + count_by (is_declared_as name) nets) (bytes_eq-sym n.name name)
    ∙ ap (λ (k : ℕ). cond (bytes_eq name n.name) 1 0 + k) (declared_times name nets)

port_net_names : (ports : List Port) → map (λ (n : NetDeclaration). n.name) (map port_nets ports) ≡ map port_name ports
port_net_names [] = refl
port_net_names (p ∷ ports) = ap (λ (ns : List (List ℕ)). p.name ∷ ns) (port_net_names ports)

wire_net_names : (wires : List Wire) → map (λ (n : NetDeclaration). n.name) (map wire_nets wires) ≡ map wire_name wires
wire_net_names [] = refl
wire_net_names (w ∷ wires) = ap (λ (ns : List (List ℕ)). w.name ∷ ns) (wire_net_names wires)

pub declared_count : (name : List ℕ) (ports : List Port) (wires : List Wire) → count_by (is_declared_as name) (map port_nets ports ++ map wire_nets wires) ≡ times name (map port_name ports) + times name (map wire_name wires)
declared_count name ports wires =
    declared_times name (map port_nets ports ++ map wire_nets wires)
    ∙ times-map-append name (λ (n : NetDeclaration). n.name) (map port_nets ports) (map wire_nets wires)
    ∙ ap (λ (ns : List (List ℕ)). times name ns + times name (map (λ (n : NetDeclaration). n.name) (map wire_nets wires))) (port_net_names ports)
    ∙ ap (λ (ns : List (List ℕ)). times name (map port_name ports) + times name ns) (wire_net_names wires)
