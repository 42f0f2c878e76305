-- Links of a closed module's boxes are without fault.
use Rattle.std.proofs.Common.{◌≡◌, ◌⊎◌, inl, inr, ℕ, ◌+◌, ◌≤◌, Bool, true, false, not, cond, ◌&&◌, ◌||◌, List, [], ◌∷◌, ◌++◌, map, drop, Option, Some, None, is_some, refl, sym, ap, subst, ◌∙◌, arith, append_assoc, append-nil, eqb-true, eq-eqb, if◌then◌else◌, ◌==◌}
use Rattle.std.specs.Prelude.{IsSome, option_and_then}
use Rattle.std.specs.List.{AllByRecursion, flat_map, list_any}
use Rattle.std.specs.Option.{option_map, option_map_or, option_or}
use Rattle.std.specs.Str.{bytes_eq}
use Rattle.std.proofs.lemmas.Slice.Eq.{bytes_eq-Decides}
use Rattle.list_laws.proofs.Bytes.{bytes_eq-same, bytes_eq-sym}
use Rattle.list_laws.proofs.Tests.{and_left, and_right, neither, or_false, not_true, or_first, or_second}
use Rattle.verilog_tree.specs.declared.tree.Range.{Range}
use Rattle.verilog_tree.specs.declared.tree.Link.{Link}
use Rattle.verilog_tree.specs.declared.tree.Wire.{Wire}
use Rattle.verilog_tree.specs.declared.tree.Instance.{Instance}
use Rattle.verilog_tree.specs.declared.tree.Item.{Item}
use Rattle.verilog_tree.specs.declared.tree.Item.TheVariants as item
use Rattle.verilog_tree.specs.declared.tree.Module.{Module}
use Rattle.verilog_tree.specs.Trees.{range_eq}
use Rattle.link_model.specs.Lists.{has_name}
use Rattle.link_model.specs.Nets.{Declared, wire_nets, declared_nets, declared_names, declared_as, width}
use Rattle.box_model.specs.declared.boxes.BoxLibrary.{BoxLibrary}
use Rattle.box_model.specs.declared.boxes.BoxCell.{BoxCell}
use Rattle.box_model.specs.declared.boxes.BoxPort.{BoxPort}
use Rattle.box_model.specs.declared.fault.BoxFault.TheVariants.{BoxLink}
use Rattle.box_model.specs.Ports.{box_named, cut_ports, hidden_name, is_port_of, other_links}
use Rattle.box_model.specs.Opened.{is_wire_as}
use Rattle.box_model.specs.Closed.{whole_net, added_wires, own_ports, closed, closed_items}
use Rattle.box_model.specs.Faults.{fits_net, fits_operand, port_named, bad_link, link_fault}
use Rattle.box_model.specs.Laws.{standing_of, item_standing, IsEmptyBox, IsInShape}
use Rattle.box_model.proofs.Counting.{all_to, all_drop, times, times-append, none_times, parts_within, AreOnce}
use Rattle.box_model.proofs.Ranges.{net_range, declared_range, ports_absent, wires_absent}
use Rattle.box_model.proofs.Clear.{name_of, kept_all}
use Rattle.box_model.proofs.LinkFits.{length-bits_of, each_named}
use Rattle.box_model.proofs.Halves.{map-flat_map}
use Rattle.box_model.proofs.Items.{closed_none}
use Rattle.box_model.proofs.TreeNames.{all_kept}
use Rattle.box_model.proofs.Reruns.{own_run_is}
use Rattle.box_model.proofs.Ways.{Way, Linked, Wired, way_port, ways, Holds, all_ways}
use Rattle.box_model.proofs.WaysItems.{is_there}
use Rattle.box_model.proofs.WaysLinks.{way_name, way_operand, way_link, ways_from, ways_names}
use Rattle.box_model.proofs.Pieces.{taken, closed_cut, AllTails, by_pieces, of_ways}
use Rattle.box_model.proofs.Lost.{WayIsRead, ways_read, wired_names}
use Rattle.box_model.proofs.Told.{wire_name, added_names}
use Rattle.box_model.proofs.Shape.{IsCounted, counted_of, no_wire, closed_range, WayIsTold, same_in}
use Rattle.box_model.proofs.Reopened.{IsReady}
use Rattle.box_model.proofs.GoodBits.{IsGoodItem, IsGoodOperand, run_good, joint_fits}

-- Names of ports.

-- hidden names of all cut ports, by the module that is closed
abbrev pub standings : BoxLibrary → Module → List (List ℕ)
standings B m = map name_of (flat_map (item_standing B m) m.items)

-- an instance's ports have different names
abbrev pub PortsOnce : BoxLibrary → Item → Type 0
PortsOnce B (item.Instance i) = (ports : List BoxPort) → cut_ports B i ≡ Some ports → AreOnce (map (λ (p : BoxPort). p.name) ports)
PortsOnce B (item.Gate g) = Unit {0}
PortsOnce B (item.Assign output input) = Unit {0}

hidden_within : (name : List ℕ) (B : BoxLibrary) (m : Module) (i : Instance) (ps : List BoxPort) → times name (map (λ (p : BoxPort). p.name) ps) ≤ times (hidden_name i.name name) (map name_of (map (standing_of B m i) ps))
hidden_within name B m i [] = omega arith
hidden_within name B m i (p ∷ ps) = by (bytes_eq name p.name) refl (hidden_within name B m i ps)
  where
    by : (b : Bool) → bytes_eq name p.name ≡ b → times name (map (λ (q : BoxPort). q.name) ps) ≤ times (hidden_name i.name name) (map name_of (map (standing_of B m i) ps))
        → cond b 1 0 + times name (map (λ (q : BoxPort). q.name) ps)
        ≤ cond (bytes_eq (hidden_name i.name name) (hidden_name i.name p.name)) 1 0 + times (hidden_name i.name name) (map name_of (map (standing_of B m i) ps))
    by true t less =
        let same : bytes_eq (hidden_name i.name name) (hidden_name i.name p.name) ≡ true =
        ap (λ (n : List ℕ). bytes_eq (hidden_name i.name name) (hidden_name i.name n)) (sym ((bytes_eq-Decides name p.name).0 t)) ∙ bytes_eq-same (hidden_name i.name name) in
        rw same (omega arith)
    by false t less = omega arith

pub all_once : (B : BoxLibrary) (m : Module) → AreOnce (standings B m) → AllByRecursion (PortsOnce B) m.items
all_once B m once = all_to m.items one (parts_within (λ y. map name_of (item_standing B m y)) m.items)
  where
    one : (x : Item) → ((name : List ℕ) → times name (map name_of (item_standing B m x)) ≤ times name (flat_map (λ y. map name_of (item_standing B m y)) m.items)) → PortsOnce B x
    one (item.Gate g) within = tt
    one (item.Assign output input) within = tt
    one (item.Instance i) within = λ ports e name.
        let hidden = hidden_name i.name name in
        let here : times hidden (map name_of (map (standing_of B m i) ports)) ≤ times hidden (flat_map (λ y. map name_of (item_standing B m y)) m.items) =
        subst (λ (o : Option (List BoxPort)). times hidden (map name_of (option_map_or (map (standing_of B m i)) o [])) ≤ times hidden (flat_map (λ y. map name_of (item_standing B m y)) m.items)) e (within hidden) in
        let flat = ap (times hidden) (map-flat_map name_of (item_standing B m) m.items) in
        let all = once hidden in
        omega (arith, here, flat, hidden_within name B m i ports)

-- Operands fit.

pub range_is : (a b : Option Range) → range_eq a b ≡ true → a ≡ b
range_is None None h = refl
range_is None (Some s) h = absurd (cc)
range_is (Some r) None h = absurd (cc)
range_is (Some r) (Some s) h =
    let left = eqb-true r.left s.left (and_left (r.left == s.left) (r.right == s.right) h) in
    let right = eqb-true r.right s.right (and_right (r.left == s.left) (r.right == s.right) h) in
    let by_left : ℕ → Range = λ k. record { left = k; right = r.right } in
    let by_right : ℕ → Range = λ k. record { left = s.left; right = k } in
    ap (λ (x : Range). Some x) (ap by_left left ∙ ap by_right right)

wire_range : (name : List ℕ) (range : Option Range) (ws : List Wire) → list_any (is_wire_as name range) ws ≡ true → times name (map wire_name ws) ≤ 1 → net_range name (map wire_nets ws) ≡ Some range
wire_range name range [] there once = absurd (cc)
wire_range name range (w ∷ ws) there once = by (bytes_eq name w.name) (bytes_eq-sym w.name name) once (wire_range name range ws)
  where
    by : (b : Bool) → bytes_eq w.name name ≡ b → cond b 1 0 + times name (map wire_name ws) ≤ 1
        → (list_any (is_wire_as name range) ws ≡ true → times name (map wire_name ws) ≤ 1 → net_range name (map wire_nets ws) ≡ Some range) → cond b (Some w.range) (net_range name (map wire_nets ws)) ≡ Some range
    by true e few rest =
        let none = no_wire name range ws (omega arith) in
        let here : range_eq w.range range ≡ true =
        sym (ap (λ (b : Bool). (b && range_eq w.range range) || list_any (is_wire_as name range) ws) e ∙ ap (λ (b : Bool). range_eq w.range range || b) none ∙ or_false (range_eq w.range range)) ∙ there in
        ap (λ (r : Option Range). Some r) (range_is w.range range here)
    by false e few rest =
        let more : list_any (is_wire_as name range) ws ≡ true = sym (ap (λ (b : Bool). (b && range_eq w.range range) || list_any (is_wire_as name range) ws) e) ∙ there in
        rest more (omega arith)

-- a name with a range is declared with it
range_declared : (m : Module) (name : List ℕ) (range : Option Range) → net_range name (declared_nets m) ≡ Some range → (d : Declared) × (declared_as (declared_names m) name ≡ Some d) × (d.range ≡ range)
range_declared m name range h = by (declared_as (declared_names m) name) refl
  where
    by : (o : Option Declared) → declared_as (declared_names m) name ≡ o → (d : Declared) × (declared_as (declared_names m) name ≡ Some d) × (d.range ≡ range)
    by None e = absurd (let none = sym (ap (option_map (λ (d : Declared). d.range)) e) ∙ declared_range m name ∙ h in cc)
    by (Some d) e = let some = sym (ap (option_map (λ (f : Declared). f.range)) e) ∙ declared_range m name ∙ h in (d, e, cc)

wired_fits : (B : BoxLibrary) (m : Module) → IsCounted B m → (i : Instance) (p : BoxPort) → 1 ≤ times (hidden_name i.name p.name) (of_ways B m wired_names m.items)
    → list_any (is_wire_as (hidden_name i.name p.name) p.range) (added_wires B m m.items) ≡ true → fits_operand (closed B m) p (whole_net (hidden_name i.name p.name)) ≡ true
wired_fits B m counted i p there wire =
    let name = hidden_name i.name p.name in
    let all = counted.once name in
    let added = net_range name (map wire_nets (added_wires B m m.items)) in
    let range : net_range name (declared_nets (closed B m)) ≡ Some p.range =
    closed_range B m name
    ∙ ap (λ (o : Option (Option Range)). option_or o (option_or (net_range name (map wire_nets m.wires)) added)) (ports_absent name (own_ports B m) (omega arith))
    ∙ ap (λ (o : Option (Option Range)). option_or o added) (wires_absent name m.wires (omega arith))
    ∙ wire_range name p.range (added_wires B m m.items) wire (omega (arith, ap (times name) (added_names B m m.items))) in
    let d = range_declared (closed B m) name p.range range in
    ap (λ (o : Option Declared). option_map_or (fits_net p None) o false) d.1
    ∙ ap (λ (r : Option Range). width r == width p.range) d.2 ∙ eq-eqb (width p.range) (width p.range) refl

abbrev WayIsGood : Module → Way → Type 0
WayIsGood m (Linked p os o) = AllByRecursion (IsGoodOperand m) os
WayIsGood m (Wired p) = Unit {0}

ways_good : (m : Module) (i : Instance) (ports : List BoxPort) (items : List Item) → AllByRecursion (IsGoodItem m) items → AllByRecursion (WayIsGood m) (ways m i false ports items)
ways_good m i ports items good = all_ways (WayIsGood m) (AllByRecursion (IsGoodItem m)) (λ n xs left. all_drop (IsGoodItem m) n xs left) m i false ports items (each ports) good
  where
    each : (ps : List BoxPort) → AllByRecursion (Holds (WayIsGood m) (AllByRecursion (IsGoodItem m)) m i) ps
    each [] = tt
    each (p ∷ ps) = (
      record {
        wired = λ there. tt;
        linked = λ there parted xs os o left run joins. let own = own_run_is m i p xs os run in run_good m i p os xs own.run.linked own.run.wide own.run.is left;
      },
      each ps,
    )

abbrev WayFits : Module → Instance → Way → Type 0
WayFits c i w = fits_operand c (way_port w) (way_operand i w) ≡ true

ways_fit : (B : BoxLibrary) (k : ℕ) (m : Module) → IsInShape B k m → (i : Instance) (ws : List Way) → AllByRecursion (WayIsTold B m i) ws → AllByRecursion (WayIsRead m i) ws → AllByRecursion (WayIsGood m) ws
    → AllByRecursion (WayFits (closed B m) i) ws
ways_fit B k m shape i [] told read good = tt
ways_fit B k m shape i (Wired p ∷ ws) told read good = (wired_fits B m (counted_of B k m shape) i p told.0.0 told.0.1, ways_fit B k m shape i ws told.1 read.1 good.1)
ways_fit B k m shape i (Linked p os o ∷ ws) told read good = (
  joint_fits m (closed B m) p os o read.0.linked (read.0.wide ∙ length-bits_of (hidden_name i.name p.name) p.range) good.0 read.0.parted read.0.joins (same_in B k m shape (counted_of B k m shape) o told.0.2),
  ways_fit B k m shape i ws told.1 read.1 good.1,
)

-- Links.

-- links of no cut port are nobody's fault where the instance is no box, or has none
plain_links : (c : Module) (ports : List BoxPort) (whole : Bool) (had : List (List ℕ)) (links more : List Link) → AllByRecursion (λ l. is_port_of ports l ≡ false) links → (whole ≡ false) ⊎ (links ≡ [])
    → bad_link c ports whole had (links ++ more) ≡ bad_link c ports whole (had ++ map (λ (l : Link). l.port) links) more
plain_links c ports whole had [] more all may = ap (λ (h : List (List ℕ)). bad_link c ports whole h more) (sym (append-nil had))
plain_links c ports whole had (l ∷ links) more all (inr none) = absurd (cc)
plain_links c ports whole had (l ∷ links) more all (inl never) =
    let absent : port_named ports l.port ≡ None = none_named ports all.0 in
    let test : Option BoxPort → Bool = λ o. option_map_or (λ p. has_name had l.port || option_map_or (λ y. not (fits_operand c p y)) l.operand false) o whole in
    ap (λ (b : Bool). if b then Some l.port else bad_link c ports whole (had ++ l.port ∷ []) (links ++ more)) (ap test absent ∙ never)
    ∙ plain_links c ports whole (had ++ l.port ∷ []) links more all.1 (inl never)
    ∙ ap (λ (h : List (List ℕ)). bad_link c ports whole h more) (append_assoc had (l.port ∷ []) (map (λ (k : Link). k.port) links))
  where
    none_named : (ps : List BoxPort) → list_any (λ (p : BoxPort). bytes_eq p.name l.port) ps ≡ false → port_named ps l.port ≡ None
    none_named [] h = refl
    none_named (p ∷ ps) h =
        ap (λ (b : Bool). if b then Some p else port_named ps l.port) (or_first (bytes_eq p.name l.port) (list_any (λ (q : BoxPort). bytes_eq q.name l.port) ps) h)
        ∙ none_named ps (or_second (bytes_eq p.name l.port) (list_any (λ (q : BoxPort). bytes_eq q.name l.port) ps) h)

way_links : (c : Module) (i : Instance) (ports : List BoxPort) (whole : Bool) (had : List (List ℕ)) (ws : List Way) → AllByRecursion (λ w. port_named ports (way_name w) ≡ Some (way_port w)) ws → AllByRecursion (WayFits c i) ws
    → AllByRecursion (λ w. times (way_name w) had ≡ 0) ws → AreOnce (map way_name ws) → bad_link c ports whole had (map (way_link i) ws) ≡ None
way_links c i ports whole had [] named fits apart once = refl
way_links c i ports whole had (w ∷ ws) named fits apart once =
    let test : Option BoxPort → Bool = λ o. option_map_or (λ p. has_name had (way_name w) || not (fits_operand c p (way_operand i w))) o whole in
    ap (λ (b : Bool). if b then Some (way_name w) else bad_link c ports whole (had ++ way_name w ∷ []) (map (way_link i) ws))
    (ap test named.0 ∙ neither (has_name had (way_name w)) (not (fits_operand c (way_port w) (way_operand i w))) (none_times (way_name w) had apart.0) (ap not fits.0))
    ∙ way_links c i ports whole (had ++ way_name w ∷ []) ws named.1 fits.1 (later ws (there ws) apart.1) (λ name. let all = once name in omega arith)
  where
    there : (us : List Way) → AllByRecursion (λ v. 1 ≤ times (way_name v) (map way_name us)) us
    there [] = tt
    there (u ∷ us) = (rw (bytes_eq-same (way_name u)) (omega arith), all_to us (λ v below. omega arith) (there us))

    later : (us : List Way) → AllByRecursion (λ v. 1 ≤ times (way_name v) (map way_name ws)) us → AllByRecursion (λ v. times (way_name v) had ≡ 0) us → AllByRecursion (λ v. times (way_name v) (had ++ way_name w ∷ []) ≡ 0) us
    later [] one none = tt
    later (u ∷ us) one none =
        ((let all = once (way_name u) in let here = one.0 in let no_had = none.0 in omega (arith, times-append (way_name u) had (way_name w ∷ []))), later us one.1 none.1)

abbrev pub IsSoundCut : BoxLibrary → Module → Item → List Item → Type 0
IsSoundCut B m x rest = IsReady B m x rest × (AllByRecursion (IsGoodItem m) rest × (IsEmptyBox B x × PortsOnce B x))

bare_apart : (ports : List BoxPort) (links : List Link) → other_links ports links ≡ links → AllByRecursion (λ l. is_port_of ports l ≡ false) links
bare_apart ports links bare = all_to links (λ l kept. not_true (is_port_of ports l) kept) (kept_all (λ l. not (is_port_of ports l)) links bare)

names_apart : (ports : List BoxPort) (links : List Link) → AllByRecursion (λ l. is_port_of ports l ≡ false) links → AllByRecursion (λ (p : BoxPort). times p.name (map (λ (l : Link). l.port) links) ≡ 0) ports
names_apart ports [] all = every ports
  where
    every : (ps : List BoxPort) → AllByRecursion (λ (p : BoxPort). times p.name [] ≡ 0) ps
    every [] = tt
    every (p ∷ ps) = (refl, every ps)
names_apart ports (l ∷ links) all = both ports all.0 (names_apart ports links all.1)
  where
    both : (ps : List BoxPort) → list_any (λ (p : BoxPort). bytes_eq p.name l.port) ps ≡ false → AllByRecursion (λ (p : BoxPort). times p.name (map (λ (k : Link). k.port) links) ≡ 0) ps
        → AllByRecursion (λ (p : BoxPort). times p.name (l.port ∷ map (λ (k : Link). k.port) links) ≡ 0) ps
    both [] never rest = tt
    both (p ∷ ps) never rest = (
      ap (λ (b : Bool). cond b 1 0 + times p.name (map (λ (k : Link). k.port) links)) (or_first (bytes_eq p.name l.port) (list_any (λ (q : BoxPort). bytes_eq q.name l.port) ps) never) ∙ (let none = rest.0 in omega arith),
      both ps (or_second (bytes_eq p.name l.port) (list_any (λ (q : BoxPort). bytes_eq q.name l.port) ps) never) rest.1,
    )

whole_or_empty : (B : BoxLibrary) (i : Instance) → (IsSome (box_named B i.cell) → i.links ≡ []) → (is_some (box_named B i.cell) ≡ false) ⊎ (i.links ≡ [])
whole_or_empty B i empty = by (box_named B i.cell) empty
  where
    by : (o : Option BoxCell) → (IsSome o → i.links ≡ []) → (is_some o ≡ false) ⊎ (i.links ≡ [])
    by None none = inl refl
    by (Some b) none = inr (none refl)

cut_fits : (B : BoxLibrary) (k : ℕ) (m : Module) → IsInShape B k m → (i : Instance) (ports : List BoxPort) (xs : List Item) → cut_ports B i ≡ Some ports → IsSoundCut B m (item.Instance i) xs
    → bad_link (closed B m) ports (is_some (box_named B i.cell)) [] (i.links ++ map (way_link i) (ways m i false ports xs)) ≡ None
cut_fits B k m shape i ports xs e sound =
    let ws = ways m i false ports xs in
    let laid = sound.0.0 ports e in
    let told = (sound.0.1 ports e).told in
    let whole = is_some (box_named B i.cell) in
    let plain = bare_apart ports i.links laid.bare in
    let named = ways_from (λ p. port_named ports p.name ≡ Some p) m i ports xs (all_kept (λ p. port_named ports p.name ≡ Some p) (is_there m i) ports (each_named ports (sound.1.1.1 ports e))) in
    let apart = ways_from (λ p. times p.name (map (λ (l : Link). l.port) i.links) ≡ 0) m i ports xs (all_kept (λ p. times p.name (map (λ (l : Link). l.port) i.links) ≡ 0) (is_there m i) ports (names_apart ports i.links plain)) in
    let once : AreOnce (map way_name ws) = λ name. subst (λ (ns : List (List ℕ)). times name ns ≤ 1) (sym (ways_names m i ports xs)) (laid.once name) in
    plain_links (closed B m) ports whole [] i.links (map (way_link i) ws) plain (whole_or_empty B i sound.1.1.0)
    ∙ way_links (closed B m) i ports whole (map (λ (l : Link). l.port) i.links) ws named (ways_fit B k m shape i ws told (ways_read m i ports xs) (ways_good m i ports xs sound.1.0)) apart once

abbrev LinksFit : BoxLibrary → Module → List Item → Type 0
LinksFit B m items = AllByRecursion (λ x. link_fault B (closed B m) x ≡ None) (closed_items B m 0 items)

pub links_clear : (B : BoxLibrary) (k : ℕ) (m : Module) → IsInShape B k m → (items : List Item) → AllTails (IsSoundCut B m) items → LinksFit B m items
links_clear B k m shape items all = by_pieces B m (IsSoundCut B m) (LinksFit B m) (record { none = tt; gate = λ g xs rest. (refl, rest); assign = λ output input xs rest. (refl, rest); plain = plain; cut = cut }) items all
  where
    plain : (i : Instance) (xs : List Item) → cut_ports B i ≡ None → LinksFit B m xs → LinksFit B m (item.Instance i ∷ xs)
    plain i xs e rest = subst (AllByRecursion (λ x. link_fault B (closed B m) x ≡ None)) (sym (closed_none B m i xs e))
        (ap (option_and_then (λ ports. option_map (BoxLink i.name) (bad_link (closed B m) ports (is_some (box_named B i.cell)) [] i.links))) e, rest)

    cut : (i : Instance) (ports : List BoxPort) (xs : List Item) → cut_ports B i ≡ Some ports → IsSoundCut B m (item.Instance i) xs → LinksFit B m (drop (taken m i ports xs) xs) → LinksFit B m (item.Instance i ∷ xs)
    cut i ports xs e sound rest =
        let links = i.links ++ map (way_link i) (ways m i false ports xs) in
        subst (AllByRecursion (λ x. link_fault B (closed B m) x ≡ None)) (sym (closed_cut B m i ports xs e)) (
          ap (option_and_then (λ ps. option_map (BoxLink i.name) (bad_link (closed B m) ps (is_some (box_named B i.cell)) [] links))) e
              ∙ ap (option_map (BoxLink i.name)) (cut_fits B k m shape i ports xs e sound),
          rest,
        )
