-- What the items of a closed module name: links name what the assigns named, and ports that come back by a link are named
-- no longer.
use Rattle.std.proofs.Common.{◌≡◌, ℕ, ◌+◌, ◌≤◌, Bool, true, false, cond, List, [], ◌∷◌, ◌++◌, map, drop, length, Option, Some, None, sym, ap, ◌∙◌, arith, if◌then◌else◌}
use Rattle.std.specs.Prelude.{option_and_then}
use Rattle.std.specs.List.{AllByRecursion, flat_map}
use Rattle.std.specs.Str.{bytes_eq}
use Rattle.std.proofs.lemmas.List.Concat.{flat_map-append}
use Rattle.verilog_tree.specs.declared.tree.Bit.{Bit}
use Rattle.verilog_tree.specs.declared.tree.Operand.{Operand}
use Rattle.verilog_tree.specs.declared.tree.Operand.TheVariants as operand
use Rattle.verilog_tree.specs.declared.tree.Gate.{Gate}
use Rattle.verilog_tree.specs.declared.tree.Instance.{Instance}
use Rattle.verilog_tree.specs.declared.tree.Item.{Item}
use Rattle.verilog_tree.specs.declared.tree.Item.TheVariants as item
use Rattle.verilog_tree.specs.declared.tree.Module.{Module}
use Rattle.link_model.specs.Nets.{Declared, width, declared_names, declared_as}
use Rattle.box_model.specs.declared.boxes.BoxLibrary.{BoxLibrary}
use Rattle.box_model.specs.declared.boxes.BoxPort.{BoxPort}
use Rattle.box_model.specs.Ports.{cut_ports, hidden_name, hidden_bits, bits_of}
use Rattle.box_model.specs.Closed.{times_named, are_bits, whole_if, joint, closed_items}
use Rattle.box_model.specs.Faults.{operand_name, linked_name, named_by}
use Rattle.box_model.proofs.Counting.{times, times-append}
use Rattle.box_model.proofs.Runs.{AllLinked}
use Rattle.box_model.proofs.Items.{closed_none}
use Rattle.box_model.proofs.Named.{operand_names, assigns_named}
use Rattle.box_model.proofs.Reruns.{own_run_is}
use Rattle.box_model.proofs.Ways.{Way, Linked, Wired, ways, Holds, all_ways}
use Rattle.box_model.proofs.WaysItems.{way_items}
use Rattle.box_model.proofs.WaysLinks.{way_link, closed_as}
use Rattle.box_model.proofs.Pieces.{taken, closed_cut, piece, AllTails, by_pieces, of_ways, ways_cut, ways_plain}

-- a port that comes back by a link: its run, and the operand that its bits join to
pub record IsRead (m : Module) (i : Instance) (p : BoxPort) (os : List Operand) (o : Operand) : Type 0 where
  pub linked : AllLinked p.dir os
  pub wide : length os ≡ length (hidden_bits i p)
  pub alone : times_named m (hidden_name i.name p.name) ≡ width p.range
  pub parted : Bool
  pub joins : joint m parted os ≡ Some o

abbrev pub WayIsRead : Module → Instance → Way → Type 0
WayIsRead m i (Linked p os o) = IsRead m i p os o
WayIsRead m i (Wired p) = Unit {0}

pub ways_read : (m : Module) (i : Instance) (ports : List BoxPort) (items : List Item) → AllByRecursion (WayIsRead m i) (ways m i false ports items)
ways_read m i ports items = all_ways (WayIsRead m i) (λ xs. Unit {0}) (λ n xs left. tt) m i false ports items (each ports) tt
  where
    each : (ps : List BoxPort) → AllByRecursion (Holds (WayIsRead m i) (λ xs. Unit {0}) m i) ps
    each [] = tt
    each (p ∷ ps) = (
      record {
        wired = λ there. tt;
        linked = λ there parted xs os o left run joins. let own = own_run_is m i p xs os run in record { linked = own.run.linked; wide = own.run.wide; alone = own.alone; parted = parted; joins = joins };
      },
      each ps,
    )

-- A joint names what its bits name.

joint_named : (name : List ℕ) (m : Module) (parted : Bool) (os : List Operand) (o : Operand) → joint m parted os ≡ Some o → times name (operand_name o) ≤ times name (operand_names os)
joint_named name m parted [] o h = absurd (cc)
joint_named name m parted (x ∷ []) o h = let it : x ≡ o = cc in omega (arith, ap (λ (y : Operand). times name (operand_name y)) it, times-append name (operand_name x) [])
joint_named name m true (x ∷ y ∷ os) o h = absurd (cc)
joint_named name m false (operand.Const value ∷ y ∷ os) o h = absurd (cc)
joint_named name m false (operand.Bit b ∷ y ∷ os) o h = by (declared_as (declared_names m) b.net) h
  where
    chosen : (t : Bool) → (if t then Some (operand.Bit (record { net = b.net; index = None })) else None) ≡ Some o → times name (operand_name o) ≤ cond (bytes_eq name b.net) 1 0 + times name (operand_names (y ∷ os))
    chosen true k = let it : operand.Bit (record { net = b.net; index = None }) ≡ o = cc in omega (arith, ap (λ (x : Operand). times name (operand_name x)) it)
    chosen false k = absurd (cc)

    by : (d : Option Declared) → option_and_then (whole_if b.net (operand.Bit b ∷ y ∷ os)) d ≡ Some o → times name (operand_name o) ≤ cond (bytes_eq name b.net) 1 0 + times name (operand_names (y ∷ os))
    by None k = absurd (cc)
    by (Some d) k = chosen (are_bits (bits_of b.net d.range) (operand.Bit b ∷ y ∷ os)) k

-- Names of an instance's ways.

abbrev pub wired_names : Instance → List Way → List (List ℕ)
wired_names i [] = []
wired_names i (Linked p os o ∷ ws) = wired_names i ws
wired_names i (Wired p ∷ ws) = hidden_name i.name p.name ∷ wired_names i ws

abbrev pub linked_names : Instance → List Way → List (List ℕ)
linked_names i [] = []
linked_names i (Linked p os o ∷ ws) = hidden_name i.name p.name ∷ linked_names i ws
linked_names i (Wired p ∷ ws) = linked_names i ws

-- the names of links
abbrev pub link_names : Instance → List Way → List (List ℕ)
link_names i ws = flat_map linked_name (map (way_link i) ws)

-- a hidden name for each bit of a port that comes back by a link
abbrev pub lost_names : Instance → List Way → List (List ℕ)
lost_names i [] = []
lost_names i (Linked p os o ∷ ws) = map (λ (b : Bit). b.net) (hidden_bits i p) ++ lost_names i ws
lost_names i (Wired p ∷ ws) = lost_names i ws

ways_lost : (name : List ℕ) (m : Module) (i : Instance) (ws : List Way) → AllByRecursion (WayIsRead m i) ws → times name (wired_names i ws) ≡ 0
    → times name (link_names i ws) + times name (lost_names i ws) ≤ times name (flat_map named_by (flat_map (way_items i) ws))
ways_lost name m i [] all none = omega arith
ways_lost name m i (Wired p ∷ ws) all none =
    let less = ways_lost name m i ws all.1 (omega arith) in
    omega (arith, times-append name (hidden_name i.name p.name ∷ []) (link_names i ws))
ways_lost name m i (Linked p os o ∷ ws) all none =
    let less = ways_lost name m i ws all.1 none in
    let here = all.0 in
    let bits = map (λ (b : Bit). b.net) (hidden_bits i p) in
    let mine = way_items i (Linked p os o) in
    let flat : times name (flat_map named_by (mine ++ flat_map (way_items i) ws)) ≡ times name (flat_map named_by mine) + times name (flat_map named_by (flat_map (way_items i) ws)) =
    ap (times name) (flat_map-append named_by mine (flat_map (way_items i) ws)) ∙ times-append name (flat_map named_by mine) (flat_map named_by (flat_map (way_items i) ws)) in
    omega (arith, flat, assigns_named name p.dir (hidden_bits i p) os here.linked here.wide, joint_named name m here.parted os o here.joins, times-append name (operand_name o) (link_names i ws), times-append name bits (lost_names i ws))

-- Names of the closed items.

links_split : (name : List ℕ) (i : Instance) (ws : List Way) → times name (named_by (item.Instance (closed_as i ws))) ≡ times name (named_by (item.Instance i)) + times name (link_names i ws)
links_split name i ws = ap (times name) (flat_map-append linked_name i.links (map (way_link i) ws)) ∙ times-append name (flat_map linked_name i.links) (flat_map linked_name (map (way_link i) ws))

abbrev Lost : BoxLibrary → Module → List ℕ → List Item → Type 0
Lost B m name items = times name (of_ways B m wired_names items) ≡ 0
    → times name (flat_map named_by (closed_items B m 0 items)) + times name (of_ways B m lost_names items) ≤ times name (flat_map named_by items)

pub all_lost : (B : BoxLibrary) (m : Module) (name : List ℕ) (items : List Item) → AllTails (λ x rest. Unit {0}) items → Lost B m name items
all_lost B m name items all = by_pieces B m (λ x rest. Unit {0}) (Lost B m name) (record { none = λ wired. omega arith; gate = gate; assign = assign; plain = plain; cut = cut }) items all
  where
    gate : (g : Gate) (xs : List Item) → Lost B m name xs → Lost B m name (item.Gate g ∷ xs)
    gate g xs rest wired =
        let less = rest wired in
        omega (arith, times-append name (named_by (item.Gate g)) (flat_map named_by (closed_items B m 0 xs)), times-append name (named_by (item.Gate g)) (flat_map named_by xs))

    assign : (output : Bit) (input : Operand) (xs : List Item) → Lost B m name xs → Lost B m name (item.Assign output input ∷ xs)
    assign output input xs rest wired =
        let less = rest wired in
        omega (arith, times-append name (named_by (item.Assign output input)) (flat_map named_by (closed_items B m 0 xs)), times-append name (named_by (item.Assign output input)) (flat_map named_by xs))

    plain : (i : Instance) (xs : List Item) → cut_ports B i ≡ None → Lost B m name xs → Lost B m name (item.Instance i ∷ xs)
    plain i xs e rest wired =
        let less = rest (sym (ap (times name) (ways_plain B m wired_names i xs e)) ∙ wired) in
        omega (
          arith,
          ap (λ (ys : List Item). times name (flat_map named_by ys)) (closed_none B m i xs e),
          ap (times name) (ways_plain B m lost_names i xs e),
          times-append name (named_by (item.Instance i)) (flat_map named_by (closed_items B m 0 xs)),
          times-append name (named_by (item.Instance i)) (flat_map named_by xs),
        )

    cut : (i : Instance) (ports : List BoxPort) (xs : List Item) → cut_ports B i ≡ Some ports → Unit {0} → Lost B m name (drop (taken m i ports xs) xs) → Lost B m name (item.Instance i ∷ xs)
    cut i ports xs e fact rest wired =
        let ws = ways m i false ports xs in
        let left = drop (taken m i ports xs) xs in
        let mine = flat_map (way_items i) ws in
        let split = times-append name (wired_names i ws) (of_ways B m wired_names left) in
        let apart = sym (ap (times name) (ways_cut B m wired_names i ports xs e)) ∙ wired in
        let less = rest (omega arith) in
        let here = ways_lost name m i ws (ways_read m i ports xs) (omega arith) in
        let flat : times name (flat_map named_by xs) ≡ times name (flat_map named_by mine) + times name (flat_map named_by left) =
        ap (λ (ys : List Item). times name (flat_map named_by ys)) (sym (piece B m i ports xs e)) ∙ ap (times name) (flat_map-append named_by mine left) ∙ times-append name (flat_map named_by mine) (flat_map named_by left) in
        omega (
          arith,
          flat,
          ap (λ (ys : List Item). times name (flat_map named_by ys)) (closed_cut B m i ports xs e),
          ap (times name) (ways_cut B m lost_names i ports xs e),
          times-append name (lost_names i ws) (of_ways B m lost_names left),
          links_split name i ws,
          times-append name (named_by (item.Instance (closed_as i ws))) (flat_map named_by (closed_items B m 0 left)),
          times-append name (named_by (item.Instance i)) (flat_map named_by xs),
        )

-- Links stand in the closed items.

abbrev Stands : BoxLibrary → Module → List ℕ → List Item → Type 0
Stands B m name items = times name (of_ways B m link_names items) ≤ times name (flat_map named_by (closed_items B m 0 items))

pub links_stand : (B : BoxLibrary) (m : Module) (name : List ℕ) (items : List Item) → AllTails (λ x rest. Unit {0}) items → Stands B m name items
links_stand B m name items all = by_pieces B m (λ x rest. Unit {0}) (Stands B m name) (record { none = omega arith; gate = gate; assign = assign; plain = plain; cut = cut }) items all
  where
    gate : (g : Gate) (xs : List Item) → Stands B m name xs → Stands B m name (item.Gate g ∷ xs)
    gate g xs rest = omega (arith, times-append name (named_by (item.Gate g)) (flat_map named_by (closed_items B m 0 xs)))

    assign : (output : Bit) (input : Operand) (xs : List Item) → Stands B m name xs → Stands B m name (item.Assign output input ∷ xs)
    assign output input xs rest = omega (arith, times-append name (named_by (item.Assign output input)) (flat_map named_by (closed_items B m 0 xs)))

    plain : (i : Instance) (xs : List Item) → cut_ports B i ≡ None → Stands B m name xs → Stands B m name (item.Instance i ∷ xs)
    plain i xs e rest =
        omega (
          arith,
          ap (λ (ys : List Item). times name (flat_map named_by ys)) (closed_none B m i xs e),
          ap (times name) (ways_plain B m link_names i xs e),
          times-append name (named_by (item.Instance i)) (flat_map named_by (closed_items B m 0 xs)),
        )

    cut : (i : Instance) (ports : List BoxPort) (xs : List Item) → cut_ports B i ≡ Some ports → Unit {0} → Stands B m name (drop (taken m i ports xs) xs) → Stands B m name (item.Instance i ∷ xs)
    cut i ports xs e fact rest =
        let ws = ways m i false ports xs in
        let left = drop (taken m i ports xs) xs in
        omega (
          arith,
          ap (λ (ys : List Item). times name (flat_map named_by ys)) (closed_cut B m i ports xs e),
          ap (times name) (ways_cut B m link_names i ports xs e),
          times-append name (link_names i ws) (of_ways B m link_names left),
          links_split name i ws,
          times-append name (named_by (item.Instance (closed_as i ws))) (flat_map named_by (closed_items B m 0 left)),
        )
