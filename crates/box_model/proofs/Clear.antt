-- What it says that the boxes of a module are without fault.
use Rattle.std.proofs.Common.{◌≡◌, ℕ, ◌≤◌, ◌&&◌, ◌||◌, Bool, true, false, not, List, [], ◌∷◌, ◌++◌, map, length, Option, Some, None, refl, sym, subst, arith, append_assoc, append-nil}
use Rattle.std.specs.Prelude.{◌==◌, count_by, filter, nat_lt}
use Rattle.std.specs.List.{flat_map, list_any, AllByRecursion}
use Rattle.std.specs.Option.{option_map_or}
use Rattle.std.specs.Str.{bytes_eq}
use Rattle.list_laws.proofs.Lists.{all_append, none_passes}
use Rattle.list_laws.proofs.Tests.{or_first, or_second, and_left, and_right, not_true}
use Rattle.list_laws.proofs.Options.{or_else-parts, not_there}
use Rattle.verilog_tree.specs.declared.tree.Operand.{Operand}
use Rattle.verilog_tree.specs.declared.tree.Wire.{Wire}
use Rattle.verilog_tree.specs.declared.tree.Instance.{Instance}
use Rattle.verilog_tree.specs.declared.tree.Item.{Item}
use Rattle.verilog_tree.specs.declared.tree.Item.TheVariants as item
use Rattle.verilog_tree.specs.declared.tree.Module.{Module}
use Rattle.verilog_tree.specs.Trees.{range_eq}
use Rattle.link_model.specs.Nets.{declared_nets}
use Rattle.link_model.specs.Lists.{or_else, first_in, has_name}
use Rattle.box_model.specs.declared.boxes.BoxLibrary.{BoxLibrary}
use Rattle.box_model.specs.declared.boxes.BoxPort.{BoxPort}
use Rattle.box_model.specs.declared.fault.BoxFault.TheVariants.{BoxName}
use Rattle.box_model.specs.Ports.{cut_ports, hidden_name, linked_to}
use Rattle.box_model.specs.Opened.{is_wire_as, names_whole, is_declared_as, is_joined, joins_port, joins_item, is_kept_wire}
use Rattle.box_model.specs.Faults.{unknown_cut, link_fault, used_names, Hidden, hidden_of, item_hidden, is_bad_name, name_fault, box_fault}
use Rattle.box_model.specs.Laws.{IsUnjoined}
use Rattle.box_model.proofs.Counting.{all_to, passing, times, times_none, AreOnce, one_more}

-- the hidden names of all cut ports
abbrev pub hiddens : BoxLibrary → Module → List Hidden
hiddens B m = flat_map (item_hidden B m) m.items

abbrev pub name_of : Hidden → List ℕ
name_of h = h.name

-- a hidden name that isn't too long, is no word of a port's bit, and where it is used is joined
pub record IsFree (used : List (List ℕ)) (h : Hidden) : Type 0 where
  pub short : nat_lt 255 (length h.name) ≡ false
  pub apart : h.clashes ≡ false
  pub free : (has_name used h.name && not h.joined) ≡ false

pub record IsClear (B : BoxLibrary) (m : Module) : Type 0 where
  pub cuts : first_in (unknown_cut B m) B.cuts ≡ None
  pub links : AllByRecursion (λ i. link_fault B m i ≡ None) m.items
  pub free : AllByRecursion (IsFree (used_names m)) (hiddens B m)
  pub once : AreOnce (map name_of (hiddens B m))

pub all_none : {X Y : Type 0} (test : X → Option Y) (xs : List X) → first_in test xs ≡ None → AllByRecursion (λ x. test x ≡ None) xs
all_none test [] h = tt
all_none test (x ∷ xs) h = let parts = or_else-parts (test x) (first_in test xs) h in (parts.0, all_none test xs parts.1)

pub names_free : (used before : List (List ℕ)) (hs : List Hidden) → name_fault used before hs ≡ None → AllByRecursion (IsFree used) hs
names_free used before [] n = tt
names_free used before (h ∷ hs) n =
    let parts = not_there (is_bad_name used before h) (BoxName h.name) (name_fault used (before ++ h.name ∷ []) hs) n in
    let long = nat_lt 255 (length h.name) in
    let taken = has_name used h.name && not h.joined in
    let came = has_name before h.name in
    let two = or_second long (h.clashes || (taken || came)) parts.0 in
    let three = or_second h.clashes (taken || came) two in (
      record { short = or_first long (h.clashes || (taken || came)) parts.0; apart = or_first h.clashes (taken || came) two; free = or_first taken came three },
      names_free used (before ++ h.name ∷ []) hs parts.1,
    )

pub names_once : (used before : List (List ℕ)) (hs : List Hidden) → name_fault used before hs ≡ None → AreOnce before → AreOnce (before ++ map name_of hs)
names_once used before [] n once = λ name. subst (λ (l : List (List ℕ)). times name l ≤ 1) (sym (append-nil before)) (once name)
names_once used before (h ∷ hs) n once =
    let parts = not_there (is_bad_name used before h) (BoxName h.name) (name_fault used (before ++ h.name ∷ []) hs) n in
    let long = nat_lt 255 (length h.name) in
    let taken = has_name used h.name && not h.joined in
    let came = has_name before h.name in
    let new = or_second taken came (or_second h.clashes (taken || came) (or_second long (h.clashes || (taken || came)) parts.0)) in
    let more = names_once used (before ++ h.name ∷ []) hs parts.1 (one_more before h.name new once) in
    λ name. subst (λ (l : List (List ℕ)). times name l ≤ 1) (append_assoc before (h.name ∷ []) (map name_of hs)) (more name)

pub clear_of : (B : BoxLibrary) (m : Module) → box_fault B m ≡ None → IsClear B m
clear_of B m h =
    let names = name_fault (used_names m) [] (hiddens B m) in
    let parts = or_else-parts (first_in (unknown_cut B m) B.cuts) (or_else (first_in (link_fault B m) m.items) names) h in
    let more = or_else-parts (first_in (link_fault B m) m.items) names parts.1 in
    record {
      cuts = parts.0;
      links = all_none (link_fault B m) m.items more.0;
      free = names_free (used_names m) [] (hiddens B m) more.1;
      once = names_once (used_names m) [] (hiddens B m) more.1 (λ name. omega arith);
    }

-- Nothing is joined.

pub kept_all : {X : Type 0} (test : X → Bool) (xs : List X) → filter test xs ≡ xs → AllByRecursion (λ x. test x ≡ true) xs
kept_all {X} test xs same = subst (λ (ys : List X). AllByRecursion (λ x. test x ≡ true) ys) same (passing test xs)

-- no wire joins this port
port_unjoined : (m : Module) (i : Instance) (p : BoxPort) → AllByRecursion (λ (w : Wire). joins_port m w i p ≡ false) m.wires → (hidden_of m i p).joined ≡ false
port_unjoined m i p none = by (linked_to i.links p.name) none
  where
    no_wire : (ws : List Wire) → AllByRecursion (λ (w : Wire). (bytes_eq w.name (hidden_name i.name p.name) && true) ≡ false) ws → list_any (is_wire_as (hidden_name i.name p.name) p.range) ws ≡ false
    no_wire ws all = none_passes (is_wire_as (hidden_name i.name p.name) p.range) ws (all_to ws (λ w not_so. other (range_eq w.range p.range) (bytes_eq w.name (hidden_name i.name p.name)) not_so) all)
      where
        other : (c b : Bool) → (b && true) ≡ false → (b && c) ≡ false
        other c true never = absurd (cc)
        other c false never = refl

    test : (o : Operand) (b : Bool) → is_joined m i p o ≡ b → AllByRecursion (λ (w : Wire). (bytes_eq w.name (hidden_name i.name p.name) && b) ≡ false) m.wires → b ≡ false
    test o true e all =
        let name = hidden_name i.name p.name in
        let wire = list_any (is_wire_as name p.range) m.wires in
        let once = count_by (is_declared_as name) (declared_nets m) == 1 in
        let there = and_left wire once (and_right (names_whole name o) (wire && once) e) in
        absurd (let none_there = no_wire m.wires all in cc)
    test o false e all = refl

    by : (o : Option Operand) → AllByRecursion (λ (w : Wire). (bytes_eq w.name (hidden_name i.name p.name) && option_map_or (is_joined m i p) o false) ≡ false) m.wires → option_map_or (is_joined m i p) o false ≡ false
    by None all = refl
    by (Some o) all = test o (is_joined m i p o) refl all

ports_unjoined : (m : Module) (i : Instance) (ports : List BoxPort) → AllByRecursion (λ (w : Wire). list_any (joins_port m w i) ports ≡ false) m.wires → AllByRecursion (λ (h : Hidden). h.joined ≡ false) (map (hidden_of m i) ports)
ports_unjoined m i [] none = tt
ports_unjoined m i (p ∷ ports) none = (
  port_unjoined m i p (all_to m.wires (λ w never. or_first (joins_port m w i p) (list_any (joins_port m w i) ports) never) none),
  ports_unjoined m i ports (all_to m.wires (λ w never. or_second (joins_port m w i p) (list_any (joins_port m w i) ports) never) none),
)

items_unjoined : (B : BoxLibrary) (m : Module) (items : List Item) → AllByRecursion (λ (w : Wire). list_any (joins_item B m w) items ≡ false) m.wires → AllByRecursion (λ (h : Hidden). h.joined ≡ false) (flat_map (item_hidden B m) items)
items_unjoined B m [] none = tt
items_unjoined B m (i ∷ items) none =
    all_append (λ (h : Hidden). h.joined ≡ false) (item_hidden B m i) (flat_map (item_hidden B m) items)
    (one i (all_to m.wires (λ w never. or_first (joins_item B m w i) (list_any (joins_item B m w) items) never) none))
    (items_unjoined B m items (all_to m.wires (λ w never. or_second (joins_item B m w i) (list_any (joins_item B m w) items) never) none))
  where
    cut : (i : Instance) (o : Option (List BoxPort)) → AllByRecursion (λ (w : Wire). option_map_or (list_any (joins_port m w i)) o false ≡ false) m.wires
        → AllByRecursion (λ (h : Hidden). h.joined ≡ false) (option_map_or (map (hidden_of m i)) o [])
    cut i None all = tt
    cut i (Some ports) all = ports_unjoined m i ports all

    one : (x : Item) → AllByRecursion (λ (w : Wire). joins_item B m w x ≡ false) m.wires → AllByRecursion (λ (h : Hidden). h.joined ≡ false) (item_hidden B m x)
    one (item.Gate g) all = tt
    one (item.Assign output input) all = tt
    one (item.Instance i) all = cut i (cut_ports B i) all

pub unjoined : (B : BoxLibrary) (m : Module) → IsUnjoined B m → AllByRecursion (λ (h : Hidden). h.joined ≡ false) (hiddens B m)
unjoined B m h = items_unjoined B m m.items (all_to m.wires (λ w kept. not_true (list_any (joins_item B m w) m.items) kept) (kept_all (is_kept_wire B m) m.wires h))

-- then no hidden name is used
pub unused : (B : BoxLibrary) (m : Module) → IsClear B m → AllByRecursion (λ (h : Hidden). h.joined ≡ false) (hiddens B m) → AllByRecursion (λ (h : Hidden). times h.name (used_names m) ≡ 0) (hiddens B m)
unused B m clear none = walk (hiddens B m) clear.free none
  where
    one : (h : Hidden) → IsFree (used_names m) h → h.joined ≡ false → times h.name (used_names m) ≡ 0
    one h free never = times_none h.name (used_names m) (alone (has_name (used_names m) h.name) h.joined never free.free)
      where
        alone : (b j : Bool) → j ≡ false → (b && not j) ≡ false → b ≡ false
        alone b true never both = absurd (cc)
        alone true false never both = both
        alone false false never both = refl

    walk : (hs : List Hidden) → AllByRecursion (IsFree (used_names m)) hs → AllByRecursion (λ (h : Hidden). h.joined ≡ false) hs → AllByRecursion (λ (h : Hidden). times h.name (used_names m) ≡ 0) hs
    walk [] free none = tt
    walk (h ∷ hs) free none = (one h free.0 none.0, walk hs free.1 none.1)
