-- The flat module keeps the conditions of a tree.
use Rattle.std.proofs.Common.{◌≡◌, ℕ, ◌+◌, ◌<◌, Bool, true, false, ◌||◌, ◌&&◌, cond, List, [], ◌∷◌, ◌++◌, length, map, is_none, Option, Some, None, IfSome, IsTrue, refl, sym, ap, subst, ◌∙◌, arith, codes, inl, inr, append_assoc, append-nil}
use Rattle.std.specs.Bool.{IsFalse}
use Rattle.std.specs.List.{flat_map, list_any, AllByRecursion}
use Rattle.std.specs.Option.{option_map, option_map_or}
use Rattle.std.specs.Str.{bytes_eq}
use Rattle.std.specs.Cmp.Lexicographic.{bytes_decides}
use Rattle.std.proofs.lemmas.List.{length-append, length-map, map-append}
use Rattle.std.proofs.lemmas.List.Folds.{list_any-append}
use Rattle.list_laws.proofs.Bytes.{bytes_eq-same}
use Rattle.list_laws.proofs.Lists.{all_append, all_front, all_back}
use Rattle.list_laws.proofs.Options.{or_else-parts}
use Rattle.list_laws.proofs.Tests.{or_first, or_second}
use Rattle.texts.proofs.Tables.{not_before}
use Rattle.cell_library.specs.declared.listed.ListedCell.{ListedCell}
use Rattle.verilog_tree.specs.declared.tree.Bit.{Bit}
use Rattle.verilog_tree.specs.declared.tree.Operand.{Operand}
use Rattle.verilog_tree.specs.declared.tree.Operand.TheVariants as operand
use Rattle.verilog_tree.specs.declared.tree.Link.{Link}
use Rattle.verilog_tree.specs.declared.tree.Port.{Port}
use Rattle.verilog_tree.specs.declared.tree.Wire.{Wire}
use Rattle.verilog_tree.specs.declared.tree.Item.{Item}
use Rattle.verilog_tree.specs.declared.tree.Item.TheVariants as item
use Rattle.verilog_tree.specs.declared.tree.Module.{Module}
use Rattle.verilog_tree.specs.Trees.{takes_inputs, is_port_net, range_eq}
use Rattle.verilog_tree.specs.IsTree.{IsVisible, IsTreeName, IsTreeBit, IsTreeOperand, IsTreePort, IsTreeWire, IsTreeLink, IsTreeItem, IsTree}
use Rattle.link_model.specs.Lists.{has_name, repeated, repeated_after}
use Rattle.link_model.specs.Nets.{Declared, NetDeclaration, port_nets, wire_nets, width, declared_nets, declared_names, declared_as, names_from}
use Rattle.link_model.specs.Faults.{item_name, item_bits, link_bits, operand_bits}
use Rattle.hier_model.specs.Visits.{Turn, keeps, opens, closes, Visit, module_named, visits}
use Rattle.hier_model.specs.Names.{flat_name, flat_bit, flat_operand, flat_link}
use Rattle.hier_model.specs.Entries.{Place, place, places, opened_places, inner_place, Entry, stays, carries, entry_item, entries, level_limit, visit_entries, turn_entries, inwards, outwards, is_in, is_out}
use Rattle.hier_model.specs.Flat.{flat, place_wires}
use Rattle.hier_model.specs.declared.fault.HierFault.TheVariants as hier
use Rattle.hier_model.specs.Faults.{NameCheck, enters, refers, net_check, item_checks, turn_checks, bad_link_in, bad_name_in, too_many_in, place_names, twice_name, missing_name, recursive_name, top_fault, hier_fault}
use Rattle.hier_laws.specs.Solves.{IsOwnBit}
use Rattle.hier_laws.specs.Trees.{FlatModulesKeepTheConditions}
use Rattle.hier_laws.proofs.Blocks.{Listed, found_listed}
use Rattle.hier_laws.proofs.SolutionsPlaces.{Stands, EntryStands, entries_stand}
use Rattle.hier_laws.proofs.OwnBits as bits
use Rattle.hier_laws.proofs.OwnBits.{all_both}
use Rattle.hier_laws.proofs.OwnLinks.{LinkOwn, links_are_own}
use Rattle.hier_laws.proofs.FlatNames.{IsFit, CheckFits, declared_once, declared_fit, turns_fit}
use Rattle.hier_laws.proofs.EntryTrees.{IsPath, PlaceTree, EntryTree, named_tree, visits_tree, places_tree, entries_tree}

-- Names.

slash : IsVisible 47
slash = record { low = omega arith; high = omega arith }

path_bytes : (at : List (List ℕ)) → IsPath at → AllByRecursion IsVisible (flat_map (λ (part : List ℕ). part ++ codes "/") at)
path_bytes [] p = tt
path_bytes (x ∷ at) p = all_append IsVisible (x ++ codes "/") (flat_map (λ (part : List ℕ). part ++ codes "/") at) (all_append IsVisible x (codes "/") p.0 (slash, tt)) (path_bytes at p.1)

name_tree : (at : List (List ℕ)) (name : List ℕ) → IsPath at → IsTreeName name → IsFit (flat_name at name) → IsTreeName (flat_name at name)
name_tree at name p t fit = record {
  filled = (let whole = length-append (flat_map (λ (part : List ℕ). part ++ codes "/") at) name in let some = t.filled in omega (arith, whole, some));
  short = fit;
  visible = all_append IsVisible (flat_map (λ (part : List ℕ). part ++ codes "/") at) name (path_bytes at p) t.visible;
}

-- The items of entries.

abbrev BitFits : List (List ℕ) → Bit → Type 0
BitFits at b = IsFit (flat_name at b.net)

bit_tree : (at : List (List ℕ)) (b : Bit) → IsPath at → IsTreeBit b → BitFits at b → IsTreeBit (flat_bit at b)
bit_tree at b p t fit = record { net = name_tree at b.net p t.net fit; index = t.index }

operand_tree : (at : List (List ℕ)) (o : Operand) → IsPath at → IsTreeOperand o → AllByRecursion (BitFits at) (operand_bits o) → IsTreeOperand (flat_operand at o)
operand_tree at (operand.Bit b) p t fit = bit_tree at b p t fit.0
operand_tree at (operand.Const value) p t fit = tt

operands_tree : (at : List (List ℕ)) (os : List Operand) → IsPath at → AllByRecursion IsTreeOperand os → AllByRecursion (BitFits at) (flat_map operand_bits os) → AllByRecursion IsTreeOperand (map (flat_operand at) os)
operands_tree at [] p t fit = tt
operands_tree at (o ∷ os) p t fit =
    (operand_tree at o p t.0 (all_front (BitFits at) (operand_bits o) (flat_map operand_bits os) fit), operands_tree at os p t.1 (all_back (BitFits at) (operand_bits o) (flat_map operand_bits os) fit))

link_tree : (at : List (List ℕ)) (l : Link) → IsPath at → IsTreeLink l → AllByRecursion (BitFits at) (link_bits l) → IsTreeLink (flat_link at l)
link_tree at l p t fit = record { port = t.port; operand = go l.operand t.operand fit }
  where
    go : (o : Option Operand) → IfSome o IsTreeOperand → AllByRecursion (BitFits at) (option_map_or operand_bits o []) → IfSome (option_map (flat_operand at) o) IsTreeOperand
    go None e f = tt
    go (Some o) e f = operand_tree at o p e f

links_tree : (at : List (List ℕ)) (links : List Link) → IsPath at → AllByRecursion IsTreeLink links → AllByRecursion (BitFits at) (flat_map link_bits links) → AllByRecursion IsTreeLink (map (flat_link at) links)
links_tree at [] p t fit = tt
links_tree at (l ∷ links) p t fit =
    (link_tree at l p t.0 (all_front (BitFits at) (link_bits l) (flat_map link_bits links) fit), links_tree at links p t.1 (all_back (BitFits at) (link_bits l) (flat_map link_bits links) fit))

gate_name : (at : List (List ℕ)) (o : Option (List ℕ)) → IsPath at → IfSome o IsTreeName → IfSome o (λ (n : List ℕ). IsFit (flat_name at n)) → IfSome (option_map (flat_name at) o) IsTreeName
gate_name at None p t fit = tt
gate_name at (Some n) p t fit = name_tree at n p t fit

abbrev EntryFits : Entry → Type 0
EntryFits (stays p i) = IfSome (item_name i) (λ (n : List ℕ). IsFit (flat_name p.at n)) × AllByRecursion (BitFits p.at) (item_bits i)
EntryFits (carries p b q o) = BitFits p.at b × AllByRecursion (BitFits q.at) (operand_bits o)

entry_tree : (e : Entry) → EntryTree e → EntryFits e → IsTreeItem (entry_item e)
entry_tree (carries p b q o) t fit = record { written = bit_tree p.at b t.0.0 t.0.1 fit.0; read = operand_tree q.at o t.1.0 t.1.1 fit.1 }
entry_tree (stays p (item.Gate g)) t fit =
    let same : length (map (flat_operand p.at) g.inputs) ≡ length g.inputs = length-map g.inputs (flat_operand p.at) in
    record {
      name = gate_name p.at g.name t.0 t.1.name fit.0;
      output = bit_tree p.at g.output t.0 t.1.output fit.1.0;
      inputs = operands_tree p.at g.inputs t.0 t.1.inputs fit.1.1;
      reads = subst (λ (n : ℕ). 0 < n) (sym same) t.1.reads;
      takes = subst (λ (n : ℕ). IsTrue (takes_inputs g.kind n)) (sym same) t.1.takes;
    }
entry_tree (stays p (item.Instance i)) t fit = record { cell = t.1.cell; name = name_tree p.at i.name t.0 t.1.name fit.0; links = links_tree p.at i.links t.0 t.1.links fit.1 }
entry_tree (stays p (item.Assign output input)) t fit = record { written = bit_tree p.at output t.0 t.1.written fit.1.0; read = operand_tree p.at input t.0 t.1.read fit.1.1 }

items_tree : (es : List Entry) → AllByRecursion EntryTree es → AllByRecursion EntryFits es → AllByRecursion IsTreeItem (map entry_item es)
items_tree [] t fit = tt
items_tree (e ∷ es) t fit = (entry_tree e t.0 fit.0, items_tree es t.1 fit.1)

-- The names of bits aren't too long.

place_fits : (p : Place) (ps : List Place) → Stands p ps → AllByRecursion IsFit (flat_map place_names ps) → AllByRecursion IsFit (place_names p)
place_fits p [] stands fit = absurd stands
place_fits p (q ∷ ps) (inl same) fit = subst (λ (r : Place). AllByRecursion IsFit (place_names r)) same (all_front IsFit (place_names q) (flat_map place_names ps) fit)
place_fits p (q ∷ ps) (inr later) fit = place_fits p ps later (all_back IsFit (place_names q) (flat_map place_names ps) fit)

abbrev NetFits : List (List ℕ) → NetDeclaration → Type 0
NetFits at n = IsFit (flat_name at n.name)

ports_fit : (at : List (List ℕ)) (ports : List Port) → AllByRecursion IsFit (map (λ (port : Port). flat_name at port.name) ports) → AllByRecursion (NetFits at) (map port_nets ports)
ports_fit at [] fit = tt
ports_fit at (p ∷ ports) fit = (fit.0, ports_fit at ports fit.1)

wires_fit : (at : List (List ℕ)) (wires : List Wire) → AllByRecursion IsFit (map (λ (wire : Wire). flat_name at wire.name) wires) → AllByRecursion (NetFits at) (map wire_nets wires)
wires_fit at [] fit = tt
wires_fit at (w ∷ wires) fit = (fit.0, wires_fit at wires fit.1)

listed_fits : (at : List (List ℕ)) (first : ℕ) (nets : List NetDeclaration) (name : List ℕ) (d : Declared) → AllByRecursion (NetFits at) nets → Listed name d (names_from first nets) → IsFit (flat_name at name)
listed_fits at first [] name d fit listed = absurd listed
listed_fits at first (n ∷ nets) name d fit (inl here) = subst (λ (x : List ℕ). IsFit (flat_name at x)) here.0 fit.0
listed_fits at first (n ∷ nets) name d fit (inr later) = listed_fits at (first + width n.range) nets name d fit.1 later

-- a name that a place declares
declared_fits : (p : Place) (name : List ℕ) (d : Declared) → AllByRecursion IsFit (place_names p) → declared_as (declared_names p.here) name ≡ Some d → IsFit (flat_name p.at name)
declared_fits p name d fit found =
    let ports : List (List ℕ) = map (λ (port : Port). flat_name p.at port.name) p.here.ports in
    let wires : List (List ℕ) = map (λ (wire : Wire). flat_name p.at wire.name) p.here.wires in
    let nets = all_append (NetFits p.at) (map port_nets p.here.ports) (map wire_nets p.here.wires) (ports_fit p.at p.here.ports (all_front IsFit ports wires fit)) (wires_fit p.at p.here.wires (all_back IsFit ports wires fit)) in
    listed_fits p.at 0 (declared_nets p.here) name d nets (found_listed name d (declared_names p.here) found)

bit_fits : (p : Place) (b : Bit) → AllByRecursion IsFit (place_names p) → AllByRecursion CheckFits (net_check p.at p.here b) → BitFits p.at b
bit_fits p b fit check = go (declared_as (declared_names p.here) b.net) refl
  where
    go : (o : Option Declared) → declared_as (declared_names p.here) b.net ≡ o → BitFits p.at b
    go None is = (subst (λ (z : Option Declared). AllByRecursion CheckFits (cond (is_none z) (refers (flat_name p.at b.net) ∷ []) [])) is check).0
    go (Some d) is = declared_fits p b.net d fit is

bits_fit : (p : Place) (bs : List Bit) → AllByRecursion IsFit (place_names p) → AllByRecursion CheckFits (flat_map (net_check p.at p.here) bs) → AllByRecursion (BitFits p.at) bs
bits_fit p [] fit checks = tt
bits_fit p (b ∷ bs) fit checks =
    (bit_fits p b fit (all_front CheckFits (net_check p.at p.here b) (flat_map (net_check p.at p.here) bs) checks), bits_fit p bs fit (all_back CheckFits (net_check p.at p.here b) (flat_map (net_check p.at p.here) bs) checks))

stays_fit : (p : Place) (i : Item) → AllByRecursion IsFit (place_names p) → AllByRecursion CheckFits (item_checks p.at p.here i) → EntryFits (stays p i)
stays_fit p i fit checks =
    let own : List NameCheck = option_map_or (λ name. enters (flat_name p.at name) ∷ []) (item_name i) [] in
    let nets : List NameCheck = flat_map (net_check p.at p.here) (item_bits i) in
    (named (item_name i) (all_front CheckFits own nets checks), bits_fit p (item_bits i) fit (all_back CheckFits own nets checks))
  where
    named : (o : Option (List ℕ)) → AllByRecursion CheckFits (option_map_or (λ name. enters (flat_name p.at name) ∷ []) o []) → IfSome o (λ (n : List ℕ). IsFit (flat_name p.at n))
    named None h = tt
    named (Some n) h = h.0

own_fit : (p : Place) (bs : List Bit) → AllByRecursion IsFit (place_names p) → AllByRecursion (IsOwnBit p.here) bs → AllByRecursion (BitFits p.at) bs
own_fit p [] fit own = tt
own_fit p (b ∷ bs) fit own = (declared_fits p b.net own.0.declared fit own.0.found, own_fit p bs fit own.1)

-- Items that stay passed the checks.

abbrev StaysFit : Entry → Type 0
StaysFit (stays p i) = AllByRecursion CheckFits (item_checks p.at p.here i)
StaysFit (carries p b q o) = Unit {0}

inwards_free : (outer inner : Place) (bs : List Bit) (os : List Operand) → AllByRecursion StaysFit (inwards outer inner bs os)
inwards_free outer inner [] os = tt
inwards_free outer inner (x ∷ bs) [] = tt
inwards_free outer inner (x ∷ bs) (o ∷ os) = (tt, inwards_free outer inner bs os)

outwards_free : (outer inner : Place) (bs : List Bit) (os : List Operand) → AllByRecursion StaysFit (outwards outer inner bs os)
outwards_free outer inner [] os = tt
outwards_free outer inner (x ∷ bs) [] = tt
outwards_free outer inner (x ∷ bs) (operand.Bit c ∷ os) = (tt, outwards_free outer inner bs os)
outwards_free outer inner (x ∷ bs) (operand.Const v ∷ os) = outwards_free outer inner bs os

turn_fits : (at : List (List ℕ)) (m : Module) (t : Turn) → AllByRecursion CheckFits (turn_checks at m t) → AllByRecursion StaysFit (turn_entries at m t)
turn_fits at m (keeps i) h = (h, tt)
turn_fits at m (opens i c) h = bits.links_each StaysFit is_in (inwards (place at m) (inner_place at i c)) m i c.ports (λ bs os. inwards_free (place at m) (inner_place at i c) bs os)
turn_fits at m (closes i c) h = bits.links_each StaysFit is_out (outwards (place at m) (inner_place at i c)) m i c.ports (λ bs os. outwards_free (place at m) (inner_place at i c) bs os)

visits_fit : (vs : List Visit) → AllByRecursion (λ (v : Visit). AllByRecursion CheckFits (turn_checks v.at v.within v.turn)) vs → AllByRecursion StaysFit (flat_map visit_entries vs)
visits_fit [] h = tt
visits_fit (v ∷ vs) h = all_append StaysFit (visit_entries v) (flat_map visit_entries vs) (turn_fits v.at v.within v.turn h.0) (visits_fit vs h.1)

entry_fits : (ps : List Place) (e : Entry) → AllByRecursion IsFit (flat_map place_names ps) → EntryStands ps e → StaysFit e × LinkOwn e → EntryFits e
entry_fits ps (stays p i) fit stands h = stays_fit p i (place_fits p ps stands fit) h.0
entry_fits ps (carries p b q o) fit stands h =
    ((own_fit p (b ∷ []) (place_fits p ps stands.0 fit) (h.1.0, tt)).0, own_fit q (operand_bits o) (place_fits q ps stands.1 fit) h.1.1)

entries_fit : (modules : List Module) (top : Module) → bad_link_in modules top ≡ None → bad_name_in modules top ≡ None → AllByRecursion EntryFits (entries modules top)
entries_fit modules top links names =
    let ps : List Place = places modules top in
    let free = visits_fit (visits level_limit modules [] top) (turns_fit modules top names) in
    let own = links_are_own modules top (declared_once modules top names) links in
    let both = all_both StaysFit LinkOwn (λ (e : Entry). StaysFit e × LinkOwn e) (entries modules top) (λ e a b. (a, b)) free own in
    all_both (EntryStands ps) (λ (e : Entry). StaysFit e × LinkOwn e) EntryFits (entries modules top) (λ e a b. entry_fits ps e (declared_fit modules top names) a b) (entries_stand modules top) both

-- Wires.

port_wires_tree : (at : List (List ℕ)) (ports : List Port) → IsPath at → AllByRecursion IsTreePort ports → AllByRecursion IsFit (map (λ (port : Port). flat_name at port.name) ports)
    → AllByRecursion IsTreeWire (map (λ (port : Port). record { name = flat_name at port.name; range = port.range }) ports)
port_wires_tree at [] p t fit = tt
port_wires_tree at (port ∷ ports) p t fit = (record { name = name_tree at port.name p t.0.name fit.0; range = t.0.range }, port_wires_tree at ports p t.1 fit.1)

own_wires_tree : (at : List (List ℕ)) (wires : List Wire) → IsPath at → AllByRecursion IsTreeWire wires → AllByRecursion IsFit (map (λ (wire : Wire). flat_name at wire.name) wires)
    → AllByRecursion IsTreeWire (map (λ (wire : Wire). record { name = flat_name at wire.name; range = wire.range }) wires)
own_wires_tree at [] p t fit = tt
own_wires_tree at (w ∷ wires) p t fit = (record { name = name_tree at w.name p t.0.name fit.0; range = t.0.range }, own_wires_tree at wires p t.1 fit.1)

place_tree : (p : Place) → PlaceTree p → AllByRecursion IsFit (place_names p) → AllByRecursion IsTreeWire (place_wires p)
place_tree p t fit =
    let ports : List (List ℕ) = map (λ (port : Port). flat_name p.at port.name) p.here.ports in
    let wires : List (List ℕ) = map (λ (wire : Wire). flat_name p.at wire.name) p.here.wires in
    all_append IsTreeWire _ _ (port_wires_tree p.at p.here.ports t.0 t.1.ports (all_front IsFit ports wires fit)) (own_wires_tree p.at p.here.wires t.0 t.1.wires (all_back IsFit ports wires fit))

wires_tree : (ps : List Place) → AllByRecursion PlaceTree ps → AllByRecursion IsFit (flat_map place_names ps) → AllByRecursion IsTreeWire (flat_map place_wires ps)
wires_tree [] t fit = tt
wires_tree (p ∷ ps) t fit =
    all_append IsTreeWire (place_wires p) (flat_map place_wires ps) (place_tree p t.0 (all_front IsFit (place_names p) (flat_map place_names ps) fit)) (wires_tree ps t.1 (all_back IsFit (place_names p) (flat_map place_names ps) fit))

-- No wire has a port's name.

abbrev net_names : List NetDeclaration → List (List ℕ)
net_names nets = map (λ (n : NetDeclaration). n.name) nets

behind : (before xs ys : List (List ℕ)) → repeated_after before (xs ++ ys) ≡ None → repeated_after (before ++ xs) ys ≡ None
behind before [] ys h = subst (λ (l : List (List ℕ)). repeated_after l ys ≡ None) (sym (append-nil before)) h
behind before (x ∷ xs) ys h = subst (λ (l : List (List ℕ)). repeated_after l ys ≡ None) (append_assoc before (x ∷ []) xs) (behind (before ++ x ∷ []) xs ys (not_before before (xs ++ ys) x h).1)

fewer : (before : List (List ℕ)) (x name : List ℕ) → has_name (before ++ x ∷ []) name ≡ false → has_name before name ≡ false
fewer before x name h = or_first (has_name before name) (list_any (bytes_eq name) (x ∷ [])) (sym (list_any-append (bytes_eq name) before (x ∷ [])) ∙ h)

fewer_all : (before : List (List ℕ)) (x : List ℕ) (wires : List Wire) → AllByRecursion (λ (w : Wire). has_name (before ++ x ∷ []) w.name ≡ false) wires → AllByRecursion (λ (w : Wire). has_name before w.name ≡ false) wires
fewer_all before x [] h = tt
fewer_all before x (w ∷ wires) h = (fewer before x w.name h.0, fewer_all before x wires h.1)

none_before : (before : List (List ℕ)) (wires : List Wire) → repeated_after before (net_names (map wire_nets wires)) ≡ None → AllByRecursion (λ (w : Wire). has_name before w.name ≡ false) wires
none_before before [] h = tt
none_before before (w ∷ wires) h =
    let t = not_before before (net_names (map wire_nets wires)) w.name h in
    (t.0, fewer_all before w.name wires (none_before (before ++ w.name ∷ []) wires t.1))

no_port : (ports : List Port) (w : Wire) → has_name (net_names (map port_nets ports)) w.name ≡ false → is_port_net ports w ≡ false
no_port [] w h = refl
no_port (p ∷ ports) w h = go (bytes_eq p.name w.name) refl (no_port ports w (or_second (bytes_eq w.name p.name) (has_name (net_names (map port_nets ports)) w.name) h))
  where
    go : (b : Bool) → bytes_eq p.name w.name ≡ b → is_port_net ports w ≡ false → ((b && range_eq p.range w.range) || is_port_net ports w) ≡ false
    go true is rest =
        let yes : bytes_eq w.name p.name ≡ true = ap (bytes_eq w.name) ((bytes_decides p.name w.name).0 is) ∙ bytes_eq-same w.name in
        let no : bytes_eq w.name p.name ≡ false = or_first (bytes_eq w.name p.name) (has_name (net_names (map port_nets ports)) w.name) h in
        let bad : true ≡ false = sym yes ∙ no in absurd (cc)
    go false is rest = rest

none_ports : (ports : List Port) (wires : List Wire) → AllByRecursion (λ (w : Wire). has_name (net_names (map port_nets ports)) w.name ≡ false) wires → AllByRecursion (λ wire. IsFalse (is_port_net ports wire)) wires
none_ports ports [] h = tt
none_ports ports (w ∷ wires) h = (no_port ports w h.0, none_ports ports wires h.1)

own_nets : (ports : List Port) (wires : List Wire) → repeated (net_names (map port_nets ports ++ map wire_nets wires)) ≡ None → AllByRecursion (λ wire. IsFalse (is_port_net ports wire)) wires
own_nets ports wires once =
    let apart = subst (λ (l : List (List ℕ)). repeated l ≡ None) (map-append (λ (n : NetDeclaration). n.name) (map port_nets ports) (map wire_nets wires)) once in
    none_ports ports wires (none_before (net_names (map port_nets ports)) wires (behind [] (net_names (map port_nets ports)) (net_names (map wire_nets wires)) apart))

-- The whole.

pub record Clear (modules : List Module) (top : Module) : Type 0 where
  pub links : bad_link_in modules top ≡ None
  pub names : bad_name_in modules top ≡ None

pub clear_of : (library : List ListedCell) (modules : List Module) (name : List ℕ) (top : Module) → hier_fault library modules name ≡ None → module_named modules name ≡ Some top → Clear modules top
clear_of library modules name top clear found =
    let later = (or_else-parts (option_map hier.ModuleTwice (twice_name library [] modules)) (option_map_or (top_fault library modules) (module_named modules name) (Some (hier.ModuleMissing name))) clear).1 in
    let here : top_fault library modules top ≡ None = subst (λ (o : Option Module). option_map_or (top_fault library modules) o (Some (hier.ModuleMissing name)) ≡ None) found later in
    let a = or_else-parts (option_map hier.ModuleMissing (missing_name library modules top)) _ here in
    let b = or_else-parts (option_map hier.ModuleRecursive (recursive_name modules top)) _ a.1 in
    let c = or_else-parts (too_many_in modules top) _ b.1 in
    let d = or_else-parts (bad_link_in modules top) (bad_name_in modules top) c.1 in
    record { links = d.0; names = d.1 }

flat_tree : (modules : List Module) (top : Module) → AllByRecursion IsTree modules → IsTree top → Clear modules top → IsTree (flat modules top)
flat_tree modules top ts t clear =
    let vs = visits_tree level_limit modules [] top ts tt t in
    let below = wires_tree (opened_places modules top) (places_tree (visits level_limit modules [] top) vs) (all_back IsFit (place_names (place [] top)) (flat_map place_names (opened_places modules top)) (declared_fit modules top clear.names)) in
    record {
      name = t.name;
      ports = t.ports;
      wires = all_append IsTreeWire top.wires (flat_map place_wires (opened_places modules top)) t.wires below;
      items = items_tree (entries modules top) (entries_tree (visits level_limit modules [] top) vs) (entries_fit modules top clear.links clear.names);
      own_nets = own_nets top.ports (top.wires ++ flat_map place_wires (opened_places modules top)) (declared_once modules top clear.names);
    }

pub flat_modules_keep_the_conditions : FlatModulesKeepTheConditions
flat_modules_keep_the_conditions library modules name top ts clear found =
    flat_tree modules top ts (subst (λ (o : Option Module). IfSome o IsTree) found (named_tree modules name ts)) (clear_of library modules name top clear found)
