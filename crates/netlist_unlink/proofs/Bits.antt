-- The bit of each net in the tree names the net at its place in the order, and the order has each net once.
use Rattle.std.proofs.Common.{◌≡◌, ℕ, suc, ◌<◌, inl, inr, true, false, List, [], ◌∷◌, ◌++◌, length, map, refl, ap, sym, ◌∙◌, subst, Some, arith}
use Rattle.std.specs.Prelude.{slice_get}
use Rattle.std.specs.Option.{option_map}
use Rattle.std.specs.List.{AllByRecursion, IsDistinct, filter_map, list_any}
use Rattle.std.proofs.Math.Dec.{eqb}
use Rattle.std.proofs.lemmas.Bool.Decides.{eqb_tells}
use Rattle.std.proofs.lemmas.List.{map-append}
use Rattle.std.proofs.lemmas.Map.Steps.{le-length_from_below, length-le_from_distinct_below}
use Rattle.std.proofs.lemmas.Option.{slice_get-map}
use Rattle.list_laws.proofs.Lists.{slice_get_there, any_at}
use Rattle.verilog_tree.specs.declared.tree.Module.{Module}
use Rattle.verilog_tree.specs.declared.tree.Port.{Port}
use Rattle.verilog_tree.specs.declared.tree.Wire.{Wire}
use Rattle.netlist_model.specs.declared.NetId.{NetId}
use Rattle.netlist_model.specs.Lists.{NetlistView}
use Rattle.link_model.specs.Nets.{NamedNet, NetDeclaration, declared_names, declared_nets, nets_in, port_nets, wire_nets}
use Rattle.link_model.specs.Denoted.{net_id}
use Rattle.link_model.specs.Faults.{item_name, names_of}
use Rattle.netlist_link.specs.Linked.{LinkedView}
use Rattle.netlist_unlink.specs.Trees.{bit_of, naming_of, tree_of}
use Rattle.netlist_unlink.specs.Renumbered.{IsEachOnce, named_net, net_order, place_of}
use Rattle.netlist_unlink.proofs.Apart.{Apart, NotIn}
use Rattle.netlist_unlink.proofs.Declared.{IsFound, names, net_found}
use Rattle.netlist_unlink.proofs.Keys.{CanName, names_apart}
use Rattle.netlist_unlink.proofs.Members.{in_left, map_twice, place_found}
use Rattle.netlist_unlink.proofs.Nets.{nets_are}
use Rattle.netlist_unlink.proofs.NetOrder.{net_in_order, order_below}

apart_left : {X : Type 0} (xs ys : List X) → Apart (xs ++ ys) → Apart xs
apart_left [] ys apart = tt
apart_left (x ∷ xs) ys apart = (λ k at. let here = in_left xs ys k x at in apart.0 here.0 here.1, apart_left xs ys apart.1)

-- the names of declarations are those of ports and wires
declared_apart : (m : Module) → Apart (names_of m) → Apart (names (declared_nets m))
declared_apart m apart =
    let ports : List (List ℕ) = map (λ (p : Port). p.name) m.ports in
    let wires : List (List ℕ) = map (λ (w : Wire). w.name) m.wires in
    let front : Apart (ports ++ wires) = apart_left (ports ++ wires) (filter_map item_name m.items) apart in
    let name : NetDeclaration → List ℕ = λ n. n.name in
    let same : names (declared_nets m) ≡ ports ++ wires =
    map-append name (map port_nets m.ports) (map wire_nets m.wires) ∙ ap (λ (xs : List (List ℕ)). xs ++ map name (map wire_nets m.wires)) (map_twice name port_nets m.ports)
    ∙ ap (λ (xs : List (List ℕ)). ports ++ xs) (map_twice name wire_nets m.wires) in
    let A : List (List ℕ) → Type 0 = Apart in
    subst A (sym same) front

-- a place of the order
found_at : (linked : LinkedView) (prefix : List ℕ) (k net : ℕ) → CanName linked prefix → slice_get (net_order linked.arena.lists) k ≡ Some net
    → IsFound (declared_names (tree_of linked prefix)) (bit_of (naming_of linked prefix) (net_id net)) k
found_at linked prefix k net w at =
    let tree : Module = tree_of linked prefix in
    let named : ℕ → NamedNet = named_net (naming_of linked prefix) linked.arena.lists.ports in
    let there : slice_get (nets_in (declared_nets tree)) k ≡ Some (named net) =
    ap (λ (xs : List NamedNet). slice_get xs k) (nets_are linked prefix w.are) ∙ slice_get-map named (net_order linked.arena.lists) k ∙ ap (option_map named) at in
    net_found (declared_nets tree) k (named net) (declared_apart tree (names_apart linked prefix w)) there

-- the net's own place
place_at : (N : NetlistView) (net : ℕ) → net < length N.nets → slice_get (net_order N) (place_of (net_order N) net) ≡ Some net
place_at N net less =
    let x = slice_get_there N.nets net (omega arith) in
    let here = net_in_order N net x.0 x.1 in
    place_found (net_order N) here.0 net here.1

pub bit_found : (linked : LinkedView) (prefix : List ℕ) (net : NetId) → CanName linked prefix → net.0 < length linked.arena.lists.nets
    → IsFound (declared_names (tree_of linked prefix)) (bit_of (naming_of linked prefix) net) (place_of (net_order linked.arena.lists) net.0)
bit_found linked prefix net w less = found_at linked prefix (place_of (net_order linked.arena.lists) net.0) net.0 w (place_at linked.arena.lists net.0 less)

pub order_once : (linked : LinkedView) (prefix : List ℕ) (j k net : ℕ) → CanName linked prefix → slice_get (net_order linked.arena.lists) j ≡ Some net → slice_get (net_order linked.arena.lists) k ≡ Some net → j ≡ k
order_once linked prefix j k net w one two =
    let a = found_at linked prefix j net w one in
    let b = found_at linked prefix k net w two in
    ap (λ (n : NetId). n.0) (sym a.is ∙ b.is)

-- Counts.

some_equal : (xs : List ℕ) (k q : ℕ) → slice_get xs k ≡ Some q → list_any (eqb q) xs ≡ true
some_equal xs k q at = any_at (eqb q) xs k q at (grind arith)

below_all : (xs : List ℕ) (count q : ℕ) → ((k x : ℕ) → slice_get xs k ≡ Some x → x < count) → list_any (eqb q) xs ≡ true → q < count
below_all [] count q each found = absurd (cc)
below_all (x ∷ xs) count q each found = elim (eqb_tells q x) [
  | inl same ↦ let less = each 0 x refl in let e = same.1 in omega arith
  | inr other ↦ below_all xs count q (λ k y at. each (suc k) y at) (rw other.0 at found)
]

all_differ : (x : ℕ) (xs : List ℕ) → NotIn x xs → AllByRecursion (λ y. eqb x y ≡ false) xs
all_differ x [] out = tt
all_differ x (y ∷ xs) out = elim (eqb_tells x y) [
  | inl same ↦ absurd (out 0 (ap Some (sym same.1)))
  | inr other ↦ (other.0, all_differ x xs (λ k at. out (suc k) at))
]

distinct : (xs : List ℕ) → ((j k x : ℕ) → slice_get xs j ≡ Some x → slice_get xs k ≡ Some x → j ≡ k) → IsDistinct eqb xs
unfolding IsDistinct
distinct [] once = tt
distinct (x ∷ xs) once = (
  all_differ x xs (λ k at. let bad : 0 ≡ suc k = once 0 (suc k) x refl at in omega arith),
  distinct xs (λ j k y one two. let e : suc j ≡ suc k = once (suc j) (suc k) y one two in omega arith),
)

pub each_once : (linked : LinkedView) (prefix : List ℕ) → CanName linked prefix → IsEachOnce (length linked.arena.lists.nets) (net_order linked.arena.lists)
each_once linked prefix w =
    let N : NetlistView = linked.arena.lists in
    let order : List ℕ = net_order N in
    let only : (k number : ℕ) → slice_get order k ≡ Some number → number < length N.nets = λ k number at. order_below N k number w.are.laid at in
    let once : (j k number : ℕ) → slice_get order j ≡ Some number → slice_get order k ≡ Some number → j ≡ k = λ j k number one two. order_once linked prefix j k number w one two in
    let low = length-le_from_distinct_below order (length N.nets) (distinct order once) (λ q found. below_all order (length N.nets) q only found) in
    let high = le-length_from_below order (length N.nets) (λ q less. some_equal order (place_of order q) q (place_at N q less)) in
    record { many = omega arith; each = λ number less. place_at N number less; only = only; once = once }
