-- The nets that a tree declares are those of the netlist, in the order of nets.
use Rattle.std.proofs.Common.{◌≡◌, ℕ, suc, ◌+◌, ◌==◌, Bool, true, false, List, [], ◌∷◌, ◌++◌, length, map, refl, ap, sym, ◌∙◌, subst, Option, Some, None, arith, append_assoc}
use Rattle.std.specs.Prelude.{slice_get}
use Rattle.std.specs.Option.{option_map}
use Rattle.std.specs.Fmt.{decimal}
use Rattle.std.proofs.lemmas.Grind.{flat_map-append}
use Rattle.std.proofs.lemmas.List.{map-append}
use Rattle.std.proofs.lemmas.Option.{same_Some}
use Rattle.list_laws.proofs.Lists.{any_at}
use Rattle.netlist_model.specs.declared.Dir.{Dir}
use Rattle.netlist_model.specs.declared.Dir.TheVariants as dir
use Rattle.netlist_model.specs.declared.Name.{Name}
use Rattle.netlist_model.specs.declared.Name.TheVariants.{Original, Added}
use Rattle.netlist_model.specs.declared.NetId.{NetId}
use Rattle.netlist_model.specs.declared.Range.{Range}
use Rattle.netlist_model.specs.Lists.{PortView, NetView, NetlistView, direction}
use Rattle.netlist_model.specs.Formed.{IsLaidOut, IsWellFormed, width_of}
use Rattle.netlist_model.proofs.Ports.{bit_has_direction, direction_has_bit}
use Rattle.link_model.specs.Nets as link
use Rattle.link_model.specs.Nets.{NamedNet, NetDeclaration, counted_from, declared_nets, index_at, net_at, nets_in, port_nets, width, wire_nets}
use Rattle.link_model.specs.Denoted.{net_id}
use Rattle.netlist_link.specs.WellNamed.{IsWellNamed, IsWireNet, index_from}
use Rattle.netlist_link.specs.Linked.{LinkedView}
use Rattle.netlist_unlink.specs.declared.rows.NetRow.{NetRow}
use Rattle.netlist_unlink.specs.Rows.{before, has_port_name, is_original, named_row, one_index, rows, with_row}
use Rattle.netlist_unlink.specs.Trees.{Naming, added_from, added_wire, dir_of, naming_of, port_of, port_text, range_of, tree_of, wire_of}
use Rattle.netlist_unlink.specs.Renumbered.{added_test, is_added, is_wire, named_net, net_order, numbers_from, one_if, port_numbers, wire_test}
use Rattle.netlist_unlink.proofs.Lists.{none_passes}
use Rattle.netlist_unlink.proofs.Members.{map_counted, map_twice}
use Rattle.netlist_unlink.proofs.NetOrder.{net_number}
use Rattle.netlist_unlink.proofs.WireRows.{AreRows, no_rows, none_more, one_more, wire_bit}

-- what is known of a netlist whose nets are written
pub record AreNamed (table : List (List ℕ)) (N : NetlistView) : Type 0 where
  pub formed : IsWellFormed N
  pub named : IsWellNamed table N
  pub laid : IsLaidOut N

abbrev pub naming_in : List (List ℕ) → List ℕ → NetlistView → Naming
naming_in table prefix N = record { library = N.library; table = table; prefix = prefix; nets = N.nets }

-- Names of ports.

original_same : (number : ℕ) → is_original number (Original number) ≡ true
original_same number = grind arith

-- a net with a port's name stands in a port
port_named : (table : List (List ℕ)) (N : NetlistView) (net number : ℕ) (view : NetView) (dir : Dir) → AreNamed table N → slice_get N.nets net ≡ Some view → view.name ≡ Original number
    → direction N.ports net ≡ Some dir → has_port_name N.ports number ≡ true
port_named table N net number view dir w at is found =
    let b = direction_has_bit N dir (net_id net) found in
    let here = w.named.port_bits b.number b.bit b.port (net_id net) b.stands b.has in
    let same : view ≡ record { name = b.port.name; index = index_from b.port.range b.bit } = same_Some view (record { name = b.port.name; index = index_from b.port.range b.bit }) (sym at ∙ here) in
    let name : b.port.name ≡ Original number = sym (ap (λ (v : NetView). v.name) same) ∙ is in
    any_at (λ (p : PortView). is_original number p.name) N.ports b.number b.port b.stands (ap (is_original number) name ∙ original_same number)

-- a net of a wire has no port's name
wire_named : (table : List (List ℕ)) (N : NetlistView) (net number : ℕ) → AreNamed table N → IsWireNet N net (Original number) → has_port_name N.ports number ≡ false
wire_named table N net number w wire = none_passes (λ (p : PortView). is_original number p.name) N.ports each
  where
    each : (k : ℕ) (port : PortView) → slice_get N.ports k ≡ Some port → is_original number port.name ≡ false
    each k port at =
        let has = w.named.port_names k port at in
        let other : ℕ = has.0 in
        let is : port.name ≡ Original other = has.1 in
        go other is (other == number) refl
      where
        go : (other : ℕ) → port.name ≡ Original other → (b : Bool) → (other == number) ≡ b → is_original number port.name ≡ false
        go other is false e = ap (is_original number) is ∙ e
        go other is true e =
            let same : other ≡ number = grind arith in
            let name : port.name ≡ Original number = is ∙ ap Original same in
            let W : Name → Type 0 = IsWireNet N net in
            absurd (w.named.port_or_wire k net port at (subst W (sym name) wire))

-- Wires.

-- the net under its written name
wire_is : (table : List (List ℕ)) (prefix : List ℕ) (N : NetlistView) (net number : ℕ) (view : NetView) → slice_get N.nets net ≡ Some view → view.name ≡ Original number → direction N.ports net ≡ None
    → wire_bit table number view.index ≡ named_net (naming_in table prefix N) N.ports net
wire_is table prefix N net number view at is outside = rw (at, is, outside) refl

-- the rows from a net on, where those after it are known
rows_step : (table : List (List ℕ)) (prefix : List ℕ) (N : NetlistView) (from : ℕ) (view : NetView) (nets : List NetView) → AreNamed table N → slice_get N.nets from ≡ Some view
    → AreRows table N (from + 1) (rows N.ports nets) (map (named_net (naming_in table prefix N) N.ports) (numbers_from (wire_test N.ports) (from + 1) nets))
    → AreRows table N from (rows N.ports (view ∷ nets)) (map (named_net (naming_in table prefix N) N.ports) (numbers_from (wire_test N.ports) from (view ∷ nets)))
rows_step table prefix N from view nets w at rest = by_direction (direction N.ports from) refl
  where
    naming : Naming
    naming = naming_in table prefix N

    Goal : Option NetRow → Bool → Type 0
    Goal row test = AreRows table N from (with_row row (rows N.ports nets)) (map (named_net naming N.ports) (one_if test from ++ numbers_from (wire_test N.ports) (from + 1) nets))

    nothing : ((number : ℕ) → IsWireNet N from (Original number) → ⊥) → Goal None false
    nothing none = none_more table N from (rows N.ports nets) (map (named_net naming N.ports) (numbers_from (wire_test N.ports) (from + 1) nets)) none rest

    in_port : (dir : Dir) → direction N.ports from ≡ Some dir → (name : Name) → view.name ≡ name → Goal (named_row N.ports view.index name) (is_wire (Some dir) name)
    in_port dir found (Original number) is =
        let has = port_named table N from number view dir w at is found in
        rw has (nothing (λ other wire. let bad : None ≡ Some dir = sym wire.outside ∙ found in cc))
    in_port dir found (Added number) is = nothing (λ other wire. let bad : None ≡ Some dir = sym wire.outside ∙ found in cc)

    outside : direction N.ports from ≡ None → (name : Name) → view.name ≡ name → Goal (named_row N.ports view.index name) (is_wire None name)
    outside found (Original number) is =
        let has = wire_named table N from number w (record { view = view; there = at; outside = found; named = is }) in
        let B : NamedNet → Type 0 = λ bit. AreRows table N from (before (record { name = number; range = option_map one_index view.index }) (rows N.ports nets)) (bit ∷ map (named_net naming N.ports) (numbers_from (wire_test N.ports) (from + 1) nets)) in
        rw has (subst B (wire_is table prefix N from number view at is found)
        (one_more table N from number view (rows N.ports nets) (map (named_net naming N.ports) (numbers_from (wire_test N.ports) (from + 1) nets)) w.named at is found rest))
    outside found (Added number) is =
        nothing (λ other wire.
        let same : wire.view ≡ view = same_Some wire.view view (sym wire.there ∙ at) in
        let bad : Original other ≡ Added number = sym wire.named ∙ ap (λ (v : NetView). v.name) same ∙ is in
        cc)

    by_direction : (found : Option Dir) → direction N.ports from ≡ found → AreRows table N from (rows N.ports (view ∷ nets)) (map (named_net naming N.ports) (numbers_from (wire_test N.ports) from (view ∷ nets)))
    by_direction None e = rw e (outside e view.name refl)
    by_direction (Some dir) e = rw e (in_port dir e view.name refl)

pub rows_from : (table : List (List ℕ)) (prefix : List ℕ) (N : NetlistView) (from : ℕ) (nets : List NetView) → AreNamed table N → from + length nets ≡ length N.nets
    → ((k : ℕ) (view : NetView) → slice_get nets k ≡ Some view → slice_get N.nets (from + k) ≡ Some view)
    → AreRows table N from (rows N.ports nets) (map (named_net (naming_in table prefix N) N.ports) (numbers_from (wire_test N.ports) from nets))
rows_from table prefix N from [] w count each = no_rows table N from (omega arith)
rows_from table prefix N from (view ∷ nets) w count each =
    let zeroth : from ≡ from + 0 = omega arith in
    rows_step table prefix N from view nets w (ap (slice_get N.nets) zeroth ∙ each 0 view refl)
    (rows_from table prefix N (from + 1) nets w (omega arith) (λ k other there. let same : from + 1 + k ≡ from + suc k = omega arith in ap (slice_get N.nets) same ∙ each (suc k) other there))

-- Added nets.

added_step : (table : List (List ℕ)) (prefix : List ℕ) (N : NetlistView) (from : ℕ) (view : NetView) (nets : List NetView) → AreNamed table N → slice_get N.nets from ≡ Some view
    → nets_in (map wire_nets (added_from prefix (from + 1) nets)) ≡ map (named_net (naming_in table prefix N) N.ports) (numbers_from added_test (from + 1) nets)
    → nets_in (map wire_nets (added_from prefix from (view ∷ nets))) ≡ map (named_net (naming_in table prefix N) N.ports) (numbers_from added_test from (view ∷ nets))
added_step table prefix N from view nets w at rest = by_name view.name refl
  where
    naming : Naming
    naming = naming_in table prefix N

    by_name : (name : Name) → view.name ≡ name
        → nets_in (map wire_nets (added_wire prefix from name ++ added_from prefix (from + 1) nets)) ≡ map (named_net naming N.ports) (one_if (is_added name) from ++ numbers_from added_test (from + 1) nets)
    by_name (Original number) is = rest
    by_name (Added number) is =
        let facts = w.named.added from number view at is in
        let here : record { name = prefix ++ 110 ∷ decimal from; index = None; dir = None } ≡ named_net naming N.ports from = rw (at, is, facts.0, facts.1) refl in
        ap (λ (ys : List NamedNet). record { name = prefix ++ 110 ∷ decimal from; index = None; dir = None } ∷ ys) rest
        ∙ ap (λ (y : NamedNet). y ∷ map (named_net naming N.ports) (numbers_from added_test (from + 1) nets)) here

added_nets : (table : List (List ℕ)) (prefix : List ℕ) (N : NetlistView) (from : ℕ) (nets : List NetView) → AreNamed table N
    → ((k : ℕ) (view : NetView) → slice_get nets k ≡ Some view → slice_get N.nets (from + k) ≡ Some view)
    → nets_in (map wire_nets (added_from prefix from nets)) ≡ map (named_net (naming_in table prefix N) N.ports) (numbers_from added_test from nets)
added_nets table prefix N from [] w each = refl
added_nets table prefix N from (view ∷ nets) w each =
    let zeroth : from ≡ from + 0 = omega arith in
    added_step table prefix N from view nets w (ap (slice_get N.nets) zeroth ∙ each 0 view refl)
    (added_nets table prefix N (from + 1) nets w (λ k other there. let same : from + 1 + k ≡ from + suc k = omega arith in ap (slice_get N.nets) same ∙ each (suc k) other there))

-- Ports.

-- what is known of a port that is written
pub record PortFits (table : List (List ℕ)) (prefix : List ℕ) (N : NetlistView) (port : PortView) : Type 0 where
  pub many : length port.nets ≡ width (option_map range_of port.range)
  pub bits : (bit : ℕ) (net : NetId) → slice_get port.nets bit ≡ Some net → net_at (port_nets (port_of table port)) bit ≡ named_net (naming_in table prefix N) N.ports net.0

width_is : (range : Option Range) → width_of range ≡ width (option_map range_of range)
width_is None = refl
width_is (Some range) = refl

index_is : (range : Option Range) (bit : ℕ) → index_at (option_map range_of range) bit ≡ index_from range bit
index_is None bit = refl
index_is (Some range) bit = refl

pub dir_is : (d : Dir) → link.dir_of (dir_of d) ≡ d
dir_is dir.Input = refl
dir_is dir.Output = refl
dir_is dir.Inout = refl

pub port_fits : (table : List (List ℕ)) (prefix : List ℕ) (N : NetlistView) (p : ℕ) (port : PortView) → AreNamed table N → slice_get N.ports p ≡ Some port → PortFits table prefix N port
port_fits table prefix N p port w at = record {
  many = w.laid.widths p port at ∙ width_is port.range;
  bits = λ bit net there.
      let here = w.named.port_bits p bit port net at there in
      let has = w.named.port_names p port at in
      let number : ℕ = has.0 in
      let is : port.name ≡ Original number = has.1 in
      let found = bit_has_direction N w.formed port.dir net (record { number = p; port = port; bit = bit; stands = at; has = there; same = refl }) in
      let name : port_text table port.name ≡ (named_net (naming_in table prefix N) N.ports net.0).name = rw here (rw is refl) in
      let index : index_at (option_map range_of port.range) bit ≡ (named_net (naming_in table prefix N) N.ports net.0).index = rw here (index_is port.range bit) in
      let d : Some (link.dir_of (dir_of port.dir)) ≡ direction N.ports net.0 = ap Some (dir_is port.dir) ∙ sym found in
      same_net (net_at (port_nets (port_of table port)) bit) (named_net (naming_in table prefix N) N.ports net.0) name index d;
}
  where
    same_net : (a b : NamedNet) → a.name ≡ b.name → a.index ≡ b.index → a.dir ≡ b.dir → a ≡ b
    same_net a b e f g = ap (λ x. record { name = x; index = a.index; dir = a.dir }) e ∙ ap (λ x. record { name = b.name; index = x; dir = a.dir }) f ∙ ap (λ x. record { name = b.name; index = b.index; dir = x }) g

pub port_bits : (table : List (List ℕ)) (prefix : List ℕ) (N : NetlistView) (ports : List PortView) → ((p : ℕ) (port : PortView) → slice_get ports p ≡ Some port → PortFits table prefix N port)
    → nets_in (map port_nets (map (port_of table) ports)) ≡ map (named_net (naming_in table prefix N) N.ports) (port_numbers ports)
port_bits table prefix N [] each = refl
port_bits table prefix N (port ∷ ports) each =
    let fits = each 0 port refl in
    let f : ℕ → NamedNet = named_net (naming_in table prefix N) N.ports in
    let one : NetDeclaration = port_nets (port_of table port) in
    let counted : map (net_at one) (counted_from 0 (length port.nets)) ≡ map (λ (n : NetId). f n.0) port.nets =
    map_counted (net_at one) (λ (n : NetId). f n.0) 0 port.nets (λ bit net at. let zeroth : 0 + bit ≡ bit = omega arith in ap (net_at one) zeroth ∙ fits.bits bit net at) in
    let here : map (net_at one) (counted_from 0 (width one.range)) ≡ map f (map net_number port.nets) =
    ap (λ (k : ℕ). map (net_at one) (counted_from 0 k)) (sym fits.many) ∙ counted ∙ sym (map_twice f net_number port.nets) in
    ap (λ (xs : List NamedNet). xs ++ nets_in (map port_nets (map (port_of table) ports))) here
    ∙ ap (λ (xs : List NamedNet). map f (map net_number port.nets) ++ xs) (port_bits table prefix N ports (λ p other at. each (suc p) other at))
    ∙ sym (map-append f (map net_number port.nets) (port_numbers ports))

-- All nets.

pub nets_are : (linked : LinkedView) (prefix : List ℕ) → AreNamed linked.names linked.arena.lists
    → nets_in (declared_nets (tree_of linked prefix)) ≡ map (named_net (naming_of linked prefix) linked.arena.lists.ports) (net_order linked.arena.lists)
nets_are linked prefix w =
    let N : NetlistView = linked.arena.lists in
    let table : List (List ℕ) = linked.names in
    let f : ℕ → NamedNet = named_net (naming_of linked prefix) N.ports in
    let bits : NetDeclaration → List NamedNet = λ net. map (net_at net) (counted_from 0 (width net.range)) in
    let P : List NetDeclaration = map port_nets (map (port_of table) N.ports) in
    let found : List NetRow = rows N.ports N.nets in
    let W : List NetDeclaration = map wire_nets (map (wire_of table) found) in
    let A : List NetDeclaration = map wire_nets (added_from prefix 0 N.nets) in
    let same : (k : ℕ) (view : NetView) → slice_get N.nets k ≡ Some view → slice_get N.nets (0 + k) ≡ Some view = λ k view at. let zeroth : 0 + k ≡ k = omega arith in ap (slice_get N.nets) zeroth ∙ at in
    let ports : nets_in P ≡ map f (port_numbers N.ports) = port_bits table prefix N N.ports (λ p port at. port_fits table prefix N p port w at) in
    let are = rows_from table prefix N 0 N.nets w (omega arith) same in
    let wires : nets_in W ≡ map f (numbers_from (wire_test N.ports) 0 N.nets) = ap nets_in (map_twice wire_nets (wire_of table) found) ∙ are.bits_are in
    let added : nets_in A ≡ map f (numbers_from added_test 0 N.nets) = added_nets table prefix N 0 N.nets w same in
    let split : map wire_nets (map (wire_of table) found ++ added_from prefix 0 N.nets) ≡ W ++ A = map-append wire_nets (map (wire_of table) found) (added_from prefix 0 N.nets) in
    let left : nets_in (P ++ map wire_nets (map (wire_of table) found ++ added_from prefix 0 N.nets)) ≡ nets_in P ++ (nets_in W ++ nets_in A) =
    flat_map-append bits P (map wire_nets (map (wire_of table) found ++ added_from prefix 0 N.nets)) ∙ ap (λ (xs : List NetDeclaration). nets_in P ++ nets_in xs) split
    ∙ ap (λ (xs : List NamedNet). nets_in P ++ xs) (flat_map-append bits W A) in
    let a : List ℕ = port_numbers N.ports in
    let b : List ℕ = numbers_from (wire_test N.ports) 0 N.nets in
    let c : List ℕ = numbers_from added_test 0 N.nets in
    let right : map f (a ++ b ++ c) ≡ map f a ++ (map f b ++ map f c) = map-append f (a ++ b) c ∙ ap (λ (xs : List NamedNet). xs ++ map f c) (map-append f a b) ∙ append_assoc (map f a) (map f b) (map f c) in
    left ∙ ap (λ (xs : List NamedNet). xs ++ (nets_in W ++ nets_in A)) ports ∙ ap (λ (xs : List NamedNet). map f a ++ (xs ++ nets_in A)) wires ∙ ap (λ (xs : List NamedNet). map f a ++ (map f b ++ xs)) added ∙ sym right
