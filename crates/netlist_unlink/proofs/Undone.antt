-- The tree of a netlist that was just linked denotes what the linked tree denotes.
use Rattle.std.proofs.Common.{◌≡◌, ℕ, zero, suc, ◌+◌, ◌-◌, ◌<◌, ◌≤◌, ◌==◌, Bool, true, false, List, [], ◌∷◌, ◌++◌, length, map, refl, ap, sym, ◌∙◌, inl, inr, Option, Some, None, arith, append-nil}
use Rattle.std.specs.Prelude.{slice_get, unwrap_or, option_and_then, IsSome}
use Rattle.std.specs.Option.{option_map}
use Rattle.std.proofs.lemmas.Bool.{cases_lt}
use Rattle.std.proofs.lemmas.Option.{same_Some, slice_get_within}
use Rattle.list_laws.proofs.Lists.{AreAll-left, AreAll-length, AreAll-right, slice_get-counted_from, length-counted_from}
use Rattle.verilog_tree.specs.declared.tree.Module.{Module}
use Rattle.verilog_tree.specs.declared.tree.Port.{Port}
use Rattle.cell_library.specs.Gates.{is_flop}
use Rattle.netlist_model.specs.declared.Dir.{Dir}
use Rattle.netlist_model.specs.declared.Feed.{Feed}
use Rattle.netlist_model.specs.declared.Feed.TheVariants.{Net, Const}
use Rattle.netlist_model.specs.declared.Name.{Name}
use Rattle.netlist_model.specs.declared.Name.TheVariants.{Original, Added}
use Rattle.netlist_model.specs.declared.NetId.{NetId}
use Rattle.netlist_model.specs.Lists.{CellView, NetView, NetlistView, PortView, bit_net, cell_at, direction, live_cell}
use Rattle.link_model.specs.Nets.{NamedNet, counted_from, declared_nets, nets_in, width}
use Rattle.link_model.specs.Cells.{NamedCell}
use Rattle.link_model.specs.Denoted.{AreAll, IsCell, IsLive, IsName, IsNamed, IsNet, IsPort, NamedPort, denoted, name_bytes, net_id, ports_from}
use Rattle.netlist_model.specs.Formed.{IsLaidOut}
use Rattle.netlist_model.proofs.Ports.{bit_has_direction, direction_has_bit}
use Rattle.netlist_link.proofs.Cells.{kept}
use Rattle.netlist_link.proofs.Formed.{direction_is}
use Rattle.netlist_unlink.specs.Trees.{Naming, cell_text, original, port_text, spelled}
use Rattle.netlist_unlink.specs.Renumbered.{added_test, cells_from, is_added, named_net, net_order, new_cell, new_feed, new_net, new_port, numbers_from, place_of, port_numbers, renumbered, wire_test}
use Rattle.netlist_unlink.proofs.Denotes.{same_netlist, same_port}
use Rattle.netlist_unlink.proofs.Members.{map_counted}
use Rattle.netlist_unlink.proofs.Nets.{AreNamed, naming_in}
use Rattle.netlist_unlink.proofs.NewCells.{AreBelow, IsBelow, feeds_below, output_below, same_cell}
use Rattle.netlist_unlink.proofs.NetOrder.{port_in, port_source}

-- The order of nets is that of their numbers.

numbers_twice : (first count : ℕ) → map (λ (n : NetId). n.0) (map net_id (counted_from first count)) ≡ counted_from first count
numbers_twice first zero = refl
numbers_twice first (suc count) = ap (λ (xs : List ℕ). first ∷ xs) (numbers_twice (suc first) count)

counted_joined : (first one other : ℕ) → counted_from first one ++ counted_from (first + one) other ≡ counted_from first (one + other)
counted_joined first zero other = let a : first + 0 ≡ first = omega arith in let b : 0 + other ≡ other = omega arith in ap (λ (n : ℕ). counted_from n other) a ∙ ap (counted_from first) (sym b)
counted_joined first (suc one) other =
    let a : first + suc one ≡ suc first + one = omega arith in
    let b : suc one + other ≡ suc (one + other) = omega arith in
    ap (λ (n : ℕ). first ∷ counted_from (suc first) one ++ counted_from n other) a ∙ ap (λ (xs : List ℕ). first ∷ xs) (counted_joined (suc first) one other) ∙ ap (counted_from first) (sym b)

-- how many bits ports have
abbrev pub port_count : List Port → ℕ
port_count [] = 0
port_count (p ∷ ports) = width p.range + port_count ports

pub ports_counted : (table : List (List ℕ)) (first : ℕ) (views : List PortView) (ports : List Port) → AreAll (IsPort table) views (ports_from first ports) → port_numbers views ≡ counted_from first (port_count ports)
ports_counted table first [] [] all = refl
ports_counted table first [] (p ∷ ports) all = absurd all
ports_counted table first (v ∷ views) [] all = absurd all
ports_counted table first (v ∷ views) (p ∷ ports) all =
    ap (λ (nets : List NetId). map (λ (n : NetId). n.0) nets ++ port_numbers views) all.0.nets ∙ ap (λ (xs : List ℕ). xs ++ port_numbers views) (numbers_twice first (width p.range))
    ∙ ap (λ (xs : List ℕ). counted_from first (width p.range) ++ xs) (ports_counted table (first + width p.range) views ports all.1) ∙ counted_joined first (width p.range) (port_count ports)

none_pass : (test : ℕ → NetView → Bool) (first : ℕ) (nets : List NetView) → ((k : ℕ) (view : NetView) → slice_get nets k ≡ Some view → test (first + k) view ≡ false) → numbers_from test first nets ≡ []
none_pass test first [] each = refl
none_pass test first (view ∷ nets) each =
    let zeroth : first ≡ first + 0 = omega arith in
    let here : test first view ≡ false = ap (λ (n : ℕ). test n view) zeroth ∙ each 0 view refl in
    let rest = none_pass test (first + 1) nets (λ k other at. let same : first + 1 + k ≡ first + suc k = omega arith in ap (λ (n : ℕ). test n other) same ∙ each (suc k) other at) in
    rw here rest

all_pass : (test : ℕ → NetView → Bool) (first : ℕ) (nets : List NetView) → ((k : ℕ) (view : NetView) → slice_get nets k ≡ Some view → test (first + k) view ≡ true) → numbers_from test first nets ≡ counted_from first (length nets)
all_pass test first [] each = refl
all_pass test first (view ∷ nets) each =
    let zeroth : first ≡ first + 0 = omega arith in
    let here : test first view ≡ true = ap (λ (n : ℕ). test n view) zeroth ∙ each 0 view refl in
    let next : first + 1 ≡ suc first = omega arith in
    let rest = all_pass test (first + 1) nets (λ k other at. let same : first + 1 + k ≡ first + suc k = omega arith in ap (λ (n : ℕ). test n other) same ∙ each (suc k) other at) in
    rw here (ap (λ (xs : List ℕ). first ∷ xs) (rest ∙ ap (λ (n : ℕ). counted_from n (length nets)) next))

-- the first so many fail the test, and the others pass
later_pass : (test : ℕ → NetView → Bool) (first skipped : ℕ) (nets : List NetView) → skipped ≤ length nets
    → ((k : ℕ) (view : NetView) → slice_get nets k ≡ Some view → k < skipped → test (first + k) view ≡ false)
    → ((k : ℕ) (view : NetView) → slice_get nets k ≡ Some view → skipped ≤ k → test (first + k) view ≡ true)
    → numbers_from test first nets ≡ counted_from (first + skipped) (length nets - skipped)
later_pass test first zero nets few fail pass =
    let a : first ≡ first + 0 = omega arith in
    let b : length nets ≡ length nets - 0 = omega arith in
    all_pass test first nets (λ k view at. pass k view at (omega arith)) ∙ ap (λ (n : ℕ). counted_from n (length nets)) a ∙ ap (counted_from (first + 0)) b
later_pass test first (suc skipped) [] few fail pass = absurd (omega arith)
later_pass test first (suc skipped) (view ∷ nets) few fail pass =
    let zeroth : first ≡ first + 0 = omega arith in
    let here : test first view ≡ false = ap (λ (n : ℕ). test n view) zeroth ∙ fail 0 view refl (omega arith) in
    let a : first + 1 + skipped ≡ first + suc skipped = omega arith in
    let b : length nets - skipped ≡ suc (length nets) - suc skipped = omega arith in
    let rest = later_pass test (first + 1) skipped nets (omega arith)
    (λ k other at less. let same : first + 1 + k ≡ first + suc k = omega arith in ap (λ (n : ℕ). test n other) same ∙ fail (suc k) other at (omega arith))
    (λ k other at past. let same : first + 1 + k ≡ first + suc k = omega arith in ap (λ (n : ℕ). test n other) same ∙ pass (suc k) other at (omega arith)) in
    rw here (rest ∙ ap (λ (n : ℕ). counted_from n (length nets - skipped)) a ∙ ap (counted_from (first + suc skipped)) b)

place_counted : (first count k : ℕ) → k < count → place_of (counted_from first count) (first + k) ≡ k
place_counted first zero k less = absurd (omega arith)
place_counted first (suc count) zero less = let here : (first == first + 0) ≡ true = grind arith in rw here refl
place_counted first (suc count) (suc k) less =
    let here : (first == first + suc k) ≡ false = grind arith in
    let same : first + suc k ≡ suc first + k = omega arith in
    rw here (ap (λ (n : ℕ). suc (place_of (counted_from (suc first) count) n)) same ∙ ap suc (place_counted (suc first) count k (omega arith)))

-- What is known of a netlist that was just linked.
pub record IsJustLinked (table : List (List ℕ)) (N : NetlistView) (m : Module) : Type 0 where
  pub are : AreNamed table N
  pub is : IsNamed table N (denoted N.library m)

-- a net under an original name
original_net : (table : List (List ℕ)) (N : NetlistView) (m : Module) (k : ℕ) (view : NetView) → IsJustLinked table N m → slice_get N.nets k ≡ Some view → (number : ℕ) × (view.name ≡ Original number)
original_net table N m k view w at =
    let named = AreAll-right (IsNet table) N.nets (nets_in (declared_nets m)) k view w.is.nets at in
    go view.name refl named.0 named.2.name
  where
    go : (name : Name) → view.name ≡ name → (named : NamedNet) → name_bytes table view.name ≡ Some named.name → (number : ℕ) × (view.name ≡ Original number)
    go (Original number) is named e = (number, is)
    go (Added number) is named e = absurd (let bad : None ≡ Some named.name = sym (ap (name_bytes table) is) ∙ e in cc)

in_port : (table : List (List ℕ)) (N : NetlistView) (m : Module) (k : ℕ) → IsJustLinked table N m → k < port_count m.ports → (dir : Dir) × (direction N.ports k ≡ Some dir)
in_port table N m k w less =
    let counted = ports_counted table 0 N.ports m.ports w.is.ports in
    let zeroth : 0 + k ≡ k = omega arith in
    let here : slice_get (port_numbers N.ports) k ≡ Some k = ap (λ (xs : List ℕ). slice_get xs k) counted ∙ slice_get-counted_from 0 (port_count m.ports) k less ∙ ap Some zeroth in
    let b = port_source N.ports k k here in
    let found = bit_has_direction N w.are.formed b.port.dir b.net (record { number = b.p; port = b.port; bit = b.bit; stands = b.there; has = b.at; same = refl }) in
    (b.port.dir, ap (direction N.ports) (sym b.is) ∙ found)

outside : (table : List (List ℕ)) (N : NetlistView) (m : Module) (k : ℕ) → IsJustLinked table N m → port_count m.ports ≤ k → direction N.ports k ≡ None
outside table N m k w past = go (direction N.ports k) refl
  where
    go : (found : Option Dir) → direction N.ports k ≡ found → direction N.ports k ≡ None
    go None e = e
    go (Some dir) e =
        let b = direction_has_bit N dir (net_id k) e in
        let here = port_in N.ports b.number b.bit b.port (net_id k) b.stands b.has in
        let there : slice_get (counted_from 0 (port_count m.ports)) here.0 ≡ Some k = ap (λ (xs : List ℕ). slice_get xs here.0) (sym (ports_counted table 0 N.ports m.ports w.is.ports)) ∙ here.1 in
        let less = slice_get_within (counted_from 0 (port_count m.ports)) here.0 k there in
        let count = length-counted_from 0 (port_count m.ports) in
        let same : Some (0 + here.0) ≡ Some k = sym (slice_get-counted_from 0 (port_count m.ports) here.0 (omega arith)) ∙ there in
        let number = same_Some (0 + here.0) k same in
        absurd (omega arith)

ports_few : (table : List (List ℕ)) (N : NetlistView) (m : Module) → IsJustLinked table N m → port_count m.ports ≤ length N.nets
ports_few table N m w =
    elim (cases_lt (length N.nets) (port_count m.ports)) [
      | inr few ↦ few
      | inl many ↦
          let zeroth : 0 + length N.nets ≡ length N.nets = omega arith in
          let here : slice_get (port_numbers N.ports) (length N.nets) ≡ Some (length N.nets) =
          ap (λ (xs : List ℕ). slice_get xs (length N.nets)) (ports_counted table 0 N.ports m.ports w.is.ports) ∙ slice_get-counted_from 0 (port_count m.ports) (length N.nets) many ∙ ap Some zeroth in
          let b = port_source N.ports (length N.nets) (length N.nets) here in
          let has : bit_net N b.p b.bit ≡ Some b.net = rw b.there b.at in
          let less = w.are.laid.port_nets b.p b.bit b.net has in
          let is = b.is in
          absurd (omega arith)
    ]

order_counted : (table : List (List ℕ)) (N : NetlistView) (m : Module) → IsJustLinked table N m → net_order N ≡ counted_from 0 (length N.nets)
order_counted table N m w =
    let bits : ℕ = port_count m.ports in
    let few = ports_few table N m w in
    let one = ports_counted table 0 N.ports m.ports w.is.ports in
    let two = later_pass (wire_test N.ports) 0 bits N.nets few
    (λ k view at less. let zeroth : k ≡ 0 + k = omega arith in ap (λ (n : ℕ). wire_test N.ports n view) (sym zeroth) ∙ in_port_fails k view (in_port table N m k w less))
    (λ k view at past. let zeroth : k ≡ 0 + k = omega arith in ap (λ (n : ℕ). wire_test N.ports n view) (sym zeroth) ∙ outside_passes k view (outside table N m k w past) (original_net table N m k view w at)) in
    let three = none_pass added_test 0 N.nets (λ k view at. not_added view (original_net table N m k view w at)) in
    let sum : bits + (length N.nets - bits) ≡ length N.nets = omega arith in
    ap (λ (xs : List ℕ). (xs ++ numbers_from (wire_test N.ports) 0 N.nets) ++ numbers_from added_test 0 N.nets) one ∙ ap (λ (xs : List ℕ). (counted_from 0 bits ++ xs) ++ numbers_from added_test 0 N.nets) two
    ∙ ap (λ (xs : List ℕ). (counted_from 0 bits ++ counted_from (0 + bits) (length N.nets - bits)) ++ xs) three
    ∙ append-nil (counted_from 0 bits ++ counted_from (0 + bits) (length N.nets - bits)) ∙ counted_joined 0 bits (length N.nets - bits) ∙ ap (counted_from 0) sum
  where
    in_port_fails : (k : ℕ) (view : NetView) → (dir : Dir) × (direction N.ports k ≡ Some dir) → wire_test N.ports k view ≡ false
    in_port_fails k view found = rw found.1 refl

    outside_passes : (k : ℕ) (view : NetView) → direction N.ports k ≡ None → (number : ℕ) × (view.name ≡ Original number) → wire_test N.ports k view ≡ true
    outside_passes k view none name = rw (none, name.1) refl

    not_added : (view : NetView) → (number : ℕ) × (view.name ≡ Original number) → is_added view.name ≡ false
    not_added view name = rw name.1 refl

-- Numbers stay.

same_net : (order : List ℕ) (count : ℕ) (net : NetId) → order ≡ counted_from 0 count → net.0 < count → new_net order net ≡ net
same_net order count net is less =
    let zeroth : net.0 ≡ 0 + net.0 = omega arith in
    ap net_id (ap (λ (xs : List ℕ). place_of xs net.0) is ∙ ap (place_of (counted_from 0 count)) zeroth ∙ place_counted 0 count net.0 less)

map_kept : {X : Type 0} (f : X → X) (xs : List X) → ((k : ℕ) (x : X) → slice_get xs k ≡ Some x → f x ≡ x) → map f xs ≡ xs
map_kept f [] each = refl
map_kept f (x ∷ xs) each = ap (λ y. y ∷ map f xs) (each 0 x refl) ∙ ap (λ rest. x ∷ rest) (map_kept f xs (λ k y at. each (suc k) y at))

same_feeds : (N : NetlistView) (order : List ℕ) (feeds : List Feed) → order ≡ counted_from 0 (length N.nets) → AreBelow N feeds → map (new_feed order) feeds ≡ feeds
same_feeds N order feeds is below = map_kept (new_feed order) feeds (λ place feed at. one feed (below place feed at))
  where
    one : (feed : Feed) → IsBelow N feed → new_feed order feed ≡ feed
    one (Net net) less = ap Net (same_net order (length N.nets) net is less)
    one (Const value) less = refl

-- the text of a name is its bytes
original_is : (table : List (List ℕ)) (number : ℕ) (bytes : List ℕ) → slice_get table number ≡ Some bytes → original table number ≡ bytes
original_is table number bytes at = ap (λ (o : Option (List ℕ)). unwrap_or o []) at

same_ports : (table : List (List ℕ)) (N : NetlistView) (m : Module) (order : List ℕ) → IsJustLinked table N m → order ≡ counted_from 0 (length N.nets) → map (new_port table order) N.ports ≡ ports_from 0 m.ports
same_ports table N m order w is = go N.ports (ports_from 0 m.ports) w.is.ports (λ p view bit net at has. w.are.laid.port_nets p bit net (stands p view bit net at has))
  where
    stands : (p : ℕ) (view : PortView) (bit : ℕ) (net : NetId) → slice_get N.ports p ≡ Some view → slice_get view.nets bit ≡ Some net → bit_net N p bit ≡ Some net
    stands p view bit net at has = rw at has

    named : (view : PortView) (bytes : List ℕ) → name_bytes table view.name ≡ Some bytes → port_text table view.name ≡ bytes
    named view bytes e = by view.name e
      where
        by : (name : Name) → name_bytes table name ≡ Some bytes → port_text table name ≡ bytes
        by (Original number) at = original_is table number bytes at
        by (Added number) at = absurd (cc)

    go : (views : List PortView) (ports : List NamedPort) → AreAll (IsPort table) views ports
        → ((p : ℕ) (view : PortView) (bit : ℕ) (net : NetId) → slice_get views p ≡ Some view → slice_get view.nets bit ≡ Some net → net.0 < length N.nets) → map (new_port table order) views ≡ ports
    go [] [] all below = refl
    go [] (p ∷ ports) all below = absurd all
    go (v ∷ views) [] all below = absurd all
    go (v ∷ views) (p ∷ ports) all below =
        let nets : map (new_net order) v.nets ≡ v.nets = map_kept (new_net order) v.nets (λ bit net has. same_net order (length N.nets) net is (below 0 v bit net refl has)) in
        let here = same_port (new_port table order v) p (named v p.name all.0.name) all.0.dir all.0.range (nets ∙ all.0.nets) in
        ap (λ (x : NamedPort). x ∷ map (new_port table order) views) here ∙ ap (λ (xs : List NamedPort). p ∷ xs) (go views ports all.1 (λ q view bit net at has. below (suc q) view bit net at has))

same_nets : (table : List (List ℕ)) (prefix : List ℕ) (N : NetlistView) (m : Module) → IsJustLinked table N m
    → map (named_net (naming_in table prefix N) N.ports) (counted_from 0 (length N.nets)) ≡ nets_in (declared_nets m)
same_nets table prefix N m w =
    let nets : List NamedNet = nets_in (declared_nets m) in
    let count = AreAll-length (IsNet table) N.nets nets w.is.nets in
    let f : ℕ → NamedNet = named_net (naming_in table prefix N) N.ports in
    ap (λ (n : ℕ). map f (counted_from 0 n)) count ∙ map_counted f (λ (n : NamedNet). n) 0 nets (λ k named at.
    let view = AreAll-left (IsNet table) N.nets nets k named w.is.nets at in
    let zeroth : k ≡ 0 + k = omega arith in
    let found : direction N.ports k ≡ named.dir = direction_is table N m k w.is ∙ ap (option_and_then (λ (n : NamedNet). n.dir)) at ∙ refl in
    ap f (sym zeroth) ∙ one k named view.0 view.1 view.2.name view.2.index found)
    ∙ map_kept (λ (n : NamedNet). n) nets (λ k x at. refl)
  where
    one : (k : ℕ) (named : NamedNet) (view : NetView) → slice_get N.nets k ≡ Some view → name_bytes table view.name ≡ Some named.name → view.index ≡ named.index → direction N.ports k ≡ named.dir
        → named_net (naming_in table prefix N) N.ports k ≡ named
    one k named view at name index found =
        rw (at, found) (ap (λ (bytes : List ℕ). record { name = bytes; index = view.index; dir = named.dir }) (text view.name name) ∙ ap (λ (i : Option ℕ). record { name = named.name; index = i; dir = named.dir }) index)
      where
        text : (n : Name) → name_bytes table n ≡ Some named.name → spelled (naming_in table prefix N) 110 k n ≡ named.name
        text (Original number) e = original_is table number named.name e
        text (Added number) e = absurd (cc)

same_cells : (naming : Naming) (order : List ℕ) (number : ℕ) (cells : List (Option CellView)) (rest : List NamedCell)
    → ((k : ℕ) (named : NamedCell) → slice_get rest k ≡ Some named → (cell : CellView) × (live_cell (slice_get cells k) ≡ Some cell) × (new_cell naming order (number + k) cell ≡ named))
    → ((k : ℕ) → IsSome (live_cell (slice_get cells k)) → k < length rest) → cells_from naming order number cells ≡ rest
same_cells naming order number [] [] each only = refl
same_cells naming order number [] (x ∷ rest) each only = absurd (let c = each 0 x refl in let bad : None ≡ Some c.0 = c.1 in cc)
same_cells naming order number (None ∷ cells) [] each only =
    same_cells naming order (number + 1) cells [] (λ k named at. absurd (let bad : None ≡ Some named = at in cc)) (λ k live. let bad = only (suc k) live in absurd (omega arith))
same_cells naming order number (None ∷ cells) (x ∷ rest) each only = absurd (let c = each 0 x refl in let bad : None ≡ Some c.0 = c.1 in cc)
same_cells naming order number (Some c ∷ cells) [] each only = absurd (let bad = only 0 refl in omega arith)
same_cells naming order number (Some c ∷ cells) (x ∷ rest) each only =
    let first = each 0 x refl in
    let same : c ≡ first.0 = same_Some c first.0 first.1 in
    let zeroth : number ≡ number + 0 = omega arith in
    let here : new_cell naming order number c ≡ x = ap (new_cell naming order number) same ∙ ap (λ (n : ℕ). new_cell naming order n first.0) zeroth ∙ first.2 in
    let later = same_cells naming order (number + 1) cells rest
    (λ k named at. let n = each (suc k) named at in let place : number + 1 + k ≡ number + suc k = omega arith in (n.0, n.1, ap (λ (j : ℕ). new_cell naming order j n.0) place ∙ n.2))
    (λ k live. let less = only (suc k) live in omega arith) in
    ap (λ (y : NamedCell). y ∷ cells_from naming order (number + 1) cells) here ∙ ap (λ (ys : List NamedCell). x ∷ ys) later

one_cell : (table : List (List ℕ)) (prefix : List ℕ) (N : NetlistView) (order : List ℕ) (i : ℕ) (cell : CellView) (named : NamedCell) → IsLaidOut N → order ≡ counted_from 0 (length N.nets) → cell_at N i ≡ Some cell → named.keeps ≡ is_flop N.library named.kind → IsCell table cell named
    → new_cell (naming_in table prefix N) order i cell ≡ named
one_cell table prefix N order i cell named laid is at keeps c =
    same_cell (new_cell (naming_in table prefix N) order i cell) named c.kind (ap (is_flop N.library) c.kind ∙ sym keeps) (name cell.name named.name c.name) (same_feeds N order cell.feeds is (feeds_below N i cell laid at) ∙ c.feeds) (output cell.output refl ∙ c.output)
  where
    name : (o : Option Name) (bytes : Option (List ℕ)) → IsName table o bytes → option_map (cell_text (naming_in table prefix N) i) o ≡ bytes
    name None None is_name = refl
    name None (Some bytes) is_name = absurd is_name
    name (Some n) None is_name = absurd is_name
    name (Some (Original number)) (Some bytes) is_name = ap Some (original_is table number bytes is_name)
    name (Some (Added number)) (Some bytes) is_name = absurd (let bad : None ≡ Some bytes = is_name in cc)

    output : (o : Option NetId) → cell.output ≡ o → option_map (new_net order) o ≡ o
    output None e = refl
    output (Some net) e = ap Some (same_net order (length N.nets) net is (output_below N i cell net laid at e))

-- nothing was added, so it has the same numbers
pub same_again : (table : List (List ℕ)) (prefix : List ℕ) (N : NetlistView) (m : Module) → IsJustLinked table N m → renumbered (naming_in table prefix N) N ≡ denoted N.library m
same_again table prefix N m w =
    let naming : Naming = naming_in table prefix N in
    let order : List ℕ = net_order N in
    let is = order_counted table N m w in
    same_netlist (renumbered naming N) (denoted N.library m) (same_ports table N m order w is) (ap (map (named_net naming N.ports)) is ∙ same_nets table prefix N m w)
    (same_cells naming order 0 N.cells (denoted N.library m).cells
    (λ k named at. let here = live_of k (cell_at N k) refl named (w.is.cells.each k named at) in let zeroth : 0 + k ≡ k = omega arith in
    (here.0, here.1, ap (λ (n : ℕ). new_cell naming order n here.0) zeroth ∙ one_cell table prefix N order k here.0 named w.are.laid is here.1 (kept N m k named at) here.2))
    w.is.cells.only)
  where
    live_of : (k : ℕ) (o : Option CellView) → cell_at N k ≡ o → (named : NamedCell) → IsLive table (cell_at N k) named → (cell : CellView) × (cell_at N k ≡ Some cell) × IsCell table cell named
    live_of k None e named live = absurd (rw e at live)
    live_of k (Some cell) e named live = (cell, e, rw e at live)
