-- The whole module, told: its nets, its cells, its ports and wires, and then all of it.
use Rattle.std.proofs.Common.{◌≡◌, ℕ, suc, zero, ◌+◌, ◌-◌, ◌<◌, ◌≤◌, ◌||◌, Bool, true, false, List, [], ◌∷◌, ◌++◌, map, length, take, filter, refl, sym, ◌∙◌, ap, Option, Some, None, option_map, slice_get, arith, ne_eqb, eq-eqb, length-append}
use Rattle.std.specs.List.{list_any}
use Rattle.std.proofs.lemmas.List.{map-append, length-map}
use Rattle.list_laws.proofs.Lists.{slice_get-append_left, slice_get-append_right, slice_get_there, front_of, any_at, map_same}
use Rattle.list_laws.proofs.Tests.{or_more}
use Rattle.gate_parts.specs.Parts.{added_nets}
use Rattle.netlist_model.specs.declared.Dir.{Dir}
use Rattle.netlist_model.specs.declared.Name.{Name}
use Rattle.netlist_model.specs.declared.Name.TheVariants.{Original, Added}
use Rattle.netlist_model.specs.declared.NetId.{NetId}
use Rattle.netlist_model.specs.declared.Feed.{Feed}
use Rattle.netlist_model.specs.declared.Feed.TheVariants.{Net, Const}
use Rattle.netlist_model.specs.Lists.{PortView, NetView, CellView, NetlistView, cell_at}
use Rattle.netlist_link.specs.Linked.{LinkedView}
use Rattle.verilog_tree.specs.declared.tree.Port.{Port}
use Rattle.plan_fitting.specs.declared.fitted.Fitted.{Fitted}
use Rattle.netlist_unlink.specs.Rows.{is_original, has_port_name, row_of, rows}
use Rattle.netlist_unlink.specs.Trees.{bit_of, operand_of, cell_text, port_of, wire_of, added_from, naming_of}
use Rattle.stitched_netlist.specs.declared.model.TapNames.{TapNames}
use Rattle.stitched_netlist.specs.declared.model.TapPort.{TapPort}
use Rattle.stitched_netlist.specs.Sites.{sides_of}
use Rattle.stitched_netlist.specs.Stitched.{boundary_at, scalar, tap_ports, test_logic_nets}
use Rattle.strip_model.specs.Core.{is_own_wire}
use Rattle.strip_model.specs.Pairs.{pairs_of}
use Rattle.strip_model.proofs.Undone.{cell_undone}
use Rattle.strip_model.specs.NetlistsTold.{IsOwn, IsNewTap, CanBeTold, with_logic}
use Rattle.strip_model.proofs.Nets.{AreNets, added_at}
use Rattle.strip_model.proofs.Items.{IsWrittenAlike}
use Rattle.strip_model.proofs.NetlistsCells.{AreTold}
use Rattle.strip_model.proofs.Wires.{IsKept, wires_told}
use Rattle.strip_model.proofs.NetlistsWhole.{pair_within, behind_nets, wider, wider_own, module_nets}

-- Nets.

pub net_between : (N : NetlistView) (names : TapNames) (f : Fitted) (net : ℕ) → (boundary_at N f).first ≤ net → net < (boundary_at N f).first + sides_of N.ports f.rows
    → slice_get (N.nets ++ behind_nets N names f) net ≡ Some (record { name = Added net; index = None })
net_between N names f net low high =
    let k : ℕ = net - (boundary_at N f).first in
    let is : net ≡ length N.nets + suc (suc (suc (suc (suc k)))) = omega (arith, low) in
    let number : (boundary_at N f).first + k ≡ net = omega (arith, low) in
    let there = added_at (boundary_at N f).first (sides_of N.ports f.rows + test_logic_nets (boundary_at N f) f) k (omega (arith, low, high)) in
    let view : ℕ → Option NetView = λ n. Some (record { name = Added n; index = None }) in
    slice_get-append_right N.nets (behind_nets N names f) net (suc (suc (suc (suc (suc k))))) is ∙ there ∙ ap view number

pub are_nets : (L : LinkedView) (table : List (List ℕ)) (names : TapNames) (f : Fitted) (prefix : List ℕ) → CanBeTold L table names f prefix
    → AreNets (naming_of (with_logic L table names f) prefix) (pairs_of (boundary_at L.arena.lists f))
are_nets L table names f prefix can = record {
  each = module_nets L table names f prefix can;
  few = can.few;
  pairs_there = λ k one at.
      let w = pair_within (boundary_at L.arena.lists f) (boundary_at L.arena.lists f).first f.rows k one at in
      net_between L.arena.lists names f one.net w.0 w.1;
}

-- A cell of the core, before and after.

own_bit : (L : LinkedView) (table : List (List ℕ)) (names : TapNames) (f : Fitted) (prefix : List ℕ) → CanBeTold L table names f prefix → (net : NetId) → net.0 < length L.arena.lists.nets
    → bit_of (naming_of (with_logic L table names f) prefix) net ≡ bit_of (naming_of L prefix) net
own_bit L table names f prefix can net low =
    let there = slice_get_there L.arena.lists.nets net.0 low in
    let now = slice_get-append_left L.arena.lists.nets (behind_nets L.arena.lists names f) net.0 low ∙ there.1 in
    by there.0 there.1 now there.0.name refl (can.nets net.0 there.0 there.1)
  where
    by : (view : NetView) → slice_get L.arena.lists.nets net.0 ≡ Some view → slice_get (L.arena.lists.nets ++ behind_nets L.arena.lists names f) net.0 ≡ Some view
        → (name : Name) → view.name ≡ name → IsOwn L.names prefix name → bit_of (naming_of (with_logic L table names f) prefix) net ≡ bit_of (naming_of L prefix) net
    by view was now (Original number) e own =
        let same = (wider L.names table prefix can.kept number own.0).1 in rw (now, was, e, same) refl
    by view was now (Added number) e own = absurd own

alike : (L : LinkedView) (table : List (List ℕ)) (names : TapNames) (f : Fitted) (prefix : List ℕ) → CanBeTold L table names f prefix → (i : ℕ) (cell : CellView) → cell_at L.arena.lists i ≡ Some cell
    → (n m : ℕ) → IsWrittenAlike (naming_of (with_logic L table names f) prefix) (naming_of L prefix) n m cell
alike L table names f prefix can i cell at n m = record {
  library = refl;
  name = name cell.name refl;
  feeds = map_same (operand_of (naming_of (with_logic L table names f) prefix)) (operand_of (naming_of L prefix)) cell.feeds feed;
  output = λ net out. own_bit L table names f prefix can net (can.laid.outputs i cell net.0 (record { live = at; output = out }));
}
  where
    name : (o : Option Name) → cell.name ≡ o
        → option_map (cell_text (naming_of (with_logic L table names f) prefix) n) o ≡ option_map (cell_text (naming_of L prefix) m) o
    name None e = refl
    name (Some (Original number)) e =
        let own = can.cells i cell (Original number) at e in
        let same = (wider L.names table prefix can.kept number own.0).1 in rw same refl
    name (Some (Added number)) e = absurd (can.cells i cell (Added number) at e)

    feed : (k : ℕ) (one : Feed) → slice_get cell.feeds k ≡ Some one → operand_of (naming_of (with_logic L table names f) prefix) one ≡ operand_of (naming_of L prefix) one
    feed k (Net net) there =
        let same = own_bit L table names f prefix can net (can.laid.operands i cell k net.0 (record { live = at; operand = there })) in rw same refl
    feed k (Const value) there = refl

pub all_told : (L : LinkedView) (table : List (List ℕ)) (names : TapNames) (f : Fitted) (prefix : List ℕ) → CanBeTold L table names f prefix
    → AreTold (naming_of (with_logic L table names f) prefix) (naming_of L prefix) (pairs_of (boundary_at L.arena.lists f)) (boundary_at L.arena.lists f) L.arena.lists.cells
all_told L table names f prefix can i cell at =
    (cell_undone (boundary_at L.arena.lists f) cell (can.undone i cell at), alike L table names f prefix can i cell at)

-- Ports and wires.

pub ports_told : (L : LinkedView) (table : List (List ℕ)) (names : TapNames) (f : Fitted) (prefix : List ℕ) → CanBeTold L table names f prefix → (taps : List PortView) → length taps ≡ 5
    → take (length (map (port_of table) (L.arena.lists.ports ++ taps)) - 5) (map (port_of table) (L.arena.lists.ports ++ taps)) ≡ map (port_of L.names) L.arena.lists.ports
ports_told L table names f prefix can taps five =
    let N : NetlistView = L.arena.lists in
    let split = map-append (port_of table) N.ports taps in
    let count = length-append (map (port_of table) N.ports) (map (port_of table) taps) in
    let mapped = length-map taps (port_of table) in
    let left : length (map (port_of table) N.ports ++ map (port_of table) taps) - 5 ≡ length (map (port_of table) N.ports) = omega (arith, count, mapped, five) in
    let front = front_of (map (port_of table) N.ports) (map (port_of table) taps) (length (map (port_of table) N.ports)) refl in
    ap (λ (ports : List Port). take (length ports - 5) ports) split
    ∙ ap (λ (n : ℕ). take n (map (port_of table) N.ports ++ map (port_of table) taps)) left
    ∙ front
    ∙ map_same (port_of table) (port_of L.names) N.ports (λ k port at. same k port port.name refl (can.ports k port at))
  where
    same : (k : ℕ) (port : PortView) (name : Name) → port.name ≡ name → IsOwn L.names prefix name → port_of table port ≡ port_of L.names port
    same k port (Original number) e own =
        let is = (wider L.names table prefix can.kept number own.0).1 in rw (e, is) refl
    same k port (Added number) e own = absurd own

any_front : {X : Type 0} (p : X → Bool) (xs ys : List X) → list_any p ys ≡ false → list_any p (xs ++ ys) ≡ list_any p xs
any_front p [] ys none = none
any_front p (x ∷ xs) ys none = ap (λ (b : Bool). p x || b) (any_front p xs ys none)

any_back : {X : Type 0} (p : X → Bool) (xs ys : List X) → list_any p ys ≡ true → list_any p (xs ++ ys) ≡ true
any_back p [] ys some = some
any_back p (x ∷ xs) ys some = or_more (p x) (list_any p (xs ++ ys)) (any_back p xs ys some)

not_original : (number : ℕ) (name : Name) → (Original number ≡ name → ⊥) → is_original number name ≡ false
not_original number (Original other) apart = ne_eqb other number (λ same. apart (ap (λ (n : ℕ). Original n) (sym same)))
not_original number (Added other) apart = refl

-- a row of the core is the same with the ports of the test access port
own_row : (L : LinkedView) (table : List (List ℕ)) (names : TapNames) (f : Fitted) (prefix : List ℕ) → CanBeTold L table names f prefix → (port : TapPort) (k : ℕ) (view : NetView)
    → slice_get L.arena.lists.nets k ≡ Some view → row_of (L.arena.lists.ports ++ tap_ports names port) view ≡ row_of L.arena.lists.ports view
own_row L table names f prefix can port k view at = by view.name refl
  where
    apart : (number : ℕ) → view.name ≡ Original number → (name : Name) → IsNewTap L.arena.lists table prefix name → is_original number name ≡ false
    apart number e name tap = not_original number name (λ same. tap.new k view at (e ∙ same))

    by : (name : Name) → view.name ≡ name → row_of (L.arena.lists.ports ++ tap_ports names port) view ≡ row_of L.arena.lists.ports view
    by (Added number) e = rw e refl
    by (Original number) e =
        let a = apart number e names.tck can.tck in
        let b = apart number e names.tms can.tms in
        let c = apart number e names.tdi can.tdi in
        let d = apart number e names.tdo can.tdo in
        let g = apart number e names.trst can.trst in
        let none : list_any (λ (p : PortView). is_original number p.name) (tap_ports names port) ≡ false = rw (a, b, c, d, g) refl in
        let same : has_port_name (L.arena.lists.ports ++ tap_ports names port) number ≡ has_port_name L.arena.lists.ports number =
        any_front (λ (p : PortView). is_original number p.name) L.arena.lists.ports (tap_ports names port) none in
        rw (e, same) refl

-- the nets of the test access port and added nets are no rows
no_row : (L : LinkedView) (table : List (List ℕ)) (names : TapNames) (f : Fitted) (prefix : List ℕ) → CanBeTold L table names f prefix → (port : TapPort) (k : ℕ) (view : NetView)
    → slice_get (behind_nets L.arena.lists names f) k ≡ Some view → row_of (L.arena.lists.ports ++ tap_ports names port) view ≡ None
no_row L table names f prefix can port k view at = by k at
  where
    inside : (a b : NetView) → ◌≡◌ {A = Option NetView} (Some a) (Some b) → a ≡ b
    inside a b h = cc

    named : (name : Name) (dir : Dir) (net : NetId) (j : ℕ) → IsOwn table prefix name → slice_get (tap_ports names port) j ≡ Some (scalar name dir net)
        → ◌≡◌ {A = Option NetView} (Some (record { name = name; index = None })) (Some view) → row_of (L.arena.lists.ports ++ tap_ports names port) view ≡ None
    named (Original number) dir net j own there e =
        let some : list_any (λ (p : PortView). is_original number p.name) (tap_ports names port) ≡ true =
        any_at (λ (p : PortView). is_original number p.name) (tap_ports names port) j (scalar (Original number) dir net) there (eq-eqb number number refl) in
        let has : has_port_name (L.arena.lists.ports ++ tap_ports names port) number ≡ true =
        any_back (λ (p : PortView). is_original number p.name) L.arena.lists.ports (tap_ports names port) some in
        let is = inside (record { name = Original number; index = None }) view e in rw (← is) (rw has refl)
    named (Added number) dir net j own there e = absurd own

    added_row : (j : ℕ) (first count : ℕ) → slice_get (added_nets first count) j ≡ Some view → row_of (L.arena.lists.ports ++ tap_ports names port) view ≡ None
    added_row j first zero there = absurd (cc)
    added_row zero first (suc count) there =
        let is = inside (record { name = Added first; index = None }) view there in rw (← is) refl
    added_row (suc j) first (suc count) there = added_row j (suc first) count there

    by : (k : ℕ) → slice_get (behind_nets L.arena.lists names f) k ≡ Some view → row_of (L.arena.lists.ports ++ tap_ports names port) view ≡ None
    by zero there = named names.tck _ port.tck 0 can.tck.own refl there
    by (suc zero) there = named names.tms _ port.tms 1 can.tms.own refl there
    by (suc (suc zero)) there = named names.tdi _ port.tdi 2 can.tdi.own refl there
    by (suc (suc (suc zero))) there = named names.tdo _ port.tdo 3 can.tdo.own refl there
    by (suc (suc (suc (suc zero)))) there = named names.trst _ port.trst 4 can.trst.own refl there
    by (suc (suc (suc (suc (suc k))))) there = added_row k (boundary_at L.arena.lists f).first (sides_of L.arena.lists.ports f.rows + test_logic_nets (boundary_at L.arena.lists f) f) there

pub all_wires : (L : LinkedView) (table : List (List ℕ)) (names : TapNames) (f : Fitted) (prefix : List ℕ) → CanBeTold L table names f prefix → (port : TapPort)
    → filter (is_own_wire prefix) (map (wire_of table) (rows (L.arena.lists.ports ++ tap_ports names port) (L.arena.lists.nets ++ behind_nets L.arena.lists names f))
    ++ added_from prefix 0 (L.arena.lists.nets ++ behind_nets L.arena.lists names f))
    ≡ map (wire_of L.names) (rows L.arena.lists.ports L.arena.lists.nets) ++ added_from prefix 0 L.arena.lists.nets
all_wires L table names f prefix can port =
    wires_told table L.names prefix L.arena.lists.ports (tap_ports names port) L.arena.lists.nets (behind_nets L.arena.lists names f)
    (λ k view number at e. kept number view.name e (can.nets k view at)) (λ k view at. originals view view.name refl (can.nets k view at)) (own_row L table names f prefix can port) (no_row L table names f prefix can port)
  where
    kept : (number : ℕ) (name : Name) → name ≡ Original number → IsOwn L.names prefix name → IsKept table L.names prefix number
    kept number (Original other) e own =
        let same : other ≡ number = cc in
        let w = wider L.names table prefix can.kept other own.0 in
        rw (← same) (w.1, (wider_own L.names table prefix can.kept (Original other) own).1)
    kept number (Added other) e own = absurd own

    originals : (view : NetView) (name : Name) → view.name ≡ name → IsOwn L.names prefix name → (place : ℕ) × (view.name ≡ Original place)
    originals view (Original number) e own = (number, e)
    originals view (Added number) e own = absurd own
