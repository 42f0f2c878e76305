-- The hidden ports of a linked netlist, and those of the opened module.
use Rattle.std.proofs.Common.{◌≡◌, ◌≢◌, ℕ, zero, suc, ◌+◌, ◌-◌, ◌<◌, ◌≤◌, ◌&&◌, Bool, true, false, List, [], ◌∷◌, ◌++◌, length, drop, take, refl, ap, sym, ◌∙◌, Option, Some, None, arith, leb-true, ltb-true, length-append, length-take, length-drop}
use Rattle.std.specs.Prelude.{slice_get, nat_le, nat_lt}
use Rattle.std.specs.List.{AllByRecursion, flat_map, filter_map, cons_option}
use Rattle.std.specs.Option.{option_map, option_map_or}
use Rattle.std.proofs.lemmas.Option.{same_Some}
use Rattle.list_laws.specs.Options.{first_in}
use Rattle.list_laws.proofs.Lists.{AreAll-length, AreAll-right, all_append, all_at, slice_get-append_left, slice_get-append_right}
use Rattle.cell_library.specs.declared.listed.ListedCell.{ListedCell}
use Rattle.verilog_tree.specs.declared.tree.Module.{Module}
use Rattle.verilog_tree.specs.declared.tree.Port.{Port}
use Rattle.verilog_tree.specs.declared.tree.Instance.{Instance}
use Rattle.verilog_tree.specs.declared.tree.Item.{Item}
use Rattle.verilog_tree.specs.declared.tree.Item.TheVariants as item
use Rattle.verilog_tree.specs.declared.tree.Operand.{Operand}
use Rattle.verilog_tree.specs.declared.tree.Dir as tree
use Rattle.verilog_tree.specs.declared.tree.Dir.TheVariants as side
use Rattle.netlist_model.specs.declared.Dir.TheVariants.{Inout}
use Rattle.netlist_model.specs.Lists.{PortView}
use Rattle.link_model.specs.Nets.{dir_of, width}
use Rattle.link_model.specs.Denoted.{IsPort, NamedPort, ports_from}
use Rattle.link_model.specs.Faults.{cells_in, is_driven_by_bufif}
use Rattle.netlist_link.specs.declared.straight.Straight.{Straight}
use Rattle.netlist_link.specs.Linked.{LinkedView, is_straight}
use Rattle.netlist_link.specs.Links.{IsLinkOf}
use Rattle.box_model.specs.declared.boxes.BoxLibrary.{BoxLibrary}
use Rattle.box_model.specs.declared.boxes.BoxPort.{BoxPort}
use Rattle.box_model.specs.declared.boxes.BoxDir.{BoxDir}
use Rattle.box_model.specs.declared.boxes.BoxDir.TheVariants.{Takes, Gives}
use Rattle.box_model.specs.Ports.{cut_ports, hidden_dir, hidden_port, linked_to}
use Rattle.box_model.specs.Opened.{opened, hidden_at, item_ports, hidden_ports}
use Rattle.box_links.specs.BoxFaults.{denoted_hidden, first_output_bit, is_three_state_net, tristate_bit}
use Rattle.box_links.specs.BoxLinks.{HidesPorts}
use Rattle.box_links.specs.ThreeState.{first_hidden, has_gate, output_bit}
use Rattle.box_links.proofs.Firsts.{first_same}
use Rattle.box_links.proofs.Named.{all_dropped, all_taken, first_named, gates_named, named_same}
use Rattle.box_links.proofs.OutputBits.{output_same}

-- Sides.

hidden_side : (d : BoxDir) → hidden_dir d ≢ side.Inout
hidden_side Takes e = cc
hidden_side Gives e = cc

abbrev IsSided : Port → Type 0
IsSided p = p.dir ≢ side.Inout

sided_ports : (i : Instance) (ports : List BoxPort) → AllByRecursion IsSided (filter_map (hidden_at i) ports)
sided_ports i [] = tt
sided_ports i (p ∷ ports) = by (linked_to i.links p.name) (sided_ports i ports)
  where
    by : (o : Option Operand) → AllByRecursion IsSided (filter_map (hidden_at i) ports) → AllByRecursion IsSided (cons_option (option_map (λ (o : Operand). hidden_port i p) o) (filter_map (hidden_at i) ports))
    by None rest = rest
    by (Some o) rest = (hidden_side p.dir, rest)

sided_items : (B : BoxLibrary) (items : List Item) → AllByRecursion IsSided (flat_map (item_ports B) items)
sided_items B [] = tt
sided_items B (item.Gate g ∷ items) = sided_items B items
sided_items B (item.Assign output input ∷ items) = sided_items B items
sided_items B (item.Instance i ∷ items) = all_append IsSided (item_ports B (item.Instance i)) (flat_map (item_ports B) items) (by (cut_ports B i)) (sided_items B items)
  where
    by : (o : Option (List BoxPort)) → AllByRecursion IsSided (option_map_or (filter_map (hidden_at i)) o [])
    by None = tt
    by (Some ports) = sided_ports i ports

-- the port of a tree that a named port is
named_port_at : (first : ℕ) (ports : List Port) (number : ℕ) (named : NamedPort) → slice_get (ports_from first ports) number ≡ Some named → (p : Port) × (slice_get ports number ≡ Some p) × (named.dir ≡ dir_of p.dir)
named_port_at first [] number named at = absurd (cc)
named_port_at first (p ∷ ports) zero named at = (p, refl, ap (λ (n : NamedPort). n.dir) (sym (same_Some _ named at)))
named_port_at first (p ∷ ports) (suc number) named at = named_port_at (first + width p.range) ports number named at

no_inout : (d : tree.Dir) → d ≢ side.Inout → dir_of d ≢ Inout
no_inout side.Input other e = cc
no_inout side.Output other e = cc
no_inout side.Inout other e = other refl

-- the ports behind the first so many are the hidden ones
hidden_port_at : (own hidden : List Port) (k place : ℕ) (p : Port) → k ≤ length own → place < length hidden → slice_get (take k own ++ (hidden ++ drop k own)) (k + place) ≡ Some p → slice_get hidden place ≡ Some p
hidden_port_at own hidden k place p few less at =
    let long = length-take k own in
    let front : k + place ≡ length (take k own) + place = omega (arith, long, few) in
    sym (slice_get-append_left hidden (drop k own) place less) ∙ sym (slice_get-append_right (take k own) (hidden ++ drop k own) (k + place) place front) ∙ at

-- the place of a hidden port among them
pub record IsPlaceOf (first count number : ℕ) : Type 0 where
  pub place : ℕ
  pub less : place < count
  pub is : number ≡ first + place

pub place_of : (first count number : ℕ) → (nat_le first number && nat_lt number (first + count)) ≡ true → IsPlaceOf first count number
place_of first count number hidden = by (nat_le first number) refl (nat_lt number (first + count)) refl hidden
  where
    by : (a : Bool) → nat_le first number ≡ a → (b : Bool) → nat_lt number (first + count) ≡ b → (a && b) ≡ true → IsPlaceOf first count number
    by true e true f both =
        let low = leb-true first number e in
        let high = ltb-true number (first + count) f in
        record { place = number - first; less = omega (arith, low, high); is = omega (arith, low) }
    by true e false f both = absurd (cc)
    by false e b f both = absurd (cc)

-- no hidden port is an inout
pub hidden_sides : (B : BoxLibrary) (k : ℕ) (m : Module) (L : LinkedView) → IsLinkOf (opened B k m) L → k ≤ length m.ports → HidesPorts k (length (hidden_ports B m)) L
    → (number : ℕ) (port : PortView) → is_straight L number ≡ true → slice_get L.arena.lists.ports number ≡ Some port → port.dir ≢ Inout
hidden_sides B k m L links few hides number port hidden at =
    let straight : (nat_le k number && nat_lt number (k + length (hidden_ports B m))) ≡ true = ap (λ (s : Straight). nat_le s.first number && nat_lt number (s.first + s.count)) (sym hides.straight) ∙ hidden in
    let place = place_of k (length (hidden_ports B m)) number straight in
    let named = AreAll-right (IsPort L.names) L.arena.lists.ports (ports_from 0 (opened B k m).ports) number port links.denoted.ports at in
    let own = named_port_at 0 (opened B k m).ports number named.0 named.1 in
    let there : slice_get (opened B k m).ports (k + place.place) ≡ Some own.0 = ap (λ (n : ℕ). slice_get (opened B k m).ports n) (sym place.is) ∙ own.1 in
    let among : slice_get (hidden_ports B m) place.place ≡ Some own.0 = hidden_port_at m.ports (hidden_ports B m) k place.place own.0 few place.less there in
    let sided : IsSided own.0 = all_at IsSided (hidden_ports B m) place.place own.0 (sided_items B m.items) among in
    let other = no_inout own.0.dir sided in
    λ e. other (sym own.2 ∙ sym named.2.dir ∙ e)

-- Bits.

-- the first bit of a hidden output that a three-state gate drives is the one that the opened module has
pub first_hidden_is : (B : BoxLibrary) (k : ℕ) (m : Module) (L : LinkedView) → IsLinkOf (opened B k m) L → L.arena.lists.library ≡ B.cells → HidesPorts k (length (hidden_ports B m)) L
    → first_hidden L (has_gate L.arena.lists.cells) ≡ tristate_bit B k m
first_hidden_is B k m L links library hides =
    let count : ℕ = length (hidden_ports B m) in
    let test : ℕ → Bool = has_gate L.arena.lists.cells in
    let named_ports : List NamedPort = ports_from 0 (opened B k m).ports in
    let same_test : (net : ℕ) → test net ≡ is_three_state_net B k m net = λ net.
    gates_named L.names L.arena.lists (cells_in L.arena.lists.library (opened B k m)) links.denoted.cells net
    ∙ ap (λ (l : List ListedCell). is_driven_by_bufif (cells_in l (opened B k m)) net) library in
    ap (λ (s : Straight). first_in (output_bit L.names test) (take s.count (drop s.first L.arena.lists.ports))) hides.straight
    ∙ first_named (IsPort L.names) (output_bit L.names test) (first_output_bit test) (λ port named is. ap (first_output_bit test) (named_same L.names port named is))
    (take count (drop k L.arena.lists.ports)) (take count (drop k named_ports))
    (all_taken (IsPort L.names) (drop k L.arena.lists.ports) (drop k named_ports) count (all_dropped (IsPort L.names) L.arena.lists.ports named_ports k links.denoted.ports))
    ∙ first_same (first_output_bit test) (first_output_bit (is_three_state_net B k m)) (output_same test (is_three_state_net B k m) same_test) (denoted_hidden B k m)

-- as many ports
pub ports_long : (first : ℕ) (ports : List Port) → length (ports_from first ports) ≡ length ports
ports_long first [] = refl
ports_long first (p ∷ ports) = ap suc (ports_long (first + width p.range) ports)

pub linked_long : (m : Module) (L : LinkedView) → IsLinkOf m L → length L.arena.lists.ports ≡ length m.ports
linked_long m L links = AreAll-length (IsPort L.names) L.arena.lists.ports (ports_from 0 m.ports) links.denoted.ports ∙ ports_long 0 m.ports

pub opened_long : (B : BoxLibrary) (k : ℕ) (m : Module) → length (opened B k m).ports ≡ length m.ports + length (hidden_ports B m)
opened_long B k m =
    let all = length-append (take k m.ports) (hidden_ports B m ++ drop k m.ports) in
    let rest = length-append (hidden_ports B m) (drop k m.ports) in
    let front = length-take k m.ports in
    let back = length-drop k m.ports in
    omega (arith, all, rest, front, back)
