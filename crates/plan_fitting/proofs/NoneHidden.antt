-- Where nothing is hidden the hidden ports are as plans want them, each port is the netlist's own, and so is each name and bit.
use Rattle.std.proofs.Common.{◌≡◌, ℕ, ◌+◌, ◌<◌, ◌≤◌, Bool, true, false, List, [], ◌∷◌, map, length, drop, take, filter_map, flat_map, if◌then◌else◌, None, refl, ap, ◌∙◌, arith, ltb-true, leb-true, take_all}
use Rattle.std.specs.Prelude.{nat_eq}
use Rattle.std.specs.List.{list_any, cons_option, enumerate_from}
use Rattle.std.proofs.lemmas.Bool.{and_parts}
use Rattle.std.proofs.lemmas.Option.{slice_get_within}
use Rattle.link_model.specs.Denoted.{name_bytes}
use Rattle.netlist_model.specs.declared.NetId.{NetId}
use Rattle.netlist_model.specs.declared.PinBit.{PinBit}
use Rattle.netlist_model.specs.Lists.{PortView, NetView, NetlistView}
use Rattle.netlist_unlink.specs.netlist_link.declared.straight.Straight.{Straight}
use Rattle.netlist_unlink.specs.netlist_link.Linked.{LinkedView, HidesNone, is_straight, own_ports, hidden_ports}
use Rattle.netlist_unlink.specs.netlist_link.Hidden.{AreStraight, EndsHidden}
use Rattle.netlist_unlink.specs.netlist_link.PinWords.{IsPinWord}
use Rattle.netlist_unlink.specs.netlist_link.PinWords.IsPinWord.{scalar, vector}
use Rattle.plan_fitting.specs.Pins.{NamesBit}
use Rattle.plan_fitting.specs.Names.{port_names, is_hidden_net, own_net_name, net_names, hidden_net_name, hidden_names, HasOpenNames, bits_of_port, port_bits}

-- Ports.

pub first_is : (L : LinkedView) → HidesNone L → L.straight.first ≡ length L.arena.lists.ports
first_is L none = ap (λ (s : Straight). s.first) none.straight

count_is : (L : LinkedView) → HidesNone L → L.straight.count ≡ 0
count_is L none = ap (λ (s : Straight). s.count) none.straight

-- no port is hidden
pub not_straight : (L : LinkedView) → HidesNone L → (number : ℕ) → is_straight L number ≡ true → ⊥
not_straight L none number hidden =
    let both = and_parts _ _ hidden in
    let from : L.straight.first ≤ number = leb-true _ _ both.0 in
    let below : number < L.straight.first + L.straight.count = ltb-true _ _ both.1 in
    absurd (omega (arith, from, below, count_is L none))

pub none_straight : (L : LinkedView) → HidesNone L → AreStraight L
none_straight L none number bit port net hidden there at = absurd (not_straight L none number hidden)

pub none_open : (L : LinkedView) → HidesNone L → HasOpenNames L
none_open L none number port front hidden there named = not_straight L none number hidden

pub none_ends : (L : LinkedView) → HidesNone L → EndsHidden L
none_ends L none = omega (arith, first_is L none, count_is L none)

pub all_own : (L : LinkedView) → HidesNone L → own_ports L ≡ L.arena.lists.ports
all_own L none = take_all _ L.arena.lists.ports (omega (arith, first_is L none))

-- Names and bits.

inside : (table : List (List ℕ)) (N : NetlistView) (word : List ℕ) (pin : PinBit) → IsPinWord table N word pin → pin.port.0 < length N.ports
inside table N word _ (scalar {number = number} s) = slice_get_within N.ports number s.port s.named.there
inside table N word _ (vector {number = number} {bit = bit} other v) = slice_get_within N.ports number v.of.indexed.port v.of.indexed.there

-- each word that names a bit names one for plans
pub all_named : (L : LinkedView) → HidesNone L → (word : List ℕ) (pin : PinBit) → IsPinWord L.names L.arena.lists word pin → NamesBit L word pin
all_named L none word pin named = (named, let low = inside L.names L.arena.lists word pin named in omega (arith, low, first_is L none))

pub all_port_names : (L : LinkedView) → HidesNone L → port_names L ≡ filter_map (λ (p : PortView). name_bytes L.names p.name) L.arena.lists.ports
all_port_names L none = ap (λ (ports : List PortView). filter_map (λ (p : PortView). name_bytes L.names p.name) ports) (all_own L none)

pub all_port_bits : (L : LinkedView) → HidesNone L → port_bits L ≡ flat_map (bits_of_port L) (enumerate_from 0 L.arena.lists.ports)
all_port_bits L none = ap (λ (ports : List PortView). flat_map (bits_of_port L) (enumerate_from 0 ports)) (all_own L none)

not_hidden : (L : LinkedView) → HidesNone L → (net : ℕ) → is_hidden_net L net ≡ false
not_hidden L none net =
    let ports : hidden_ports L ≡ [] = ap (λ (n : ℕ). take n (drop L.straight.first L.arena.lists.ports)) (count_is L none) in
    ap (λ (ps : List PortView). list_any (nat_eq net) (flat_map (λ (port : PortView). map (λ (n : NetId). n.0) port.nets) ps)) ports

pub all_net_names : (L : LinkedView) → HidesNone L → net_names L ≡ filter_map (λ (n : NetView). name_bytes L.names n.name) L.arena.lists.nets
all_net_names L none = from 0 L.arena.lists.nets
  where
    from : (number : ℕ) (nets : List NetView) → filter_map (own_net_name L) (enumerate_from number nets) ≡ filter_map (λ (n : NetView). name_bytes L.names n.name) nets
    from number [] = refl
    from number (view ∷ nets) =
        ap (λ (b : Bool). cons_option (if b then None else name_bytes L.names view.name) (filter_map (own_net_name L) (enumerate_from (number + 1) nets))) (not_hidden L none number)
        ∙ ap (cons_option (name_bytes L.names view.name)) (from (number + 1) nets)

pub no_hidden_names : (L : LinkedView) → HidesNone L → hidden_names L ≡ []
no_hidden_names L none = from 0 L.arena.lists.nets
  where
    from : (number : ℕ) (nets : List NetView) → filter_map (hidden_net_name L) (enumerate_from number nets) ≡ []
    from number [] = refl
    from number (view ∷ nets) =
        ap (λ (b : Bool). cons_option (if b then name_bytes L.names view.name else None) (filter_map (hidden_net_name L) (enumerate_from (number + 1) nets))) (not_hidden L none number)
        ∙ from (number + 1) nets
