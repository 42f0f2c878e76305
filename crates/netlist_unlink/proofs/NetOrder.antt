-- Each net of a linked netlist stands in the order of nets.
use Rattle.std.proofs.Common.{◌≡◌, ℕ, zero, suc, ◌+◌, ◌<◌, Bool, true, List, [], ◌∷◌, ◌++◌, length, map, refl, ap, sym, ◌∙◌, subst, inl, inr, Option, Some, None, arith}
use Rattle.std.specs.Prelude.{slice_get}
use Rattle.std.specs.Option.{option_map}
use Rattle.std.proofs.lemmas.Option.{same_Some, slice_get-map, slice_get_within}
use Rattle.netlist_model.specs.declared.Dir.{Dir}
use Rattle.netlist_model.specs.declared.Name.{Name}
use Rattle.netlist_model.specs.declared.Name.TheVariants.{Original, Added}
use Rattle.netlist_model.specs.declared.NetId.{NetId}
use Rattle.netlist_model.specs.Lists.{PortView, NetView, NetlistView, bit_net, direction}
use Rattle.netlist_model.specs.Formed.{IsLaidOut}
use Rattle.netlist_model.proofs.Ports.{direction_has_bit}
use Rattle.link_model.specs.Denoted.{net_id}
use Rattle.netlist_unlink.specs.Renumbered.{added_test, net_order, numbers_from, port_numbers, wire_test}
use Rattle.netlist_unlink.proofs.Members.{IsIn, in_left, in_right, joined_source, mapped_source, number_in, number_source}

-- a net of a port bit
pub record IsPortBit (ports : List PortView) (number : ℕ) : Type 0 where
  pub p : ℕ
  pub port : PortView
  pub there : slice_get ports p ≡ Some port
  pub bit : ℕ
  pub net : NetId
  pub at : slice_get port.nets bit ≡ Some net
  pub is : net.0 ≡ number

abbrev pub net_number : NetId → ℕ
net_number net = net.0

pub port_source : (ports : List PortView) (k number : ℕ) → slice_get (port_numbers ports) k ≡ Some number → IsPortBit ports number
port_source [] k number at = absurd (cc)
port_source (port ∷ ports) k number at =
    elim (joined_source (map net_number port.nets) (port_numbers ports) k number at) [
      | inl here ↦
          let from = mapped_source net_number port.nets here.0 number here.1 in
          record { p = 0; port = port; there = refl; bit = here.0; net = from.from; at = from.there; is = from.is }
      | inr there ↦
          let rest = port_source ports there.0 number there.1 in
          record { p = suc rest.p; port = rest.port; there = rest.there; bit = rest.bit; net = rest.net; at = rest.at; is = rest.is }
    ]

pub port_in : (ports : List PortView) (p bit : ℕ) (port : PortView) (net : NetId) → slice_get ports p ≡ Some port → slice_get port.nets bit ≡ Some net → IsIn net.0 (port_numbers ports)
port_in [] p bit port net there at = absurd (cc)
port_in (x ∷ ports) zero bit port net there at =
    let same : x ≡ port = same_Some x port there in
    let here : slice_get x.nets bit ≡ Some net = ap (λ (v : PortView). slice_get v.nets bit) same ∙ at in
    in_left (map net_number x.nets) (port_numbers ports) bit net.0 (slice_get-map net_number x.nets bit ∙ ap (option_map net_number) here)
port_in (x ∷ ports) (suc p) bit port net there at =
    let rest = port_in ports p bit port net there at in in_right (map net_number x.nets) (port_numbers ports) rest.0 net.0 rest.1

-- each net
pub net_in_order : (N : NetlistView) (net : ℕ) (view : NetView) → slice_get N.nets net ≡ Some view → IsIn net (net_order N)
net_in_order N net view at = by_direction (direction N.ports net) refl
  where
    ports : List ℕ
    ports = port_numbers N.ports

    wires : List ℕ
    wires = numbers_from (wire_test N.ports) 0 N.nets

    added : List ℕ
    added = numbers_from added_test 0 N.nets

    in_wires : IsIn net wires → IsIn net (ports ++ wires ++ added)
    in_wires here = let one = in_right ports wires here.0 net here.1 in in_left (ports ++ wires) added one.0 net one.1

    by_name : (name : Name) → view.name ≡ name → direction N.ports net ≡ None → IsIn net (ports ++ wires ++ added)
    by_name (Original number) is outside =
        let same : 0 + net ≡ net = omega arith in
        let P : ℕ → Type 0 = λ n. IsIn n wires in
        let D : ℕ → Type 0 = λ n. wire_test N.ports n view ≡ true in
        let passes : wire_test N.ports net view ≡ true = rw (outside, is) refl in
        in_wires (subst P same (number_in (wire_test N.ports) 0 N.nets net view at (subst D (sym same) passes)))
    by_name (Added number) is outside =
        let same : 0 + net ≡ net = omega arith in
        let P : ℕ → Type 0 = λ n. IsIn n added in
        let passes : added_test (0 + net) view ≡ true = rw is refl in
        let here = subst P same (number_in added_test 0 N.nets net view at passes) in
        in_right (ports ++ wires) added here.0 net here.1

    by_direction : (found : Option Dir) → direction N.ports net ≡ found → IsIn net (ports ++ wires ++ added)
    by_direction None is = by_name view.name refl is
    by_direction (Some dir) is =
        let b = direction_has_bit N dir (net_id net) is in
        let here = port_in N.ports b.number b.bit b.port (net_id net) b.stands b.has in
        let one = in_left ports wires here.0 net here.1 in
        in_left (ports ++ wires) added one.0 net one.1

-- and no other number
pub order_below : (N : NetlistView) (k number : ℕ) → IsLaidOut N → slice_get (net_order N) k ≡ Some number → number < length N.nets
order_below N k number laid at =
    elim (joined_source (port_numbers N.ports ++ numbers_from (wire_test N.ports) 0 N.nets) (numbers_from added_test 0 N.nets) k number at) [
      | inr there ↦ counted added_test there.0 there.1
      | inl here ↦ elim (joined_source (port_numbers N.ports) (numbers_from (wire_test N.ports) 0 N.nets) here.0 number here.1) [
        | inr there ↦ counted (wire_test N.ports) there.0 there.1
        | inl port ↦
            let b = port_source N.ports port.0 number port.1 in
            let has : bit_net N b.p b.bit ≡ Some b.net = rw b.there b.at in
            let less = laid.port_nets b.p b.bit b.net has in
            let is = b.is in
            omega arith
      ]
    ]
  where
    counted : (test : ℕ → NetView → Bool) (j : ℕ) → slice_get (numbers_from test 0 N.nets) j ≡ Some number → number < length N.nets
    counted test j here =
        let from = number_source test 0 N.nets j number here in
        let less = slice_get_within N.nets from.k from.view from.there in
        let is = from.is in
        omega arith
