-- The index of a net has at most nine digits.
use Rattle.std.proofs.Common.{◌≡◌, ℕ, suc, ◌+◌, ◌-◌, ◌<◌, ◌≤◌, Bool, true, false, List, [], ◌∷◌, refl, sym, ◌∙◌, arith, subst, Option, Some, None, ◌==◌}
use Rattle.std.specs.Prelude.{slice_get, IfSome, nat_le}
use Rattle.std.proofs.lemmas.Option.{slice_get_within}
use Rattle.verilog_tree.specs.IsTree.{IsTreeNumber}
use Rattle.netlist_model.specs.declared.Dir.{Dir}
use Rattle.netlist_model.specs.declared.Name.{Name}
use Rattle.netlist_model.specs.declared.Name.TheVariants.{Original, Added}
use Rattle.netlist_model.specs.declared.NetId.{NetId}
use Rattle.netlist_model.specs.declared.Range.{Range}
use Rattle.netlist_model.specs.Lists.{PortView, NetView, NetlistView, direction, is_among}
use Rattle.netlist_model.specs.Formed.{IsLaidOut, width_of}
use Rattle.netlist_link.specs.WellNamed.{IsShortRange, IsWellNamed, index_from}

-- an index of a range
range_index : (range : Range) (place : ℕ) → IsShortRange range → place < width_of (Some range) → IfSome (index_from (Some range) place) IsTreeNumber
range_index range place short within = go (nat_le range.left range.right) refl
  where
    go : (b : Bool) → nat_le range.left range.right ≡ b → IfSome (index_from (Some range) place) IsTreeNumber
    go true e = let left = short.left in let right = short.right in let order : range.left ≤ range.right = grind arith in rw e (omega arith)
    go false e = let left = short.left in rw e (omega arith)

index_fits : (range : Option Range) (place : ℕ) → IfSome range IsShortRange → place < width_of range → IfSome (index_from range place) IsTreeNumber
index_fits None place short within = tt
index_fits (Some range) place short within = range_index range place short within

-- a net among those of a port
pub record IsBit (nets : List NetId) (net : ℕ) : Type 0 where
  pub bit : ℕ
  pub id : NetId
  pub at : slice_get nets bit ≡ Some id
  pub is : id.0 ≡ net

among_bit : (nets : List NetId) (net : ℕ) → is_among net nets ≡ true → IsBit nets net
among_bit [] net among = absurd (cc)
among_bit (n ∷ nets) net among = go (n.0 == net) refl (λ later. among_bit nets net later)
  where
    go : (b : Bool) → (n.0 == net) ≡ b → (is_among net nets ≡ true → IsBit nets net) → IsBit (n ∷ nets) net
    go true e more = record { bit = 0; id = n; at = refl; is = grind arith }
    go false e more = let rest = more (rw e at among) in record { bit = suc rest.bit; id = rest.id; at = rest.at; is = rest.is }

-- a net that stands in a port bit
pub record IsPortNet (ports : List PortView) (net : ℕ) : Type 0 where
  pub p : ℕ
  pub port : PortView
  pub there : slice_get ports p ≡ Some port
  pub in_port : IsBit port.nets net

port_net : (ports : List PortView) (net : ℕ) (dir : Dir) → direction ports net ≡ Some dir → IsPortNet ports net
port_net [] net dir found = absurd (cc)
port_net (port ∷ ports) net dir found = go (is_among net port.nets) refl (λ later. port_net ports net dir later)
  where
    go : (b : Bool) → is_among net port.nets ≡ b → (direction ports net ≡ Some dir → IsPortNet ports net) → IsPortNet (port ∷ ports) net
    go true e more = record { p = 0; port = port; there = refl; in_port = among_bit port.nets net e }
    go false e more = let rest = more (rw e at found) in record { p = suc rest.p; port = rest.port; there = rest.there; in_port = rest.in_port }

pub index_short : (table : List (List ℕ)) (N : NetlistView) (net : ℕ) (view : NetView) → IsWellNamed table N → IsLaidOut N → slice_get N.nets net ≡ Some view → IfSome view.index IsTreeNumber
index_short table N net view named laid at = by_direction (direction N.ports net) refl
  where
    by_name : (name : Name) → view.name ≡ name → direction N.ports net ≡ None → IfSome view.index IsTreeNumber
    by_name (Original number) is outside =
        let w = named.wires net number (record { view = view; there = at; outside = outside; named = is }) in
        let within = w.wire.only net (record { view = view; there = at; outside = outside; named = is }) in
        let low = within.0 in
        let high = within.1 in
        let place : w.first + (net - w.first) ≡ net = omega arith in
        let bit = w.wire.bits (net - w.first) (omega arith) in
        let V : ℕ → Type 0 = λ k. slice_get N.nets k ≡ Some (record { name = Original number; index = index_from w.range (net - w.first) }) in
        let here = subst V place bit in
        let same : view.index ≡ index_from w.range (net - w.first) = let both : Some view ≡ Some (record { name = Original number; index = index_from w.range (net - w.first) }) = sym at ∙ here in grind arith in
        rw same (index_fits w.range (net - w.first) w.wire.short (omega arith))
    by_name (Added number) is outside = let added = named.added net number view at is in rw added.0 tt

    by_direction : (found : Option Dir) → direction N.ports net ≡ found → IfSome view.index IsTreeNumber
    by_direction None is = by_name view.name refl is
    by_direction (Some dir) is =
        let port = port_net N.ports net dir is in
        let bit = port.in_port in
        let here = named.port_bits port.p bit.bit port.port bit.id port.there bit.at in
        let V : ℕ → Type 0 = λ k. slice_get N.nets k ≡ Some (record { name = port.port.name; index = index_from port.port.range bit.bit }) in
        let there = subst V bit.is here in
        let same : view.index ≡ index_from port.port.range bit.bit = let both : Some view ≡ Some (record { name = port.port.name; index = index_from port.port.range bit.bit }) = sym at ∙ there in grind arith in
        let less = slice_get_within port.port.nets bit.bit bit.id bit.at in
        let width = laid.widths port.p port.port port.there in
        rw same (index_fits port.port.range bit.bit (named.port_ranges port.p port.port port.there) (rw width at less))
