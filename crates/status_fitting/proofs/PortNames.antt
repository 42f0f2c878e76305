-- The names of ports, and the nets that stand in none.
use Rattle.std.proofs.Common.{◌≡◌, ◌≢◌, ℕ, ◌+◌, ◌<◌, ◌⊎◌, inl, inr, Bool, true, false, List, length, refl, ap, sym, ◌∙◌, subst, Option, Some, None, arith}
use Rattle.std.specs.Prelude.{slice_get, slice_set, replicate}
use Rattle.std.specs.Option.{option_map}
use Rattle.std.proofs.lemmas.Bool.{cases_eq}
use Rattle.std.proofs.lemmas.Option.{same_Some, slice_get_within}
use Rattle.netlist_model.specs.declared.Dir.{Dir}
use Rattle.netlist_model.specs.declared.Name.{Name}
use Rattle.netlist_model.specs.declared.Name.TheVariants.{Original, Added}
use Rattle.netlist_model.specs.declared.NetId.{NetId}
use Rattle.netlist_model.specs.Lists.{PortView, NetView, NetlistView, direction}
use Rattle.netlist_model.proofs.Ports.{direction_has_bit}
use Rattle.netlist_link.specs.PortNames.{HasOriginal}
use Rattle.netlist_link.specs.WellNamed.{IsWellNamed, IsWireNet, index_from}
use Rattle.netlist_link.proofs.TableLaws.{has_original, named_inside}
use Rattle.status_fitting.specs.Tables.{IsPortName, FlagsPorts}
use Rattle.status_fitting.proofs.SetFlags.{flag_set, none_flagged}

-- Flags of names.

abbrev pub port_name_at : NetlistView → ℕ → Option Name
port_name_at N p = option_map (λ (found : PortView). found.name) (slice_get N.ports p)

pub port_known : (names : List (List ℕ)) (N : NetlistView) (p number : ℕ) → IsWellNamed names N → p < length N.ports → port_name_at N p ≡ Some (Original number) → number < length names
port_known names N p number well there at = named_inside names N well number p there (has_original N number p at)

pub port_not_added : (names : List (List ℕ)) (N : NetlistView) (p number : ℕ) → IsWellNamed names N → port_name_at N p ≡ Some (Added number) → ⊥
port_not_added names N p number well at = by (slice_get N.ports p) refl at
  where
    by : (o : Option PortView) → slice_get N.ports p ≡ o → option_map (λ (found : PortView). found.name) o ≡ Some (Added number) → ⊥
    by None e is = cc
    by (Some port) e is = let has = well.port_names p port e in let original = has.1 in cc

same_port_name : (N : NetlistView) (p number other : ℕ) → HasOriginal N number p → HasOriginal N other p → number ≡ other
same_port_name N p number other one two =
    let first : one.port ≡ two.port = let s : Some one.port ≡ Some two.port = sym one.there ∙ two.there in cc in
    let names : Original number ≡ Original other = sym one.named ∙ ap (λ (v : PortView). v.name) first ∙ two.named in
    cc

pub port_noted : (names : List (List ℕ)) (N : NetlistView) (flags : List Bool) (p number : ℕ) → IsWellNamed names N → p < length N.ports → port_name_at N p ≡ Some (Original number)
    → FlagsPorts names N p flags → FlagsPorts names N (p + 1) (slice_set flags number true)
port_noted names N flags p number well there at are =
    let has = has_original N number p at in
    flag_set (IsPortName N p) (IsPortName N (p + 1)) (length names) flags number (port_known names N p number well there at) are
    (record { port = p; below = omega arith; has = has })
    (λ n so. let low = so.below in record { port = so.port; below = omega (arith, low); has = so.has })
    (λ n apart so. by n apart so (cases_eq so.port p))
  where
    by : (n : ℕ) → n ≢ number → (so : IsPortName N (p + 1) n) → (so.port ≡ p) ⊎ (so.port ≢ p) → IsPortName N p n
    by n apart so (inl same) =
        let H : ℕ → Type 0 = HasOriginal N n in
        absurd (apart (same_port_name N p n number (subst H same so.has) (has_original N number p at)))
    by n apart so (inr other) = let low = so.below in record { port = so.port; below = omega (arith, low, other); has = so.has }

pub no_port_noted : (names : List (List ℕ)) (N : NetlistView) (flags : List Bool) → flags ≡ replicate (length names) false → FlagsPorts names N 0 flags
no_port_noted names N flags is = none_flagged (IsPortName N 0) (length names) flags is (λ n so. let low = so.below in omega (arith, low))

-- Nets.

-- a net with the name of a port stands in it
pub outside_ports : (names : List (List ℕ)) (N : NetlistView) (net number : ℕ) (view : NetView) → IsWellNamed names N → slice_get N.nets net ≡ Some view → view.name ≡ Original number
    → (IsPortName N (length N.ports) number → ⊥) → direction N.ports net ≡ None
outside_ports names N net number view well at is none = by (direction N.ports net) refl
  where
    id : NetId
    id = record { 0 = net }

    by : (found : Option Dir) → direction N.ports net ≡ found → direction N.ports net ≡ None
    by None e = e
    by (Some dir) e =
        let b = direction_has_bit N dir id e in
        let here = well.port_bits b.number b.bit b.port id b.stands b.has in
        let same : view ≡ record { name = b.port.name; index = index_from b.port.range b.bit } = same_Some view (record { name = b.port.name; index = index_from b.port.range b.bit }) (sym at ∙ here) in
        let name : b.port.name ≡ Original number = sym (ap (λ (v : NetView). v.name) same) ∙ is in
        absurd (none (record { port = b.number; below = slice_get_within N.ports b.number b.port b.stands; has = record { port = b.port; there = b.stands; named = name } }))

-- no wire has the name of a port
pub port_no_wire : (names : List (List ℕ)) (N : NetlistView) (net number ports : ℕ) → IsWellNamed names N → IsPortName N ports number → IsWireNet N net (Original number) → ⊥
port_no_wire names N net number ports well so wire =
    let has = so.has in
    let W : Name → Type 0 = IsWireNet N net in
    well.port_or_wire so.port net has.port has.there (subst W (sym has.named) wire)
