-- The netlist with the test logic built in is the netlist with the test access port, added nets and named cells.
use Rattle.std.proofs.Common.{◌≡◌, ℕ, zero, suc, ◌+◌, ◌⊎◌, List, ◌++◌, length, refl, sym, ◌∙◌, ap, inl, inr, Option, Some, None, arith}
use Rattle.std.specs.Prelude.{slice_get}
use Rattle.std.proofs.lemmas.Option.{same_Some}
use Rattle.list_laws.proofs.Lists.{slice_get-append_right, before_push}
use Rattle.netlist_model.specs.declared.NetId.{NetId}
use Rattle.netlist_model.specs.declared.Name.{Name}
use Rattle.netlist_model.specs.declared.Name.TheVariants.{Added}
use Rattle.netlist_model.specs.declared.Dir.{Dir}
use Rattle.netlist_model.specs.declared.Dir.TheVariants.{Input, Output}
use Rattle.netlist_model.specs.Lists.{PortView, NetView, NetlistView, direction}
use Rattle.netlist_model.specs.Formed.{IsLaidOut}
use Rattle.netlist_model.specs.Contained.{IsDense}
use Rattle.gate_parts.specs.Parts.{added_nets}
use Rattle.netlist_link.specs.Sources.{PartIsNamed}
use Rattle.core_sides.specs.plan_fitting.declared.fitted.Fitted.{Fitted}
use Rattle.core_sides.specs.plan_fitting.Devices.{fitted_of}
use Rattle.core_sides.specs.plan_fitting.DevicesLaws.{TapNamesAreNew}
use Rattle.core_sides.specs.stitched_netlist.declared.model.TapNames.{TapNames}
use Rattle.core_sides.specs.stitched_netlist.Sites.{sides_of}
use Rattle.core_sides.specs.stitched_netlist.Stitched.{tap_port, scalar, tap_ports, named_net, tap_net_views, boundary_at, test_logic_nets, stitched}
use Rattle.core_sides.specs.stitched_netlist.Places.{StitchedHoldsTheCore}
use Rattle.core_sides.specs.stitched_netlist.Directions.{KeepsDirections, StitchedDirections}
use Rattle.written_netlists.specs.Prepared.{with_tap_names}
use Rattle.written_netlists.specs.NamesLaws.{StitchedIsNamed}
use Rattle.written_netlists.proofs.Table.{at_append, only_at}
use Rattle.written_netlists.proofs.TapNames.{tap_list, taps_are_new, table_is_longer}
use Rattle.written_netlists.proofs.Extended.{NetKind, core_net, tap_net, added_net, IsTapPort, Extends, extended_named}
use Rattle.written_netlists.proofs.NamesPlaces.{cells_either}

-- The test access port.

not_none : (dir : Dir) (found : Option Dir) → found ≡ Some dir → found ≡ None → ⊥
not_none dir found a b = let no : Some dir ≡ None = sym a ∙ b in cc

-- the port at a place has the net at that place
tap_port_at : (names : TapNames) (first k : ℕ) (port : PortView) → slice_get (tap_ports names (tap_port first)) k ≡ Some port
    → (dir : Dir) × (name : Name) × (slice_get (tap_list names) k ≡ Some name) × (port ≡ scalar name dir (record { 0 = first + k }))
tap_port_at names first zero port at = let e : first ≡ first + 0 = omega arith in (Input, names.tck, refl, sym (same_Some (scalar names.tck Input (record { 0 = first })) port at) ∙ ap (λ (n : ℕ). scalar names.tck Input (record { 0 = n })) e)
tap_port_at names first (suc zero) port at = (Input, names.tms, refl, sym (same_Some (scalar names.tms Input (record { 0 = first + 1 })) port at))
tap_port_at names first (suc (suc zero)) port at = (Input, names.tdi, refl, sym (same_Some (scalar names.tdi Input (record { 0 = first + 2 })) port at))
tap_port_at names first (suc (suc (suc zero))) port at = (Output, names.tdo, refl, sym (same_Some (scalar names.tdo Output (record { 0 = first + 3 })) port at))
tap_port_at names first (suc (suc (suc (suc zero)))) port at = (Input, names.trst, refl, sym (same_Some (scalar names.trst Input (record { 0 = first + 4 })) port at))
tap_port_at names first (suc (suc (suc (suc (suc k))))) port at = absurd (let no : None ≡ Some port = at in cc)

tap_net_at : (names : TapNames) (k : ℕ) (name : Name) → slice_get (tap_list names) k ≡ Some name → slice_get (tap_net_views names) k ≡ Some (named_net name)
tap_net_at names zero name at = ap (λ (n : Name). Some (named_net n)) (same_Some names.tck name at)
tap_net_at names (suc zero) name at = ap (λ (n : Name). Some (named_net n)) (same_Some names.tms name at)
tap_net_at names (suc (suc zero)) name at = ap (λ (n : Name). Some (named_net n)) (same_Some names.tdi name at)
tap_net_at names (suc (suc (suc zero))) name at = ap (λ (n : Name). Some (named_net n)) (same_Some names.tdo name at)
tap_net_at names (suc (suc (suc (suc zero)))) name at = ap (λ (n : Name). Some (named_net n)) (same_Some names.trst name at)
tap_net_at names (suc (suc (suc (suc (suc k))))) name at = absurd (let no : None ≡ Some name = at in cc)

tap_view_at : (names : TapNames) (k : ℕ) (view : NetView) → slice_get (tap_net_views names) k ≡ Some view → (name : Name) × (slice_get (tap_list names) k ≡ Some name) × (view.name ≡ name)
tap_view_at names zero view at = (names.tck, refl, ap (λ (v : NetView). v.name) (sym (same_Some (named_net names.tck) view at)))
tap_view_at names (suc zero) view at = (names.tms, refl, ap (λ (v : NetView). v.name) (sym (same_Some (named_net names.tms) view at)))
tap_view_at names (suc (suc zero)) view at = (names.tdi, refl, ap (λ (v : NetView). v.name) (sym (same_Some (named_net names.tdi) view at)))
tap_view_at names (suc (suc (suc zero))) view at = (names.tdo, refl, ap (λ (v : NetView). v.name) (sym (same_Some (named_net names.tdo) view at)))
tap_view_at names (suc (suc (suc (suc zero)))) view at = (names.trst, refl, ap (λ (v : NetView). v.name) (sym (same_Some (named_net names.trst) view at)))
tap_view_at names (suc (suc (suc (suc (suc k))))) view at = absurd (let no : None ≡ Some view = at in cc)

-- its nets stand in port bits
tap_inside : (N M : NetlistView) → KeepsDirections N M → (names : TapNames) (k net : ℕ) (name : Name) → slice_get (tap_list names) k ≡ Some name → net ≡ length N.nets + k
    → direction M.ports net ≡ None → ⊥
tap_inside N M sides names zero net name at is e =
    let here : net ≡ length N.nets = omega (arith, is) in not_none Input (direction M.ports net) (ap (direction M.ports) here ∙ sides.tck) e
tap_inside N M sides names (suc zero) net name at is e = not_none Input (direction M.ports net) (ap (direction M.ports) is ∙ sides.tms) e
tap_inside N M sides names (suc (suc zero)) net name at is e = not_none Input (direction M.ports net) (ap (direction M.ports) is ∙ sides.tdi) e
tap_inside N M sides names (suc (suc (suc zero))) net name at is e = not_none Output (direction M.ports net) (ap (direction M.ports) is ∙ sides.tdo) e
tap_inside N M sides names (suc (suc (suc (suc zero)))) net name at is e = not_none Input (direction M.ports net) (ap (direction M.ports) is ∙ sides.trst) e
tap_inside N M sides names (suc (suc (suc (suc (suc k))))) net name at is e = let no : None ≡ Some name = at in cc

-- Added nets.

added_at : (first count k : ℕ) (view : NetView) → slice_get (added_nets first count) k ≡ Some view → (view.index ≡ None) × (n : ℕ) × (view.name ≡ Added n)
added_at first zero k view at = absurd (cc)
added_at first (suc count) zero view at = let same : record { name = Added first; index = None } ≡ view = same_Some (record { name = Added first; index = None }) view at in
    (ap (λ (v : NetView). v.index) (sym same), first, ap (λ (v : NetView). v.name) (sym same))
added_at first (suc count) (suc k) view at = added_at (suc first) count k view at

-- The whole.

abbrev added : NetlistView → Fitted → List NetView
added N f = added_nets (boundary_at N f).first (sides_of N.ports f.rows + test_logic_nets (boundary_at N f) f)

net_kind : (N : NetlistView) (names : TapNames) (f : Fitted) → KeepsDirections N (stitched N names f) → (net : ℕ) (view : NetView) → slice_get (stitched N names f).nets net ≡ Some view
    → NetKind N (stitched N names f) (tap_list names) net view
net_kind N names f sides net view at = elim (at_append N.nets (tap_net_views names ++ added N f) net view at) [
  | inl before ↦ core_net before.1
  | inr after ↦ elim (at_append (tap_net_views names) (added N f) after.0 view after.2) [
    | inl tap ↦ (let named = tap_view_at names after.0 view tap.1 in
        tap_net (record {
          place = after.0;
          name = named.0;
          at = named.1;
          named = named.2;
          inside = tap_inside N (stitched N names f) sides names after.0 net named.0 named.1 after.1;
        }))
    | inr later ↦ (let is = added_at (boundary_at N f).first (sides_of N.ports f.rows + test_logic_nets (boundary_at N f) f) later.0 view later.2 in
        added_net (record { number = is.1; named = is.2; bare = is.0; outside = sides.others net (omega (arith, after.1, later.1)) }))
  ]
]

port_bit : (N : NetlistView) (names : TapNames) (f : Fitted) (k : ℕ) (name : Name) → slice_get (tap_list names) k ≡ Some name
    → slice_get (stitched N names f).nets (length N.nets + k) ≡ Some (record { name = name; index = None })
port_bit N names f k name at =
    slice_get-append_right N.nets (tap_net_views names ++ added N f) (length N.nets + k) k refl ∙ before_push (tap_net_views names) (added N f) (named_net name) k (tap_net_at names k name at)

port_kind : (N : NetlistView) (names : TapNames) (f : Fitted) (p : ℕ) (port : PortView) → slice_get (stitched N names f).ports p ≡ Some port
    → (slice_get N.ports p ≡ Some port) ⊎ IsTapPort N (stitched N names f) (tap_list names) p port
port_kind N names f p port at = elim (at_append N.ports (tap_ports names (tap_port (length N.nets))) p port at) [
  | inl before ↦ inl before.1
  | inr after ↦ (let tap = tap_port_at names (length N.nets) after.0 port after.2 in inr (record {
    place = after.0;
    name = tap.1;
    at = tap.2;
    stands = after.1;
    named = ap (λ (q : PortView). q.name) tap.3;
    scalar = ap (λ (q : PortView). q.range) tap.3;
    bits = λ bit net there. (let only = only_at (record { 0 = length N.nets + after.0 }) net bit (ap (λ (q : PortView). slice_get q.nets bit) (sym tap.3) ∙ there) in
        ap (λ (n : NetId). slice_get (stitched N names f).nets n.0) (sym only.1) ∙ port_bit N names f after.0 tap.1 tap.2);
  }))
]

pub stitched_extends : StitchedHoldsTheCore → PartIsNamed → StitchedDirections → (N : NetlistView) (names : TapNames) (f : Fitted) → IsLaidOut N → IsDense N
    → Extends N (stitched N names f) (tap_list names)
stitched_extends core law directions N names f laid dense =
    let sides = directions N names f laid in
    record {
      library = refl;
      net_kept = λ net view at. before_push N.nets (tap_net_views names ++ added N f) view net at;
      nets = net_kind N names f sides;
      ports = port_kind N names f;
      sides = sides.core;
      cells = cells_either core law N names f dense;
    }

pub stitched_named : TapNamesAreNew → StitchedHoldsTheCore → PartIsNamed → StitchedDirections → StitchedIsNamed
stitched_named new core law directions L p seen names fits laid dense are =
    extended_named L.names (with_tap_names (fitted_of L p seen) L.names) L.arena.lists (stitched L.arena.lists names (fitted_of L p seen)) (tap_list names) fits.named
    (table_is_longer L p seen fits.named (new L p seen fits)) (taps_are_new L p seen names fits.named (new L p seen fits) are)
    (stitched_extends core law directions L.arena.lists names (fitted_of L p seen) laid dense)
