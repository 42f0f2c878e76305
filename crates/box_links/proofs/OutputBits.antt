-- The first bit of an output whose net passes a test.
use Rattle.std.proofs.Common.{◌≡◌, ◌≢◌, ℕ, ◌+◌, ◌<◌, ◌≤◌, Bool, true, false, List, length, refl, ap, sym, ◌∙◌, Option, Some, None, subst, arith, get_or}
use Rattle.std.specs.Prelude.{slice_get, if◌then◌else◌}
use Rattle.std.specs.List.{position}
use Rattle.std.specs.Option.{option_map}
use Rattle.std.proofs.lemmas.Option.{get_or_from_slice_get, same_Some, slice_get_within}
use Rattle.list_laws.proofs.Lists.{slice_get_there}
use Rattle.netlist_model.specs.declared.Dir.{Dir}
use Rattle.netlist_model.specs.declared.Dir.TheVariants.{Input, Output, Inout}
use Rattle.netlist_model.specs.declared.Name.{Name}
use Rattle.netlist_model.specs.declared.NetId.{NetId}
use Rattle.netlist_model.specs.Lists.{NetView, PortView}
use Rattle.link_model.specs.declared.fault.BitName.{BitName}
use Rattle.link_model.specs.Denoted.{NamedPort}
use Rattle.link_model.specs.Faults.{is_output}
use Rattle.netlist_link.specs.declared.straight.Straight.{Straight}
use Rattle.netlist_link.specs.Linked.{LinkedView, hidden_ports}
use Rattle.netlist_link.specs.WellNamed.{IsNameOf, IsWellNamed, index_from}
use Rattle.box_links.specs.BoxFaults.{bit_of, first_output_bit}
use Rattle.box_links.specs.ThreeState.{IsPortNet, first_hidden, named_port, net_bit, output_bit}
use Rattle.box_links.proofs.Firsts.{first_same, part_at, position_same}

pub output_same : (f g : ℕ → Bool) → ((net : ℕ) → f net ≡ g net) → (port : NamedPort) → first_output_bit f port ≡ first_output_bit g port
output_same f g same port =
    ap (λ (o : Option ℕ). if is_output (Some port.dir) then option_map (bit_of port) o else None)
    (position_same (λ (net : NetId). f net.0) (λ (net : NetId). g net.0) (λ (net : NetId). same net.0) port.nets)

pub hidden_same : (L : LinkedView) (f g : ℕ → Bool) → ((net : ℕ) → f net ≡ g net) → first_hidden L f ≡ first_hidden L g
hidden_same L f g same = first_same (output_bit L.names f) (output_bit L.names g) (λ port. output_same f g same (named_port L.names port)) (hidden_ports L)

-- no bit of a port that is no output
pub other_side : (L : LinkedView) (test : ℕ → Bool) (number : ℕ) (dir : Dir) → option_map (λ (p : PortView). p.dir) (slice_get L.arena.lists.ports number) ≡ Some dir → dir ≢ Output
    → option_map (output_bit L.names test) (slice_get L.arena.lists.ports number) ≡ Some None
other_side L test number dir is other = by (slice_get L.arena.lists.ports number) is
  where
    none : (d : Dir) (bits : Option BitName) → d ≢ Output → (if is_output (Some d) then bits else None) ≡ None
    none Input bits apart = refl
    none Output bits apart = absurd (apart refl)
    none Inout bits apart = refl

    by : (o : Option PortView) → option_map (λ (p : PortView). p.dir) o ≡ Some dir → option_map (output_bit L.names test) o ≡ Some None
    by None e = absurd (cc)
    by (Some port) e =
        let same : port.dir ≡ dir = same_Some port.dir dir e in
        ap (λ (o : Option BitName). Some o) (none port.dir _ (λ out. other (sym same ∙ out)))

abbrev nothing : Option BitName
nothing = None

-- no bit passes
pub none_there : (L : LinkedView) (test : ℕ → Bool) (number : ℕ) (nets : List NetId) → option_map (λ (p : PortView). p.nets) (slice_get L.arena.lists.ports number) ≡ Some nets
    → position (λ (net : NetId). test net.0) nets ≡ None → option_map (output_bit L.names test) (slice_get L.arena.lists.ports number) ≡ Some None
none_there L test number nets is none = by (slice_get L.arena.lists.ports number) is
  where
    if_none : (b : Bool) → (if b then nothing else nothing) ≡ nothing
    if_none true = refl
    if_none false = refl

    by : (o : Option PortView) → option_map (λ (p : PortView). p.nets) o ≡ Some nets → option_map (output_bit L.names test) o ≡ Some None
    by None e = absurd (cc)
    by (Some port) e =
        let same : port.nets ≡ nets = same_Some port.nets nets e in
        let missing : position (λ (net : NetId). test net.0) port.nets ≡ None = ap (position (λ (net : NetId). test net.0)) same ∙ none in
        ap (λ (o : Option ℕ). Some (if is_output (Some port.dir) then option_map (bit_of (named_port L.names port)) o else None)) missing
        ∙ ap (λ (o : Option BitName). Some o) (if_none (is_output (Some port.dir)))

-- the bit that passes first, by its net
pub bit_there : (L : LinkedView) (test : ℕ → Bool) (number bit : ℕ) (nets : List NetId) (net : NetId) (name : BitName) → IsWellNamed L.names L.arena.lists
    → option_map (λ (p : PortView). p.dir) (slice_get L.arena.lists.ports number) ≡ Some Output → option_map (λ (p : PortView). p.nets) (slice_get L.arena.lists.ports number) ≡ Some nets
    → position (λ (n : NetId). test n.0) nets ≡ Some bit → slice_get nets bit ≡ Some net → option_map (net_bit L.names) (slice_get L.arena.lists.nets net.0) ≡ Some name
    → option_map (output_bit L.names test) (slice_get L.arena.lists.ports number) ≡ Some (Some name)
bit_there L test number bit nets net name named out is some at net_is = by (slice_get L.arena.lists.ports number) refl out is
  where
    by : (o : Option PortView) → slice_get L.arena.lists.ports number ≡ o → option_map (λ (p : PortView). p.dir) o ≡ Some Output → option_map (λ (p : PortView). p.nets) o ≡ Some nets
        → option_map (output_bit L.names test) o ≡ Some (Some name)
    by None e d n = absurd (cc)
    by (Some port) e d n =
        let same : port.nets ≡ nets = same_Some port.nets nets n in
        let side : port.dir ≡ Output = same_Some port.dir Output d in
        let found : position (λ (w : NetId). test w.0) port.nets ≡ Some bit = ap (position (λ (w : NetId). test w.0)) same ∙ some in
        let there : slice_get port.nets bit ≡ Some net = ap (λ (ns : List NetId). slice_get ns bit) same ∙ at in
        let view : slice_get L.arena.lists.nets net.0 ≡ Some (record { name = port.name; index = index_from port.range bit }) = named.port_bits number bit port net e there in
        let told : bit_of (named_port L.names port) bit ≡ name = same_Some _ name (sym (ap (option_map (net_bit L.names)) view) ∙ net_is) in
        ap (λ (x : Dir). Some (if is_output (Some x) then option_map (bit_of (named_port L.names port)) (position (λ (w : NetId). test w.0) port.nets) else None)) side
        ∙ ap (λ (o : Option ℕ). Some (option_map (bit_of (named_port L.names port)) o)) found
        ∙ ap (λ (b : BitName). Some (Some b)) told

-- the hidden port at a place, and its first bit that passes
pub hidden_bit : (L : LinkedView) (test : ℕ → Bool) (s : Straight) (place : ℕ) (bit : Option BitName) → s ≡ L.straight → place < s.count → L.straight.first + L.straight.count ≤ length L.arena.lists.ports
    → option_map (output_bit L.names test) (slice_get L.arena.lists.ports (s.first + place)) ≡ Some bit → (port : PortView) × (slice_get (hidden_ports L) place ≡ Some port) × (output_bit L.names test port ≡ bit)
hidden_bit L test s place bit same less few is =
    let count = ap (λ (x : Straight). x.count) same in
    let first = ap (λ (x : Straight). x.first) same in
    let there = slice_get_there L.arena.lists.ports (s.first + place) (omega (arith, less, few, count, first)) in
    let at : slice_get L.arena.lists.ports (L.straight.first + place) ≡ Some there.0 = ap (λ (n : ℕ). slice_get L.arena.lists.ports (n + place)) (sym first) ∙ there.1 in
    let within : place < L.straight.count = omega (arith, less, count) in
    (there.0, part_at L.arena.lists.ports L.straight.first L.straight.count place there.0 within at, same_Some _ bit (sym (ap (option_map (output_bit L.names test)) there.1) ∙ is))

-- The net of a bit of a port.

pub net_there : (L : LinkedView) (net : ℕ) → IsWellNamed L.names L.arena.lists → IsPortNet L net → net < length L.arena.lists.nets
net_there L net named of = slice_get_within L.arena.lists.nets net _ (named.port_bits of.number of.bit of.port (record { 0 = net }) of.there of.at)

pub name_known : (L : LinkedView) (net : ℕ) (name : Name) → IsWellNamed L.names L.arena.lists → IsPortNet L net → option_map (λ (n : NetView). n.name) (slice_get L.arena.lists.nets net) ≡ Some name
    → IsNameOf L.names name
name_known L net name named of is =
    let view = named.port_bits of.number of.bit of.port (record { 0 = net }) of.there of.at in
    let same : of.port.name ≡ name = same_Some of.port.name name (sym (ap (option_map (λ (n : NetView). n.name)) view) ∙ is) in
    let original = named.port_names of.number of.port of.there in
    subst (IsNameOf L.names) (sym original.1 ∙ same) original.2

-- what stands at a place
pub slice_get_at : {X : Type 0} (xs : List X) (i : ℕ) (x : X) → i < length xs → x ≡ get_or xs i x → slice_get xs i ≡ Some x
slice_get_at xs i x less is =
    let there = slice_get_there xs i less in
    there.1 ∙ ap (λ y. Some y) (sym (is ∙ get_or_from_slice_get xs i there.0 x there.1))
