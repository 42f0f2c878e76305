-- The wires under their names and indexes, and the words that name them.
use Rattle.std.proofs.Common.{◌≡◌, ◌≢◌, ℕ, ◌+◌, ◌-◌, ◌<◌, ◌≤◌, ◌⊎◌, inl, inr, Bool, true, false, List, [], length, refl, ap, sym, ◌∙◌, subst, Option, Some, None, Result, Ok, Err, IsTrue, not, arith, if◌then◌else◌}
use Rattle.std.specs.Prelude.{slice_get, nat_le, OnOk, ◌↔◌}
use Rattle.std.specs.Bool.{then_some}
use Rattle.std.specs.Map.{lookup}
use Rattle.std.specs.Option.{option_map}
use Rattle.std.proofs.lemmas.Bool.{cases_eq}
use Rattle.std.proofs.lemmas.Option.{same_Some, slice_get_within}
use Rattle.netlist_model.specs.declared.Name.{Name}
use Rattle.netlist_model.specs.declared.Name.TheVariants.{Original, Added}
use Rattle.netlist_model.specs.declared.NetId.{NetId}
use Rattle.netlist_model.specs.declared.Range.{Range}
use Rattle.netlist_model.specs.Lists.{NetView, NetlistView}
use Rattle.netlist_model.specs.Formed.{IsDriven, width_of}
use Rattle.link_model.specs.Denoted.{name_bytes}
use Rattle.netlist_link.specs.Linked.{LinkedView}
use Rattle.netlist_link.specs.PinWords.{IsIndexed}
use Rattle.netlist_link.specs.WellNamed.{IsWellNamed, IsWireNet, index_from}
use Rattle.netlist_link.proofs.PinLaws.{indexed_once}
use Rattle.status_fitting.specs.declared.keys.WireKey.{WireKey}
use Rattle.status_fitting.specs.Keys.{same_key, wire_key}
use Rattle.status_fitting.specs.Steps.{Finds}
use Rattle.status_fitting.specs.Tables.{FindsWires, FlagsPorts, IsFound, IsKeyOf, IsWireUnder}
use Rattle.status_fitting.specs.Wires.{IsWireAt, IsWireBit, IsVectorWord, NamesWire, NamesDriven, scalar, vector}
use Rattle.status_fitting.proofs.TableKeys.{key_parts, parts_key}
use Rattle.status_fitting.proofs.PortNames.{outside_ports, port_no_wire}

-- The key of a net.

abbrev pub net_name_at : NetlistView → ℕ → Option Name
net_name_at N net = option_map (λ (found : NetView). found.name) (slice_get N.nets net)

-- what a wire at the net is called
wire_name : (N : NetlistView) (net number : ℕ) (name : Name) → net_name_at N net ≡ Some name → IsWireNet N net (Original number) → Original number ≡ name
wire_name N net number name at wire =
    let here : Some wire.view.name ≡ Some name = ap (option_map (λ (found : NetView). found.name)) (sym wire.there) ∙ at in
    sym wire.named ∙ same_Some wire.view.name name here

no_key_in_port : (names : List (List ℕ)) (N : NetlistView) (flags : List Bool) (net number : ℕ) (taken : Bool) → IsWellNamed names N → FlagsPorts names N (length N.ports) flags
    → net_name_at N net ≡ Some (Original number) → (IsTrue taken ↔ (slice_get flags number ≡ Some true)) → taken ≡ true → IsKeyOf N net None
no_key_in_port names N flags net number taken well are at is set = λ key wire.
    let W : Name → Type 0 = IsWireNet N net in
    port_no_wire names N net number (length N.ports) well ((are.each number).0 (is.0 set)) (subst W (wire_name N net key.number (Original number) at wire.wire) wire.wire)

pub no_key_added : (N : NetlistView) (net number : ℕ) → net_name_at N net ≡ Some (Added number) → IsKeyOf N net None
no_key_added N net number at = λ key wire. let no : Original key.number ≡ Added number = wire_name N net key.number (Added number) at wire.wire in cc

key_is : (names : List (List ℕ)) (N : NetlistView) (flags : List Bool) (net number : ℕ) (index : Option ℕ) (taken : Bool) → IsWellNamed names N → FlagsPorts names N (length N.ports) flags
    → net_name_at N net ≡ Some (Original number) → option_map (λ (found : NetView). found.index) (slice_get N.nets net) ≡ Some index
    → (IsTrue taken ↔ (slice_get flags number ≡ Some true)) → taken ≡ false → IsWireAt N number index net
key_is names N flags net number index taken well are at indexed is unset = by (slice_get N.nets net) refl at indexed
  where
    by : (o : Option NetView) → slice_get N.nets net ≡ o → option_map (λ (found : NetView). found.name) o ≡ Some (Original number) → option_map (λ (found : NetView). found.index) o ≡ Some index
        → IsWireAt N number index net
    by None e named at_index = absurd (cc)
    by (Some view) e named at_index =
        let name : view.name ≡ Original number = same_Some view.name (Original number) named in
        record {
          wire = record {
            view = view;
            there = e;
            outside = outside_ports names N net number view well e name (λ so. let set : taken ≡ true = is.1 ((are.each number).1 so) in let both : true ≡ false = sym set ∙ unset in cc);
            named = name;
          };
          at = same_Some view.index index at_index;
        }

key_by : (names : List (List ℕ)) (N : NetlistView) (flags : List Bool) (net number : ℕ) (index : Option ℕ) (taken : Bool) → IsWellNamed names N → FlagsPorts names N (length N.ports) flags
    → net_name_at N net ≡ Some (Original number) → option_map (λ (found : NetView). found.index) (slice_get N.nets net) ≡ Some index
    → (IsTrue taken ↔ (slice_get flags number ≡ Some true)) → IsKeyOf N net (then_some (not taken) (wire_key number index))
key_by names N flags net number index true well are at indexed is = no_key_in_port names N flags net number true well are at is refl
key_by names N flags net number index false well are at indexed is = key_is names N flags net number index false well are at indexed is refl

pub key_unless : (names : List (List ℕ)) (N : NetlistView) (flags : List Bool) (net number : ℕ) (index : Option ℕ) (taken : Bool) (found : Option WireKey) → IsWellNamed names N
    → FlagsPorts names N (length N.ports) flags → net_name_at N net ≡ Some (Original number) → option_map (λ (view : NetView). view.index) (slice_get N.nets net) ≡ Some index
    → (IsTrue taken ↔ (slice_get flags number ≡ Some true)) → found ≡ then_some (not taken) (wire_key number index) → IsKeyOf N net found
key_unless names N flags net number index taken found well are at indexed is gives =
    let K : Option WireKey → Type 0 = IsKeyOf N net in
    subst K (sym gives) (key_by names N flags net number index taken well are at indexed is)

-- Entering a net.

found_more : (N : NetlistView) (n : ℕ) (key : WireKey) (found : Option NetId) → (IsWireAt N key.number key.index n → ⊥) → IsFound N n key found → IsFound N (n + 1) key found
found_more N n key None none so_far = λ net less at. by net less at (cases_eq net n)
  where
    by : (net : ℕ) → net < n + 1 → IsWireAt N key.number key.index net → (net ≡ n) ⊎ (net ≢ n) → ⊥
    by net less at (inl same) = let W : ℕ → Type 0 = IsWireAt N key.number key.index in none (subst W same at)
    by net less at (inr apart) = so_far net (omega arith) at
found_more N n key (Some id) none so_far = so_far

pub none_entered : (N : NetlistView) (n : ℕ) (entries : List (WireKey × NetId)) → IsKeyOf N n None → FindsWires N n entries → FindsWires N (n + 1) entries
none_entered N n entries none so_far = record { each = λ key. found_more N n key (lookup (same_key key) entries) (none key) (so_far.each key) }

one_entered : (N : NetlistView) (id : NetId) (key : WireKey) (old new : List (WireKey × NetId)) → IsKeyOf N id.0 (Some key) → FindsWires N id.0 old
    → ((k : WireKey) → lookup (same_key k) new ≡ (if same_key key k then Some id else lookup (same_key k) old)) → FindsWires N (id.0 + 1) new
one_entered N id key old new here so_far entered = record { each = λ k. let F : Option NetId → Type 0 = IsFound N (id.0 + 1) k in subst F (sym (entered k)) (by k (same_key key k) refl) }
  where
    by : (k : WireKey) (b : Bool) → same_key key k ≡ b → IsFound N (id.0 + 1) k (if b then Some id else lookup (same_key k) old)
    by k true e =
        let parts = key_parts key k e in
        let Number : ℕ → Type 0 = λ n. IsWireAt N n k.index id.0 in
        let Index : Option ℕ → Type 0 = λ i. IsWireAt N key.number i id.0 in
        subst Number parts.0 (subst Index parts.1 here)
    by k false e = found_more N id.0 k (lookup (same_key k) old) (λ at. other k e at) (so_far.each k)
      where
        other : (k : WireKey) → same_key key k ≡ false → IsWireAt N k.number k.index id.0 → ⊥
        other k e at =
            let views : at.wire.view ≡ here.wire.view = same_Some at.wire.view here.wire.view (sym at.wire.there ∙ here.wire.there) in
            let names : Original k.number ≡ Original key.number = sym at.wire.named ∙ ap (λ (v : NetView). v.name) views ∙ here.wire.named in
            let numbers : k.number ≡ key.number = cc in
            let indexes : k.index ≡ key.index = sym at.at ∙ ap (λ (v : NetView). v.index) views ∙ here.at in
            let yes : same_key key k ≡ true = parts_key key k (sym numbers) (sym indexes) in
            let both : true ≡ false = sym yes ∙ e in
            cc

pub entered_if : {X E : Type 0} (N : NetlistView) (id : NetId) (key : WireKey) (old new : List (WireKey × NetId)) (answer : Result X E) → IsKeyOf N id.0 (Some key) → FindsWires N id.0 old
    → OnOk answer ((k : WireKey) → lookup (same_key k) new ≡ (if same_key key k then Some id else lookup (same_key k) old)) → OnOk answer (FindsWires N (id.0 + 1) new)
entered_if N id key old new (Ok done) here so_far entered = one_entered N id key old new here so_far entered
entered_if N id key old new (Err fault) here so_far entered = tt

pub none_before : (N : NetlistView) → FindsWires N 0 []
none_before N = record { each = λ key. λ net less at. omega arith }

-- Looking up.

pub under_found : (N : NetlistView) (entries : List (WireKey × NetId)) (number : ℕ) (index : Option ℕ) (found : Option NetId) → FindsWires N (length N.nets) entries
    → found ≡ lookup (same_key (wire_key number index)) entries → Finds (IsWireUnder N (Original number) index) found
under_found N entries number index found finds is = by found (let F : Option NetId → Type 0 = IsFound N (length N.nets) (wire_key number index) in subst F (sym is) (finds.each (wire_key number index)))
  where
    by : (o : Option NetId) → IsFound N (length N.nets) (wire_key number index) o → Finds (IsWireUnder N (Original number) index) o
    by None none = λ net under.
        let numbers : number ≡ under.number = let e = under.is in cc in
        let W : ℕ → Type 0 = λ n. IsWireAt N n index net in
        none net (slice_get_within N.nets net under.at.wire.view under.at.wire.there) (subst W (sym numbers) under.at)
    by (Some id) at = record { number = number; is = refl; at = at }

pub under_added : (N : NetlistView) (number : ℕ) (index : Option ℕ) → Finds (IsWireUnder N (Added number) index) None
under_added N number index = λ net under. let no : Added number ≡ Original under.number = under.is in cc

pub bit_found : (L : LinkedView) (name : List ℕ) (index : Option ℕ) (called : Name) (found : Option NetId) → ((other : Name) → (Some called ≡ Some other) ↔ (name_bytes L.names other ≡ Some name))
    → Finds (IsWireUnder L.arena.lists called index) found → Finds (IsWireBit L name index) found
bit_found L name index called None is none = λ net bit.
    none net (record { number = bit.number; is = same_Some called (Original bit.number) ((is (Original bit.number)).1 bit.called); at = bit.bit })
bit_found L name index called (Some id) is under =
    let bytes : name_bytes L.names called ≡ Some name = (is called).0 refl in
    record { number = under.number; called = ap (name_bytes L.names) (sym under.is) ∙ bytes; bit = under.at }

pub name_unknown : (L : LinkedView) (name : List ℕ) (index : Option ℕ) → ((other : Name) → (None ≡ Some other) ↔ (name_bytes L.names other ≡ Some name)) → Finds (IsWireBit L name index) None
name_unknown L name index is = λ net bit. let no : None ≡ Some (Original bit.number) = (is (Original bit.number)).1 bit.called in cc

-- Words.

pub vector_found : (L : LinkedView) (word name : List ℕ) (index : ℕ) (found : Option NetId) → IsIndexed word name index → Finds (IsWireBit L name (Some index)) found → Finds (IsVectorWord L word) found
vector_found L word name index None is none = λ net v.
    let same = indexed_once word name v.name index v.index is v.indexed in
    let Named : List ℕ → Type 0 = λ n. IsWireBit L n (Some index) net in
    let Indexed : ℕ → Type 0 = λ i. IsWireBit L v.name (Some i) net in
    none net (subst Named (sym same.name_is) (subst Indexed (sym same.index_is) v.bit))
vector_found L word name index (Some id) is bit = record { name = name; index = index; indexed = is; bit = bit }

pub no_vector : (L : LinkedView) (word : List ℕ) → ((name : List ℕ) (index : ℕ) → IsIndexed word name index → ⊥) → Finds (IsVectorWord L word) None
no_vector L word none = λ net v. none v.name v.index v.indexed

pub scalar_names : (L : LinkedView) (word : List ℕ) (id : NetId) → IsWireBit L word None id.0 → NamesWire L word id.0
scalar_names L word id bit = scalar bit

pub vector_names : (L : LinkedView) (word : List ℕ) (found : Option NetId) → ((net : ℕ) → IsWireBit L word None net → ⊥) → Finds (IsVectorWord L word) found → Finds (NamesWire L word) found
vector_names L word None unnamed none = λ net names. by net names
  where
    by : (net : ℕ) → NamesWire L word net → ⊥
    by net (scalar bit) = unnamed net bit
    by net (vector other v) = none net v
vector_names L word (Some id) unnamed v = vector unnamed v

-- A word names one bit.

falls : (a b : ℕ) → nat_le a b ≡ false → b < a
falls a b h = grind arith

same_place : (range : Option Range) (a b : ℕ) → a < width_of range → b < width_of range → index_from range a ≡ index_from range b → a ≡ b
same_place None a b low high e = omega arith
same_place (Some r) a b low high e = by (nat_le r.left r.right) refl e
  where
    by : (t : Bool) → nat_le r.left r.right ≡ t → Some (if t then r.left + a else r.left - a) ≡ Some (if t then r.left + b else r.left - b) → a ≡ b
    by true t same = let sums : r.left + a ≡ r.left + b = same_Some (r.left + a) (r.left + b) same in omega arith
    by false t same =
        let down : r.right < r.left = falls r.left r.right t in
        let sums : r.left - a ≡ r.left - b = same_Some (r.left - a) (r.left - b) same in
        omega arith

record IsPlaceIn (first net width : ℕ) : Type 0 where
  pub below : net - first < width
  pub back : first + (net - first) ≡ net

place_in : (first net width : ℕ) → first ≤ net → net < first + width → IsPlaceIn first net width
place_in first net width low high = record { below = omega arith; back = omega arith }

same_net : (first a b : ℕ) → first ≤ a → first ≤ b → a - first ≡ b - first → a ≡ b
same_net first a b low high same = omega arith

wire_once : (names : List (List ℕ)) (N : NetlistView) (number : ℕ) (index : Option ℕ) (a b : ℕ) → IsWellNamed names N → IsWireAt N number index a → IsWireAt N number index b → a ≡ b
wire_once names N number index a b well one two =
    let w = well.wires a number one.wire in
    let in_a = w.wire.only a one.wire in
    let in_b = w.wire.only b two.wire in
    let place_a = place_in w.first a (width_of w.range) in_a.0 in_a.1 in
    let place_b = place_in w.first b (width_of w.range) in_b.0 in_b.1 in
    let at_a = index_at w.first w.range a one (a - w.first) place_a.back (w.wire.bits (a - w.first) place_a.below) in
    let at_b = index_at w.first w.range b two (b - w.first) place_b.back (w.wire.bits (b - w.first) place_b.below) in
    same_net w.first a b in_a.0 in_b.0 (same_place w.range (a - w.first) (b - w.first) place_a.below place_b.below (at_a ∙ sym at_b))
  where
    index_at : (first : ℕ) (range : Option Range) (net : ℕ) → (wire : IsWireAt N number index net) → (place : ℕ) → first + place ≡ net
        → slice_get N.nets (first + place) ≡ Some (record { name = Original number; index = index_from range place }) → index_from range place ≡ index
    index_at first range net wire place back bit =
        let here : Some (record { name = Original number; index = index_from range place }) ≡ Some wire.wire.view = sym bit ∙ ap (slice_get N.nets) back ∙ wire.wire.there in
        let same : record { name = Original number; index = index_from range place } ≡ wire.wire.view = same_Some (record { name = Original number; index = index_from range place }) wire.wire.view here in
        ap (λ (v : NetView). v.index) same ∙ wire.at

bit_once : (L : LinkedView) (name : List ℕ) (index : Option ℕ) (a b : ℕ) → IsWellNamed L.names L.arena.lists → IsWireBit L name index a → IsWireBit L name index b → a ≡ b
bit_once L name index a b well one two =
    let numbers = well.once one.number two.number name one.called two.called in
    let W : ℕ → Type 0 = λ n. IsWireAt L.arena.lists n index a in
    wire_once L.names L.arena.lists two.number index a b well (subst W numbers one.bit) two.bit

vector_once : (L : LinkedView) (word : List ℕ) (a b : ℕ) → IsWellNamed L.names L.arena.lists → IsVectorWord L word a → IsVectorWord L word b → a ≡ b
vector_once L word a b well one two =
    let same = indexed_once word one.name two.name one.index two.index one.indexed two.indexed in
    let Named : List ℕ → Type 0 = λ n. IsWireBit L n (Some one.index) a in
    let Indexed : ℕ → Type 0 = λ i. IsWireBit L two.name (Some i) a in
    bit_once L two.name (Some two.index) a b well (subst Indexed same.index_is (subst Named same.name_is one.bit)) two.bit

pub named_once : (L : LinkedView) (word : List ℕ) (a b : ℕ) → IsWellNamed L.names L.arena.lists → NamesWire L word a → NamesWire L word b → a ≡ b
named_once L word a b well (scalar one) (scalar two) = bit_once L word None a b well one two
named_once L word a b well (scalar one) (vector none two) = absurd (none a one)
named_once L word a b well (vector none one) (scalar two) = absurd (none b two)
named_once L word a b well (vector none one) (vector other two) = vector_once L word a b well one two

-- Drivers.

undriven_found : (L : LinkedView) (word : List ℕ) (id : NetId) (driven : Bool) → IsWellNamed L.names L.arena.lists → (IsTrue driven ↔ IsDriven L.arena.lists id.0) → driven ≡ false → NamesWire L word id.0
    → Finds (NamesDriven L word) None
undriven_found L word id driven well is unset names = λ net other.
    let same = named_once L word net id.0 well other.named names in
    let D : ℕ → Type 0 = IsDriven L.arena.lists in
    let set : driven ≡ true = is.1 (subst D same other.driven) in
    let both : true ≡ false = sym set ∙ unset in
    cc

driven_by : (L : LinkedView) (word : List ℕ) (id : NetId) (driven : Bool) → IsWellNamed L.names L.arena.lists → (IsTrue driven ↔ IsDriven L.arena.lists id.0) → NamesWire L word id.0
    → Finds (NamesDriven L word) (then_some driven id)
driven_by L word id true well is names = record { named = names; driven = is.0 refl }
driven_by L word id false well is names = undriven_found L word id false well is refl names

pub driven_if : (L : LinkedView) (word : List ℕ) (id : NetId) (driven : Bool) (found : Option NetId) → IsWellNamed L.names L.arena.lists → (IsTrue driven ↔ IsDriven L.arena.lists id.0) → NamesWire L word id.0
    → found ≡ then_some driven id → Finds (NamesDriven L word) found
driven_if L word id driven found well is names gives =
    let F : Option NetId → Type 0 = Finds (NamesDriven L word) in
    subst F (sym gives) (driven_by L word id driven well is names)

pub unnamed_found : (L : LinkedView) (word : List ℕ) → Finds (NamesWire L word) None → Finds (NamesDriven L word) None
unnamed_found L word none = λ net other. none net other.named
