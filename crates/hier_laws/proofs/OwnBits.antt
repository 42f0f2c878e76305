-- The bits that items name are declared in their own modules.
use Rattle.std.proofs.Common.{◌≡◌, ℕ, ◌+◌, ◌<◌, Bool, true, false, ◌||◌, ◌&&◌, cond, nat_le, List, [], ◌∷◌, ◌++◌, map, Option, Some, None, slice_get, is_none, refl, sym, ap, subst, ◌∙◌, arith, inl, inr, leb-true}
use Rattle.std.specs.List.{flat_map, AllByRecursion}
use Rattle.std.specs.Option.{option_map, option_map_or}
use Rattle.std.specs.Str.{bytes_eq}
use Rattle.std.proofs.lemmas.List.{map-append}
use Rattle.list_laws.proofs.Bytes.{bytes_eq-same}
use Rattle.list_laws.proofs.Lists.{all_append, all_front, all_back, all_at}
use Rattle.list_laws.proofs.Tests.{and_left, and_right, or_more, or_other}
use Rattle.verilog_tree.specs.declared.tree.Range.{Range}
use Rattle.verilog_tree.specs.declared.tree.Bit.{Bit}
use Rattle.verilog_tree.specs.declared.tree.Operand.{Operand}
use Rattle.verilog_tree.specs.declared.tree.Operand.TheVariants as operand
use Rattle.verilog_tree.specs.declared.tree.Link.{Link}
use Rattle.verilog_tree.specs.declared.tree.Dir.{Dir}
use Rattle.verilog_tree.specs.declared.tree.Instance.{Instance}
use Rattle.verilog_tree.specs.declared.tree.Port.{Port}
use Rattle.verilog_tree.specs.declared.tree.Wire.{Wire}
use Rattle.verilog_tree.specs.declared.tree.Item.{Item}
use Rattle.verilog_tree.specs.declared.tree.Item.TheVariants as item
use Rattle.verilog_tree.specs.declared.tree.Module.{Module}
use Rattle.link_model.specs.declared.fault.LinkFault.{LinkFault}
use Rattle.link_model.specs.declared.fault.LinkFault.TheVariants as fault
use Rattle.link_model.specs.Lists.{or_else, first_in, has_name, repeated, repeated_after}
use Rattle.link_model.specs.Nets.{Declared, NetDeclaration, port_nets, wire_nets, width, offset, is_within, net_in, declared_nets, declared_names, declared_as}
use Rattle.link_model.specs.Cells.{linked_operand}
use Rattle.link_model.specs.Faults.{item_bits, link_bits, operand_bits, name_unknown, bit_outside, at_bit, first_bit}
use Rattle.hier_model.specs.Visits.{Turn, keeps, opens, closes, Visit, visits}
use Rattle.hier_model.specs.Names.{flat_name, flat_bit, flat_operand, flat_link, flat_item}
use Rattle.hier_model.specs.Entries.{Place, place, places, opened_places, Entry, stays, carries, entry_item, entries, level_limit, visit_entries, turn_entries, links_in, inwards, outwards, inner_place, bits_of, spread, is_in, is_out}
use Rattle.hier_model.specs.Flat.{flat}
use Rattle.hier_model.specs.declared.fault.HierFault.{HierFault}
use Rattle.hier_model.specs.declared.fault.HierFault.TheVariants as hier
use Rattle.hier_model.specs.Faults.{NameCheck, enters, refers, net_check, item_checks, turn_checks, bad_name_after, declared_flat, place_names, is_long}
use Rattle.hier_laws.specs.Solves.{IsOwnBit}
use Rattle.hier_laws.specs.SolutionsLaws.{bits_before, StaysOwnBits}
use Rattle.hier_laws.proofs.Blocks.{Listed, found_listed, listed_found, listed_whole, shifted, keys, keys_from, block, blocks, blocks_first, whole_nets}
use Rattle.hier_laws.proofs.SolutionsPlaces.{stands_at, EntryStands, entries_stand}

pub first_none : {X Y : Type 0} (test : X → Option Y) (xs : List X) → first_in test xs ≡ None → AllByRecursion (λ x. test x ≡ None) xs
first_none test [] h = tt
first_none {X = X} {Y = Y} test (x ∷ xs) h = go (test x) refl h (λ e. first_none test xs e)
  where
    go : (o : Option Y) → test x ≡ o → or_else o (first_in test xs) ≡ None → (first_in test xs ≡ None → AllByRecursion (λ y. test y ≡ None) xs) → (test x ≡ None) × AllByRecursion (λ y. test y ≡ None) xs
    go None is e rest = (is, rest e)
    go (Some y) is e rest = absurd (cc)

-- The bits of an item in the flat module.

operands_flat : (at : List (List ℕ)) (os : List Operand) → flat_map operand_bits (map (flat_operand at) os) ≡ map (flat_bit at) (flat_map operand_bits os)
operands_flat at [] = refl
operands_flat at (operand.Bit b ∷ os) = ap (λ (l : List Bit). flat_bit at b ∷ l) (operands_flat at os)
operands_flat at (operand.Const c ∷ os) = operands_flat at os

links_flat : (at : List (List ℕ)) (links : List Link) → flat_map link_bits (map (flat_link at) links) ≡ map (flat_bit at) (flat_map link_bits links)
links_flat at [] = refl
links_flat at (l ∷ links) = rw (here l.operand, links_flat at links) (sym (map-append (flat_bit at) (link_bits l) (flat_map link_bits links)))
  where
    here : (o : Option Operand) → option_map_or operand_bits (option_map (flat_operand at) o) [] ≡ map (flat_bit at) (option_map_or operand_bits o [])
    here None = refl
    here (Some (operand.Bit b)) = refl
    here (Some (operand.Const c)) = refl

bits_flat : (at : List (List ℕ)) (i : Item) → item_bits (flat_item at i) ≡ map (flat_bit at) (item_bits i)
bits_flat at (item.Gate g) = ap (λ (l : List Bit). flat_bit at g.output ∷ l) (operands_flat at g.inputs)
bits_flat at (item.Instance i) = links_flat at i.links
bits_flat at (item.Assign output (operand.Bit b)) = refl
bits_flat at (item.Assign output (operand.Const c)) = refl

-- What the checks of names let through.

abbrev RefersOk : List (List ℕ) → NameCheck → Type 0
RefersOk declared (enters name) = Unit {0}
RefersOk declared (refers name) = has_name declared name ≡ false

checks_ok : (declared seen : List (List ℕ)) (checks : List NameCheck) → bad_name_after declared seen checks ≡ None → AllByRecursion (RefersOk declared) checks
checks_ok declared seen [] h = tt
checks_ok declared seen (enters name ∷ checks) h = go (hier.FlatName name) (is_long name || has_name seen name) h (λ e. checks_ok declared (seen ++ name ∷ []) checks e)
  where
    go : (f : HierFault) (b : Bool) → cond b (Some f) (bad_name_after declared (seen ++ name ∷ []) checks) ≡ None → (bad_name_after declared (seen ++ name ∷ []) checks ≡ None → AllByRecursion (RefersOk declared) checks) → Unit {0} × AllByRecursion (RefersOk declared) checks
    go f true e rest = absurd (cc)
    go f false e rest = (tt, rest e)
checks_ok declared seen (refers name ∷ checks) h = go (hier.FlatName name) (is_long name) (has_name declared name) refl h (λ e. checks_ok declared seen checks e)
  where
    go : (f : HierFault) (a b : Bool) → has_name declared name ≡ b → cond (a || b) (Some f) (bad_name_after declared seen checks) ≡ None → (bad_name_after declared seen checks ≡ None → AllByRecursion (RefersOk declared) checks) → (has_name declared name ≡ false) × AllByRecursion (RefersOk declared) checks
    go f true b is e rest = absurd (cc)
    go f false true is e rest = absurd (cc)
    go f false false is e rest = (is, rest e)

pub all_flat : {X Y : Type 0} (P : Y → Type 0) (f : X → List Y) (xs : List X) → AllByRecursion P (flat_map f xs) → AllByRecursion (λ x. AllByRecursion P (f x)) xs
all_flat P f [] h = tt
all_flat P f (x ∷ xs) h = (all_front P (f x) (flat_map f xs) h, all_flat P f xs (all_back P (f x) (flat_map f xs) h))

pub all_mapped : {X Y : Type 0} (P : Y → Type 0) (f : X → Y) (xs : List X) → AllByRecursion P (map f xs) → AllByRecursion (λ x. P (f x)) xs
all_mapped P f [] h = tt
all_mapped P f (x ∷ xs) h = (h.0, all_mapped P f xs h.1)

pub all_both : {X : Type 0} (P Q R : X → Type 0) (xs : List X) → ((x : X) → P x → Q x → R x) → AllByRecursion P xs → AllByRecursion Q xs → AllByRecursion R xs
all_both P Q R [] f a b = tt
all_both P Q R (x ∷ xs) f a b = (f x a.0 b.0, all_both P Q R xs f a.1 b.1)

-- The declared flat names are those of the flat module's nets.

names_append : (xs ys : List NetDeclaration) → map (λ (n : NetDeclaration). n.name) (xs ++ ys) ≡ map (λ (n : NetDeclaration). n.name) xs ++ map (λ (n : NetDeclaration). n.name) ys
names_append xs ys = map-append (λ (n : NetDeclaration). n.name) xs ys

abbrev nets_names : List NetDeclaration → List (List ℕ)
nets_names nets = map (λ (n : NetDeclaration). n.name) nets

ports_names : (at : List (List ℕ)) (ports : List Port) → map (λ (port : Port). flat_name at port.name) ports ≡ nets_names (map wire_nets (map (λ (port : Port). record { name = flat_name at port.name; range = port.range }) ports))
ports_names at [] = refl
ports_names at (p ∷ ports) = ap (λ (l : List (List ℕ)). flat_name at p.name ∷ l) (ports_names at ports)

wires_names : (at : List (List ℕ)) (wires : List Wire) → map (λ (wire : Wire). flat_name at wire.name) wires ≡ nets_names (map wire_nets (map (λ (wire : Wire). record { name = flat_name at wire.name; range = wire.range }) wires))
wires_names at [] = refl
wires_names at (w ∷ wires) = ap (λ (l : List (List ℕ)). flat_name at w.name ∷ l) (wires_names at wires)

block_names : (p : Place) → place_names p ≡ nets_names (block p)
block_names p =
    let ports : List Wire = map (λ (port : Port). record { name = flat_name p.at port.name; range = port.range }) p.here.ports in
    let wires : List Wire = map (λ (wire : Wire). record { name = flat_name p.at wire.name; range = wire.range }) p.here.wires in
    rw (ports_names p.at p.here.ports, wires_names p.at p.here.wires) (sym (ap nets_names (map-append wire_nets ports wires) ∙ names_append (map wire_nets ports) (map wire_nets wires)))

blocks_names : (ps : List Place) → flat_map place_names ps ≡ nets_names (blocks ps)
unfolding blocks
blocks_names [] = refl
blocks_names (p ∷ ps) = rw (block_names p, blocks_names ps) (sym (ap nets_names (blocks_first p ps) ∙ names_append (block p) (blocks ps)))

top_ports : (ports : List Port) → map (λ (port : Port). flat_name [] port.name) ports ≡ nets_names (map port_nets ports)
top_ports [] = refl
top_ports (p ∷ ports) = ap (λ (l : List (List ℕ)). p.name ∷ l) (top_ports ports)

top_wires : (wires : List Wire) → map (λ (wire : Wire). flat_name [] wire.name) wires ≡ nets_names (map wire_nets wires)
top_wires [] = refl
top_wires (w ∷ wires) = ap (λ (l : List (List ℕ)). w.name ∷ l) (top_wires wires)

pub declared_names_are : (modules : List Module) (top : Module) → declared_flat modules top ≡ nets_names (declared_nets (flat modules top))
declared_names_are modules top =
    rw (top_ports top.ports, top_wires top.wires, blocks_names (opened_places modules top)) (
    sym (ap nets_names (whole_nets modules top) ∙ names_append (declared_nets top) (blocks (opened_places modules top)) ∙ ap (λ (l : List (List ℕ)). l ++ nets_names (blocks (opened_places modules top))) (names_append (map port_nets top.ports) (map wire_nets top.wires))))

listed_has : (name : List ℕ) (d : Declared) (es : List (List ℕ × Declared)) → Listed name d es → has_name (keys es) name ≡ true
unfolding keys
listed_has name d [] h = absurd h
listed_has name d (e ∷ es) (inl h) = ap (λ (b : Bool). b || has_name (keys es) name) (ap (bytes_eq name) h.0 ∙ bytes_eq-same name)
listed_has name d (e ∷ es) (inr h) = or_more (bytes_eq name e.0) (has_name (keys es) name) (listed_has name d es h)

-- A bit.

pub within_range : (r : Range) (index : ℕ) → is_within r index ≡ true → offset (Some r) index < width (Some r)
within_range r index h = go (nat_le r.left index && nat_le index r.right) refl
  where
    go : (b : Bool) → (nat_le r.left index && nat_le index r.right) ≡ b → offset (Some r) index < width (Some r)
    go true e = omega (arith, leb-true r.left index (and_left _ (nat_le index r.right) e), leb-true index r.right (and_right (nat_le r.left index) (nat_le index r.right) e))
    go false e =
        let other : (nat_le r.right index && nat_le index r.left) ≡ true = or_other (nat_le r.left index && nat_le index r.right) (nat_le r.right index && nat_le index r.left) h e in
        omega (arith, leb-true r.right index (and_left _ (nat_le index r.left) other), leb-true index r.left (and_right (nat_le r.right index) (nat_le index r.left) other))

in_declared : (b : Bit) (d : Declared) (start : ℕ) → bit_outside b (Some (shifted start d)) ≡ None → net_in (Some d) b.index < d.first + width d.range
in_declared b d start h = by d.range b.index (λ r i e f. inside r i e f) h
  where
    inside : (r : Range) (i : ℕ) → (x : Bool) → is_within r i ≡ x → cond x None (Some (fault.BitOutside b.net i)) ≡ None → offset (Some r) i < width (Some r)
    inside r i true e f = within_range r i e
    inside r i false e f = absurd (cc)

    by : (range : Option Range) (index : Option ℕ) → ((r : Range) (i : ℕ) → (x : Bool) → is_within r i ≡ x → cond x None (Some (fault.BitOutside b.net i)) ≡ None → offset (Some r) i < width (Some r))
        → bit_outside (record { net = b.net; index = index }) (Some (record { first = start + d.first; range = range })) ≡ None → net_in (Some (record { first = d.first; range = range })) index < d.first + width range
    by None None f e = omega arith
    by None (Some i) f e = omega arith
    by (Some r) None f e = omega arith
    by (Some r) (Some i) f e = omega (arith, f r i (is_within r i) refl e)

-- a bit whose flat net is known and within, and whose name was checked, is one of its module
own_bit : (modules : List Module) (top : Module) (j : ℕ) (p : Place) (b : Bit) → repeated (nets_names (declared_nets (flat modules top))) ≡ None → slice_get (places modules top) j ≡ Some p
    → AllByRecursion (RefersOk (declared_flat modules top)) (net_check p.at p.here b)
    → at_bit name_unknown (declared_names (flat modules top)) (flat_bit p.at b) ≡ None → at_bit bit_outside (declared_names (flat modules top)) (flat_bit p.at b) ≡ None → IsOwnBit p.here b
own_bit modules top j p b once there check known inside = go (declared_as (declared_names p.here) b.net) refl
  where
    names : List (List ℕ × Declared)
    names = declared_names (flat modules top)

    flat_none : (o : Option Declared) → declared_as (declared_names (flat modules top)) (flat_name p.at b.net) ≡ o → name_unknown (flat_bit p.at b) o ≡ None → has_name (declared_flat modules top) (flat_name p.at b.net) ≡ false → ⊥
    flat_none None is e f = absurd (cc)
    flat_none (Some d) is e f =
        let listed = found_listed (flat_name p.at b.net) d (declared_names (flat modules top)) is in
        let yes : has_name (keys (declared_names (flat modules top))) (flat_name p.at b.net) ≡ true = listed_has (flat_name p.at b.net) d (declared_names (flat modules top)) listed in
        let same : keys (declared_names (flat modules top)) ≡ declared_flat modules top = keys_from 0 (declared_nets (flat modules top)) ∙ sym (declared_names_are modules top) in
        let no : true ≡ false = sym yes ∙ ap (λ (l : List (List ℕ)). has_name l (flat_name p.at b.net)) same ∙ f in
        absurd (cc)

    go : (o : Option Declared) → declared_as (declared_names p.here) b.net ≡ o → IsOwnBit p.here b
    go None is =
        let P : Option Declared → Type 0 = λ z. AllByRecursion (RefersOk (declared_flat modules top)) (cond (is_none z) (refers (flat_name p.at b.net) ∷ []) []) in
        let refused = subst P is check in
        absurd (flat_none (declared_as (declared_names (flat modules top)) (flat_name p.at b.net)) refl known refused.0)
    go (Some d) is =
        let only : repeated_after [] (keys (declared_names (flat modules top))) ≡ None = ap (repeated_after []) (keys_from 0 (declared_nets (flat modules top))) ∙ once in
        let found : declared_as (declared_names (flat modules top)) (flat_name p.at b.net) ≡ Some (shifted (bits_before (places modules top) j) d) = listed_found [] (flat_name p.at b.net) _ (declared_names (flat modules top)) only (listed_whole modules top j p b.net d there (found_listed b.net d (declared_names p.here) is)) in
        let within : net_in (Some d) b.index < d.first + width d.range = in_declared (flat_bit p.at b) d (bits_before (places modules top) j) (sym (ap (bit_outside (flat_bit p.at b)) found) ∙ inside) in
        record { declared = d; found = is; within = (let P : Option Declared → Type 0 = λ z. net_in z b.index < d.first + width d.range in subst P (sym is) within) }

-- The items that stay.

pub item_own : (modules : List Module) (top : Module) (j : ℕ) (p : Place) (i : Item) → repeated (nets_names (declared_nets (flat modules top))) ≡ None → slice_get (places modules top) j ≡ Some p
    → AllByRecursion (RefersOk (declared_flat modules top)) (item_checks p.at p.here i) → first_in (at_bit name_unknown (declared_names (flat modules top))) (item_bits (flat_item p.at i)) ≡ None → first_in (at_bit bit_outside (declared_names (flat modules top))) (item_bits (flat_item p.at i)) ≡ None
    → AllByRecursion (IsOwnBit p.here) (item_bits i)
item_own modules top j p i once there checks known inside =
    let names = declared_names (flat modules top) in
    let bits : (test : Bit → Option Declared → Option LinkFault) → first_in (at_bit test names) (item_bits (flat_item p.at i)) ≡ None → AllByRecursion (λ (b : Bit). at_bit test names (flat_bit p.at b) ≡ None) (item_bits i) = λ test h.
    let P : List Bit → Type 0 = λ l. AllByRecursion (λ (b : Bit). at_bit test names b ≡ None) l in
    all_mapped (λ (b : Bit). at_bit test names b ≡ None) (flat_bit p.at) (item_bits i) (subst P (bits_flat p.at i) (first_none (at_bit test names) (item_bits (flat_item p.at i)) h)) in
    let nets = all_flat (RefersOk (declared_flat modules top)) (net_check p.at p.here) (item_bits i) (all_back (RefersOk (declared_flat modules top)) _ (flat_map (net_check p.at p.here) (item_bits i)) checks) in
    all_both (λ (b : Bit). AllByRecursion (RefersOk (declared_flat modules top)) (net_check p.at p.here b)) (λ (b : Bit). (at_bit name_unknown names (flat_bit p.at b) ≡ None) × (at_bit bit_outside names (flat_bit p.at b) ≡ None)) (IsOwnBit p.here) (item_bits i)
    (λ b check two. own_bit modules top j p b once there check two.0 two.1)
    nets
    (all_both (λ (b : Bit). at_bit name_unknown names (flat_bit p.at b) ≡ None) (λ (b : Bit). at_bit bit_outside names (flat_bit p.at b) ≡ None) (λ (b : Bit). (at_bit name_unknown names (flat_bit p.at b) ≡ None) × (at_bit bit_outside names (flat_bit p.at b) ≡ None)) (item_bits i) (λ b x y. (x, y)) (bits name_unknown known) (bits bit_outside inside))

abbrev StaysChecked : List (List ℕ) → Entry → Type 0
StaysChecked declared (stays p i) = AllByRecursion (RefersOk declared) (item_checks p.at p.here i)
StaysChecked declared (carries p b q o) = Unit {0}

inwards_free : (declared : List (List ℕ)) (outer inner : Place) (bs : List Bit) (os : List Operand) → AllByRecursion (StaysChecked declared) (inwards outer inner bs os)
inwards_free declared outer inner [] os = tt
inwards_free declared outer inner (x ∷ bs) [] = tt
inwards_free declared outer inner (x ∷ bs) (o ∷ os) = (tt, inwards_free declared outer inner bs os)

outwards_free : (declared : List (List ℕ)) (outer inner : Place) (bs : List Bit) (os : List Operand) → AllByRecursion (StaysChecked declared) (outwards outer inner bs os)
outwards_free declared outer inner [] os = tt
outwards_free declared outer inner (x ∷ bs) [] = tt
outwards_free declared outer inner (x ∷ bs) (operand.Bit c ∷ os) = (tt, outwards_free declared outer inner bs os)
outwards_free declared outer inner (x ∷ bs) (operand.Const v ∷ os) = outwards_free declared outer inner bs os

-- what holds of the links of each port holds of those of all
pub links_each : (P : Entry → Type 0) (test : Dir → Bool) (join : List Bit → List Operand → List Entry) (m : Module) (i : Instance) (ports : List Port) → ((bs : List Bit) (os : List Operand) → AllByRecursion P (join bs os)) → AllByRecursion P (links_in test join m i ports)
links_each P test join m i [] each = tt
links_each P test join m i (p ∷ ports) each = all_append P _ (links_in test join m i ports) (go (test p.dir) (linked_operand i.links p.name)) (links_each P test join m i ports each)
  where
    go : (b : Bool) (o : Option Operand) → AllByRecursion P (cond b (option_map_or (λ x. join (bits_of p.name p.range) (spread m x)) o []) [])
    go false o = tt
    go true None = tt
    go true (Some o) = each (bits_of p.name p.range) (spread m o)

turn_free : (declared : List (List ℕ)) (at : List (List ℕ)) (m : Module) (t : Turn) → AllByRecursion (RefersOk declared) (turn_checks at m t) → AllByRecursion (StaysChecked declared) (turn_entries at m t)
turn_free declared at m (keeps i) h = (h, tt)
turn_free declared at m (opens i c) h = links_each (StaysChecked declared) is_in (inwards (place at m) (inner_place at i c)) m i c.ports (λ bs os. inwards_free declared (place at m) (inner_place at i c) bs os)
turn_free declared at m (closes i c) h = links_each (StaysChecked declared) is_out (outwards (place at m) (inner_place at i c)) m i c.ports (λ bs os. outwards_free declared (place at m) (inner_place at i c) bs os)

visits_free : (declared : List (List ℕ)) (vs : List Visit) → AllByRecursion (λ (v : Visit). AllByRecursion (RefersOk declared) (turn_checks v.at v.within v.turn)) vs → AllByRecursion (StaysChecked declared) (flat_map visit_entries vs)
visits_free declared [] h = tt
visits_free declared (v ∷ vs) h = all_append (StaysChecked declared) (visit_entries v) (flat_map visit_entries vs) (turn_free declared v.at v.within v.turn h.0) (visits_free declared vs h.1)

pub stays_own_bits : StaysOwnBits
stays_own_bits modules top once known inside names_ok k p i there =
    let declared = declared_flat modules top in
    let checks = checks_ok declared [] _ names_ok in
    let below = all_flat (RefersOk declared) (λ (v : Visit). turn_checks v.at v.within v.turn) (visits level_limit modules [] top) (all_back (RefersOk declared) (map (λ name. enters name) declared) (flat_map (λ (v : Visit). turn_checks v.at v.within v.turn) (visits level_limit modules [] top)) checks) in
    let checked = all_at (StaysChecked declared) (entries modules top) k (stays p i) (visits_free declared (visits level_limit modules [] top) below) there in
    let items : (test : Bit → Option Declared → Option LinkFault) → first_bit test (flat modules top) ≡ None → first_in (at_bit test (declared_names (flat modules top))) (item_bits (flat_item p.at i)) ≡ None = λ test h.
    let F : Item → Type 0 = λ x. first_in (at_bit test (declared_names (flat modules top))) (item_bits x) ≡ None in
    all_at (λ (e : Entry). F (entry_item e)) (entries modules top) k (stays p i) (all_mapped F entry_item (entries modules top) (first_none (λ (x : Item). first_in (at_bit test (declared_names (flat modules top))) (item_bits x)) (map entry_item (entries modules top)) h)) there in
    let s = stands_at p (places modules top) (all_at (EntryStands (places modules top)) (entries modules top) k (stays p i) (entries_stand modules top) there) in
    item_own modules top s.0 p i once s.1 checked (items name_unknown known) (items bit_outside inside)
