-- Bits of nets and of operands by their places, and the assignments that join them.
use Rattle.std.proofs.Common.{◌≡◌, ℕ, zero, suc, ◌+◌, ◌<◌, ◌≤◌, min, Bool, true, false, cond, if◌then◌else◌, find, get_or, position, List, [], ◌∷◌, ◌++◌, length, map, drop, Option, Some, None, refl, sym, ap, ◌∙◌, arith, append_assoc, append-nil}
use Rattle.std.specs.Prelude.{slice_get, option_and_then}
use Rattle.std.specs.Str.{bytes_eq}
use Rattle.std.specs.Option.{option_map, option_map_or}
use Rattle.std.proofs.lemmas.List.{length-map}
use Rattle.std.proofs.lemmas.Option.{slice_get-map}
use Rattle.list_laws.proofs.Options.{none_some}
use Rattle.list_laws.proofs.Lists.{length-counted_from, slice_get-counted_from, left_at, none_left}
use Rattle.list_laws.proofs.Bytes.{bytes_eq-sym}
use Rattle.verilog_tree.specs.declared.tree.Dir.{Dir}
use Rattle.verilog_tree.specs.declared.tree.Range.{Range}
use Rattle.verilog_tree.specs.declared.tree.Bit.{Bit}
use Rattle.verilog_tree.specs.declared.tree.Operand.{Operand}
use Rattle.verilog_tree.specs.declared.tree.Operand.TheVariants as operand
use Rattle.verilog_tree.specs.declared.tree.Link.{Link}
use Rattle.verilog_tree.specs.declared.tree.Port.{Port}
use Rattle.verilog_tree.specs.declared.tree.Instance.{Instance}
use Rattle.verilog_tree.specs.declared.tree.Item.{Item}
use Rattle.verilog_tree.specs.declared.tree.Item.TheVariants as item
use Rattle.verilog_tree.specs.declared.tree.Module.{Module}
use Rattle.link_model.specs.Nets.{Declared, width, counted_from, index_at, declared_names, declared_as}
use Rattle.link_model.specs.Cells.{linked_operand}
use Rattle.hier_model.specs.Names.{flat_name, flat_bit, flat_operand}
use Rattle.hier_model.specs.Entries.{Place, Entry, bits_of, spread_net, spread, inwards, outward, outwards, links_in, entry_item}
use Rattle.hier_model.proofs.Tables.{stands_first, stands_nowhere}
use Rattle.hier_flatten.specs.Nets.{range_named}
use Rattle.hier_flatten.specs.Joins.{whole_range}
use Rattle.hier_flatten.proofs.Declared.{declared_range}

abbrev bit_of : List ℕ → Option Range → ℕ → Bit
bit_of name range k = record { net = name; index = index_at range k }

pub length-bits_of : (name : List ℕ) (range : Option Range) → length (bits_of name range) ≡ width range
length-bits_of name range = length-map (counted_from 0 (width range)) (bit_of name range) ∙ length-counted_from 0 (width range)

pub bit_there : (at : List (List ℕ)) (name : List ℕ) (range : Option Range) (k : ℕ) → k < width range → slice_get (map (flat_bit at) (bits_of name range)) k ≡ Some (bit_of (flat_name at name) range k)
bit_there at name range k low =
    let first : 0 + k ≡ k = omega arith in
    slice_get-map (flat_bit at) (bits_of name range) k
    ∙ ap (option_map (flat_bit at)) (slice_get-map (bit_of name range) (counted_from 0 (width range)) k ∙ ap (option_map (bit_of name range)) (slice_get-counted_from 0 (width range) k low))
    ∙ ap (λ (i : ℕ). Some (bit_of (flat_name at name) range i)) first

-- Operands.

-- by the range of the net that it stands for as a whole
abbrev pub spread_by : Operand → Option (Option Range) → List Operand
spread_by (operand.Const value) r = operand.Const value ∷ []
spread_by (operand.Bit b) None = operand.Bit b ∷ []
spread_by (operand.Bit b) (Some r) = map (λ (c : Bit). operand.Bit c) (bits_of b.net r)

spread_declared : (b : Bit) (d : Option Declared) (r : Option (Option Range)) → option_map (λ (x : Declared). x.range) d ≡ r → spread_net b d ≡ spread_by (operand.Bit b) r
spread_declared b None None e = refl
spread_declared b None (Some r) e = none_some e
spread_declared b (Some d) None e = none_some (sym e)
spread_declared b (Some d) (Some r) e = let same : d.range ≡ r = cc in ap (λ (x : Option Range). map (λ (c : Bit). operand.Bit c) (bits_of b.net x)) same

pub spread_is : (m : Module) (o : Operand) → spread m o ≡ spread_by o (whole_range m o)
spread_is m (operand.Const value) = refl
spread_is m (operand.Bit b) = by b.index
  where
    by : (index : Option ℕ) → option_map_or (λ (i : ℕ). operand.Bit b ∷ []) index (spread_net b (declared_as (declared_names m) b.net)) ≡ spread_by (operand.Bit b) (option_map_or (λ (i : ℕ). None) index (range_named m b.net))
    by None = spread_declared b (declared_as (declared_names m) b.net) (range_named m b.net) (declared_range m b.net)
    by (Some i) = refl

pub spread_none : (m : Module) (o : Operand) → whole_range m o ≡ None → spread m o ≡ o ∷ []
spread_none m o none = spread_is m o ∙ ap (spread_by o) none ∙ by o
  where
    by : (o : Operand) → spread_by o None ≡ o ∷ []
    by (operand.Const value) = refl
    by (operand.Bit b) = refl

pub spread_some : (m : Module) (b : Bit) (range : Option Range) → whole_range m (operand.Bit b) ≡ Some range → spread m (operand.Bit b) ≡ map (λ (c : Bit). operand.Bit c) (bits_of b.net range)
spread_some m b range some = spread_is m (operand.Bit b) ∙ ap (spread_by (operand.Bit b)) some

-- only a bit stands for a whole net
pub whole_bit : (m : Module) (o : Operand) (range : Option Range) → whole_range m o ≡ Some range → (b : Bit) × (o ≡ operand.Bit b)
whole_bit m (operand.Const value) range some = none_some some
whole_bit m (operand.Bit b) range some = (b, refl)

pub length-spread_some : (m : Module) (o : Operand) (range : Option Range) → whole_range m o ≡ Some range → length (spread m o) ≡ width range
length-spread_some m (operand.Const value) range some = none_some some
length-spread_some m (operand.Bit b) range some = ap (λ (os : List Operand). length os) (spread_some m b range some) ∙ length-map (bits_of b.net range) (λ (c : Bit). operand.Bit c) ∙ length-bits_of b.net range

pub length-spread_none : (m : Module) (o : Operand) → whole_range m o ≡ None → length (spread m o) ≡ 1
length-spread_none m o none = ap (λ (os : List Operand). length os) (spread_none m o none)

-- an operand that is one bit, at its only place
pub one_there : (at : List (List ℕ)) (m : Module) (o flat : Operand) (k : ℕ) → whole_range m o ≡ None → k < length (spread m o) → flat ≡ flat_operand at o → slice_get (map (flat_operand at) (spread m o)) k ≡ Some flat
one_there at m o flat k none low is =
    let one : k ≡ 0 = (let long = length-spread_none m o none in omega (arith, low, long)) in
    ap (λ (os : List Operand). slice_get (map (flat_operand at) os) k) (spread_none m o none)
    ∙ ap (slice_get (flat_operand at o ∷ [])) one
    ∙ ap (λ (x : Operand). Some x) (sym is)

mapped_bits : (at : List (List ℕ)) (bs : List Bit) (k : ℕ) (bit : Bit) → slice_get (map (flat_bit at) bs) k ≡ Some bit → slice_get (map (flat_operand at) (map (λ (c : Bit). operand.Bit c) bs)) k ≡ Some (operand.Bit bit)
mapped_bits at [] k bit is = none_some is
mapped_bits at (b ∷ bs) zero bit is = let same : flat_bit at b ≡ bit = cc in ap (λ (x : Bit). Some (operand.Bit x)) same
mapped_bits at (b ∷ bs) (suc k) bit is = mapped_bits at bs k bit is

-- one that is a whole net, at each place
pub whole_there : (at : List (List ℕ)) (m : Module) (b bit : Bit) (range : Option Range) (k : ℕ) → whole_range m (operand.Bit b) ≡ Some range → slice_get (map (flat_bit at) (bits_of b.net range)) k ≡ Some bit
    → slice_get (map (flat_operand at) (spread m (operand.Bit b))) k ≡ Some (operand.Bit bit)
whole_there at m b bit range k some is = ap (λ (os : List Operand). slice_get (map (flat_operand at) os) k) (spread_some m b range some) ∙ mapped_bits at (bits_of b.net range) k bit is

-- Assignments, one place after another.

pub inwards_next : (outer inner : Place) (bs : List Bit) (os : List Operand) (k : ℕ) (output : Bit) (input : Operand) → slice_get (map (flat_bit inner.at) bs) k ≡ Some output → slice_get (map (flat_operand outer.at) os) k ≡ Some input
    → map entry_item (inwards outer inner (drop k bs) (drop k os)) ≡ item.Assign output input ∷ map entry_item (inwards outer inner (drop (suc k) bs) (drop (suc k) os))
inwards_next outer inner [] os k output input out is = none_some out
inwards_next outer inner (b ∷ bs) [] k output input out is = none_some is
inwards_next outer inner (b ∷ bs) (o ∷ os) zero output input out is =
    let one : flat_bit inner.at b ≡ output = cc in
    let two : flat_operand outer.at o ≡ input = cc in
    ap (λ (x : Bit). item.Assign x (flat_operand outer.at o) ∷ map entry_item (inwards outer inner bs os)) one ∙ ap (λ (x : Operand). item.Assign output x ∷ map entry_item (inwards outer inner bs os)) two
inwards_next outer inner (b ∷ bs) (o ∷ os) (suc k) output input out is = inwards_next outer inner bs os k output input out is

pub inwards_end : (outer inner : Place) (bs : List Bit) (os : List Operand) (k : ℕ) → min (length bs) (length os) ≤ k → map entry_item (inwards outer inner (drop k bs) (drop k os)) ≡ []
inwards_end outer inner [] os k low = by k
  where
    by : (k : ℕ) → map entry_item (inwards outer inner (drop k []) (drop k os)) ≡ []
    by zero = refl
    by (suc k) = refl
inwards_end outer inner (b ∷ bs) [] zero low = refl
inwards_end outer inner (b ∷ bs) [] (suc k) low = by (drop k bs)
  where
    by : (cs : List Bit) → map entry_item (inwards outer inner cs []) ≡ []
    by [] = refl
    by (c ∷ cs) = refl
inwards_end outer inner (b ∷ bs) (o ∷ os) zero low = absurd (omega (arith, low))
inwards_end outer inner (b ∷ bs) (o ∷ os) (suc k) low = inwards_end outer inner bs os k (omega (arith, low))

-- what an output's bit adds where the operand is this
abbrev pub out_items : Bit → Operand → List Item
out_items input (operand.Bit output) = item.Assign output (operand.Bit input) ∷ []
out_items input (operand.Const value) = []

outward_is : (outer inner : Place) (b : Bit) (o : Operand) → map entry_item (outward outer inner b o) ≡ out_items (flat_bit inner.at b) (flat_operand outer.at o)
outward_is outer inner b (operand.Bit c) = refl
outward_is outer inner b (operand.Const value) = refl

map_joined : (xs ys : List Entry) → map entry_item (xs ++ ys) ≡ map entry_item xs ++ map entry_item ys
map_joined [] ys = refl
map_joined (x ∷ xs) ys = ap (λ (l : List Item). entry_item x ∷ l) (map_joined xs ys)

pub outwards_next : (outer inner : Place) (bs : List Bit) (os : List Operand) (k : ℕ) (input : Bit) (output : Operand) → slice_get (map (flat_bit inner.at) bs) k ≡ Some input → slice_get (map (flat_operand outer.at) os) k ≡ Some output
    → map entry_item (outwards outer inner (drop k bs) (drop k os)) ≡ out_items input output ++ map entry_item (outwards outer inner (drop (suc k) bs) (drop (suc k) os))
outwards_next outer inner [] os k input output out is = none_some out
outwards_next outer inner (b ∷ bs) [] k input output out is = none_some is
outwards_next outer inner (b ∷ bs) (o ∷ os) zero input output out is =
    let one : flat_bit inner.at b ≡ input = cc in
    let two : flat_operand outer.at o ≡ output = cc in
    let rest : List Item = map entry_item (outwards outer inner bs os) in
    map_joined (outward outer inner b o) (outwards outer inner bs os)
    ∙ ap (λ (l : List Item). l ++ rest) (outward_is outer inner b o)
    ∙ ap (λ (x : Bit). out_items x (flat_operand outer.at o) ++ rest) one
    ∙ ap (λ (x : Operand). out_items input x ++ rest) two
outwards_next outer inner (b ∷ bs) (o ∷ os) (suc k) input output out is = outwards_next outer inner bs os k input output out is

pub outwards_end : (outer inner : Place) (bs : List Bit) (os : List Operand) (k : ℕ) → min (length bs) (length os) ≤ k → map entry_item (outwards outer inner (drop k bs) (drop k os)) ≡ []
outwards_end outer inner [] os k low = by k
  where
    by : (k : ℕ) → map entry_item (outwards outer inner (drop k []) (drop k os)) ≡ []
    by zero = refl
    by (suc k) = refl
outwards_end outer inner (b ∷ bs) [] zero low = refl
outwards_end outer inner (b ∷ bs) [] (suc k) low = by (drop k bs)
  where
    by : (cs : List Bit) → map entry_item (outwards outer inner cs []) ≡ []
    by [] = refl
    by (c ∷ cs) = refl
outwards_end outer inner (b ∷ bs) (o ∷ os) zero low = absurd (omega (arith, low))
outwards_end outer inner (b ∷ bs) (o ∷ os) (suc k) low = outwards_end outer inner bs os k (omega (arith, low))

-- What the first link of a port connects.

find_same : {X : Type 0} (p q : X → Bool) → ((x : X) → p x ≡ q x) → (xs : List X) → find p xs ≡ find q xs
find_same p q same [] = refl
find_same {X} p q same (x ∷ xs) = ap (λ (b : Bool). cond b (Some x) (find p xs)) (same x) ∙ ap (λ (o : Option X). cond (q x) (Some x) o) (find_same p q same xs)

named_link : (links : List Link) (port : List ℕ) → find (λ (l : Link). bytes_eq port l.port) links ≡ find (λ (l : Link). bytes_eq l.port port) links
named_link links port = find_same (λ (l : Link). bytes_eq port l.port) (λ (l : Link). bytes_eq l.port port) (λ l. bytes_eq-sym port l.port) links

abbrev operand_of : Option Link → Option Operand
operand_of o = option_and_then (λ (l : Link). l.operand) o

pub link_nowhere : (links : List Link) (port : List ℕ) → None ≡ position (λ (l : Link). bytes_eq port l.port) links → None ≡ linked_operand links port
link_nowhere links port none = ap operand_of (stands_nowhere (λ (l : Link). bytes_eq port l.port) links none) ∙ ap operand_of (named_link links port)

pub link_there : (links : List Link) (port : List ℕ) (i : ℕ) (l : Link) → Some i ≡ position (λ (l : Link). bytes_eq port l.port) links → l ≡ get_or links i l → l.operand ≡ linked_operand links port
link_there links port i l place is = ap operand_of (stands_first (λ (x : Link). bytes_eq port x.port) links i l place is) ∙ ap operand_of (named_link links port)

-- The links of an instance, one port after another.

abbrev pub port_entries : (Dir → Bool) → (List Bit → List Operand → List Entry) → Module → Instance → Port → List Entry
port_entries test join m i p = if test p.dir then option_map_or (λ o. join (bits_of p.name p.range) (spread m o)) (linked_operand i.links p.name) [] else []

pub links_next : (test : Dir → Bool) (join : List Bit → List Operand → List Entry) (m : Module) (i : Instance) (ports : List Port) (k : ℕ) (p : Port) (old new all : List Item) → slice_get ports k ≡ Some p
    → old ++ map entry_item (links_in test join m i (drop k ports)) ≡ all → new ≡ old ++ map entry_item (port_entries test join m i p) → new ++ map entry_item (links_in test join m i (drop (k + 1) ports)) ≡ all
links_next test join m i ports k p old new all at was is =
    let here : List Item = map entry_item (port_entries test join m i p) in
    let rest : List Item = map entry_item (links_in test join m i (drop (suc k) ports)) in
    let more : k + 1 ≡ suc k = omega arith in
    let split : map entry_item (links_in test join m i (drop k ports)) ≡ here ++ rest =
    ap (λ (ps : List Port). map entry_item (links_in test join m i ps)) (left_at ports k p at) ∙ map_joined (port_entries test join m i p) (links_in test join m i (drop (suc k) ports)) in
    ap (λ (n : ℕ). new ++ map entry_item (links_in test join m i (drop n ports))) more
    ∙ ap (λ (l : List Item). l ++ rest) is
    ∙ append_assoc old here rest
    ∙ ap (λ (l : List Item). old ++ l) (sym split)
    ∙ was

pub port_skipped : (test : Dir → Bool) (join : List Bit → List Operand → List Entry) (m : Module) (i : Instance) (p : Port) → test p.dir ≡ false → map entry_item (port_entries test join m i p) ≡ []
port_skipped test join m i p barred = ap (λ (b : Bool). map entry_item (if b then option_map_or (λ o. join (bits_of p.name p.range) (spread m o)) (linked_operand i.links p.name) [] else [])) barred

pub port_empty : (test : Dir → Bool) (join : List Bit → List Operand → List Entry) (m : Module) (i : Instance) (p : Port) → linked_operand i.links p.name ≡ None → map entry_item (port_entries test join m i p) ≡ []
port_empty test join m i p none = ap (λ (l : Option Operand). map entry_item (if test p.dir then option_map_or (λ o. join (bits_of p.name p.range) (spread m o)) l [] else [])) none ∙ by (test p.dir)
  where
    by : (b : Bool) → map entry_item (if b then [] else []) ≡ []
    by true = refl
    by false = refl

pub port_linked : (test : Dir → Bool) (join : List Bit → List Operand → List Entry) (m : Module) (i : Instance) (p : Port) (o : Operand) → test p.dir ≡ true → linked_operand i.links p.name ≡ Some o
    → map entry_item (port_entries test join m i p) ≡ map entry_item (join (bits_of p.name p.range) (spread m o))
port_linked test join m i p o passes some =
    ap (λ (b : Bool). map entry_item (if b then option_map_or (λ x. join (bits_of p.name p.range) (spread m x)) (linked_operand i.links p.name) [] else [])) passes
    ∙ ap (λ (l : Option Operand). map entry_item (option_map_or (λ x. join (bits_of p.name p.range) (spread m x)) l [])) some

-- Loops over the places of a link.

pub in_step : (outer inner : Place) (bs : List Bit) (os : List Operand) (k : ℕ) (output : Bit) (input : Operand) (old new all : List Item) → slice_get (map (flat_bit inner.at) bs) k ≡ Some output → slice_get (map (flat_operand outer.at) os) k ≡ Some input
    → old ++ map entry_item (inwards outer inner (drop k bs) (drop k os)) ≡ all → new ≡ old ++ item.Assign output input ∷ [] → new ++ map entry_item (inwards outer inner (drop (k + 1) bs) (drop (k + 1) os)) ≡ all
in_step outer inner bs os k output input old new all out into was is =
    let rest : List Item = map entry_item (inwards outer inner (drop (suc k) bs) (drop (suc k) os)) in
    let more : k + 1 ≡ suc k = omega arith in
    ap (λ (n : ℕ). new ++ map entry_item (inwards outer inner (drop n bs) (drop n os))) more
    ∙ ap (λ (l : List Item). l ++ rest) is
    ∙ append_assoc old (item.Assign output input ∷ []) rest
    ∙ ap (λ (l : List Item). old ++ l) (sym (inwards_next outer inner bs os k output input out into))
    ∙ was

pub in_end : (outer inner : Place) (bs : List Bit) (os : List Operand) (k : ℕ) (old all : List Item) → min (length bs) (length os) ≤ k → old ++ map entry_item (inwards outer inner (drop k bs) (drop k os)) ≡ all → old ≡ all
in_end outer inner bs os k old all low was = sym (append-nil old) ∙ ap (λ (l : List Item). old ++ l) (sym (inwards_end outer inner bs os k low)) ∙ was

pub out_step : (outer inner : Place) (bs : List Bit) (os : List Operand) (k : ℕ) (input : Bit) (output : Operand) (old new all : List Item) → slice_get (map (flat_bit inner.at) bs) k ≡ Some input → slice_get (map (flat_operand outer.at) os) k ≡ Some output
    → old ++ map entry_item (outwards outer inner (drop k bs) (drop k os)) ≡ all → new ≡ old ++ out_items input output → new ++ map entry_item (outwards outer inner (drop (k + 1) bs) (drop (k + 1) os)) ≡ all
out_step outer inner bs os k input output old new all into out was is =
    let rest : List Item = map entry_item (outwards outer inner (drop (suc k) bs) (drop (suc k) os)) in
    let more : k + 1 ≡ suc k = omega arith in
    ap (λ (n : ℕ). new ++ map entry_item (outwards outer inner (drop n bs) (drop n os))) more
    ∙ ap (λ (l : List Item). l ++ rest) is
    ∙ append_assoc old (out_items input output) rest
    ∙ ap (λ (l : List Item). old ++ l) (sym (outwards_next outer inner bs os k input output into out))
    ∙ was

pub out_end : (outer inner : Place) (bs : List Bit) (os : List Operand) (k : ℕ) (old all : List Item) → min (length bs) (length os) ≤ k → old ++ map entry_item (outwards outer inner (drop k bs) (drop k os)) ≡ all → old ≡ all
out_end outer inner bs os k old all low was = sym (append-nil old) ∙ ap (λ (l : List Item). old ++ l) (sym (outwards_end outer inner bs os k low)) ∙ was

-- no port is left
pub links_end : (test : Dir → Bool) (join : List Bit → List Operand → List Entry) (m : Module) (i : Instance) (ports : List Port) (k : ℕ) (old all : List Item) → length ports ≤ k → old ++ map entry_item (links_in test join m i (drop k ports)) ≡ all → old ≡ all
links_end test join m i ports k old all low was =
    sym (append-nil old) ∙ ap (λ (ps : List Port). old ++ map entry_item (links_in test join m i ps)) (sym (none_left ports k low)) ∙ was

-- as many places as both sides have
pub count_is : (m : Module) (name : List ℕ) (range : Option Range) (o : Operand) (w n count : ℕ) → w ≡ width range → n ≡ length (spread m o) → count ≡ min w n → min (length (bits_of name range)) (length (spread m o)) ≡ count
count_is m name range o w n count wide many is = let bits = length-bits_of name range in omega (arith, bits, wide, many, is)

-- A bit by its parts.

pub bit_made : (at : List (List ℕ)) (name : List ℕ) (range : Option Range) (k : ℕ) (net : List ℕ) (index : Option ℕ) → k < width range → net ≡ flat_name at name → index ≡ index_at range k
    → slice_get (map (flat_bit at) (bits_of name range)) k ≡ Some (record { net = net; index = index })
bit_made at name range k net index low named indexed = bit_there at name range k low ∙ by net named index indexed
  where
    by : (n : List ℕ) → n ≡ flat_name at name → (i : Option ℕ) → i ≡ index_at range k → Some (bit_of (flat_name at name) range k) ≡ Some (record { net = n; index = i })
    by n e i f = ap (λ (x : List ℕ). Some (bit_of x range k)) (sym e) ∙ ap (λ (x : Option ℕ). let b : Bit = record { net = n; index = x } in Some b) (sym f)
