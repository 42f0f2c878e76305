-- A link without fault has its port's bits, and they join to it again.
use Rattle.std.proofs.Common.{◌≡◌, ℕ, zero, suc, ◌<◌, ◌≤◌, ◌==◌, ◌||◌, Bool, true, false, not, List, [], ◌∷◌, ◌++◌, map, length, Option, Some, None, refl, sym, ap, subst, ◌∙◌, arith, eqb-true, if◌then◌else◌}
use Rattle.std.specs.Prelude.{option_and_then}
use Rattle.std.specs.List.{AllByRecursion}
use Rattle.std.specs.Option.{option_map, option_map_or, option_or}
use Rattle.std.specs.Str.{bytes_eq}
use Rattle.std.proofs.lemmas.List.{length-map}
use Rattle.std.proofs.lemmas.Slice.Eq.{bytes_eq-Decides}
use Rattle.list_laws.proofs.Bytes.{bytes_eq-same}
use Rattle.list_laws.proofs.Lists.{length-counted_from}
use Rattle.list_laws.proofs.Tests.{and_left, and_right, or_second, not_false}
use Rattle.list_laws.proofs.Options.{not_there}
use Rattle.verilog_tree.specs.declared.tree.Range.{Range}
use Rattle.verilog_tree.specs.declared.tree.Bit.{Bit}
use Rattle.verilog_tree.specs.declared.tree.Operand.{Operand}
use Rattle.verilog_tree.specs.declared.tree.Operand.TheVariants as operand
use Rattle.verilog_tree.specs.declared.tree.Link.{Link}
use Rattle.verilog_tree.specs.declared.tree.Module.{Module}
use Rattle.link_model.specs.Lists.{has_name}
use Rattle.link_model.specs.Nets.{Declared, width, counted_from, declared_nets, declared_names, declared_as, index_at}
use Rattle.box_model.specs.declared.boxes.BoxPort.{BoxPort}
use Rattle.box_model.specs.declared.boxes.BoxDir.{BoxDir}
use Rattle.box_model.specs.declared.boxes.BoxDir.TheVariants.{Takes, Gives}
use Rattle.box_model.specs.Ports.{bits_of, linked_to}
use Rattle.box_model.specs.Opened.{whole_bits, link_bits}
use Rattle.box_model.specs.Closed.{are_bits, whole_if, joint, whole_net}
use Rattle.box_model.specs.Faults.{gives, holds_index, fits_net, fits_operand, port_named, is_bad_link, bad_link}
use Rattle.box_model.proofs.Counting.{times, AreOnce, all_to}
use Rattle.box_model.proofs.Ranges.{net_range, declared_range}
use Rattle.box_model.proofs.Runs.{CanBeLinked, AllLinked, same_bit_self}

pub width_pos : (range : Option Range) → 0 < width range
width_pos None = omega arith
width_pos (Some r) = omega arith

pub length-bits_of : (name : List ℕ) (range : Option Range) → length (bits_of name range) ≡ width range
length-bits_of name range = length-map (counted_from 0 (width range)) (λ (k : ℕ). record { net = name; index = index_at range k }) ∙ length-counted_from 0 (width range)

const_can : (d : BoxDir) (value : Bool) → not (gives d) ≡ true → CanBeLinked d (operand.Const value)
const_can Gives value h = absurd (cc)
const_can Takes value h = tt

pub bits_can : (d : BoxDir) (bits : List Bit) → AllLinked d (map (λ b. operand.Bit b) bits)
bits_can d [] = tt
bits_can Gives (b ∷ bits) = (tt, bits_can Gives bits)
bits_can Takes (b ∷ bits) = (tt, bits_can Takes bits)

pub fits_linked : (m : Module) (p : BoxPort) (o : Operand) → fits_operand m p o ≡ true → AllLinked p.dir (link_bits m p o)
fits_linked m p (operand.Const value) h = (const_can p.dir value (and_left (not (gives p.dir)) (width p.range == 1) h), tt)
fits_linked m p (operand.Bit b) h = by (width p.range == 1)
  where
    whole : (d : Option Declared) → AllLinked p.dir (whole_bits b d)
    whole None = bits_can p.dir (b ∷ [])
    whole (Some d) = bits_can p.dir (bits_of b.net d.range)

    by : (one : Bool) → AllLinked p.dir (if one then operand.Bit b ∷ [] else whole_bits b (declared_as (declared_names m) b.net))
    by true = bits_can p.dir (b ∷ [])
    by false = whole (declared_as (declared_names m) b.net)

pub fits_wide : (m : Module) (p : BoxPort) (o : Operand) → fits_operand m p o ≡ true → length (link_bits m p o) ≡ width p.range
fits_wide m p (operand.Const value) h = sym (eqb-true (width p.range) 1 (and_right (not (gives p.dir)) (width p.range == 1) h))
fits_wide m p (operand.Bit b) h = by (width p.range == 1) refl
  where
    index : (d : Declared) (k : Option ℕ) → (width p.range == 1) ≡ false → fits_net p k d ≡ true → length (map (λ c. operand.Bit c) (bits_of b.net d.range)) ≡ width p.range
    index d None many fits = length-map (bits_of b.net d.range) (λ (c : Bit). operand.Bit c) ∙ length-bits_of b.net d.range ∙ eqb-true (width d.range) (width p.range) fits
    index d (Some k) many fits = absurd (let one = and_left (width p.range == 1) (holds_index d.range k) fits in cc)

    whole : (d : Option Declared) → (width p.range == 1) ≡ false → option_map_or (fits_net p b.index) d false ≡ true → length (whole_bits b d) ≡ width p.range
    whole None many fits = absurd (cc)
    whole (Some d) many fits = index d b.index many fits

    by : (one : Bool) → (width p.range == 1) ≡ one → length (if one then operand.Bit b ∷ [] else whole_bits b (declared_as (declared_names m) b.net)) ≡ width p.range
    by true e = sym (eqb-true (width p.range) 1 e)
    by false e = whole (declared_as (declared_names m) b.net) e h

-- Joining bits.

pub are_bits_self : (bits : List Bit) → are_bits bits (map (λ b. operand.Bit b) bits) ≡ true
are_bits_self [] = refl
are_bits_self (b ∷ bits) = rw (same_bit_self b) (are_bits_self bits)

-- two or more bits of one net, from the left, join to the vector
whole_again : (m : Module) (name : List ℕ) (range : Option Range) (d : Declared) (w : ℕ) → width range ≡ suc (suc w) → declared_as (declared_names m) name ≡ Some d → d.range ≡ range
    → joint m false (map (λ c. operand.Bit c) (bits_of name range)) ≡ Some (whole_net name)
whole_again m name range d w wide there same =
    let bit : ℕ → Bit = λ k. record { net = name; index = index_at range k } in
    let two : List Bit = bit 0 ∷ bit 1 ∷ map bit (counted_from 2 w) in
    let os : List Operand = map (λ (c : Bit). operand.Bit c) two in
    let laid : bits_of name range ≡ two = ap (λ (n : ℕ). map bit (counted_from 0 n)) wide in
    ap (λ (bits : List Bit). joint m false (map (λ c. operand.Bit c) bits)) laid
    ∙ ap (option_and_then (whole_if name os)) there
    ∙ ap (λ (r : Option Range). if are_bits (bits_of name r) os then Some (whole_net name) else None) same
    ∙ ap (λ (bits : List Bit). if are_bits bits os then Some (whole_net name) else None) laid
    ∙ ap (λ (t : Bool). if t then Some (whole_net name) else None) (are_bits_self two)

two_or_more : (n : ℕ) → 0 < n → (n == 1) ≡ false → (w : ℕ) × (n ≡ suc (suc w))
two_or_more zero pos many = absurd (omega arith)
two_or_more (suc zero) pos many = absurd (cc)
two_or_more (suc (suc w)) pos many = (w, refl)

-- a net has the same range in both modules
abbrev pub SameRange : Module → Module → Operand → Type 0
SameRange m m' (operand.Const value) = Unit {0}
SameRange m m' (operand.Bit b) = net_range b.net (declared_nets m') ≡ net_range b.net (declared_nets m)

pub range_there : (m m' : Module) (name : List ℕ) (d : Declared) → declared_as (declared_names m) name ≡ Some d → net_range name (declared_nets m') ≡ net_range name (declared_nets m)
    → (d' : Declared) × (declared_as (declared_names m') name ≡ Some d') × (d'.range ≡ d.range)
range_there m m' name d there same = found (declared_as (declared_names m') name) refl
  where
    ranges : option_map (λ (e : Declared). e.range) (declared_as (declared_names m') name) ≡ Some d.range
    ranges = declared_range m' name ∙ same ∙ sym (declared_range m name) ∙ ap (option_map (λ (e : Declared). e.range)) there

    found : (o : Option Declared) → declared_as (declared_names m') name ≡ o → (d' : Declared) × (declared_as (declared_names m') name ≡ Some d') × (d'.range ≡ d.range)
    found None e = absurd (let none = sym (ap (option_map (λ (e : Declared). e.range)) e) ∙ ranges in cc)
    found (Some d') e = let some = sym (ap (option_map (λ (e : Declared). e.range)) e) ∙ ranges in (d', e, cc)

pub fits_whole : (m m' : Module) (p : BoxPort) (o : Operand) → fits_operand m p o ≡ true → SameRange m m' o → joint m' false (link_bits m p o) ≡ Some o
fits_whole m m' p (operand.Const value) h same = refl
fits_whole m m' p (operand.Bit b) h same = by (width p.range == 1) refl
  where
    index : (d : Declared) → declared_as (declared_names m) b.net ≡ Some d → (k : Option ℕ) → b.index ≡ k → (width p.range == 1) ≡ false → fits_net p k d ≡ true
        → joint m' false (map (λ c. operand.Bit c) (bits_of b.net d.range)) ≡ Some (operand.Bit b)
    index d there (Some k) at many fits = absurd (let one = and_left (width p.range == 1) (holds_index d.range k) fits in cc)
    index d there None at many fits =
        let wide = eqb-true (width d.range) (width p.range) fits in
        let w = two_or_more (width p.range) (width_pos p.range) many in
        let d' = range_there m m' b.net d there same in
        whole_again m' b.net d.range d'.0 w.0 (wide ∙ w.1) d'.1 d'.2 ∙ ap (λ (k : Option ℕ). Some (operand.Bit (record { net = b.net; index = k }))) (sym at)

    whole : (d : Option Declared) → declared_as (declared_names m) b.net ≡ d → (width p.range == 1) ≡ false → option_map_or (fits_net p b.index) d false ≡ true
        → joint m' false (whole_bits b d) ≡ Some (operand.Bit b)
    whole None there many fits = absurd (cc)
    whole (Some d) there many fits = index d there b.index refl many fits

    by : (one : Bool) → (width p.range == 1) ≡ one → joint m' false (if one then operand.Bit b ∷ [] else whole_bits b (declared_as (declared_names m) b.net)) ≡ Some (operand.Bit b)
    by true e = refl
    by false e = whole (declared_as (declared_names m) b.net) refl e h

-- Links without fault.

pub links_fit : (m : Module) (ports : List BoxPort) (whole : Bool) (had : List (List ℕ)) (links : List Link) → bad_link m ports whole had links ≡ None
    → (p : BoxPort) → port_named ports p.name ≡ Some p → (o : Operand) → linked_to links p.name ≡ Some o → fits_operand m p o ≡ true
links_fit m ports whole had [] h p named o e = absurd (cc)
links_fit m ports whole had (l ∷ links) h p named o e =
    let parts = not_there (is_bad_link m ports whole had l) l.port (bad_link m ports whole (had ++ l.port ∷ []) links) h in
    by (bytes_eq l.port p.name) refl parts.0 (links_fit m ports whole (had ++ l.port ∷ []) links parts.1 p named o) e
  where
    good : (x : Operand) → l.operand ≡ Some x → l.port ≡ p.name → is_bad_link m ports whole had l ≡ false → fits_operand m p x ≡ true
    good x is same fine =
        let there : port_named ports l.port ≡ Some p = ap (port_named ports) same ∙ named in
        let told = sym (ap (λ (q : Option BoxPort). option_map_or (λ q. has_name had l.port || option_map_or (λ y. not (fits_operand m q y)) l.operand false) q whole) there) ∙ fine in
        let more = or_second (has_name had l.port) (option_map_or (λ y. not (fits_operand m p y)) l.operand false) told in
        not_false (fits_operand m p x) (sym (ap (λ (q : Option Operand). option_map_or (λ y. not (fits_operand m p y)) q false) is) ∙ more)

    here : (x : Option Operand) → l.operand ≡ x → l.port ≡ p.name → is_bad_link m ports whole had l ≡ false → (linked_to links p.name ≡ Some o → fits_operand m p o ≡ true)
        → option_or x (linked_to links p.name) ≡ Some o → fits_operand m p o ≡ true
    here None is same fine rest k = rest k
    here (Some x) is same fine rest k = let it : x ≡ o = cc in subst (λ (y : Operand). fits_operand m p y ≡ true) it (good x is same fine)

    by : (b : Bool) → bytes_eq l.port p.name ≡ b → is_bad_link m ports whole had l ≡ false → (linked_to links p.name ≡ Some o → fits_operand m p o ≡ true)
        → (if b then option_or l.operand (linked_to links p.name) else linked_to links p.name) ≡ Some o → fits_operand m p o ≡ true
    by true t fine rest k = here l.operand refl ((bytes_eq-Decides l.port p.name).0 t) fine rest k
    by false t fine rest k = rest k

-- where no two ports have one name, each is found under its own
pub each_named : (ports : List BoxPort) → AreOnce (map (λ (p : BoxPort). p.name) ports) → AllByRecursion (λ (p : BoxPort). port_named ports p.name ≡ Some p) ports
each_named [] once = tt
each_named (q ∷ ports) once = (ap (λ (b : Bool). if b then Some q else port_named ports q.name) (bytes_eq-same q.name), behind ports (there ports) (each_named ports (λ name. let all = once name in omega arith)))
  where
    there : (ps : List BoxPort) → AllByRecursion (λ (p : BoxPort). 1 ≤ times p.name (map (λ (r : BoxPort). r.name) ps)) ps
    there [] = tt
    there (p ∷ ps) = (rw (bytes_eq-same p.name) (omega arith), all_to ps (λ r below. omega arith) (there ps))

    other : (p : BoxPort) → 1 ≤ times p.name (map (λ (r : BoxPort). r.name) ports) → port_named ports p.name ≡ Some p → port_named (q ∷ ports) p.name ≡ Some p
    other p here found = by (bytes_eq q.name p.name) refl
      where
        by : (b : Bool) → bytes_eq q.name p.name ≡ b → (if b then Some q else port_named ports p.name) ≡ Some p
        by true t =
            let same : p.name ≡ q.name = sym ((bytes_eq-Decides q.name p.name).0 t) in
            let twice = once p.name in
            let head : bytes_eq p.name q.name ≡ true = (bytes_eq-Decides p.name q.name).1 same in
            absurd (let all = rw head at twice in omega arith)
        by false t = found

    behind : (ps : List BoxPort) → AllByRecursion (λ (p : BoxPort). 1 ≤ times p.name (map (λ (r : BoxPort). r.name) ports)) ps → AllByRecursion (λ (p : BoxPort). port_named ports p.name ≡ Some p) ps
        → AllByRecursion (λ (p : BoxPort). port_named (q ∷ ports) p.name ≡ Some p) ps
    behind [] one all = tt
    behind (p ∷ ps) one all = (other p one.0 all.0, behind ps one.1 all.1)
