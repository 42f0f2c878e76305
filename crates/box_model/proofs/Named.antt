-- How often the items of an opened module name a hidden port.
use Rattle.std.proofs.Common.{◌≡◌, ℕ, zero, suc, ◌+◌, ◌≤◌, Bool, true, false, not, cond, List, [], ◌∷◌, ◌++◌, map, length, Option, Some, None, refl, sym, ap, ◌∙◌, arith, if◌then◌else◌, ◌==◌}
use Rattle.std.specs.Prelude.{filter}
use Rattle.std.specs.List.{flat_map, filter_map, cons_option, AllByRecursion}
use Rattle.std.specs.Option.{option_map, option_map_or, option_or}
use Rattle.std.specs.Str.{bytes_eq}
use Rattle.std.proofs.lemmas.List.Concat.{flat_map-append}
use Rattle.verilog_tree.specs.declared.tree.Range.{Range}
use Rattle.verilog_tree.specs.declared.tree.Bit.{Bit}
use Rattle.verilog_tree.specs.declared.tree.Operand.{Operand}
use Rattle.verilog_tree.specs.declared.tree.Operand.TheVariants as operand
use Rattle.verilog_tree.specs.declared.tree.Link.{Link}
use Rattle.verilog_tree.specs.declared.tree.Port.{Port}
use Rattle.verilog_tree.specs.declared.tree.Instance.{Instance}
use Rattle.verilog_tree.specs.declared.tree.Item.{Item}
use Rattle.verilog_tree.specs.declared.tree.Item.TheVariants as item
use Rattle.verilog_tree.specs.declared.tree.Module.{Module}
use Rattle.link_model.specs.Nets.{Declared, width, counted_from, declared_names, declared_as, index_at}
use Rattle.box_model.specs.declared.boxes.BoxLibrary.{BoxLibrary}
use Rattle.box_model.specs.declared.boxes.BoxPort.{BoxPort}
use Rattle.box_model.specs.declared.boxes.BoxDir.{BoxDir}
use Rattle.box_model.specs.declared.boxes.BoxDir.TheVariants.{Takes, Gives}
use Rattle.box_model.specs.Ports.{cut_ports, hidden_name, hidden_port, hidden_bits, bits_of, linked_to, is_port_of, other_links}
use Rattle.box_model.specs.Opened.{is_joined, whole_bits, link_bits, assigns, port_items, opened_instance, opened_item, hidden_at, item_ports}
use Rattle.box_model.specs.Faults.{operand_name, linked_name, named_by}
use Rattle.box_model.proofs.Counting.{times, times-append, weight_of, weight-append}
use Rattle.box_model.proofs.Runs.{AllLinked}
use Rattle.box_model.proofs.LinkFits.{length-bits_of}

-- a link that is opened: it isn't joined, and its bits are as many as the port's
pub record Opens (m : Module) (i : Instance) (p : BoxPort) (o : Operand) : Type 0 where
  pub apart : is_joined m i p o ≡ false
  pub linked : AllLinked p.dir (link_bits m p o)
  pub wide : length (link_bits m p o) ≡ width p.range

abbrev pub PortOpens : Module → Instance → BoxPort → Type 0
PortOpens m i p = (o : Operand) → linked_to i.links p.name ≡ Some o → Opens m i p o

abbrev pub ItemOpens : BoxLibrary → Module → Item → Type 0
ItemOpens B m (item.Instance i) = (ports : List BoxPort) → cut_ports B i ≡ Some ports → AllByRecursion (PortOpens m i) ports
ItemOpens B m (item.Gate g) = Unit {0}
ItemOpens B m (item.Assign output input) = Unit {0}

-- Bits.

bits_counted : (name other : List ℕ) (range : Option Range) (first count : ℕ)
    → times name (map (λ (b : Bit). b.net) (map (λ (k : ℕ). record { net = other; index = index_at range k }) (counted_from first count))) ≡ cond (bytes_eq name other) count 0
bits_counted name other range first zero = by (bytes_eq name other)
  where
    by : (b : Bool) → ◌≡◌ {A = ℕ} 0 (cond b 0 0)
    by true = refl
    by false = refl
bits_counted name other range first (suc count) = by (bytes_eq name other) (bits_counted name other range (suc first) count)
  where
    rest : ℕ
    rest = times name (map (λ (b : Bit). b.net) (map (λ (k : ℕ). record { net = other; index = index_at range k }) (counted_from (suc first) count)))

    by : (b : Bool) → times name (map (λ (b : Bit). b.net) (map (λ (k : ℕ). record { net = other; index = index_at range k }) (counted_from (suc first) count))) ≡ cond b count 0
        → cond b 1 0 + times name (map (λ (b : Bit). b.net) (map (λ (k : ℕ). record { net = other; index = index_at range k }) (counted_from (suc first) count))) ≡ cond b (suc count) 0
    by true e = omega (arith, e)
    by false e = omega (arith, e)

pub hidden_counted : (name : List ℕ) (i : Instance) (p : BoxPort) → times name (map (λ (b : Bit). b.net) (hidden_bits i p)) ≡ cond (bytes_eq name (hidden_name i.name p.name)) (width p.range) 0
hidden_counted name i p = bits_counted name (hidden_name i.name p.name) p.range 0 (width p.range)

-- Operands.

abbrev pub operand_names : List Operand → List (List ℕ)
operand_names os = flat_map operand_name os

bits_unnamed : (name : List ℕ) (bits : List Bit) → times name (map (λ (b : Bit). b.net) bits) ≡ 0 → times name (operand_names (map (λ b. operand.Bit b) bits)) ≡ 0
bits_unnamed name [] none = refl
bits_unnamed name (b ∷ bits) none = omega (arith, bits_unnamed name bits (omega arith))

-- a link's bits name what the link names
pub link_unnamed : (name : List ℕ) (m : Module) (p : BoxPort) (o : Operand) → times name (operand_name o) ≡ 0 → times name (operand_names (link_bits m p o)) ≡ 0
link_unnamed name m p (operand.Const value) none = refl
link_unnamed name m p (operand.Bit b) none = by (width p.range == 1)
  where
    other : bytes_eq name b.net ≡ false
    other = never (bytes_eq name b.net) none
      where
        never : (t : Bool) → cond t 1 0 + 0 ≡ 0 → t ≡ false
        never true k = absurd (omega arith)
        never false k = refl

    whole : (d : Option Declared) → times name (operand_names (whole_bits b d)) ≡ 0
    whole None = none
    whole (Some d) = bits_unnamed name (bits_of b.net d.range) (bits_counted name b.net d.range 0 (width d.range) ∙ ap (λ (t : Bool). cond t (width d.range) 0) other)

    by : (one : Bool) → times name (operand_names (if one then operand.Bit b ∷ [] else whole_bits b (declared_as (declared_names m) b.net))) ≡ 0
    by true = none
    by false = whole (declared_as (declared_names m) b.net)

-- Assigns.

pub assigns_named : (name : List ℕ) (d : BoxDir) (bs : List Bit) (os : List Operand) → AllLinked d os → length os ≡ length bs
    → times name (flat_map named_by (assigns d bs os)) ≡ times name (map (λ (b : Bit). b.net) bs) + times name (operand_names os)
assigns_named name d [] [] all same = refl
assigns_named name d [] (o ∷ os) all same = absurd (cc)
assigns_named name d (b ∷ bs) [] all same = absurd (cc)
assigns_named name Gives (b ∷ bs) (operand.Bit c ∷ os) all same = omega (arith, assigns_named name Gives bs os all.1 (cc))
assigns_named name Gives (b ∷ bs) (operand.Const value ∷ os) all same = absurd all.0
assigns_named name Takes (b ∷ bs) (operand.Bit c ∷ os) all same = omega (arith, assigns_named name Takes bs os all.1 (cc))
assigns_named name Takes (b ∷ bs) (operand.Const value ∷ os) all same = omega (arith, assigns_named name Takes bs os all.1 (cc))

-- Links.

pub kept_named : {X : Type 0} (name : List ℕ) (f : X → List (List ℕ)) (test : X → Bool) (xs : List X) → times name (flat_map f (filter test xs)) ≤ times name (flat_map f xs)
kept_named name f test [] = omega arith
kept_named name f test (x ∷ xs) = by (test x) (kept_named name f test xs)
  where
    by : (b : Bool) → times name (flat_map f (filter test xs)) ≤ times name (flat_map f xs) → times name (flat_map f (cond b (x ∷ filter test xs) (filter test xs))) ≤ times name (f x ++ flat_map f xs)
    by true less = omega (arith, times-append name (f x) (flat_map f (filter test xs)), times-append name (f x) (flat_map f xs))
    by false less = omega (arith, times-append name (f x) (flat_map f xs))

pub linked_named : (name port : List ℕ) (links : List Link) (o : Operand) → linked_to links port ≡ Some o → times name (operand_name o) ≤ times name (flat_map linked_name links)
linked_named name port [] o e = absurd (cc)
linked_named name port (l ∷ links) o e = by (bytes_eq l.port port) (linked_named name port links o) e
  where
    split : times name (linked_name l ++ flat_map linked_name links) ≡ times name (linked_name l) + times name (flat_map linked_name links)
    split = times-append name (linked_name l) (flat_map linked_name links)

    here : (x : Option Operand) → l.operand ≡ x → (linked_to links port ≡ Some o → times name (operand_name o) ≤ times name (flat_map linked_name links)) → option_or x (linked_to links port) ≡ Some o
        → times name (operand_name o) ≤ times name (linked_name l ++ flat_map linked_name links)
    here None is rest k = let less = rest k in omega (arith, split)
    here (Some x) is rest k =
        let it : x ≡ o = cc in
        let named : linked_name l ≡ operand_name o = ap (λ (y : Option Operand). option_map_or operand_name y []) is ∙ ap operand_name it in
        omega (arith, split, ap (times name) named)

    by : (b : Bool) → (linked_to links port ≡ Some o → times name (operand_name o) ≤ times name (flat_map linked_name links)) → (if b then option_or l.operand (linked_to links port) else linked_to links port) ≡ Some o
        → times name (operand_name o) ≤ times name (linked_name l ++ flat_map linked_name links)
    by true rest k = here l.operand refl rest k
    by false rest k = let less = rest k in omega (arith, split)

-- The opened items.

abbrev pub port_name : Port → List ℕ
port_name q = q.name

abbrev pub port_width : Port → ℕ
port_width q = width q.range

abbrev pub port_weight : List ℕ → List Port → ℕ
port_weight name ports = weight_of port_name port_width name ports

port_named_in : (name : List ℕ) (m : Module) (i : Instance) (p : BoxPort) → times name (flat_map linked_name i.links) ≡ 0 → PortOpens m i p → (rest : List Port)
    → times name (flat_map named_by (port_items m i p)) + port_weight name rest ≡ port_weight name (cons_option (hidden_at i p) rest)
port_named_in name m i p none opens rest = by (linked_to i.links p.name) refl
  where
    by : (o : Option Operand) → linked_to i.links p.name ≡ o
        → times name (flat_map named_by (option_map_or (λ o. if is_joined m i p o then [] else assigns p.dir (hidden_bits i p) (link_bits m p o)) o [])) + port_weight name rest
        ≡ port_weight name (cons_option (option_map (λ (x : Operand). hidden_port i p) o) rest)
    by None e = omega arith
    by (Some o) e =
        let here = opens o e in
        let less = linked_named name p.name i.links o e in
        let unnamed = link_unnamed name m p o (omega arith) in
        let all = assigns_named name p.dir (hidden_bits i p) (link_bits m p o) here.linked (here.wide ∙ sym (length-bits_of (hidden_name i.name p.name) p.range)) in
        rw here.apart (omega (arith, all, hidden_counted name i p))

ports_named_in : (name : List ℕ) (m : Module) (i : Instance) (ports : List BoxPort) → times name (flat_map linked_name i.links) ≡ 0 → AllByRecursion (PortOpens m i) ports
    → times name (flat_map named_by (flat_map (port_items m i) ports)) ≡ port_weight name (filter_map (hidden_at i) ports)
ports_named_in name m i [] none all = refl
ports_named_in name m i (p ∷ ports) none all =
    ap (times name) (flat_map-append named_by (port_items m i p) (flat_map (port_items m i) ports))
    ∙ times-append name (flat_map named_by (port_items m i p)) (flat_map named_by (flat_map (port_items m i) ports))
    ∙ ap (λ (k : ℕ). times name (flat_map named_by (port_items m i p)) + k) (ports_named_in name m i ports none all.1)
    ∙ port_named_in name m i p none all.0 (filter_map (hidden_at i) ports)

item_named_in : (B : BoxLibrary) (name : List ℕ) (m : Module) (x : Item) → times name (named_by x) ≡ 0 → ItemOpens B m x
    → times name (flat_map named_by (opened_item B m x)) ≡ port_weight name (item_ports B x)
item_named_in B name m (item.Gate g) none opens = times-append name (named_by (item.Gate g)) [] ∙ omega arith
item_named_in B name m (item.Assign output input) none opens = times-append name (named_by (item.Assign output input)) [] ∙ omega arith
item_named_in B name m (item.Instance i) none opens = by (cut_ports B i) refl
  where
    by : (o : Option (List BoxPort)) → cut_ports B i ≡ o
        → times name (flat_map named_by (option_map_or (opened_instance m i) o (item.Instance i ∷ []))) ≡ port_weight name (option_map_or (filter_map (hidden_at i)) o [])
    by None e = times-append name (flat_map linked_name i.links) [] ∙ omega arith
    by (Some ports) e =
        let kept = kept_named name linked_name (λ l. not (is_port_of ports l)) i.links in
        times-append name (flat_map linked_name (other_links ports i.links)) (flat_map named_by (flat_map (port_items m i) ports))
        ∙ omega (arith, kept, ports_named_in name m i ports none (opens ports e))

-- nothing else names the hidden ports
pub named_in_opened : (B : BoxLibrary) (name : List ℕ) (m : Module) (items : List Item) → times name (flat_map named_by items) ≡ 0 → AllByRecursion (ItemOpens B m) items
    → times name (flat_map named_by (flat_map (opened_item B m) items)) ≡ port_weight name (flat_map (item_ports B) items)
named_in_opened B name m [] none all = refl
named_in_opened B name m (x ∷ items) none all =
    let split = times-append name (named_by x) (flat_map named_by items) in
    ap (times name) (flat_map-append named_by (opened_item B m x) (flat_map (opened_item B m) items))
    ∙ times-append name (flat_map named_by (opened_item B m x)) (flat_map named_by (flat_map (opened_item B m) items))
    ∙ ap (λ (k : ℕ). times name (flat_map named_by (opened_item B m x)) + k) (named_in_opened B name m items (omega (arith, split)) all.1)
    ∙ ap (λ (k : ℕ). k + port_weight name (flat_map (item_ports B) items)) (item_named_in B name m x (omega (arith, split)) all.0)
    ∙ sym (weight-append port_name port_width name (item_ports B x) (flat_map (item_ports B) items))
