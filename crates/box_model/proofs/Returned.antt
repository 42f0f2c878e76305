-- A module whose boxes are without fault, and of which no port is joined, is given back.
use Rattle.std.proofs.Common.{◌≡◌, ℕ, suc, ◌+◌, ◌≤◌, Bool, true, false, not, cond, List, [], ◌∷◌, ◌++◌, map, length, Option, Some, None, is_some, refl, sym, ap, subst, ◌∙◌, arith}
use Rattle.std.specs.Prelude.{slice_get, option_and_then}
use Rattle.std.specs.List.{flat_map, filter_map, cons_option, AllByRecursion}
use Rattle.std.specs.Option.{option_map, option_map_or, option_or}
use Rattle.std.specs.Str.{bytes_eq}
use Rattle.std.proofs.lemmas.Slice.Eq.{bytes_eq-Decides}
use Rattle.list_laws.proofs.Bytes.{bytes_eq-same}
use Rattle.list_laws.proofs.Lists.{all_at, all_mapped}
use Rattle.verilog_tree.specs.declared.tree.Range.{Range}
use Rattle.verilog_tree.specs.declared.tree.Operand.{Operand}
use Rattle.verilog_tree.specs.declared.tree.Operand.TheVariants as operand
use Rattle.verilog_tree.specs.declared.tree.Port.{Port}
use Rattle.verilog_tree.specs.declared.tree.Wire.{Wire}
use Rattle.verilog_tree.specs.declared.tree.Instance.{Instance}
use Rattle.verilog_tree.specs.declared.tree.Item.{Item}
use Rattle.verilog_tree.specs.declared.tree.Item.TheVariants as item
use Rattle.verilog_tree.specs.declared.tree.Module.{Module}
use Rattle.link_model.specs.Lists.{has_name}
use Rattle.link_model.specs.Faults.{item_name}
use Rattle.link_model.specs.Nets.{port_nets, wire_nets, declared_nets, width}
use Rattle.box_model.specs.declared.boxes.BoxLibrary.{BoxLibrary}
use Rattle.box_model.specs.declared.boxes.BoxPort.{BoxPort}
use Rattle.box_model.specs.declared.fault.BoxFault.TheVariants.{BoxLink}
use Rattle.box_model.specs.Ports.{box_named, cut_ports, hidden_name, hidden_port, linked_to}
use Rattle.box_model.specs.Opened.{opened, is_joined, hidden_at, item_ports, hidden_ports}
use Rattle.box_model.specs.Closed.{times_named, has_port, is_own}
use Rattle.box_model.specs.Faults.{linked_name, named_by, used_names, Hidden, hidden_of, item_hidden, fits_operand, bad_link, link_fault}
use Rattle.box_model.specs.Laws.{IsUnjoined, ClosedIsBack}
use Rattle.box_model.proofs.Counting.{all_to, all_both, all_parts, times, times-append, none_times, some_times, count-times, at_head, each_there, parts_within, apart_from, AreOnce, each_weight}
use Rattle.box_model.proofs.Between.{filter_between, times_between}
use Rattle.box_model.proofs.Ranges.{net_range, net_range-append, range_between}
use Rattle.box_model.proofs.Back.{GoesBack}
use Rattle.box_model.proofs.Items.{ItemGoesBack}
use Rattle.box_model.proofs.Assigns.{hides-opened}
use Rattle.box_model.proofs.Clear.{name_of, hiddens, IsClear, clear_of, unjoined, unused}
use Rattle.box_model.proofs.LinkFits.{length-bits_of, fits_linked, fits_wide, fits_whole, SameRange, links_fit, each_named}
use Rattle.box_model.proofs.Named.{PortOpens, ItemOpens, linked_named, port_name, port_width, port_weight, named_in_opened}
use Rattle.box_model.proofs.Halves.{unlinked_at, linked_at, item_linked, item_unlinked, map-flat_map, linked_names, halves, has_port_named, hides-hidden}
use Rattle.box_model.proofs.Whole.{closed_back}

-- no fault, and nothing joined
pub record IsPlain (B : BoxLibrary) (m : Module) : Type 0 where
  pub clear : IsClear B m
  pub apart : AllByRecursion (λ (h : Hidden). h.joined ≡ false) (hiddens B m)
  pub unused : AllByRecursion (λ (h : Hidden). times h.name (used_names m) ≡ 0) (hiddens B m)

pub all_by_places : {X : Type 0} (P : X → Type 0) (xs : List X) → ((k : ℕ) (x : X) → slice_get xs k ≡ Some x → P x) → AllByRecursion P xs
all_by_places P [] each = tt
all_by_places P (x ∷ xs) each = (each 0 x refl, all_by_places P xs (λ k y at. each (suc k) y at))

pub all_unmapped : {X Y : Type 0} (P : Y → Type 0) (f : X → Y) (xs : List X) → AllByRecursion P (map f xs) → AllByRecursion (λ x. P (f x)) xs
all_unmapped P f [] all = tt
all_unmapped P f (x ∷ xs) all = (all.0, all_unmapped P f xs all.1)

-- Names that are used are no hidden ones.

pub ports_used : (m : Module) (name : List ℕ) → times name (map port_name m.ports) ≤ times name (used_names m)
ports_used m name =
    omega (arith, times-append name (map port_name m.ports) (map (λ (w : Wire). w.name) m.wires ++ (filter_map item_name m.items ++ flat_map named_by m.items)))

pub items_used : (m : Module) (name : List ℕ) → times name (flat_map named_by m.items) ≤ times name (used_names m)
items_used m name =
    omega (
      arith,
      times-append name (map port_name m.ports) (map (λ (w : Wire). w.name) m.wires ++ (filter_map item_name m.items ++ flat_map named_by m.items)),
      times-append name (map (λ (w : Wire). w.name) m.wires) (filter_map item_name m.items ++ flat_map named_by m.items),
      times-append name (filter_map item_name m.items) (flat_map named_by m.items),
    )

used_apart : (B : BoxLibrary) (m : Module) → IsPlain B m → (name : List ℕ) → 1 ≤ times name (used_names m) → times name (map name_of (hiddens B m)) ≡ 0
used_apart B m plain name there = apart_from (map name_of (hiddens B m)) (used_names m) (all_mapped (λ (n : List ℕ). times n (used_names m) ≡ 0) name_of (hiddens B m) plain.unused) name there

-- Own ports and hidden ones.

own_passes : (B : BoxLibrary) (k : ℕ) (m : Module) → IsPlain B m → AllByRecursion (λ (p : Port). is_own B (opened B k m) p ≡ true) m.ports
own_passes B k m plain = all_to m.ports one (all_unmapped (λ (n : List ℕ). 1 ≤ times n (map port_name m.ports)) port_name m.ports (each_there (map port_name m.ports)))
  where
    one : (p : Port) → 1 ≤ times p.name (map port_name m.ports) → is_own B (opened B k m) p ≡ true
    one p there =
        let apart = used_apart B m plain p.name (omega (arith, ports_used m p.name)) in
        ap not (hides-opened B m p.name m.items ∙ hides-hidden B m p.name m.items ∙ none_times p.name (map name_of (hiddens B m)) apart)

pub hidden_fails : (B : BoxLibrary) (k : ℕ) (m : Module) → AllByRecursion (λ (p : Port). is_own B (opened B k m) p ≡ false) (hidden_ports B m)
hidden_fails B k m = all_to (hidden_ports B m) one (all_unmapped (λ (n : List ℕ). 1 ≤ times n (map port_name (hidden_ports B m))) port_name (hidden_ports B m) (each_there (map port_name (hidden_ports B m))))
  where
    one : (p : Port) → 1 ≤ times p.name (map port_name (hidden_ports B m)) → is_own B (opened B k m) p ≡ false
    one p there =
        ap not (hides-opened B m p.name m.items ∙ hides-hidden B m p.name m.items
        ∙ some_times p.name (map name_of (hiddens B m)) (let split = halves p.name B m m.items in omega arith))

-- An instance.

-- what holds of each hidden name holds of an instance's
pub hidden_at_item : (P : Hidden → Type 0) (B : BoxLibrary) (m : Module) → AllByRecursion P (hiddens B m) → (k : ℕ) (i : Instance) (ports : List BoxPort) → slice_get m.items k ≡ Some (item.Instance i)
    → cut_ports B i ≡ Some ports → AllByRecursion (λ p. P (hidden_of m i p)) ports
hidden_at_item P B m all k i ports at e =
    all_unmapped P (hidden_of m i) ports
    (subst (λ (o : Option (List BoxPort)). AllByRecursion P (option_map_or (map (hidden_of m i)) o [])) e
    (all_at (λ x. AllByRecursion P (item_hidden B m x)) m.items k (item.Instance i) (all_parts P (item_hidden B m) m.items all) at))

-- names of an instance's ports stand once
ports_once : (B : BoxLibrary) (m : Module) → AreOnce (map name_of (hiddens B m)) → (k : ℕ) (i : Instance) (ports : List BoxPort) → slice_get m.items k ≡ Some (item.Instance i)
    → cut_ports B i ≡ Some ports → AreOnce (map (λ (p : BoxPort). p.name) ports)
ports_once B m once k i ports at e name =
    let hidden = hidden_name i.name name in
    let less = all_at (λ x. (n : List ℕ) → times n (map name_of (item_hidden B m x)) ≤ times n (flat_map (λ y. map name_of (item_hidden B m y)) m.items)) m.items k (item.Instance i)
    (parts_within (λ y. map name_of (item_hidden B m y)) m.items) at hidden in
    let here : times hidden (map name_of (map (hidden_of m i) ports)) ≤ times hidden (flat_map (λ y. map name_of (item_hidden B m y)) m.items) =
    subst (λ (o : Option (List BoxPort)). times hidden (map name_of (option_map_or (map (hidden_of m i)) o [])) ≤ times hidden (flat_map (λ y. map name_of (item_hidden B m y)) m.items)) e less in
    let flat : times hidden (map name_of (hiddens B m)) ≡ times hidden (flat_map (λ y. map name_of (item_hidden B m y)) m.items) = ap (times hidden) (map-flat_map name_of (item_hidden B m) m.items) in
    let all = once hidden in
    let few = within ports in
    omega arith
  where
    within : (ps : List BoxPort) → times name (map (λ (p : BoxPort). p.name) ps) ≤ times (hidden_name i.name name) (map name_of (map (hidden_of m i) ps))
    within [] = omega arith
    within (p ∷ ps) = by (bytes_eq name p.name) refl (within ps)
      where
        by : (b : Bool) → bytes_eq name p.name ≡ b → times name (map (λ (q : BoxPort). q.name) ps) ≤ times (hidden_name i.name name) (map name_of (map (hidden_of m i) ps))
            → cond b 1 0 + times name (map (λ (q : BoxPort). q.name) ps)
            ≤ cond (bytes_eq (hidden_name i.name name) (hidden_name i.name p.name)) 1 0 + times (hidden_name i.name name) (map name_of (map (hidden_of m i) ps))
        by true t less =
            let same : bytes_eq (hidden_name i.name name) (hidden_name i.name p.name) ≡ true =
            ap (λ (n : List ℕ). bytes_eq (hidden_name i.name name) (hidden_name i.name n)) (sym ((bytes_eq-Decides name p.name).0 t)) ∙ bytes_eq-same (hidden_name i.name name) in
            rw same (omega arith)
        by false t less = omega arith

pub map_none : {X Y : Type 0} (f : X → Y) (o : Option X) → option_map f o ≡ None → o ≡ None
map_none f None h = refl
map_none f (Some x) h = absurd (cc)

-- each linked port fits
pub each_fits : (B : BoxLibrary) (m : Module) → IsClear B m → (k : ℕ) (i : Instance) (ports : List BoxPort) → slice_get m.items k ≡ Some (item.Instance i) → cut_ports B i ≡ Some ports
    → AllByRecursion (λ (p : BoxPort). (o : Operand) → linked_to i.links p.name ≡ Some o → fits_operand m p o ≡ true) ports
each_fits B m clear k i ports at e =
    let whole = is_some (box_named B i.cell) in
    let none = all_at (λ x. link_fault B m x ≡ None) m.items k (item.Instance i) clear.links at in
    let good = map_none (BoxLink i.name) (bad_link m ports whole [] i.links) (sym (ap (option_and_then (λ ps. option_map (BoxLink i.name) (bad_link m ps whole [] i.links))) e) ∙ none) in
    all_to ports (λ p named o here. links_fit m ports whole [] i.links good p named o here) (each_named ports (ports_once B m clear.once k i ports at e))

-- and isn't joined
pub record LinkedFits (m : Module) (i : Instance) (p : BoxPort) : Type 0 where
  pub fits : (o : Operand) → linked_to i.links p.name ≡ Some o → fits_operand m p o ≡ true
  pub apart : (o : Operand) → linked_to i.links p.name ≡ Some o → is_joined m i p o ≡ false

linked_fits : (B : BoxLibrary) (m : Module) → IsPlain B m → (k : ℕ) (i : Instance) (ports : List BoxPort) → slice_get m.items k ≡ Some (item.Instance i) → cut_ports B i ≡ Some ports → AllByRecursion (LinkedFits m i) ports
linked_fits B m plain k i ports at e = walk ports (each_fits B m plain.clear k i ports at e) (hidden_at_item (λ (h : Hidden). h.joined ≡ false) B m plain.apart k i ports at e)
  where
    walk : (ps : List BoxPort) → AllByRecursion (λ (p : BoxPort). (o : Operand) → linked_to i.links p.name ≡ Some o → fits_operand m p o ≡ true) ps → AllByRecursion (λ (p : BoxPort). (hidden_of m i p).joined ≡ false) ps
        → AllByRecursion (LinkedFits m i) ps
    walk [] fits apart = tt
    walk (p ∷ ps) fits apart =
        (record { fits = fits.0; apart = λ o here. sym (ap (λ (l : Option Operand). option_map_or (is_joined m i p) l false) here) ∙ apart.0 }, walk ps fits.1 apart.1)

opens_of : (m : Module) (i : Instance) (p : BoxPort) → LinkedFits m i p → PortOpens m i p
opens_of m i p fits o here = record { apart = fits.apart o here; linked = fits_linked m p o (fits.fits o here); wide = fits_wide m p o (fits.fits o here) }

all_open : (B : BoxLibrary) (m : Module) → IsPlain B m → AllByRecursion (ItemOpens B m) m.items
all_open B m plain = all_by_places (ItemOpens B m) m.items one
  where
    one : (k : ℕ) (x : Item) → slice_get m.items k ≡ Some x → ItemOpens B m x
    one k (item.Gate g) at = tt
    one k (item.Assign output input) at = tt
    one k (item.Instance i) at = λ ports e. all_to ports (opens_of m i) (linked_fits B m plain k i ports at e)

-- A port goes back.

-- what holds of an instance of the module, and of a port of it
pub record IsThere (B : BoxLibrary) (m : Module) (i : Instance) (p : BoxPort) : Type 0 where
  pub unused : times (hidden_name i.name p.name) (used_names m) ≡ 0
  pub linked : (name : List ℕ) → times name (linked_at i p) ≤ times name (flat_map (item_linked B) m.items)
  pub unlinked : (name : List ℕ) → times name (unlinked_at i p) ≤ times name (flat_map (item_unlinked B) m.items)
  pub weight : (o : Operand) → linked_to i.links p.name ≡ Some o → port_weight (hidden_name i.name p.name) (hidden_ports B m) ≡ width p.range
  pub named : (name : List ℕ) → times name (flat_map linked_name i.links) ≤ times name (used_names m)

hidden_once : (B : BoxLibrary) (m : Module) → IsPlain B m → AreOnce (map port_name (hidden_ports B m))
hidden_once B m plain name = let all = plain.clear.once name in omega (arith, halves name B m m.items)

-- a hidden name that is no port's stands among the opened module's ports exactly where its port is linked
pub port_there : (B : BoxLibrary) (k : ℕ) (m : Module) (i : Instance) (p : BoxPort) → AreOnce (map name_of (hiddens B m)) → times (hidden_name i.name p.name) (map port_name m.ports) ≡ 0
    → ((name : List ℕ) → times name (linked_at i p) ≤ times name (flat_map (item_linked B) m.items)) → ((name : List ℕ) → times name (unlinked_at i p) ≤ times name (flat_map (item_unlinked B) m.items))
    → has_port (opened B k m) (hidden_name i.name p.name) ≡ is_some (linked_to i.links p.name)
port_there B k m i p once none linked unlinked = has_port_named (opened B k m).ports (hidden_name i.name p.name) ∙ by (linked_to i.links p.name) refl
  where
    counted : times (hidden_name i.name p.name) (map port_name (opened B k m).ports) ≡ times (hidden_name i.name p.name) (map port_name (hidden_ports B m))
    counted = omega (arith, times_between (hidden_name i.name p.name) port_name k m.ports (hidden_ports B m))

    by : (o : Option Operand) → linked_to i.links p.name ≡ o → has_name (map port_name (opened B k m).ports) (hidden_name i.name p.name) ≡ is_some o
    by None e =
        let h = hidden_name i.name p.name in
        let here : times h (h ∷ []) ≤ times h (flat_map (item_unlinked B) m.items) =
        subst (λ (o : Option Operand). times h (option_map_or (λ (x : Operand). []) o (h ∷ [])) ≤ times h (flat_map (item_unlinked B) m.items)) e (unlinked h) in
        let one = at_head h [] in
        let all = once h in
        none_times h (map port_name (opened B k m).ports) (omega (arith, counted, halves h B m m.items))
    by (Some o) e =
        let h = hidden_name i.name p.name in
        let here : times h (h ∷ []) ≤ times h (flat_map (item_linked B) m.items) =
        subst (λ (l : Option Operand). times h (option_map_or (λ (x : Operand). h ∷ []) l []) ≤ times h (flat_map (item_linked B) m.items)) e (linked h) in
        let one = at_head h [] in
        some_times h (map port_name (opened B k m).ports) (omega (arith, counted, ap (times h) (linked_names B m.items)))

port_alone : (B : BoxLibrary) (k : ℕ) (m : Module) (i : Instance) (p : BoxPort) → IsPlain B m → IsThere B m i p → (o : Operand) → linked_to i.links p.name ≡ Some o
    → times_named (opened B k m) (hidden_name i.name p.name) ≡ width p.range
port_alone B k m i p plain there o here =
    let name = hidden_name i.name p.name in
    let none = there.unused in
    let less = items_used m name in
    count-times name (flat_map named_by (opened B k m).items) ∙ named_in_opened B name m m.items (omega arith) (all_open B m plain) ∙ there.weight o here

range_same : (B : BoxLibrary) (k : ℕ) (m : Module) → IsPlain B m → IsUnjoined B m → (name : List ℕ) → 1 ≤ times name (used_names m)
    → net_range name (declared_nets (opened B k m)) ≡ net_range name (declared_nets m)
range_same B k m plain unjoined name there =
    let apart = used_apart B m plain name there in
    let none : times name (map port_name (hidden_ports B m)) ≡ 0 = omega (arith, halves name B m m.items) in
    let wires : List Wire → Option (Option Range) = λ ws. net_range name (map wire_nets ws) in
    net_range-append name (map port_nets (opened B k m).ports) (map wire_nets (opened B k m).wires)
    ∙ ap (λ (o : Option (Option Range)). option_or o (wires (opened B k m).wires)) (range_between name k m.ports (hidden_ports B m) none)
    ∙ ap (λ (ws : List Wire). option_or (net_range name (map port_nets m.ports)) (wires ws)) unjoined
    ∙ sym (net_range-append name (map port_nets m.ports) (map wire_nets m.wires))

same_range : (B : BoxLibrary) (k : ℕ) (m : Module) (i : Instance) (p : BoxPort) → IsPlain B m → IsUnjoined B m → IsThere B m i p → (o : Operand) → linked_to i.links p.name ≡ Some o
    → SameRange m (opened B k m) o
same_range B k m i p plain unjoined there (operand.Const value) here = tt
same_range B k m i p plain unjoined there (operand.Bit b) here =
    let named = linked_named b.net p.name i.links (operand.Bit b) here in
    let used = there.named b.net in
    let one = at_head b.net [] in
    range_same B k m plain unjoined b.net (omega arith)

port_back : (B : BoxLibrary) (k : ℕ) (m : Module) (i : Instance) (p : BoxPort) → IsPlain B m → IsUnjoined B m → IsThere B m i p → LinkedFits m i p → GoesBack m (opened B k m) i p
port_back B k m i p plain unjoined there fits = record {
  hidden = (let none = there.unused in port_there B k m i p plain.clear.once (let own = ports_used m (hidden_name i.name p.name) in omega arith) there.linked there.unlinked);
  at = λ o here. record {
    apart = fits.apart o here;
    linked = fits_linked m p o (fits.fits o here);
    wide = fits_wide m p o (fits.fits o here) ∙ sym (length-bits_of (hidden_name i.name p.name) p.range);
    alone = port_alone B k m i p plain there o here;
    whole = fits_whole m (opened B k m) p o (fits.fits o here) (same_range B k m i p plain unjoined there o here);
  };
}

-- What holds at each port of an instance.

pub cut_within : (f : Instance → BoxPort → List (List ℕ)) (g : Item → List (List ℕ)) (B : BoxLibrary) (m : Module) (k : ℕ) (i : Instance) (ports : List BoxPort) → slice_get m.items k ≡ Some (item.Instance i)
    → g (item.Instance i) ≡ flat_map (f i) ports → AllByRecursion (λ p. (name : List ℕ) → times name (f i p) ≤ times name (flat_map g m.items)) ports
cut_within f g B m k i ports at e = all_to ports one (parts_within (f i) ports)
  where
    one : (p : BoxPort) → ((name : List ℕ) → times name (f i p) ≤ times name (flat_map (f i) ports)) → (name : List ℕ) → times name (f i p) ≤ times name (flat_map g m.items)
    one p less name =
        let item = all_at (λ x. (n : List ℕ) → times n (g x) ≤ times n (flat_map g m.items)) m.items k (item.Instance i) (parts_within g m.items) at name in
        let below = less name in
        omega (arith, ap (times name) e)

weights : (B : BoxLibrary) (m : Module) → IsPlain B m → (k : ℕ) (i : Instance) (ports : List BoxPort) → slice_get m.items k ≡ Some (item.Instance i) → cut_ports B i ≡ Some ports
    → AllByRecursion (λ (p : BoxPort). (o : Operand) → linked_to i.links p.name ≡ Some o → port_weight (hidden_name i.name p.name) (hidden_ports B m) ≡ width p.range) ports
weights B m plain k i ports at e = along ports here
  where
    here : AllByRecursion (λ (q : Port). port_weight q.name (hidden_ports B m) ≡ width q.range) (filter_map (hidden_at i) ports)
    here = subst (λ (o : Option (List BoxPort)). AllByRecursion (λ (q : Port). port_weight q.name (hidden_ports B m) ≡ width q.range) (option_map_or (filter_map (hidden_at i)) o [])) e
        (all_at (λ x. AllByRecursion (λ (q : Port). port_weight q.name (hidden_ports B m) ≡ width q.range) (item_ports B x)) m.items k (item.Instance i)
        (all_parts (λ (q : Port). port_weight q.name (hidden_ports B m) ≡ width q.range) (item_ports B) m.items (each_weight port_name port_width (hidden_ports B m) (hidden_once B m plain))) at)

    along : (ps : List BoxPort) → AllByRecursion (λ (q : Port). port_weight q.name (hidden_ports B m) ≡ width q.range) (filter_map (hidden_at i) ps)
        → AllByRecursion (λ (p : BoxPort). (o : Operand) → linked_to i.links p.name ≡ Some o → port_weight (hidden_name i.name p.name) (hidden_ports B m) ≡ width p.range) ps
    along [] all = tt
    along (p ∷ ps) all = (first, along ps (rest (linked_to i.links p.name) all))
      where
        rest : (l : Option Operand) → AllByRecursion (λ (q : Port). port_weight q.name (hidden_ports B m) ≡ width q.range) (cons_option (option_map (λ (x : Operand). hidden_port i p) l) (filter_map (hidden_at i) ps))
            → AllByRecursion (λ (q : Port). port_weight q.name (hidden_ports B m) ≡ width q.range) (filter_map (hidden_at i) ps)
        rest None more = more
        rest (Some x) more = more.1

        first : (o : Operand) → linked_to i.links p.name ≡ Some o → port_weight (hidden_name i.name p.name) (hidden_ports B m) ≡ width p.range
        first o there =
            let mine = subst (λ (l : Option Operand). AllByRecursion (λ (q : Port). port_weight q.name (hidden_ports B m) ≡ width q.range) (cons_option (option_map (λ (x : Operand). hidden_port i p) l) (filter_map (hidden_at i) ps))) there all in
            mine.0

all_there : (B : BoxLibrary) (m : Module) → IsPlain B m → (k : ℕ) (i : Instance) (ports : List BoxPort) → slice_get m.items k ≡ Some (item.Instance i) → cut_ports B i ≡ Some ports
    → AllByRecursion (IsThere B m i) ports
all_there B m plain k i ports at e =
    walk ports (hidden_at_item (λ (h : Hidden). times h.name (used_names m) ≡ 0) B m plain.unused k i ports at e)
    (cut_within linked_at (item_linked B) B m k i ports at (ap (λ (o : Option (List BoxPort)). option_map_or (flat_map (linked_at i)) o []) e))
    (cut_within unlinked_at (item_unlinked B) B m k i ports at (ap (λ (o : Option (List BoxPort)). option_map_or (flat_map (unlinked_at i)) o []) e))
    (weights B m plain k i ports at e)
  where
    named : (name : List ℕ) → times name (flat_map linked_name i.links) ≤ times name (used_names m)
    named name =
        let within = all_at (λ x. (n : List ℕ) → times n (named_by x) ≤ times n (flat_map named_by m.items)) m.items k (item.Instance i) (parts_within named_by m.items) at name in
        omega (arith, items_used m name)

    walk : (ps : List BoxPort) → AllByRecursion (λ (p : BoxPort). times (hidden_name i.name p.name) (used_names m) ≡ 0) ps
        → AllByRecursion (λ p. (name : List ℕ) → times name (linked_at i p) ≤ times name (flat_map (item_linked B) m.items)) ps
        → AllByRecursion (λ p. (name : List ℕ) → times name (unlinked_at i p) ≤ times name (flat_map (item_unlinked B) m.items)) ps
        → AllByRecursion (λ (p : BoxPort). (o : Operand) → linked_to i.links p.name ≡ Some o → port_weight (hidden_name i.name p.name) (hidden_ports B m) ≡ width p.range) ps
        → AllByRecursion (IsThere B m i) ps
    walk [] a b c d = tt
    walk (p ∷ ps) a b c d = (record { unused = a.0; linked = b.0; unlinked = c.0; weight = d.0; named = named }, walk ps a.1 b.1 c.1 d.1)

-- The items, and the module.

items_back : (B : BoxLibrary) (k : ℕ) (m : Module) → IsPlain B m → IsUnjoined B m → AllByRecursion (ItemGoesBack B m (opened B k m)) m.items
items_back B k m plain unjoined = all_by_places (ItemGoesBack B m (opened B k m)) m.items one
  where
    one : (number : ℕ) (x : Item) → slice_get m.items number ≡ Some x → ItemGoesBack B m (opened B k m) x
    one number (item.Gate g) at = tt
    one number (item.Assign output input) at = tt
    one number (item.Instance i) at = λ ports e. all_to ports (λ p both. port_back B k m i p plain unjoined both.0 both.1)
        (all_both (IsThere B m i) (LinkedFits m i) ports (all_there B m plain number i ports at e) (linked_fits B m plain number i ports at e))

pub closed_is_back : ClosedIsBack
closed_is_back B m clear unjoined_wires =
    let whole = clear_of B m clear in
    let apart = unjoined B m unjoined_wires in
    let plain : IsPlain B m = record { clear = whole; apart = apart; unused = unused B m whole apart } in
    let k = length m.ports in
    closed_back B k m (filter_between (is_own B (opened B k m)) k m.ports (hidden_ports B m) (own_passes B k m plain) (hidden_fails B k m)) unjoined_wires (items_back B k m plain unjoined_wires)
