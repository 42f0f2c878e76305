-- The links of clocks, clears and presets that are found, along the text and along the cells.
use Rattle.std.proofs.Common.{◌≡◌, ℕ, ◌<◌, Bool, true, false, ◌||◌, ◌==◌, cond, List, [], ◌∷◌, ◌++◌, map, get_or, zero, suc, Option, Some, None, arith, refl, sym, ap, ◌∙◌}
use Rattle.std.specs.Prelude.{slice_get, find, position, option_and_then, unwrap_or, if◌then◌else◌}
use Rattle.std.specs.List.{flat_map, list_any}
use Rattle.std.specs.Option.{option_map, option_map_or}
use Rattle.std.specs.Str.{bytes_eq}
use Rattle.std.specs.Cmp.Lexicographic.{bytes_decides}
use Rattle.std.proofs.lemmas.List.Folds.{list_any-append}
use Rattle.std.proofs.lemmas.List.Quantifiers.{position-Some}
use Rattle.std.proofs.lemmas.Option.{slice_get-map, slice_get-get_or, none-some, same_Some}
use Rattle.list_laws.proofs.Options.{or_else-parts, first_in-at, not_there}
use Rattle.list_laws.proofs.Bytes.{bytes_eq-same}
use Rattle.cell_library.specs.declared.listed.ListedCell.{ListedCell}
use Rattle.cell_library.specs.declared.Kind.{Kind}
use Rattle.cell_library.specs.declared.Kind.TheVariants as kind
use Rattle.cell_library.specs.declared.PortPlace.{PortPlace}
use Rattle.cell_library.specs.declared.PortPlace.TheVariants as place
use Rattle.cell_library.specs.Gates.{is_flop}
use Rattle.cell_library.specs.Library.{kind_named, port_named, operand_ports, output_port}
use Rattle.netlist_model.specs.declared.Feed.TheVariants.{Const}
use Rattle.verilog_tree.specs.declared.tree.Module.{Module}
use Rattle.verilog_tree.specs.declared.tree.Operand.{Operand}
use Rattle.verilog_tree.specs.declared.tree.Operand.TheVariants as operand
use Rattle.verilog_tree.specs.declared.tree.Link.{Link}
use Rattle.verilog_tree.specs.declared.tree.Instance.{Instance}
use Rattle.verilog_tree.specs.declared.tree.Item.{Item}
use Rattle.verilog_tree.specs.declared.tree.Item.TheVariants as item
use Rattle.link_model.specs.declared.fault.LinkFault.{LinkFault}
use Rattle.link_model.specs.declared.fault.LinkFault.TheVariants as fault
use Rattle.link_model.specs.Lists.{or_else, first_in, has_name, repeated_after, repeated}
use Rattle.link_model.specs.Nets.{Declared, net_of, declared_names}
use Rattle.link_model.specs.Cells.{feed_of, linked_operand, port_feed, library_cell}
use Rattle.link_model.specs.Faults.{text_fault, too_many_in, name_twice, bit_faults, instance_faults, at_instance, cell_unknown, port_unknown, port_missing, port_twice, item_width}
use Rattle.link_model.specs.Late.{ControlLink, is_control_place, bit_links, flop_links, item_links, control_links}
use Rattle.link_rules.specs.Links.{feed_net, operand_net, placed_net, is_found_net, found_net, found_link, found_item}

-- Along lists.

first_in-none : {X Y : Type 0} (test : X → Option Y) (xs : List X) → ((x : X) → test x ≡ None) → first_in test xs ≡ None
first_in-none test [] bare = refl
first_in-none test (x ∷ xs) bare = ap (λ o. or_else o (first_in test xs)) (bare x) ∙ first_in-none test xs bare

find-append : {X : Type 0} (test : X → Bool) (xs ys : List X) → find test (xs ++ ys) ≡ or_else (find test xs) (find test ys)
find-append test [] ys = refl
find-append test (x ∷ xs) ys = by (test x) (find-append test xs ys)
  where
    by : (b : Bool) → find test (xs ++ ys) ≡ or_else (find test xs) (find test ys) → cond b (Some x) (find test (xs ++ ys)) ≡ or_else (cond b (Some x) (find test xs)) (find test ys)
    by true e = refl
    by false e = e

or_else-map : {X Y : Type 0} (g : X → Y) (a b : Option X) → option_map g (or_else a b) ≡ or_else (option_map g a) (option_map g b)
or_else-map g None b = refl
or_else-map g (Some x) b = refl

-- the first of each in turn is the first of all joined
pub first_in-joined : {X Y Z : Type 0} (test : Y → Bool) (g : Y → Z) (f : X → List Y) (h : X → Option Z) (xs : List X) → ((k : ℕ) (x : X) → slice_get xs k ≡ Some x → h x ≡ option_map g (find test (f x)))
    → first_in h xs ≡ option_map g (find test (flat_map f xs))
first_in-joined test g f h [] each = refl
first_in-joined test g f h (x ∷ xs) each =
    ap (λ o. or_else o (first_in h xs)) (each 0 x refl)
    ∙ ap (or_else (option_map g (find test (f x)))) (first_in-joined test g f h xs (λ k y here. each (suc k) y here))
    ∙ sym (or_else-map g (find test (f x)) (find test (flat_map f xs)))
    ∙ ap (option_map g) (sym (find-append test (f x) (flat_map f xs)))

-- the first that passes: it stands at a place, and none before it passes
pub find-first : {X : Type 0} (test : X → Bool) (xs : List X) (x : X) → find test xs ≡ Some x
    → (place : ℕ) × (slice_get xs place ≡ Some x) × (test x ≡ true) × ((k : ℕ) (y : X) → k < place → slice_get xs k ≡ Some y → test y ≡ false)
find-first test [] x e = absurd (none-some x e)
find-first {X} test (z ∷ zs) x e = by (test z) refl (find-first test zs x)
  where
    Found : List X → Type 0
    Found xs = (place : ℕ) × (slice_get xs place ≡ Some x) × (test x ≡ true) × ((k : ℕ) (y : X) → k < place → slice_get xs k ≡ Some y → test y ≡ false)

    earlier : (place : ℕ) → test z ≡ false → ((k : ℕ) (y : X) → k < place → slice_get zs k ≡ Some y → test y ≡ false) → (k : ℕ) (y : X) → k < suc place → slice_get (z ∷ zs) k ≡ Some y → test y ≡ false
    earlier place fails before zero y low here = ap test (sym (same_Some z y here)) ∙ fails
    earlier place fails before (suc k) y low here = before k y (omega (arith, low)) here

    by : (b : Bool) → test z ≡ b → (find test zs ≡ Some x → Found zs) → Found (z ∷ zs)
    by true passes rest =
        let same : z ≡ x = same_Some z x (sym (ap (λ (b : Bool). cond b (Some z) (find test zs)) passes) ∙ e) in
        (0, ap (λ (y : X). Some y) same, ap test (sym same) ∙ passes, λ k y low. absurd (omega (arith, low)))
    by false fails rest =
        let found = rest (sym (ap (λ (b : Bool). cond b (Some z) (find test zs)) fails) ∙ e) in
        (suc found.0, found.1, found.2, earlier found.0 fails found.3)

pub find-none : {X : Type 0} (test : X → Bool) (xs : List X) → find test xs ≡ None → (k : ℕ) (y : X) → slice_get xs k ≡ Some y → test y ≡ false
find-none test [] e k y here = absurd (none-some y here)
find-none {X} test (z ∷ zs) e k y here = by (test z) refl (λ rest. find-none test zs rest) k here
  where
    by : (b : Bool) → test z ≡ b → (find test zs ≡ None → (j : ℕ) (x : X) → slice_get zs j ≡ Some x → test x ≡ false) → (k : ℕ) → slice_get (z ∷ zs) k ≡ Some y → test y ≡ false
    by true passes rest k here = absurd (none-some z (sym (sym (ap (λ (b : Bool). cond b (Some z) (find test zs)) passes) ∙ e)))
    by false fails rest zero here = ap test (sym (same_Some z y here)) ∙ fails
    by false fails rest (suc k) here = rest (sym (ap (λ (b : Bool). cond b (Some z) (find test zs)) fails) ∙ e) k y here

-- Each port of an instance is linked once.

bytes_turned : (a b : List ℕ) → bytes_eq a b ≡ false → bytes_eq b a ≡ false
bytes_turned a b e = by (bytes_eq b a) refl
  where
    by : (v : Bool) → bytes_eq b a ≡ v → v ≡ false
    by false f = refl
    by true f = let same : b ≡ a = (bytes_decides b a).0 f in let no : true ≡ false = sym ((bytes_decides a b).1 (sym same)) ∙ e in absurd (cc)

neither : (a b : Bool) → a || b ≡ false → (a ≡ false) × (b ≡ false)
neither true b e = absurd (cc)
neither false b e = (refl, e)

-- the first link of a port's name is the one that stands here
first_link : (before : List (List ℕ)) (links : List Link) (k : ℕ) (l : Link) → repeated_after before (map (λ (l : Link). l.port) links) ≡ None → slice_get links k ≡ Some l
    → (has_name before l.port ≡ false) × (find (λ (m : Link). bytes_eq m.port l.port) links ≡ Some l)
first_link before [] k l once here = absurd (none-some l here)
first_link before (x ∷ xs) zero l once here =
    let same : x ≡ l = same_Some x l here in
    let new = not_there (has_name before x.port) x.port (repeated_after (before ++ x.port ∷ []) (map (λ (l : Link). l.port) xs)) once in (
      ap (λ (m : Link). has_name before m.port) (sym same) ∙ new.0,
      ap (λ (b : Bool). cond b (Some x) (find (λ (m : Link). bytes_eq m.port l.port) xs)) (ap (λ (m : Link). bytes_eq m.port l.port) same ∙ bytes_eq-same l.port) ∙ ap (λ (m : Link). Some m) same,
    )
first_link before (x ∷ xs) (suc k) l once here =
    let new = not_there (has_name before x.port) x.port (repeated_after (before ++ x.port ∷ []) (map (λ (l : Link). l.port) xs)) once in
    let rest = first_link (before ++ x.port ∷ []) xs k l new.1 here in
    let parts = neither (list_any (bytes_eq l.port) before) (list_any (bytes_eq l.port) (x.port ∷ [])) (sym (list_any-append (bytes_eq l.port) before (x.port ∷ [])) ∙ rest.0) in
    let other = neither (bytes_eq l.port x.port) false parts.1 in (
      parts.0,
      ap (λ (b : Bool). cond b (Some x) (find (λ (m : Link). bytes_eq m.port l.port) xs)) (bytes_turned l.port x.port other.0) ∙ rest.1,
    )

linked_once : (i : Instance) (kind : Kind) (k : ℕ) (l : Link) → port_twice i kind ≡ None → slice_get i.links k ≡ Some l → linked_operand i.links l.port ≡ l.operand
linked_once i kind k l once here = ap (option_and_then (λ (m : Link). m.operand)) (first_link [] i.links k l (unmapped (repeated (map (λ (l : Link). l.port) i.links)) once) here).1
  where
    unmapped : (o : Option (List ℕ)) → option_map (fault.PortTwice i.name) o ≡ None → o ≡ None
    unmapped None e = refl
    unmapped (Some name) e = absurd (none-some (fault.PortTwice i.name name) (sym e))

-- the port that stands at a place of the operands
port_at : (library : List ListedCell) (kind : Kind) (name : List ℕ) (number : ℕ) → port_named library kind name ≡ Some (place.Input number) → slice_get (operand_ports library kind) number ≡ Some name
port_at library kind name number e = by (option_map_or (λ (port : List ℕ). bytes_eq name port) (output_port library kind) false) refl
  where
    placed : Bool → Option PortPlace
    placed b = if b then Some place.Output else option_map (λ (n : ℕ). place.Input n) (position (λ (port : List ℕ). bytes_eq name port) (operand_ports library kind))

    at : (o : Option ℕ) → position (λ (port : List ℕ). bytes_eq name port) (operand_ports library kind) ≡ o → option_map (λ (n : ℕ). place.Input n) o ≡ Some (place.Input number) → slice_get (operand_ports library kind) number ≡ Some name
    at None f g = absurd (none-some (place.Input number) g)
    at (Some n) f g =
        let ports : place.Input n ≡ place.Input number = same_Some (place.Input n) (place.Input number) g in
        let same : n ≡ number = cc in
        let found = position-Some (λ (port : List ℕ). bytes_eq name port) (operand_ports library kind) n name f in
        let named : name ≡ get_or (operand_ports library kind) n name = (bytes_decides name (get_or (operand_ports library kind) n name)).0 found.1 in
        ap (slice_get (operand_ports library kind)) (sym same) ∙ slice_get-get_or (operand_ports library kind) n name found.0 ∙ ap (λ (x : List ℕ). Some x) (sym named)

    by : (b : Bool) → option_map_or (λ (port : List ℕ). bytes_eq name port) (output_port library kind) false ≡ b → slice_get (operand_ports library kind) number ≡ Some name
    by true f = let ports : place.Output ≡ place.Input number = same_Some place.Output (place.Input number) (sym (ap placed f) ∙ e) in absurd (cc)
    by false f = at (position (λ (port : List ℕ). bytes_eq name port) (operand_ports library kind)) refl (sym (ap placed f) ∙ e)

-- Links, items and modules.

first_in-map : {X Y Z : Type 0} (g : Y → Z) (test : X → Option Y) (xs : List X) → option_map g (first_in test xs) ≡ first_in (λ x. option_map g (test x)) xs
first_in-map g test [] = refl
first_in-map g test (x ∷ xs) = or_else-map g (test x) (first_in test xs) ∙ ap (or_else (option_map g (test x))) (first_in-map g test xs)

-- the name and the net of a link
abbrev pub link_pair : ControlLink → List ℕ × ℕ
link_pair link = (link.flop, link.net)

abbrev pub is_found_link : List Bool → ControlLink → Bool
is_found_link marks link = is_found_net marks link.net

module _ (library : List ListedCell) (marks : List Bool) (names : List (List ℕ × Declared)) where
  bit_pair : (flop : List ℕ) (net : ℕ) (b : Bool) → option_map (λ (n : ℕ). (flop, n)) (if b then Some net else None) ≡ option_map link_pair (cond b (Some (record { flop = flop; net = net })) None)
  bit_pair flop net true = refl
  bit_pair flop net false = refl

  operand_pair : (flop : List ℕ) (o : Option Operand) → option_map (λ (n : ℕ). (flop, n)) (option_and_then (found_net marks) (feed_net (unwrap_or (option_map (feed_of names) o) (Const false))))
      ≡ option_map link_pair (find (is_found_link marks) (bit_links flop names o))
  operand_pair flop None = refl
  operand_pair flop (Some (operand.Const value)) = refl
  operand_pair flop (Some (operand.Bit bit)) = bit_pair flop (net_of names bit).0 (is_found_net marks (net_of names bit).0)

  -- the operand of a port is that of its link
  port_operand : (i : Instance) (kind : Kind) (l : Link) (number : ℕ) → port_named library kind l.port ≡ Some (place.Input number) → linked_operand i.links l.port ≡ l.operand
      → operand_net (map (port_feed names i.links) (operand_ports library kind)) number ≡ feed_net (unwrap_or (option_map (feed_of names) l.operand) (Const false))
  port_operand i kind l number named once =
      ap (option_and_then feed_net) (slice_get-map (port_feed names i.links) (operand_ports library kind) number ∙ ap (option_map (port_feed names i.links)) (port_at library kind l.port number named))
      ∙ ap (λ (o : Option Operand). feed_net (unwrap_or (option_map (feed_of names) o) (Const false))) once

  link_pair_of : (i : Instance) (kind : Kind) (l : Link) → is_flop library kind ≡ true → linked_operand i.links l.port ≡ l.operand
      → option_map (λ (n : ℕ). (i.name, n)) (found_link library marks (library_cell library names i kind) l) ≡ option_map link_pair (find (is_found_link marks) (if is_control_place (port_named library kind l.port) then bit_links i.name names l.operand else []))
  link_pair_of i kind l flop once =
      ap (λ (b : Bool). option_map (λ (n : ℕ). (i.name, n)) (option_and_then (found_net marks) (if b then placed_net (map (port_feed names i.links) (operand_ports library kind)) (port_named library kind l.port) else None))) flop
      ∙ placed (port_named library kind l.port) refl
    where
      chosen : (number : ℕ) (b : Bool) → operand_net (map (port_feed names i.links) (operand_ports library kind)) number ≡ feed_net (unwrap_or (option_map (feed_of names) l.operand) (Const false))
          → option_map (λ (n : ℕ). (i.name, n)) (option_and_then (found_net marks) (if b then operand_net (map (port_feed names i.links) (operand_ports library kind)) number else None))
          ≡ option_map link_pair (find (is_found_link marks) (if b then bit_links i.name names l.operand else []))
      chosen number false e = refl
      chosen number true e = ap (λ (o : Option ℕ). option_map (λ (n : ℕ). (i.name, n)) (option_and_then (found_net marks) o)) e ∙ operand_pair i.name l.operand

      placed : (o : Option PortPlace) → port_named library kind l.port ≡ o
          → option_map (λ (n : ℕ). (i.name, n)) (option_and_then (found_net marks) (placed_net (map (port_feed names i.links) (operand_ports library kind)) o))
          ≡ option_map link_pair (find (is_found_link marks) (if is_control_place o then bit_links i.name names l.operand else []))
      placed None e = refl
      placed (Some place.Output) e = refl
      placed (Some (place.Input number)) e = chosen number (number == 1 || number == 2) (port_operand i kind l number e once)

  -- a cell that is no flip-flop has no such link
  gate_links : (i : Instance) (kind : Kind) → is_flop library kind ≡ false → first_in (found_link library marks (library_cell library names i kind)) i.links ≡ None
  gate_links i kind gate = first_in-none (found_link library marks (library_cell library names i kind)) i.links (λ l.
      ap (λ (b : Bool). option_and_then (found_net marks) (if b then placed_net (map (port_feed names i.links) (operand_ports library kind)) (port_named library kind l.port) else None)) gate)

  kind_pair : (i : Instance) (kind : Kind) (b : Bool) → is_flop library kind ≡ b → port_twice i kind ≡ None
      → option_map (λ (n : ℕ). (i.name, n)) (first_in (found_link library marks (library_cell library names i kind)) i.links) ≡ option_map link_pair (find (is_found_link marks) (flop_links library names i (Some kind)))
  kind_pair i kind false gate once =
      ap (option_map (λ (n : ℕ). (i.name, n))) (gate_links i kind gate)
      ∙ sym (ap (λ (b : Bool). option_map link_pair (find (is_found_link marks) (if b then flat_map (λ (l : Link). if is_control_place (port_named library kind l.port) then bit_links i.name names l.operand else []) i.links else []))) gate)
  kind_pair i kind true flop once =
      first_in-map (λ (n : ℕ). (i.name, n)) (found_link library marks (library_cell library names i kind)) i.links
      ∙ first_in-joined (is_found_link marks) link_pair (λ (l : Link). if is_control_place (port_named library kind l.port) then bit_links i.name names l.operand else [])
      (λ (l : Link). option_map (λ (n : ℕ). (i.name, n)) (found_link library marks (library_cell library names i kind) l)) i.links (λ k l here. link_pair_of i kind l flop (linked_once i kind k l once here))
      ∙ sym (ap (λ (b : Bool). option_map link_pair (find (is_found_link marks) (if b then flat_map (λ (l : Link). if is_control_place (port_named library kind l.port) then bit_links i.name names l.operand else []) i.links else []))) flop)

  item_pair : (x : Item) → at_instance library port_twice x ≡ None → found_item library marks names x ≡ option_map link_pair (find (is_found_link marks) (item_links library names x))
  item_pair (item.Gate g) once = refl
  item_pair (item.Assign output input) once = refl
  item_pair (item.Instance i) once = by (kind_named library i.cell) refl
    where
      by : (o : Option Kind) → kind_named library i.cell ≡ o → found_item library marks names (item.Instance i) ≡ option_map link_pair (find (is_found_link marks) (item_links library names (item.Instance i)))
      by None e =
          ap (λ (o : Option Kind). option_map (λ (n : ℕ). (i.name, n)) (first_in (found_link library marks (library_cell library names i (unwrap_or o kind.Buf))) i.links)) e
          ∙ ap (option_map (λ (n : ℕ). (i.name, n))) (gate_links i kind.Buf refl)
          ∙ sym (ap (λ (o : Option Kind). option_map link_pair (find (is_found_link marks) (flop_links library names i o))) e)
      by (Some k) e =
          ap (λ (o : Option Kind). option_map (λ (n : ℕ). (i.name, n)) (first_in (found_link library marks (library_cell library names i (unwrap_or o kind.Buf))) i.links)) e
          ∙ kind_pair i k (is_flop library k) refl (sym (ap (option_and_then (port_twice i)) e) ∙ once)
          ∙ sym (ap (λ (o : Option Kind). option_map link_pair (find (is_found_link marks) (flop_links library names i o))) e)

-- no port of an instance is linked twice
pub linked_apart : (library : List ListedCell) (m : Module) → text_fault library m ≡ None → (k : ℕ) (x : Item) → slice_get m.items k ≡ Some x → at_instance library port_twice x ≡ None
linked_apart library m clear k x here =
    let width : Option LinkFault = first_in (item_width library (declared_names m)) m.items in
    let twice : Option LinkFault = first_in (at_instance library port_twice) m.items in
    let missing : Option LinkFault = or_else (first_in (at_instance library (port_missing library)) m.items) twice in
    let unknown : Option LinkFault = or_else (first_in (at_instance library (port_unknown library)) m.items) missing in
    let after_count = or_else-parts (too_many_in m) (or_else (name_twice m) (or_else (bit_faults m) (or_else (instance_faults library m) width))) clear in
    let after_names = or_else-parts (name_twice m) (or_else (bit_faults m) (or_else (instance_faults library m) width)) after_count.1 in
    let after_bits = or_else-parts (bit_faults m) (or_else (instance_faults library m) width) after_names.1 in
    let instances = or_else-parts (instance_faults library m) width after_bits.1 in
    let after_cells = or_else-parts (first_in (cell_unknown library) m.items) unknown instances.0 in
    let after_unknown = or_else-parts (first_in (at_instance library (port_unknown library)) m.items) missing after_cells.1 in
    let after_missing = or_else-parts (first_in (at_instance library (port_missing library)) m.items) twice after_unknown.1 in
    first_in-at (at_instance library port_twice) m.items k x after_missing.1 here

pub found_along : (library : List ListedCell) (m : Module) (marks : List Bool) → text_fault library m ≡ None
    → first_in (found_item library marks (declared_names m)) m.items ≡ option_map link_pair (find (is_found_link marks) (control_links library m))
found_along library m marks clear =
    first_in-joined (is_found_link marks) link_pair (item_links library (declared_names m)) (found_item library marks (declared_names m)) m.items (λ k x here. item_pair library marks (declared_names m) x (linked_apart library m clear k x here))
