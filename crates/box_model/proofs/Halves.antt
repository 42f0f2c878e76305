-- Hidden names are those of linked ports, which become ports, and those of unlinked ones.
use Rattle.std.proofs.Common.{◌≡◌, ℕ, ◌+◌, ◌||◌, Bool, false, cond, List, [], ◌∷◌, ◌++◌, map, Option, Some, None, refl, sym, ap, ◌∙◌, arith}
use Rattle.std.specs.List.{flat_map, filter_map, cons_option, list_any}
use Rattle.std.specs.Option.{option_map, option_map_or}
use Rattle.std.specs.Str.{bytes_eq}
use Rattle.std.proofs.lemmas.List.{map-append}
use Rattle.list_laws.proofs.Lists.{any_map}
use Rattle.list_laws.proofs.Bytes.{bytes_eq-sym}
use Rattle.std.proofs.lemmas.List.Folds.{list_any-append}
use Rattle.verilog_tree.specs.declared.tree.Operand.{Operand}
use Rattle.verilog_tree.specs.declared.tree.Port.{Port}
use Rattle.verilog_tree.specs.declared.tree.Instance.{Instance}
use Rattle.verilog_tree.specs.declared.tree.Item.{Item}
use Rattle.verilog_tree.specs.declared.tree.Item.TheVariants as item
use Rattle.verilog_tree.specs.declared.tree.Module.{Module}
use Rattle.link_model.specs.Lists.{has_name}
use Rattle.box_model.specs.declared.boxes.BoxLibrary.{BoxLibrary}
use Rattle.box_model.specs.declared.boxes.BoxPort.{BoxPort}
use Rattle.box_model.specs.Ports.{cut_ports, hidden_name, hidden_port, linked_to}
use Rattle.box_model.specs.Opened.{hidden_at, item_ports}
use Rattle.box_model.specs.Closed.{hides}
use Rattle.box_model.specs.Faults.{Hidden, hidden_of, item_hidden}
use Rattle.box_model.proofs.Counting.{times, times-append, times-map-append}
use Rattle.box_model.proofs.Clear.{name_of}
use Rattle.box_model.proofs.Named.{port_name}

abbrev pub linked_at : Instance → BoxPort → List (List ℕ)
linked_at i p = option_map_or (λ (o : Operand). hidden_name i.name p.name ∷ []) (linked_to i.links p.name) []

abbrev pub unlinked_at : Instance → BoxPort → List (List ℕ)
unlinked_at i p = option_map_or (λ (o : Operand). []) (linked_to i.links p.name) (hidden_name i.name p.name ∷ [])

abbrev pub item_linked : BoxLibrary → Item → List (List ℕ)
item_linked B (item.Instance i) = option_map_or (flat_map (linked_at i)) (cut_ports B i) []
item_linked B (item.Gate g) = []
item_linked B (item.Assign output input) = []

abbrev pub item_unlinked : BoxLibrary → Item → List (List ℕ)
item_unlinked B (item.Instance i) = option_map_or (flat_map (unlinked_at i)) (cut_ports B i) []
item_unlinked B (item.Gate g) = []
item_unlinked B (item.Assign output input) = []

pub map-flat_map : {X Y Z : Type 0} (g : Y → Z) (f : X → List Y) (xs : List X) → map g (flat_map f xs) ≡ flat_map (λ x. map g (f x)) xs
map-flat_map g f [] = refl
map-flat_map {Z = Z} g f (x ∷ xs) = map-append g (f x) (flat_map f xs) ∙ ap (λ (zs : List Z). map g (f x) ++ zs) (map-flat_map g f xs)

-- The names of hidden ports.

ports_linked : (i : Instance) (ports : List BoxPort) → map port_name (filter_map (hidden_at i) ports) ≡ flat_map (linked_at i) ports
ports_linked i [] = refl
ports_linked i (p ∷ ports) = by (linked_to i.links p.name) (ports_linked i ports)
  where
    by : (o : Option Operand) → map port_name (filter_map (hidden_at i) ports) ≡ flat_map (linked_at i) ports
        → map port_name (cons_option (option_map (λ (x : Operand). hidden_port i p) o) (filter_map (hidden_at i) ports)) ≡ option_map_or (λ (x : Operand). hidden_name i.name p.name ∷ []) o [] ++ flat_map (linked_at i) ports
    by None rest = rest
    by (Some o) rest = ap (λ (names : List (List ℕ)). hidden_name i.name p.name ∷ names) rest

item_linked_is : (B : BoxLibrary) (x : Item) → map port_name (item_ports B x) ≡ item_linked B x
item_linked_is B (item.Gate g) = refl
item_linked_is B (item.Assign output input) = refl
item_linked_is B (item.Instance i) = by (cut_ports B i)
  where
    by : (o : Option (List BoxPort)) → map port_name (option_map_or (filter_map (hidden_at i)) o []) ≡ option_map_or (flat_map (linked_at i)) o []
    by None = refl
    by (Some ports) = ports_linked i ports

pub linked_names : (B : BoxLibrary) (items : List Item) → map port_name (flat_map (item_ports B) items) ≡ flat_map (item_linked B) items
linked_names B [] = refl
linked_names B (x ∷ items) =
    map-append port_name (item_ports B x) (flat_map (item_ports B) items)
    ∙ ap (λ (names : List (List ℕ)). names ++ map port_name (flat_map (item_ports B) items)) (item_linked_is B x)
    ∙ ap (λ (names : List (List ℕ)). item_linked B x ++ names) (linked_names B items)

-- Both halves.

ports_halves : (name : List ℕ) (m : Module) (i : Instance) (ports : List BoxPort)
    → times name (map name_of (map (hidden_of m i) ports)) ≡ times name (flat_map (linked_at i) ports) + times name (flat_map (unlinked_at i) ports)
ports_halves name m i [] = refl
ports_halves name m i (p ∷ ports) = by (linked_to i.links p.name) (ports_halves name m i ports)
  where
    by : (o : Option Operand) → times name (map name_of (map (hidden_of m i) ports)) ≡ times name (flat_map (linked_at i) ports) + times name (flat_map (unlinked_at i) ports)
        → cond (bytes_eq name (hidden_name i.name p.name)) 1 0 + times name (map name_of (map (hidden_of m i) ports))
        ≡ times name (option_map_or (λ (x : Operand). hidden_name i.name p.name ∷ []) o [] ++ flat_map (linked_at i) ports)
        + times name (option_map_or (λ (x : Operand). []) o (hidden_name i.name p.name ∷ []) ++ flat_map (unlinked_at i) ports)
    by None rest = omega (arith, rest)
    by (Some o) rest = omega (arith, rest)

item_halves : (name : List ℕ) (B : BoxLibrary) (m : Module) (x : Item) → times name (map name_of (item_hidden B m x)) ≡ times name (item_linked B x) + times name (item_unlinked B x)
item_halves name B m (item.Gate g) = refl
item_halves name B m (item.Assign output input) = refl
item_halves name B m (item.Instance i) = by (cut_ports B i)
  where
    by : (o : Option (List BoxPort)) → times name (map name_of (option_map_or (map (hidden_of m i)) o []))
        ≡ times name (option_map_or (flat_map (linked_at i)) o []) + times name (option_map_or (flat_map (unlinked_at i)) o [])
    by None = refl
    by (Some ports) = ports_halves name m i ports

pub halves : (name : List ℕ) (B : BoxLibrary) (m : Module) (items : List Item)
    → times name (map name_of (flat_map (item_hidden B m) items)) ≡ times name (map port_name (flat_map (item_ports B) items)) + times name (flat_map (item_unlinked B) items)
halves name B m items = split items ∙ ap (λ (names : List (List ℕ)). times name names + times name (flat_map (item_unlinked B) items)) (sym (linked_names B items))
  where
    split : (xs : List Item) → times name (map name_of (flat_map (item_hidden B m) xs)) ≡ times name (flat_map (item_linked B) xs) + times name (flat_map (item_unlinked B) xs)
    split [] = refl
    split (x ∷ xs) = omega (arith, split xs, item_halves name B m x, times-map-append name name_of (item_hidden B m x) (flat_map (item_hidden B m) xs), times-append name (item_linked B x) (flat_map (item_linked B) xs), times-append name (item_unlinked B x) (flat_map (item_unlinked B) xs))

-- What hides.

pub has_port_named : (ports : List Port) (name : List ℕ) → list_any (λ (p : Port). bytes_eq p.name name) ports ≡ has_name (map port_name ports) name
has_port_named [] name = refl
has_port_named (p ∷ ports) name = ap (λ (b : Bool). b || list_any (λ (q : Port). bytes_eq q.name name) ports) (bytes_eq-sym p.name name) ∙ ap (λ (b : Bool). bytes_eq name p.name || b) (has_port_named ports name)

pub hidden_named : (hs : List Hidden) (name : List ℕ) → list_any (λ (h : Hidden). bytes_eq h.name name) hs ≡ has_name (map name_of hs) name
hidden_named [] name = refl
hidden_named (h ∷ hs) name = ap (λ (b : Bool). b || list_any (λ (g : Hidden). bytes_eq g.name name) hs) (bytes_eq-sym h.name name) ∙ ap (λ (b : Bool). bytes_eq name h.name || b) (hidden_named hs name)

-- an item hides the names of its cut ports
pub hides-hidden : (B : BoxLibrary) (m : Module) (name : List ℕ) (items : List Item) → list_any (hides B name) items ≡ has_name (map name_of (flat_map (item_hidden B m) items)) name
hides-hidden B m name items = along items ∙ hidden_named (flat_map (item_hidden B m) items) name
  where
    cut : (i : Instance) (o : Option (List BoxPort)) → option_map_or (list_any (λ (p : BoxPort). bytes_eq (hidden_name i.name p.name) name)) o false ≡ list_any (λ (h : Hidden). bytes_eq h.name name) (option_map_or (map (hidden_of m i)) o [])
    cut i None = refl
    cut i (Some ports) = sym (any_map (λ (h : Hidden). bytes_eq h.name name) (hidden_of m i) ports)

    one : (x : Item) → hides B name x ≡ list_any (λ (h : Hidden). bytes_eq h.name name) (item_hidden B m x)
    one (item.Gate g) = refl
    one (item.Assign output input) = refl
    one (item.Instance i) = cut i (cut_ports B i)

    along : (xs : List Item) → list_any (hides B name) xs ≡ list_any (λ (h : Hidden). bytes_eq h.name name) (flat_map (item_hidden B m) xs)
    along [] = refl
    along (x ∷ xs) =
        ap (λ (b : Bool). b || list_any (hides B name) xs) (one x) ∙ ap (λ (b : Bool). list_any (λ (h : Hidden). bytes_eq h.name name) (item_hidden B m x) || b) (along xs)
        ∙ sym (list_any-append (λ (h : Hidden). bytes_eq h.name name) (item_hidden B m x) (flat_map (item_hidden B m) xs))
