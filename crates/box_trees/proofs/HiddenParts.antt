-- The hidden names of ports, items and modules, and those of box_model.
use Rattle.std.proofs.Common.{◌≡◌, ℕ, Bool, true, false, List, [], ◌∷◌, ◌++◌, map, Option, Some, None, refl, sym, ap, ◌∙◌}
use Rattle.std.specs.List.{flat_map, list_any}
use Rattle.std.specs.Option.{option_map_or}
use Rattle.std.proofs.lemmas.List.{map-append}
use Rattle.verilog_tree.specs.declared.tree.Range.{Range}
use Rattle.verilog_tree.specs.declared.tree.Operand.{Operand}
use Rattle.verilog_tree.specs.declared.tree.Port.{Port}
use Rattle.verilog_tree.specs.declared.tree.Instance.{Instance}
use Rattle.verilog_tree.specs.declared.tree.Item.{Item}
use Rattle.verilog_tree.specs.declared.tree.Item.TheVariants as item
use Rattle.verilog_tree.specs.declared.tree.Module.{Module}
use Rattle.box_model.specs.declared.boxes.BoxLibrary.{BoxLibrary}
use Rattle.box_model.specs.declared.boxes.BoxPort.{BoxPort}
use Rattle.box_model.specs.Ports.{cut_ports, hidden_name, linked_to}
use Rattle.box_model.specs.Opened.{is_joined}
use Rattle.box_model.specs.Faults.{Hidden, is_bit_word, hidden_of, item_hidden}
use Rattle.box_trees.specs.declared.hidden_names.HiddenName.{HiddenName}
use Rattle.box_tables.specs.Nets.{is_joined_as}
use Rattle.box_trees.specs.HiddenNames.{name_at, names_at}
use Rattle.box_trees.proofs.FirstClash.{none_held}

abbrev gathered : List ℕ → Bool → Option Range → HiddenName
gathered name joined vector = record { name = name; joined = joined; vector = vector }

-- the name of a linked port
pub linked_name_at : (m : Module) (i : Instance) (p : BoxPort) (o : Operand) (name : List ℕ) (joined : Bool) → linked_to i.links p.name ≡ Some o → name ≡ hidden_name i.name p.name → joined ≡ is_joined_as m name p.range o
    → gathered name joined p.range ≡ name_at m i p
linked_name_at m i p o name joined some named is =
    ap (λ (n : List ℕ). gathered n joined p.range) named
    ∙ ap (λ (b : Bool). gathered (hidden_name i.name p.name) b p.range)
    (is ∙ ap (λ (n : List ℕ). is_joined_as m n p.range o) named ∙ ap (λ (l : Option Operand). option_map_or (is_joined m i p) l false) (sym some))
    ∙ ap (gathered (hidden_name i.name p.name) (option_map_or (is_joined m i p) (linked_to i.links p.name) false)) (ap (λ (l : Option Operand). option_map_or (λ (x : Operand). p.range) l None) (sym some))

-- a hidden name with what it clashes with among ports
abbrev pub held : List Port → HiddenName → Hidden
held ports h = record { name = h.name; joined = h.joined; clashes = list_any (is_bit_word h.name h.vector) ports }

clash_linked : (name : List ℕ) (range : Option Range) (ports : List Port) (l : Option Operand)
    → list_any (is_bit_word name (option_map_or (λ (o : Operand). range) l None)) ports ≡ option_map_or (λ (o : Operand). list_any (is_bit_word name range) ports) l false
clash_linked name range ports None = none_held (is_bit_word name None) (λ q. refl) ports
clash_linked name range ports (Some o) = refl

held_port : (m : Module) (i : Instance) (p : BoxPort) → held m.ports (name_at m i p) ≡ hidden_of m i p
held_port m i p =
    ap (λ (b : Bool). let h : Hidden = record { name = hidden_name i.name p.name; joined = option_map_or (is_joined m i p) (linked_to i.links p.name) false; clashes = b } in h)
    (clash_linked (hidden_name i.name p.name) p.range m.ports (linked_to i.links p.name))

held_ports : (m : Module) (i : Instance) (ports : List BoxPort) → map (held m.ports) (map (name_at m i) ports) ≡ map (hidden_of m i) ports
held_ports m i [] = refl
held_ports m i (p ∷ ports) = ap (λ (h : Hidden). h ∷ map (held m.ports) (map (name_at m i) ports)) (held_port m i p) ∙ ap (λ (l : List Hidden). hidden_of m i p ∷ l) (held_ports m i ports)

held_cut : (m : Module) (i : Instance) (cut : Option (List BoxPort)) → map (held m.ports) (option_map_or (map (name_at m i)) cut []) ≡ option_map_or (map (hidden_of m i)) cut []
held_cut m i None = refl
held_cut m i (Some ports) = held_ports m i ports

held_item : (B : BoxLibrary) (m : Module) (i : Item) → map (held m.ports) (names_at B m i) ≡ item_hidden B m i
held_item B m (item.Gate g) = refl
held_item B m (item.Assign output input) = refl
held_item B m (item.Instance i) = held_cut m i (cut_ports B i)

pub held_items : (B : BoxLibrary) (m : Module) (items : List Item) → map (held m.ports) (flat_map (names_at B m) items) ≡ flat_map (item_hidden B m) items
held_items B m [] = refl
held_items B m (i ∷ items) =
    map-append (held m.ports) (names_at B m i) (flat_map (names_at B m) items)
    ∙ ap (λ (l : List Hidden). l ++ map (held m.ports) (flat_map (names_at B m) items)) (held_item B m i)
    ∙ ap (λ (l : List Hidden). item_hidden B m i ++ l) (held_items B m items)
