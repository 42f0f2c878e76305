-- What comes of ports and instances, where it is known what is linked and what is cut.
use Rattle.std.proofs.Common.{◌≡◌, List, [], ◌∷◌, ◌++◌, Option, Some, None, sym, ap, ◌∙◌, append-nil}
use Rattle.std.specs.List.{flat_map, filter_map}
use Rattle.std.specs.Option.{option_map, option_map_or}
use Rattle.verilog_tree.specs.declared.tree.Operand.{Operand}
use Rattle.verilog_tree.specs.declared.tree.Instance.{Instance}
use Rattle.verilog_tree.specs.declared.tree.Item.TheVariants as item
use Rattle.verilog_tree.specs.declared.tree.Module.{Module}
use Rattle.box_model.specs.declared.boxes.BoxLibrary.{BoxLibrary}
use Rattle.box_model.specs.declared.boxes.BoxPort.{BoxPort}
use Rattle.box_model.specs.Ports.{cut_ports, hidden_port, linked_to}
use Rattle.box_model.specs.Opened.{port_items, hidden_at, opened_instance, opened_item, item_ports}
use Rattle.box_trees.specs.Opening.{linked_items, linked_joined, port_joined, item_joined}

pub nothing_more : {X : Type 0} (old new added : List X) → new ≡ old → added ≡ [] → new ≡ old ++ added
nothing_more old new added same none = same ∙ sym (append-nil old) ∙ ap (λ (l : List _). old ++ l) (sym none)

-- Ports, linked or not.

pub no_items : (m : Module) (i : Instance) (p : BoxPort) → linked_to i.links p.name ≡ None → port_items m i p ≡ []
no_items m i p none = ap (λ (o : Option Operand). option_map_or (linked_items m i p) o []) none

pub no_hidden : (i : Instance) (p : BoxPort) → linked_to i.links p.name ≡ None → filter_map (hidden_at i) (p ∷ []) ≡ []
no_hidden i p none = ap (λ (o : Option Operand). filter_map (λ (x : BoxPort). option_map (λ (y : Operand). hidden_port i p) o) (p ∷ [])) none

pub no_joined : (m : Module) (i : Instance) (p : BoxPort) → linked_to i.links p.name ≡ None → port_joined m i p ≡ []
no_joined m i p none = ap (λ (o : Option Operand). option_map_or (linked_joined m i p) o []) none

pub some_items : (m : Module) (i : Instance) (p : BoxPort) (o : Operand) → linked_to i.links p.name ≡ Some o → port_items m i p ≡ linked_items m i p o
some_items m i p o some = ap (λ (x : Option Operand). option_map_or (linked_items m i p) x []) some

pub some_hidden : (i : Instance) (p : BoxPort) (o : Operand) → linked_to i.links p.name ≡ Some o → filter_map (hidden_at i) (p ∷ []) ≡ hidden_port i p ∷ []
some_hidden i p o some = ap (λ (x : Option Operand). filter_map (λ (q : BoxPort). option_map (λ (y : Operand). hidden_port i p) x) (p ∷ [])) some

pub some_joined : (m : Module) (i : Instance) (p : BoxPort) (o : Operand) → linked_to i.links p.name ≡ Some o → port_joined m i p ≡ linked_joined m i p o
some_joined m i p o some = ap (λ (x : Option Operand). option_map_or (linked_joined m i p) x []) some

-- Instances, cut or not.

pub whole_item : (B : BoxLibrary) (m : Module) (i : Instance) → cut_ports B i ≡ None → opened_item B m (item.Instance i) ≡ item.Instance i ∷ []
whole_item B m i none = ap (λ (o : Option (List BoxPort)). option_map_or (opened_instance m i) o (item.Instance i ∷ [])) none

pub whole_hidden : (B : BoxLibrary) (i : Instance) → cut_ports B i ≡ None → item_ports B (item.Instance i) ≡ []
whole_hidden B i none = ap (λ (o : Option (List BoxPort)). option_map_or (filter_map (hidden_at i)) o []) none

pub whole_joined : (B : BoxLibrary) (m : Module) (i : Instance) → cut_ports B i ≡ None → item_joined B m (item.Instance i) ≡ []
whole_joined B m i none = ap (λ (o : Option (List BoxPort)). option_map_or (flat_map (port_joined m i)) o []) none

pub cut_item : (B : BoxLibrary) (m : Module) (i : Instance) (ports : List BoxPort) → cut_ports B i ≡ Some ports → opened_item B m (item.Instance i) ≡ opened_instance m i ports
cut_item B m i ports some = ap (λ (o : Option (List BoxPort)). option_map_or (opened_instance m i) o (item.Instance i ∷ [])) some

pub cut_hidden : (B : BoxLibrary) (i : Instance) (ports : List BoxPort) → cut_ports B i ≡ Some ports → item_ports B (item.Instance i) ≡ filter_map (hidden_at i) ports
cut_hidden B i ports some = ap (λ (o : Option (List BoxPort)). option_map_or (filter_map (hidden_at i)) o []) some

pub cut_joined : (B : BoxLibrary) (m : Module) (i : Instance) (ports : List BoxPort) → cut_ports B i ≡ Some ports → item_joined B m (item.Instance i) ≡ flat_map (port_joined m i) ports
cut_joined B m i ports some = ap (λ (o : Option (List BoxPort)). option_map_or (flat_map (port_joined m i)) o []) some
