-- A module with its boxes closed again: hidden ports go, and links come back. Own.
use Rattle.std.specs.Prelude.{ℕ, zero, suc, count_by, ◌+◌, ◌==◌, ◌&&◌, Bool, true, false, not, List, [], ◌∷◌, ◌++◌, map, filter, drop, length, Option, Some, None, option_and_then, if◌then◌else◌}
use Rattle.std.specs.List.{flat_map, list_any}
use Rattle.std.specs.Option.{option_map, option_map_or}
use Rattle.std.specs.Str.{bytes_eq}
use Rattle.verilog_tree.specs.declared.tree.Bit.{Bit}
use Rattle.verilog_tree.specs.declared.tree.Operand.{Operand}
use Rattle.verilog_tree.specs.declared.tree.Operand.TheVariants as operand
use Rattle.verilog_tree.specs.declared.tree.Link.{Link}
use Rattle.verilog_tree.specs.declared.tree.Port.{Port}
use Rattle.verilog_tree.specs.declared.tree.Wire.{Wire}
use Rattle.verilog_tree.specs.declared.tree.Instance.{Instance}
use Rattle.verilog_tree.specs.declared.tree.Item.{Item}
use Rattle.verilog_tree.specs.declared.tree.Item.TheVariants as item
use Rattle.verilog_tree.specs.declared.tree.Module.{Module}
use Rattle.link_model.specs.Nets.{Declared, width, declared_names, declared_as}
use Rattle.box_model.specs.declared.boxes.BoxLibrary.{BoxLibrary}
use Rattle.box_model.specs.declared.boxes.BoxPort.{BoxPort}
use Rattle.box_model.specs.declared.boxes.BoxDir.{BoxDir}
use Rattle.box_model.specs.declared.boxes.BoxDir.TheVariants.{Takes, Gives}
use Rattle.box_model.specs.Ports.{cut_ports, hidden_name, hidden_port, hidden_bits, bits_of, linked_to, other_links}
use Rattle.box_model.specs.Faults.{named_by}

abbrev pub same_index : Option ℕ → Option ℕ → Bool
same_index None None = true
same_index (Some a) (Some b) = a == b
same_index _ _ = false

abbrev pub same_bit : Bit → Bit → Bool
same_bit a b = bytes_eq a.net b.net && same_index a.index b.index

-- Runs of assigns.

abbrev pub if_bit : Bit → Operand → Operand → Option Operand
if_bit hidden (operand.Bit b) other = if same_bit b hidden then Some other else None
if_bit hidden (operand.Const value) other = None

-- the other side of the assign of a hidden bit
abbrev pub other_side : BoxDir → Bit → Item → Option Operand
other_side Gives hidden (item.Assign output input) = if_bit hidden input (operand.Bit output)
other_side Takes hidden (item.Assign output input) = if same_bit output hidden then Some input else None
other_side d hidden (item.Gate g) = None
other_side d hidden (item.Instance i) = None

abbrev pub and_more : Operand → Option (List Operand) → Option (List Operand)
and_more o None = None
and_more o (Some os) = Some (o ∷ os)

-- the other sides of all bits of a port, where these items begin with their assigns
abbrev pub run_of : BoxDir → List Bit → List Item → Option (List Operand)
run_of d [] items = Some []
run_of d (b ∷ bs) [] = None
run_of d (b ∷ bs) (i ∷ items) = option_and_then (λ o. and_more o (run_of d bs items)) (other_side d b i)

-- how often the items name a net
abbrev pub times_named : Module → List ℕ → ℕ
times_named m name = count_by (bytes_eq name) (flat_map named_by m.items)

-- the other sides of a port's bits, where their assigns stand next and nothing else names the port
abbrev pub own_run : Module → Instance → BoxPort → List Item → Option (List Operand)
own_run m i p items = if times_named m (hidden_name i.name p.name) == width p.range then run_of p.dir (hidden_bits i p) items else None

-- The link that stands for a run.

abbrev pub are_bits : List Bit → List Operand → Bool
are_bits [] [] = true
are_bits (b ∷ bs) (operand.Bit c ∷ os) = same_bit b c && are_bits bs os
are_bits _ _ = false

abbrev pub whole_if : List ℕ → List Operand → Declared → Option Operand
whole_if name os d = if are_bits (bits_of name d.range) os then Some (operand.Bit (record { net = name; index = None })) else None

-- the vector whose bits these are, from the left
abbrev pub whole_of : Module → List Operand → Option Operand
whole_of m (operand.Bit b ∷ os) = option_and_then (whole_if b.net (operand.Bit b ∷ os)) (declared_as (declared_names m) b.net)
whole_of m _ = None

-- a single bit's own operand; or the whole vector, unless a port was parted before
abbrev pub joint : Module → Bool → List Operand → Option Operand
joint m parted [] = None
joint m parted (o ∷ []) = Some o
joint m parted (o ∷ other ∷ os) = if parted then None else whole_of m (o ∷ other ∷ os)

-- Closing an instance.

-- the links that come back, how many of the items behind go, and the wires that are added
pub record Closing : Type 0 where
  pub links : List Link
  pub gone : ℕ
  pub wires : List Wire

abbrev pub link : List ℕ → Operand → Link
link port o = record { port = port; operand = Some o }

abbrev pub whole_net : List ℕ → Operand
whole_net name = operand.Bit (record { net = name; index = None })

-- a port that is linked to a wire of its own
abbrev pub by_wire : Instance → BoxPort → Closing → Closing
by_wire i p c = record {
  links = link p.name (whole_net (hidden_name i.name p.name)) ∷ c.links;
  gone = c.gone;
  wires = record { name = hidden_name i.name p.name; range = p.range } ∷ c.wires;
}

abbrev pub by_link : BoxPort → Operand → ℕ → Closing → Closing
by_link p o count c = record { links = link p.name o ∷ c.links; gone = count + c.gone; wires = c.wires }

abbrev pub has_port : Module → List ℕ → Bool
has_port m name = list_any (λ (p : Port). bytes_eq p.name name) m.ports

-- a port whose assigns stand there: it is linked directly, or parted
abbrev pub by_joint : Instance → BoxPort → ℕ → Closing → Closing → Option Operand → Closing
by_joint i p count direct behind (Some o) = by_link p o count direct
by_joint i p count direct behind None = by_wire i p behind

-- a port in its run, or without one; `more` is what comes of the ports behind it, by whether one was parted
abbrev pub by_run : Module → Instance → BoxPort → Bool → List Item → (Bool → List Item → Closing) → Option (List Operand) → Closing
by_run m i p parted items more (Some os) = by_joint i p (length os) (more parted (drop (length os) items)) (more true (drop (length os) items)) (joint m parted os)
by_run m i p parted items more None = by_wire i p (more parted items)

-- what comes of the ports, where these items stand behind the instance and the assigns of the ports before
abbrev pub closing : Module → Instance → Bool → List BoxPort → List Item → Closing
closing m i parted [] items = record { links = []; gone = 0; wires = [] }
closing m i parted (p ∷ ports) items =
    if not (has_port m (hidden_name i.name p.name)) then closing m i parted ports items
    else by_run m i p parted items (λ b rest. closing m i b ports rest) (own_run m i p items)

-- The items.

abbrev pub closing_at : BoxLibrary → Module → Item → List Item → Option Closing
closing_at B m (item.Instance i) items = option_map (λ ports. closing m i false ports items) (cut_ports B i)
closing_at B m (item.Gate g) items = None
closing_at B m (item.Assign output input) items = None

abbrev pub with_links : List Link → Item → Item
with_links links (item.Instance i) = item.Instance (record i { links = i.links ++ links })
with_links links other = other

abbrev pub closed_item : Item → (ℕ → List Item) → Option Closing → List Item
closed_item i more None = i ∷ more 0
closed_item i more (Some c) = with_links c.links i ∷ more c.gone

-- items, of which the first so many go
abbrev pub closed_items : BoxLibrary → Module → ℕ → List Item → List Item
closed_items B m gone [] = []
closed_items B m (suc gone) (i ∷ items) = closed_items B m gone items
closed_items B m zero (i ∷ items) = closed_item i (λ gone. closed_items B m gone items) (closing_at B m i items)

abbrev pub added_wires : BoxLibrary → Module → List Item → List Wire
added_wires B m [] = []
added_wires B m (i ∷ items) = option_map_or (λ (c : Closing). c.wires) (closing_at B m i items) [] ++ added_wires B m items

-- a hidden port of a box instance has this name
abbrev pub hides : BoxLibrary → List ℕ → Item → Bool
hides B name (item.Instance i) = option_map_or (list_any (λ (p : BoxPort). bytes_eq (hidden_name i.name p.name) name)) (cut_ports B i) false
hides B name (item.Gate g) = false
hides B name (item.Assign output input) = false

abbrev pub is_own : BoxLibrary → Module → Port → Bool
is_own B m p = not (list_any (hides B p.name) m.items)

abbrev pub own_ports : BoxLibrary → Module → List Port
own_ports B m = filter (is_own B m) m.ports

-- the hidden ports that stand there, in the order of instances and cut ports
abbrev pub present_at : Module → Instance → List BoxPort → List Port
present_at m i ports = map (hidden_port i) (filter (λ p. has_port m (hidden_name i.name p.name)) ports)

abbrev pub item_present : BoxLibrary → Module → Item → List Port
item_present B m (item.Instance i) = option_map_or (present_at m i) (cut_ports B i) []
item_present B m (item.Gate g) = []
item_present B m (item.Assign output input) = []

abbrev pub present_ports : BoxLibrary → Module → List Port
present_ports B m = flat_map (item_present B m) m.items

-- The module with its boxes closed.
abbrev pub closed : BoxLibrary → Module → Module
closed B m = record {
  name = m.name;
  ports = own_ports B m;
  wires = m.wires ++ added_wires B m m.items;
  items = closed_items B m 0 m.items;
}

-- The links of box instances in the order of their ports.

abbrev pub ordered_links : List BoxPort → List Link → List Link
ordered_links ports links = other_links ports links ++ flat_map (λ (p : BoxPort). option_map_or (λ o. link p.name o ∷ []) (linked_to links p.name) []) ports

abbrev pub ordered_item : BoxLibrary → Item → Item
ordered_item B (item.Instance i) = item.Instance (record i { links = option_map_or (λ ports. ordered_links ports i.links) (cut_ports B i) i.links })
ordered_item B (item.Gate g) = item.Gate g
ordered_item B (item.Assign output input) = item.Assign output input

abbrev pub ordered : BoxLibrary → Module → Module
ordered B m = record m { items = map (ordered_item B) m.items }
