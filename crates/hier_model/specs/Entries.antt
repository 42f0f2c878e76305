-- What a hierarchy comes to, one equation each, in flat order: items that stay, and bits that links join.
-- IEEE Std 1364-2001: ports and port connections; the flat order is own.
use Rattle.std.specs.Prelude.{ℕ, List, [], ◌∷◌, ◌++◌, map, Option, Some, None, Bool, true, false, if◌then◌else◌}
use Rattle.std.specs.List.{flat_map}
use Rattle.std.specs.Option.{option_map_or}
use Rattle.verilog_tree.specs.declared.tree.Dir.{Dir}
use Rattle.verilog_tree.specs.declared.tree.Dir.TheVariants as dir
use Rattle.verilog_tree.specs.declared.tree.Range.{Range}
use Rattle.verilog_tree.specs.declared.tree.Bit.{Bit}
use Rattle.verilog_tree.specs.declared.tree.Operand.{Operand}
use Rattle.verilog_tree.specs.declared.tree.Operand.TheVariants as operand
use Rattle.verilog_tree.specs.declared.tree.Port.{Port}
use Rattle.verilog_tree.specs.declared.tree.Instance.{Instance}
use Rattle.verilog_tree.specs.declared.tree.Item.{Item}
use Rattle.verilog_tree.specs.declared.tree.Item.TheVariants as item
use Rattle.verilog_tree.specs.declared.tree.Module.{Module}
use Rattle.link_model.specs.Nets.{Declared, width, counted_from, index_at, declared_names, declared_as}
use Rattle.link_model.specs.Cells.{linked_operand}
use Rattle.hier_model.specs.Visits.{Turn, keeps, opens, closes, Visit, visits}
use Rattle.hier_model.specs.Names.{flat_bit, flat_operand, flat_item}

-- a module at an occurrence
pub record Place : Type 0 where
  pub at : List (List ℕ)
  pub here : Module

abbrev pub place : List (List ℕ) → Module → Place
place at here = record { at = at; here = here }

-- an item that stays at a place; or a bit of one place that equals an operand of another, by a link
pub data Entry : Type 0 where
  stays : Place → Item → Entry
  carries : Place → Bit → Place → Operand → Entry

-- the bits of a net, from the left
abbrev pub bits_of : List ℕ → Option Range → List Bit
bits_of name range = map (λ k. record { net = name; index = index_at range k }) (counted_from 0 (width range))

-- the bits of a whole net, where it is declared so; else the bit as it is
abbrev pub spread_net : Bit → Option Declared → List Operand
spread_net b None = operand.Bit b ∷ []
spread_net b (Some d) = map (λ c. operand.Bit c) (bits_of b.net d.range)

-- an operand of a link as single bits, from the left
abbrev pub spread : Module → Operand → List Operand
spread m (operand.Const value) = operand.Const value ∷ []
spread m (operand.Bit b) = option_map_or (λ index. operand.Bit b ∷ []) b.index (spread_net b (declared_as (declared_names m) b.net))

-- an input's bit equals the operand
abbrev pub inwards : Place → Place → List Bit → List Operand → List Entry
inwards outer inner [] os = []
inwards outer inner (b ∷ bs) [] = []
inwards outer inner (b ∷ bs) (o ∷ os) = carries inner b outer o ∷ inwards outer inner bs os

-- the bit that an output is linked to equals the output's
abbrev pub outward : Place → Place → Bit → Operand → List Entry
outward outer inner b (operand.Bit c) = carries outer c inner (operand.Bit b) ∷ []
outward outer inner b (operand.Const value) = []

abbrev pub outwards : Place → Place → List Bit → List Operand → List Entry
outwards outer inner [] os = []
outwards outer inner (b ∷ bs) [] = []
outwards outer inner (b ∷ bs) (o ∷ os) = outward outer inner b o ++ outwards outer inner bs os

abbrev pub is_in : Dir → Bool
is_in dir.Input = true
is_in dir.Output = false
is_in dir.Inout = false

abbrev pub is_out : Dir → Bool
is_out dir.Input = false
is_out dir.Output = true
is_out dir.Inout = false

-- the links of the ports that pass a test, in the order of the ports
abbrev pub links_in : (Dir → Bool) → (List Bit → List Operand → List Entry) → Module → Instance → List Port → List Entry
links_in test join m i ports = flat_map (λ (p : Port). if test p.dir then option_map_or (λ o. join (bits_of p.name p.range) (spread m o)) (linked_operand i.links p.name) [] else []) ports

-- the place that an instance opens
abbrev pub inner_place : List (List ℕ) → Instance → Module → Place
inner_place at i child = place (at ++ i.name ∷ []) child

abbrev pub turn_entries : List (List ℕ) → Module → Turn → List Entry
turn_entries at m (keeps i) = stays (place at m) i ∷ []
turn_entries at m (opens i child) = links_in is_in (inwards (place at m) (inner_place at i child)) m i child.ports
turn_entries at m (closes i child) = links_in is_out (outwards (place at m) (inner_place at i child)) m i child.ports

abbrev pub visit_entries : Visit → List Entry
visit_entries v = turn_entries v.at v.within v.turn

-- the levels that a hierarchy may have, the top's among them
unfoldable pub level_limit : ℕ
level_limit = 64

abbrev pub entries : List Module → Module → List Entry
entries modules top = flat_map visit_entries (visits level_limit modules [] top)

-- the item that an entry is in the flat module
abbrev pub entry_item : Entry → Item
entry_item (stays p i) = flat_item p.at i
entry_item (carries p b q o) = item.Assign (flat_bit p.at b) (flat_operand q.at o)

-- the places of a hierarchy: the top, and each that an instance opens, depth first
abbrev pub turn_places : List (List ℕ) → Turn → List Place
turn_places at (keeps i) = []
turn_places at (opens i child) = inner_place at i child ∷ []
turn_places at (closes i child) = []

abbrev pub opened_places : List Module → Module → List Place
opened_places modules top = flat_map (λ (v : Visit). turn_places v.at v.turn) (visits level_limit modules [] top)

abbrev pub places : List Module → Module → List Place
places modules top = place [] top ∷ opened_places modules top
