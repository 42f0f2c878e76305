-- Own: the assignments that stand for a link, and for the links of an instance, by the two sides.
use Rattle.std.specs.Prelude.{◌≡◌, ℕ, List, map, position, Option, None}
use Rattle.std.specs.Borrow.{Bor}
use Rattle.std.specs.Map.{lookup}
use Rattle.std.specs.Option.{option_map_or}
use Rattle.std.specs.Str.{bytes_eq}
use Rattle.verilog_tree.specs.declared.tree.Range.{Range}
use Rattle.verilog_tree.specs.declared.tree.Operand.{Operand}
use Rattle.verilog_tree.specs.declared.tree.Operand.TheVariants as operand
use Rattle.verilog_tree.specs.declared.tree.Link.{Link}
use Rattle.verilog_tree.specs.declared.tree.Port.{Port}
use Rattle.verilog_tree.specs.declared.tree.Instance.{Instance}
use Rattle.verilog_tree.specs.declared.tree.Item.{Item}
use Rattle.verilog_tree.specs.declared.tree.Module.{Module}
use Rattle.hier_model.specs.Entries.{Place, bits_of, spread, inwards, outwards, is_in, is_out, links_in, entry_item}
use Rattle.hier_flatten.specs.Nets.{range_named}

-- the first link of each name stands under it, by its place
pub record FindsLinks (links : List Link) (entries : List (Bor (List ℕ) × ℕ)) : Type 0 where
  pub places : (name : List ℕ) → lookup (λ (k : Bor (List ℕ)). bytes_eq name k.now) entries ≡ position (λ (l : Link). bytes_eq name l.port) links

-- the range of the net that an operand stands for as a whole
abbrev pub whole_range : Module → Operand → Option (Option Range)
whole_range m (operand.Const value) = None
whole_range m (operand.Bit b) = option_map_or (λ index. None) b.index (range_named m b.net)

-- by the outer place and the inner one
abbrev pub inward_items : Place → Place → Port → Operand → List Item
inward_items outer inner p o = map entry_item (inwards outer inner (bits_of p.name p.range) (spread outer.here o))

abbrev pub outward_items : Place → Place → Port → Operand → List Item
outward_items outer inner p o = map entry_item (outwards outer inner (bits_of p.name p.range) (spread outer.here o))

abbrev pub input_items : Place → Place → Instance → List Item
input_items outer inner i = map entry_item (links_in is_in (inwards outer inner) outer.here i inner.here.ports)

abbrev pub output_items : Place → Place → Instance → List Item
output_items outer inner i = map entry_item (links_in is_out (outwards outer inner) outer.here i inner.here.ports)
