-- Own: what is counted of a module by itself, and through so many levels of a hierarchy.
use Rattle.std.specs.Prelude.{ℕ, ◌+◌, false, List, length, sum_by, slice_index_or, Option, None}
use Rattle.std.specs.List.{filter_map, list_all}
use Rattle.std.specs.Option.{option_map, option_map_or}
use Rattle.verilog_tree.specs.declared.tree.Instance.{Instance}
use Rattle.verilog_tree.specs.declared.tree.Item.{Item}
use Rattle.verilog_tree.specs.declared.tree.Item.TheVariants as item
use Rattle.verilog_tree.specs.declared.tree.Module.{Module}
use Rattle.link_model.specs.Nets.{bits_in, declared_nets}
use Rattle.hier_model.specs.WalkNames.{module_place}
use Rattle.hier_model.specs.Visits.{module_named, has_levels}
use Rattle.hier_model.specs.Faults.{linked_bits, cell_count, net_count, cell_limit, net_limit}
use Rattle.hier_counts.specs.declared.sizes.Held.{Held}
use Rattle.hier_counts.specs.declared.sizes.Size.{Size}
use Rattle.hier_counts.specs.declared.levels.Counts.{Counts}
use Rattle.hier_counts.specs.Widths.{capped}

-- how many bits the links of an instance join
abbrev pub linked_in : List Module → Instance → ℕ
linked_in modules i = option_map_or (λ (c : Module). sum_by (linked_bits i.links) c.ports) (module_named modules i.cell) 0

-- the module that an item is an instance of, by its place
abbrev pub held_by : List Module → Item → Option Held
held_by modules (item.Gate g) = None
held_by modules (item.Instance i) = option_map (λ (place : ℕ). record { place = place; joined = capped cell_limit (linked_in modules i) }) (module_place modules i.cell)
held_by modules (item.Assign output input) = None

abbrev pub size_of : List Module → Module → Size
size_of modules m = record { items = length m.items; bits = capped net_limit (bits_in (declared_nets m)); held = filter_map (held_by modules) m.items }

-- what a module comes to through so many levels
abbrev pub counts_at : ℕ → List Module → Module → Counts
counts_at levels modules m = record { fits = has_levels levels modules m; cells = capped cell_limit (cell_count levels modules m); nets = capped net_limit (net_count levels modules m) }

-- what no module comes to
abbrev pub no_counts : Counts
no_counts = record { fits = false; cells = 0; nets = 0 }

abbrev pub counts_in : List Counts → ℕ → Counts
counts_in counts place = slice_index_or counts place no_counts

-- one level more, where the modules come to this through the levels below
abbrev pub next_counts : Size → List Counts → Counts
next_counts size below = record {
  fits = list_all (λ (h : Held). (counts_in below h.place).fits) size.held;
  cells = capped cell_limit (size.items + sum_by (λ (h : Held). h.joined + (counts_in below h.place).cells) size.held);
  nets = capped net_limit (size.bits + sum_by (λ (h : Held). (counts_in below h.place).nets) size.held);
}
