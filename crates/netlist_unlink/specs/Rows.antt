-- The original wires of a netlist: the nets of one follow one another.
-- IEEE Std 1364-2001: data types (nets, vectors); that a wire's nets stand in a row is own.
use Rattle.std.specs.Prelude.{ℕ, ◌==◌, Bool, false, List, [], ◌∷◌, Option, Some, None, if◌then◌else◌}
use Rattle.std.specs.List.{list_any}
use Rattle.std.specs.Option.{option_map}
use Rattle.verilog_tree.specs.declared.tree.Range.{Range}
use Rattle.netlist_model.specs.declared.Name.{Name}
use Rattle.netlist_model.specs.declared.Name.TheVariants.{Original, Added}
use Rattle.netlist_model.specs.Lists.{PortView, NetView}
use Rattle.netlist_unlink.specs.declared.rows.NetRow.{NetRow}

-- own: the name is the original one with this number
abbrev pub is_original : ℕ → Name → Bool
is_original number (Original other) = other == number
is_original number (Added other) = false

-- own: a port has the original name with this number
abbrev pub has_port_name : List PortView → ℕ → Bool
has_port_name ports number = list_any (λ (p : PortView). is_original number p.name) ports

-- own: the range of one index
abbrev pub one_index : ℕ → Range
one_index index = record { left = index; right = index }

-- own: a net under an original name that no port has, as a row of its own
abbrev pub named_row : List PortView → Option ℕ → Name → Option NetRow
named_row ports index (Original number) = if has_port_name ports number then None else Some (record { name = number; range = option_map one_index index })
named_row ports index (Added number) = None

-- own: the row of a net, if it is an original wire
abbrev pub row_of : List PortView → NetView → Option NetRow
row_of ports view = named_row ports view.index view.name

-- vectors: from the first range's left to the last one's right
abbrev pub joined_range : Option Range → Option Range → Option Range
joined_range None last = None
joined_range (Some first) None = None
joined_range (Some first) (Some last) = Some (record { left = first.left; right = last.right })

-- own: a row before others: one with the next, if that has the same name
abbrev pub before : NetRow → List NetRow → List NetRow
before row [] = row ∷ []
before row (next ∷ rows) = if row.name == next.name then record { name = row.name; range = joined_range row.range next.range } ∷ rows else row ∷ next ∷ rows

-- own: a row before others, if there is one
abbrev pub with_row : Option NetRow → List NetRow → List NetRow
with_row None rows = rows
with_row (Some row) rows = before row rows

-- own: the rows of nets under original names that no port has
abbrev pub rows : List PortView → List NetView → List NetRow
rows ports [] = []
rows ports (view ∷ nets) = with_row (row_of ports view) (rows ports nets)
