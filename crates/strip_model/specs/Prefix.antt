-- The prefix of what was added: the last item is the added cell with its own number.
-- own: the names of added cells
use Rattle.std.specs.Prelude.{ℕ, ◌-◌, List, ◌∷◌, ◌++◌, length, take, Option, Some, None, option_and_then, slice_get, if◌then◌else◌}
use Rattle.std.specs.Fmt.{decimal}
use Rattle.std.specs.Str.{bytes_eq}
use Rattle.verilog_tree.specs.declared.tree.Item.{Item}
use Rattle.strip_model.specs.Core.{name_of}

-- what stands before these bytes, if a name ends with them
abbrev pub before_end : List ℕ → List ℕ → Option (List ℕ)
before_end end name =
    if bytes_eq (take (length name - length end) name ++ end) name then Some (take (length name - length end) name) else None

abbrev pub last_item : List Item → Option Item
last_item items = slice_get items (length items - 1)

abbrev pub last_name : List Item → Option (List ℕ)
last_name items = option_and_then name_of (last_item items)

-- what the last name has before `c` and the number of its item
abbrev pub prefix_of : List Item → Option (List ℕ)
prefix_of items = option_and_then (before_end (99 ∷ decimal (length items - 1))) (last_name items)
